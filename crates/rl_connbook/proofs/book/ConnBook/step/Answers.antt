use Rattle.rl_connbook.proofs.book.ConnBook.step.Goals as goal

pub returns-in-Open-clause-reply : goal.returns-in-Open-clause-reply
returns-in-Open-clause-reply c = rw c.in-Open.is (c.open.ensures.reply c.in-Open.now)

pub returns-in-Open-clause-new : goal.returns-in-Open-clause-new
returns-in-Open-clause-new c = rw c.in-Open.is (c.open.ensures.new c.in-Open.now)

pub returns-in-Resume-clause-reply : goal.returns-in-Resume-clause-reply
returns-in-Resume-clause-reply c = rw c.in-Resume.is (c.resume.ensures.reply c.in-Resume.now)
