use Rattle.rlscript.proofs.top.refuse_words.Goals as goal

pub returns : goal.returns
returns g c = rw c.as_bytes.ensures.value at c.say.ensures
