use Rattle.std.proofs.Common.{sym, ◌∙◌}
use Rattle.std.specs.Option.{option_copied}
use Rattle.rl_clientmodel.specs.Entries.{page_got}
use Rattle.rl_clientchannels.proofs.Ends.{ok_so, err_so}
use Rattle.rl_clientchannels.proofs.Names.{changed_some, written_same}
use Rattle.rl_clientchannels.proofs.channels.ClientChannels.page.Goals as goal

pub returns-clause-ok : goal.returns-clause-ok
returns-clause-ok c =
    rw (← c.self.view_is) (ok_so c.page.result c.page.ensures.ok (λ is. (c.get_mut.follows.holds c.page.new.self).0 ∙ changed_some c.args.name.now (page_got (option_copied c.args.at) c.args.items.now) c.in-Some.channel.now c.page.new.self c.self.inside.channels.entries c.get_mut.ensures.ordered (sym c.in-Some.ensures.value) is))

pub returns-clause-err : goal.returns-clause-err
returns-clause-err c =
    rw (← c.self.view_is) (err_so c.page.result c.page.ensures.err (λ is. (c.get_mut.follows.holds c.page.new.self).0 ∙ written_same c.args.name.now c.in-Some.channel.now c.page.new.self c.self.inside.channels.entries (sym c.in-Some.ensures.value) is))
