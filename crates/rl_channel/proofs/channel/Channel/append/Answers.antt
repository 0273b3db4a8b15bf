use Rattle.std.proofs.Common.{ℕ, sym, subst}
use Rattle.rl_events.specs.declared.channel.Outcome.{Outcome}
use Rattle.rl_model.specs.Parts.{with_entry, with_outcome}
use Rattle.rl_chanlog.specs.Keeps.{IsReady, Keeps}
use Rattle.rl_channel.specs.State.{ChannelState}
use Rattle.rl_channel.proofs.Puts.{ok_holds}
use Rattle.rl_channel.proofs.channel.Channel.append.Goals as goal

pub returns-clause-log : goal.returns-clause-log
returns-clause-log c = λ parts keeps.
    let old = subst (λ (s : ChannelState). Keeps s.log parts) (sym c.self.view_is) keeps in
    let ready = c.add.ensures.ready c.args.entry.conn (subst (λ (s : ChannelState). IsReady c.args.entry.conn s.log) (sym c.self.view_is) c.requires.ready) in
    let at = subst (λ (m : ℕ × Outcome × ℕ). IsReady m.0 c.add.new.self) (sym c.marks_of-conn.ensures) ready in
    let consumed = ok_holds c.consume-kept.result (c.consume-kept.ensures.ready at) c.consume-kept.ensures.ok (with_entry c.args.entry c.args.id parts) (c.add.ensures.added parts old) in
    subst (λ (m : ℕ × Outcome × ℕ). Keeps c.consume-kept.new.self (with_outcome m.0 c.args.serial m.1 (with_entry c.args.entry c.args.id parts))) c.marks_of-conn.ensures consumed
