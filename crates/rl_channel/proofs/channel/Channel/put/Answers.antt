use Rattle.std.proofs.Common.{sym, ◌∙◌, ◌∷◌}
use Rattle.rl_model.specs.History.{setting}
use Rattle.rl_model.specs.Objects.{object_rule}
use Rattle.rl_model.specs.Verdict.{decisions, kept, remembered_of, fails_or, limit_rule, Adds, told, log, head}
use Rattle.rl_events.specs.declared.channel.ChannelEvent.TheVariants.{Put}
use Rattle.rl_channel.proofs.Rules.{early_settles}
use Rattle.rl_channel.proofs.Puts.{put_at, settles_early, stays}
use Rattle.rl_channel.proofs.channel.Channel.put.Goals as goal

pub returns-in_err-settle-in-Some-clause-err : goal.returns-in_err-settle-in-Some-clause-err
returns-in_err-settle-in-Some-clause-err c =
    stays c.from_residual.result c.args.self.now c.settle.new.self c.in_err-settle-in-Some.ensures.err c.settle.ensures.members c.settle.ensures.objects c.in_err-settle-in-Some.ensures.same_clock c.settle.ensures.setup

pub returns-in_ok-settle-in-Some-clause-decided : goal.returns-in_ok-settle-in-Some-clause-decided
returns-in_ok-settle-in-Some-clause-decided c = λ past stands.
    let site = c.args.self.now.setup.site in
    let early = sym (c.judged.ensures.value past stands) ∙ c.in-Some.is in
    let late = fails_or (limit_rule (told (decisions site past)) c.args.conn c.args.body) (fails_or (object_rule (setting site (Put c.args.conn c.args.serial c.args.body c.args.now ∷ past)) (log site past) c.args.body) Adds) in
    let settles = early_settles c.args.serial (kept c.args.conn (decisions site past)) (remembered_of c.args.body (decisions site past)) (head site past) c.args.body c.in-Some.answer early late in
    put_at c.args.self.now c.settle.new.self past c.args.conn c.args.serial c.args.body c.args.now c.in-Some.answer c.settle.ensures.setup
    (settles_early site past c.args.conn c.args.serial c.args.body c.args.now c.in-Some.answer c.args.self.now c.settle.new.self settles stands
    (λ parts keeps. c.in_ok-settle-in-Some.ensures.ok parts keeps) c.settle.ensures.members c.settle.ensures.objects c.in_ok-settle-in-Some.ensures.clock)
