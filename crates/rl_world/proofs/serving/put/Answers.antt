use Rattle.std.proofs.Common.{◌∷◌, ℕ, List, ap, sym, subst, ◌∙◌}
use Rattle.rl_events.specs.declared.channel.ChannelEvent.TheVariants.{Put}
use Rattle.rl_model.specs.Parts.{parts_of}
use Rattle.rl_model.specs.Records.{the_site}
use Rattle.rl_chanlog.specs.Keeps.{Keeps}
use Rattle.rl_channel.specs.declared.channel.ChannelSetup.{ChannelSetup}
use Rattle.rl_channel.specs.State.{StandsAt}
use Rattle.rl_channel.specs.Steps.{verdict_of}
use Rattle.rl_world.proofs.Added.{put_follows}
use Rattle.rl_world.proofs.serving.put.Goals as goal

pub returns-clause-decided : goal.returns-clause-decided
returns-clause-decided c = λ past site stands is.
    let put = c.in_ok-answer.ensures.decided past (subst (λ (t : List ℕ). StandsAt t c.args.machine.now past) (sym site) stands) in
    put.0 ∙ ap (λ (t : List ℕ). verdict_of t past c.args.conn c.args.serial c.args.body 0) site

pub returns-clause-stands : goal.returns-clause-stands
returns-clause-stands c = λ past site stands is.
    let put = c.in_ok-answer.ensures.decided past (subst (λ (t : List ℕ). StandsAt t c.args.machine.now past) (sym site) stands) in
    let at = ap (λ (s : ChannelSetup). s.site) c.put.ensures.setup ∙ site in (
      subst (λ (t : List ℕ). StandsAt t c.put.new.self (Put c.args.conn c.args.serial c.args.body 0 ∷ past)) at put.1,
      put_follows past c.args.conn c.args.serial c.args.body 0 c.args.entries.now c.follow.new.entries c.ranges.serial.fits is
          (c.in_ok-follow.ensures (parts_of the_site (Put c.args.conn c.args.serial c.args.body 0 ∷ past))
          (subst (λ (t : List ℕ). Keeps c.log.result.now (parts_of t (Put c.args.conn c.args.serial c.args.body 0 ∷ past))) at (c.log.ensures (Put c.args.conn c.args.serial c.args.body 0 ∷ past) put.1))),
    )
