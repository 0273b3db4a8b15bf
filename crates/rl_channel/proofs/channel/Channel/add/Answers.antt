use Rattle.std.proofs.Common.{List, sym, subst, ◌∙◌}
use Rattle.std.specs.Prelude.{Some, None}
use Rattle.rl_events.specs.declared.channel.Outcome.TheVariants.{Taken}
use Rattle.rl_events.specs.declared.channel.Verdict.TheVariants.{Done}
use Rattle.rl_types.specs.declared.presence.PresenceItem.{PresenceItem}
use Rattle.rl_objmodel.specs.Held.{Held}
use Rattle.rl_channel.specs.Changes.{Changes, Operates}
use Rattle.rl_channel.proofs.Puts.{adds_entry, changes_as, log_kept, operates_as, put_at, refused, same_refused, stays, stays_after}
use Rattle.rl_channel.proofs.channel.Channel.add.Goals as goal

pub returns-in_err-prepare-clause-err : goal.returns-in_err-prepare-clause-err
returns-in_err-prepare-clause-err c =
    stays c.from_residual-in_err-prepare.result c.args.self.now c.prepare.new.self c.prepare.ensures.log c.prepare.ensures.members c.prepare.ensures.objects c.prepare.ensures.clock c.prepare.ensures.setup

pub returns-in_err-code-clause-err : goal.returns-in_err-code-clause-err
returns-in_err-code-clause-err c =
    stays c.from_residual-in_err-code.result c.args.self.now c.change.new.self
    (log_kept c.args.self.now c.prepare.new.self c.change.new.self c.prepare.ensures.log c.change.ensures.log)
    (c.in_err-code.ensures.err ∙ c.prepare.ensures.members)
    (c.in_err-code.ensures.err_objects ∙ c.prepare.ensures.objects)
    (c.change.ensures.clock ∙ c.prepare.ensures.clock)
    (c.change.ensures.setup ∙ c.prepare.ensures.setup)

pub returns-in-Some-clause-decided : goal.returns-in-Some-clause-decided
returns-in-Some-clause-decided c =
    refused c.refuse.result c.args.self.now c.change.new.self c.refuse.new.self c.args.conn c.args.serial c.in-Some.code c.args.body c.args.now c.in_ok-entry.entry c.change.new.self.members c.change.new.self.objects
    c.in_ok-entry.ensures.value
    (changes_as c.in_ok-entry.entry.body c.in_ok-code.field-0 (Some c.in-Some.code) c.args.self.now.members c.prepare.new.self.members c.change.new.self.members c.in_ok-code.ensures.after c.in-Some.is c.prepare.ensures.members)
    c.body_fits.ensures
    (operates_as c.in_ok-entry.entry.stamp c.in_ok-entry.entry.body c.in_ok-code.field-0 (Some c.in-Some.code) c.args.self.now.objects c.prepare.new.self.objects c.change.new.self.objects c.in_ok-code.ensures.objects c.in-Some.is c.prepare.ensures.objects)
    (log_kept c.args.self.now c.prepare.new.self c.change.new.self c.prepare.ensures.log c.change.ensures.log)
    (same_refused c.in_ok-code.field-0 c.in-Some.code c.prepare.new.self.members c.change.new.self.members c.in_ok-code.ensures.refused c.in-Some.is ∙ c.prepare.ensures.members)
    (same_refused c.in_ok-code.field-0 c.in-Some.code c.prepare.new.self.objects c.change.new.self.objects c.in_ok-code.ensures.refused_objects c.in-Some.is ∙ c.prepare.ensures.objects)
    (c.change.ensures.clock ∙ c.prepare.ensures.clock)
    c.refuse.ensures.answer c.refuse.ensures.ok c.refuse.ensures.members c.refuse.ensures.objects c.refuse.ensures.clock
    (c.refuse.ensures.setup ∙ c.change.ensures.setup ∙ c.prepare.ensures.setup)

pub returns-in-Some-clause-err : goal.returns-in-Some-clause-err
returns-in-Some-clause-err c =
    stays_after c.refuse.result c.args.self.now c.change.new.self c.refuse.new.self
    (log_kept c.args.self.now c.prepare.new.self c.change.new.self c.prepare.ensures.log c.change.ensures.log)
    (same_refused c.in_ok-code.field-0 c.in-Some.code c.prepare.new.self.members c.change.new.self.members c.in_ok-code.ensures.refused c.in-Some.is ∙ c.prepare.ensures.members)
    (same_refused c.in_ok-code.field-0 c.in-Some.code c.prepare.new.self.objects c.change.new.self.objects c.in_ok-code.ensures.refused_objects c.in-Some.is ∙ c.prepare.ensures.objects)
    (c.change.ensures.clock ∙ c.prepare.ensures.clock)
    c.refuse.ensures.err c.refuse.ensures.members c.refuse.ensures.objects c.refuse.ensures.same_clock
    (c.refuse.ensures.setup ∙ c.change.ensures.setup ∙ c.prepare.ensures.setup)

pub returns-in-None-clause-decided : goal.returns-in-None-clause-decided
returns-in-None-clause-decided c = λ past stands passes.
    let entry = c.in_ok-entry.entry in
    let kept = log_kept c.args.self.now c.prepare.new.self c.change.new.self c.prepare.ensures.log c.change.ensures.log in
    let changes = changes_as entry.body c.in_ok-code.field-0 None c.args.self.now.members c.prepare.new.self.members c.change.new.self.members c.in_ok-code.ensures.after c.in-None.is c.prepare.ensures.members in
    let operates = operates_as entry.stamp entry.body c.in_ok-code.field-0 None c.args.self.now.objects c.prepare.new.self.objects c.change.new.self.objects c.in_ok-code.ensures.objects c.in-None.is c.prepare.ensures.objects in
    put_at c.args.self.now c.append.new.self past c.args.conn c.args.serial c.args.body c.args.now (Done (Taken entry.place)) (c.append.ensures.setup ∙ c.change.ensures.setup ∙ c.prepare.ensures.setup)
    (adds_entry past c.args.conn c.args.serial c.args.body c.args.now c.in_ok-id.id entry c.args.self.now c.append.new.self stands passes
    c.in_ok-id.ensures
    c.in_ok-entry.ensures.value
    (subst (λ (m : List PresenceItem). Changes entry.body None c.args.self.now.members m) (sym c.append.ensures.members) changes)
    c.body_fits.ensures
    (subst (λ (held : List Held). Operates entry.stamp entry.body None c.args.self.now.objects held) (sym c.append.ensures.objects) operates)
    (λ parts keeps. c.append.ensures.log parts (kept parts keeps))
    c.append.ensures.clock)
