use Rattle.std.proofs.Common.{sym, ◌∙◌}
use Rattle.rl_actorparts.proofs.By_number.{none_named, none_there, none_of_it, found_one}
use Rattle.rl_actorparts.proofs.sessions.numbered_in.Goals as goal

pub returns-in_default : goal.returns-in_default
returns-in_default c = none_named c.args.number c.args.by_name.now.entries c.args.names.now.entries c.requires (sym c.in_default.ensures.value)

pub returns-in_default-get : goal.returns-in_default-get
returns-in_default-get c =
    none_there c.args.number c.args.by_name.now.entries c.args.names.now.entries c.in-Some.name.now c.requires (sym c.in-Some.ensures.value) (sym c.in_default-get.ensures.value)

pub returns-then-plain-number : goal.returns-then-plain-number
returns-then-plain-number c =
    found_one c.args.number c.args.by_name.now.entries c.args.names.now.entries c.in-Some.name.now c.in-Some-get.session.now c.requires
    (sym c.in-Some.ensures.value) (sym c.in-Some-get.ensures.value) (sym c.plain.ensures ∙ c.if-plain-number.true)

pub returns-else-plain-number : goal.returns-else-plain-number
returns-else-plain-number c =
    none_of_it c.args.number c.args.by_name.now.entries c.args.names.now.entries c.in-Some.name.now c.in-Some-get.session.now c.requires
    (sym c.in-Some.ensures.value) (sym c.in-Some-get.ensures.value) (λ is. c.if-plain-number.false (c.plain.ensures ∙ is))
