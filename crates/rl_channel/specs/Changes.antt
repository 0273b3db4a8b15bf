-- What a put makes of the members and the objects.
use Rattle.std.specs.List.{AllByRecursion}
use Rattle.std.specs.Prelude.{⊤, ◌≡◌, ℕ, true, false, List, ◌++◌, reverse, Option, Some, None}
use Rattle.rl_types.specs.declared.presence.PresenceItem.{PresenceItem}
use Rattle.rl_types.specs.declared.messages.Body.{Body}
use Rattle.rl_types.specs.declared.messages.Body.TheVariants.{Messages, Presence, Objects}
use Rattle.rl_numbers.specs.declared.codes.TheConstants.{MEMBER_LIMIT}
use Rattle.rl_objmodel.specs.Held.{Held}
use Rattle.rl_objmodel.specs.Steps.{pool_after}
use Rattle.rl_objmodel.specs.Following.{IsOpInRange}
use Rattle.rl_pool.specs.Admitting.{admitted_rule, IsAdmittedOr}
use Rattle.rl_model.specs.Members.{members_of, has_too_many}

-- what a put of this body, as its entry has it, makes of the members that items leave, where no code is given; or the
-- code of the rule that refuses it. What came before is given the latest first. Operations leave the members as they are
abbrev pub IsAfterPut : List PresenceItem → Body → Option ℕ → List PresenceItem → Type 0
IsAfterPut latest (Messages items) None after = after ≡ members_of latest
IsAfterPut latest (Presence items) None after = (after ≡ members_of (reverse items ++ latest)) × (has_too_many latest items ≡ false)
IsAfterPut latest (Presence items) (Some code) after = (code ≡ MEMBER_LIMIT) × (has_too_many latest items ≡ true)
IsAfterPut latest (Objects ops) code after = after ≡ members_of latest
IsAfterPut latest _ _ after = ⊥

-- where the members were those that items leave, they are now what a put of this body makes of them, or a rule refuses it
abbrev pub Changes : Body → Option ℕ → List PresenceItem → List PresenceItem → Type 0
Changes body code old new = (latest : List PresenceItem) → old ≡ members_of latest → IsAfterPut latest body code new

-- what a put of this body, as its entry of this moment has it, makes of the objects, where no code is given; or the code
-- of the first rule that its operations break, and the objects as before. Other bodies leave them as they are
abbrev pub Operates : ℕ → Body → Option ℕ → List Held → List Held → Type 0
Operates stamp (Objects ops) code old new = (code ≡ admitted_rule stamp ops old) × IsAdmittedOr code new old (pool_after stamp ops old)
Operates stamp _ code old new = new ≡ old

-- the moments of the ids that a body's operations name fit their type
abbrev pub BodyFits : Body → Type 0
BodyFits (Objects ops) = AllByRecursion IsOpInRange ops
BodyFits _ = ⊤
