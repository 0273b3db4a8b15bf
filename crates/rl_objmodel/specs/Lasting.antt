-- How the objects of a log last: each is made once, changed while it is there, and deleted once; and operations come with
-- rising serials and no earlier than their ids tell. What passes the rules then may follow.
use Rattle.std.specs.Prelude.{⊤, ◌≡◌, ℕ, suc, ◌+◌, ◌≤◌, true, ◌||◌, List, [], ◌∷◌, None}
use Rattle.std.specs.List.{AllByRecursion}
use Rattle.rl_numbers.specs.declared.limits.TheConstants.{MAX_ID_SKEW}
use Rattle.rl_ids.specs.declared.objects.ObjectId.{ObjectId}
use Rattle.rl_ids.specs.declared.objects.ObjectId.TheVariants.{Root, Made}
use Rattle.rl_ids.specs.declared.serials.OpSerial.{OpSerial}
use Rattle.rl_ids.specs.Objects.{is_below, IsIdInRange}
use Rattle.rl_types.specs.declared.objects.ObjectOp.{ObjectOp}
use Rattle.rl_objmodel.specs.Operations.{Stamped, id_of, own, creates, deletes}
use Rattle.rl_objmodel.specs.Objects.{serials, all_kept}
use Rattle.rl_objmodel.specs.Rules.{Setting, serial_at, entering, ops_rule}
use Rattle.rl_objmodel.specs.Steps.{numbered, pool_after}
use Rattle.rl_objmodel.specs.Following.{Lives, MayFollow, IsOpInRange}

-- each operation makes its object, or finds it there
abbrev pub AreLives : List Stamped → Type 0
AreLives [] = ⊤
AreLives (one ∷ before) = Lives one.op.op (own (id_of one) before) × AreLives before

-- an id's moment is not far past this one
abbrev pub IsNear : ℕ → ObjectId → Type 0
IsNear stamp Root = ⊤
IsNear stamp (Made kind hash millis) = millis ≤ stamp + MAX_ID_SKEW

-- an operation is not past the clock, and is not far before the moment of the id that it makes or deletes
pub record IsInTime (now : ℕ) (one : Stamped) : Type 0 where
  pub past : one.stamp ≤ now
  pub near : (creates one || deletes one) ≡ true → IsNear one.stamp (id_of one)

-- these operations left objects that lasted, up to this moment and below this serial
pub record Lasts (now : ℕ) (serial : OpSerial) (latest : List Stamped) : Type 0 where
  pub lives : AreLives latest
  pub times : AllByRecursion (IsInTime now) latest
  pub below : AllByRecursion (λ (earlier : OpSerial). is_below earlier serial ≡ true) (serials latest)

-- the operations of an entry before those of the log, the latest first
abbrev pub entered : Setting → ℕ → ℕ → List Stamped → List ObjectOp → List Stamped
entered setting place index latest [] = latest
entered setting place index latest (op ∷ ops) = entered setting place (suc index) (entering setting place index op ∷ latest) ops

-- the operations of an entry, each with its serial
abbrev pub numbered_all : Setting → ℕ → ℕ → List ObjectOp → List ObjectOp
numbered_all setting place index [] = []
numbered_all setting place index (op ∷ ops) = numbered setting place index op ∷ numbered_all setting place (suc index) ops

-- where the objects of a log lasted, the operations of its next entry may follow
abbrev pub EntriesFollow : Type 0
EntriesFollow = (setting : Setting) (place index : ℕ) (latest : List Stamped) (ops : List ObjectOp) → setting.ticked ≤ setting.now
    → Lasts setting.now (serial_at setting.site place index) latest → MayFollow setting place index latest ops

-- and where they pass the rules, the objects last with them
abbrev pub EntriesLast : Type 0
EntriesLast = (setting : Setting) (place index : ℕ) (latest : List Stamped) (ops : List ObjectOp) → setting.ticked ≤ setting.now
    → Lasts setting.now (serial_at setting.site place index) latest → ops_rule setting place index latest ops ≡ None
    → Lasts setting.now (serial_at setting.site (suc place) 0) (entered setting place index latest ops)

-- they last while the clock goes on
abbrev pub LastingLonger : Type 0
LastingLonger = (now later : ℕ) (serial : OpSerial) (latest : List Stamped) → now ≤ later → Lasts now serial latest → Lasts later serial latest

-- what is kept of a log with one more entry, whose operations may follow and pass the rules, is what these make of what
-- was kept
abbrev pub EntriesKept : Type 0
EntriesKept = (setting : Setting) (place index : ℕ) (latest : List Stamped) (ops : List ObjectOp) → MayFollow setting place index latest ops
    → AllByRecursion (λ (one : Stamped). IsIdInRange (id_of one)) latest → AllByRecursion IsOpInRange ops → ops_rule setting place index latest ops ≡ None
    → all_kept setting.ticked (entered setting place index latest ops) ≡ pool_after setting.now (numbered_all setting place index ops) (all_kept setting.ticked latest)
