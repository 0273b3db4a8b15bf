-- The objects of a channel (RTO5): those that the operations of its log leave, and their pages.
use Rattle.std.specs.Prelude.{ℕ, suc, ◌+◌, Bool, true, if◌then◌else◌, nat_le, List, [], ◌∷◌, ◌++◌, length, take, filter, map, reverse, Option, None, Some}
use Rattle.std.specs.Ordering.{is_lt}
use Rattle.rl_numbers.specs.declared.limits.TheConstants.{PAGE_WEIGHT}
use Rattle.rl_ids.specs.declared.objects.ObjectId.{ObjectId}
use Rattle.rl_ids.specs.Objects.{id_cmp}
use Rattle.rl_types.specs.declared.messages.Body.{Body}
use Rattle.rl_types.specs.declared.messages.Body.TheVariants.{Objects}
use Rattle.rl_types.specs.declared.messages.Entry.{Entry}
use Rattle.rl_types.specs.declared.objects.ObjectOp.{ObjectOp}
use Rattle.rl_types.specs.declared.objects.ObjectState.{ObjectState}
use Rattle.rl_types.specs.Weight.{state_weight}
use Rattle.rl_objmodel.specs.Operations.{Stamped, stamped_at}
use Rattle.rl_objmodel.specs.Held.{Held}
use Rattle.rl_objmodel.specs.Objects.{all_kept}
use Rattle.rl_objmodel.specs.Rules.{Setting, ops_rule}

-- THE OPERATIONS OF A LOG

abbrev pub operations_of : Body → List ObjectOp
operations_of (Objects ops) = ops
operations_of _ = []

-- the operations that an entry adds, each with the entry's moment
abbrev pub added_by_entry : Entry → List Stamped
added_by_entry entry = map (stamped_at entry.stamp) (operations_of entry.body)

-- the operations of these entries, in order
abbrev pub operations : List Entry → List Stamped
operations [] = []
operations (entry ∷ entries) = added_by_entry entry ++ operations entries

-- the same, the latest first
abbrev pub operated : List Entry → List Stamped
operated log = reverse (operations log)

-- the objects that a log leaves, in order of id, where the last Tick was at this moment: what was collected is gone
abbrev pub objects_kept : ℕ → List Entry → List Held
objects_kept ticked log = all_kept ticked (operated log)

-- the code of the first rule that operations break, as those of the next entry of this log
abbrev pub object_rule : Setting → List Entry → Body → Option ℕ
object_rule setting log (Objects ops) = ops_rule setting (suc (length log)) 0 (operated log) ops
object_rule setting log _ = None

-- PAGES

abbrev pub is_past_id : Option ObjectId → ObjectState → Bool
is_past_id None state = true
is_past_id (Some id) state = is_lt (id_cmp id state.id)

abbrev pub states_past : Option ObjectId → List ObjectState → List ObjectState
states_past after states = filter (is_past_id after) states

-- up to the one that brings a page's weight to its limit, where these weigh something before
abbrev pub cut_from : ℕ → List ObjectState → List ObjectState
cut_from before [] = []
cut_from before (state ∷ states) =
    state ∷ (if nat_le PAGE_WEIGHT (before + state_weight state) then [] else cut_from (before + state_weight state) states)

-- the objects of a page
abbrev pub page_states : Option ObjectId → ℕ → List ObjectState → List ObjectState
page_states after most states = cut_from 0 (take most (states_past after states))

-- none remain after these
abbrev pub is_last_states : Option ObjectId → ℕ → List ObjectState → Bool
is_last_states after most states = nat_le (length (states_past after states)) (length (page_states after most states))
