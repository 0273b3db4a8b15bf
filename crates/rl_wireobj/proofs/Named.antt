-- Reading operations and objects fails with the name of a field.
use Rattle.std.proofs.Common.{◌≡◌, ℕ, Bool, true, false, List, Option, Some, None, Err}
use Rattle.rl_types.specs.declared.frames.WireFault.TheVariants.{NoMemory}
use Rattle.std.specs.Prelude.{unwrap_or}
use Rattle.serde_json.specs.Data.{Data, no_members}
use Rattle.rl_ids.specs.declared.objects.ObjectId.{ObjectId}
use Rattle.rl_jsonfields.specs.declared.names.Field.TheVariants as fields
use Rattle.rl_jsonfields.specs.Fields.{Reads, whole_in, signed, text, an_object, some_members, field}
use Rattle.rl_jsonfields.proofs.Named.{Named, then_named, shaped_named, required_named as req, optional_named as opt, flag_named, each_member_named, not_memory}
use Rattle.rl_wireobj.specs.declared.actions.Action.{Action}
use Rattle.rl_wireobj.specs.declared.actions.Action.TheVariants as actions
use Rattle.rl_wireobj.specs.Values.{an_id, a_serial, a_value}
use Rattle.rl_wireobj.specs.Operations.{an_action, semantics, entries_in, entry_at, map_create, map_set, map_remove, counter_create, counter_inc, by_action, operation, op_at}
use Rattle.rl_wireobj.specs.States.{site_with, site_at, sites, none_at, held, cell_at, counter_of, map_of, body_from, body, state_in, state_at}

entries_named : {A : Type 0} (one : List ℕ → Data → Reads A) (d : Data) → ((k : List ℕ) (v : Data) → Named (one k v)) → Named (entries_in one d)
unfolding entries_in semantics
entries_named one d h =
    then_named _ _ (opt (whole_in 0 0) fields.Semantics d) (λ z. then_named _ _ (opt some_members fields.Entries d) (λ ms. each_member_named one (unwrap_or ms no_members) h))

entry_named : (k : List ℕ) (d : Data) → Named (entry_at k d)
unfolding entry_at
entry_named k d = then_named _ _ (shaped_named fields.Entries (an_object d)) (λ o. then_named _ _ (req a_value fields.Data o) (λ v. tt))

action_named : (a : Action) (id : ObjectId) (d : Data) → Named (by_action a id d)
unfolding map_create map_set map_remove counter_create counter_inc
action_named actions.MapCreate id d = then_named _ _ (req an_object fields.Map d) (λ o. then_named _ _ (entries_named entry_at o entry_named) (λ es. tt))
action_named actions.MapSet id d =
    then_named _ _ (req an_object fields.MapOp d) (λ o. then_named _ _ (req text fields.Key o) (λ k. then_named _ _ (req a_value fields.Data o) (λ v. tt)))
action_named actions.MapRemove id d = then_named _ _ (req an_object fields.MapOp d) (λ o. then_named _ _ (req text fields.Key o) (λ k. tt))
action_named actions.CounterCreate id d = then_named _ _ (req an_object fields.Counter d) (λ o. then_named _ _ (opt signed fields.Count o) (λ n. tt))
action_named actions.CounterInc id d = then_named _ _ (req an_object fields.CounterOp d) (λ o. then_named _ _ (req signed fields.Amount o) (λ n. tt))
action_named actions.Delete id d = tt

operation_named : (d : Data) → Named (operation d)
unfolding operation
operation_named d = then_named _ _ (req an_action fields.Action d) (λ a. then_named _ _ (req an_id fields.ObjectId d) (λ id. action_named a id d))

pub op_named : (d : Data) → Named (op_at d)
unfolding op_at
op_named d =
    then_named _ _ (shaped_named fields.State (an_object d)) (λ item. then_named _ _ (req an_object fields.Operation item) (λ o. then_named _ _ (operation_named o) (λ op. then_named _ _ (opt a_serial fields.Serial item) (λ s. tt))))

site_named : (k : List ℕ) (d : Data) → Named (site_at k d)
unfolding site_at
site_named k d = shaped_named fields.SiteTimeserials (site_with k (a_serial d))

sites_named : (d : Data) → Named (sites d)
unfolding sites
sites_named d = then_named _ _ (req some_members fields.SiteTimeserials d) (λ ms. each_member_named site_at ms site_named)

none_named : (o : Option Data) → Named (none_at o)
none_named None = tt
none_named (Some d) = tt

held_named : (b : Bool) (d : Data) → Named (held b d)
held_named true d = none_named (field fields.Data d)
held_named false d = then_named _ _ (req a_value fields.Data d) (λ v. tt)

cell_named : (k : List ℕ) (d : Data) → Named (cell_at k d)
unfolding cell_at
cell_named k d =
    then_named _ _ (shaped_named fields.Entries (an_object d)) (λ o. then_named _ _ (flag_named fields.Tombstone o) (λ b. then_named _ _ (held_named b o) (λ v. then_named _ _ (req a_serial fields.Timeserial o) (λ s. tt))))

counter_named : (d : Data) → Named (counter_of d)
unfolding counter_of
counter_named d = then_named _ _ (req signed fields.Count d) (λ n. tt)

map_named : (o : Option Data) → Named (map_of o)
map_named None = tt
map_named (Some d) = then_named _ _ (entries_named cell_at d cell_named) (λ es. tt)

from_named : (o : Option Data) (d : Data) → Named (body_from o d)
from_named (Some c) d = counter_named c
from_named None d = then_named _ _ (opt an_object fields.Map d) map_named

body_named : (d : Data) → Named (body d)
unfolding body
body_named d = then_named _ _ (opt an_object fields.Counter d) (λ c. from_named c d)

inside_named : (d : Data) → Named (state_in d)
unfolding state_in
inside_named d =
    then_named _ _ (req an_id fields.ObjectId d) (λ id. then_named _ _ (sites_named d) (λ ss. then_named _ _ (flag_named fields.Tombstone d) (λ t. then_named _ _ (flag_named fields.Created d) (λ c. then_named _ _ (body_named d) (λ b. tt)))))

pub state_named : (d : Data) → Named (state_at d)
unfolding state_at
state_named d = then_named _ _ (shaped_named fields.State (an_object d)) (λ item. then_named _ _ (req an_object fields.Object item) inside_named)

pub no_memory_of_op : (d : Data) → op_at d ≡ Err NoMemory → ⊥
no_memory_of_op d e = not_memory (op_at d) (op_named d) e

pub no_memory_of_state : (d : Data) → state_at d ≡ Err NoMemory → ⊥
no_memory_of_state d e = not_memory (state_at d) (state_named d) e
