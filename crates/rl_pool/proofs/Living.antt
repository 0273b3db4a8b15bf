-- What is live.
use Rattle.std.proofs.Common.{◌≡◌, ℕ, Bool, false, List, ap, sym, ◌∙◌, get_or}
use Rattle.std.specs.Prelude.{Option}
use Rattle.std.specs.Option.{option_map_or}
use Rattle.rl_ids.specs.declared.objects.ObjectId.{ObjectId}
use Rattle.rl_objmodel.specs.Held.{Held}
use Rattle.rl_objmodel.specs.Steps.{is_live_held, lives_in}
use Rattle.rl_objrules.specs.Ids.{IsAscending, IsIdHeldAt, IsIdMissedAt}
use Rattle.rl_objrules.proofs.Places.{held_there, missed_there}

pub live_there : (id : ObjectId) (pool : List Held) (at : ℕ) (d one : Held) (b : Bool) → IsIdHeldAt id pool at → one ≡ get_or pool at d → b ≡ is_live_held one → b ≡ lives_in pool id
live_there id pool at d one b place is live =
    live ∙ ap is_live_held is ∙ ap (λ (o : Option Held). option_map_or is_live_held o false) (sym (held_there id pool at d place))

pub live_missed : (id : ObjectId) (pool : List Held) (at : ℕ) → IsAscending pool → IsIdMissedAt id pool at → false ≡ lives_in pool id
live_missed id pool at ascending place =
    ap (λ (o : Option Held). option_map_or is_live_held o false) (sym (missed_there id pool at ascending place))
