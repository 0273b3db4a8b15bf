-- A connection and serial is listed by the client that gave it.
use Rattle.std.proofs.Common.{◌≡◌, ℕ, List, subst}
use Rattle.std.specs.Prelude.{Some}
use Rattle.rl_runs.specs.declared.findings.Answer.{Answer}
use Rattle.rl_connbook.proofs.Each.{all_some}
use Rattle.rl_clientmodel.specs.States.{ClientState}
use Rattle.rl_worldmodel.specs.World.{World, client_at}
use Rattle.rl_worldtold.specs.Listed.{pair_of}
use Rattle.rl_worldtold.proofs.Runs.{runs_so}
use Rattle.rl_worldtold.proofs.Telling.{in_all}
use Rattle.rl_worldputs.specs.Uses.{IsBy, IsClientUsing, HasUses}
use Rattle.rl_worldputs.specs.Listings.{IsListedBy, ListsApart, NoneIsListedByTwo}
use Rattle.rl_worldputs.proofs.Puts.{IsKept, always_kept}

-- who lists it gave it
given_by : (world : World) (h : HasUses world) (name : List ℕ) (state : ClientState) (id : List ℕ) (serial : ℕ) → client_at name world ≡ Some state → IsListedBy id serial state → IsBy h.uses id serial name
given_by world h name state id serial at listed =
    all_some (λ (a : Answer). IsBy h.uses (pair_of a).0 (pair_of a).1 name) (λ (a : Answer). ((pair_of a).0 ≡ id) × ((pair_of a).1 ≡ serial)) (IsBy h.uses id serial name) state.answers
    (λ a by is. subst (λ n. IsBy h.uses id n name) is.1 (subst (λ (x : List ℕ). IsBy h.uses x (pair_of a).1 name) is.0 by))
    (in_all (IsClientUsing h.uses h.owner world) name world.clients state h.fits.each at).listed listed

lists_apart : (world : World) → HasUses world → ListsApart world
lists_apart world h one two first second id serial at_one at_two a b =
    h.fits.givers id serial one two (given_by world h one first id serial at_one a) (given_by world h two second id serial at_two b)

pub none_is_listed_by_two : NoneIsListedByTwo
none_is_listed_by_two = runs_so IsKept ListsApart (λ world h. lists_apart world h.uses) always_kept
