-- Sessions in rising order of name: what is written at a name that is there.
use Rattle.std.proofs.Common.{◌≡◌, ℕ, Bool, cond, List, [], ◌∷◌, Option, Some, None, refl, sym, ap, ◌∙◌, is_eq, Ordering}
use Rattle.std.specs.Prelude.{Result, Ok, Err, OnOk, OnErr, IfOk}
use Rattle.std.proofs.lemmas.Map.Steps.{set_value_same}
use Rattle.std.specs.declared.cmp.Ordering.TheVariants.{Less, Equal, Greater}
use Rattle.std.specs.Ordering.{nat_cmp, match_ordering}
use Rattle.std.specs.Cmp.Lexicographic.{slice_cmp, nat_list_cmp_total}
use Rattle.std.specs.List.{AllByRecursion}
use Rattle.std.specs.List.Sorted.{IsStrictlySortedBy}
use Rattle.std.specs.Map.{keys_of, set_value}
use Rattle.std.specs.BTreeMap.{is_at}
use Rattle.rl_types.specs.declared.messages.Entry.{Entry}
use Rattle.rl_events.specs.declared.channel.ChannelReply.{ChannelReply}
use Rattle.rl_names.specs.Names.{at, with_entry}
use Rattle.rl_actormodel.specs.declared.parts.Session.{Session}
use Rattle.rl_actormodel.specs.Pagings.{paged}
use Rattle.rl_actormodel.proofs.Named.{R, Rising}
use Rattle.rl_pages.specs.State.{page_absorbed}
use Rattle.rl_actorparts.specs.declared.sessions.Run.{Run}
use Rattle.rl_actorparts.specs.Runs.{Sessions, moved, moved_by, moved_at, IsRun, IsRunOf, page_into_at}

-- RESULTS

module _ {T E : Type 0} where
  pub ok_so : (r : Result T E) {P Q : Type 0} → (P → Q) → OnOk r P → OnOk r Q
  ok_so (Ok x) f h = f h
  ok_so (Err e) f h = tt

  pub err_so : (r : Result T E) {P Q : Type 0} → (P → Q) → OnErr r P → OnErr r Q
  err_so (Ok x) f h = tt
  err_so (Err e) f h = f h

  pub either : (r : Result T E) {P : Type 0} → OnOk r P → OnErr r P → P
  either (Ok x) a b = a
  either (Err e) a b = b

  pub if_ok_so : (r : Result T E) {P Q : T → Type 0} → ((x : T) → P x → Q x) → IfOk r P → IfOk r Q
  if_ok_so (Ok x) f h = f x h
  if_ok_so (Err e) f h = tt

-- ORDER

by_name : (P : List ℕ → Type 0) (es : Sessions) → AllByRecursion P (keys_of es) → AllByRecursion (λ (o : List ℕ × Session). P o.0) es
by_name P [] h = tt
by_name P (e ∷ more) h = (h.0, by_name P more h.1)

pub rising : (es : Sessions) → IsStrictlySortedBy (slice_cmp nat_cmp) (keys_of es) → Rising es
unfolding IsStrictlySortedBy
rising [] h = tt
rising (e ∷ more) h = (by_name (λ (name : List ℕ). R e.0 name ≡ Less) more h.0, rising more h.1)

above : (k y : List ℕ) (es : Sessions) → R k y ≡ Less → AllByRecursion (λ (o : List ℕ × Session). R y o.0 ≡ Less) es → AllByRecursion (λ (o : List ℕ × Session). R k o.0 ≡ Less) es
above k y [] r h = tt
above k y (e ∷ more) r h = (nat_list_cmp_total.trans k y e.0 r h.0, above k y more r h.1)

at_above : (k : List ℕ) (es : Sessions) → AllByRecursion (λ (o : List ℕ × Session). R k o.0 ≡ Less) es → at k es ≡ None
at_above k [] h = refl
at_above k (e ∷ more) h = ap (λ (r : Ordering). cond (is_eq r) (Some e.1) (at k more)) h.0 ∙ at_above k more h.1

-- WHAT IS WRITTEN

-- a session that is written at its name is put in its place
pub set_is_with : (name : List ℕ) (old new : Session) (es : Sessions) → Rising es → at name es ≡ Some old → set_value (is_at (slice_cmp nat_cmp name)) es new ≡ with_entry name new es
set_is_with name old new [] h found = cc
set_is_with name old new (e ∷ more) h found = by_order (R name e.0) refl found (set_is_with name old new more h.1)
  where
    by_order : (r : Ordering) → R name e.0 ≡ r → cond (is_eq r) (Some e.1) (at name more) ≡ Some old → (at name more ≡ Some old → set_value (is_at (slice_cmp nat_cmp name)) more new ≡ with_entry name new more)
        → cond (is_eq r) ((e.0, new) ∷ more) (e ∷ set_value (is_at (slice_cmp nat_cmp name)) more new) ≡ match_ordering r ((name, new) ∷ e ∷ more) ((e.0, new) ∷ more) (e ∷ with_entry name new more)
    by_order Less is found rest = let none : at name more ≡ None = at_above name more (above name e.0 more is h.0) in cc
    by_order Equal is found rest = refl
    by_order Greater is found rest = ap (λ (es : Sessions). e ∷ es) (rest found)

-- what was there, put in its place, changes nothing
pub put_back : (name : List ℕ) (one : Session) (es : Sessions) → Rising es → at name es ≡ Some one → with_entry name one es ≡ es
put_back name one [] h found = cc
put_back name one (e ∷ more) h found = by_order (R name e.0) refl found (put_back name one more h.1)
  where
    by_order : (r : Ordering) → R name e.0 ≡ r → cond (is_eq r) (Some e.1) (at name more) ≡ Some one → (at name more ≡ Some one → with_entry name one more ≡ more)
        → match_ordering r ((name, one) ∷ e ∷ more) ((e.0, one) ∷ more) (e ∷ with_entry name one more) ≡ e ∷ more
    by_order Less is found rest = let none : at name more ≡ None = at_above name more (above name e.0 more is h.0) in cc
    by_order Equal is found rest = let same : e.1 ≡ one = cc in ap (λ (x : Session). (e.0, x) ∷ more) (sym same)
    by_order Greater is found rest = ap (λ (es : Sessions). e ∷ es) (rest found)

-- AS CALLS USE IT

-- a run of the session that was found is a run of the sessions
pub as_run : (entries : List Entry) (e : List ℕ × Session) (es : Sessions) (run : Option Run) → Rising es → at e.0 es ≡ Some e.1 → IsRunOf e.0 e.1 entries run → IsRun entries (Some e) es run
as_run entries e es None rises found is = record {
  frames_are = sym is.0;
  sessions_are = sym (ap (λ (x : Session). with_entry e.0 x es) is.1 ∙ put_back e.0 e.1 es rises found);
}
as_run entries e es (Some run) rises found is = record {
  frames_are = is.0;
  sessions_are =
      ap (λ (name : List ℕ). moved_at name run.position run.ends es) is.1
      ∙ ap (λ (one : Option Session). moved_by run.position run.ends e.0 one es) found
      ∙ ap (λ (x : Session). with_entry e.0 x es) is.2;
}

-- a session that was moved on in its place
pub moves : (name : List ℕ) (position : ℕ) (ends : Bool) (old new : Session) (es all : Sessions) → Rising es → at name es ≡ Some old → new ≡ moved position ends old → all ≡ set_value (is_at (slice_cmp nat_cmp name)) es new → all ≡ moved_at name position ends es
moves name position ends old new es all rises found is set =
    set ∙ set_is_with name old new es rises found
    ∙ ap (λ (x : Session). with_entry name x es) is
    ∙ sym (ap (λ (one : Option Session). moved_by position ends name one es) found)

-- one that is as it was
pub stays : (name : List ℕ) (old new : Session) (es all : Sessions) → at name es ≡ Some old → new ≡ old → all ≡ set_value (is_at (slice_cmp nat_cmp name)) es new → all ≡ es
stays name old new es all found is set =
    set ∙ ap (λ (x : Session). set_value (is_at (slice_cmp nat_cmp name)) es x) is ∙ set_value_same (is_at (slice_cmp nat_cmp name)) es old found

pub moves_none : (name : List ℕ) (position : ℕ) (ends : Bool) (es : Sessions) → at name es ≡ None → es ≡ moved_at name position ends es
moves_none name position ends es none = sym (ap (λ (one : Option Session). moved_by position ends name one es) none)

-- a page that was absorbed in its place
pub pages : (reply : ChannelReply) (name : List ℕ) (old new : Session) (es all : Sessions) → Rising es → at name es ≡ Some old → new ≡ paged (page_absorbed reply old.pages) old → all ≡ set_value (is_at (slice_cmp nat_cmp name)) es new → all ≡ page_into_at reply name (at name es) es
pages reply name old new es all rises found is set =
    set ∙ set_is_with name old new es rises found
    ∙ ap (λ (x : Session). with_entry name x es) is
    ∙ sym (ap (λ (one : Option Session). page_into_at reply name one es) found)
