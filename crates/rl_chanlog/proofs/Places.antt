-- Places of ids.
use Rattle.std.proofs.Common.{◌≡◌, ℕ, zero, suc, ◌+◌, ◌-◌, ◌≤◌, Bool, true, false, cond, List, [], ◌∷◌, take, drop, refl, ap, sym, ◌∙◌, arith}
use Rattle.std.specs.Prelude.{IsOk, OnOk, Option, Some, None, Result, Ok, Err, option_map, find, nat_lt, bytes_eq, string_bytes, String}
use Rattle.std.specs.String.{string_eq}
use Rattle.std.specs.Global.{Global}
use Rattle.std.specs.HashMap.{HashMap, Updates, get, get_by_text}
use Rattle.std.specs.Map.{lookup}
use Rattle.std.proofs.Math.Seq.{take-nil}
use Rattle.std.proofs.lemmas.Map.Entries.{place_from_lookup}
use Rattle.std.proofs.lemmas.Map.Text.{is_text, hash_map_text_same, hash_map_updates_text}
use Rattle.std.proofs.lemmas.Grind.{common_steps}
use Rattle.std.proofs.lemmas.Slice.Eq.{bytes_eq-Decides}
use Rattle.rl_numbers.specs.declared.limits.TheConstants.{MAX_REMEMBERED}
use Rattle.rl_model.specs.Verdict.{Added, has_given}
use Rattle.rl_chanlog.specs.Ids.{IdsView, KeepsIds, CountDown, texts_of, place_in, latest, if_near, or_earlier, remembered_at}

-- THE LATEST OF SO MANY

-- after one more entry
latest_next : (id : List ℕ) (one : Added) (added : List Added) → latest id (one ∷ added) ≡ cond (has_given id one) (Some one.place) (latest id added)
latest_next id one added = by_test (has_given id one)
  where
    by_test : (given : Bool) → option_map (λ (a : Added). a.place) (cond given (Some one) (find (has_given id) added)) ≡ cond given (Some one.place) (latest id added)
    by_test true = refl
    by_test false = refl

or_next : (given : Bool) (place : ℕ) (near earlier : Option ℕ) → or_earlier (cond given (Some place) near) earlier ≡ cond given (Some place) (or_earlier near earlier)
or_next true place near earlier = refl
or_next false place near earlier = refl

-- those of the first and those of the next
latest_split : (id : List ℕ) (n m : ℕ) (added : List Added) → or_earlier (latest id (take n added)) (latest id (take m (drop n added))) ≡ latest id (take (n + m) added)
latest_split id zero m added = ap (λ (k : ℕ). latest id (take k added)) (omega arith)
latest_split id (suc n) m [] = ap (latest id) (take-nil m ∙ sym (take-nil (suc n + m)))
latest_split id (suc n) m (one ∷ added) =
    let more : suc (n + m) ≡ suc n + m = omega arith in
    ap (λ (near : Option ℕ). or_earlier near (latest id (take m (drop n added)))) (latest_next id one (take n added))
    ∙ or_next (has_given id one) one.place (latest id (take n added)) (latest id (take m (drop n added)))
    ∙ ap (cond (has_given id one) (Some one.place)) (latest_split id n m added)
    ∙ sym (latest_next id one (take (n + m) added))
    ∙ ap (λ (k : ℕ). latest id (take k (one ∷ added))) more

-- no place is above the head
taken_below : (k head : ℕ) (id : List ℕ) (place : ℕ) (added : List Added) → CountDown head added → latest id (take k added) ≡ Some place → place ≤ head
taken_below zero head id place added down is = cc
taken_below (suc k) head id place [] down is = cc
taken_below (suc k) head id place (one ∷ added) down is = by_test (has_given id one) (sym (latest_next id one (take k added)) ∙ is) (taken_below k (head - 1) id place added down.2)
  where
    by_test : (given : Bool) → cond given (Some one.place) (latest id (take k added)) ≡ Some place → (latest id (take k added) ≡ Some place → place ≤ head - 1) → place ≤ head
    by_test true same rest = let at : one.place ≡ place = cc in let here = down.0 in omega (arith, at, here)
    by_test false same rest = let less = rest same in omega (arith, less)

near_none : (head : ℕ) (found : Option ℕ) → if_near 0 head found ≡ None
near_none head None = refl
near_none head (Some place) = let not : nat_lt (head - place) 0 ≡ false = grind (arith, common_steps) in ap (λ (b : Bool). cond b (Some place) None) not

near_more : (k head : ℕ) (found : Option ℕ) → ((place : ℕ) → found ≡ Some place → place ≤ head - 1) → 1 ≤ head → if_near (suc k) head found ≡ if_near k (head - 1) found
near_more k head None low some = refl
near_more k head (Some place) low some =
    let less : place ≤ head - 1 = low place refl in
    let same : nat_lt (head - place) (suc k) ≡ nat_lt (head - 1 - place) k = grind (arith, common_steps, less, some) in
    ap (λ (b : Bool). cond b (Some place) None) same

near_here : (k head place : ℕ) → place ≡ head → if_near (suc k) head (Some place) ≡ Some place
near_here k head place is = let small : nat_lt (head - place) (suc k) ≡ true = grind (arith, common_steps, is) in ap (λ (b : Bool). cond b (Some place) None) small

-- the latest of the first k is the latest of the first m, where that one is near
latest_near : (k m head : ℕ) (id : List ℕ) (added : List Added) → k ≤ m → CountDown head added → if_near k head (latest id (take m added)) ≡ latest id (take k added)
latest_near zero m head id added less down = near_none head (latest id (take m added))
latest_near (suc k) zero head id added less down = grind (arith, less)
latest_near (suc k) (suc m) head id [] less down = refl
latest_near (suc k) (suc m) head id (one ∷ added) less down =
    let fewer : k ≤ m = omega (arith, less) in
    ap (if_near (suc k) head) (latest_next id one (take m added))
    ∙ by_test (has_given id one) (latest_near k m (head - 1) id added fewer down.2)
    ∙ sym (latest_next id one (take k added))
  where
    by_test : (given : Bool) → if_near k (head - 1) (latest id (take m added)) ≡ latest id (take k added) → if_near (suc k) head (cond given (Some one.place) (latest id (take m added))) ≡ cond given (Some one.place) (latest id (take k added))
    by_test true rest = near_here k head one.place down.0
    by_test false rest = near_more k head (latest id (take m added)) (λ place is. taken_below m (head - 1) id place added down.2 is) down.1 ∙ rest

-- WHAT IS FOUND

found_near : (most head : ℕ) (view : IdsView) (id : List ℕ) (added : List Added) → place_in id view.recent ≡ latest id (take view.count added) → place_in id view.earlier ≡ latest id (take most (drop view.count added)) → CountDown head added → if_near most head (or_earlier (place_in id view.recent) (place_in id view.earlier)) ≡ latest id (take most added)
found_near most head view id added recent earlier down =
    let enough : most ≤ view.count + most = omega arith in
    ap (λ (near : Option ℕ). if_near most head (or_earlier near (place_in id view.earlier))) recent
    ∙ ap (λ (far : Option ℕ). if_near most head (or_earlier (latest id (take view.count added)) far)) earlier
    ∙ ap (if_near most head) (latest_split id view.count most added)
    ∙ latest_near most (view.count + most) head id added enough down

pub found : (head : ℕ) (view : IdsView) (id : List ℕ) (added : List Added) → KeepsIds view added → CountDown head added → remembered_at head id view ≡ latest id (take MAX_REMEMBERED added)
found head view id added keeps down = found_near MAX_REMEMBERED head view id added (keeps.recent id) (keeps.earlier id) down

-- STEPS

-- with one more entry
added_places : (id : List ℕ) (most count next : ℕ) (one : Added) (added : List Added) → next ≡ count + 1 → latest id (take most (drop next (one ∷ added))) ≡ latest id (take most (drop count added))
added_places id most count next one added is =
    let more : next ≡ suc count = omega (arith, is) in
    ap (λ (k : ℕ). latest id (take most (drop k (one ∷ added)))) more

added_recent : (id : List ℕ) (count next : ℕ) (one : Added) (added : List Added) → next ≡ count + 1 → latest id (take next (one ∷ added)) ≡ cond (has_given id one) (Some one.place) (latest id (take count added))
added_recent id count next one added is =
    let more : next ≡ suc count = omega (arith, is) in
    ap (λ (k : ℕ). latest id (take k (one ∷ added))) more ∙ latest_next id one (take count added)

pub keeps_next : (view new : IdsView) (one : Added) (added : List Added) → new.count ≡ view.count + 1 → new.earlier ≡ view.earlier → ((id : List ℕ) → place_in id new.recent ≡ cond (has_given id one) (Some one.place) (place_in id view.recent)) → KeepsIds view added → KeepsIds new (one ∷ added)
keeps_next view new one added count earlier recent keeps =
    record {
      recent = λ id. recent id ∙ ap (cond (has_given id one) (Some one.place)) (keeps.recent id) ∙ sym (added_recent id view.count new.count one added count);
      earlier = λ id. ap (place_in id) earlier ∙ keeps.earlier id ∙ sym (added_places id MAX_REMEMBERED view.count new.count one added count);
    }

-- where the recent ids become the earlier ones
pub keeps_turned : (view new : IdsView) (added : List Added) → view.count ≡ MAX_REMEMBERED → new.count ≡ 0 → new.recent ≡ [] → new.earlier ≡ view.recent → KeepsIds view added → KeepsIds new added
keeps_turned view new added full count none turned keeps =
    record {
      recent = λ id. ap (place_in id) none ∙ ap (λ (k : ℕ). latest id (take k added)) (sym count);
      earlier = λ id. ap (place_in id) turned ∙ keeps.recent id ∙ ap (λ (k : ℕ). latest id (take k added)) full ∙ ap (λ (k : ℕ). latest id (take MAX_REMEMBERED (drop k added))) (sym count);
    }

-- where look-ups find the same
pub keeps_same : (view new : IdsView) (added : List Added) → new.count ≡ view.count → new.earlier ≡ view.earlier → ((id : List ℕ) → place_in id new.recent ≡ place_in id view.recent) → KeepsIds view added → KeepsIds new added
keeps_same view new added count earlier recent keeps =
    record {
      recent = λ id. recent id ∙ keeps.recent id ∙ ap (λ (k : ℕ). latest id (take k added)) (sym count);
      earlier = λ id. ap (place_in id) earlier ∙ keeps.earlier id ∙ ap (λ (k : ℕ). latest id (take MAX_REMEMBERED (drop k added))) (sym count);
    }

-- TEXTS AS KEYS

pub text_found : {Y : Type 0} (id : List ℕ) (entries : List (String Y × ℕ)) → place_in id (texts_of entries) ≡ lookup (is_text id) entries
text_found id [] = refl
text_found id (entry ∷ entries) = ap (cond (bytes_eq id (string_bytes entry.0)) (Some entry.1)) (text_found id entries)

module _ {S : Type 0} (m n : HashMap (String Global) ℕ S) (same : (key : String Global) → get string_eq n key ≡ get string_eq m key) where
  -- a text that is a key of one of the maps finds the same in both
  text_at : (id : List ℕ) (key : String Global) → is_text id key ≡ true → get_by_text n id ≡ get_by_text m id
  text_at id key is =
      let at : id ≡ string_bytes key = grind (arith, is, bytes_eq-Decides) in
      sym (hash_map_text_same key id n.entries at).0 ∙ same key ∙ (hash_map_text_same key id m.entries at).0

  -- maps that have the same at every key have the same at every text
  pub reordered_text : (id : List ℕ) → get_by_text n id ≡ get_by_text m id
  reordered_text id = by_found (get_by_text n id) (get_by_text m id) refl refl
    where
      by_found : (after before : Option ℕ) → get_by_text n id ≡ after → get_by_text m id ≡ before → get_by_text n id ≡ get_by_text m id
      by_found (Some place) before here there = let at = place_from_lookup (is_text id) n.entries place here in text_at id at.1 at.3
      by_found None (Some place) here there = let at = place_from_lookup (is_text id) m.entries place there in text_at id at.1 at.3
      by_found None None here there = here ∙ sym there

-- the ids of a map whose entries may have moved
pub reordered_places : {S : Type 0} (m n : HashMap (String Global) ℕ S) → ((key : String Global) → get string_eq n key ≡ get string_eq m key) → (id : List ℕ) → place_in id (texts_of n.entries) ≡ place_in id (texts_of m.entries)
reordered_places m n same id = text_found id n.entries ∙ reordered_text m n same id ∙ sym (text_found id m.entries)

bytes_eq_turned : (a b : List ℕ) → bytes_eq a b ≡ bytes_eq b a
bytes_eq_turned a b = grind (arith, bytes_eq-Decides)

-- the ids of a map after one was put in
pub put_places : {S : Type 0} (m n : HashMap (String Global) ℕ S) (key : String Global) (place : ℕ) → Updates string_eq m n key (Some place) → (id : List ℕ) → place_in id (texts_of n.entries) ≡ cond (bytes_eq id (string_bytes key)) (Some place) (place_in id (texts_of m.entries))
put_places m n key place puts id =
    text_found id n.entries
    ∙ hash_map_updates_text (string_bytes key) m n (Some place) puts id
    ∙ ap (λ (b : Bool). cond b (Some place) (get_by_text m id)) (bytes_eq_turned (string_bytes key) id)
    ∙ ap (cond (bytes_eq id (string_bytes key)) (Some place)) (sym (text_found id m.entries))

on_ok : {A E P : Type 0} (result : Result A E) → IsOk result → OnOk result P → P
on_ok (Ok value) ok there = there
on_ok (Err error) ok there = cc

-- the ids of a map after one was put in, where there was room
pub room_places : {A E S : Type 0} (result : Result A E) (m n : HashMap (String Global) ℕ S) (key : String Global) (text : List ℕ) (place : ℕ) → IsOk result → OnOk result (Updates string_eq m n key (Some place)) → string_bytes key ≡ text → (id : List ℕ) → place_in id (texts_of n.entries) ≡ cond (bytes_eq id text) (Some place) (place_in id (texts_of m.entries))
room_places result m n key text place ok puts is id =
    put_places m n key place (on_ok result ok puts) id ∙ ap (λ (t : List ℕ). cond (bytes_eq id t) (Some place) (place_in id (texts_of m.entries))) is
