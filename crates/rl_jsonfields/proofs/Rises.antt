-- Objects with free keys: what is read rises in its keys, and what rises is read again as it was written.
use Rattle.std.proofs.Common.{◌≡◌, ℕ, List, [], ◌∷◌, Less, Ok, refl, ap, subst, ◌∙◌, All}
use Rattle.std.proofs.lemmas.List.Elements.{All-cons, All-nil, All-head, All-tail}
use Rattle.serde_json.specs.Data.{Data, Members, no_members, member}
use Rattle.rl_jsonfields.specs.Fields.{Reads, each_member}
use Rattle.rl_jsonfields.specs.Order.{cmp, Before, Ordered, MembersOrdered, IsFirst, Rise}
use Rattle.rl_jsonfields.specs.Texts.{member_of_each}
use Rattle.rl_jsonfields.proofs.Shapes.{bind_ok, ok_is}
use Rattle.rl_jsonfields.proofs.Ordered.{put_first}

-- ---- what is read

module _ {A : Type 0} (one : List ℕ → Data → Reads (List ℕ × A)) where
  abbrev KeepsKeys : Type 0
  KeepsKeys = (k : List ℕ) (d : Data) (e : List ℕ × A) → one k d ≡ Ok e → k ≡ e.0

  is_first : KeepsKeys → (k : List ℕ) (ms : Members) (es : List (List ℕ × A)) → each_member one ms ≡ Ok es → Before k ms → IsFirst k es
  unfolding each_member
  is_first keeps k no_members es read before = subst (IsFirst k) (ok_is [] es read) tt
  is_first keeps k (member l d ms) es read before =
      let a = bind_ok (one l d) _ es read in
      let b = bind_ok (each_member one ms) _ es a.2 in
      let here : cmp k a.0.0 ≡ Less = subst (λ m. cmp k m ≡ Less) (keeps l d a.0 a.1) before.0 in
      subst (IsFirst k) (ok_is (a.0 ∷ b.0) es b.2) (here, is_first keeps k ms b.0 b.1 before.1)

  pub rises : KeepsKeys → (ms : Members) (es : List (List ℕ × A)) → each_member one ms ≡ Ok es → MembersOrdered ms → Rise es
  unfolding each_member
  rises keeps no_members es read ordered = subst Rise (ok_is [] es read) tt
  rises keeps (member l d ms) es read ordered =
      let a = bind_ok (one l d) _ es read in
      let b = bind_ok (each_member one ms) _ es a.2 in
      let first : IsFirst a.0.0 b.0 = subst (λ m. IsFirst m b.0) (keeps l d a.0 a.1) (is_first keeps l ms b.0 b.1 ordered.0) in
      subst Rise (ok_is (a.0 ∷ b.0) es b.2) (first, rises keeps ms b.0 b.1 ordered.2)

  pub all_read : (P : List ℕ × A → Type 0) → ((k : List ℕ) (d : Data) (e : List ℕ × A) → Ordered d → one k d ≡ Ok e → P e) → (ms : Members) (es : List (List ℕ × A)) → each_member one ms ≡ Ok es → MembersOrdered ms → All P es
  unfolding each_member
  all_read P h no_members es read ordered = subst (All P) (ok_is [] es read) (All-nil P)
  all_read P h (member l d ms) es read ordered =
      let a = bind_ok (one l d) _ es read in
      let b = bind_ok (each_member one ms) _ es a.2 in
      subst (All P) (ok_is (a.0 ∷ b.0) es b.2) (All-cons P a.0 b.0 (h l d a.0 ordered.1 a.1) (all_read P h ms b.0 b.1 ordered.2))

-- ---- what is written

module _ {A : Type 0} (json : A → Data) where
  abbrev written : List (List ℕ × A) → Members
  written es = member_of_each (λ e. e.0) (λ e. json e.1) es

  before_written : (k : List ℕ) (es : List (List ℕ × A)) → IsFirst k es → Rise es → Before k (written es)
  unfolding member_of_each
  before_written k [] first rise = tt
  before_written k (e ∷ es) first rise =
      rw (put_first e.0 (json e.1) (written es) (before_written e.0 es rise.0 rise.1)) (first.0, before_written k es first.1 rise.1)

  pub each_again : (one : List ℕ → Data → Reads (List ℕ × A)) (P : List ℕ × A → Type 0) → ((e : List ℕ × A) → P e → one e.0 (json e.1) ≡ Ok e) → (es : List (List ℕ × A)) → Rise es → All P es
      → each_member one (written es) ≡ Ok es
  unfolding each_member member_of_each
  each_again one P h [] rise all = refl
  each_again one P h (e ∷ es) rise all =
      ap (each_member one) (put_first e.0 (json e.1) (written es) (before_written e.0 es rise.0 rise.1))
      ∙ rw (h e (All-head P e es all), each_again one P h es rise.1 (All-tail P e es all)) refl
