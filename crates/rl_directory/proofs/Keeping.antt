-- The numbers that are kept beside the names stay those of the names.
use Rattle.std.proofs.Common.{◌≡◌, ℕ, suc, Bool, true, false, cond, List, [], ◌∷◌, ◌++◌, length, refl, ap, sym, ◌∙◌}
use Rattle.std.specs.Prelude.{Option, Some, None, option_map, bytes_eq}
use Rattle.std.specs.Ordering.{nat_cmp}
use Rattle.std.specs.Cmp.Lexicographic.{slice_cmp}
use Rattle.std.specs.Map.{lookup}
use Rattle.std.specs.BTreeMap.{is_at}
use Rattle.std.proofs.lemmas.Map.Text.{is_eq-slice_cmp}
use Rattle.std.proofs.lemmas.Slice.Eq.{bytes_eq-Decides}
use Rattle.rl_directory.specs.Directory.{number_of}
use Rattle.rl_directory.specs.Numbers.{AreNumbers}

abbrev pub or_else : Option ℕ → Option ℕ → Option ℕ
or_else (Some n) other = Some n
or_else None other = other

abbrev pub here : Bool → ℕ → Option ℕ
here b n = cond b (Some n) None

passed : (b c : Bool) (found : Option ℕ) (n : ℕ) → cond b (Some 0) (option_map (λ n. suc n) (or_else found (here c n))) ≡ or_else (cond b (Some 0) (option_map (λ n. suc n) found)) (here c (suc n))
passed true c found n = refl
passed false true None n = refl
passed false false None n = refl
passed false c (Some m) n = refl

-- the number of a name where another stands behind
pub behind : (name key : List ℕ) (names : List (List ℕ)) → number_of name (names ++ key ∷ []) ≡ or_else (number_of name names) (here (bytes_eq name key) (length names))
behind name key [] = refl
behind name key (other ∷ names) =
    ap (λ (found : Option ℕ). cond (bytes_eq name other) (Some 0) (option_map (λ n. suc n) found)) (behind name key names)
    ∙ passed (bytes_eq name other) (bytes_eq name key) (number_of name names) (length names)

or_none : (found : Option ℕ) → or_else found None ≡ found
or_none None = refl
or_none (Some n) = refl

-- of the new name, and of the others
pub new_name : (name key : List ℕ) (names : List (List ℕ)) → number_of key names ≡ None → (b : Bool) → bytes_eq key name ≡ b → cond b (Some (length names)) (number_of name names) ≡ number_of name (names ++ key ∷ [])
new_name name key names new true is =
    let same : key ≡ name = (bytes_eq-Decides key name).0 is in
    let too : bytes_eq name key ≡ true = (bytes_eq-Decides name key).1 (sym same) in
    let none : number_of name names ≡ None = ap (λ (t : List ℕ). number_of t names) (sym same) ∙ new in
    sym (behind name key names ∙ ap (λ (found : Option ℕ). or_else found (here (bytes_eq name key) (length names))) none ∙ ap (λ (b : Bool). here b (length names)) too)
new_name name key names new false is = sym (behind name key names ∙ ap (λ (b : Bool). or_else (number_of name names) (here b (length names))) (by_test (bytes_eq name key) refl) ∙ or_none (number_of name names))
  where
    by_test : (c : Bool) → bytes_eq name key ≡ c → bytes_eq name key ≡ false
    by_test false h = h
    by_test true h =
        let same : name ≡ key = (bytes_eq-Decides name key).0 h in
        let not : bytes_eq key name ≡ true = (bytes_eq-Decides key name).1 (sym same) in
        absurd (cc)

pub stay_numbers : (names later : List (List ℕ)) (name key : List ℕ) (number : ℕ) (before now : List (List ℕ × ℕ)) → AreNumbers names before
    → number_of name names ≡ None → number ≡ length names → key ≡ name → later ≡ names ++ name ∷ []
    → ((q : List ℕ) → lookup (is_at (slice_cmp nat_cmp q)) now ≡ cond (is_at (slice_cmp nat_cmp key) q) (Some number) (lookup (is_at (slice_cmp nat_cmp q)) before))
    → AreNumbers later now
stay_numbers names later name key number before now are new next same more updates = record {
  found = λ q.
      updates q
      ∙ ap (λ (k : List ℕ). cond (is_at (slice_cmp nat_cmp k) q) (Some number) (lookup (is_at (slice_cmp nat_cmp q)) before)) same
      ∙ ap (λ (b : Bool). cond b (Some number) (lookup (is_at (slice_cmp nat_cmp q)) before)) (is_eq-slice_cmp name q)
      ∙ ap (λ (found : Option ℕ). cond (bytes_eq name q) (Some number) found) (are.found q)
      ∙ ap (λ (n : ℕ). cond (bytes_eq name q) (Some n) (number_of q names)) next
      ∙ new_name q name names new (bytes_eq name q) refl
      ∙ ap (λ (all : List (List ℕ)). number_of q all) (sym more);
}
