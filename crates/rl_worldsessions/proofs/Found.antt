-- A number is one name's: so the session that is found by its channel's number is the one under the channel's name.
use Rattle.std.proofs.Common.{◌≡◌, ℕ, suc, Bool, true, false, cond, List, [], ◌∷◌, refl, sym, ◌∙◌, ap, subst, arith}
use Rattle.std.specs.Prelude.{Option, Some, None, option_map, bytes_eq, find, if◌then◌else◌}
use Rattle.std.specs.Ordering.{nat_cmp}
use Rattle.std.specs.Cmp.Lexicographic.{slice_cmp}
use Rattle.std.specs.BTreeMap.{is_at}
use Rattle.std.specs.List.{AllByRecursion}
use Rattle.std.proofs.lemmas.Map.Text.{is_eq-slice_cmp}
use Rattle.std.proofs.lemmas.Bool.{eq-eqb, eqb-true}
use Rattle.rl_directory.specs.Directory.{number_of}
use Rattle.rl_names.specs.Names.{at}
use Rattle.rl_actormodel.specs.declared.parts.Session.{Session}
use Rattle.rl_actormodel.specs.State.{numbered, has_number}
use Rattle.rl_worldtold.specs.Truth.{Channels, names_of}
use Rattle.rl_worldtold.proofs.Shape.{same_bytes, self_bytes}
use Rattle.rl_worldsessions.specs.Serving.{HasNumber, IsSessionOf}

-- A NUMBER IS ONE NAME'S

shift : (o : Option ℕ) (n : ℕ) → option_map (λ m. suc m) o ≡ Some n → (m : ℕ) × (n ≡ suc m) × (o ≡ Some m)
shift None n is = absurd (cc)
shift (Some m) n is = let same : suc m ≡ n = cc in (m, sym same, refl)

one_by : (p q c : List ℕ) (b d : Bool) (o r : Option ℕ) (n : ℕ) → bytes_eq p c ≡ b → bytes_eq q c ≡ d → ((m : ℕ) → o ≡ Some m → r ≡ Some m → p ≡ q)
    → (if b then Some 0 else option_map (λ m. suc m) o) ≡ Some n → (if d then Some 0 else option_map (λ m. suc m) r) ≡ Some n → p ≡ q
one_by p q c true true o r n is other more a b = same_bytes p c is ∙ sym (same_bytes q c other)
one_by p q c true false o r n is other more a b = let same : 0 ≡ n = cc in let s = shift r n b in absurd (omega (arith, same, s.1))
one_by p q c false true o r n is other more a b = let same : 0 ≡ n = cc in let s = shift o n a in absurd (omega (arith, same, s.1))
one_by p q c false false o r n is other more a b =
    let s = shift o n a in let u = shift r n b in
    let same : u.0 ≡ s.0 = omega (arith, s.1, u.1) in
    more s.0 s.2 (u.2 ∙ ap (λ (m : ℕ). Some m) same)

pub one_name : (p q : List ℕ) (n : ℕ) (names : List (List ℕ)) → number_of p names ≡ Some n → number_of q names ≡ Some n → p ≡ q
one_name p q n [] a b = absurd (cc)
one_name p q n (c ∷ names) a b = one_by p q c (bytes_eq p c) (bytes_eq q c) (number_of p names) (number_of q names) n refl refl (λ m x y. one_name p q m names x y) a b

-- SESSIONS

both_are : (e : List ℕ × Session) (name : List ℕ) (session : Session) → name ≡ e.0 → e.1 ≡ session → Some e ≡ Some (name, session)
both_are e name session key same = ap (λ (n : List ℕ). Some (n, e.1)) (sym key) ∙ ap (λ (s : Session). Some (name, s)) same

number_by : (channels : Channels) (name : List ℕ) (session : Session) (e : List ℕ × Session) (es : List (List ℕ × Session)) (b c : Bool) → is_at (slice_cmp nat_cmp name) e.0 ≡ b → has_number session.number e ≡ c → HasNumber channels e.0 e.1.number → HasNumber channels name session.number
    → (at name es ≡ Some session → find (has_number session.number) es ≡ Some (name, session)) → cond b (Some e.1) (at name es) ≡ Some session → cond c (Some e) (find (has_number session.number) es) ≡ Some (name, session)
number_by channels name session e es true true is has own number more found =
    let same : e.1 ≡ session = cc in
    let key : name ≡ e.0 = same_bytes name e.0 (sym (is_eq-slice_cmp name e.0) ∙ is) in
    both_are e name session key same
number_by channels name session e es true false is has own number more found =
    let same : e.1 ≡ session = cc in
    let wrong : true ≡ false = sym (eq-eqb e.1.number session.number (ap (λ (s : Session). s.number) same)) ∙ has in
    absurd (cc)
number_by channels name session e es false true is has own number more found =
    let same : e.1.number ≡ session.number = eqb-true e.1.number session.number has in
    let key : e.0 ≡ name = one_name e.0 name session.number (names_of channels) (own ∙ ap (λ (n : ℕ). Some n) same) number in
    let wrong : false ≡ true = sym is ∙ is_eq-slice_cmp name e.0 ∙ ap (bytes_eq name) key ∙ self_bytes name in
    absurd (cc)
number_by channels name session e es false false is has own number more found = more found

pub number_found : (channels : Channels) (name : List ℕ) (session : Session) (es : List (List ℕ × Session)) → AllByRecursion (IsSessionOf channels) es → HasNumber channels name session.number → at name es ≡ Some session → numbered session.number es ≡ Some (name, session)
number_found channels name session [] all number found = absurd (cc)
number_found channels name session (e ∷ es) all number found =
    number_by channels name session e es (is_at (slice_cmp nat_cmp name) e.0) (has_number session.number e) refl refl all.0.numbered number (number_found channels name session es all.1 number) found

-- what is found is one of them
find_by : (P : List ℕ × Session → Type 0) (test : List ℕ × Session → Bool) (x e : List ℕ × Session) (rest : Option (List ℕ × Session)) (b : Bool) → P x → (rest ≡ Some e → P e) → cond b (Some x) rest ≡ Some e → P e
find_by P test x e rest true here more found = let same : x ≡ e = cc in subst P same here
find_by P test x e rest false here more found = more found

pub all_find : (P : List ℕ × Session → Type 0) (test : List ℕ × Session → Bool) (e : List ℕ × Session) (es : List (List ℕ × Session)) → AllByRecursion P es → find test es ≡ Some e → P e
all_find P test e [] all found = absurd (cc)
all_find P test e (x ∷ es) all found = find_by P test x e (find test es) (test x) all.0 (all_find P test e es all.1) found
