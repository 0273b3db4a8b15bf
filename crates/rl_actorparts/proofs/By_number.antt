-- The names by number stay those of the sessions, and find them.
use Rattle.std.proofs.Common.{◌≡◌, ℕ, Bool, true, false, cond, List, [], ◌∷◌, Option, Some, None, refl, sym, ap, subst, ◌∙◌, arith}
use Rattle.std.specs.Prelude.{◌==◌, bytes_eq}
use Rattle.std.specs.Ordering.{nat_cmp}
use Rattle.std.specs.Cmp.Lexicographic.{slice_cmp}
use Rattle.std.specs.List.{AllByRecursion}
use Rattle.std.specs.List.Sorted.{IsStrictlySortedBy}
use Rattle.std.specs.Map.{keys_of}
use Rattle.std.specs.BTreeMap.{is_at}
use Rattle.std.specs.declared.cmp.Ordering.TheVariants.{Less}
use Rattle.std.proofs.lemmas.Bool.Decides.{nat_tests}
use Rattle.std.proofs.lemmas.Slice.Eq.{bytes_eq-Decides}
use Rattle.rl_events.specs.declared.channel.ChannelReply.{ChannelReply}
use Rattle.rl_names.specs.Names.{at, with_entry, without}
use Rattle.rl_actormodel.specs.declared.parts.Session.{Session}
use Rattle.rl_actormodel.specs.State.{numbered, has_number}
use Rattle.rl_actormodel.specs.Pagings.{paged}
use Rattle.rl_actormodel.proofs.Named.{R, Rising, rising_with, rising_without, at_with, at_without, found_at, found_passes, none_passes}
use Rattle.rl_pages.specs.State.{page_absorbed}
use Rattle.rl_actorparts.specs.Runs.{Sessions, moved, moved_by, moved_at, page_into_at, page_in, page_in_at, page_into}
use Rattle.rl_actorparts.specs.Numbered.{Names, name_at, AreNamed, IsFreeFor, IsFound}
use Rattle.rl_actorparts.proofs.Put_back.{rising}

-- ORDER

by_key : (P : List ℕ → Type 0) (es : Sessions) → AllByRecursion (λ (o : List ℕ × Session). P o.0) es → AllByRecursion P (keys_of es)
by_key P [] h = tt
by_key P (e ∷ more) h = (h.0, by_key P more h.1)

sorted : (es : Sessions) → Rising es → IsStrictlySortedBy (slice_cmp nat_cmp) (keys_of es)
unfolding IsStrictlySortedBy
sorted [] h = tt
sorted (e ∷ more) h = (by_key (λ (name : List ℕ). R e.0 name ≡ Less) more h.0, sorted more h.1)

pub named_none : AreNamed [] []
named_none = record { rises = sorted [] tt; named = λ name session h. cc }

-- FINDING

same_number : (m n : ℕ) → (m == n) ≡ true → m ≡ n
same_number m n h = grind (arith, nat_tests)

is_number : (m n : ℕ) → m ≡ n → (m == n) ≡ true
is_number m n h = grind (arith, nat_tests)

at_number : (m n : ℕ) → is_at (nat_cmp m) n ≡ (m == n)
at_number m n = grind (arith, nat_tests)

-- what is found by its number stands under its name, which the names have
pub record Stands (number : ℕ) (es : Sessions) (names : Names) (e : List ℕ × Session) : Type 0 where
  pub there : at e.0 es ≡ Some e.1
  pub numbers : e.1.number ≡ number
  pub name_is : name_at number names ≡ Some e.0

stands : (number : ℕ) (es : Sessions) (names : Names) (e : List ℕ × Session) → AreNamed es names → numbered number es ≡ Some e → Stands number es names e
stands number es names e named is =
    let there : at e.0 es ≡ Some e.1 = found_at (has_number number) es e (rising es named.rises) is in
    let number_is : e.1.number ≡ number = same_number e.1.number number (found_passes (has_number number) es e is) in
    record { there = there; numbers = number_is; name_is = ap (λ (n : ℕ). name_at n names) (sym number_is) ∙ named.named e.0 e.1 there }

pub found_one : (number : ℕ) (es : Sessions) (names : Names) (name : List ℕ) (session : Session) → AreNamed es names → name_at number names ≡ Some name → at name es ≡ Some session → session.number ≡ number → IsFound number es (name, session)
found_one number es names name session named name_is there number_is = by_found (numbered number es) refl
  where
    by_found : (found : Option (List ℕ × Session)) → numbered number es ≡ found → IsFound number es (name, session)
    by_found None is =
        let no : (session.number == number) ≡ false = none_passes (λ (s : Session). s.number == number) name session es is there in
        let yes_it_is : (session.number == number) ≡ true = is_number session.number number number_is in
        let no_way : ⊥ = cc in
        absurd no_way
    by_found (Some e) is =
        let one = stands number es names e named is in
        let name_same : e.0 ≡ name = cc in
        let session_same : e.1 ≡ session = cc in
        record {
          first = is ∙ ap (λ (n : List ℕ). Some (n, e.1)) name_same ∙ ap (λ (s : Session). Some (name, s)) session_same;
          stands = there;
          rises = named.rises;
        }

pub none_found : (number : ℕ) (es : Sessions) (names : Names) → AreNamed es names → ((e : List ℕ × Session) → Stands number es names e → ⊥) → numbered number es ≡ None
none_found number es names named none = by_found (numbered number es) refl
  where
    by_found : (found : Option (List ℕ × Session)) → numbered number es ≡ found → found ≡ None
    by_found None is = refl
    by_found (Some e) is = absurd (none e (stands number es names e named is))

-- the number has no name
pub none_named : (number : ℕ) (es : Sessions) (names : Names) → AreNamed es names → name_at number names ≡ None → numbered number es ≡ None
none_named number es names named none = none_found number es names named (λ e one. let no = one.name_is in cc)

-- its name has no session
pub none_there : (number : ℕ) (es : Sessions) (names : Names) (name : List ℕ) → AreNamed es names → name_at number names ≡ Some name → at name es ≡ None → numbered number es ≡ None
none_there number es names name named name_is none =
    none_found number es names named (λ e one.
    let is = one.name_is in
    let there = one.there in
    let same : e.0 ≡ name = cc in
    let at_name : at name es ≡ Some e.1 = ap (λ (n : List ℕ). at n es) (sym same) ∙ there in
    cc)

-- its name has a session of another number
pub none_of_it : (number : ℕ) (es : Sessions) (names : Names) (name : List ℕ) (session : Session) → AreNamed es names → name_at number names ≡ Some name → at name es ≡ Some session → (session.number ≡ number → ⊥) → numbered number es ≡ None
none_of_it number es names name session named name_is at_is other =
    none_found number es names named (λ e one.
    let is = one.name_is in
    let there = one.there in
    let same : e.0 ≡ name = cc in
    let at_name : at name es ≡ Some e.1 = ap (λ (n : List ℕ). at n es) (sym same) ∙ there in
    let session_same : e.1 ≡ session = cc in
    other (ap (λ (s : Session). s.number) (sym session_same) ∙ one.numbers))

-- KEEPING

-- the number was given this name, which no other had
abbrev IsNamedSo : ℕ → List ℕ → Names → Names → Type 0
IsNamedSo number name names all = (q : ℕ) → name_at q all ≡ cond (is_at (nat_cmp number) q) (Some name) (name_at q names)

pub named_more : (number : ℕ) (name : List ℕ) (es : Sessions) (names all : Names) → IsFreeFor number name names → IsNamedSo number name names all → AreNamed es names → AreNamed es all
named_more number name es names all free so named = record { rises = named.rises; named = λ q s h. by_number q s h (is_at (nat_cmp number) s.number) refl }
  where
    by_number : (q : List ℕ) (s : Session) → at q es ≡ Some s → (b : Bool) → is_at (nat_cmp number) s.number ≡ b → name_at s.number all ≡ Some q
    by_number q s h true b =
        let same : number ≡ s.number = same_number number s.number (sym (at_number number s.number) ∙ b) in
        let q_is : q ≡ name = free q (ap (λ (n : ℕ). name_at n names) same ∙ named.named q s h) in
        so s.number ∙ ap (λ (c : Bool). cond c (Some name) (name_at s.number names)) b ∙ ap (λ (t : List ℕ). Some t) (sym q_is)
    by_number q s h false b = so s.number ∙ ap (λ (c : Bool). cond c (Some name) (name_at s.number names)) b ∙ named.named q s h

-- a session of this name and number was put in
pub named_with : (name : List ℕ) (session : Session) (es : Sessions) (names : Names) → name_at session.number names ≡ Some name → AreNamed es names → AreNamed (with_entry name session es) names
named_with name session es names name_is named = record {
  rises = sorted (with_entry name session es) (rising_with name session es (rising es named.rises));
  named = λ q s h. by_name q s (bytes_eq q name) refl (sym (at_with q name session es) ∙ h);
}
  where
    by_name : (q : List ℕ) (s : Session) (b : Bool) → bytes_eq q name ≡ b → cond b (Some session) (at q es) ≡ Some s → name_at s.number names ≡ Some q
    by_name q s true is h =
        let same : session ≡ s = cc in
        let q_is : q ≡ name = (bytes_eq-Decides q name).0 is in
        ap (λ (x : Session). name_at x.number names) (sym same) ∙ name_is ∙ ap (λ (t : List ℕ). Some t) (sym q_is)
    by_name q s false is h = named.named q s h

-- a name's number after it was given it
pub name_given : (number : ℕ) (name : List ℕ) (names all : Names) → IsNamedSo number name names all → name_at number all ≡ Some name
name_given number name names all so =
    so number ∙ ap (λ (c : Bool). cond c (Some name) (name_at number names)) (at_number number number ∙ is_number number number refl)

-- a session was put in, and its number given its name
pub named_put : (number : ℕ) (name kept : List ℕ) (session : Session) (es put : Sessions) (names all : Names) → number ≡ session.number → kept ≡ name → IsFreeFor number name names → IsNamedSo number kept names all → put ≡ with_entry name session es → AreNamed es names → AreNamed put all
named_put number name kept session es put names all number_is kept_is free so put_is named =
    let so_named : IsNamedSo number name names all = subst (λ (t : List ℕ). IsNamedSo number t names all) kept_is so in
    let name_is : name_at session.number all ≡ Some name = ap (λ (n : ℕ). name_at n all) (sym number_is) ∙ name_given number name names all so_named in
    subst (λ (x : Sessions). AreNamed x all) (sym put_is) (named_with name session es all name_is (named_more number name es names all free so_named named))

pub named_without : (name : List ℕ) (es : Sessions) (names : Names) → AreNamed es names → AreNamed (without name es) names
named_without name es names named = record {
  rises = sorted (without name es) (rising_without name es (rising es named.rises));
  named = λ q s h. named.named q s (at_without q name s es (rising es named.rises) h);
}

pub named_moved : (name : List ℕ) (position : ℕ) (ends : Bool) (es : Sessions) (names : Names) → AreNamed es names → AreNamed (moved_at name position ends es) names
named_moved name position ends es names named = by_one (at name es) refl
  where
    by_one : (one : Option Session) → at name es ≡ one → AreNamed (moved_by position ends name one es) names
    by_one None is = named
    by_one (Some session) is = named_with name (moved position ends session) es names (named.named name session is) named

pub named_paged : (reply : ChannelReply) (name : List ℕ) (es : Sessions) (names : Names) → AreNamed es names → AreNamed (page_into_at reply name (at name es) es) names
named_paged reply name es names named = by_one (at name es) refl
  where
    by_one : (one : Option Session) → at name es ≡ one → AreNamed (page_into_at reply name one es) names
    by_one None is = named
    by_one (Some session) is = named_with name (paged (page_absorbed reply session.pages) session) es names (named.named name session is) named

-- AS CALLS USE IT

pub page_in_found : (reply : ChannelReply) (number : ℕ) (es : Sessions) (e : List ℕ × Session) → IsFound number es e → page_in_at reply (at e.0 es) ≡ page_in reply (numbered number es)
page_in_found reply number es e found = ap (page_in_at reply) found.stands ∙ sym (ap (page_in reply) found.first)

pub page_into_found : (reply : ChannelReply) (number : ℕ) (es : Sessions) (e : List ℕ × Session) → IsFound number es e → page_into_at reply e.0 (at e.0 es) es ≡ page_into reply (numbered number es) es
page_into_found reply number es e found =
    ap (λ (one : Option Session). page_into_at reply e.0 one es) found.stands ∙ sym (ap (λ (one : Option (List ℕ × Session)). page_into reply one es) found.first)
