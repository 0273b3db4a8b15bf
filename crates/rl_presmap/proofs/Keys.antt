-- The order of keys.
use Rattle.std.proofs.Common.{◌≡◌, ℕ, Bool, true, false, List, refl, ap, sym, ◌∙◌}
use Rattle.std.specs.Prelude.{bytes_eq, ◌&&◌}
use Rattle.std.specs.declared.cmp.Ordering.{Ordering}
use Rattle.std.specs.declared.cmp.Ordering.TheVariants.{Less, Equal, Greater}
use Rattle.std.specs.Ordering.{nat_cmp, is_eq, ordering_then, ordering_reverse}
use Rattle.std.specs.Cmp.{IsTotalOrder}
use Rattle.std.specs.Cmp.Lexicographic.{slice_cmp}
use Rattle.std.proofs.lemmas.Cmp.{nat_list_cmp_total, on_total, then_total, tied_itself}
use Rattle.std.proofs.lemmas.Slice.Eq.{bytes_eq-Decides}
use Rattle.std.proofs.lemmas.Map.Text.{is_eq-slice_cmp}
use Rattle.rl_ids.specs.declared.members.MemberKey.{MemberKey}
use Rattle.rl_types.specs.declared.presence.PresenceItem.{PresenceItem}
use Rattle.rl_model.specs.Members.{key_of, key_cmp, is_of}

pub keys_total : IsTotalOrder key_cmp
keys_total = then_total (on_total (λ (k : MemberKey). k.conn) nat_list_cmp_total) (on_total (λ (k : MemberKey). k.client) nat_list_cmp_total)

pub before_itself : (a : MemberKey) → key_cmp a a ≡ Equal
before_itself a = tied_itself keys_total a

pub turned : (a b : MemberKey) → key_cmp a b ≡ ordering_reverse (key_cmp b a)
turned a b = keys_total.antisymm a b

pub before_all : (a b c : MemberKey) → key_cmp a b ≡ Less → key_cmp b c ≡ Less → key_cmp a c ≡ Less
before_all a b c h k = keys_total.trans a b c h k

pub less_of_greater : (a b : MemberKey) → key_cmp a b ≡ Greater → key_cmp b a ≡ Less
less_of_greater a b h = turned b a ∙ ap ordering_reverse h

pub greater_of_less : (a b : MemberKey) → key_cmp a b ≡ Less → key_cmp b a ≡ Greater
greater_of_less a b h = turned b a ∙ ap ordering_reverse h

pub equal_back : (a b : MemberKey) → key_cmp a b ≡ Equal → key_cmp b a ≡ Equal
equal_back a b h = turned b a ∙ ap ordering_reverse h

-- EQUAL IS THE SAME

both_eq : (o p : Ordering) → (is_eq o && is_eq p) ≡ is_eq (ordering_then o p)
both_eq Less p = refl
both_eq Equal p = refl
both_eq Greater p = refl

pub both : (x y : Bool) → (x && y) ≡ true → (x ≡ true) × (y ≡ true)
both true y h = (refl, h)
both false y h = cc

pub texts_same : (a b : List ℕ) → bytes_eq a b ≡ true → a ≡ b
texts_same a b h = (bytes_eq-Decides a b).0 h

pub texts_itself : (a : List ℕ) → bytes_eq a a ≡ true
texts_itself a = (bytes_eq-Decides a a).1 refl

and_at : (w x y z : Bool) → w ≡ x → y ≡ z → (w && y) ≡ (x && z)
and_at w x y z h k = cc

pub is_of_is : (key : MemberKey) (item : PresenceItem) → is_of key item ≡ is_eq (key_cmp key (key_of item))
is_of_is key item =
    and_at _ _ _ _ (sym (is_eq-slice_cmp key.conn item.conn)) (sym (is_eq-slice_cmp key.client item.client))
    ∙ both_eq (slice_cmp nat_cmp key.conn item.conn) (slice_cmp nat_cmp key.client item.client)

key : List ℕ → List ℕ → MemberKey
key conn client = record { conn = conn; client = client }

pub keys_same : (a b : MemberKey) → a.conn ≡ b.conn → a.client ≡ b.client → a ≡ b
unfolding key
keys_same a b h k = ap (λ (conn : List ℕ). key conn a.client) h ∙ ap (λ (client : List ℕ). key b.conn client) k

pub of_same : (key : MemberKey) (item : PresenceItem) → is_of key item ≡ true → key ≡ key_of item
of_same key item h =
    let parts = both (bytes_eq key.conn item.conn) (bytes_eq key.client item.client) h in
    keys_same key (key_of item) (texts_same _ _ parts.0) (texts_same _ _ parts.1)

pub of_itself : (item : PresenceItem) → is_of (key_of item) item ≡ true
of_itself item = and_at _ true _ true (texts_itself item.conn) (texts_itself item.client)

pub of_equal : (key : MemberKey) (item : PresenceItem) → key_cmp key (key_of item) ≡ Equal → is_of key item ≡ true
of_equal key item h = is_of_is key item ∙ ap is_eq h

pub of_less : (key : MemberKey) (item : PresenceItem) → key_cmp key (key_of item) ≡ Less → is_of key item ≡ false
of_less key item h = is_of_is key item ∙ ap is_eq h

pub of_greater : (key : MemberKey) (item : PresenceItem) → key_cmp key (key_of item) ≡ Greater → is_of key item ≡ false
of_greater key item h = is_of_is key item ∙ ap is_eq h
