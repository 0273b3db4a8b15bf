-- Taking a member out leaves the others.
use Rattle.std.proofs.Common.{◌≡◌, ℕ, List, [], ◌∷◌, Bool, true, false, cond, Some, refl, sym, ap, ◌∙◌, nat_cmp, string_bytes, is_eq}
use Rattle.std.specs.Prelude.{option_and_then}
use Rattle.std.proofs.lemmas.Map.Text.{is_eq-slice_cmp}
use Rattle.std.proofs.lemmas.Slice.Eq.{bytes_eq-Decides}
use Rattle.std.specs.BTreeMap.{is_at}
use Rattle.std.specs.Cmp.Lexicographic.{slice_cmp}
use Rattle.std.specs.Map.{remove_entry}
use Rattle.std.specs.Ordering.{match_ordering}
use Rattle.serde_json.specs.Data.{Data, object, Members}
use Rattle.serde_json.specs.Find.{get_member}
use Rattle.serde_json.specs.View.{view, members_view}
use Rattle.serde_json.proofs.Views.{Entry, member_later}
use Rattle.rl_jsonfields.specs.declared.names.Field.{Field}
use Rattle.rl_jsonfields.specs.Names.{spelled}
use Rattle.rl_jsonfields.specs.Fields.{present, LeavesOthers, LeavesFields}

one_less : (b : Bool) (name q : List ℕ) (e : Entry) (es rest : List Entry) → is_eq (slice_cmp nat_cmp name (string_bytes e.0)) ≡ b → (q ≡ name → ⊥) → get_member q (members_view rest) ≡ get_member q (members_view es)
    → get_member q (members_view (cond b es (e ∷ rest))) ≡ get_member q (members_view (e ∷ es))
one_less true name q e es rest is other later =
    let same : name ≡ string_bytes e.0 = (bytes_eq-Decides name (string_bytes e.0)).0 (sym (is_eq-slice_cmp name (string_bytes e.0)) ∙ is) in
    sym (member_later q e es (λ here. other (here ∙ sym same)))
one_less false name q e es rest is other later = ap (λ r. match_ordering (slice_cmp nat_cmp q (string_bytes e.0)) r (Some (view e.1)) r) later

pub removed : (name : List ℕ) (es : List Entry) → LeavesOthers name (members_view es) (members_view (remove_entry (is_at (λ k. slice_cmp nat_cmp name (string_bytes k))) es))
removed name [] q other = refl
removed name (e ∷ es) q other = one_less (is_eq (slice_cmp nat_cmp name (string_bytes e.0))) name q e es (remove_entry (is_at (λ k. slice_cmp nat_cmp name (string_bytes k))) es) refl other (removed name es q other)

-- of an object
pub others_left : (f : Field) (old new : Members) → LeavesOthers (spelled f) old new → LeavesFields f (object old) (object new)
others_left f old new h other apart = ap (option_and_then present) (h (spelled other) apart)

pub all_left : (f : Field) (old : Data) → LeavesFields f old old
all_left f old other apart = refl
