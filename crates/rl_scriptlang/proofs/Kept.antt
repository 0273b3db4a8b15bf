-- What is kept of the lines, and one more line.
use Rattle.std.proofs.Common.{◌≡◌, ℕ, ◌+◌, ◌≤◌, Bool, true, false, not, ◌&&◌, ◌||◌, cond, ltb, leb, List, [], ◌∷◌, ◌++◌, length, Option, Some, None, refl, sym, ap, ◌∙◌, arith, zero-add}
use Rattle.std.specs.Prelude.{⊤, is_none, option_to_list, bytes_eq, filter_map}
use Rattle.std.specs.List.{list_all, cons_option}
use Rattle.std.proofs.lemmas.List.Elements.{filter_map-append}
use Rattle.std.proofs.lemmas.List.Folds.{list_all-append}
use Rattle.std.proofs.lemmas.List.Sums.{sum_by-append}
use Rattle.std.proofs.lemmas.Slice.Eq.{bytes_eq-Decides}
use Rattle.std.proofs.lemmas.Bool.Decides.{nat_tests}
use Rattle.rl_numbers.specs.declared.limits.TheConstants.{MAX_PUBLISHED, MAX_PUT}
use Rattle.rl_runs.specs.declared.script.Line.{Line}
use Rattle.rl_model.specs.Script.{is_publish, fed_by, is_settle, name_declared, channel_named, declared_names, channels_named, published, fed, ends_settled, in_scope, is_first_client, is_only_channel, is_cut}
use Rattle.rl_scriptlang.specs.Seen.{IsSeen, is_kept, kept_after, put_by}

pub published_more : (before : List Line) (line : Line) → published (before ++ line ∷ []) ≡ published before + put_by line
published_more before line =
    sum_by-append (λ l. cond (is_publish l) 1 0) before (line ∷ []) ∙ ap (λ n. published before + n) (zero-add (put_by line))

pub fed_more : (before : List Line) (line : Line) → fed (before ++ line ∷ []) ≡ fed before + fed_by line
fed_more before line = sum_by-append fed_by before (line ∷ []) ∙ ap (λ n. fed before + n) (zero-add (fed_by line))

ends_more : (before : List Line) (line : Line) → ends_settled (before ++ line ∷ []) ≡ is_settle line
ends_more [] line = refl
ends_more (x ∷ []) line = refl
ends_more (x ∷ y ∷ before) line = ends_more (y ∷ before) line

-- NAMES

one_found : {X : Type 0} (found : Option X) → cons_option found [] ≡ option_to_list found
one_found None = refl
one_found (Some x) = refl

names_more : (f : Line → Option (List ℕ)) (before : List Line) (line : Line) → filter_map f (before ++ line ∷ []) ≡ filter_map f before ++ option_to_list (f line)
names_more f before line =
    filter_map-append f before (line ∷ []) ∙ ap (λ names. filter_map f before ++ names) (one_found (f line))

names_kept : (names : List (List ℕ)) (client named : Option (List ℕ)) → names ≡ option_to_list client
    → (is_none named || ltb (length names) 1) ≡ true → names ++ option_to_list named ≡ option_to_list (kept_after client named)
names_kept names None named is first = ap (λ ns. ns ++ option_to_list named) is
names_kept names (Some kept) None is first = ap (λ ns. ns ++ []) is
names_kept names (Some kept) (Some name) is first =
    let second : ltb 1 1 ≡ true = sym (ap (λ ns. ltb (length ns) 1) is) ∙ first in
    absurd (cc)

-- CHANNELS

and_true : (b : Bool) → (b && true) ≡ b
and_true true = refl
and_true false = refl

twice : (b : Bool) → (b && (b && true)) ≡ b
twice true = refl
twice false = refl

abbrev IsAllowed : Option (List ℕ) → Option (List ℕ) → Type 0
IsAllowed channel None = ⊤
IsAllowed channel (Some name) = is_kept channel name ≡ true

allowed_by : (before : List Line) (channel named : Option (List ℕ)) → ((name : List ℕ) → list_all (bytes_eq name) (channels_named before) ≡ is_kept channel name)
    → is_only_channel named before ≡ true → IsAllowed channel named
allowed_by before channel None kept only = tt
allowed_by before channel (Some name) kept only = sym (kept name) ∙ only

kept_with : (name : List ℕ) (channel named : Option (List ℕ)) → IsAllowed channel named
    → (is_kept channel name && list_all (bytes_eq name) (option_to_list named)) ≡ is_kept (kept_after channel named) name
kept_with name None None allowed = refl
kept_with name None (Some new) allowed = and_true (bytes_eq name new)
kept_with name (Some kept) None allowed = and_true (bytes_eq name kept)
kept_with name (Some kept) (Some new) allowed =
    let same : new ≡ kept = (bytes_eq-Decides new kept).0 allowed in
    ap (λ n. bytes_eq name kept && (bytes_eq name n && true)) same ∙ twice (bytes_eq name kept)

channels_more : (before : List Line) (line : Line) (channel : Option (List ℕ)) → ((name : List ℕ) → list_all (bytes_eq name) (channels_named before) ≡ is_kept channel name)
    → is_only_channel (channel_named line) before ≡ true
    → (name : List ℕ) → list_all (bytes_eq name) (channels_named (before ++ line ∷ [])) ≡ is_kept (kept_after channel (channel_named line)) name
channels_more before line channel kept only name =
    ap (λ names. list_all (bytes_eq name) names) (names_more channel_named before line)
    ∙ list_all-append (bytes_eq name) (channels_named before) (option_to_list (channel_named line))
    ∙ ap (λ b. b && list_all (bytes_eq name) (option_to_list (channel_named line))) (kept name)
    ∙ kept_with name channel (channel_named line) (allowed_by before channel (channel_named line) kept only)

-- ONE MORE LINE

both : (x y : Bool) → (x && y) ≡ true → (x ≡ true) × (y ≡ true)
both true y is = (refl, is)
both false y is = absurd (cc)

room_by : (total : ℕ) → leb total MAX_PUT ≡ true → total ≤ MAX_PUT
room_by total is = grind (arith, nat_tests)

pub seen_more : (before : List Line) (line : Line) (client channel : Option (List ℕ)) (put given : ℕ) (settled : Bool)
    → IsSeen before client channel put given settled → in_scope before line ≡ true
    → IsSeen (before ++ line ∷ []) (kept_after client (name_declared line)) (kept_after channel (channel_named line)) (put + put_by line) (given + fed_by line) (is_settle line)
seen_more before line client channel put given settled seen scope =
    let opened : Bool = is_first_client before line in
    let channel_fits : Bool = is_only_channel (channel_named line) before in
    let drops : Bool = not (is_cut line) || ends_settled before in
    let few : Bool = leb (published (before ++ line ∷ [])) MAX_PUBLISHED in
    let total : Bool = leb (published (before ++ line ∷ []) + fed (before ++ line ∷ [])) MAX_PUT in
    let room = both (((opened && channel_fits) && drops) && few) total scope in
    let front = both ((opened && channel_fits) && drops) few room.0 in
    let names = both (opened && channel_fits) drops front.0 in
    let first = both opened channel_fits names.0 in
    record {
      names = names_more name_declared before line ∙ names_kept (declared_names before) client (name_declared line) seen.names first.0;
      channels = channels_more before line channel seen.channels first.1;
      put_count = published_more before line ∙ ap (λ n. n + put_by line) seen.put_count;
      given_count = fed_more before line ∙ ap (λ n. n + fed_by line) seen.given_count;
      within = omega (arith, room_by (published (before ++ line ∷ []) + fed (before ++ line ∷ [])) room.1, published_more before line, fed_more before line, seen.put_count, seen.given_count);
      ends = ends_more before line;
    }

pub seen_after : (before : List Line) (line : Line) (client channel : Option (List ℕ)) (put given : ℕ) (settled : Bool)
    (shown after : List Line) (client_after channel_after : Option (List ℕ)) (put_more given_more : ℕ) (settled_after : Bool)
    → IsSeen before client channel put given settled → in_scope shown line ≡ true → shown ≡ before
    → after ≡ before ++ line ∷ [] → client_after ≡ kept_after client (name_declared line) → channel_after ≡ kept_after channel (channel_named line)
    → put_more ≡ put_by line → given_more ≡ fed_by line → settled_after ≡ is_settle line
    → IsSeen after client_after channel_after (put + put_more) (given + given_more) settled_after
seen_after before line client channel put given settled shown after client_after channel_after put_more given_more settled_after seen scope same lines names channels puts gives ends =
    let more = seen_more before line client channel put given settled seen (sym (ap (λ s. in_scope s line) same) ∙ scope) in
    simp (lines, names, channels, puts, gives, ends) more
