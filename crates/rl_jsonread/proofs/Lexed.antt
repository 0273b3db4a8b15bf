-- The lexemes of plain strings, keys and whole numbers.
use Rattle.std.proofs.Common.{◌≡◌, ℕ, ℤ, SFits, w64, suc, ◌+◌, ◌-◌, ◌^◌, ◌<◌, ◌≤◌, Bool, true, false, cond, ◌||◌, ◌==◌, List, [], ◌∷◌, ◌++◌, length, take, drop, Option, Some, None, decimal, refl, sym, ap, ap₂, ◌∙◌, arith, append_assoc, option_and_then, ◌⊎◌, inl, inr}
use Rattle.std.specs.Fmt.{signed_decimal}
use Rattle.std.proofs.lemmas.Bool.{or_parts, not-true, cases_eq, ne_eqb}
use Rattle.std.proofs.lemmas.List.{append-nil, drop-drop, take-append-drop}
use Rattle.std.specs.List.{prefix_len}
use Rattle.json.specs.Token.{number, string, boolean, null, bad}
use Rattle.json.specs.Text.{content, plain, after_backslash, after_u, prepend, short_escape}
use Rattle.json.specs.Word.{is_operator, is_space, word}
use Rattle.json.specs.Ascii.{true_text, false_text, null_text}
use Rattle.json.specs.Lex.{Lexeme, Mode, lex, lex_byte, between, in_string, in_escape, Class, class, quote, backslash, operator, space, other, token, colon, string_token}
use Rattle.json.specs.Run.{is_plain}
use Rattle.json.proofs.Printed.Decimals.{IsNumber-decimal, IsNumber-signed_decimal}
use Rattle.json.proofs.Printed.Numbers.{lex-number, in_word-ended}
use Rattle.rl_jsonread.specs.Places.{IsByteAt, EndsAt, IsWordAt, IsReadTo, Takes}

-- ---- plain bytes inside a string

stays_inside : (o s : Bool) (x : ℕ) (r : List ℕ) (k : Mode → List Lexeme) → lex_byte in_string (cond o operator (cond s space other)) x r k ≡ k in_string
stays_inside true s x r k = refl
stays_inside false true x r k = refl
stays_inside false false x r k = refl

pub passed : (x : ℕ) (xs : List ℕ) → is_plain x ≡ true → lex in_string (x ∷ xs) ≡ lex in_string xs
unfolding lex
passed x xs h =
    let none = or_parts ((x == 34) || (x == 92)) _ (not-true _ h) in
    let tests = or_parts (x == 34) _ none.0 in
    rw (tests.0, tests.1) (stays_inside (is_operator x) (is_space x) x xs (λ m. lex m xs))

run_byte : (p : Bool) (x n : ℕ) (xs : List ℕ) → p ≡ is_plain x → lex in_string xs ≡ lex in_string (drop n xs) → lex in_string (x ∷ xs) ≡ lex in_string (drop (cond p (1 + n) 0) (x ∷ xs))
run_byte false x n xs e ih = refl
run_byte true x n xs e ih =
    let next : suc n ≡ 1 + n = omega arith in
    passed x xs (sym e) ∙ ih ∙ ap (λ k. lex in_string (drop k (x ∷ xs))) next

run : (xs : List ℕ) → lex in_string xs ≡ lex in_string (drop (prefix_len is_plain xs) xs)
run [] = refl
run (x ∷ xs) = run_byte (is_plain x) x (prefix_len is_plain xs) xs refl (run xs)

pub prepend-prepend : (a b : List ℕ) (r : Option (List ℕ)) → prepend a (prepend b r) ≡ prepend (a ++ b) r
prepend-prepend a b None = refl
prepend-prepend a b (Some s) = ap Some (sym (append_assoc a b s))

prepend-nil : (r : Option (List ℕ)) → prepend [] r ≡ r
prepend-nil None = refl
prepend-nil (Some s) = refl

content_byte : (p : Bool) (x n : ℕ) (xs : List ℕ) → p ≡ is_plain x → content plain xs ≡ prepend (take n xs) (content plain (drop n xs))
    → content plain (x ∷ xs) ≡ prepend (take (cond p (1 + n) 0) (x ∷ xs)) (content plain (drop (cond p (1 + n) 0) (x ∷ xs)))
unfolding content
content_byte false x n xs e ih = sym (prepend-nil _)
content_byte true x n xs e ih =
    let next : suc n ≡ 1 + n = omega arith in
    let none = or_parts ((x == 34) || (x == 92)) _ (not-true _ (sym e)) in
    let tests = or_parts (x == 34) _ none.0 in
    (λ i. cond (tests.0 i) (Some []) (cond (tests.1 i) (content after_backslash xs) (cond (none.1 i) None (prepend (x ∷ []) (ih i)))))
    ∙ prepend-prepend (x ∷ []) (take n xs) _ ∙ ap (λ k. prepend (take k (x ∷ xs)) (content plain (drop k (x ∷ xs)))) next

content_run : (xs : List ℕ) → content plain xs ≡ prepend (take (prefix_len is_plain xs) xs) (content plain (drop (prefix_len is_plain xs) xs))
content_run [] = sym (prepend-nil _)
content_run (x ∷ xs) = content_byte (is_plain x) x (prefix_len is_plain xs) xs refl (content_run xs)

-- ---- from the first byte of a string up to its closing quote

module _ (d : List ℕ) (i stop : ℕ) (is : stop ≡ i + prefix_len is_plain (drop i d)) (q : IsByteAt d stop 34) where
  pub content_found : content plain (drop i d) ≡ Some (take (stop - i) (drop i d))
  unfolding content
  content_found =
      let n : prefix_len is_plain (drop i d) ≡ stop - i = omega arith in
      content_run (drop i d) ∙ ap (λ l. prepend (take (prefix_len is_plain (drop i d)) (drop i d)) (content plain l)) (drop-drop _ i d ∙ ap (λ k. drop k d) (sym is))
      ∙ ap (λ k. prepend (take k (drop i d)) (content plain (drop stop d))) n ∙ ap (λ t. prepend (take (stop - i) (drop i d)) (content plain t)) q.rest ∙ ap Some (append-nil _)

  pub rest_found : lex in_string (drop i d) ≡ lex between (drop (stop + 1) d)
  unfolding lex
  rest_found = run (drop i d) ∙ ap (lex in_string) (drop-drop _ i d ∙ ap (λ k. drop k d) (sym is)) ∙ ap (lex in_string) q.rest

pub string_lexed : (d : List ℕ) (from to : ℕ) (s : List ℕ) → IsByteAt d from 34 → content plain (drop (from + 1) d) ≡ Some s → lex in_string (drop (from + 1) d) ≡ lex between (drop to d)
    → lex between (drop from d) ≡ token (string s) ∷ lex between (drop to d)
unfolding lex
string_lexed d from to s q c r = ap (lex between) q.rest ∙ ap₂ (λ o l. token (string_token o) ∷ l) c r

pub key_lexed : (d : List ℕ) (from at : ℕ) (s : List ℕ) → lex between (drop from d) ≡ token (string s) ∷ lex between (drop at d) → IsByteAt d at 58
    → lex between (drop from d) ≡ token (string s) ∷ colon ∷ lex between (drop (at + 1) d)
unfolding lex
key_lexed d from at s e h = e ∙ ap (λ t. token (string s) ∷ lex between t) h.rest

-- ---- words

pub word_found : (d : List ℕ) (from end : ℕ) (word : List ℕ) → from ≤ end → take (end - from) (drop from d) ≡ word → EndsAt d end → IsWordAt d from word end
word_found d from end word le same ends =
    let there : from + (end - from) ≡ end = omega arith in
    record {
      whole = sym (take-append-drop (end - from) (drop from d)) ∙ ap₂ (λ a b. a ++ b) same (drop-drop (end - from) from d ∙ ap (λ k. drop k d) there);
      ends = ends;
    }

pub number_lexed : (d : List ℕ) (from end n : ℕ) → n < 2 ^ 64 → IsWordAt d from (decimal n) end → lex between (drop from d) ≡ token (number (decimal n)) ∷ lex between (drop end d)
number_lexed d from end n fits w = ap (lex between) w.whole ∙ lex-number (decimal n) (drop end d) (IsNumber-decimal n fits) w.ends.word

pub negative_lexed : (d : List ℕ) (from end : ℕ) (z : ℤ) → SFits w64 z → IsWordAt d from (signed_decimal z) end → lex between (drop from d) ≡ token (number (signed_decimal z)) ∷ lex between (drop end d)
negative_lexed d from end z fits w = ap (lex between) w.whole ∙ lex-number (signed_decimal z) (drop end d) (IsNumber-signed_decimal z fits.sfits) w.ends.word

pub true_lexed : (d : List ℕ) (from end : ℕ) → IsWordAt d from true_text end → lex between (drop from d) ≡ token (boolean true) ∷ lex between (drop end d)
unfolding lex word
true_lexed d from end w = ap (lex between) w.whole ∙ ap₂ (λ b l. token (cond b (boolean true) bad) ∷ l) w.ends.word (in_word-ended (drop end d) w.ends.word)

pub false_lexed : (d : List ℕ) (from end : ℕ) → IsWordAt d from false_text end → lex between (drop from d) ≡ token (boolean false) ∷ lex between (drop end d)
unfolding lex word
false_lexed d from end w = ap (lex between) w.whole ∙ ap₂ (λ b l. token (cond b (boolean false) bad) ∷ l) w.ends.word (in_word-ended (drop end d) w.ends.word)

pub null_lexed : (d : List ℕ) (from end : ℕ) → IsWordAt d from null_text end → lex between (drop from d) ≡ token null ∷ lex between (drop end d)
unfolding lex word
null_lexed d from end w = ap (lex between) w.whole ∙ ap₂ (λ b l. token (cond b null bad) ∷ l) w.ends.word (in_word-ended (drop end d) w.ends.word)

-- ---- a string with escapes, part by part

pub none_read : (d : List ℕ) (start : ℕ) (found : List ℕ) → found ≡ [] → start ≤ length d → IsReadTo d start start found
none_read d start found e within = record { bytes = sym (prepend-nil (content plain (drop start d))) ∙ ap (λ s. prepend s (content plain (drop start d))) (sym e); rest = refl; within = within }

pub run_read : (d : List ℕ) (at stop : ℕ) (old new : List ℕ) → stop ≡ at + prefix_len is_plain (drop at d) → stop ≤ length d → new ≡ old ++ take (stop - at) (drop at d) → Takes d at old stop new
run_read d at stop old new is within e = λ start r.
    let n : prefix_len is_plain (drop at d) ≡ stop - at = omega arith in
    let there : drop (prefix_len is_plain (drop at d)) (drop at d) ≡ drop stop d = drop-drop _ at d ∙ ap (λ k. drop k d) (sym is) in
    let more : content plain (drop at d) ≡ prepend (take (stop - at) (drop at d)) (content plain (drop stop d)) =
    content_run (drop at d) ∙ ap₂ (λ k l. prepend (take k (drop at d)) (content plain l)) n there in
    record {
      bytes = r.bytes ∙ ap (prepend old) more ∙ prepend-prepend old (take (stop - at) (drop at d)) (content plain (drop stop d)) ∙ ap (λ s. prepend s (content plain (drop stop d))) (sym e);
      rest = r.rest ∙ run (drop at d) ∙ ap (lex in_string) there;
      within = within;
    }

none_there : {c : ℕ} → short_escape 117 ≡ Some c → ⊥
unfolding short_escape
none_there e = absurd (cc)

-- no short escape begins with `u`
no_unicode : (x c : ℕ) → short_escape x ≡ Some c → (x == 117) ≡ false
no_unicode x c e = go (cases_eq x 117)
  where
    go : (x ≡ 117) ⊎ (x ≡ 117 → ⊥) → (x == 117) ≡ false
    go (inl is) = absurd (none_there (ap short_escape (sym is) ∙ e))
    go (inr differs) = ne_eqb x 117 differs

pub escape_lexed : (x : ℕ) (xs : List ℕ) → lex in_string (92 ∷ x ∷ xs) ≡ lex in_string xs
unfolding lex
escape_lexed x xs = any (class x)
  where
    any : (c : Class) → lex_byte in_escape c x xs (λ m. lex m xs) ≡ lex in_string xs
    any quote = refl
    any backslash = refl
    any operator = refl
    any space = refl
    any other = refl

pub escape_read : (d : List ℕ) (at x c : ℕ) (old new : List ℕ) → IsByteAt d at 92 → IsByteAt d (at + 1) x → short_escape x ≡ Some c → new ≡ old ++ c ∷ [] → Takes d at old (at + 1 + 1) new
unfolding content
escape_read d at x c old new b n short e = λ start r.
    let end = at + 1 + 1 in
    let there : drop at d ≡ 92 ∷ x ∷ drop end d = b.rest ∙ ap (λ t. 92 ∷ t) n.rest in
    let not_u : (x == 117) ≡ false = no_unicode x c short in
    let more : content plain (drop at d) ≡ prepend (c ∷ []) (content plain (drop end d)) =
    ap (content plain) there ∙ ap (λ q. cond q (content after_u (drop end d)) (option_and_then (λ y. prepend (y ∷ []) (content plain (drop end d))) (short_escape x))) not_u
    ∙ ap (option_and_then (λ y. prepend (y ∷ []) (content plain (drop end d)))) short in
    record {
      bytes = r.bytes ∙ ap (prepend old) more ∙ prepend-prepend old (c ∷ []) (content plain (drop end d)) ∙ ap (λ s. prepend s (content plain (drop end d))) (sym e);
      rest = r.rest ∙ ap (lex in_string) there ∙ escape_lexed x (drop end d);
      within = omega (arith, n.within);
    }

pub end_read : (d : List ℕ) (start stop : ℕ) (found : List ℕ) → IsReadTo d start stop found → IsByteAt d stop 34 → content plain (drop start d) ≡ Some found
unfolding content
end_read d start stop found r q = r.bytes ∙ ap (λ t. prepend found (content plain t)) q.rest ∙ ap Some (append-nil found)

pub end_rest : (d : List ℕ) (start stop : ℕ) (found : List ℕ) → IsReadTo d start stop found → IsByteAt d stop 34 → lex in_string (drop start d) ≡ lex between (drop (stop + 1) d)
unfolding lex
end_rest d start stop found r q = r.rest ∙ ap (lex in_string) q.rest
