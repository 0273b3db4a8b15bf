-- Lists in order of key, of which each key shows at most one: what they show where one key shows something new.
use Rattle.std.proofs.Common.{◌≡◌, false, List, [], ◌∷◌, refl, ap, sym, subst, ◌∙◌}
use Rattle.std.specs.Prelude.{Option, Some, None, filter_map, ⊤}
use Rattle.std.specs.List.{AllByRecursion, cons_option}
use Rattle.std.specs.declared.cmp.Ordering.{Ordering}
use Rattle.std.specs.declared.cmp.Ordering.TheVariants.{Less, Equal, Greater}
use Rattle.std.specs.Ordering.{match_ordering, is_eq, ordering_reverse}
use Rattle.std.specs.Cmp.{IsTotalOrder}

module _ {K T : Type 0} (cmp : K → K → Ordering) (total : IsTotalOrder cmp) (key_of : T → K) where
  abbrev pub put_key : K → List K → List K
  put_key key [] = key ∷ []
  put_key key (other ∷ keys) = match_ordering (cmp key other) (key ∷ other ∷ keys) (other ∷ keys) (other ∷ put_key key keys)

  abbrev pub put : T → List T → List T
  put x [] = x ∷ []
  put x (other ∷ all) = match_ordering (cmp (key_of x) (key_of other)) (x ∷ other ∷ all) (x ∷ all) (other ∷ put x all)

  abbrev AllAbove : K → List K → Type 0
  AllAbove key keys = AllByRecursion (λ other. cmp key other ≡ Less) keys

  abbrev pub KeysRise : List K → Type 0
  KeysRise [] = ⊤
  KeysRise (key ∷ keys) = AllAbove key keys × KeysRise keys

  before_all : (a b c : K) → cmp a b ≡ Less → cmp b c ≡ Less → cmp a c ≡ Less
  before_all a b c h k = total.trans a b c h k

  less_of_greater : (a b : K) → cmp a b ≡ Greater → cmp b a ≡ Less
  less_of_greater a b h = total.antisymm b a ∙ ap ordering_reverse h

  above_all : (a b : K) (keys : List K) → cmp a b ≡ Less → AllAbove b keys → AllAbove a keys
  above_all a b [] h all = tt
  above_all a b (key ∷ keys) h all = (before_all a b key h all.0, above_all a b keys h all.1)

  above_tied : (a b : K) (keys : List K) → cmp a b ≡ Equal → AllAbove b keys → AllAbove a keys
  above_tied a b [] h all = tt
  above_tied a b (key ∷ keys) h all = (total.congr a b key h ∙ all.0, above_tied a b keys h all.1)

  above_with_at : (a key other : K) (keys : List K) (o : Ordering) → cmp a key ≡ Less → AllAbove a (other ∷ keys) → AllAbove a (put_key key keys) → AllAbove a (match_ordering o (key ∷ other ∷ keys) (other ∷ keys) (other ∷ put_key key keys))
  above_with_at a key other keys Less h all rest = (h, all)
  above_with_at a key other keys Equal h all rest = all
  above_with_at a key other keys Greater h all rest = (all.0, rest)

  above_with : (a key : K) (keys : List K) → cmp a key ≡ Less → AllAbove a keys → AllAbove a (put_key key keys)
  above_with a key [] h all = (h, tt)
  above_with a key (other ∷ keys) h all = above_with_at a key other keys (cmp key other) h all (above_with a key keys h all.1)

  rise_with_at : (key other : K) (keys : List K) (o : Ordering) → cmp key other ≡ o → KeysRise (other ∷ keys) → KeysRise (put_key key keys) → KeysRise (match_ordering o (key ∷ other ∷ keys) (other ∷ keys) (other ∷ put_key key keys))
  rise_with_at key other keys Less h all rest = ((h, above_all key other keys h all.0), all)
  rise_with_at key other keys Equal h all rest = all
  rise_with_at key other keys Greater h all rest = (above_with other key keys (less_of_greater key other h) all.0, rest)

  pub rise_with : (key : K) (keys : List K) → KeysRise keys → KeysRise (put_key key keys)
  rise_with key [] all = (tt, tt)
  rise_with key (other ∷ keys) all = rise_with_at key other keys (cmp key other) refl all (rise_with key keys all.1)

  -- two ways to look a key up, which differ at one key alone
  abbrev pub Differ : K → (K → Option T) → (K → Option T) → Type 0
  Differ key f g = (other : K) → is_eq (cmp key other) ≡ false → f other ≡ g other

  -- what is found at a key is of it
  abbrev pub OfIt : (K → Option T) → Type 0
  OfIt g = (key : K) (x : T) → g key ≡ Some x → key ≡ key_of x

  abbrev pub AllLater : K → List T → Type 0
  AllLater key all = AllByRecursion (λ x. cmp key (key_of x) ≡ Less) all

  cons_same : (x y : Option T) (xs ys : List T) → x ≡ y → xs ≡ ys → cons_option x xs ≡ cons_option y ys
  cons_same x y xs ys h k = cc

  same_above : (key : K) (f g : K → Option T) (keys : List K) → Differ key f g → AllAbove key keys → filter_map f keys ≡ filter_map g keys
  same_above key f g [] differ all = refl
  same_above key f g (other ∷ keys) differ all =
      cons_same (f other) (g other) _ _ (differ other (ap is_eq all.0)) (same_above key f g keys differ all.1)

  later_at : (key other : K) (x : Option T) (all : List T) → ((y : T) → x ≡ Some y → other ≡ key_of y) → cmp key other ≡ Less → AllLater key all → AllLater key (cons_option x all)
  later_at key other None all of h more = more
  later_at key other (Some y) all of h more = (subst (λ (k : K). cmp key k ≡ Less) (of y refl) h, more)

  later : (key : K) (g : K → Option T) (keys : List K) → OfIt g → AllAbove key keys → AllLater key (filter_map g keys)
  later key g [] of all = tt
  later key g (other ∷ keys) of all = later_at key other (g other) (filter_map g keys) (of other) all.0 (later key g keys of all.1)

  -- what rising keys show rises
  abbrev pub AllRise : List T → Type 0
  AllRise [] = ⊤
  AllRise (x ∷ all) = AllLater (key_of x) all × AllRise all

  rises_at : (key : K) (o : Option T) (all : List T) → ((y : T) → o ≡ Some y → key ≡ key_of y) → AllLater key all → AllRise all → AllRise (cons_option o all)
  rises_at key None all of later rise = rise
  rises_at key (Some y) all of later rise = (subst (λ (k : K). AllLater k all) (of y refl) later, rise)

  pub shown_rise : (g : K → Option T) (keys : List K) → OfIt g → KeysRise keys → AllRise (filter_map g keys)
  shown_rise g [] of rise = tt
  shown_rise g (key ∷ keys) of rise = rises_at key (g key) (filter_map g keys) (of key) (later key g keys of rise.0) (shown_rise g keys of rise.1)

  put_less : (x other : T) (all : List T) → cmp (key_of x) (key_of other) ≡ Less → put x (other ∷ all) ≡ x ∷ other ∷ all
  put_less x other all h = rw h refl

  put_equal : (x other : T) (all : List T) → cmp (key_of x) (key_of other) ≡ Equal → put x (other ∷ all) ≡ x ∷ all
  put_equal x other all h = rw h refl

  put_greater : (x other : T) (all : List T) → cmp (key_of x) (key_of other) ≡ Greater → put x (other ∷ all) ≡ other ∷ put x all
  put_greater x other all h = rw h refl

  put_first : (x : T) (all : List T) → AllLater (key_of x) all → put x all ≡ x ∷ all
  put_first x [] later = refl
  put_first x (other ∷ all) later = put_less x other all later.0

  replaced_at : (x : T) (other : K) (o : Option T) (all : List T) → ((y : T) → o ≡ Some y → other ≡ key_of y) → cmp (key_of x) other ≡ Equal → AllLater (key_of x) all → x ∷ all ≡ put x (cons_option o all)
  replaced_at x other None all of h later = sym (put_first x all later)
  replaced_at x other (Some y) all of h later = sym (put_equal x y all (subst (λ (k : K). cmp (key_of x) k ≡ Equal) (of y refl) h))

  behind_at : (x : T) (other : K) (o : Option T) (all : List T) → ((y : T) → o ≡ Some y → other ≡ key_of y) → cmp (key_of x) other ≡ Greater → cons_option o (put x all) ≡ put x (cons_option o all)
  behind_at x other None all of h = refl
  behind_at x other (Some y) all of h = sym (put_greater x y all (subst (λ (k : K). cmp (key_of x) k ≡ Greater) (of y refl) h))

  abbrev pub TiedIn : T → (K → Option T) → List K → Type 0
  TiedIn x f keys = AllByRecursion (λ k. cmp (key_of x) k ≡ Equal → f k ≡ Some x) keys

  entered_at : (x : T) (f g : K → Option T) (other : K) (keys : List K) (o : Ordering) → cmp (key_of x) other ≡ o → Differ (key_of x) f g → OfIt g → f (key_of x) ≡ Some x → TiedIn x f (other ∷ keys) → KeysRise (other ∷ keys) → filter_map f (put_key (key_of x) keys) ≡ put x (filter_map g keys) → filter_map f (match_ordering o (key_of x ∷ other ∷ keys) (other ∷ keys) (other ∷ put_key (key_of x) keys)) ≡ put x (filter_map g (other ∷ keys))
  entered_at x f g other keys Less h differ of is tied rise rest =
      let all : AllAbove (key_of x) (other ∷ keys) = (h, above_all (key_of x) other keys h rise.0) in
      cons_same (f (key_of x)) (Some x) _ _ is (same_above (key_of x) f g (other ∷ keys) differ all)
      ∙ sym (put_first x (filter_map g (other ∷ keys)) (later (key_of x) g (other ∷ keys) of all))
  entered_at x f g other keys Equal h differ of is tied rise rest =
      let all : AllAbove (key_of x) keys = above_tied (key_of x) other keys h rise.0 in
      cons_same (f other) (Some x) _ _ (tied.0 h) (same_above (key_of x) f g keys differ all)
      ∙ replaced_at x other (g other) (filter_map g keys) (of other) h (later (key_of x) g keys of all)
  entered_at x f g other keys Greater h differ of is tied rise rest =
      cons_same (f other) (g other) _ _ (differ other (ap is_eq h)) rest
      ∙ behind_at x other (g other) (filter_map g keys) (of other) h

  pub entered : (x : T) (f g : K → Option T) (keys : List K) → Differ (key_of x) f g → OfIt g → f (key_of x) ≡ Some x → TiedIn x f keys → KeysRise keys → filter_map f (put_key (key_of x) keys) ≡ put x (filter_map g keys)
  entered x f g [] differ of is tied rise = cons_same (f (key_of x)) (Some x) _ _ is refl
  entered x f g (other ∷ keys) differ of is tied rise =
      entered_at x f g other keys (cmp (key_of x) other) refl differ of is tied rise (entered x f g keys differ of is tied.1 rise.1)
