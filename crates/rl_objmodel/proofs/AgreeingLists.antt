-- Two lists of operations that have each site's in the same order lead to the same, where operations of two sites may
-- come in either order.
use Rattle.std.proofs.Common.{◌≡◌, ℕ, Bool, true, false, cond, List, [], ◌∷◌, refl, ap, sym, subst, ◌∙◌}
use Rattle.std.specs.Prelude.{⊤, filter, ◌&&◌, ◌||◌, Option, Some, None}
use Rattle.std.specs.List.{list_any, list_all, AllByRecursion}
use Rattle.rl_ids.specs.declared.serials.OpSerial.{OpSerial}
use Rattle.rl_types.specs.declared.objects.ObjectOp.{ObjectOp}
use Rattle.rl_objmodel.specs.Agreeing.{has_site, is_of_site, has_serial}
use Rattle.rl_objmodel.proofs.PlacesHeld.{texts_same, texts_itself}

-- WITHOUT THE FIRST OF A SITE

abbrev Ops : Type 0
Ops = List ObjectOp

abbrev without : List ℕ → Ops → Ops
without site [] = []
without site (x ∷ xs) = cond (is_of_site site x) xs (x ∷ without site xs)

head_of : (x y : ObjectOp) (xs ys : Ops) → x ∷ xs ≡ y ∷ ys → x ≡ y
head_of x y xs ys h = cc

tail_of : (x y : ObjectOp) (xs ys : Ops) → x ∷ xs ≡ y ∷ ys → xs ≡ ys
tail_of x y xs ys h = cc

-- it is of the site
of_it : (site : List ℕ) (xs : Ops) (y : ObjectOp) (rest : Ops) → filter (is_of_site site) xs ≡ y ∷ rest → is_of_site site y ≡ true
of_it site [] y rest h = cc
of_it site (x ∷ xs) y rest h = by_test (is_of_site site x) refl h (of_it site xs y rest)
  where
    by_test : (b : Bool) → is_of_site site x ≡ b → cond b (x ∷ filter (is_of_site site) xs) (filter (is_of_site site) xs) ≡ y ∷ rest → (filter (is_of_site site) xs ≡ y ∷ rest → is_of_site site y ≡ true) → is_of_site site y ≡ true
    by_test true e h more = ap (is_of_site site) (sym (head_of x y _ _ h)) ∙ e
    by_test false e h more = more h

-- it is among them
none_within : (test : ObjectOp → Bool) (site : List ℕ) (xs : Ops) (y : ObjectOp) (rest : Ops) → filter (is_of_site site) xs ≡ y ∷ rest → list_any test xs ≡ false → test y ≡ false
none_within test site [] y rest h none = cc
none_within test site (x ∷ xs) y rest h none = by_test (is_of_site site x) h (neither (test x) (list_any test xs) none) (none_within test site xs y rest)
  where
    neither : (a b : Bool) → (a || b) ≡ false → (a ≡ false) × (b ≡ false)
    neither true b h = cc
    neither false b h = (refl, h)

    by_test : (b : Bool) → cond b (x ∷ filter (is_of_site site) xs) (filter (is_of_site site) xs) ≡ y ∷ rest → (test x ≡ false) × (list_any test xs ≡ false) → (filter (is_of_site site) xs ≡ y ∷ rest → list_any test xs ≡ false → test y ≡ false) → test y ≡ false
    by_test true h both more = ap test (sym (head_of x y _ _ h)) ∙ both.0
    by_test false h both more = more h both.1

all_within : (Fits : ObjectOp → Type 0) (site : List ℕ) (xs : Ops) (y : ObjectOp) (rest : Ops) → filter (is_of_site site) xs ≡ y ∷ rest → AllByRecursion Fits xs → Fits y
all_within Fits site [] y rest h fits = cc
all_within Fits site (x ∷ xs) y rest h fits = by_test (is_of_site site x) h (all_within Fits site xs y rest)
  where
    by_test : (b : Bool) → cond b (x ∷ filter (is_of_site site) xs) (filter (is_of_site site) xs) ≡ y ∷ rest → (filter (is_of_site site) xs ≡ y ∷ rest → AllByRecursion Fits xs → Fits y) → Fits y
    by_test true h more = subst Fits (head_of x y _ _ h) fits.0
    by_test false h more = more h fits.1

-- what is left

others_left : (site : List ℕ) (xs : Ops) (y : ObjectOp) (rest : Ops) (other : List ℕ) → is_of_site other y ≡ false → filter (is_of_site site) xs ≡ y ∷ rest → filter (is_of_site other) (without site xs) ≡ filter (is_of_site other) xs
others_left site [] y rest other apart h = cc
others_left site (x ∷ xs) y rest other apart h = by_test (is_of_site site x) h (others_left site xs y rest other apart)
  where
    by_test : (b : Bool) → cond b (x ∷ filter (is_of_site site) xs) (filter (is_of_site site) xs) ≡ y ∷ rest
        → (filter (is_of_site site) xs ≡ y ∷ rest → filter (is_of_site other) (without site xs) ≡ filter (is_of_site other) xs)
        → filter (is_of_site other) (cond b xs (x ∷ without site xs)) ≡ filter (is_of_site other) (x ∷ xs)
    by_test true h more = sym (ap (λ (b : Bool). cond b (x ∷ filter (is_of_site other) xs) (filter (is_of_site other) xs)) (ap (is_of_site other) (head_of x y _ _ h) ∙ apart))
    by_test false h more = ap (λ (ys : Ops). cond (is_of_site other x) (x ∷ ys) ys) (more h)

own_left : (site : List ℕ) (xs : Ops) (y : ObjectOp) (rest : Ops) → filter (is_of_site site) xs ≡ y ∷ rest → filter (is_of_site site) (without site xs) ≡ rest
own_left site [] y rest h = cc
own_left site (x ∷ xs) y rest h = by_test (is_of_site site x) refl h (own_left site xs y rest)
  where
    by_test : (b : Bool) → is_of_site site x ≡ b → cond b (x ∷ filter (is_of_site site) xs) (filter (is_of_site site) xs) ≡ y ∷ rest
        → (filter (is_of_site site) xs ≡ y ∷ rest → filter (is_of_site site) (without site xs) ≡ rest)
        → filter (is_of_site site) (cond b xs (x ∷ without site xs)) ≡ rest
    by_test true e h more = tail_of x y _ _ h
    by_test false e h more = ap (λ (b : Bool). cond b (x ∷ filter (is_of_site site) (without site xs)) (filter (is_of_site site) (without site xs))) e ∙ more h

none_left : (test : ObjectOp → Bool) (site : List ℕ) (xs : Ops) → list_any test xs ≡ false → list_any test (without site xs) ≡ false
none_left test site [] h = refl
none_left test site (x ∷ xs) h = by_both (test x) (list_any test xs) h (is_of_site site x) refl refl (none_left test site xs)
  where
    by_both : (a b : Bool) → (a || b) ≡ false → (c : Bool) → test x ≡ a → list_any test xs ≡ b → (list_any test xs ≡ false → list_any test (without site xs) ≡ false) → list_any test (cond c xs (x ∷ without site xs)) ≡ false
    by_both true b h c e k more = cc
    by_both false b h true e k more = k ∙ h
    by_both false b h false e k more = ap (λ (t : Bool). t || list_any test (without site xs)) e ∙ more (k ∙ h)

all_left : (Fits : ObjectOp → Type 0) (site : List ℕ) (xs : Ops) → AllByRecursion Fits xs → AllByRecursion Fits (without site xs)
all_left Fits site [] h = tt
all_left Fits site (x ∷ xs) h = by_test (is_of_site site x) (all_left Fits site xs h.1)
  where
    by_test : (b : Bool) → AllByRecursion Fits (without site xs) → AllByRecursion Fits (cond b xs (x ∷ without site xs))
    by_test true more = h.1
    by_test false more = (h.0, more)

serials_left : (site : List ℕ) (xs : Ops) → list_all has_serial xs ≡ true → list_all has_serial (without site xs) ≡ true
serials_left site [] h = refl
serials_left site (x ∷ xs) h = by_both (has_serial x) (list_all has_serial xs) h (is_of_site site x) refl refl (serials_left site xs)
  where
    by_both : (a b : Bool) → (a && b) ≡ true → (c : Bool) → has_serial x ≡ a → list_all has_serial xs ≡ b → (list_all has_serial xs ≡ true → list_all has_serial (without site xs) ≡ true) → list_all has_serial (cond c xs (x ∷ without site xs)) ≡ true
    by_both false b h c e k more = cc
    by_both true b h true e k more = k ∙ h
    by_both true b h false e k more = ap (λ (t : Bool). t && list_all has_serial (without site xs)) e ∙ more (k ∙ h)

-- LISTS THAT AGREE

first_serial : (x : ObjectOp) (xs : Ops) → list_all has_serial (x ∷ xs) ≡ true → has_serial x ≡ true
first_serial x xs h = by (has_serial x) h
  where
    by : (a : Bool) → (a && list_all has_serial xs) ≡ true → a ≡ true
    by true h = refl
    by false h = h

rest_serials : (x : ObjectOp) (xs : Ops) → list_all has_serial (x ∷ xs) ≡ true → list_all has_serial xs ≡ true
rest_serials x xs h = by (has_serial x) h
  where
    by : (a : Bool) → (a && list_all has_serial xs) ≡ true → list_all has_serial xs ≡ true
    by true h = h
    by false h = cc

front_of : (site : List ℕ) (x : ObjectOp) (xs : Ops) → is_of_site site x ≡ true → filter (is_of_site site) (x ∷ xs) ≡ x ∷ filter (is_of_site site) xs
front_of site x xs h = rw h refl

skip_of : (site : List ℕ) (x : ObjectOp) (xs : Ops) → is_of_site site x ≡ false → filter (is_of_site site) (x ∷ xs) ≡ filter (is_of_site site) xs
skip_of site x xs h = rw h refl

none_but : (x : ObjectOp) (xs : Ops) (serial : Option OpSerial) → x.serial ≡ serial → has_serial x ≡ true → ((site : List ℕ) → filter (is_of_site site) (x ∷ xs) ≡ []) → true ≡ false
none_but x xs None e has none = cc
none_but x xs (Some s) e has none =
    let own : is_of_site s.site x ≡ true = ap (has_site s.site) e ∙ texts_itself s.site in
    cc (sym (front_of s.site x xs own) ∙ none s.site)

same_left : (site : List ℕ) (xs ys : Ops) (y : ObjectOp) (other : List ℕ) (b : Bool) → is_of_site other y ≡ b → (has_site other y.serial ≡ true → other ≡ site) → is_of_site site y ≡ true
    → filter (is_of_site site) xs ≡ y ∷ filter (is_of_site site) ys → filter (is_of_site other) xs ≡ filter (is_of_site other) (y ∷ ys) → filter (is_of_site other) (without site xs) ≡ filter (is_of_site other) ys
same_left site xs ys y other true e one own h same =
    subst (λ (t : List ℕ). filter (is_of_site t) (without site xs) ≡ filter (is_of_site t) ys) (sym (one e)) (own_left site xs y (filter (is_of_site site) ys) h)
same_left site xs ys y other false e one own h same = others_left site xs y (filter (is_of_site site) ys) other e h ∙ same ∙ skip_of other y ys e

one_site : (y : ObjectOp) (s : OpSerial) (other : List ℕ) → y.serial ≡ Some s → has_site other y.serial ≡ true → other ≡ s.site
one_site y s other e h = texts_same other s.site (sym (ap (has_site other) e) ∙ h)

-- what is taken one after another

abbrev pub steps : (State : Type 0) → (ObjectOp → State → State) → Ops → State → State
steps State step [] state = state
steps State step (op ∷ ops) state = steps State step ops (step op state)

module _ (State : Type 0) (step : ObjectOp → State → State) (clash : ObjectOp → ObjectOp → Bool) (Fits : ObjectOp → Type 0) (swap : (x y : ObjectOp) (state : State) (site : List ℕ) → has_site site x.serial ≡ false → has_site site y.serial ≡ true → clash x y ≡ false → Fits x → Fits y → step y (step x state) ≡ step x (step y state)) where
  abbrev pub Once : Ops → Type 0
  Once [] = ⊤
  Once (x ∷ xs) = (list_any (clash x) xs ≡ false) × Once xs

  once_left : (site : List ℕ) (xs : Ops) → Once xs → Once (without site xs)
  once_left site [] h = tt
  once_left site (x ∷ xs) h = by_test (is_of_site site x) (once_left site xs h.1)
    where
      by_test : (b : Bool) → Once (without site xs) → Once (cond b xs (x ∷ without site xs))
      by_test true more = h.1
      by_test false more = (none_left (clash x) site xs h.0, more)

  -- the first of a site may be taken first
  pulled : (site : List ℕ) (xs : Ops) (y : ObjectOp) (rest : Ops) (state : State) → Once xs → AllByRecursion Fits xs → filter (is_of_site site) xs ≡ y ∷ rest → steps State step xs state ≡ steps State step (without site xs) (step y state)
  pulled site [] y rest state once fits h = cc
  pulled site (x ∷ xs) y rest state once fits h = by_test (is_of_site site x) refl h (pulled site xs y rest (step x state) once.1 fits.1)
    where
      by_test : (b : Bool) → is_of_site site x ≡ b → cond b (x ∷ filter (is_of_site site) xs) (filter (is_of_site site) xs) ≡ y ∷ rest
          → (filter (is_of_site site) xs ≡ y ∷ rest → steps State step xs (step x state) ≡ steps State step (without site xs) (step y (step x state)))
          → steps State step (x ∷ xs) state ≡ steps State step (cond b xs (x ∷ without site xs)) (step y state)
      by_test true e h more = ap (λ (one : ObjectOp). steps State step xs (step one state)) (head_of x y _ _ h)
      by_test false e h more =
          more h
          ∙ ap (steps State step (without site xs)) (swap x y state site e (of_it site xs y rest h) (none_within (clash x) site xs y rest h once.0) fits.0 (all_within Fits site xs y rest h fits.1))

  agree_none : (xs : Ops) (state : State) → list_all has_serial xs ≡ true → ((site : List ℕ) → filter (is_of_site site) xs ≡ []) → steps State step xs state ≡ state
  agree_none [] state has none = refl
  agree_none (x ∷ xs) state has none = cc (none_but x xs x.serial refl (first_serial x xs has) none)

  agree_from : (xs ys : Ops) (y : ObjectOp) (state : State) (serial : Option OpSerial) → y.serial ≡ serial → has_serial y ≡ true → Once xs → AllByRecursion Fits xs → list_all has_serial xs ≡ true
      → ((site : List ℕ) → filter (is_of_site site) xs ≡ filter (is_of_site site) (y ∷ ys))
      → ((more : Ops) → Once more → AllByRecursion Fits more → list_all has_serial more ≡ true → ((site : List ℕ) → filter (is_of_site site) more ≡ filter (is_of_site site) ys) → steps State step more (step y state) ≡ steps State step ys (step y state))
      → steps State step xs state ≡ steps State step ys (step y state)
  agree_from xs ys y state None e has once fits serials same rest = cc
  agree_from xs ys y state (Some s) e has once fits serials same rest =
      let own : is_of_site s.site y ≡ true = ap (has_site s.site) e ∙ texts_itself s.site in
      let h : filter (is_of_site s.site) xs ≡ y ∷ filter (is_of_site s.site) ys = same s.site ∙ front_of s.site y ys own in
      pulled s.site xs y (filter (is_of_site s.site) ys) state once fits h
      ∙ rest (without s.site xs) (once_left s.site xs once) (all_left Fits s.site xs fits) (serials_left s.site xs serials)
      (λ site. same_left s.site xs ys y site (is_of_site site y) refl (one_site y s site e) own h (same site))

  pub agree : (ys xs : Ops) (state : State) → Once xs → AllByRecursion Fits xs → list_all has_serial xs ≡ true → list_all has_serial ys ≡ true → ((site : List ℕ) → filter (is_of_site site) xs ≡ filter (is_of_site site) ys) → steps State step xs state ≡ steps State step ys state
  agree [] xs state once fits serials others same = agree_none xs state serials same
  agree (y ∷ ys) xs state once fits serials others same =
      agree_from xs ys y state y.serial refl (first_serial y ys others) once fits serials same
      (λ more once2 fits2 serials2 same2. agree ys more (step y state) once2 fits2 serials2 (rest_serials y ys others) same2)
