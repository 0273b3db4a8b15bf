-- The laws of the book.
use Rattle.std.proofs.Common.{◌≡◌, ℕ, ◌+◌, ◌-◌, ◌^◌, ◌≤◌, ◌<◌, inl, inr, Bool, true, false, List, [], ◌∷◌, ◌++◌, reverse, subst, ap, sym, ◌∙◌, arith, cond, refl}
use Rattle.std.specs.Prelude.{if◌then◌else◌}
use Rattle.std.proofs.lemmas.Bool.Decides.{nat_tests}
use Rattle.std.proofs.lemmas.List.{reverse-append, append_assoc}
use Rattle.rl_events.specs.declared.book.BookEvent.{BookEvent}
use Rattle.rl_events.specs.declared.book.BookEvent.TheVariants.{Open, Resume, Close, Expire}
use Rattle.rl_events.specs.declared.book.BookReply.{BookReply}
use Rattle.rl_events.specs.declared.book.BookReply.TheVariants.{Opened, Done}
use Rattle.rl_connbook.specs.declared.range.NumberRange.{NumberRange}
use Rattle.rl_connbook.specs.declared.record.Standing.{Standing}
use Rattle.rl_connbook.specs.Records.{Answered, concerns, is_of, story, generation_of, generation_after, standing_of, raised, is_open}
use Rattle.rl_connbook.specs.Book.{Book, book_of, decided, answered, numbers, last_number, told}
use Rattle.rl_connbook.specs.Laws.{SomeOf, IsIn, IsWithin, Gives, IsEndOf, NumbersRise, NumbersAreWithin, NumbersAreGivenOnce, LimitsAreReached, GoneNumbersStayAway, GenerationsNeverFall, KnownOutcomesCameByEnds, BusyConnectionsStay}
use Rattle.rl_connbook.proofs.Each.{all_weaker, some_reversed}
use Rattle.rl_connbook.proofs.History.{Follows, follows}
use Rattle.rl_connbook.proofs.Numbers.{given_all, rising_all, bound_all, count_all, last_all, limit_reached, gone_all, new_number, last_given, expired_gone, expired_idle}
use Rattle.rl_connbook.proofs.Outcomes.{known_is_end}

-- GENERATIONS

generation_small : (event : BookEvent) (reply : BookReply) (s : Standing) (g : ℕ) → g ≤ 2 ^ 64 - 1 → generation_after event reply s g ≤ 2 ^ 64 - 1
generation_small (Open word now) reply s g small = omega arith
generation_small (Resume key now) reply s g small = omega arith
generation_small (Close conn generation) Done s g small = by_open (is_open s)
  where
    by_open : (b : Bool) → (if b then raised g else g) ≤ 2 ^ 64 - 1
    by_open true = omega arith
    by_open false = small
generation_small (Close conn generation) reply s g small = small
generation_small event reply s g small = small

generations_small : (st : List Answered) → generation_of st ≤ 2 ^ 64 - 1
generations_small [] = omega arith
generations_small (a ∷ st) = generation_small a.event a.reply (standing_of st) (generation_of st) (generations_small st)

generation_rises : (n : ℕ) (event : BookEvent) (reply : BookReply) (s : Standing) (g last : ℕ) → Follows event reply last → n ≤ last → g ≤ 2 ^ 64 - 1 → is_of n event reply ≡ true → g ≤ generation_after event reply s g
generation_rises n (Open word now) (Opened conn generation key) s g last is low small of = let same : conn ≡ n = grind (arith, nat_tests, of) in absurd (omega (arith, is, low, same))
generation_rises n (Open word now) reply s g last is low small of = absurd (cc)
generation_rises n (Resume key now) reply s g last is low small of = omega (arith, small)
generation_rises n (Close conn generation) Done s g last is low small of = by_open (is_open s)
  where
    by_open : (b : Bool) → g ≤ (if b then raised g else g)
    by_open true = omega (arith, small)
    by_open false = omega arith
generation_rises n (Close conn generation) reply s g last is low small of = omega arith
generation_rises n event reply s g last is low small of = omega arith

generation_by : (b : Bool) (a : Answered) (st : List Answered) → (b ≡ true → generation_of st ≤ generation_after a.event a.reply (standing_of st) (generation_of st)) → generation_of st ≤ generation_of (cond b (a ∷ st) st)
generation_by true a st rises = rises refl
generation_by false a st rises = omega arith

pub generation_stays : (range : NumberRange) (n : ℕ) (event : BookEvent) (before : List Answered) → n ≤ last_number range before → generation_of (story n before) ≤ generation_of (story n (answered range event before ∷ before))
generation_stays range n event before low =
    let a = answered range event before in
    generation_by (concerns n a) a (story n before)
    (λ of. generation_rises n event a.reply (standing_of (story n before)) (generation_of (story n before)) (last_number range before) (follows event (book_of range before)) low (generations_small (story n before)) of)

generations_all : (range : NumberRange) (past more : List BookEvent) (conn : ℕ) → conn ≤ last_number range (decided range past) → generation_of (story conn (decided range past)) ≤ generation_of (story conn (decided range (more ++ past)))
generations_all range past [] conn low = omega arith
generations_all range past (event ∷ more) conn low =
    omega (arith, generations_all range past more conn low, generation_stays range conn event (decided range (more ++ past)) (omega (arith, low, last_all range past more)))

-- HISTORIES

-- a history is told with the latest event first
reverse_split : (past more : List BookEvent) (event : BookEvent) → reverse (past ++ event ∷ more) ≡ reverse more ++ event ∷ reverse past
reverse_split past more event =
    reverse-append past (event ∷ more)
    ∙ ap (λ (events : List BookEvent). events ++ reverse past) (reverse-append (event ∷ []) more)
    ∙ append_assoc (reverse more) (event ∷ []) (reverse past)

above_at : (range : NumberRange) (past more : List BookEvent) (earlier later : BookEvent) (first second : ℕ) → Gives first (told (book_of range (decided range past)) earlier) → Gives second (told (book_of range (decided range (more ++ earlier ∷ past))) later) → first < second
above_at range past more earlier later first second one two =
    let d = decided range (more ++ earlier ∷ past) in
    let here : first ≡ last_number range (decided range (earlier ∷ past)) = last_given range earlier (decided range past) first one in
    let there : second ≡ last_number range d + 1 = (new_number second later (book_of range d) two).0 in
    omega (arith, here, there, last_all range (earlier ∷ past) more)

within_at : (range : NumberRange) (conn : ℕ) (book : Book) (count : ℕ) → book.last_given ≡ range.after + count → book.range ≡ range → (conn ≡ book.last_given + 1) × (book.last_given < book.range.last) → IsWithin range conn
within_at range conn book count last same new =
    let top : book.range.last ≡ range.last = ap (λ (r : NumberRange). r.last) same in
    (omega (arith, last, new.0), omega (arith, new.0, new.1, top))

-- the event of an answered one
event_of : (P : BookEvent → Type 0) (range : NumberRange) (past : List BookEvent) → SomeOf (λ (a : Answered). P a.event) (decided range past) → SomeOf P past
event_of P range [] some = absurd some
event_of P range (event ∷ past) (inl p) = inl p
event_of P range (event ∷ past) (inr some) = inr (event_of P range past some)

-- THE LAWS

pub numbers_rise : NumbersRise
numbers_rise range past = rising_all range (reverse past)

pub numbers_are_within : NumbersAreWithin
numbers_are_within range past =
    let d = decided range (reverse past) in
    all_weaker _ _ (λ n h. (h.0, omega (arith, h.0, h.1, bound_all range (reverse past)))) (numbers d) (given_all range (reverse past))

pub numbers_are_given_once : NumbersAreGivenOnce
numbers_are_given_once = record {
  within = λ range past event conn gives. within_at range conn (book_of range (decided range (reverse past))) _ refl refl (new_number conn event (book_of range (decided range (reverse past))) gives);
  above = λ range past more earlier later first second one two. above_at range (reverse past) (reverse more) earlier later first second one
      (subst (λ (events : List BookEvent). Gives second (told (book_of range (decided range events)) later)) (reverse_split past more earlier) two);
}

pub limits_are_reached : LimitsAreReached
limits_are_reached range past event count given some is = limit_reached range event (decided range (reverse past)) count given (bound_all range (reverse past)) (count_all range (reverse past)) some is

pub gone_numbers_stay_away : GoneNumbersStayAway
gone_numbers_stay_away = record {
  gone = λ range past more conn low away in_. (gone_all range (reverse past) (reverse more) conn (record { given = low; away = away })).away
      (subst (λ (events : List BookEvent). IsIn conn (numbers (decided range events))) (reverse-append past more) in_);
  expired = λ range past more now. all_weaker _ _ (λ conn gone in_. (gone_all range (Expire now ∷ reverse past) (reverse more) conn gone).away
      (subst (λ (events : List BookEvent). IsIn conn (numbers (decided range events))) (reverse_split past more (Expire now)) in_)) _ (expired_gone range now (decided range (reverse past)) (given_all range (reverse past)));
}

pub generations_never_fall : GenerationsNeverFall
generations_never_fall range past more conn low =
    subst (λ (events : List BookEvent). generation_of (story conn (decided range (reverse past))) ≤ generation_of (story conn (decided range events))) (sym (reverse-append past more))
    (generations_all range (reverse past) (reverse more) conn low)

pub known_outcomes_came_by_ends : KnownOutcomesCameByEnds
known_outcomes_came_by_ends range past conn generation serial outcome is =
    some_reversed (IsEndOf conn serial outcome) past
    (event_of (IsEndOf conn serial outcome) range (reverse past) (known_is_end range conn generation serial outcome (decided range (reverse past)) is))

pub busy_connections_stay : BusyConnectionsStay
busy_connections_stay range past now = expired_idle range now (decided range (reverse past))
