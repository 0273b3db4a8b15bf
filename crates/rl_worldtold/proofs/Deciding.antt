-- A channel decides a connection's serial once, where no Put of a connection stands behind a Gone of it.
use Rattle.std.proofs.Common.{◌≡◌, ◌⊎◌, inl, inr, ℕ, ◌+◌, ◌<◌, Bool, true, false, List, [], ◌∷◌, length, refl, sym, ◌∙◌, ap, subst, arith}
use Rattle.std.specs.Prelude.{Option, Some, None, ◌==◌, if◌then◌else◌, nat_lt, option_to_list}
use Rattle.std.specs.List.{AllByRecursion}
use Rattle.std.proofs.lemmas.Bool.Decides.{nat_tests}
use Rattle.rl_types.specs.declared.messages.Body.{Body}
use Rattle.rl_types.specs.declared.messages.Entry.{Entry}
use Rattle.rl_events.specs.declared.channel.ChannelEvent.{ChannelEvent}
use Rattle.rl_events.specs.declared.channel.ChannelEvent.TheVariants.{Put, Gone}
use Rattle.rl_events.specs.declared.channel.Verdict.{Verdict}
use Rattle.rl_events.specs.declared.channel.Verdict.TheVariants.{Done, Old}
use Rattle.rl_events.specs.declared.channel.Outcome.{Outcome}
use Rattle.rl_events.specs.declared.channel.Outcome.TheVariants.{Taken, Refused}
use Rattle.rl_connbook.specs.Laws.{SomeOf}
use Rattle.rl_connbook.proofs.Each.{all_weaker, some_split}
use Rattle.rl_model.specs.History.{setting}
use Rattle.rl_model.specs.Objects.{object_rule}
use Rattle.rl_model.specs.Verdict.{Decision, decisions, decided, kept, kept_at, verdict, verdict_at, Judgement, Stale, Again, Adds, judged, judged_by_serial, judged_by_id, judged_by_rules, entries, log, remembered_of, fails_or, limit_rule, told, entry_if, entry_of, entry_of_gone, members_on}
use Rattle.rl_worldmodel.specs.World.{the_site}
use Rattle.rl_worldtold.specs.Orderly.{IsGoneOf, IsBefore, ArePutsBefore, HasPutsBefore}
use Rattle.rl_worldtold.specs.Decided.{IsDecidedAs, HasDecidedOnce, ChannelsDecideOnce}
use Rattle.rl_worldtold.proofs.Runs.{runs_so}
use Rattle.rl_worldtold.proofs.Orderly.{gone_serial, puts_come_before_gone}

-- what a channel decided, and what it made of one event more
abbrev pub made : List ChannelEvent → List Decision
made past = decisions the_site past

abbrev now_made : ChannelEvent → List ChannelEvent → Decision
now_made event past = decided (setting the_site (event ∷ past)) (decisions the_site past) event

-- the outcome that is kept is of a serial above this one, or of this one and the same
abbrev IsKeptAbove : ℕ → Outcome → Option (ℕ × Outcome) → Type 0
IsKeptAbove serial outcome None = ⊥
IsKeptAbove serial outcome (Some last) = (serial < last.0) ⊎ ((serial ≡ last.0) × (outcome ≡ last.1))

-- ONE PUT MORE OF THE SAME CONNECTION

abbrev after_put : ℕ → Verdict → Option (ℕ × Outcome) → Option (ℕ × Outcome)
after_put serial (Done outcome) earlier = Some (serial, outcome)
after_put serial Old earlier = earlier

kept_same : (conn c serial now : ℕ) (body : Body) (v : Verdict) (k : Option (ℕ × Outcome)) → (c == conn) ≡ true → kept_at conn (Put c serial body now) (Some v) k ≡ after_put serial v k
kept_same conn c serial now body (Done outcome) k is = ap (λ (b : Bool). if b then Some (serial, outcome) else k) is
kept_same conn c serial now body Old k is = refl

kept_other : (conn c serial now : ℕ) (body : Body) (v : Verdict) (k : Option (ℕ × Outcome)) → (c == conn) ≡ false → kept_at conn (Put c serial body now) (Some v) k ≡ k
kept_other conn c serial now body (Done outcome) k is = ap (λ (b : Bool). if b then Some (serial, outcome) else k) is
kept_other conn c serial now body Old k is = refl

later : (s0 s last : ℕ) (o0 : Outcome) (v : Verdict) (out : Outcome) → (s0 < last) ⊎ ((s0 ≡ last) × (o0 ≡ out)) → (nat_lt s last ≡ false) → (s == last) ≡ false → IsKeptAbove s0 o0 (after_put s v (Some (last, out)))
later s0 s last o0 (Done x) out (inl less) not_less not_same = inl (grind (arith, nat_tests, less, not_less))
later s0 s last o0 (Done x) out (inr same) not_less not_same = let it : s0 ≡ last = same.0 in inl (grind (arith, nat_tests, it, not_less, not_same))
later s0 s last o0 Old out above not_less not_same = above

put_by : (b c : Bool) (s0 s last head : ℕ) (o0 out : Outcome) (j : Judgement) → nat_lt s last ≡ b → (s == last) ≡ c → (s0 < last) ⊎ ((s0 ≡ last) × (o0 ≡ out))
    → IsKeptAbove s0 o0 (after_put s (verdict_at head (if b then Stale else if c then Again out else j)) (Some (last, out)))
put_by true c s0 s last head o0 out j less same above = above
put_by false true s0 s last head o0 out j less same above = again above
  where
    is : s ≡ last
    is = grind (arith, nat_tests, same)

    again : (s0 < last) ⊎ ((s0 ≡ last) × (o0 ≡ out)) → (s0 < s) ⊎ ((s0 ≡ s) × (o0 ≡ out))
    again (inl below) = inl (omega (arith, below, is))
    again (inr it) = inr (it.0 ∙ sym is, it.1)
put_by false false s0 s last head o0 out j less same above = later s0 s last o0 (verdict_at head j) out above less same

put_keeps : (k : Option (ℕ × Outcome)) (s0 s head : ℕ) (o0 : Outcome) (j : Judgement) → IsKeptAbove s0 o0 k → IsKeptAbove s0 o0 (after_put s (verdict_at head (judged_by_serial s k j)) k)
put_keeps None s0 s head o0 j above = absurd above
put_keeps (Some last) s0 s head o0 j above = put_by (nat_lt s last.0) (s == last.0) s0 s last.0 head o0 last.1 j refl refl above

-- the same serial again has the same outcome
same_by : (b c : Bool) (s last head : ℕ) (o0 out o : Outcome) (j : Judgement) → nat_lt s last ≡ b → (s == last) ≡ c → (s < last) ⊎ ((s ≡ last) × (o0 ≡ out)) → verdict_at head (if b then Stale else if c then Again out else j) ≡ Done o → o0 ≡ o
same_by true c s last head o0 out o j less same above is = absurd (cc)
same_by false true s last head o0 out o j less same (inl below) is = absurd (grind (arith, nat_tests, below, less))
same_by false true s last head o0 out o j less same (inr it) is = let one : out ≡ o = cc in it.1 ∙ one
same_by false false s last head o0 out o j less same (inl below) is = absurd (grind (arith, nat_tests, below, less))
same_by false false s last head o0 out o j less same (inr it) is = let one : s ≡ last = it.0 in absurd (grind (arith, nat_tests, one, same))

put_same : (k : Option (ℕ × Outcome)) (s head : ℕ) (o0 o : Outcome) (j : Judgement) → IsKeptAbove s o0 k → verdict_at head (judged_by_serial s k j) ≡ Done o → o0 ≡ o
put_same None s head o0 o j above is = absurd above
put_same (Some last) s head o0 o j above is = same_by (nat_lt s last.0) (s == last.0) s last.0 head o0 last.1 o j refl refl above is

-- ONE EVENT MORE

-- what decides where the serial does not
abbrev next_of : ChannelEvent → List ChannelEvent → ℕ → Body → Judgement
next_of event past conn body =
    judged_by_id (remembered_of body (made past))
    (judged_by_rules (length (entries (made past))) body
    (fails_or (limit_rule (told (made past)) conn body)
    (fails_or (object_rule (setting the_site (event ∷ past)) (entries (made past)) body)
    Adds)))

put_event : (conn c serial now s0 : ℕ) (o0 : Outcome) (body : Body) (past : List ChannelEvent) (b : Bool) → (c == conn) ≡ b → SomeOf (IsGoneOf conn) past ⊎ IsKeptAbove s0 o0 (kept conn (made past))
    → SomeOf (IsGoneOf conn) (Put c serial body now ∷ past) ⊎ IsKeptAbove s0 o0 (kept conn (made (Put c serial body now ∷ past)))
put_event conn c serial now s0 o0 body past b is (inl gone) = inl (inr gone)
put_event conn c serial now s0 o0 body past true is (inr above) =
    let same : c ≡ conn = grind (arith, nat_tests, is) in
    inr (subst (IsKeptAbove s0 o0) (sym (kept_same conn c serial now body (verdict (setting the_site (Put c serial body now ∷ past)) (made past) c serial body) (kept conn (made past)) is))
    (subst (λ m. IsKeptAbove s0 o0 (after_put serial (verdict_at (length (entries (made past))) (judged_by_serial serial (kept m (made past)) (next_of (Put c serial body now) past c body))) (kept conn (made past)))) (sym same)
    (put_keeps (kept conn (made past)) s0 serial (length (entries (made past))) o0 (next_of (Put c serial body now) past c body) above)))
put_event conn c serial now s0 o0 body past false is (inr above) =
    inr (subst (IsKeptAbove s0 o0) (sym (kept_other conn c serial now body (verdict (setting the_site (Put c serial body now ∷ past)) (made past) c serial body) (kept conn (made past)) is)) above)

gone_event : (conn c now s0 : ℕ) (o0 : Outcome) (past : List ChannelEvent) (b : Bool) → (c == conn) ≡ b → SomeOf (IsGoneOf conn) past ⊎ IsKeptAbove s0 o0 (kept conn (made past))
    → SomeOf (IsGoneOf conn) (Gone c now ∷ past) ⊎ IsKeptAbove s0 o0 (if b then None else kept conn (made past))
gone_event conn c now s0 o0 past b is (inl gone) = inl (inr gone)
gone_event conn c now s0 o0 past true is (inr above) = inl (inl (grind (arith, nat_tests, is)))
gone_event conn c now s0 o0 past false is (inr above) = inr above

any_event : (event : ChannelEvent) (past : List ChannelEvent) (conn s0 : ℕ) (o0 : Outcome) → SomeOf (IsGoneOf conn) past ⊎ IsKeptAbove s0 o0 (kept conn (made past))
    → SomeOf (IsGoneOf conn) (event ∷ past) ⊎ IsKeptAbove s0 o0 (kept conn (made (event ∷ past)))
any_event (Put c serial body now) past conn s0 o0 h = put_event conn c serial now s0 o0 body past (c == conn) refl h
any_event (Gone c now) past conn s0 o0 h = gone_event conn c now s0 o0 past (c == conn) refl h
any_event event past conn s0 o0 (inl gone) = inl (inr gone)
any_event event past conn s0 o0 (inr above) = inr above

-- A DECIDED PUT IS REMEMBERED

new_kept : (conn c serial s now : ℕ) (body : Body) (outcome : Outcome) (v : Verdict) (k : Option (ℕ × Outcome)) → c ≡ conn → s ≡ serial → Some v ≡ Some (Done outcome) → IsKeptAbove serial outcome (kept_at conn (Put c s body now) (Some v) k)
new_kept conn c serial s now body outcome v k same at is =
    let it : v ≡ Done outcome = cc in
    let self : (c == conn) ≡ true = grind (arith, nat_tests, same) in
    subst (IsKeptAbove serial outcome) (sym (kept_same conn c s now body v k self)) (subst (λ (w : Verdict). IsKeptAbove serial outcome (after_put s w k)) (sym it) (inr (sym at, refl)))

new_decided : (event : ChannelEvent) (past : List ChannelEvent) (conn serial : ℕ) (outcome : Outcome) → IsDecidedAs conn serial outcome (now_made event past) → IsKeptAbove serial outcome (kept conn (made (event ∷ past)))
new_decided (Put c s body now) past conn serial outcome is = new_kept conn c serial s now body outcome (verdict (setting the_site (Put c s body now ∷ past)) (made past) c s body) (kept conn (made past)) is.0.0 is.0.1 is.1
new_decided event past conn serial outcome is = absurd is.0

-- while its connection was not given up
remembered : (past : List ChannelEvent) (conn serial : ℕ) (outcome : Outcome) → SomeOf (IsDecidedAs conn serial outcome) (made past) → SomeOf (IsGoneOf conn) past ⊎ IsKeptAbove serial outcome (kept conn (made past))
remembered [] conn serial outcome some = absurd some
remembered (event ∷ past) conn serial outcome (inl here) = inr (new_decided event past conn serial outcome here)
remembered (event ∷ past) conn serial outcome (inr some) = any_event event past conn serial outcome (remembered past conn serial outcome some)

-- ONE OUTCOME

again_same : (event : ChannelEvent) (past : List ChannelEvent) (conn serial : ℕ) (o0 o : Outcome) → IsBefore past event → SomeOf (IsGoneOf conn) past ⊎ IsKeptAbove serial o0 (kept conn (made past)) → IsDecidedAs conn serial o (now_made event past) → o0 ≡ o
again_same (Put c s body now) past conn serial o0 o before (inl gone) is = absurd (before (subst (λ m. SomeOf (IsGoneOf m) past) (sym is.0.0) gone))
again_same (Put c s body now) past conn serial o0 o before (inr above) is =
    let v : verdict (setting the_site (Put c s body now ∷ past)) (made past) c s body ≡ Done o = cc in
    put_same (kept c (made past)) s (length (entries (made past))) o0 o (next_of (Put c s body now) past c body)
    (subst (λ m. IsKeptAbove m o0 (kept c (made past))) (sym is.0.1) (subst (λ m. IsKeptAbove serial o0 (kept m (made past))) (sym is.0.0) above)) v
again_same event past conn serial o0 o before h is = absurd is.0

one_outcome : (past : List ChannelEvent) → ArePutsBefore past → (conn serial : ℕ) (o1 o2 : Outcome) → SomeOf (IsDecidedAs conn serial o1) (made past) → SomeOf (IsDecidedAs conn serial o2) (made past) → o1 ≡ o2
one_outcome [] puts conn serial o1 o2 some more = absurd some
one_outcome (event ∷ past) puts conn serial o1 o2 (inl a) (inl b) = let two : Some (Done o1) ≡ Some (Done o2) = sym a.1 ∙ b.1 in cc
one_outcome (event ∷ past) puts conn serial o1 o2 (inl a) (inr b) = sym (again_same event past conn serial o2 o1 puts.0 (remembered past conn serial o2 b) a)
one_outcome (event ∷ past) puts conn serial o1 o2 (inr a) (inl b) = again_same event past conn serial o1 o2 puts.0 (remembered past conn serial o1 a) b
one_outcome (event ∷ past) puts conn serial o1 o2 (inr a) (inr b) = one_outcome past puts.1 conn serial o1 o2 a b

-- ENTRIES

abbrev pub IsEntryOf : ℕ → ℕ → Entry → Type 0
IsEntryOf conn serial e = (e.conn ≡ conn) × (e.serial ≡ Some serial)

-- an entry with a serial is that of a Put that was taken
entry_put : (j : Judgement) (head : ℕ) (new entry : Entry) → entry_if j new ≡ Some entry → (place : ℕ) × (verdict_at head j ≡ Done (Taken place)) × (new ≡ entry)
entry_put Adds head new entry is = (head + 1, refl, cc)
entry_put j head new entry is = absurd (cc)

in_option : {X : Type 0} → (P : X → Type 0) (o : Option X) → SomeOf P (option_to_list o) → (x : X) × (o ≡ Some x) × P x
in_option P None some = absurd some
in_option P (Some x) (inl p) = (x, refl, p)
in_option P (Some x) (inr none) = absurd none

entry_event : (event : ChannelEvent) (past : List ChannelEvent) (conn serial : ℕ) → SomeOf (IsEntryOf conn serial) (option_to_list (now_made event past).entry) → (place : ℕ) × IsDecidedAs conn serial (Taken place) (now_made event past)
entry_event (Put c s body now) past conn serial some =
    let e = in_option (IsEntryOf conn serial) (entry_if (judged (setting the_site (Put c s body now ∷ past)) (made past) c s body) (entry_of (setting the_site (Put c s body now ∷ past)) (length (entries (made past))) c s body)) some in
    let p = entry_put (judged (setting the_site (Put c s body now ∷ past)) (made past) c s body) (length (entries (made past))) (entry_of (setting the_site (Put c s body now ∷ past)) (length (entries (made past))) c s body) e.0 e.1 in
    let same_conn : c ≡ conn = ap (λ (x : Entry). x.conn) p.2 ∙ e.2.0 in
    let two : Some s ≡ Some serial = ap (λ (x : Entry). x.serial) p.2 ∙ e.2.1 in
    let same_serial : s ≡ serial = cc in
    (p.0, ((same_conn, same_serial), ap (λ (v : Verdict). Some v) p.1))
entry_event (Gone c now) past conn serial some =
    let e = in_option (IsEntryOf conn serial) (entry_of_gone (length (entries (made past))) (setting the_site (Gone c now ∷ past)).now c (members_on c (made past))) some in
    let none : e.0.serial ≡ None = gone_serial (length (entries (made past))) (setting the_site (Gone c now ∷ past)).now c (members_on c (made past)) e.0 e.1 in
    let two : None ≡ Some serial = sym none ∙ e.2.1 in
    absurd (cc)
entry_event event past conn serial some = absurd some

pub entry_decided : (past : List ChannelEvent) (conn serial : ℕ) → SomeOf (IsEntryOf conn serial) (log the_site past) → (place : ℕ) × SomeOf (IsDecidedAs conn serial (Taken place)) (made past)
entry_decided [] conn serial some = absurd some
entry_decided (event ∷ past) conn serial some =
    elim (some_split (IsEntryOf conn serial) (log the_site past) (option_to_list (now_made event past).entry) some) [
      | inl old ↦ (let h = entry_decided past conn serial old in (h.0, inr h.1))
      | inr new ↦ (let h = entry_event event past conn serial new in (h.0, inl h.1))
    ]

none_all : {X : Type 0} → (P Q : X → Type 0) (xs : List X) → (SomeOf (λ x. P x × Q x) xs → ⊥) → AllByRecursion (λ x. P x → Q x → ⊥) xs
none_all P Q [] none = tt
none_all P Q (x ∷ xs) none = (λ p q. none (inl (p, q)), none_all P Q xs (λ some. none (inr some)))

-- where a channel refused a connection's serial it has no entry of it
no_entry : (past : List ChannelEvent) → ArePutsBefore past → (conn serial code : ℕ) → SomeOf (IsDecidedAs conn serial (Refused code)) (made past) → AllByRecursion (λ (e : Entry). e.conn ≡ conn → e.serial ≡ Some serial → ⊥) (log the_site past)
no_entry past puts conn serial code refused =
    none_all (λ (e : Entry). e.conn ≡ conn) (λ (e : Entry). e.serial ≡ Some serial) (log the_site past)
    (λ some. let taken = entry_decided past conn serial some in
    let wrong : Refused code ≡ Taken taken.0 = one_outcome past puts conn serial (Refused code) (Taken taken.0) refused taken.1 in
    absurd (cc))

pub channels_decide_once : ChannelsDecideOnce
channels_decide_once = runs_so HasPutsBefore HasDecidedOnce (λ world h. all_weaker _ _ (λ c puts. record { one = one_outcome c.1 puts; none = no_entry c.1 puts }) world.channels h) puts_come_before_gone
