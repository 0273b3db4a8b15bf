-- An entry that was just added is retained, whatever the channel took before.
use Rattle.std.proofs.Common.{◌≡◌, ℕ, suc, ◌+◌, ◌-◌, ◌≤◌, ◌<◌, ◌^◌, Bool, true, false, List, [], ◌∷◌, ◌++◌, length, take, drop, decimal, refl, ap, sym, ◌∙◌, subst, arith, length-append, length-drop, append-nil}
use Rattle.std.specs.Prelude.{◌||◌, if◌then◌else◌, ◌==◌, nat_lt, sum_by, codes, Option, Some, None, option_to_list}
use Rattle.std.proofs.lemmas.List.{drop-append-le, drop_all, take_all}
use Rattle.std.proofs.lemmas.List.Sums.{sum_by-cons}
use Rattle.std.proofs.lemmas.Fmt.{length-decimal-le}
use Rattle.std.proofs.lemmas.Grind.{common_steps}
use Rattle.rl_base.proofs.Digits.{fixed_lengths}
use Rattle.rl_base.specs.Digits.{fixed_text}
use Rattle.rl_ids.specs.Forms.{conn_text}
use Rattle.rl_types.specs.Weight.{option_len, item_weight, op_weight, presence_weight, body_weight}
use Rattle.rl_events.specs.declared.channel.ChannelEvent.{ChannelEvent}
use Rattle.rl_events.specs.declared.channel.ChannelEvent.TheVariants.{Put, Join, Read, MemberPage, ObjectPage, Gone, Tick, Census}
use Rattle.rl_events.specs.declared.channel.Outcome.{Outcome}
use Rattle.rl_events.specs.declared.channel.ReadReply.TheVariants.{Run, NotRetained}
use Rattle.rl_types.specs.declared.messages.Body.{Body}
use Rattle.rl_types.specs.declared.messages.Body.TheVariants.{Messages, Presence, Objects}
use Rattle.rl_types.specs.declared.messages.Entry.{Entry}
use Rattle.rl_types.specs.declared.messages.Item.{Item}
use Rattle.rl_types.specs.declared.presence.PresenceItem.{PresenceItem}
use Rattle.rl_model.specs.Texts.{made_id}
use Rattle.rl_model.specs.Ids.{filled, filled_id, filled_items, filled_ops, filled_presence, has_long, with_serial}
use Rattle.rl_numbers.specs.declared.limits.TheConstants.{MAX_MESSAGE_SIZE, MAX_PLACE}
use Rattle.rl_numbers.specs.declared.codes.TheConstants.{LOG_FULL, TOO_LONG}
use Rattle.rl_types.specs.declared.objects.ObjectOp.{ObjectOp}
use Rattle.rl_model.specs.History.{clock, setting}
use Rattle.rl_model.specs.Records.{the_site}
use Rattle.rl_model.specs.Objects.{object_rule}
use Rattle.rl_model.specs.Verdict.{Judgement, Stale, Again, Known, Fails, Adds, judged, judged_by_serial, judged_by_id, judged_by_rules, own_rule, fails_or, limit_rule, told, kept, remembered_of, decisions, entry_if, entry_of, log, head}
use Rattle.rl_model.specs.Window.{entry_weight, fits, fits_at, first, first_after, first_next, least_place}
use Rattle.rl_model.specs.Parts.{Parts, parts_of, read_in, retained}
use Rattle.rl_claims.proofs.Runs.{log_grows}
use Rattle.rl_world.specs.Kept.{followed}
use Rattle.rl_chanlog.proofs.Ends.{moved_from, moved_within}

-- WHAT AN ENTRY WEIGHS

-- a connection's id has nine bytes
pub conn_length : (conn : ℕ) → length (conn_text conn) ≡ 9
conn_length conn = ap suc (fixed_lengths 16 8 conn (fixed_text 16 8 conn) refl)

-- an id that is made of three numbers has at most 64 bytes
pub made_length : (conn serial index : ℕ) → serial < 2 ^ 64 → index < 2 ^ 64 → length (made_id conn serial index) ≤ 64
made_length conn serial index small low =
    let digits : length (decimal serial) ≤ 20 = length-decimal-le 20 serial (omega arith) (omega (arith, small)) small in
    let last : length (decimal index) ≤ 20 = length-decimal-le 20 index (omega arith) (omega (arith, low)) low in
    let colon : List ℕ = codes ":" in
    let front : List ℕ = conn_text conn ++ colon in
    let second : List ℕ = front ++ decimal serial in
    let third : List ℕ = second ++ colon in
    let one : length front ≡ length (conn_text conn) + 1 = length-append (conn_text conn) colon in
    let two : length second ≡ length front + length (decimal serial) = length-append front (decimal serial) in
    let three : length third ≡ length second + 1 = length-append second colon in
    let whole : length (made_id conn serial index) ≡ length third + length (decimal index) = length-append third (decimal index) in
    omega (arith, digits, last, one, two, three, whole, conn_length conn)

one_filled : (conn serial index : ℕ) (item : Item) (id : Option (List ℕ)) → id ≡ item.id → serial < 2 ^ 64 → index < 2 ^ 64
    → item_weight (record item { id = Some (filled_id conn serial index id) }) ≤ item_weight item + 64
one_filled conn serial index item None is small low = omega (arith, made_length conn serial index small low)
one_filled conn serial index item (Some text) is small low =
    let same : option_len item.id ≡ length text = ap option_len (sym is) in
    omega (arith, same)

-- messages weigh at least 64 each, and at most 64 more each once their ids are filled in
items_filled : (conn serial index : ℕ) (items : List Item) → serial < 2 ^ 64 → index + length items < 2 ^ 64
    → sum_by item_weight (filled_items conn serial index items) ≤ sum_by item_weight items + sum_by item_weight items
items_filled conn serial index [] small low = omega arith
items_filled conn serial index (item ∷ items) small low =
    let one = one_filled conn serial index item item.id refl small (omega (arith, low)) in
    let rest = items_filled conn serial (suc index) items small (omega (arith, low)) in
    let own : 64 ≤ item_weight item = omega arith in
    let split : sum_by item_weight (item ∷ items) ≡ item_weight item + sum_by item_weight items = sum_by-cons item_weight item items in
    let more = sum_by-cons item_weight (record item { id = Some (filled_id conn serial index item.id) }) (filled_items conn serial (suc index) items) in
    omega (arith, one, rest, own, split, more)

few_items : (items : List Item) → length items ≤ sum_by item_weight items
few_items [] = omega arith
few_items (item ∷ items) =
    let split : sum_by item_weight (item ∷ items) ≡ item_weight item + sum_by item_weight items = sum_by-cons item_weight item items in
    let own : 64 ≤ item_weight item = omega arith in
    omega (arith, split, own, few_items items)

presence_filled : (conn serial now index : ℕ) (items : List PresenceItem) → sum_by presence_weight (filled_presence conn serial now index items) ≡ sum_by presence_weight items
presence_filled conn serial now index [] = refl
presence_filled conn serial now index (item ∷ items) =
    sum_by-cons presence_weight (record item { id = made_id conn serial index; conn = conn_text conn; stamp = now }) (filled_presence conn serial now (suc index) items)
    ∙ ap (λ n. presence_weight item + n) (presence_filled conn serial now (suc index) items)
    ∙ sym (sum_by-cons presence_weight item items)

ops_filled : (site : List ℕ) (place index : ℕ) (ops : List ObjectOp) → sum_by op_weight (filled_ops site place index ops) ≡ sum_by op_weight ops
ops_filled site place index [] = refl
ops_filled site place index (op ∷ ops) =
    sum_by-cons op_weight (with_serial site place index op) (filled_ops site place (suc index) ops)
    ∙ ap (λ n. op_weight op + n) (ops_filled site place (suc index) ops)
    ∙ sym (sum_by-cons op_weight op ops)

-- a body that is not too long is light with its ids
light_filled : (site : List ℕ) (place conn serial now : ℕ) (body : Body) → serial < 2 ^ 64 → body_weight body ≤ MAX_MESSAGE_SIZE → body_weight (filled site place conn serial now body) ≤ 131072
light_filled site place conn serial now (Messages items) small light =
    let low : sum_by item_weight items ≤ MAX_MESSAGE_SIZE = omega (arith, light) in
    let few = few_items items in
    let filled = items_filled conn serial 0 items small (omega (arith, low, few)) in
    omega (arith, filled, low)
light_filled site place conn serial now (Presence items) small light =
    let same = presence_filled conn serial now 0 items in
    omega (arith, light, same)
light_filled site place conn serial now (Objects ops) small light =
    let same = ops_filled site place 0 ops in
    omega (arith, light, same)

-- a body that adds an entry is not too long
rules_light : (top : ℕ) (body : Body) (next : Judgement) → judged_by_rules top body next ≡ Adds → body_weight body ≤ MAX_MESSAGE_SIZE
rules_light top body next adds = by_test (nat_lt MAX_MESSAGE_SIZE (body_weight body)) refl adds
  where
    by_test : (heavy : Bool) → nat_lt MAX_MESSAGE_SIZE (body_weight body) ≡ heavy
        → (if heavy || has_long body then Fails TOO_LONG else if top == MAX_PLACE then Fails LOG_FULL else fails_or (own_rule body) next) ≡ Adds → body_weight body ≤ MAX_MESSAGE_SIZE
    by_test true is adds = absurd (cc)
    by_test false is adds = grind (arith, common_steps, is)

id_light : (found : Option ℕ) (top : ℕ) (body : Body) (next : Judgement) → judged_by_id found (judged_by_rules top body next) ≡ Adds → body_weight body ≤ MAX_MESSAGE_SIZE
id_light None top body next adds = rules_light top body next adds
id_light (Some place) top body next adds = absurd (cc)

serial_light : (serial : ℕ) (last : Option (ℕ × Outcome)) (found : Option ℕ) (top : ℕ) (body : Body) (next : Judgement)
    → judged_by_serial serial last (judged_by_id found (judged_by_rules top body next)) ≡ Adds → body_weight body ≤ MAX_MESSAGE_SIZE
serial_light serial None found top body next adds = id_light found top body next adds
serial_light serial (Some last) found top body next adds = by_test (nat_lt serial last.0) (serial == last.0) adds
  where
    by_test : (below same : Bool) → (if below then Stale else if same then Again last.1 else judged_by_id found (judged_by_rules top body next)) ≡ Adds → body_weight body ≤ MAX_MESSAGE_SIZE
    by_test true same adds = absurd (cc)
    by_test false true adds = absurd (cc)
    by_test false false adds = id_light found top body next adds

one_fits : (entry : Entry) → entry_weight entry ≤ 131072 → fits (entry ∷ []) ≡ true
one_fits entry light =
    let one : sum_by entry_weight (entry ∷ []) ≡ entry_weight entry + sum_by entry_weight [] = sum_by-cons entry_weight entry [] in
    grind (arith, common_steps, light, one)

-- WHERE THE WINDOW BEGINS

-- a window whose last entry fits begins at it at the latest
last_stays : (place : ℕ) (window : List Entry) (entry : Entry) → fits (entry ∷ []) ≡ true → least_place fits place (window ++ entry ∷ []) ≤ place + length window
last_stays place [] entry fit = grind (arith, common_steps, fit)
last_stays place (one ∷ window) entry fit = by_test (fits (one ∷ window ++ entry ∷ [])) (last_stays (suc place) window entry fit)
  where
    by_test : (passes : Bool) → least_place fits (suc place) (window ++ entry ∷ []) ≤ suc place + length window
        → (if passes then place else least_place fits (suc place) (window ++ entry ∷ [])) ≤ place + suc (length window)
    by_test true rest = omega arith
    by_test false rest = omega (arith, rest)

added_stays : (before : ℕ) (log : List Entry) (entry : Entry) → fits (entry ∷ []) ≡ true → 1 ≤ before → before ≤ length log + 1 → first_after fits before (log ++ entry ∷ []) ≤ length log + 1
added_stays before log entry fit from within =
    let order : before - 1 ≤ length log = omega (arith, within) in
    let end : drop (before - 1) (log ++ entry ∷ []) ≡ drop (before - 1) log ++ entry ∷ [] = drop-append-le (before - 1) log (entry ∷ []) order in
    let stays = last_stays before (drop (before - 1) log) entry fit in
    let long = length-drop (before - 1) log in
    let same : first_after fits before (log ++ entry ∷ []) ≡ least_place fits before (drop (before - 1) log ++ entry ∷ []) = ap (least_place fits before) end in
    omega (arith, same, stays, long, from, within)

-- where the window begins after an event that is no Tick
next_within : (event : ChannelEvent) (now : ℕ) (added : Bool) (log : List Entry) (before most : ℕ) → first_next event now added log before ≡ (if added then first_after fits before log else before)
    → first_after fits before log ≤ most → before ≤ most → first_next event now added log before ≤ most
next_within event now true log before most is moved still = omega (arith, is, moved)
next_within event now false log before most is moved still = omega (arith, is, still)

record IsWithin (first top : ℕ) : Type 0 where
  pub from : 1 ≤ first
  pub within : first ≤ top + 1

next_first : (event : ChannelEvent) (now : ℕ) (added : Bool) (log : List Entry) (before : ℕ) → 1 ≤ before → before ≤ length log + 1 → IsWithin (first_next event now added log before) (length log)
next_first (Tick moment) now added log before from within = record { from = moved_from (fits_at now) log before from; within = moved_within (fits_at now) log before from within }
next_first (Put conn serial body moment) now true log before from within = record { from = moved_from fits log before from; within = moved_within fits log before from within }
next_first (Put conn serial body moment) now false log before from within = record { from = from; within = within }
next_first (Join asked) now true log before from within = record { from = moved_from fits log before from; within = moved_within fits log before from within }
next_first (Join asked) now false log before from within = record { from = from; within = within }
next_first (Read start most) now true log before from within = record { from = moved_from fits log before from; within = moved_within fits log before from within }
next_first (Read start most) now false log before from within = record { from = from; within = within }
next_first (MemberPage after most) now true log before from within = record { from = moved_from fits log before from; within = moved_within fits log before from within }
next_first (MemberPage after most) now false log before from within = record { from = from; within = within }
next_first (ObjectPage after most) now true log before from within = record { from = moved_from fits log before from; within = moved_within fits log before from within }
next_first (ObjectPage after most) now false log before from within = record { from = from; within = within }
next_first (Gone conn moment) now true log before from within = record { from = moved_from fits log before from; within = moved_within fits log before from within }
next_first (Gone conn moment) now false log before from within = record { from = from; within = within }
next_first Census now true log before from within = record { from = moved_from fits log before from; within = moved_within fits log before from within }
next_first Census now false log before from within = record { from = from; within = within }

-- the window begins within the log, or behind it
first_within : (past : List ChannelEvent) → IsWithin (first the_site past) (head the_site past)
first_within [] = record { from = omega arith; within = omega arith }
first_within (event ∷ past) =
    let before = first_within past in
    let low = before.within in
    let grown : length (log the_site past) ≤ length (log the_site (event ∷ past)) = let grows = log_grows the_site event past in omega (arith, ap length grows.1, length-append (log the_site past) grows.0) in
    next_first event (clock (event ∷ past)) (nat_lt (head the_site past) (head the_site (event ∷ past))) (log the_site (event ∷ past)) (first the_site past) before.from (omega (arith, low, grown))

-- WHAT A PUT ADDED

put_next : (conn serial : ℕ) (body : Body) (moment now : ℕ) (added : Bool) (log : List Entry) (before : ℕ) → first_next (Put conn serial body moment) now added log before ≡ (if added then first_after fits before log else before)
put_next conn serial body moment now true log before = refl
put_next conn serial body moment now false log before = refl

-- a put of a body with this serial leaves a window in which what it added stands
put_stays : (past : List ChannelEvent) (conn serial : ℕ) (body : Body) (now : ℕ) → serial < 2 ^ 64 → first the_site (Put conn serial body now ∷ past) ≤ head the_site past + 1
put_stays past conn serial body now small = by_judgement (judged (setting the_site (Put conn serial body now ∷ past)) (decisions the_site past) conn serial body) refl
  where
    stamp : ℕ
    stamp = clock (Put conn serial body now ∷ past)

    entry : Entry
    entry = entry_of (setting the_site (Put conn serial body now ∷ past)) (length (log the_site past)) conn serial body

    same : (judgement : Judgement) → option_to_list (entry_if judgement entry) ≡ []
        → first_next (Put conn serial body now) stamp (nat_lt (head the_site past) (length (log the_site past ++ option_to_list (entry_if judgement entry)))) (log the_site past ++ option_to_list (entry_if judgement entry)) (first the_site past) ≤ head the_site past + 1
    same judgement none =
        let before = first_within past in
        let still = before.within in
        let all : log the_site past ++ option_to_list (entry_if judgement entry) ≡ log the_site past = ap (λ more. log the_site past ++ more) none ∙ append-nil (log the_site past) in
        subst (λ more. first_next (Put conn serial body now) stamp (nat_lt (head the_site past) (length more)) more (first the_site past) ≤ head the_site past + 1) (sym all)
        (next_within (Put conn serial body now) stamp (nat_lt (head the_site past) (length (log the_site past))) (log the_site past) (first the_site past) (head the_site past + 1) (put_next conn serial body now stamp (nat_lt (head the_site past) (length (log the_site past))) (log the_site past) (first the_site past)) (moved_within fits (log the_site past) (first the_site past) before.from before.within) still)

    by_judgement : (judgement : Judgement) → judged (setting the_site (Put conn serial body now ∷ past)) (decisions the_site past) conn serial body ≡ judgement
        → first_next (Put conn serial body now) stamp (nat_lt (head the_site past) (length (log the_site past ++ option_to_list (entry_if judgement entry)))) (log the_site past ++ option_to_list (entry_if judgement entry)) (first the_site past) ≤ head the_site past + 1
    by_judgement Stale is = same Stale refl
    by_judgement (Again outcome) is = same (Again outcome) refl
    by_judgement (Known place) is = same (Known place) refl
    by_judgement (Fails code) is = same (Fails code) refl
    by_judgement Adds is =
        let before = first_within past in
        let still = before.within in
        let light : body_weight body ≤ MAX_MESSAGE_SIZE = serial_light serial (kept conn (decisions the_site past)) (remembered_of body (decisions the_site past)) (head the_site past) body (fails_or (limit_rule (told (decisions the_site past)) conn body) (fails_or (object_rule (setting the_site (Put conn serial body now ∷ past)) (log the_site past) body) Adds)) is in
        let fit : fits (entry ∷ []) ≡ true = one_fits entry (light_filled the_site (length (log the_site past) + 1) conn serial stamp body small light) in
        next_within (Put conn serial body now) stamp (nat_lt (head the_site past) (length (log the_site past ++ entry ∷ []))) (log the_site past ++ entry ∷ []) (first the_site past) (head the_site past + 1)
        (put_next conn serial body now stamp (nat_lt (head the_site past) (length (log the_site past ++ entry ∷ []))) (log the_site past ++ entry ∷ []) (first the_site past))
        (added_stays (first the_site past) (log the_site past) entry fit before.from before.within) still

-- READING

-- what is read behind entries of a log that goes on with one more or none
read_one : (parts : Parts) (front : List Entry) (more : Option Entry) → parts.log ≡ front ++ option_to_list more → parts.first ≤ length front + 1 → read_in parts (length front) 1 ≡ Run (option_to_list more)
read_one parts front more is within =
    let long : length parts.log ≡ length front + length (option_to_list more) = ap length is ∙ length-append front (option_to_list more) in
    let late : nat_lt (length front + 1) parts.first ≡ false = grind (arith, common_steps, within) in
    let short : nat_lt (length parts.log) (length front) ≡ false = grind (arith, common_steps, long) in
    ap (λ b. if b || nat_lt (length parts.log) (length front) then NotRetained parts.first else Run (take 1 (drop (length front) parts.log))) late
    ∙ ap (λ b. if b then NotRetained parts.first else Run (take 1 (drop (length front) parts.log))) short
    ∙ ap (λ entries. Run (take 1 (drop (length front) entries))) is
    ∙ ap (λ entries. Run (take 1 entries)) (drop-append-le (length front) front (option_to_list more) (omega arith) ∙ ap (λ entries. entries ++ option_to_list more) (drop_all (length front) front (omega arith)))
    ∙ ap Run (one more)
  where
    one : (more : Option Entry) → take 1 (option_to_list more) ≡ option_to_list more
    one None = refl
    one (Some entry) = refl

-- all that is retained
pub read_all : (parts : Parts) → 1 ≤ parts.first → parts.first ≤ length parts.log + 1 → read_in parts (parts.first - 1) (length (retained parts)) ≡ Run (retained parts)
read_all parts from within =
    let early : nat_lt (parts.first - 1 + 1) parts.first ≡ false = grind (arith, common_steps, from) in
    let late : nat_lt (length parts.log) (parts.first - 1) ≡ false = grind (arith, common_steps, within) in
    ap (λ b. if b || nat_lt (length parts.log) (parts.first - 1) then NotRetained parts.first else Run (take (length (retained parts)) (retained parts))) early
    ∙ ap (λ b. if b then NotRetained parts.first else Run (take (length (retained parts)) (retained parts))) late
    ∙ ap Run (take_all (length (retained parts)) (retained parts) (omega arith))

-- what is read behind the entries before a put are those that it added
pub put_follows : (past : List ChannelEvent) (conn serial : ℕ) (body : Body) (now : ℕ) (entries new : List Entry) → serial < 2 ^ 64 → entries ≡ log the_site past
    → new ≡ followed (read_in (parts_of the_site (Put conn serial body now ∷ past)) (length entries) 1) entries → new ≡ log the_site (Put conn serial body now ∷ past)
put_follows past conn serial body now entries new small is follows =
    let more : Option Entry = entry_if (judged (setting the_site (Put conn serial body now ∷ past)) (decisions the_site past) conn serial body) (entry_of (setting the_site (Put conn serial body now ∷ past)) (length (log the_site past)) conn serial body) in
    let reads : read_in (parts_of the_site (Put conn serial body now ∷ past)) (head the_site past) 1 ≡ Run (option_to_list more) =
    read_one (parts_of the_site (Put conn serial body now ∷ past)) (log the_site past) more refl (put_stays past conn serial body now small) in
    follows
    ∙ ap (λ all. followed (read_in (parts_of the_site (Put conn serial body now ∷ past)) (length all) 1) all) is
    ∙ ap (λ reply. followed reply (log the_site past)) reads
