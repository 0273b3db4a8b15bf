-- Every script leaves sound records.
use Rattle.std.proofs.Common.{◌≡◌, inl, inr, ℕ, zero, suc, ◌+◌, ◌-◌, ◌≤◌, Bool, true, false, cond, List, [], ◌∷◌, ◌++◌, length, take, drop, map, refl, sym, ◌∙◌, ap, subst, arith, length-append, length-drop}
use Rattle.std.specs.Prelude.{⊤, Option, Some, None, fold, nat_le, ◌==◌, ◌&&◌}
use Rattle.std.specs.List.{AllByRecursion}
use Rattle.std.proofs.lemmas.Bool.{leb-true}
use Rattle.std.proofs.lemmas.List.{map-append, length-map, take_all, take-append-drop, drop-drop}
use Rattle.rl_events.specs.declared.channel.ChannelEvent.{ChannelEvent}
use Rattle.rl_events.specs.declared.channel.ChannelEvent.TheVariants.{Put, Join, Read, MemberPage, ObjectPage, Gone, Tick, Census}
use Rattle.rl_types.specs.declared.messages.Entry.{Entry}
use Rattle.rl_types.specs.declared.messages.Body.{Body}
use Rattle.rl_types.specs.declared.messages.Given.{Given}
use Rattle.rl_types.specs.declared.messages.Given.TheVariants.{Ours, Other}
use Rattle.rl_runs.specs.declared.findings.Cause.{Cause}
use Rattle.rl_runs.specs.declared.findings.Cause.TheVariants.{Opened, NotRetained, Recovered}
use Rattle.rl_runs.specs.declared.findings.Segment.{Segment}
use Rattle.rl_runs.specs.declared.script.Line.{Line}
use Rattle.rl_runs.specs.declared.script.Line.TheVariants as lines
use Rattle.rl_runs.specs.declared.commands.Command.{Command}
use Rattle.rl_runs.specs.declared.commands.Command.TheVariants.{Attach, AttachAt, Publish}
use Rattle.rl_types.specs.declared.states.ConnState.{ConnState}
use Rattle.rl_types.specs.declared.states.ConnState.TheVariants as conn
use Rattle.rl_types.specs.declared.states.ChanState.{ChanState}
use Rattle.rl_types.specs.declared.states.ChanState.TheVariants as chan
use Rattle.rl_model.specs.declared.plain.Client.{Client}
use Rattle.rl_model.specs.declared.plain.Sent.{Sent}
use Rattle.rl_model.specs.declared.plain.Sent.TheVariants.{Asks, Sends}
use Rattle.rl_model.specs.Verdict.{log, head, run_between}
use Rattle.rl_model.specs.Window.{first}
use Rattle.rl_model.specs.Reply.{is_resumed, joined_place, asked_place}
use Rattle.rl_model.specs.Records.{the_epoch, the_site, segment_from, segments_after, segment_end, caught_up, got_of, got_in}
use Rattle.rl_model.specs.Client.{connected, opened, dropped, attach_in, act, channel_of}
use Rattle.rl_model.specs.World.{World, the_conn, feed_conn, serve_for, serve_next, finish, serve_all, settle_in, settle, feed, with_client, one_message, after_line, final, empty_world, changed, named_by}
use Rattle.rl_claims.specs.Sound.{Joining, joinings, MayBegin, IsSoundSegment, beginning, BeginInOrder, IsRecovered, NoneRecovered, OnlyFirstRecovered, AreInOrder, IsSound, HasSoundRecord, HasSoundRecords}
use Rattle.rl_claims.proofs.Runs.{run_stays, log_grows}

pub each_weaker : {X : Type 0} (P Q : X → Type 0) → ((x : X) → P x → Q x) → (xs : List X) → AllByRecursion P xs → AllByRecursion Q xs
each_weaker P Q weaker [] each = tt
each_weaker P Q weaker (x ∷ xs) each = (weaker x each.0, each_weaker P Q weaker xs each.1)

pub each_and : {X : Type 0} (P : X → Type 0) → (xs : List X) (x : X) → AllByRecursion P xs → P x → AllByRecursion P (xs ++ x ∷ [])
each_and P [] x each own = (own, tt)
each_and P (y ∷ ys) x each own = (each.0, each_and P ys x each.1 own)

-- WHILE THE CHANNEL GOES ON

abbrev pub Begun : List ChannelEvent → List (ℕ × Cause) → Type 0
Begun past begun = BeginInOrder the_epoch the_site (joinings past) begun

begun_grows : (event : ChannelEvent) (past : List ChannelEvent) (begun : List (ℕ × Cause)) → Begun past begun → Begun (event ∷ past) begun
begun_grows (Join asked) past begun order = inl order
begun_grows (Put conn serial body now) past begun order = order
begun_grows (Read from max_count) past begun order = order
begun_grows (MemberPage after most) past begun order = order
begun_grows (ObjectPage after most) past begun order = order
begun_grows (Gone conn now) past begun order = order
begun_grows (Tick now) past begun order = order
begun_grows Census past begun order = order

-- no segment needs no Join
none_begun : (joinings : List Joining) → BeginInOrder the_epoch the_site joinings []
none_begun [] = refl
none_begun (joining ∷ joinings) = inl (none_begun joinings)

abbrev pub SoundIn : List ChannelEvent → Segment → Type 0
SoundIn past segment = IsSoundSegment the_site past segment

pub segment_grows : (event : ChannelEvent) (past : List ChannelEvent) (segment : Segment) → SoundIn past segment → SoundIn (event ∷ past) segment
segment_grows event past segment sound =
    let g = log_grows the_site event past in
    let upto : ℕ = segment_end segment in
    let order : segment.start ≤ upto = omega arith in
    let longer : length (log the_site (event ∷ past)) ≡ length (log the_site past) + length g.0 = ap length g.1 ∙ length-append (log the_site past) g.0 in
    record {
      within = omega (arith, sound.within, longer);
      run = sound.run ∙ ap (map got_of) (sym (ap (λ l. run_between l segment.start upto) g.1 ∙ run_stays (log the_site past) g.0 segment.start upto order sound.within));
    }

abbrev pub Fine : List ChannelEvent → List Segment → Type 0
Fine past segments = IsSound the_epoch the_site past segments

pub grows : (event : ChannelEvent) (past : List ChannelEvent) (segments : List Segment) → Fine past segments → Fine (event ∷ past) segments
grows event past segments fine = record {
  each = each_weaker (SoundIn past) (SoundIn (event ∷ past)) (segment_grows event past) segments fine.each;
  begun = begun_grows event past (map beginning segments) fine.begun;
  recovered_first = fine.recovered_first;
  in_order = fine.in_order;
}

-- WHERE A JOIN IS ANSWERED

low_enough : (a b c : Bool) (place end : ℕ) → (c ≡ true → place ≤ end) → cond (a && (b && c)) place end ≤ end
low_enough true true true place end low = low refl
low_enough true true false place end low = omega arith
low_enough true false c place end low = omega arith
low_enough false b c place end low = omega arith

pub joined_low : (past : List ChannelEvent) (asked : Option Given) → joined_place the_epoch the_site past asked ≤ head the_site past
joined_low past None = omega arith
joined_low past (Some (Other text)) = omega arith
joined_low past (Some (Ours serial)) =
    low_enough (serial.epoch == the_epoch) (nat_le (first the_site past - 1) serial.place) (nat_le serial.place (head the_site past)) serial.place (head the_site past)
    (leb-true serial.place (head the_site past))

joining_of : List ChannelEvent → Option Given → Joining
joining_of past asked = record { before = past; asked = asked }

pub new_segment : (past : List ChannelEvent) (asked : Option Given) (cause : Cause) → SoundIn (Join asked ∷ past) (segment_from (joined_place the_epoch the_site past asked) cause)
new_segment past asked cause =
    let place : ℕ = joined_place the_epoch the_site past asked in
    let none : place + 0 - place ≡ 0 = omega arith in
    record {
      within = omega (arith, joined_low past asked, length-append (log the_site past) []);
      run = sym (ap (λ n. map got_of (take n (drop place (log the_site (Join asked ∷ past))))) none);
    }

none_and : (segments : List Segment) (segment : Segment) → NoneRecovered segments → (IsRecovered segment.cause → ⊥) → NoneRecovered (segments ++ segment ∷ [])
none_and [] segment none not = (not, tt)
none_and (s ∷ segments) segment none not = (none.0, none_and segments segment none.1 not)

pub first_and : (segments : List Segment) (segment : Segment) → OnlyFirstRecovered segments → (IsRecovered segment.cause → ⊥) → OnlyFirstRecovered (segments ++ segment ∷ [])
first_and [] segment only not = tt
first_and (s ∷ segments) segment only not = none_and segments segment only not

order_and : (segments : List Segment) (segment : Segment) → AreInOrder segments → AllByRecursion (λ (earlier : Segment). segment_end earlier ≤ segment.start) segments → AreInOrder (segments ++ segment ∷ [])
order_and [] segment order low = tt
order_and (s ∷ []) segment order low = (low.0, tt)
order_and (s ∷ next ∷ segments) segment order low = (order.0, order_and (next ∷ segments) segment order.1 low.1)

ends_low : (past : List ChannelEvent) (place : ℕ) (segments : List Segment) → place ≡ head the_site past → AllByRecursion (SoundIn past) segments → AllByRecursion (λ (earlier : Segment). segment_end earlier ≤ place) segments
ends_low past place segments is each =
    each_weaker (SoundIn past) (λ (earlier : Segment). segment_end earlier ≤ place) (λ (earlier : Segment) sound. omega (arith, sound.within, is)) segments each

-- one more segment behind the others, which begins at the head
begins : (past : List ChannelEvent) (asked : Option Given) (cause : Cause) (segments : List Segment) → MayBegin the_epoch the_site (record { before = past; asked = asked }) cause
    → (IsRecovered cause → ⊥) → joined_place the_epoch the_site past asked ≡ head the_site past → Fine past segments
    → Fine (Join asked ∷ past) (segments ++ segment_from (joined_place the_epoch the_site past asked) cause ∷ [])
begins past asked cause segments may not at fine =
    let old = grows (Join asked) past segments fine in
    let place : ℕ = joined_place the_epoch the_site past asked in
    record {
      each = each_and (SoundIn (Join asked ∷ past)) segments (segment_from place cause) old.each (new_segment past asked cause);
      begun = inr (map beginning segments, (place, cause), map-append beginning segments (segment_from place cause ∷ []), (refl, may), fine.begun);
      recovered_first = first_and segments (segment_from place cause) old.recovered_first not;
      in_order = order_and segments (segment_from place cause) fine.in_order (ends_low past place segments at fine.each);
    }

pub joined : (past : List ChannelEvent) (asked : Option Given) (resumed : Bool) (segments : List Segment) → is_resumed the_epoch the_site past asked ≡ resumed
    → Fine past segments → Fine (Join asked ∷ past) (segments_after asked resumed (joined_place the_epoch the_site past asked) segments)
joined past None resumed segments is fine = begins past None Opened segments refl (λ recovered. recovered) refl fine
joined past (Some asked) true [] is fine = record {
  each = (new_segment past (Some asked) (Recovered asked), tt);
  begun = inr ([], (joined_place the_epoch the_site past (Some asked), Recovered asked), refl, (refl, (refl, is)), fine.begun);
  recovered_first = tt;
  in_order = tt;
}
joined past (Some asked) true (segment ∷ segments) is fine = grows (Join (Some asked)) past (segment ∷ segments) fine
joined past (Some asked) false segments is fine =
    begins past (Some asked) (NotRetained asked) segments (refl, is) (λ recovered. recovered)
    (ap (λ (b : Bool). cond b (asked_place (Some asked)) (head the_site past)) is) fine

-- WHERE THE CLIENT GETS WHAT IS THERE

run_rest : (entries : List Entry) (from upto : ℕ) → from ≤ upto → upto ≤ length entries
    → run_between entries from (length entries) ≡ run_between entries from upto ++ drop upto entries
run_rest entries from upto order short =
    let rest : List Entry = drop from entries in
    let at : from + (upto - from) ≡ upto = omega arith in
    let whole : length rest ≤ length entries - from = omega (arith, length-drop from entries) in
    take_all (length entries - from) rest whole
    ∙ sym (take-append-drop (upto - from) rest)
    ∙ ap (λ tail. take (upto - from) rest ++ tail) (drop-drop (upto - from) from entries ∙ ap (λ n. drop n entries) at)

segment_caught : (past : List ChannelEvent) (segment : Segment) → SoundIn past segment
    → SoundIn past (record segment { got = segment.got ++ map got_of (drop (segment_end segment) (log the_site past)) })
segment_caught past segment sound =
    let upto : ℕ = segment_end segment in
    let more : List (ℕ × Body) = map got_of (drop upto (log the_site past)) in
    let order : segment.start ≤ upto = omega arith in
    let size : length (segment.got ++ more) ≡ length segment.got + (length (log the_site past) - upto) =
    length-append segment.got more ∙ ap (λ n. length segment.got + n) (length-map (drop upto (log the_site past)) got_of ∙ length-drop upto (log the_site past)) in
    let end : segment.start + length (segment.got ++ more) ≡ length (log the_site past) = omega (arith, size, sound.within) in
    record {
      within = omega (arith, end);
      run =
          ap (λ got. got ++ more) sound.run
          ∙ sym (map-append got_of (run_between (log the_site past) segment.start upto) (drop upto (log the_site past)))
          ∙ ap (map got_of) (sym (run_rest (log the_site past) segment.start upto order sound.within))
          ∙ ap (λ n. map got_of (run_between (log the_site past) segment.start n)) (sym end);
    }

none_caught : (entries : List Entry) (segments : List Segment) → NoneRecovered segments → NoneRecovered (caught_up entries segments)
none_caught entries [] none = tt
none_caught entries (segment ∷ []) none = (none.0, tt)
none_caught entries (segment ∷ next ∷ segments) none = (none.0, none_caught entries (next ∷ segments) none.1)

each_caught : (past : List ChannelEvent) (segments : List Segment) → AllByRecursion (SoundIn past) segments → AllByRecursion (SoundIn past) (caught_up (log the_site past) segments)
each_caught past [] each = tt
each_caught past (segment ∷ []) each = (segment_caught past segment each.0, tt)
each_caught past (segment ∷ next ∷ segments) each = (each.0, each_caught past (next ∷ segments) each.1)

order_caught : (entries : List Entry) (segments : List Segment) → AreInOrder segments → AreInOrder (caught_up entries segments)
order_caught entries [] order = tt
order_caught entries (segment ∷ []) order = tt
order_caught entries (segment ∷ next ∷ []) order = (order.0, tt)
order_caught entries (segment ∷ next ∷ more ∷ segments) order = (order.0, order_caught entries (next ∷ more ∷ segments) order.1)

caught_first : (entries : List Entry) (segments : List Segment) → OnlyFirstRecovered segments → OnlyFirstRecovered (caught_up entries segments)
caught_first entries [] first = tt
caught_first entries (segment ∷ []) first = tt
caught_first entries (segment ∷ next ∷ segments) first = none_caught entries (next ∷ segments) first

begun_caught : (entries : List Entry) (segments : List Segment) → map beginning (caught_up entries segments) ≡ map beginning segments
begun_caught entries [] = refl
begun_caught entries (segment ∷ []) = refl
begun_caught entries (segment ∷ next ∷ segments) = ap (λ (begun : List (ℕ × Cause)). beginning segment ∷ begun) (begun_caught entries (next ∷ segments))

caught : (past : List ChannelEvent) (segments : List Segment) → Fine past segments → Fine past (caught_up (log the_site past) segments)
caught past segments fine = record {
  each = each_caught past segments fine.each;
  begun = subst (Begun past) (sym (begun_caught (log the_site past) segments)) fine.begun;
  recovered_first = caught_first (log the_site past) segments fine.recovered_first;
  in_order = order_caught (log the_site past) segments fine.in_order;
}

caught_in : (state : ChanState) (past : List ChannelEvent) (segments : List Segment) → Fine past segments → Fine past (got_in state (log the_site past) segments)
caught_in chan.Attached past segments fine = caught past segments fine
caught_in chan.Initialized past segments fine = fine
caught_in chan.Attaching past segments fine = fine
caught_in chan.Detaching past segments fine = fine
caught_in chan.Detached past segments fine = fine
caught_in chan.Suspended past segments fine = fine
caught_in chan.Failed past segments fine = fine

-- WORLDS

abbrev FineFor : List ChannelEvent → Option Client → Type 0
FineFor past None = ⊤
FineFor past (Some client) = Fine past client.segments

abbrev FineWorld : World → Type 0
FineWorld world = FineFor world.past world.client

for_grows : (event : ChannelEvent) (past : List ChannelEvent) (client : Option Client) → FineFor past client → FineFor (event ∷ past) client
for_grows event past None fine = tt
for_grows event past (Some client) fine = grows event past client.segments fine

served : (world : World) (client : Option Client) (sent : Sent) → FineWorld world → FineFor world.past client → FineWorld (serve_for world client sent)
served world None sent fine own = fine
served world (Some client) (Asks asked) fine own =
    joined world.past asked (is_resumed the_epoch the_site world.past asked) client.segments refl own
served world (Some client) (Sends serial body) fine own = grows (Put the_conn serial body 0) world.past client.segments own

all_served : (sent : List Sent) (world : World) → FineWorld world → FineWorld (fold serve_next world sent)
all_served [] world fine = fine
all_served (s ∷ sent) world fine = all_served sent (serve_next world s) (served world world.client s fine fine)

finished : (world : World) (client : Option Client) → FineWorld world → FineFor world.past client → FineWorld (finish world client)
finished world None fine own = fine
finished world (Some client) fine own = caught_in client.chan world.past client.segments own

serves : (world : World) (client : Client) → Fine world.past client.segments → FineWorld (serve_all world client)
serves world client own =
    let start : World = with_client world (record client { sent = [] }) in
    let done = all_served client.sent start own in
    finished (fold serve_next start client.sent) (fold serve_next start client.sent).client done done

settled_in : (state : ConnState) (world : World) (client : Client) → FineWorld world → Fine world.past client.segments → FineWorld (settle_in state world client)
settled_in conn.Connecting world client fine own = serves world (connected client) own
settled_in conn.Connected world client fine own = serves world client own
settled_in conn.Initialized world client fine own = fine
settled_in conn.Disconnected world client fine own = fine
settled_in conn.Suspended world client fine own = fine
settled_in conn.Closing world client fine own = fine
settled_in conn.Closed world client fine own = fine
settled_in conn.Failed world client fine own = fine

settled : (world : World) (client : Option Client) → FineWorld world → FineFor world.past client → FineWorld (settle world client)
settled world None fine own = fine
settled world (Some client) fine own = settled_in client.conn world client fine own

attach_same : (state : ChanState) (asked : Option Given) (client : Client) → (attach_in state asked client).segments ≡ client.segments
attach_same chan.Initialized asked client = refl
attach_same chan.Attaching asked client = refl
attach_same chan.Attached asked client = refl
attach_same chan.Detaching asked client = refl
attach_same chan.Detached asked client = refl
attach_same chan.Suspended asked client = refl
attach_same chan.Failed asked client = refl

act_same : (command : Command) (client : Client) → (act command client).segments ≡ client.segments
act_same (Attach channel) client = attach_same client.chan None client
act_same (AttachAt channel serial) client = attach_same client.chan (Some (Ours serial)) client
act_same (Publish channel items) client = refl
act_same _ client = refl

fed : (count : ℕ) (body : Body) (serial : ℕ) (past : List ChannelEvent) (client : Option Client) → FineFor past client → FineFor (feed count body serial past) client
fed zero body serial past client fine = fine
fed (suc count) body serial past client fine =
    fed count body (suc serial) (Put feed_conn serial body 0 ∷ past) client (for_grows (Put feed_conn serial body 0) past client fine)

kept_by : (change : Client → Client) → ((client : Client) → (change client).segments ≡ client.segments)
    → (world : World) (client : Option Client) → FineWorld world → FineFor world.past client → FineWorld (changed change world client)
kept_by change same world None fine own = fine
kept_by change same world (Some client) fine own = subst (λ (segments : List Segment). Fine world.past segments) (sym (same client)) own

one_line : (world : World) (line : Line) → FineWorld world → FineWorld (after_line world line)
one_line world (lines.Client name) fine = record { each = tt; begun = none_begun (joinings world.past); recovered_first = tt; in_order = tt }
one_line world (lines.Open name) fine =
    kept_by (λ (client : Client). record client { conn = opened client.conn }) (λ client. refl) world world.client fine fine
one_line world (lines.Cut name) fine =
    kept_by (λ (client : Client). record client { conn = dropped client.conn }) (λ client. refl) world world.client fine fine
one_line world (lines.Act name command) fine =
    kept_by (act command) (act_same command) (record world { channel = named_by world.channel (channel_of command) }) world.client fine fine
one_line world (lines.Feed channel count text) fine = fed count (one_message text) world.fed world.past world.client fine
one_line world lines.Settle fine = settled world world.client fine fine
one_line world _ fine = fine

all_lines : (script : List Line) (world : World) → FineWorld world → FineWorld (fold after_line world script)
all_lines [] world fine = fine
all_lines (line ∷ script) world fine = all_lines script (after_line world line) (one_line world line fine)

sound_record : (past : List ChannelEvent) (client : Option Client) → FineFor past client → HasSoundRecord past client
sound_record past None fine = tt
sound_record past (Some client) fine = fine

pub sound_records : (script : List Line) → HasSoundRecords (final script)
sound_records script =
    let world : World = final script in
    sound_record world.past world.client (all_lines script empty_world tt)
