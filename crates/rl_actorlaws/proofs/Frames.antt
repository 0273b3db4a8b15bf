-- Each frame that an actor makes is readable.
use Rattle.std.specs.Prelude.{◌&&◌, if◌then◌else◌, IfSome, option_to_list}
use Rattle.std.specs.List.{AllByRecursion, list_all}
use Rattle.std.specs.Fmt.{decimal}
use Rattle.std.proofs.Common.{◌≡◌, ◌≤◌, ◌<◌, ◌+◌, ◌-◌, ◌*◌, ◌^◌, ℕ, min, Bool, true, false, not, List, [], ◌∷◌, ◌++◌, length, map, Option, Some, None, refl, arith}
use Rattle.std.proofs.lemmas.Bool.Decides.{nat_tests}
use Rattle.std.proofs.lemmas.Fmt.{length-decimal-le}
use Rattle.std.proofs.lemmas.List.Elements.{All-nil}
use Rattle.rl_numbers.specs.declared.limits.TheConstants.{MAX_CHANNEL_NAME, CONNECTION_STATE_TTL, MAX_IDLE_INTERVAL, MAX_MESSAGE_SIZE}
use Rattle.rl_numbers.specs.declared.codes.TheConstants.{CHANNEL_LIMIT}
use Rattle.rl_base.specs.Digits.{is_digit}
use Rattle.rl_base.proofs.Digits.{fixed_length}
use Rattle.rl_ids.specs.declared.serials.ChannelSerial.{ChannelSerial}
use Rattle.rl_ids.specs.Forms.{conn_text, IsSerial}
use Rattle.rl_ids.proofs.ObjectTexts.{decimal_digits}
use Rattle.rl_types.specs.declared.messages.Body.{Body}
use Rattle.rl_types.specs.declared.messages.Body.TheVariants.{Messages, Presence, Objects}
use Rattle.rl_types.specs.declared.messages.Entry.{Entry}
use Rattle.rl_types.specs.declared.messages.Given.{Given}
use Rattle.rl_types.specs.declared.frames.Frame.{Frame}
use Rattle.rl_types.specs.declared.frames.Frame.TheVariants as frames
use Rattle.rl_types.specs.declared.presence.PresenceItem.{PresenceItem}
use Rattle.rl_events.specs.declared.channel.ChannelReply.{ChannelReply}
use Rattle.rl_events.specs.declared.channel.ChannelReply.TheVariants as channel
use Rattle.rl_events.specs.declared.calls.End.{End}
use Rattle.rl_events.specs.declared.calls.End.TheVariants as ends
use Rattle.rl_pages.specs.State.{Sequences, next_number, page_frame, end_pages, may_end, is_complete}
use Rattle.rl_pages.specs.Frames.{page_at, end_at, member_frame, object_frame}
use Rattle.rl_wireobj.specs.Sendable.{IsSendableState}
use Rattle.rl_wire.specs.Frames.{is_colon}
use Rattle.rl_wire.specs.PutOut.{own_bytes, IsPutOut}
use Rattle.rl_wire.specs.Sendable.{IsName, Fits32, Fits64, IsMsgSerial, IsSendable}
use Rattle.rl_wire.proofs.PutOut.{put_out_fits}
use Rattle.rl_wire.proofs.Law.{text_again}
use Rattle.rl_actormodel.specs.declared.parts.Session.{Session}
use Rattle.rl_actormodel.specs.Ends.{farewell}
use Rattle.rl_actormodel.specs.Replies.{Joining}
use Rattle.rl_actormodel.specs.Attaches.{flags_of, attach_code}
use Rattle.rl_actormodel.specs.Connects.{unknown_code}
use Rattle.rl_actormodel.specs.Reads.{entry_head, body_frame, entry_frame}
use Rattle.rl_actormodel.specs.Pagings.{ends_here}
use Rattle.rl_actormodel.proofs.Answered.{two_ends}
use Rattle.rl_actorlaws.specs.Carried.{IsKey, IsOutgoing, IsEntry, IsChannelCarried}
use Rattle.rl_actorlaws.specs.Readable.{IsReadable}

pub readable : (f : Frame) → IsSendable f → own_bytes f ≤ 4 * MAX_CHANNEL_NAME → IsPutOut f → IsReadable f
readable f sendable own put =
    let short = put_out_fits f sendable own put in
    record { sendable = sendable; short = short; again = λ u. text_again f sendable u short }

abbrev pub AreReadable : List Frame → Type 0
AreReadable fs = AllByRecursion IsReadable fs

pub join : (xs ys : List Frame) → AreReadable xs → AreReadable ys → AreReadable (xs ++ ys)
join [] ys h k = k
join (x ∷ xs) ys h k = (h.0, join xs ys h.1 k)

-- OF THE CONNECTION

conn_length : (conn : ℕ) → length (conn_text conn) ≡ 9
conn_length conn = omega (arith, fixed_length 16 8 conn)

code_fits : (unknown : Bool) → IfSome (unknown_code unknown) Fits32
code_fits true = omega arith
code_fits false = tt

pub connected_readable : (conn : ℕ) (key : List ℕ) (unknown : Bool) → IsKey key
    → IsReadable (frames.Connected (conn_text conn) key CONNECTION_STATE_TTL MAX_IDLE_INTERVAL MAX_MESSAGE_SIZE (unknown_code unknown))
connected_readable conn key unknown short =
    readable (frames.Connected (conn_text conn) key CONNECTION_STATE_TTL MAX_IDLE_INTERVAL MAX_MESSAGE_SIZE (unknown_code unknown))
    (omega arith, omega arith, omega arith, code_fits unknown) (omega (arith, conn_length conn, short)) tt

disconnected_readable : (code : Option ℕ) → IfSome code Fits32 → IsReadable (frames.Disconnected code)
disconnected_readable code fits = readable (frames.Disconnected code) fits (omega arith) tt

pub closed_readable : IsReadable frames.Closed
closed_readable = readable frames.Closed tt (omega arith) tt

pub heartbeat_readable : IsReadable frames.Heartbeat
heartbeat_readable = readable frames.Heartbeat tt (omega arith) tt

pub farewell_readable : (why : End) → AreReadable (option_to_list (farewell why))
farewell_readable ends.Closed = tt
farewell_readable ends.LinkEnded = tt
farewell_readable ends.LinkFault = tt
farewell_readable (ends.Superseded mine newer) = (disconnected_readable _ (omega arith), tt)
farewell_readable ends.Forgotten = (disconnected_readable _ (omega arith), tt)
farewell_readable (ends.Lagged position first) = (disconnected_readable _ (omega arith), tt)
farewell_readable (ends.BadFrame bytes) = (disconnected_readable _ (omega arith), tt)
farewell_readable (ends.SerialGap got expected) = (disconnected_readable _ (omega arith), tt)
farewell_readable (ends.SerialOld got expected) = (disconnected_readable _ (omega arith), tt)
farewell_readable (ends.Idle last now) = (disconnected_readable _ (omega arith), tt)
farewell_readable ends.Stopped = (disconnected_readable None tt, tt)
farewell_readable (ends.ConnectionLimit count given) = (disconnected_readable _ (omega arith), tt)
farewell_readable ends.NoMemory = tt

-- OF PUTS

pub ack_readable : (serial : ℕ) → IsMsgSerial serial → IsReadable (frames.Ack serial 1)
ack_readable serial h = readable (frames.Ack serial 1) (h, (omega arith, omega arith)) (omega arith) tt

pub nack_readable : (serial code : ℕ) → IsMsgSerial serial → Fits32 code → IsReadable (frames.Nack serial 1 code)
nack_readable serial code h c = readable (frames.Nack serial 1 code) (h, (omega arith, omega arith), c) (omega arith) tt

-- OF CHANNELS

pub limit_readable : (name : List ℕ) → IsName name → IsReadable (frames.Error (Some name) CHANNEL_LIMIT)
limit_readable name h = readable (frames.Error (Some name) CHANNEL_LIMIT) (h, omega arith) (omega (arith, h.1)) tt

pub detached_readable : (name : List ℕ) → IsName name → IsReadable (frames.Detached name None)
detached_readable name h = readable (frames.Detached name None) (h, tt) (omega (arith, h.1)) tt

flags_fit : (serial : ChannelSerial) (resumed presence objects : Bool) → Fits64 (flags_of (record { serial = serial; resumed = resumed; presence = presence; objects = objects }))
flags_fit serial true true true = omega arith
flags_fit serial true true false = omega arith
flags_fit serial true false true = omega arith
flags_fit serial true false false = omega arith
flags_fit serial false true true = omega arith
flags_fit serial false true false = omega arith
flags_fit serial false false true = omega arith
flags_fit serial false false false = omega arith

attach_fits : (asked : Option Given) (resumed : Bool) → IfSome (attach_code asked resumed) Fits32
attach_fits (Some asked) false = omega arith
attach_fits (Some asked) true = tt
attach_fits None false = tt
attach_fits None true = tt

pub attached_readable : (name : List ℕ) (asked : Option Given) (j : Joining) → IsName name → IsSerial j.serial
    → IsReadable (frames.Attached name j.serial (flags_of j) (attach_code asked j.resumed))
attached_readable name asked j h serial =
    readable (frames.Attached name j.serial (flags_of j) (attach_code asked j.resumed))
    (h, serial, flags_fit j.serial j.resumed j.presence j.objects, attach_fits asked j.resumed) (omega (arith, h.1)) tt

-- OF ENTRIES

pub entry_readable : (name : List ℕ) (epoch : ℕ) (e : Entry) → IsName name → epoch < 2 ^ 128 → IsEntry e → IsReadable (entry_frame name epoch e)
entry_readable name epoch e h small entry = by_body e.body (entry name epoch h small)
  where
    by_body : (body : Body) → IsOutgoing (body_frame (entry_head name epoch e) body) → IsReadable (body_frame (entry_head name epoch e) body)
    by_body (Messages items) made = readable (frames.Message (entry_head name epoch e) items) made.0 (omega (arith, h.1, conn_length e.conn)) made.1
    by_body (Presence items) made = readable (frames.Presence (entry_head name epoch e) items) made.0 (omega (arith, h.1, conn_length e.conn)) made.1
    by_body (Objects ops) made = readable (frames.Object (entry_head name epoch e) ops) made.0 (omega (arith, h.1, conn_length e.conn)) made.1

pub entries_readable : (name : List ℕ) (epoch : ℕ) (entries : List Entry) → IsName name → epoch < 2 ^ 128 → AllByRecursion IsEntry entries → AreReadable (map (entry_frame name epoch) entries)
entries_readable name epoch [] h small given = tt
entries_readable name epoch (e ∷ more) h small given = (entry_readable name epoch e h small given.0, entries_readable name epoch more h small given.1)

-- OF PAGES

no_colon : (b : ℕ) → is_digit b ≡ true → not (is_colon b) ≡ true
no_colon b h = grind (arith, nat_tests)

first_true : (a b : Bool) → (a && b) ≡ true → a ≡ true
first_true true b h = refl
first_true false b h = h

second_true : (a b : Bool) → (a && b) ≡ true → b ≡ true
second_true true b h = h
second_true false b h = cc

both_true : (a b : Bool) → a ≡ true → b ≡ true → (a && b) ≡ true
both_true true b h k = k
both_true false b h k = h

no_colons : (bs : List ℕ) → list_all is_digit bs ≡ true → list_all (λ b. not (is_colon b)) bs ≡ true
no_colons [] h = refl
no_colons (b ∷ bs) h =
    both_true (not (is_colon b)) (list_all (λ c. not (is_colon c)) bs) (no_colon b (first_true (is_digit b) (list_all is_digit bs) h))
    (no_colons bs (second_true (is_digit b) (list_all is_digit bs) h))

decimal_plain : (n : ℕ) → n < 2 ^ 64 → list_all (λ b. not (is_colon b)) (decimal n) ≡ true
decimal_plain n small = no_colons (decimal n) (decimal_digits n small)

decimal_short : (n : ℕ) → n < 2 ^ 64 → length (decimal n) ≤ 20
decimal_short n small = length-decimal-le 20 n (omega arith) (omega (arith, small)) small

number_small : (count : ℕ) → min (count + 1) (2 ^ 64 - 1) < 2 ^ 64
number_small count = omega arith

pub page_readable : (reply : ChannelReply) (pages : Sequences) → IsName pages.channel → pages.sequence < 2 ^ 64 → IsChannelCarried reply → AreReadable (option_to_list (page_frame reply pages))
page_readable (channel.Members items last head) pages h small given =
    let made = given pages.channel (page_at pages.sequence (next_number pages.members)) h (decimal_plain pages.sequence small) in (
      readable (member_frame pages.channel (page_at pages.sequence (next_number pages.members)) items) made.0
          (omega (arith, h.1, decimal_short pages.sequence small, decimal_short (next_number pages.members) (number_small pages.members.count))) made.1,
      tt,
    )
page_readable (channel.Objects states last head) pages h small given =
    let made = given pages.channel (page_at pages.sequence (next_number pages.objects)) h (decimal_plain pages.sequence small) in (
      readable (object_frame pages.channel (page_at pages.sequence (next_number pages.objects)) states) made.0
          (omega (arith, h.1, decimal_short pages.sequence small, decimal_short (next_number pages.objects) (number_small pages.objects.count))) made.1,
      tt,
    )
page_readable (channel.Put verdict) pages h small given = tt
page_readable (channel.Joined serial resumed presence objects) pages h small given = tt
page_readable (channel.Read reply) pages h small given = tt
page_readable (channel.Gone place) pages h small given = tt
page_readable channel.Ticked pages h small given = tt
page_readable (channel.Census first head members objects) pages h small given = tt

members_end : (pages : Sequences) → IsName pages.channel → pages.sequence < 2 ^ 64 → IsReadable (member_frame pages.channel (end_at pages.sequence) [])
members_end pages h small =
    readable (member_frame pages.channel (end_at pages.sequence) []) (h, decimal_plain pages.sequence small, All-nil (λ (p : PresenceItem). p.stamp < 2 ^ 64))
    (omega (arith, h.1, decimal_short pages.sequence small)) (omega arith, tt)

objects_end : (pages : Sequences) → IsName pages.channel → pages.sequence < 2 ^ 64 → IsReadable (object_frame pages.channel (end_at pages.sequence) [])
objects_end pages h small =
    readable (object_frame pages.channel (end_at pages.sequence) []) (h, decimal_plain pages.sequence small, All-nil IsSendableState)
    (omega (arith, h.1, decimal_short pages.sequence small)) (omega arith, omega arith, tt)

two_readable : (members objects : Bool) (pages : Sequences) → IsName pages.channel → pages.sequence < 2 ^ 64 → AreReadable (two_ends members objects pages)
two_readable true true pages h small = (members_end pages h small, (objects_end pages h small, tt))
two_readable true false pages h small = (members_end pages h small, tt)
two_readable false true pages h small = (objects_end pages h small, tt)
two_readable false false pages h small = tt

end_readable : (may complete : Bool) (pages : Sequences) → IsName pages.channel → pages.sequence < 2 ^ 64 → AreReadable (if may then (if complete then end_pages pages else []) else [])
end_readable true true pages h small = two_readable pages.members.asked pages.objects.asked pages h small
end_readable true false pages h small = tt
end_readable false complete pages h small = tt

pub ends_readable : (session : Session) → IsName session.pages.channel → session.pages.sequence < 2 ^ 64 → AreReadable (ends_here session)
ends_readable session h small = end_readable (may_end session.position session.pages) (is_complete session.pages) session.pages h small
