-- What frames, time and a recovery key make of the flag `away` and the runs of each of a client's channels; so each input.
use Rattle.std.proofs.Common.{◌≡◌, ℕ, Bool, true, false, ◌&&◌, cond, List, [], ◌∷◌, map, Option, Some, None, refl, sym, subst}
use Rattle.std.specs.Prelude.{if◌then◌else◌}
use Rattle.std.specs.Ordering.{nat_cmp}
use Rattle.std.specs.Cmp.Lexicographic.{slice_cmp}
use Rattle.std.specs.BTreeMap.{is_at}
use Rattle.rl_ids.specs.declared.serials.ChannelSerial.{ChannelSerial}
use Rattle.rl_types.specs.declared.frames.Frame.{Frame}
use Rattle.rl_types.specs.declared.frames.Frame.TheVariants as frames
use Rattle.rl_types.specs.declared.messages.Body.{Body}
use Rattle.rl_types.specs.declared.messages.Body.TheVariants.{Messages, Presence, Objects}
use Rattle.rl_runs.specs.declared.commands.RecoveryKey.{RecoveryKey}
use Rattle.rl_runs.specs.declared.findings.Answer.{Answer}
use Rattle.rl_runs.specs.declared.findings.Answer.TheVariants.{Ack, Nack}
use Rattle.rl_connsm.specs.Rules.{awaits_connected, is_connected, takes_acknowledgements}
use Rattle.rl_connsm.specs.Rules as rules
use Rattle.rl_connsm.specs.declared.table.ConnEvent.TheVariants as events
use Rattle.rl_names.specs.Names.{at}
use Rattle.rl_clientmodel.specs.declared.steps.ChannelStep.TheVariants as kinds
use Rattle.rl_clientmodel.specs.Channels.{ClientChannel, channel_after, channel_from}
use Rattle.rl_clientmodel.specs.Answers.{attached_got, is_answer}
use Rattle.rl_clientmodel.specs.Commands.{channel_or_new}
use Rattle.rl_clientmodel.specs.Entries.{entry_got, object_page_got, page_got}
use Rattle.rl_clientmodel.specs.Hearing.{attached_in, entered_again, hears, id_of, settle, stands_with}
use Rattle.rl_clientmodel.specs.Inputs.{Input, Told, Heard, Unlinked, Ticked, Recovers, step}
use Rattle.rl_clientmodel.specs.Keys.{channel_of_serial, is_empty, may_recover, with_key}
use Rattle.rl_clientmodel.specs.States.{change_channel, ClientState, Turn, moving, quietly, with_channel}
use Rattle.rl_clientmodel.specs.Times.{aged, collecting, each_channel, is_past_ttl, is_silent, waited}
use Rattle.rl_clientlaws.proofs.Named.{at_each}
use Rattle.rl_clientlaws.proofs.Away.{Calmly, GoesTo, Stays}
use Rattle.rl_clientlaws.proofs.Begun.{attached_goes, entry_goes, object_page_calm, page_calm}
use Rattle.rl_clientlaws.proofs.Turned.{GoesAt, Turned, all_calm, calmly, changed_turned, collected_at, moved_turned, one_turned, same, stepped_turned, told_turned}

-- FRAMES

settled : (b : Bool) (serial count : ℕ) (answer : ℕ → Answer) (s : ClientState) → Turned s.channels (if b then settle serial count answer s else s).channels
settled true serial count answer s = same s.channels
settled false serial count answer s = same s.channels

connected : (b : Bool) (id key : List ℕ) (now : ℕ) (s : ClientState) → Turned s.channels (if b then stands_with id key now s else quietly s).state.channels
connected true id key now s = moved_turned events.Connected now s
connected false id key now s = same s.channels

-- members that are entered again change no channel
entered_channels : (b : Bool) (name : List ℕ) (own : List (List ℕ × List ℕ)) (s : ClientState) → (entered_again b name own s).state.channels ≡ s.channels
entered_channels true name own s = refl
entered_channels false name own s = refl

attached : (o : Option ClientChannel) (name : List ℕ) (told : ChannelSerial) (flags : ℕ) (s : ClientState) → at name s.channels ≡ o
    → Turned s.channels (attached_in o name told flags s).state.channels
attached None name told flags s is = same s.channels
attached (Some c) name told flags s is =
    subst (Turned s.channels) (sym (entered_channels (is_answer c) name c.own (with_channel name (attached_got flags told c) s)))
    (one_turned name (attached_got flags told c) s.channels
    (subst (λ (o : Option ClientChannel). GoesTo (channel_or_new o) (attached_got flags told c)) (sym is) (attached_goes flags told c)))

entry_turned : (name : List ℕ) (serial : Option ChannelSerial) (body : Body) (now : ℕ) (s : ClientState)
    → Turned s.channels (change_channel name (entry_got serial body now) s).channels
entry_turned name serial body now s = changed_turned name (entry_got serial body now) (at name s.channels) s refl (entry_goes serial body now)

heard_turned : (frame : Frame) (now : ℕ) (s : ClientState) → Turned s.channels (hears frame now s).state.channels
heard_turned (frames.Connected id key ttl idle size code) now s = connected (awaits_connected s.conn) id key now s
heard_turned (frames.Ack serial count) now s = settled (takes_acknowledgements s.conn) serial count (λ n. Ack (id_of s.id) n) s
heard_turned (frames.Nack serial count code) now s = settled (takes_acknowledgements s.conn) serial count (λ n. Nack (id_of s.id) n code) s
heard_turned (frames.Disconnected code) now s = moved_turned events.Disconnected now s
heard_turned frames.Closed now s = moved_turned events.ClosedGot now s
heard_turned (frames.Error None code) now s = moved_turned events.Fatal now s
heard_turned (frames.Error (Some name) code) now s = stepped_turned kinds.ErrorGot name (at name s.channels) s refl
heard_turned (frames.Attached name told flags code) now s = attached (at name s.channels) name told flags s refl
heard_turned (frames.Detached name code) now s = stepped_turned (kinds.DetachedGot (is_connected s.conn) now) name (at name s.channels) s refl
heard_turned (frames.Message head items) now s = entry_turned head.channel head.serial (Messages items) now s
heard_turned (frames.Presence head items) now s = entry_turned head.channel head.serial (Presence items) now s
heard_turned (frames.Object head ops) now s = entry_turned head.channel head.serial (Objects ops) now s
heard_turned (frames.Sync name cursor items) now s =
    changed_turned name (page_got cursor items) (at name s.channels) s refl (λ c. Calmly (page_calm cursor items c))
heard_turned (frames.ObjectSync name cursor states) now s =
    changed_turned name (object_page_got cursor states now) (at name s.channels) s refl (λ c. Calmly (object_page_calm cursor states now c))
heard_turned frames.Heartbeat now s = same s.channels
heard_turned frames.Connect now s = same s.channels
heard_turned frames.Disconnect now s = same s.channels
heard_turned frames.Close now s = same s.channels
heard_turned (frames.Attach channel serial) now s = same s.channels
heard_turned (frames.Detach channel) now s = same s.channels
heard_turned frames.Auth now s = same s.channels

-- TIME

waits : (b : Bool) (now : ℕ) (s : ClientState) → Turned s.channels (if b then each_channel (kinds.Waited now) s else s).channels
waits false now s q = same s.channels q
waits true now s q = calmly (at q s.channels) _ (all_calm (kinds.Waited now) q s.channels)

ages : (past silent : Bool) (now : ℕ) (s : ClientState)
    → Turned s.channels (if past then moving [] events.Ttl now s else if silent then moving [] events.Down now s else quietly (waited now s)).state.channels
ages true silent now s = moved_turned events.Ttl now s
ages false true now s = moved_turned events.Down now s
ages false false now s = waits (is_connected s.conn) now s

collects : (now : ℕ) (s : ClientState) (turn : Turn) → Turned s.channels turn.state.channels → Turned s.channels (collecting now turn).state.channels
collects now s turn is q =
    subst (GoesAt (at q s.channels)) (sym (at_each q (channel_after (kinds.Collects now)) turn.state.channels)) (collected_at now (at q s.channels) (at q turn.state.channels) (is q))

-- A RECOVERY KEY

key_by : (b : Bool) (serial : ChannelSerial) (o : Option ClientChannel) → GoesAt None o → GoesAt None (cond b (Some (channel_from serial)) o)
key_by true serial o is = Calmly (Stays refl refl)
key_by false serial o is = is

-- each of its channels is a new one
key_at : (q : List ℕ) (serials : List (List ℕ × ChannelSerial)) → GoesAt None (at q (map channel_of_serial serials))
key_at q [] = tt
key_at q (e ∷ es) = key_by (is_at (slice_cmp nat_cmp q) e.0) e.1 (at q (map channel_of_serial es)) (key_at q es)

and_left : (a b : Bool) → a && b ≡ true → a ≡ true
and_left true b is = refl
and_left false b is = absurd (cc)

and_right : (a b : Bool) → a && b ≡ true → b ≡ true
and_right true b is = is
and_right false b is = absurd (cc)

none_of : (q : List ℕ) (es : List (List ℕ × ClientChannel)) → is_empty es ≡ true → at q es ≡ None
none_of q [] is = refl
none_of q (e ∷ es) is = absurd (cc)

-- a client that may go on with one knows no channel
knows_none : (q : List ℕ) (s : ClientState) → may_recover s ≡ true → at q s.channels ≡ None
knows_none q s may = none_of q s.channels (and_right (rules.may_recover s.conn) (is_empty s.channels) (and_left _ _ (and_left _ _ may)))

recovers : (b : Bool) (key : RecoveryKey) (s : ClientState) → may_recover s ≡ b → Turned s.channels (if b then with_key key s else s).channels
recovers false key s may q = same s.channels q
recovers true key s may q = subst (λ (o : Option ClientChannel). GoesAt o (at q (map channel_of_serial key.serials))) (sym (knows_none q s may)) (key_at q key.serials)

-- INPUTS

pub input_turned : (input : Input) (s : ClientState) → Turned s.channels (step input s).state.channels
input_turned (Told command now) s = told_turned command now s
input_turned (Heard None now) s = same s.channels
input_turned (Heard (Some frame) now) s = heard_turned frame now (record s { got_at = now })
input_turned (Unlinked now) s = moved_turned events.Down now s
input_turned (Ticked now) s = collects now s (aged now s) (ages (is_past_ttl now s) (is_silent now s) now s)
input_turned (Recovers key) s = recovers (may_recover s) key s refl
