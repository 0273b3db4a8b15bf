-- What is put out and heard, as frames.
use Rattle.std.proofs.Common.{◌≡◌, ℕ, Bool, true, false, cond, List, [], ◌∷◌, ◌++◌, map, refl, sym, ◌∙◌, ap}
use Rattle.std.specs.Prelude.{Option, Some, None, option_to_list, ◌&&◌, nat_le}
use Rattle.rl_types.specs.declared.messages.Body.{Body}
use Rattle.rl_types.specs.declared.messages.Body.TheVariants as body
use Rattle.rl_types.specs.declared.messages.Entry.{Entry}
use Rattle.rl_events.specs.declared.channel.ChannelReply.{ChannelReply}
use Rattle.rl_events.specs.declared.channel.ChannelReply.TheVariants as replies
use Rattle.rl_pages.specs.Frames.{page_at, end_at, member_frame, object_frame}
use Rattle.rl_pages.specs.State.{Sequences, page_frame, is_complete, next_number}
use Rattle.rl_connsm.specs.Rules.{is_connected}
use Rattle.rl_names.specs.Names.{at, with_entry}
use Rattle.rl_clientmodel.specs.declared.steps.ChannelStep.TheVariants as kinds
use Rattle.rl_clientmodel.specs.Channels.{ClientChannel}
use Rattle.rl_clientmodel.specs.Answers.{attached_got, is_answer}
use Rattle.rl_clientmodel.specs.Entries.{entry_got, page_got, object_page_got}
use Rattle.rl_clientmodel.specs.States.{ClientState, changed, stepped, with_channel}
use Rattle.rl_clientmodel.specs.Hearing.{hears, attached_in, entered_again}
use Rattle.rl_actormodel.specs.declared.parts.Session.{Session}
use Rattle.rl_actormodel.specs.Attaches.{flags_of}
use Rattle.rl_actormodel.specs.Reads.{body_frame, entry_frame, entry_head}
use Rattle.rl_actormodel.specs.Pagings as actor
use Rattle.rl_lanes.specs.Lanes.{Setup, OfMembers, EndOfMembers, OfObjects, EndOfObjects, Coming, Tells, Leaves, Fails, Gives, Shows, frame_of}
use Rattle.rl_lanes.specs.Moves.{ends_here, page_in, got}
use Rattle.rl_lanes.specs.Frames.{FramesAreTheMachines}

-- PUT OUT

entries_are : (setup : Setup) (epoch : ℕ) (entries : List Entry) → map (frame_of setup) (map (Gives epoch) entries) ≡ map (entry_frame setup.name epoch) entries
entries_are setup epoch [] = refl
entries_are setup epoch (e ∷ entries) = ap (λ frames. entry_frame setup.name epoch e ∷ frames) (entries_are setup epoch entries)

pages_are : (setup : Setup) (told : ChannelReply) (pages : Sequences) → pages.channel ≡ setup.name → map (frame_of setup) (page_in told pages) ≡ option_to_list (page_frame told pages)
pages_are setup (replies.Members items last head) pages same = ap (λ name. member_frame name (page_at pages.sequence (next_number pages.members)) items ∷ []) (sym same)
pages_are setup (replies.Objects states last head) pages same = ap (λ name. object_frame name (page_at pages.sequence (next_number pages.objects)) states ∷ []) (sym same)
pages_are setup (replies.Put verdict) pages same = refl
pages_are setup (replies.Joined serial resumed presence objects) pages same = refl
pages_are setup (replies.Read read) pages same = refl
pages_are setup (replies.Gone place) pages same = refl
pages_are setup replies.Ticked pages same = refl
pages_are setup (replies.Census least head members objects) pages same = refl

ends_by : (setup : Setup) (name : List ℕ) (sequence : ℕ) (complete reached members objects : Bool) → name ≡ setup.name
    → map (frame_of setup) (cond (complete && reached) (cond members (Shows (EndOfMembers (end_at sequence)) ∷ []) [] ++ cond objects (Shows (EndOfObjects (end_at sequence)) ∷ []) []) [])
    ≡ cond (complete && reached) (cond complete (cond members (member_frame name (end_at sequence) [] ∷ []) [] ++ cond objects (object_frame name (end_at sequence) [] ∷ []) []) []) []
ends_by setup name sequence false reached members objects same = refl
ends_by setup name sequence true false members objects same = refl
ends_by setup name sequence true true false false same = refl
ends_by setup name sequence true true true false same = ap (λ n. member_frame n (end_at sequence) [] ∷ []) (sym same)
ends_by setup name sequence true true false true same = ap (λ n. object_frame n (end_at sequence) [] ∷ []) (sym same)
ends_by setup name sequence true true true true same = ap (λ n. member_frame n (end_at sequence) [] ∷ object_frame n (end_at sequence) [] ∷ []) (sym same)

ends_are : (setup : Setup) (session : Session) → session.pages.channel ≡ setup.name → map (frame_of setup) (ends_here session) ≡ actor.ends_here session
ends_are setup session same =
    ends_by setup session.pages.channel session.pages.sequence (is_complete session.pages)
    (nat_le session.pages.members.head session.position && nat_le session.pages.objects.head session.position)
    session.pages.members.asked session.pages.objects.asked same

-- HEARD

abbrev channels_of : ClientState → List (List ℕ × ClientChannel)
channels_of state = state.channels

entered : (again : Bool) (name : List ℕ) (own : List (List ℕ × List ℕ)) (state : ClientState) → (entered_again again name own state).state.channels ≡ state.channels
entered true name own state = refl
entered false name own state = refl

entry_heard_is : (name : List ℕ) (epoch : ℕ) (entry : Entry) (items : Body) (now : ℕ) (state : ClientState)
    → (hears (body_frame (entry_head name epoch entry) items) now state).state ≡ changed name (entry_got (entry_head name epoch entry).serial items now) (at name state.channels) state
entry_heard_is name epoch entry (body.Messages items) now state = refl
entry_heard_is name epoch entry (body.Presence items) now state = refl
entry_heard_is name epoch entry (body.Objects ops) now state = refl

-- a change of the channel where it is known
changes : (name : List ℕ) (change : ClientChannel → ClientChannel) (known : Option ClientChannel) (state : ClientState) (channel : ClientChannel) → known ≡ Some channel
    → (changed name change known state).channels ≡ with_entry name (change channel) state.channels
changes name change known state channel is = ap (λ o. (changed name change o state).channels) is

changes_none : (name : List ℕ) (change : ClientChannel → ClientChannel) (known : Option ClientChannel) (state : ClientState) → known ≡ None → (changed name change known state).channels ≡ state.channels
changes_none name change known state is = ap (λ o. (changed name change o state).channels) is

heard_is : (setup : Setup) (coming : Coming) (now : ℕ) (state : ClientState) (channel : ClientChannel) → at setup.name state.channels ≡ Some channel
    → (hears (frame_of setup coming) now state).state.channels ≡ with_entry setup.name (got setup coming (is_connected state.conn) now channel) state.channels
heard_is setup (Tells given number joining) now state channel is =
    ap (λ o. (attached_in o setup.name joining.serial (flags_of joining) state).state.channels) is
    ∙ entered (is_answer channel) setup.name channel.own (with_channel setup.name (attached_got (flags_of joining) joining.serial channel) state)
heard_is setup Leaves now state channel is = ap (λ o. (stepped (kinds.DetachedGot (is_connected state.conn) now) setup.name o state).state.channels) is
heard_is setup (Fails given code) now state channel is = ap (λ o. (stepped kinds.ErrorGot setup.name o state).state.channels) is
heard_is setup (Gives epoch entry) now state channel is =
    ap channels_of (entry_heard_is setup.name epoch entry entry.body now state)
    ∙ changes setup.name (entry_got (entry_head setup.name epoch entry).serial entry.body now) (at setup.name state.channels) state channel is
heard_is setup (Shows (OfMembers cursor items last)) now state channel is = changes setup.name (page_got (Some cursor) items) (at setup.name state.channels) state channel is
heard_is setup (Shows (EndOfMembers cursor)) now state channel is = changes setup.name (page_got (Some cursor) []) (at setup.name state.channels) state channel is
heard_is setup (Shows (OfObjects cursor states last)) now state channel is = changes setup.name (object_page_got (Some cursor) states now) (at setup.name state.channels) state channel is
heard_is setup (Shows (EndOfObjects cursor)) now state channel is = changes setup.name (object_page_got (Some cursor) [] now) (at setup.name state.channels) state channel is

unheard_is : (setup : Setup) (coming : Coming) (now : ℕ) (state : ClientState) → at setup.name state.channels ≡ None
    → (hears (frame_of setup coming) now state).state.channels ≡ state.channels
unheard_is setup (Tells given number joining) now state is = ap (λ o. (attached_in o setup.name joining.serial (flags_of joining) state).state.channels) is
unheard_is setup Leaves now state is = ap (λ o. (stepped (kinds.DetachedGot (is_connected state.conn) now) setup.name o state).state.channels) is
unheard_is setup (Fails given code) now state is = ap (λ o. (stepped kinds.ErrorGot setup.name o state).state.channels) is
unheard_is setup (Gives epoch entry) now state is =
    ap channels_of (entry_heard_is setup.name epoch entry entry.body now state)
    ∙ changes_none setup.name (entry_got (entry_head setup.name epoch entry).serial entry.body now) (at setup.name state.channels) state is
unheard_is setup (Shows (OfMembers cursor items last)) now state is = changes_none setup.name (page_got (Some cursor) items) (at setup.name state.channels) state is
unheard_is setup (Shows (EndOfMembers cursor)) now state is = changes_none setup.name (page_got (Some cursor) []) (at setup.name state.channels) state is
unheard_is setup (Shows (OfObjects cursor states last)) now state is = changes_none setup.name (object_page_got (Some cursor) states now) (at setup.name state.channels) state is
unheard_is setup (Shows (EndOfObjects cursor)) now state is = changes_none setup.name (object_page_got (Some cursor) [] now) (at setup.name state.channels) state is

pub frames_are_the_machines : FramesAreTheMachines
frames_are_the_machines = record { entries = entries_are; pages = pages_are; ends = ends_are; heard = heard_is; unheard = unheard_is }
