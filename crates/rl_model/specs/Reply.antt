-- What a channel answers to each event, from its whole history.
use Rattle.std.specs.Prelude.{ℕ, ◌+◌, Bool, false, ◌&&◌, ◌||◌, not, if◌then◌else◌, ◌==◌, nat_lt, List, length, take, drop, ◌∷◌, Option, Some, option_map}
use Rattle.rl_events.specs.declared.channel.ChannelEvent.{ChannelEvent}
use Rattle.rl_events.specs.declared.channel.ChannelEvent.TheVariants.{Put, Join, Read, MemberPage, ObjectPage, Gone, Tick, Census}
use Rattle.rl_events.specs.declared.channel.ChannelReply.{ChannelReply}
use Rattle.rl_events.specs.declared.channel.ChannelReply.TheVariants as replies
use Rattle.rl_events.specs.declared.channel.ReadReply.{ReadReply}
use Rattle.rl_events.specs.declared.channel.ReadReply.TheVariants.{Run, NotRetained}
use Rattle.rl_types.specs.declared.messages.Entry.{Entry}
use Rattle.rl_types.specs.declared.messages.Given.{Given}
use Rattle.rl_types.specs.declared.messages.Given.TheVariants.{Ours}
use Rattle.rl_model.specs.History.{setting, ticked}
use Rattle.rl_model.specs.Objects.{objects_kept, page_states, is_last_states}
use Rattle.rl_objmodel.specs.Held.{Held}
use Rattle.rl_types.specs.declared.objects.ObjectState.{ObjectState}
use Rattle.rl_objmodel.specs.Steps.{is_bare, states}
use Rattle.rl_model.specs.Verdict.{decisions, decided, verdict, log, head}
use Rattle.rl_model.specs.Members.{members, page_items, is_last_page}
use Rattle.rl_model.specs.Window.{first, is_retained}

-- RESUMED (TR3c): a serial was given, it is of this run's epoch, and its place is retained
abbrev pub is_resumed : ℕ → List ℕ → List ChannelEvent → Option Given → Bool
is_resumed epoch site past (Some (Ours serial)) = serial.epoch == epoch && is_retained site past serial.place
is_resumed epoch site past _ = false

abbrev pub asked_place : Option Given → ℕ
asked_place (Some (Ours serial)) = serial.place
asked_place _ = 0

-- the place where the session begins: the one asked for where it is resumed, else the head
abbrev pub joined_place : ℕ → List ℕ → List ChannelEvent → Option Given → ℕ
joined_place epoch site past asked = if is_resumed epoch site past asked then asked_place asked else head site past

-- the first entries after a place, or that they are not all retained
abbrev pub read_reply : List ℕ → List ChannelEvent → ℕ → ℕ → ReadReply
read_reply site past from most =
    if nat_lt (from + 1) (first site past) || nat_lt (head site past) from
    then NotRetained (first site past)
    else Run (take most (drop from (log site past)))

-- the place of the entry that tells of the members that leave with their connection, where there is one
abbrev pub gone_place : List ℕ → List ChannelEvent → ℕ → ℕ → Option ℕ
gone_place site past conn now =
    option_map (λ (e : Entry). e.place) (decided (setting site (Gone conn now ∷ past)) (decisions site past) (Gone conn now)).entry

-- the objects of a channel after a history
abbrev pub objects_at : List ℕ → List ChannelEvent → List Held
objects_at site past = objects_kept (ticked past) (log site past)

-- as pages show them
abbrev pub states_at : List ℕ → List ChannelEvent → List ObjectState
states_at site past = states (objects_at site past)

-- members may be there where the session begins before the head
abbrev pub has_presence : List ℕ → List ChannelEvent → ℕ → Bool
has_presence site past place = not (place == head site past) || not (length (members (log site past)) == 0)

-- objects may be there where the session begins before the head; a root without cells alone is none
abbrev pub has_objects : List ℕ → List ChannelEvent → ℕ → Bool
has_objects site past place = not (place == head site past) || not (is_bare (objects_at site past))

-- what a Join of a session that begins at this place is answered
abbrev pub joined : ℕ → List ℕ → List ChannelEvent → Bool → ℕ → ChannelReply
joined epoch site past resumed place =
    replies.Joined (record { epoch = epoch; place = place }) resumed (has_presence site past place) (has_objects site past place)

-- what a channel of this epoch and site answers to an event after a history
abbrev pub reply : ℕ → List ℕ → List ChannelEvent → ChannelEvent → ChannelReply
reply epoch site past (Put conn serial body now) = replies.Put (verdict (setting site (Put conn serial body now ∷ past)) (decisions site past) conn serial body)
reply epoch site past (Join asked) = joined epoch site past (is_resumed epoch site past asked) (joined_place epoch site past asked)
reply epoch site past (Read from most) = replies.Read (read_reply site past from most)
reply epoch site past (MemberPage after most) = replies.Members (page_items after most (members (log site past))) (is_last_page after most (members (log site past))) (head site past)
reply epoch site past (ObjectPage after most) = replies.Objects (page_states after most (states_at site past)) (is_last_states after most (states_at site past)) (head site past)
reply epoch site past (Gone conn now) = replies.Gone (gone_place site past conn now)
reply epoch site past (Tick now) = replies.Ticked
reply epoch site past Census = replies.Census (first site past) (head site past) (length (members (log site past))) (length (objects_at site past))
