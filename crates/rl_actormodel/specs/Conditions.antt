-- When an input may come: the conditions of an actor's calls.
use Rattle.std.specs.Prelude.{◌≡◌, ℕ, suc, Bool, true, false, ◌&&◌, ◌==◌, nat_le, ◌⊎◌, List, [], ◌∷◌, length, Some}
use Rattle.rl_types.specs.declared.messages.Entry.{Entry}
use Rattle.rl_events.specs.declared.book.BookEvent.{BookEvent}
use Rattle.rl_events.specs.declared.book.BookEvent.TheVariants.{Open, Resume, Begin, End, Lost, Close, Expire}
use Rattle.rl_events.specs.declared.book.BookReply.{BookReply}
use Rattle.rl_events.specs.declared.book.BookReply.TheVariants.{Opened, Limit, Resumed, KeyUnknown, Go, Known, SerialGap, SerialOld, Superseded, NoRecord, Done, Expired}
use Rattle.rl_events.specs.declared.channel.ChannelEvent.{ChannelEvent}
use Rattle.rl_events.specs.declared.channel.ChannelEvent.TheVariants as events
use Rattle.rl_events.specs.declared.channel.ChannelReply.{ChannelReply}
use Rattle.rl_events.specs.declared.channel.ChannelReply.TheVariants as channel
use Rattle.rl_events.specs.declared.channel.ReadReply.{ReadReply}
use Rattle.rl_events.specs.declared.channel.ReadReply.TheVariants.{Run, NotRetained}
use Rattle.rl_events.specs.declared.calls.DirEvent.{DirEvent}
use Rattle.rl_events.specs.declared.calls.DirEvent.TheVariants.{Ask, Names}
use Rattle.rl_events.specs.declared.calls.DirReply.{DirReply}
use Rattle.rl_events.specs.declared.calls.DirReply.TheVariants as directory
use Rattle.rl_events.specs.declared.calls.Call.{Call}
use Rattle.rl_events.specs.declared.calls.Call.TheVariants as calls
use Rattle.rl_events.specs.declared.calls.Reply.{Reply}
use Rattle.rl_events.specs.declared.calls.Reply.TheVariants as replies
use Rattle.rl_actormodel.specs.State.{State, is_free, has_room}
use Rattle.rl_actormodel.specs.Wishes.{next_call, page_call, poll_call}
use Rattle.rl_actormodel.specs.Takes.{has_form}
use Rattle.rl_actormodel.specs.Inputs.{Input, Took, Absorbed, run}

-- REPLIES

-- the book's reply is one that this event can have
abbrev pub is_book_reply : BookEvent → BookReply → Bool
is_book_reply (Open word now) (Opened conn generation key) = true
is_book_reply (Open word now) (Limit count given) = true
is_book_reply (Resume key now) (Resumed conn generation) = true
is_book_reply (Resume key now) KeyUnknown = true
is_book_reply (Begin conn generation serial) Go = true
is_book_reply (Begin conn generation serial) (Known outcome) = true
is_book_reply (Begin conn generation serial) (SerialGap got expected) = true
is_book_reply (Begin conn generation serial) (SerialOld got expected) = true
is_book_reply (Begin conn generation serial) (Superseded newer) = true
is_book_reply (Begin conn generation serial) NoRecord = true
is_book_reply (End conn generation serial outcome) Done = true
is_book_reply (End conn generation serial outcome) (Superseded newer) = true
is_book_reply (End conn generation serial outcome) NoRecord = true
is_book_reply (Lost conn generation now) Done = true
is_book_reply (Lost conn generation now) (Superseded newer) = true
is_book_reply (Lost conn generation now) NoRecord = true
is_book_reply (Close conn generation) Done = true
is_book_reply (Close conn generation) (Superseded newer) = true
is_book_reply (Close conn generation) NoRecord = true
is_book_reply (Expire now) (Expired conns) = true
is_book_reply event reply = false

-- so of the directory
abbrev pub is_directory_reply : DirEvent → DirReply → Bool
is_directory_reply (Ask name) (directory.At number) = true
is_directory_reply (Ask name) (directory.Full count) = true
is_directory_reply Names (directory.Names names) = true
is_directory_reply event reply = false

-- the entries follow a place one after another
abbrev pub follow : ℕ → List Entry → Bool
follow from [] = true
follow from (e ∷ more) = (e.place == suc from) && follow (suc from) more

-- a run has at most as many entries as were asked for, behind the place that was asked for
abbrev pub is_run_of : ℕ → ℕ → ReadReply → Bool
is_run_of from most (Run entries) = nat_le (length entries) most && follow from entries
is_run_of from most (NotRetained first) = true

-- so of a channel
abbrev pub is_channel_reply : ChannelEvent → ChannelReply → Bool
is_channel_reply (events.Put conn serial body now) (channel.Put verdict) = true
is_channel_reply (events.Join asked) (channel.Joined serial resumed presence objects) = true
is_channel_reply (events.Read from most) (channel.Read reply) = is_run_of from most reply
is_channel_reply (events.MemberPage after most) (channel.Members items last head) = true
is_channel_reply (events.ObjectPage after most) (channel.Objects states last head) = true
is_channel_reply (events.Gone conn now) (channel.Gone place) = true
is_channel_reply (events.Tick now) channel.Ticked = true
is_channel_reply events.Census (channel.Census first head members objects) = true
is_channel_reply event reply = false

-- the reply is of the call's kind
abbrev pub is_reply_to : Call → Reply → Bool
is_reply_to (calls.Book event) (replies.Book reply) = is_book_reply event reply
is_reply_to (calls.Dir event) (replies.Dir reply) = is_directory_reply event reply
is_reply_to (calls.Chan number event) (replies.Chan reply) = is_channel_reply event reply
is_reply_to call reply = false

-- INPUTS

-- a frame may be taken up where the actor is not ended, wants no call and has room
abbrev pub may_take : State → Bool
may_take s = is_free s && has_room s

-- a call that the actor wants at some moment, or the next page or the read of a session, where there is room
abbrev pub IsCalled : Call → State → Type 0
IsCalled call s =
    ((moment : ℕ) × (next_call moment s ≡ Some call))
    ⊎ ((name : List ℕ) × ((page_call name s ≡ Some call) ⊎ (poll_call name s ≡ Some call)) × (has_room s ≡ true))

-- each input comes where its call may be made, and what is taken up has its form; a rest, an ending and the taking of a
-- frame come at any time
abbrev pub IsAllowed : Input → State → Type 0
IsAllowed (Took came now) s = (may_take s ≡ true) × (has_form came ≡ true)
IsAllowed (Absorbed call reply now) s = IsCalled call s × (is_reply_to call reply ≡ true)
IsAllowed input s = Unit {0}

-- all of them, of which the latest stands first
abbrev pub AreAllowed : List Input → State → Type 0
AreAllowed [] s = Unit {0}
AreAllowed (input ∷ before) s = IsAllowed input (run before s) × AreAllowed before s
