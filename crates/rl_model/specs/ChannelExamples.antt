-- Small histories of a channel whose replies are known, with which the definitions are tried.
use Rattle.std.specs.Prelude.{ℕ, ◌≡◌, Bool, true, false, not, List, [], ◌∷◌, map, Option, Some, None, codes, ℤ, pos}
use Rattle.rl_events.specs.declared.channel.ChannelEvent.{ChannelEvent}
use Rattle.rl_events.specs.declared.channel.ChannelEvent.TheVariants.{Put, Join, Read, MemberPage, ObjectPage, Gone, Tick, Census}
use Rattle.rl_events.specs.declared.channel.ChannelReply.{ChannelReply}
use Rattle.rl_events.specs.declared.channel.ChannelReply.TheVariants as replies
use Rattle.rl_events.specs.declared.channel.ReadReply.TheVariants.{NotRetained, Run}
use Rattle.rl_events.specs.declared.channel.Verdict.TheVariants.{Done, Old}
use Rattle.rl_events.specs.declared.channel.Outcome.TheVariants.{Taken, Refused}
use Rattle.rl_types.specs.declared.messages.Given.TheVariants.{Ours}
use Rattle.rl_types.specs.declared.messages.Body.TheVariants.{Presence, Objects}
use Rattle.rl_ids.specs.declared.serials.OpSerial.{OpSerial}
use Rattle.rl_ids.specs.declared.objects.ObjectId.{ObjectId}
use Rattle.rl_ids.specs.declared.objects.ObjectId.TheVariants.{Root, Made}
use Rattle.rl_ids.specs.declared.objects.ObjectKind.TheVariants as kinds
use Rattle.rl_ids.specs.declared.objects.MapValue.TheVariants as values
use Rattle.rl_types.specs.declared.objects.Op.{Op}
use Rattle.rl_types.specs.declared.objects.Op.TheVariants.{MapCreate, MapSet, MapRemove, CounterCreate, CounterInc, Delete}
use Rattle.rl_types.specs.declared.objects.ObjectOp.{ObjectOp}
use Rattle.rl_types.specs.declared.objects.ObjectState.{ObjectState}
use Rattle.rl_types.specs.declared.objects.ObjectBody.TheVariants as bodies
use Rattle.rl_types.specs.declared.objects.MapCell.{MapCell}
use Rattle.rl_types.specs.declared.presence.PresenceItem.{PresenceItem}
use Rattle.rl_types.specs.declared.presence.PresenceAction.{PresenceAction}
use Rattle.rl_types.specs.declared.presence.PresenceAction.TheVariants as presence
use Rattle.rl_model.specs.Reply.{reply}

-- what a channel of the epoch 1 and the site `s1` answers to these events, in order
abbrev pub replies_after : List ChannelEvent → List ChannelEvent → List ChannelReply
replies_after past [] = []
replies_after past (event ∷ events) = reply 1 (codes "s1") past event ∷ replies_after (event ∷ past) events

abbrev pub answers : List ChannelEvent → List ChannelReply
answers events = replies_after [] events

-- an item as a client gives it
abbrev pub given : PresenceAction → List ℕ → Option (List ℕ) → PresenceItem
given action client payload =
    record { action = action; client = client; conn = []; id = []; stamp = 0; payload = payload; encoding = None }

-- the item of a member of connection 1
abbrev pub item_of : PresenceAction → List ℕ → List ℕ → ℕ → Option (List ℕ) → PresenceItem
item_of action client id stamp payload =
    record {
      action = action;
      client = client;
      conn = codes "c00000001";
      id = id;
      stamp = stamp;
      payload = payload;
      encoding = None;
    }

abbrev pub put : ℕ → ℕ → List PresenceItem → ChannelEvent
put serial now items = Put 1 serial (Presence items) now

abbrev pub entered : ChannelEvent
entered = put 0 0 (given presence.Enter (codes "a") (Some (codes "x")) ∷ [])

abbrev pub refused : ChannelEvent
refused = put 1 0 (given presence.Update [] None ∷ [])

pub record AnswersMembers : Type 0 where
  -- a member enters, a refusal keeps its serial, a session begins, the member goes with its connection
  pub life : answers
      (entered ∷ MemberPage None 64 ∷ refused ∷ refused ∷ entered ∷ Join (Some (Ours (record { epoch = 1; place = 0 }))) ∷ Read 2 16 ∷ Gone 1 0 ∷ Gone 1 0 ∷ Census ∷ [])
      ≡ replies.Put (Done (Taken 1))
      ∷ replies.Members (item_of presence.Present (codes "a") (codes "c00000001:0:0") 0 (Some (codes "x")) ∷ []) true 1
      ∷ replies.Put (Done (Refused 114))
      ∷ replies.Put (Done (Refused 114))
      ∷ replies.Put Old
      ∷ replies.Joined (record { epoch = 1; place = 0 }) true true true
      ∷ replies.Read (NotRetained 1)
      ∷ replies.Gone (Some 2)
      ∷ replies.Gone None
      ∷ replies.Census 1 2 0 1
      ∷ []
  -- members are in order of key, and a page begins past its cursor; the last item of a key counts
  pub pages : answers
      (put 0 5 (given presence.Enter (codes "b") None ∷ given presence.Enter (codes "a") None ∷ given presence.Update (codes "b") (Some (codes "y")) ∷ [])
      ∷ MemberPage None 1
      ∷ MemberPage (Some (record { conn = codes "c00000001"; client = codes "a" })) 1
      ∷ MemberPage (Some (record { conn = codes "c00000001"; client = codes "b" })) 1
      ∷ put 1 6 (given presence.Leave (codes "a") None ∷ [])
      ∷ Join None
      ∷ Census
      ∷ [])
      ≡ replies.Put (Done (Taken 1))
      ∷ replies.Members (item_of presence.Present (codes "a") (codes "c00000001:0:1") 5 None ∷ []) false 1
      ∷ replies.Members (item_of presence.Present (codes "b") (codes "c00000001:0:2") 5 (Some (codes "y")) ∷ []) true 1
      ∷ replies.Members [] true 1
      ∷ replies.Put (Done (Taken 2))
      ∷ replies.Joined (record { epoch = 1; place = 2 }) false true false
      ∷ replies.Census 1 2 1 1
      ∷ []
  -- who goes is told in order of client id, at the clock of the event
  pub goes : answers
      (put 0 5 (given presence.Enter (codes "b") None ∷ given presence.Enter (codes "a") None ∷ [])
      ∷ Gone 1 3
      ∷ Read 1 4
      ∷ Join None
      ∷ [])
      ≡ replies.Put (Done (Taken 1))
      ∷ replies.Gone (Some 2)
      ∷ replies.Read (Run (record { place = 2; stamp = 5; conn = 1; serial = None; body = Presence (item_of presence.Leave (codes "a") (codes "gone:2:0") 5 None ∷ item_of presence.Leave (codes "b") (codes "gone:2:1") 5 None ∷ []) } ∷ []))
      ∷ replies.Joined (record { epoch = 1; place = 2 }) false false false
      ∷ []

-- OBJECTS

-- an operation as a client gives it
abbrev pub asked : Op → ObjectOp
asked op = record { op = op; serial = None }

abbrev pub put_ops : ℕ → ℕ → List Op → ChannelEvent
put_ops serial now ops = Put 1 serial (Objects (map asked ops)) now

abbrev pub a : ObjectId
a = Made kinds.Counter (codes "a") 0

abbrev pub m : ObjectId
m = Made kinds.Map (codes "m") 0

abbrev pub at : ℕ → ℕ → OpSerial
at place index = record { place = place; index = index; site = codes "s1" }

-- objects whose last operation had this serial
abbrev pub counter_state : ℕ → ℕ → Bool → ℤ → ObjectState
counter_state place index deleted sum =
    record { id = a; sites = (codes "s1", at place index) ∷ []; tombstone = deleted; created = not deleted; body = bodies.Counter sum }

abbrev pub root_state : List (List ℕ × OpSerial) → List (List ℕ × MapCell) → ObjectState
root_state sites cells = record { id = Root; sites = sites; tombstone = false; created = true; body = bodies.Map cells }

pub record AnswersObjects : Type 0 where
  -- the first rule that an operation breaks, and what is left of those that break none
  pub rules : answers
      (put_ops 0 0 (CounterCreate a (pos 5) ∷ [])
      ∷ put_ops 1 0 (CounterCreate a (pos 5) ∷ [])
      ∷ put_ops 2 0 (CounterInc a (pos 9007199254740991) ∷ [])
      ∷ put_ops 3 0 (MapSet a (codes "k") (values.Bool true) ∷ [])
      ∷ put_ops 4 0 (Delete a ∷ [])
      ∷ put_ops 5 0 (CounterInc a (pos 1) ∷ [])
      ∷ put_ops 6 0 (MapSet Root (codes "k") (values.Ref (Made kinds.Map (codes "none") 0)) ∷ [])
      ∷ ObjectPage None 4
      ∷ Census
      ∷ [])
      ≡ replies.Put (Done (Taken 1))
      ∷ replies.Put (Done (Refused 107))
      ∷ replies.Put (Done (Refused 109))
      ∷ replies.Put (Done (Refused 110))
      ∷ replies.Put (Done (Taken 2))
      ∷ replies.Put (Done (Refused 111))
      ∷ replies.Put (Done (Refused 106))
      ∷ replies.Objects (counter_state 2 0 true (pos 0) ∷ root_state [] [] ∷ []) true 2
      ∷ replies.Census 1 2 0 2
      ∷ []
  -- each operation of a put is judged after the earlier ones, and a put that breaks a rule changes no object
  pub frames : answers
      (put_ops 0 0 (CounterCreate a (pos 5) ∷ CounterInc a (pos 2) ∷ MapSet Root (codes "k") (values.Ref a) ∷ [])
      ∷ put_ops 1 0 (MapCreate m [] ∷ MapSet m (codes "x") (values.Whole (pos 1)) ∷ Delete m ∷ MapRemove m (codes "x") ∷ [])
      ∷ ObjectPage None 1
      ∷ ObjectPage (Some a) 1
      ∷ ObjectPage (Some Root) 1
      ∷ ObjectPage None 0
      ∷ Join None
      ∷ Join (Some (Ours (record { epoch = 1; place = 0 })))
      ∷ Census
      ∷ [])
      ≡ replies.Put (Done (Taken 1))
      ∷ replies.Put (Done (Refused 111))
      ∷ replies.Objects (counter_state 1 1 false (pos 7) ∷ []) false 1
      ∷ replies.Objects (root_state ((codes "s1", at 1 2) ∷ []) ((codes "k", record { serial = at 1 2; value = Some (values.Ref a) }) ∷ []) ∷ []) true 1
      ∷ replies.Objects [] true 1
      ∷ replies.Objects [] false 1
      ∷ replies.Joined (record { epoch = 1; place = 1 }) false false true
      ∷ replies.Joined (record { epoch = 1; place = 0 }) true true true
      ∷ replies.Census 1 1 0 2
      ∷ []
  -- a tombstone is dropped at a Tick that is a day past it; its id is then too old to be made again. A root whose cells are
  -- gone is as one that nobody wrote to
  pub ticks : answers
      (put_ops 0 0 (CounterCreate a (pos 5) ∷ [])
      ∷ put_ops 1 7 (Delete a ∷ MapSet Root (codes "k") (values.Bool true) ∷ MapRemove Root (codes "k") ∷ [])
      ∷ Tick 86400006
      ∷ Census
      ∷ Join None
      ∷ Tick 86400007
      ∷ Census
      ∷ Join None
      ∷ put_ops 2 86400007 (CounterCreate a (pos 5) ∷ [])
      ∷ [])
      ≡ replies.Put (Done (Taken 1))
      ∷ replies.Put (Done (Taken 2))
      ∷ replies.Ticked
      ∷ replies.Census 3 2 0 2
      ∷ replies.Joined (record { epoch = 1; place = 2 }) false false true
      ∷ replies.Ticked
      ∷ replies.Census 3 2 0 1
      ∷ replies.Joined (record { epoch = 1; place = 2 }) false false false
      ∷ replies.Put (Done (Refused 108))
      ∷ []
