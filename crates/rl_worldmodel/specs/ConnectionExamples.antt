-- Runs whose reports are known: connections that are lost, given up, taken over, closed and recovered, and what is acknowledged on them.
use Rattle.std.specs.Prelude.{ℕ, ◌≡◌, List, ◌++◌, Ok, codes}
use Rattle.rl_worldmodel.specs.Reports.{report_of}

-- the first acknowledgement was lost, and the id is remembered
abbrev pub answered_by_id : List ℕ
answered_by_id =
    codes "client A\nopen A\nattach A room\nsettle\npubid A room k1 hi\nstep A\nstep A\nstep A\nstep A\ncut A\n"
    ++ codes "step A\nstep A\ntick 120000\nexpire\nreap\nopen A\nsettle\n"

abbrev pub answered_by_id_report : List ℕ
answered_by_id_report =
    codes "report\n"
    ++ codes "channel room first 1 head 1\n"
    ++ codes "entry 1 0 c00000001 0 message | \"k1\" - \"hi\"\n"
    ++ codes "client A connected c00000002 pending 0 dropped 0\n"
    ++ codes "ack c00000002 0\n"
    ++ codes "record room attached 1\n"
    ++ codes "segment 0 opened\n"
    ++ codes "got 1 message | \"k1\" - \"hi\"\n"
    ++ codes "members room yes\n"
    ++ codes "objects room yes\n"
    ++ codes "map root 0\n"
    ++ codes "end\n"

-- a call of a superseded actor is carried through late, and adds nothing
abbrev pub superseded : List ℕ
superseded =
    codes "client A\nopen A\nattach A room\nsettle\npub A room hi\nstep A/1\nstep A/1\ncut A\nopen A\n"
    ++ codes "step A/2\nget A\nstep A/2\nstep A/2\nstep A/2\nstep A/2\nstep A/2\nstep A/2\nstep A/2\nstep A/1\n"
    ++ codes "step A/1\nsettle\n"

abbrev pub superseded_report : List ℕ
superseded_report =
    codes "report\n"
    ++ codes "channel room first 1 head 1\n"
    ++ codes "entry 1 0 c00000001 0 message | \"c00000001:0:0\" - \"hi\"\n"
    ++ codes "client A connected c00000001 pending 0 dropped 0\n"
    ++ codes "ack c00000001 0\n"
    ++ codes "record room attached 1\n"
    ++ codes "segment 0 opened\n"
    ++ codes "got 1 message | \"c00000001:0:0\" - \"hi\"\n"
    ++ codes "members room yes\n"
    ++ codes "objects room yes\n"
    ++ codes "map root 0\n"
    ++ codes "end\n"

-- a lost connection is given up after two minutes
abbrev pub expired : List ℕ
expired =
    codes "client A\nopen A\nsettle\ncut A\nsettle\ntick 119999\nexpire\ntick 1\nexpire\nopen A\nsettle\n"

abbrev pub expired_report : List ℕ
expired_report =
    codes "report\n"
    ++ codes "client A connected c00000002 pending 0 dropped 0\n"
    ++ codes "end\n"

-- and not before
abbrev pub not_yet_expired : List ℕ
not_yet_expired =
    codes "client A\nopen A\nsettle\ncut A\nsettle\ntick 119999\nexpire\ntick 1\nopen A\nsettle\n"

abbrev pub not_yet_expired_report : List ℕ
not_yet_expired_report =
    codes "report\n"
    ++ codes "client A connected c00000001 pending 0 dropped 0\n"
    ++ codes "end\n"

-- it comes back just before it would be given up
abbrev pub came_back : List ℕ
came_back =
    codes "client A\nopen A\nsettle\ncut A\nsettle\ntick 120000\nopen A\nstep A\nexpire\nsettle\n"

abbrev pub came_back_report : List ℕ
came_back_report =
    codes "report\n"
    ++ codes "client A connected c00000001 pending 0 dropped 0\n"
    ++ codes "end\n"

-- a connection with a call in flight is not given up; once the call has ended it is
abbrev pub in_flight : List ℕ
in_flight =
    codes "client A\nopen A\nattach A room\nsettle\npubid A room k hi\nstep A/1\nstep A/1\ncut A\nopen A\n"
    ++ codes "step A/2\ncut A\nstep A/2\nstep A/2\ntick 120000\nexpire\nstep A/1\nstep A/1\nexpire\nopen A\n"
    ++ codes "settle\n"

abbrev pub in_flight_report : List ℕ
in_flight_report =
    codes "report\n"
    ++ codes "channel room first 1 head 1\n"
    ++ codes "entry 1 120000 c00000001 0 message | \"k\" - \"hi\"\n"
    ++ codes "client A connected c00000002 pending 0 dropped 0\n"
    ++ codes "ack c00000002 0\n"
    ++ codes "record room attached 1\n"
    ++ codes "segment 0 opened\n"
    ++ codes "got 1 message | \"k\" - \"hi\"\n"
    ++ codes "members room yes\n"
    ++ codes "objects room yes\n"
    ++ codes "map root 0\n"
    ++ codes "end\n"

-- the same without the second expiry
abbrev pub in_flight_held : List ℕ
in_flight_held =
    codes "client A\nopen A\nattach A room\nsettle\npubid A room k hi\nstep A/1\nstep A/1\ncut A\nopen A\n"
    ++ codes "step A/2\ncut A\nstep A/2\nstep A/2\ntick 120000\nexpire\nstep A/1\nstep A/1\nopen A\nsettle\n"

abbrev pub in_flight_held_report : List ℕ
in_flight_held_report =
    codes "report\n"
    ++ codes "channel room first 1 head 1\n"
    ++ codes "entry 1 120000 c00000001 0 message | \"k\" - \"hi\"\n"
    ++ codes "client A connected c00000001 pending 0 dropped 0\n"
    ++ codes "ack c00000001 0\n"
    ++ codes "record room attached 1\n"
    ++ codes "segment 0 opened\n"
    ++ codes "got 1 message | \"k\" - \"hi\"\n"
    ++ codes "members room yes\n"
    ++ codes "objects room yes\n"
    ++ codes "map root 0\n"
    ++ codes "end\n"

-- a client goes on where another one stood
abbrev pub recovers_place : List ℕ
recovers_place =
    codes "client A\nclient B\nopen A\nattach A room\nsettle\nrecover B A\nopen B\nattach B room\n"
    ++ codes "feed room 2 x\nsettle\n"

abbrev pub recovers_place_report : List ℕ
recovers_place_report =
    codes "report\n"
    ++ codes "channel room first 1 head 2\n"
    ++ codes "entry 1 0 c00000000 0 message | \"c00000000:0:0\" - \"x\"\n"
    ++ codes "entry 2 0 c00000000 1 message | \"c00000000:1:0\" - \"x\"\n"
    ++ codes "client A closed - pending 0 dropped 0\n"
    ++ codes "record room detached -\n"
    ++ codes "segment 0 opened\n"
    ++ codes "members room no\n"
    ++ codes "objects room no\n"
    ++ codes "map root 0\n"
    ++ codes "client B connected c00000001 pending 0 dropped 0\n"
    ++ codes "record room attached 2\n"
    ++ codes "segment 0 recovered 0\n"
    ++ codes "got 1 message | \"c00000000:0:0\" - \"x\"\n"
    ++ codes "got 2 message | \"c00000000:1:0\" - \"x\"\n"
    ++ codes "members room yes\n"
    ++ codes "objects room yes\n"
    ++ codes "map root 0\n"
    ++ codes "end\n"

-- it leaves out the serial of a message that the other one did not send
abbrev pub recovers_serial : List ℕ
recovers_serial =
    codes "client A\nclient B\nopen A\nattach A room\npub A room one\nsettle\npub A room lost\nrecover B A\n"
    ++ codes "open B\npub B room two\nsettle\n"

abbrev pub recovers_serial_report : List ℕ
recovers_serial_report =
    codes "report\n"
    ++ codes "channel room first 1 head 2\n"
    ++ codes "entry 1 0 c00000001 0 message | \"c00000001:0:0\" - \"one\"\n"
    ++ codes "entry 2 0 c00000001 2 message | \"c00000001:2:0\" - \"two\"\n"
    ++ codes "client A closed - pending 0 dropped 1\n"
    ++ codes "ack c00000001 0\n"
    ++ codes "record room detached -\n"
    ++ codes "segment 0 opened\n"
    ++ codes "got 1 message | \"c00000001:0:0\" - \"one\"\n"
    ++ codes "members room no\n"
    ++ codes "objects room no\n"
    ++ codes "map root 0\n"
    ++ codes "client B connected c00000001 pending 0 dropped 0\n"
    ++ codes "ack c00000001 2\n"
    ++ codes "record room initialized 1\n"
    ++ codes "members room no\n"
    ++ codes "objects room no\n"
    ++ codes "map root 0\n"
    ++ codes "end\n"

-- what is published before and between connections is sent in order
abbrev pub queued_before : List ℕ
queued_before =
    codes "client A\nattach A room\npub A room one\npub A room two\nopen A\nsettle\ncut A\npub A room three\n"
    ++ codes "open A\nsettle\n"

abbrev pub queued_before_report : List ℕ
queued_before_report =
    codes "report\n"
    ++ codes "channel room first 1 head 3\n"
    ++ codes "entry 1 0 c00000001 0 message | \"c00000001:0:0\" - \"one\"\n"
    ++ codes "entry 2 0 c00000001 1 message | \"c00000001:1:0\" - \"two\"\n"
    ++ codes "entry 3 0 c00000001 2 message | \"c00000001:2:0\" - \"three\"\n"
    ++ codes "client A connected c00000001 pending 0 dropped 0\n"
    ++ codes "ack c00000001 0\n"
    ++ codes "ack c00000001 1\n"
    ++ codes "ack c00000001 2\n"
    ++ codes "record room attached 3\n"
    ++ codes "segment 0 opened\n"
    ++ codes "got 1 message | \"c00000001:0:0\" - \"one\"\n"
    ++ codes "got 2 message | \"c00000001:1:0\" - \"two\"\n"
    ++ codes "got 3 message | \"c00000001:2:0\" - \"three\"\n"
    ++ codes "members room yes\n"
    ++ codes "objects room yes\n"
    ++ codes "map root 0\n"
    ++ codes "end\n"

-- on a new connection what is pending is numbered anew
abbrev pub starts_anew : List ℕ
starts_anew =
    codes "client A\nopen A\nattach A room\npub A room zero\nsettle\ncut A\npub A room one\nsettle\n"
    ++ codes "tick 120000\nexpire\nopen A\npub A room two\nsettle\ndetach A room\nattach A room\nsettle\n"

abbrev pub starts_anew_report : List ℕ
starts_anew_report =
    codes "report\n"
    ++ codes "channel room first 1 head 3\n"
    ++ codes "entry 1 0 c00000001 0 message | \"c00000001:0:0\" - \"zero\"\n"
    ++ codes "entry 2 120000 c00000002 0 message | \"c00000002:0:0\" - \"one\"\n"
    ++ codes "entry 3 120000 c00000002 1 message | \"c00000002:1:0\" - \"two\"\n"
    ++ codes "client A connected c00000002 pending 0 dropped 0\n"
    ++ codes "ack c00000001 0\n"
    ++ codes "ack c00000002 0\n"
    ++ codes "ack c00000002 1\n"
    ++ codes "record room attached 3\n"
    ++ codes "segment 0 opened\n"
    ++ codes "got 1 message | \"c00000001:0:0\" - \"zero\"\n"
    ++ codes "got 2 message | \"c00000002:0:0\" - \"one\"\n"
    ++ codes "got 3 message | \"c00000002:1:0\" - \"two\"\n"
    ++ codes "members room yes\n"
    ++ codes "objects room yes\n"
    ++ codes "map root 0\n"
    ++ codes "end\n"

-- a client closes; its connection is given up
abbrev pub closes_later : List ℕ
closes_later =
    codes "client A\nclient B\nopen A\nopen B\nattach A room\nattach B other\nsettle\npub A room a\n"
    ++ codes "pub B other b\nclose A\npub A room c\nsettle\nexpire\nsettle\npub B room d\nsettle\ncut B\nsettle\n"
    ++ codes "tick 130000\ntimer B\nopen B\nsettle\n"

abbrev pub closes_later_report : List ℕ
closes_later_report =
    codes "report\n"
    ++ codes "channel other first 1 head 1\n"
    ++ codes "entry 1 0 c00000002 0 message | \"c00000002:0:0\" - \"b\"\n"
    ++ codes "channel room first 1 head 2\n"
    ++ codes "entry 1 0 c00000001 0 message | \"c00000001:0:0\" - \"a\"\n"
    ++ codes "entry 2 0 c00000002 1 message | \"c00000002:1:0\" - \"d\"\n"
    ++ codes "client A closed - pending 0 dropped 0\n"
    ++ codes "ack c00000001 0\n"
    ++ codes "record room detached -\n"
    ++ codes "segment 0 opened\n"
    ++ codes "got 1 message | \"c00000001:0:0\" - \"a\"\n"
    ++ codes "members room no\n"
    ++ codes "objects room no\n"
    ++ codes "map root 0\n"
    ++ codes "client B connected c00000003 pending 0 dropped 0\n"
    ++ codes "ack c00000002 0\n"
    ++ codes "ack c00000002 1\n"
    ++ codes "record other attached 1\n"
    ++ codes "segment 0 opened\n"
    ++ codes "got 1 message | \"c00000002:0:0\" - \"b\"\n"
    ++ codes "segment 1 opened\n"
    ++ codes "members other yes\n"
    ++ codes "objects other yes\n"
    ++ codes "map root 0\n"
    ++ codes "end\n"

-- an acknowledgement that is got while closing counts
abbrev pub late_ack : List ℕ
late_ack =
    codes "client A\nopen A\nattach A room\nsettle\npub A room hi\nstep A\nstep A\nstep A\nstep A\nclose A\n"
    ++ codes "get A\nget A\nget A\n"

abbrev pub late_ack_report : List ℕ
late_ack_report =
    codes "report\n"
    ++ codes "channel room first 1 head 1\n"
    ++ codes "entry 1 0 c00000001 0 message | \"c00000001:0:0\" - \"hi\"\n"
    ++ codes "client A closing c00000001 pending 0 dropped 0\n"
    ++ codes "ack c00000001 0\n"
    ++ codes "record room attached 0\n"
    ++ codes "segment 0 opened\n"
    ++ codes "members room yes\n"
    ++ codes "objects room yes\n"
    ++ codes "map root 0\n"
    ++ codes "end\n"

-- two minutes count from the moment at which the service learned of the loss
abbrev pub lost_at : List ℕ
lost_at =
    codes "client A\nopen A\nsettle\ntick 50000\ncut A\nsettle\ntick 70000\nexpire\nopen A\nsettle\n"

abbrev pub lost_at_report : List ℕ
lost_at_report =
    codes "report\n"
    ++ codes "client A connected c00000001 pending 0 dropped 0\n"
    ++ codes "end\n"

pub record ConnectionsShow : Type 0 where
  pub answered_by_id_prints : report_of answered_by_id ≡ Ok answered_by_id_report
  pub superseded_prints : report_of superseded ≡ Ok superseded_report
  pub expired_prints : report_of expired ≡ Ok expired_report
  pub not_yet_expired_prints : report_of not_yet_expired ≡ Ok not_yet_expired_report
  pub came_back_prints : report_of came_back ≡ Ok came_back_report
  pub in_flight_prints : report_of in_flight ≡ Ok in_flight_report
  pub in_flight_held_prints : report_of in_flight_held ≡ Ok in_flight_held_report
  pub recovers_place_prints : report_of recovers_place ≡ Ok recovers_place_report
  pub recovers_serial_prints : report_of recovers_serial ≡ Ok recovers_serial_report
  pub queued_before_prints : report_of queued_before ≡ Ok queued_before_report
  pub starts_anew_prints : report_of starts_anew ≡ Ok starts_anew_report
  pub closes_later_prints : report_of closes_later ≡ Ok closes_later_report
  pub late_ack_prints : report_of late_ack ≡ Ok late_ack_report
  pub lost_at_prints : report_of lost_at ≡ Ok lost_at_report
