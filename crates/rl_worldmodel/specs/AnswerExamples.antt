-- Runs whose reports are known: answers that are owed.
use Rattle.std.specs.Prelude.{ℕ, ◌≡◌, List, ◌++◌, Ok, codes}
use Rattle.rl_worldmodel.specs.Reports.{report_of}

-- an ATTACH is given up and sent again, and both are answered
abbrev pub second_attach : List ℕ
second_attach =
    codes "client A\nopen A\nsettle\nattach A room\ntick 10000\ntimer A\nattach A room\nsettle\n"

abbrev pub second_attach_report : List ℕ
second_attach_report =
    codes "report\n"
    ++ codes "channel room first 1 head 0\n"
    ++ codes "client A connected c00000001 pending 0 dropped 0\n"
    ++ codes "record room attached 0\n"
    ++ codes "segment 0 opened\n"
    ++ codes "members room yes\n"
    ++ codes "objects room yes\n"
    ++ codes "map root 0\n"
    ++ codes "end\n"

-- a client leaves a channel and comes back
abbrev pub detaches : List ℕ
detaches =
    codes "client A\nopen A\nattach A room\nsettle\nfeed room 1 x\nsettle\ndetach A room\nsettle\n"
    ++ codes "feed room 1 y\nattach A room\nsettle\n"

abbrev pub detaches_report : List ℕ
detaches_report =
    codes "report\n"
    ++ codes "channel room first 1 head 2\n"
    ++ codes "entry 1 0 c00000000 0 message | \"c00000000:0:0\" - \"x\"\n"
    ++ codes "entry 2 0 c00000000 1 message | \"c00000000:1:0\" - \"y\"\n"
    ++ codes "client A connected c00000001 pending 0 dropped 0\n"
    ++ codes "record room attached 2\n"
    ++ codes "segment 0 opened\n"
    ++ codes "got 1 message | \"c00000000:0:0\" - \"x\"\n"
    ++ codes "segment 2 opened\n"
    ++ codes "members room yes\n"
    ++ codes "objects room yes\n"
    ++ codes "map root 0\n"
    ++ codes "end\n"

-- ATTACH and DETACH cross their answers
abbrev pub crossing : List ℕ
crossing =
    codes "client A\nopen A\nsettle\nattach A room\ndetach A room\nattach A room\nstep A\nstep A\nstep A\n"
    ++ codes "step A\ndetach A room\nattach A room\nfeed room 2 x\nsettle\n"

abbrev pub crossing_report : List ℕ
crossing_report =
    codes "report\n"
    ++ codes "channel room first 1 head 2\n"
    ++ codes "entry 1 0 c00000000 0 message | \"c00000000:0:0\" - \"x\"\n"
    ++ codes "entry 2 0 c00000000 1 message | \"c00000000:1:0\" - \"x\"\n"
    ++ codes "client A connected c00000001 pending 0 dropped 0\n"
    ++ codes "record room attached 2\n"
    ++ codes "segment 2 opened\n"
    ++ codes "members room yes\n"
    ++ codes "objects room yes\n"
    ++ codes "map root 0\n"
    ++ codes "end\n"

-- an ATTACH that is not answered in time is given up
abbrev pub times_out : List ℕ
times_out =
    codes "client A\nopen A\nsettle\nattach A room\ntick 1\nattach A other\ntick 9999\ntimer A\n"

abbrev pub times_out_report : List ℕ
times_out_report =
    codes "report\n"
    ++ codes "client A connected c00000001 pending 0 dropped 0\n"
    ++ codes "record other attaching -\n"
    ++ codes "members other no\n"
    ++ codes "objects other no\n"
    ++ codes "map root 0\n"
    ++ codes "record room suspended -\n"
    ++ codes "members room no\n"
    ++ codes "objects room no\n"
    ++ codes "map root 0\n"
    ++ codes "end\n"

-- a client that was suspended, and then lost a link before it was connected, comes back
abbrev pub comes_back_at_last : List ℕ
comes_back_at_last =
    codes "client A\nopen A\nattach A room\nsettle\ncut A\ntick 120000\ntimer A\nopen A\ncut A\nopen A\n"
    ++ codes "settle\n"

abbrev pub comes_back_at_last_report : List ℕ
comes_back_at_last_report =
    codes "report\n"
    ++ codes "channel room first 1 head 0\n"
    ++ codes "client A connected c00000003 pending 0 dropped 0\n"
    ++ codes "record room attached 0\n"
    ++ codes "segment 0 opened\n"
    ++ codes "segment 0 opened\n"
    ++ codes "members room yes\n"
    ++ codes "objects room yes\n"
    ++ codes "map root 0\n"
    ++ codes "end\n"

-- an ATTACH was given up before its answer came: the next one begins a session where it is told
abbrev pub answered_anew : List ℕ
answered_anew =
    codes "client A\nopen A\nsettle\nattach A room\nstep A\nstep A\nstep A\nfeed room 1 x\ntick 10000\n"
    ++ codes "timer A\nfeed room 1 y\nattach A room\nsettle\n"

abbrev pub answered_anew_report : List ℕ
answered_anew_report =
    codes "report\n"
    ++ codes "channel room first 1 head 2\n"
    ++ codes "entry 1 0 c00000000 0 message | \"c00000000:0:0\" - \"x\"\n"
    ++ codes "entry 2 10000 c00000000 1 message | \"c00000000:1:0\" - \"y\"\n"
    ++ codes "client A connected c00000001 pending 0 dropped 0\n"
    ++ codes "record room attached 2\n"
    ++ codes "segment 2 opened\n"
    ++ codes "members room yes\n"
    ++ codes "objects room yes\n"
    ++ codes "map root 0\n"
    ++ codes "end\n"

-- an ATTACH that was under way at a cut is lost, and only the one on the new link is answered
abbrev pub cut_in_flight : List ℕ
cut_in_flight =
    codes "client A\nopen A\nsettle\nattach A room\ncut A\nopen A\nsettle\n"

abbrev pub cut_in_flight_report : List ℕ
cut_in_flight_report =
    codes "report\n"
    ++ codes "channel room first 1 head 0\n"
    ++ codes "client A connected c00000001 pending 0 dropped 0\n"
    ++ codes "record room attached 0\n"
    ++ codes "segment 0 opened\n"
    ++ codes "members room yes\n"
    ++ codes "objects room yes\n"
    ++ codes "map root 0\n"
    ++ codes "end\n"

-- two answers are owed: the first one that is got is passed over
abbrev pub first_passed_over : List ℕ
first_passed_over =
    codes "client A\nopen A\nsettle\nattach A room\ntick 10000\ntimer A\nattach A room\nstep A\nstep A\n"
    ++ codes "step A\nget A\n"

abbrev pub first_passed_over_report : List ℕ
first_passed_over_report =
    codes "report\n"
    ++ codes "channel room first 1 head 0\n"
    ++ codes "client A connected c00000001 pending 0 dropped 0\n"
    ++ codes "record room attaching -\n"
    ++ codes "members room no\n"
    ++ codes "objects room no\n"
    ++ codes "map root 0\n"
    ++ codes "end\n"

-- a client that was suspended and loses its next link before it is connected is suspended again
abbrev pub stays_suspended : List ℕ
stays_suspended =
    codes "client A\nopen A\nattach A room\nsettle\ncut A\ntick 120000\ntimer A\nopen A\ncut A\n"

abbrev pub stays_suspended_report : List ℕ
stays_suspended_report =
    codes "report\n"
    ++ codes "channel room first 1 head 0\n"
    ++ codes "client A suspended - pending 0 dropped 0\n"
    ++ codes "record room suspended -\n"
    ++ codes "segment 0 opened\n"
    ++ codes "members room no\n"
    ++ codes "objects room no\n"
    ++ codes "map root 0\n"
    ++ codes "end\n"

-- one that attaches again while it is detaching asks for what it holds, and loses nothing
abbrev pub asks_held : List ℕ
asks_held =
    codes "client A\nopen A\nattach A room\nsettle\ndetach A room\nfeed room 1 x\nattach A room\nsettle\n"

abbrev pub asks_held_report : List ℕ
asks_held_report =
    codes "report\n"
    ++ codes "channel room first 1 head 1\n"
    ++ codes "entry 1 0 c00000000 0 message | \"c00000000:0:0\" - \"x\"\n"
    ++ codes "client A connected c00000001 pending 0 dropped 0\n"
    ++ codes "record room attached 1\n"
    ++ codes "segment 0 opened\n"
    ++ codes "got 1 message | \"c00000000:0:0\" - \"x\"\n"
    ++ codes "members room yes\n"
    ++ codes "objects room yes\n"
    ++ codes "map root 0\n"
    ++ codes "end\n"

pub record AnswersShow : Type 0 where
  pub second_attach_prints : report_of second_attach ≡ Ok second_attach_report
  pub detaches_prints : report_of detaches ≡ Ok detaches_report
  pub crossing_prints : report_of crossing ≡ Ok crossing_report
  pub times_out_prints : report_of times_out ≡ Ok times_out_report
  pub comes_back_at_last_prints : report_of comes_back_at_last ≡ Ok comes_back_at_last_report
  pub answered_anew_prints : report_of answered_anew ≡ Ok answered_anew_report
  pub cut_in_flight_prints : report_of cut_in_flight ≡ Ok cut_in_flight_report
  pub first_passed_over_prints : report_of first_passed_over ≡ Ok first_passed_over_report
  pub stays_suspended_prints : report_of stays_suspended ≡ Ok stays_suspended_report
  pub asks_held_prints : report_of asks_held ≡ Ok asks_held_report
