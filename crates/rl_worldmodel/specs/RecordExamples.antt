-- Runs whose reports are known: what a client gets, and where it goes on.
use Rattle.std.specs.Prelude.{ℕ, ◌≡◌, List, [], ◌++◌, Ok, codes}
use Rattle.rl_worldmodel.specs.Reports.{report_of}

-- no line
abbrev pub empty : List ℕ
empty =
    []

abbrev pub empty_report : List ℕ
empty_report =
    codes "report\n"
    ++ codes "end\n"

-- one client publishes and reads back
abbrev pub published_once : List ℕ
published_once =
    codes "client A\nopen A\nattach A room\npub A room hi\nsettle\n"

abbrev pub published_once_report : List ℕ
published_once_report =
    codes "report\n"
    ++ codes "channel room first 1 head 1\n"
    ++ codes "entry 1 0 c00000001 0 message | \"c00000001:0:0\" - \"hi\"\n"
    ++ codes "client A connected c00000001 pending 0 dropped 0\n"
    ++ codes "ack c00000001 0\n"
    ++ codes "record room attached 1\n"
    ++ codes "segment 0 opened\n"
    ++ codes "got 1 message | \"c00000001:0:0\" - \"hi\"\n"
    ++ codes "members room yes\n"
    ++ codes "objects room yes\n"
    ++ codes "map root 0\n"
    ++ codes "end\n"

-- a client drops, two entries are fed, and it goes on without a gap
abbrev pub went_on : List ℕ
went_on =
    codes "client A\nopen A\nattach A room\nsettle\ncut A\nfeed room 2 x\nopen A\nsettle\n"

abbrev pub went_on_report : List ℕ
went_on_report =
    codes "report\n"
    ++ codes "channel room first 1 head 2\n"
    ++ codes "entry 1 0 c00000000 0 message | \"c00000000:0:0\" - \"x\"\n"
    ++ codes "entry 2 0 c00000000 1 message | \"c00000000:1:0\" - \"x\"\n"
    ++ codes "client A connected c00000001 pending 0 dropped 0\n"
    ++ codes "record room attached 2\n"
    ++ codes "segment 0 opened\n"
    ++ codes "got 1 message | \"c00000000:0:0\" - \"x\"\n"
    ++ codes "got 2 message | \"c00000000:1:0\" - \"x\"\n"
    ++ codes "members room yes\n"
    ++ codes "objects room yes\n"
    ++ codes "map root 0\n"
    ++ codes "end\n"

-- two of five entries are got before the drop, the others after it
abbrev pub polled_then_settled : List ℕ
polled_then_settled =
    codes "client B\nopen B\nattach B room\nsettle\nfeed room 5 x\npoll B room\nget B\nget B\ncut B\nopen B\n"
    ++ codes "settle\n"

abbrev pub polled_then_settled_report : List ℕ
polled_then_settled_report =
    codes "report\n"
    ++ codes "channel room first 1 head 5\n"
    ++ codes "entry 1 0 c00000000 0 message | \"c00000000:0:0\" - \"x\"\n"
    ++ codes "entry 2 0 c00000000 1 message | \"c00000000:1:0\" - \"x\"\n"
    ++ codes "entry 3 0 c00000000 2 message | \"c00000000:2:0\" - \"x\"\n"
    ++ codes "entry 4 0 c00000000 3 message | \"c00000000:3:0\" - \"x\"\n"
    ++ codes "entry 5 0 c00000000 4 message | \"c00000000:4:0\" - \"x\"\n"
    ++ codes "client B connected c00000001 pending 0 dropped 0\n"
    ++ codes "record room attached 5\n"
    ++ codes "segment 0 opened\n"
    ++ codes "got 1 message | \"c00000000:0:0\" - \"x\"\n"
    ++ codes "got 2 message | \"c00000000:1:0\" - \"x\"\n"
    ++ codes "got 3 message | \"c00000000:2:0\" - \"x\"\n"
    ++ codes "got 4 message | \"c00000000:3:0\" - \"x\"\n"
    ++ codes "got 5 message | \"c00000000:4:0\" - \"x\"\n"
    ++ codes "members room yes\n"
    ++ codes "objects room yes\n"
    ++ codes "map root 0\n"
    ++ codes "end\n"

-- a serial from outside, of a place that is retained
abbrev pub recovered_within : List ℕ
recovered_within =
    codes "client A\nfeed room 3 x\nopen A\nattachat A room 1 2\nsettle\n"

abbrev pub recovered_within_report : List ℕ
recovered_within_report =
    codes "report\n"
    ++ codes "channel room first 1 head 3\n"
    ++ codes "entry 1 0 c00000000 0 message | \"c00000000:0:0\" - \"x\"\n"
    ++ codes "entry 2 0 c00000000 1 message | \"c00000000:1:0\" - \"x\"\n"
    ++ codes "entry 3 0 c00000000 2 message | \"c00000000:2:0\" - \"x\"\n"
    ++ codes "client A connected c00000001 pending 0 dropped 0\n"
    ++ codes "record room attached 3\n"
    ++ codes "segment 2 recovered 2\n"
    ++ codes "got 3 message | \"c00000000:2:0\" - \"x\"\n"
    ++ codes "members room yes\n"
    ++ codes "objects room yes\n"
    ++ codes "map root 0\n"
    ++ codes "end\n"

-- one of a place that is not there
abbrev pub past_the_head : List ℕ
past_the_head =
    codes "client A\nfeed room 3 x\nopen A\nattachat A room 1 4\nsettle\n"

abbrev pub past_the_head_report : List ℕ
past_the_head_report =
    codes "report\n"
    ++ codes "channel room first 1 head 3\n"
    ++ codes "entry 1 0 c00000000 0 message | \"c00000000:0:0\" - \"x\"\n"
    ++ codes "entry 2 0 c00000000 1 message | \"c00000000:1:0\" - \"x\"\n"
    ++ codes "entry 3 0 c00000000 2 message | \"c00000000:2:0\" - \"x\"\n"
    ++ codes "client A connected c00000001 pending 0 dropped 0\n"
    ++ codes "record room attached 3\n"
    ++ codes "segment 3 notretained 4\n"
    ++ codes "members room yes\n"
    ++ codes "objects room yes\n"
    ++ codes "map root 0\n"
    ++ codes "end\n"

-- one of the last place, and one past it
abbrev pub at_the_head : List ℕ
at_the_head =
    codes "client A\nclient B\nfeed room 3 x\nopen A\nopen B\nattachat A room 1 3\nattachat B room 1 4\n"
    ++ codes "settle\n"

abbrev pub at_the_head_report : List ℕ
at_the_head_report =
    codes "report\n"
    ++ codes "channel room first 1 head 3\n"
    ++ codes "entry 1 0 c00000000 0 message | \"c00000000:0:0\" - \"x\"\n"
    ++ codes "entry 2 0 c00000000 1 message | \"c00000000:1:0\" - \"x\"\n"
    ++ codes "entry 3 0 c00000000 2 message | \"c00000000:2:0\" - \"x\"\n"
    ++ codes "client A connected c00000001 pending 0 dropped 0\n"
    ++ codes "record room attached 3\n"
    ++ codes "segment 3 recovered 3\n"
    ++ codes "members room yes\n"
    ++ codes "objects room yes\n"
    ++ codes "map root 0\n"
    ++ codes "client B connected c00000002 pending 0 dropped 0\n"
    ++ codes "record room attached 3\n"
    ++ codes "segment 3 notretained 4\n"
    ++ codes "members room yes\n"
    ++ codes "objects room yes\n"
    ++ codes "map root 0\n"
    ++ codes "end\n"

-- one of another run
abbrev pub other_epoch : List ℕ
other_epoch =
    codes "client A\nfeed room 3 x\nopen A\nattachat A room 2 3\nsettle\n"

abbrev pub other_epoch_report : List ℕ
other_epoch_report =
    codes "report\n"
    ++ codes "channel room first 1 head 3\n"
    ++ codes "entry 1 0 c00000000 0 message | \"c00000000:0:0\" - \"x\"\n"
    ++ codes "entry 2 0 c00000000 1 message | \"c00000000:1:0\" - \"x\"\n"
    ++ codes "entry 3 0 c00000000 2 message | \"c00000000:2:0\" - \"x\"\n"
    ++ codes "client A connected c00000001 pending 0 dropped 0\n"
    ++ codes "record room attached 3\n"
    ++ codes "segment 3 notretained other\n"
    ++ codes "members room yes\n"
    ++ codes "objects room yes\n"
    ++ codes "map root 0\n"
    ++ codes "end\n"

-- a serial of another run is held all the same, as a place
abbrev pub held_of_another_run : List ℕ
held_of_another_run =
    codes "client A\nattachat A room 2 3\n"

abbrev pub held_of_another_run_report : List ℕ
held_of_another_run_report =
    codes "report\n"
    ++ codes "client A initialized - pending 0 dropped 0\n"
    ++ codes "record room attaching 3\n"
    ++ codes "members room no\n"
    ++ codes "objects room no\n"
    ++ codes "map root 0\n"
    ++ codes "end\n"

-- an entry that is too old is not retained
abbrev pub aged : List ℕ
aged =
    codes "client A\nclient B\nopen A\nattach A room\npub A room one\nsettle\ntick 120001\nage room\n"
    ++ codes "feed room 1 x\nopen B\nattachat B room 1 0\nsettle\n"

abbrev pub aged_report : List ℕ
aged_report =
    codes "report\n"
    ++ codes "channel room first 2 head 2\n"
    ++ codes "entry 2 120001 c00000000 0 message | \"c00000000:0:0\" - \"x\"\n"
    ++ codes "client A connected c00000001 pending 0 dropped 0\n"
    ++ codes "ack c00000001 0\n"
    ++ codes "record room attached 2\n"
    ++ codes "segment 0 opened\n"
    ++ codes "got 1 message | \"c00000001:0:0\" - \"one\"\n"
    ++ codes "got 2 message | \"c00000000:0:0\" - \"x\"\n"
    ++ codes "members room yes\n"
    ++ codes "objects room yes\n"
    ++ codes "map root 0\n"
    ++ codes "client B connected c00000002 pending 0 dropped 0\n"
    ++ codes "record room attached 2\n"
    ++ codes "segment 2 notretained 0\n"
    ++ codes "members room yes\n"
    ++ codes "objects room yes\n"
    ++ codes "map root 0\n"
    ++ codes "end\n"

-- sixteen entries are read at once
abbrev pub reads_sixteen : List ℕ
reads_sixteen =
    codes "client A\nopen A\nattach A room\nsettle\nfeed room 17 x\npoll A room\nget A\nget A\nget A\nget A\n"
    ++ codes "get A\nget A\nget A\nget A\nget A\nget A\nget A\nget A\nget A\nget A\nget A\nget A\nget A\nget A\n"
    ++ codes "get A\nget A\n"

abbrev pub reads_sixteen_report : List ℕ
reads_sixteen_report =
    codes "report\n"
    ++ codes "channel room first 1 head 17\n"
    ++ codes "entry 1 0 c00000000 0 message | \"c00000000:0:0\" - \"x\"\n"
    ++ codes "entry 2 0 c00000000 1 message | \"c00000000:1:0\" - \"x\"\n"
    ++ codes "entry 3 0 c00000000 2 message | \"c00000000:2:0\" - \"x\"\n"
    ++ codes "entry 4 0 c00000000 3 message | \"c00000000:3:0\" - \"x\"\n"
    ++ codes "entry 5 0 c00000000 4 message | \"c00000000:4:0\" - \"x\"\n"
    ++ codes "entry 6 0 c00000000 5 message | \"c00000000:5:0\" - \"x\"\n"
    ++ codes "entry 7 0 c00000000 6 message | \"c00000000:6:0\" - \"x\"\n"
    ++ codes "entry 8 0 c00000000 7 message | \"c00000000:7:0\" - \"x\"\n"
    ++ codes "entry 9 0 c00000000 8 message | \"c00000000:8:0\" - \"x\"\n"
    ++ codes "entry 10 0 c00000000 9 message | \"c00000000:9:0\" - \"x\"\n"
    ++ codes "entry 11 0 c00000000 10 message | \"c00000000:10:0\" - \"x\"\n"
    ++ codes "entry 12 0 c00000000 11 message | \"c00000000:11:0\" - \"x\"\n"
    ++ codes "entry 13 0 c00000000 12 message | \"c00000000:12:0\" - \"x\"\n"
    ++ codes "entry 14 0 c00000000 13 message | \"c00000000:13:0\" - \"x\"\n"
    ++ codes "entry 15 0 c00000000 14 message | \"c00000000:14:0\" - \"x\"\n"
    ++ codes "entry 16 0 c00000000 15 message | \"c00000000:15:0\" - \"x\"\n"
    ++ codes "entry 17 0 c00000000 16 message | \"c00000000:16:0\" - \"x\"\n"
    ++ codes "client A connected c00000001 pending 0 dropped 0\n"
    ++ codes "record room attached 16\n"
    ++ codes "segment 0 opened\n"
    ++ codes "got 1 message | \"c00000000:0:0\" - \"x\"\n"
    ++ codes "got 2 message | \"c00000000:1:0\" - \"x\"\n"
    ++ codes "got 3 message | \"c00000000:2:0\" - \"x\"\n"
    ++ codes "got 4 message | \"c00000000:3:0\" - \"x\"\n"
    ++ codes "got 5 message | \"c00000000:4:0\" - \"x\"\n"
    ++ codes "got 6 message | \"c00000000:5:0\" - \"x\"\n"
    ++ codes "got 7 message | \"c00000000:6:0\" - \"x\"\n"
    ++ codes "got 8 message | \"c00000000:7:0\" - \"x\"\n"
    ++ codes "got 9 message | \"c00000000:8:0\" - \"x\"\n"
    ++ codes "got 10 message | \"c00000000:9:0\" - \"x\"\n"
    ++ codes "got 11 message | \"c00000000:10:0\" - \"x\"\n"
    ++ codes "got 12 message | \"c00000000:11:0\" - \"x\"\n"
    ++ codes "got 13 message | \"c00000000:12:0\" - \"x\"\n"
    ++ codes "got 14 message | \"c00000000:13:0\" - \"x\"\n"
    ++ codes "got 15 message | \"c00000000:14:0\" - \"x\"\n"
    ++ codes "got 16 message | \"c00000000:15:0\" - \"x\"\n"
    ++ codes "members room yes\n"
    ++ codes "objects room yes\n"
    ++ codes "map root 0\n"
    ++ codes "end\n"

-- an id that was fed before adds no entry, but takes a serial
abbrev pub fed_by_id : List ℕ
fed_by_id =
    codes "feedid r x a\nfeedid r x b\nfeed r 1 z\n"

abbrev pub fed_by_id_report : List ℕ
fed_by_id_report =
    codes "report\n"
    ++ codes "channel r first 1 head 2\n"
    ++ codes "entry 1 0 c00000000 0 message | \"x\" - \"a\"\n"
    ++ codes "entry 2 0 c00000000 2 message | \"c00000000:2:0\" - \"z\"\n"
    ++ codes "end\n"

-- a session that did not read until its entries were gone ends; the client comes back behind them
abbrev pub falls_behind : List ℕ
falls_behind =
    codes "client A\nopen A\nattach A room\nsettle\nfeed room 2 x\ntick 120001\nage room\nsettle\nopen A\n"
    ++ codes "settle\n"

abbrev pub falls_behind_report : List ℕ
falls_behind_report =
    codes "report\n"
    ++ codes "channel room first 3 head 2\n"
    ++ codes "client A connected c00000001 pending 0 dropped 0\n"
    ++ codes "record room attached 2\n"
    ++ codes "segment 0 opened\n"
    ++ codes "segment 2 notretained 0\n"
    ++ codes "members room yes\n"
    ++ codes "objects room yes\n"
    ++ codes "map root 0\n"
    ++ codes "end\n"

pub record RecordsShow : Type 0 where
  pub empty_prints : report_of empty ≡ Ok empty_report
  pub published_once_prints : report_of published_once ≡ Ok published_once_report
  pub went_on_prints : report_of went_on ≡ Ok went_on_report
  pub polled_then_settled_prints : report_of polled_then_settled ≡ Ok polled_then_settled_report
  pub recovered_within_prints : report_of recovered_within ≡ Ok recovered_within_report
  pub past_the_head_prints : report_of past_the_head ≡ Ok past_the_head_report
  pub at_the_head_prints : report_of at_the_head ≡ Ok at_the_head_report
  pub other_epoch_prints : report_of other_epoch ≡ Ok other_epoch_report
  pub held_of_another_run_prints : report_of held_of_another_run ≡ Ok held_of_another_run_report
  pub aged_prints : report_of aged ≡ Ok aged_report
  pub reads_sixteen_prints : report_of reads_sixteen ≡ Ok reads_sixteen_report
  pub fed_by_id_prints : report_of fed_by_id ≡ Ok fed_by_id_report
  pub falls_behind_prints : report_of falls_behind ≡ Ok falls_behind_report
