-- Runs whose reports are known: each time limit, on both sides of it. That an actor neither ends nor puts out a HEARTBEAT one
-- millisecond too early is in WorldExamples.
use Rattle.std.specs.Prelude.{ℕ, ◌≡◌, List, ◌++◌, Ok, codes}
use Rattle.rl_worldmodel.specs.Reports.{report_of}

-- a session without a channel that got nothing for too long ends; the client was closing
abbrev pub idles : List ℕ
idles =
    codes "client A\nopen A\nsettle\ntick 600000\nstep A\nclose A\nget A\nget A\n"

abbrev pub idles_report : List ℕ
idles_report =
    codes "report\n"
    ++ codes "client A closed - pending 0 dropped 0\n"
    ++ codes "end\n"

-- so does one whose channel was left
abbrev pub detached_idles : List ℕ
detached_idles =
    codes "client A\nopen A\nattach A room\nsettle\ndetach A room\nsettle\ntick 600000\nstep A\nget A\n"

abbrev pub detached_idles_report : List ℕ
detached_idles_report =
    codes "report\n"
    ++ codes "channel room first 1 head 0\n"
    ++ codes "client A disconnected c00000001 pending 0 dropped 0\n"
    ++ codes "record room detached -\n"
    ++ codes "segment 0 opened\n"
    ++ codes "members room no\n"
    ++ codes "objects room no\n"
    ++ codes "map root 0\n"
    ++ codes "end\n"

-- a client that only listens is never idle
abbrev pub listens : List ℕ
listens =
    codes "client A\nopen A\nattach A room\nsettle\ntick 600000\nstep A\nstep A\nget A\nget A\n"

abbrev pub listens_report : List ℕ
listens_report =
    codes "report\n"
    ++ codes "channel room first 1 head 0\n"
    ++ codes "client A connected c00000001 pending 0 dropped 0\n"
    ++ codes "record room attached 0\n"
    ++ codes "segment 0 opened\n"
    ++ codes "members room yes\n"
    ++ codes "objects room yes\n"
    ++ codes "map root 0\n"
    ++ codes "end\n"

-- a client that gets nothing for too long gives its link up
abbrev pub quiet : List ℕ
quiet =
    codes "client A\nopen A\nsettle\ntick 25000\ntimer A\n"

abbrev pub quiet_report : List ℕ
quiet_report =
    codes "report\n"
    ++ codes "client A disconnected c00000001 pending 0 dropped 0\n"
    ++ codes "end\n"

-- the time counts from its own last frame
abbrev pub own_silence : List ℕ
own_silence =
    codes "client A\nclient B\nopen A\nsettle\ntick 1\nopen B\nsettle\ntick 24999\ntimer A\ntimer B\n"

abbrev pub own_silence_report : List ℕ
own_silence_report =
    codes "report\n"
    ++ codes "client A disconnected c00000001 pending 0 dropped 0\n"
    ++ codes "client B connected c00000002 pending 0 dropped 0\n"
    ++ codes "end\n"

-- a HEARTBEAT shows that the service is there
abbrev pub heartbeat : List ℕ
heartbeat =
    codes "client A\nopen A\nsettle\ntick 10000\nstep A\nget A\ntick 15000\ntimer A\n"

abbrev pub heartbeat_report : List ℕ
heartbeat_report =
    codes "report\n"
    ++ codes "client A connected c00000001 pending 0 dropped 0\n"
    ++ codes "end\n"

-- DISCONNECTED and CONNECTING end after two minutes, from the last Connect in another state
abbrev pub past_two_minutes : List ℕ
past_two_minutes =
    codes "client A\nclient B\nopen A\nopen B\nsettle\ncut A\ncut B\ntick 100000\nopen A\ntick 19999\ntimer A\n"
    ++ codes "tick 1\ntimer B\nopen B\ntick 119999\ntimer A\ntimer B\n"

abbrev pub past_two_minutes_report : List ℕ
past_two_minutes_report =
    codes "report\n"
    ++ codes "client A suspended - pending 0 dropped 0\n"
    ++ codes "client B connecting - pending 0 dropped 0\n"
    ++ codes "end\n"

-- and from the loss
abbrev pub ttl_from_loss : List ℕ
ttl_from_loss =
    codes "client A\nopen A\nsettle\ncut A\ntick 100000\nopen A\ntick 19999\ntimer A\ntick 1\ntimer A\n"

abbrev pub ttl_from_loss_report : List ℕ
ttl_from_loss_report =
    codes "report\n"
    ++ codes "client A suspended - pending 0 dropped 0\n"
    ++ codes "end\n"

-- the last frame that was taken up counts for being idle, and ten minutes are not over
abbrev pub not_idle_yet : List ℕ
not_idle_yet =
    codes "client A\nopen A\nsettle\ntick 300000\nattach A room\nsettle\ndetach A room\nsettle\ntick 599999\n"
    ++ codes "step A\nget A\n"

abbrev pub not_idle_yet_report : List ℕ
not_idle_yet_report =
    codes "report\n"
    ++ codes "channel room first 1 head 0\n"
    ++ codes "client A connected c00000001 pending 0 dropped 0\n"
    ++ codes "record room detached -\n"
    ++ codes "segment 0 opened\n"
    ++ codes "members room no\n"
    ++ codes "objects room no\n"
    ++ codes "map root 0\n"
    ++ codes "end\n"

-- one millisecond later they are
abbrev pub idle_then : List ℕ
idle_then =
    codes "client A\nopen A\nsettle\ntick 300000\nattach A room\nsettle\ndetach A room\nsettle\ntick 599999\n"
    ++ codes "step A\nget A\ntick 1\nstep A\nget A\n"

abbrev pub idle_then_report : List ℕ
idle_then_report =
    codes "report\n"
    ++ codes "channel room first 1 head 0\n"
    ++ codes "client A disconnected c00000001 pending 0 dropped 0\n"
    ++ codes "record room detached -\n"
    ++ codes "segment 0 opened\n"
    ++ codes "members room no\n"
    ++ codes "objects room no\n"
    ++ codes "map root 0\n"
    ++ codes "end\n"

-- a session that begins late is not idle
abbrev pub begins_late : List ℕ
begins_late =
    codes "client A\ntick 600000\nopen A\nsettle\n"

abbrev pub begins_late_report : List ℕ
begins_late_report =
    codes "report\n"
    ++ codes "client A connected c00000001 pending 0 dropped 0\n"
    ++ codes "end\n"

-- two minutes count from the loss
abbrev pub lost_later : List ℕ
lost_later =
    codes "client A\nopen A\nsettle\ntick 50000\ncut A\ntick 119999\ntimer A\n"

abbrev pub lost_later_report : List ℕ
lost_later_report =
    codes "report\n"
    ++ codes "client A disconnected c00000001 pending 0 dropped 0\n"
    ++ codes "end\n"

-- and are over then
abbrev pub suspended_later : List ℕ
suspended_later =
    codes "client A\nopen A\nsettle\ntick 50000\ncut A\ntick 120000\ntimer A\n"

abbrev pub suspended_later_report : List ℕ
suspended_later_report =
    codes "report\n"
    ++ codes "client A suspended - pending 0 dropped 0\n"
    ++ codes "end\n"

-- a link that its client gives up is cut, and the service notices
abbrev pub drops_link : List ℕ
drops_link =
    codes "client A\nopen A\nsettle\ntick 25000\ntimer A\nstep A\nstep A\ntick 120000\nexpire\nopen A\nsettle\n"

abbrev pub drops_link_report : List ℕ
drops_link_report =
    codes "report\n"
    ++ codes "client A connected c00000002 pending 0 dropped 0\n"
    ++ codes "end\n"

-- it comes back, and a HEARTBEAT that it gets then counts
abbrev pub hears_again : List ℕ
hears_again =
    codes "client A\nopen A\nsettle\ntick 25000\ntimer A\nsettle\nopen A\nsettle\ntick 12000\nsettle\n"
    ++ codes "tick 14000\ntimer A\n"

abbrev pub hears_again_report : List ℕ
hears_again_report =
    codes "report\n"
    ++ codes "client A connected c00000001 pending 0 dropped 0\n"
    ++ codes "end\n"

-- a frame that is there when ten minutes are over is taken up first
abbrev pub frame_before_rest : List ℕ
frame_before_rest =
    codes "client A\nopen A\nsettle\ntick 600000\nattach A room\nsettle\n"

abbrev pub frame_before_rest_report : List ℕ
frame_before_rest_report =
    codes "report\n"
    ++ codes "channel room first 1 head 0\n"
    ++ codes "client A connected c00000001 pending 0 dropped 0\n"
    ++ codes "record room attached 0\n"
    ++ codes "segment 0 opened\n"
    ++ codes "members room yes\n"
    ++ codes "objects room yes\n"
    ++ codes "map root 0\n"
    ++ codes "end\n"

pub record MomentsShow : Type 0 where
  pub idles_prints : report_of idles ≡ Ok idles_report
  pub detached_idles_prints : report_of detached_idles ≡ Ok detached_idles_report
  pub listens_prints : report_of listens ≡ Ok listens_report
  pub quiet_prints : report_of quiet ≡ Ok quiet_report
  pub own_silence_prints : report_of own_silence ≡ Ok own_silence_report
  pub heartbeat_prints : report_of heartbeat ≡ Ok heartbeat_report
  pub past_two_minutes_prints : report_of past_two_minutes ≡ Ok past_two_minutes_report
  pub ttl_from_loss_prints : report_of ttl_from_loss ≡ Ok ttl_from_loss_report
  pub not_idle_yet_prints : report_of not_idle_yet ≡ Ok not_idle_yet_report
  pub idle_then_prints : report_of idle_then ≡ Ok idle_then_report
  pub begins_late_prints : report_of begins_late ≡ Ok begins_late_report
  pub lost_later_prints : report_of lost_later ≡ Ok lost_later_report
  pub suspended_later_prints : report_of suspended_later ≡ Ok suspended_later_report
  pub drops_link_prints : report_of drops_link ≡ Ok drops_link_report
  pub hears_again_prints : report_of hears_again ≡ Ok hears_again_report
  pub frame_before_rest_prints : report_of frame_before_rest ≡ Ok frame_before_rest_report
