-- The laws, case by case.
use Rattle.std.proofs.Common.{◌≡◌, ◌≢◌, refl, Bool, true, false, arith, ◌⊎◌}
use Rattle.rl_types.specs.declared.states.ChanState.{ChanState}
use Rattle.rl_types.specs.declared.states.ChanState.TheVariants as chan
use Rattle.rl_types.specs.declared.states.ConnState.{ConnState}
use Rattle.rl_types.specs.declared.states.ConnState.TheVariants as conn
use Rattle.rl_chansm.specs.declared.table.ChanEvent.TheVariants as event
use Rattle.rl_chansm.specs.Connection.{after_connection}
use Rattle.rl_chansm.specs.Owed.{awaits_detached}
use Rattle.rl_chansm.specs.Rules.{forgets_serial}
use Rattle.rl_chansm.specs.Laws.{is_resting, AnswersThatCount, AttachedByTheService, AwaitsNothingWhereForgotten, AwaitsWhatItAsked, CommandsThatCount, GivenUpWithTheConnection, NeverInitializedAgain, RestsAfterTheConnection, RestsUntilAttach, SuspendedWithTheConnection}

pub rests_until_attach : RestsUntilAttach
rests_until_attach state event.AttachAsked other rests = absurd (other refl)
rests_until_attach state one other rests = grind arith

pub rests_after_the_connection : RestsAfterTheConnection
rests_after_the_connection state = grind arith

pub suspended_with_the_connection : SuspendedWithTheConnection
suspended_with_the_connection state = grind arith

pub attached_by_the_service : AttachedByTheService
attached_by_the_service state one h = grind arith

pub never_initialized_again : NeverInitializedAgain
never_initialized_again state one h = grind arith

pub commands_that_count : CommandsThatCount
commands_that_count state connected = grind arith

pub awaits_what_it_asked : AwaitsWhatItAsked
awaits_what_it_asked =
    record {
      attach = λ connected state one h. grind arith;
      detach = λ state one h. grind arith;
      attaching = λ state one h. grind arith;
      detaching = λ state one h. grind arith;
      up = λ state h. grind arith;
    }

pub answers_that_count : AnswersThatCount
answers_that_count =
    record {
      attached = λ state h. grind arith;
      no_attached = λ state h. grind arith;
      detached = λ state h. grind arith;
      no_detached = λ state h. grind arith;
      error = λ state h. grind arith;
      no_error = λ state h. grind arith;
    }

pub awaits_nothing_where_forgotten : AwaitsNothingWhereForgotten
awaits_nothing_where_forgotten state = grind arith

given_up_suspended : (before : ConnState) (state : ChanState) → before ≢ conn.Suspended → let after = after_connection true before conn.Suspended state in (after ≡ chan.Initialized) ⊎ (forgets_serial after ≡ true)
given_up_suspended conn.Suspended state other = absurd (other refl)
given_up_suspended before state other = grind arith

given_up_closed : (unlinked : Bool) (before : ConnState) (state : ChanState) → before ≢ conn.Closed → is_resting (after_connection unlinked before conn.Closed state) ≡ true
given_up_closed unlinked conn.Closed state other = absurd (other refl)
given_up_closed unlinked before state other = grind arith

given_up_failed : (unlinked : Bool) (before : ConnState) (state : ChanState) → before ≢ conn.Failed → is_resting (after_connection unlinked before conn.Failed state) ≡ true
given_up_failed unlinked conn.Failed state other = absurd (other refl)
given_up_failed unlinked before state other = grind arith

unlinked_detaching : (before after : ConnState) (state : ChanState) → awaits_detached (after_connection true before after state) ≡ false
unlinked_detaching before after state = grind arith

pub given_up_with_the_connection : GivenUpWithTheConnection
given_up_with_the_connection =
    record {
      suspended = given_up_suspended;
      closed = given_up_closed;
      failed = given_up_failed;
      unlinked = unlinked_detaching;
    }
