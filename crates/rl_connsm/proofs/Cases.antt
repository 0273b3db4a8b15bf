-- The laws, case by case.
use Rattle.std.proofs.Common.{refl, arith}
use Rattle.rl_connsm.specs.declared.table.ConnEvent.TheVariants as event
use Rattle.rl_connsm.specs.Laws.{BringsWhatItHolds, ClosesWhereItCounts, ClosingEndsClosed, ConnectedByTheService, ConnectedWhereAwaited, ConnectsWhereItMay, LinkEndsWithTheConnection, NeverInitializedAgain, RestsUntilConnect, RestsWhereForgotten, StaysForgotten, SuspendedByTime}

pub rests_until_connect : RestsUntilConnect
rests_until_connect from_suspended event.Connect other = absurd (other refl)
rests_until_connect from_suspended one other = (refl, refl)

pub connects_where_it_may : ConnectsWhereItMay
connects_where_it_may state from_suspended = grind arith

pub closing_ends_closed : ClosingEndsClosed
closing_ends_closed from_suspended one = grind arith

pub connected_by_the_service : ConnectedByTheService
connected_by_the_service state from_suspended one h = grind arith

pub never_initialized_again : NeverInitializedAgain
never_initialized_again state from_suspended one h = grind arith

pub closes_where_it_counts : ClosesWhereItCounts
closes_where_it_counts state from_suspended = grind arith

pub connected_where_awaited : ConnectedWhereAwaited
connected_where_awaited state from_suspended = grind arith

pub suspended_by_time : SuspendedByTime
suspended_by_time state from_suspended = grind arith

pub rests_where_forgotten : RestsWhereForgotten
rests_where_forgotten state h = grind arith

pub stays_forgotten : StaysForgotten
stays_forgotten state from_suspended one h = grind arith

pub link_ends_with_the_connection : LinkEndsWithTheConnection
link_ends_with_the_connection before after up h = grind arith

pub brings_what_it_holds : BringsWhatItHolds
brings_what_it_holds state h = grind arith
