-- The examples are computed.
use Rattle.std.proofs.Common.{refl, true≢false}
use Rattle.std.specs.Fmt.{digits}
use Rattle.std.specs.Str.{is_utf8, chars}
use lib.Utf8.{encode}
use Rattle.rl_presmap.specs.Examples.{IdsRead, NewnessIs, ItemsAreTaken, SyncsGo, PagesGo, OrderMatters}

pub ids_read : IdsRead
ids_read = record {
  plain = refl;
  zeros = refl;
  widest = refl;
  wider = refl;
  more = refl;
  one_number = refl;
  no_number = refl;
  no_index = refl;
  signed = refl;
  other = refl;
  longer = refl;
  nothing = refl;
}

pub newness_is : NewnessIs
newness_is = record {
  by_serial = refl;
  not_back = refl;
  by_index = refl;
  not_itself = refl;
  tie = refl;
  tie_back = refl;
  by_stamp = refl;
  whatever_stamp = refl;
}

pub items_are_taken : ItemsAreTaken
items_are_taken = record {
  enters = refl;
  held = refl;
  in_order = refl;
  updates = refl;
  updated = refl;
  late = refl;
  late_told = refl;
  leaves = refl;
  left = refl;
  left_twice = refl;
  absent_item = refl;
  absent_told = refl;
}

pub syncs_go : SyncsGo
syncs_go = record {
  opens = refl;
  still_members = refl;
  named = refl;
  not_named = refl;
  absent_held = refl;
  absent_told = refl;
  absent_is_none = refl;
  older_stays_out = refl;
  newer_comes_back = refl;
  ends = refl;
  end_told = refl;
  ends_outside = refl;
  outside_told = refl;
  reopens = refl;
}

pub pages_go : PagesGo
pages_go = record {
  empty_page = refl;
  empty_page_after = refl;
  opens = refl;
  first_goes_on = refl;
  goes_on = refl;
  another_opens = refl;
  no_cursor_goes_on = refl;
  told_in_order = refl;
}

pub order_matters : OrderMatters
unfolding digits is_utf8 chars encode
order_matters = record {
  gone_before = λ orderly. true≢false orderly.0;
  ids = refl;
  first = refl;
  last = refl;
  older = refl;
}
