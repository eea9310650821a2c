-- What specs/Promise.antt promises of the order of times.
use Rattle.calendar.specs.Promise.{Promise}
use Rattle.calendar.proofs.Order as Order
use Rattle.calendar.proofs.Decimals as Decimals
use Rattle.calendar.proofs.ByClock as ByClock

pub promise : Promise
promise =
    record {
      not_itself = Order.not_itself;
      onward = Order.onward;
      not_both = Order.not_both;
      else_same = Order.else_same;
      no_decimals = Decimals.no_decimals;
      three_decimals = Decimals.three_decimals;
      six_decimals = Decimals.six_decimals;
      one_text = Decimals.one_text;
      second_60 = Order.second_60;
      next_minute = Order.next_minute;
      as_written = ByClock.as_written;
      as_counted = ByClock.as_counted;
    }
