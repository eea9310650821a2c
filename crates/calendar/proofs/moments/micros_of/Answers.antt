-- `micros_of`: by the length, six decimals, three or none.
use Rattle.calendar.proofs.Timed.{times, six_there, three_there}
use borrow.Author.Rules.{rules}
use Rattle.calendar.proofs.moments.micros_of.Goals as goal

pub number_at-requires : goal.number_at-requires
number_at-requires c = search (rules, six_there)

pub number_at-requires-then-n-eq21 : goal.number_at-requires-then-n-eq21
number_at-requires-then-n-eq21 c = search (rules, three_there)

pub returns-then-n-eq24 : goal.returns-then-n-eq24
returns-then-n-eq24 c = search times

pub returns-then-n-eq21 : goal.returns-then-n-eq21
returns-then-n-eq21 c = search times

pub returns : goal.returns
returns c = search times
