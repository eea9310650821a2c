-- `number_at`: a row of digits, read to its end.
use Rattle.calendar.proofs.Timed.{times, row_fits}
use borrow.Author.Rules.{rules}
use Rattle.calendar.proofs.moments.number_at.Goals as goal

pub overflow_cast-result : goal.overflow_cast-result
overflow_cast-result c = search (rules, row_fits)

pub returns : goal.returns
returns c = search times
