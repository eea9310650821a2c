-- `row_of`: up to the place at hand all are digits, and their number is kept.
use Rattle.std.proofs.Common.{sym, ◌∙◌}
use Rattle.decimals.proofs.Reading.{row_whole, row_ends, row_next}
use Rattle.decimals.proofs.row_of.Goals as goal

pub returns-then-not-is_ascii_digit : goal.returns-then-not-is_ascii_digit
returns-then-not-is_ascii_digit c =
    row_ends c.loop-i.invariant c.loop-i-test.true (sym c.is_ascii_digit.ensures.value ∙ c.if-not-is_ascii_digit.true)

pub loop-i-preserved : goal.loop-i-preserved
loop-i-preserved c =
    row_next c.loop-i.invariant c.loop-i-test.true (sym c.is_ascii_digit.ensures.value ∙ c.if-not-is_ascii_digit.false) c.more-w.ensures

pub returns : goal.returns
returns c = row_whole c.loop-i.invariant c.loop-i-test.false
