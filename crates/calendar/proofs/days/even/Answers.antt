-- `even`: the tests of the definition, February first.
use native.Mathlib.Omega.{arith}
use borrow.Author.Tests.{lt-ltb, le-ltb}
use Rattle.calendar.specs.code.Walk.{evened}
use Rattle.calendar.proofs.days.even.Goals as goal

pub returns-then-d-lt59 : goal.returns-then-d-lt59
unfolding evened
returns-then-d-lt59 c = record { is = rw (lt-ltb _ _ c.if-d-lt59.true); small = omega arith }

pub returns-then-not-leap : goal.returns-then-not-leap
unfolding evened
returns-then-not-leap c = record { is = rw (le-ltb _ _ c.if-d-lt59.false, c.if-not-leap.true); small = omega arith }

pub returns-then-d-lt60 : goal.returns-then-d-lt60
unfolding evened
returns-then-d-lt60 c = record { is = rw (le-ltb _ _ c.if-d-lt59.false, c.if-not-leap.false, lt-ltb _ _ c.if-d-lt60.true); small = omega arith }

pub returns : goal.returns
unfolding evened
returns c = record { is = rw (le-ltb _ _ c.if-d-lt59.false, c.if-not-leap.false, le-ltb _ _ c.if-d-lt60.false); small = omega arith }
