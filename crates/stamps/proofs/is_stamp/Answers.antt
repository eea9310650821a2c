-- `is_stamp`: each test by the law that says what it means of the bytes.
use Rattle.fault.proofs.Numbers.{some_number}
use Rattle.stamps.proofs.Judged.{not_long, not_time, before_1000, before_1900}
use Rattle.stamps.proofs.is_stamp.Goals as goal

pub returns-then-v-ne24 : goal.returns-then-v-ne24
returns-then-v-ne24 c = not_long _ c.if-v-ne24.true

pub returns-in_default : goal.returns-in_default
returns-in_default c = let h = c.in_default.ensures in not_time _ h (some_number _)

pub returns-then-v-lt49 : goal.returns-then-v-lt49
returns-then-v-lt49 c = before_1000 _ c.if-v-ne24.false c.in-Ok.ensures c.if-v-lt49.true

pub returns-then-v-lt57 : goal.returns-then-v-lt57
returns-then-v-lt57 c = before_1900 _ c.if-v-ne24.false c.in-Ok.ensures c.if-v-ge50.false c.if-v-lt57.true
