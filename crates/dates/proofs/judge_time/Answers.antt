-- `judge_time`: the form of all bytes first, then the calendar and the clock.
use Rattle.std.proofs.Common.{sym, refl, ◌∙◌, arith, length-take-le}
use Rattle.octets.specs.Bytes.{fix}
use Rattle.dates.proofs.Stamps.{letters, time_means, time-short, time_wrong, time_unformed, time_no_day, time_no_clock, time_is, time-front, time_day}
use Rattle.dates.proofs.judge_time.Goals as goal

pub returns-then-v-lt17 : goal.returns-then-v-lt17
returns-then-v-lt17 c = time-short _ c.if-v-lt17.true

pub returns-then-not-shaped : goal.returns-then-not-shaped
returns-then-not-shaped c = time_wrong _ (sym c.shaped.ensures ∙ c.if-not-shaped.true)

pub returns-then-not-fraction : goal.returns-then-not-fraction
returns-then-not-fraction c = time_unformed _ (sym c.fraction.ensures ∙ c.if-not-fraction.true)

pub shaped-requires : goal.shaped-requires
shaped-requires c = length-take-le 16 c.args.v.now (omega arith)

pub has_day-requires : goal.has_day-requires
has_day-requires c = (omega arith, time_day c.args.v.now (sym c.shaped.ensures ∙ c.if-not-shaped.false))

pub returns-then-not-has_day : goal.returns-then-not-has_day
returns-then-not-has_day c = time_no_day _ (sym c.fraction.ensures ∙ c.if-not-fraction.false) (sym c.has_day.ensures ∙ c.if-not-has_day.true)

pub two-requires : goal.two-requires
two-requires c =
    let v = c.args.v.now in
    (omega arith, letters (fix "YYYYMMDD-HH:MM:SS") v 9 (time-front v (sym c.fraction.ensures ∙ c.if-not-fraction.false)) (omega arith) refl refl)

pub two-requires-2 : goal.two-requires-2
two-requires-2 c =
    let v = c.args.v.now in
    (omega arith, letters (fix "YYYYMMDD-HH:MM:SS") v 12 (time-front v (sym c.fraction.ensures ∙ c.if-not-fraction.false)) (omega arith) refl refl)

pub two-requires-3 : goal.two-requires-3
two-requires-3 c =
    let v = c.args.v.now in
    (omega arith, letters (fix "YYYYMMDD-HH:MM:SS") v 15 (time-front v (sym c.fraction.ensures ∙ c.if-not-fraction.false)) (omega arith) refl refl)

pub returns-then-not-is_clock : goal.returns-then-not-is_clock
returns-then-not-is_clock c =
    time_no_clock _ (sym c.fraction.ensures ∙ c.if-not-fraction.false) (sym c.has_day.ensures ∙ c.if-not-has_day.false)
    (sym (time_means _ _ _ _ c.two.ensures.is c.two-2.ensures.is c.two-3.ensures.is) ∙ sym c.is_clock.ensures ∙ c.if-not-is_clock.true)

pub returns : goal.returns
returns c =
    time_is _ (sym c.fraction.ensures ∙ c.if-not-fraction.false) (sym c.has_day.ensures ∙ c.if-not-has_day.false)
    (sym (time_means _ _ _ _ c.two.ensures.is c.two-2.ensures.is c.two-3.ensures.is) ∙ sym c.is_clock.ensures ∙ c.if-not-is_clock.false)
