-- `judge_day`: eight digits, or the wrong form.
use Rattle.std.proofs.Common.{sym, ◌∙◌}
use Rattle.dates.proofs.Stamps.{day_unformed, day_wrong, day_right, day_long}
use Rattle.dates.proofs.judge_day.Goals as goal

pub returns-then-v-ne8 : goal.returns-then-v-ne8
returns-then-v-ne8 c = day_long _ c.if-v-ne8.true

pub returns-then-not-shaped : goal.returns-then-not-shaped
returns-then-not-shaped c = day_unformed _ (sym c.shaped.ensures ∙ c.if-not-shaped.true)

pub returns-then-not-has_day : goal.returns-then-not-has_day
returns-then-not-has_day c = day_wrong _ (sym c.shaped.ensures ∙ c.if-not-shaped.false) (sym c.has_day.ensures ∙ c.if-not-has_day.true)

pub returns : goal.returns
returns c = day_right _ (sym c.shaped.ensures ∙ c.if-not-shaped.false) (sym c.has_day.ensures ∙ c.if-not-has_day.false)
