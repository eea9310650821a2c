-- `judge`: each kind is its own function's.
use mathlib.Core.Path.{◌∙◌, sym, ap}
use Rattle.kinds.specs.declared.Kind.{Kind}
use Rattle.kinds.specs.Judged.{meaning, judged}
use Rattle.kinds.proofs.Values.{day_judged, time-judged}
use Rattle.kinds.proofs.judge.Goals as goal

pub returns-in-Text : goal.returns-in-Text
returns-in-Text c = c.judge_text.ensures ∙ sym (ap (λ (k : Kind). judged (meaning k) c.args.v.now) c.in-Text.is)

pub returns-in-Number : goal.returns-in-Number
returns-in-Number c = c.judge_number.ensures ∙ sym (ap (λ (k : Kind). judged (meaning k) c.args.v.now) c.in-Number.is)

pub returns-in-Flag : goal.returns-in-Flag
returns-in-Flag c = c.judge_flag.ensures ∙ sym (ap (λ (k : Kind). judged (meaning k) c.args.v.now) c.in-Flag.is)

pub returns-in-Time : goal.returns-in-Time
returns-in-Time c = c.judge_time.ensures ∙ time-judged c.args.v.now ∙ sym (ap (λ (k : Kind). judged (meaning k) c.args.v.now) c.in-Time.is)

pub returns-in-Day : goal.returns-in-Day
returns-in-Day c = c.judge_day.ensures ∙ day_judged c.args.v.now ∙ sym (ap (λ (k : Kind). judged (meaning k) c.args.v.now) c.in-Day.is)

pub returns-in-Decimal : goal.returns-in-Decimal
returns-in-Decimal c = c.judge_decimal.ensures ∙ sym (ap (λ (k : Kind). judged (meaning k) c.args.v.now) c.in-Decimal.is)

pub returns-in-OneOf : goal.returns-in-OneOf
returns-in-OneOf c = c.judge_choice.ensures ∙ sym (ap (λ (k : Kind). judged (meaning k) c.args.v.now) c.in-OneOf.is)
