-- `fraction`: by the length, the last eight bytes or the last one.
use Rattle.std.proofs.Common.{◌∙◌, arith}
use Rattle.dates.proofs.Stamps.{time_six, time_three, time_plain, time_other}
use Rattle.dates.proofs.fraction.Goals as goal

pub returns-in-24 : goal.returns-in-24
returns-in-24 c = c.shaped.ensures ∙ time_six c.args.v.now c.requires.1 c.in-24.is

pub returns-in-21 : goal.returns-in-21
returns-in-21 c = c.shaped-in-21.ensures ∙ time_three c.args.v.now c.requires.1 c.in-21.is

pub returns-in-17 : goal.returns-in-17
returns-in-17 c = c.stands_for.ensures ∙ time_plain c.args.v.now c.requires.1 c.in-17.is

pub returns-in_default : goal.returns-in_default
returns-in_default c = time_other c.args.v.now c.requires.1 (λ e. omega arith) (λ e. omega arith) (λ e. omega arith)
