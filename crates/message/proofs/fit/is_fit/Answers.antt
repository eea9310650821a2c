-- `is_fit`: the dictionary's tests of a value, one after the other.
use mathlib.Core.Path.{sym, ◌∙◌}
use borrow.Author.Tests.{eqb-true, eqb-false}
use Rattle.message.proofs.Fitness.{fit_empty, fit_bar, fit_judged}
use Rattle.message.proofs.fit.is_fit.Goals as goal

pub returns-then-is_empty : goal.returns-then-is_empty
returns-then-is_empty c = fit_empty _ _ (eqb-true _ 0 (sym c.is_empty.ensures ∙ c.if-is_empty.true))

pub returns-then-has : goal.returns-then-has
returns-then-has c = fit_bar _ _ (eqb-false _ 0 (sym c.is_empty.ensures ∙ c.if-is_empty.false)) c.has.ensures c.if-has.true

pub returns : goal.returns
returns c = c.is_ok.ensures.value ∙ fit_judged _ _ c.judge.result (eqb-false _ 0 (sym c.is_empty.ensures ∙ c.if-is_empty.false)) c.has.ensures c.if-has.false c.judge.ensures
