-- Rules 1 and 3, the first that speaks.
use Rattle.std.proofs.lemmas.Result.{err_from_is_err_and}
use Rattle.dictionary.proofs.Saying.{passes, stops, said_unknown, unknown_tag, unknown_member}
use Rattle.dictionary.proofs.Ending.{rule1_closes}
use mathlib.Core.Path.{sym, ◌∙◌}
use Rattle.dictionary.proofs.rules.of_unknown.Goals as goal

pub returns-in_err-closing_all : goal.returns-in_err-closing_all
returns-in_err-closing_all c =
    let p = err_from_is_err_and c.from_residual.result c.from_residual.ensures.1 in
    rw (p.1, p.2)
    (record { is = λ w v S n. said_unknown _ w _ v _ (unknown_tag _ n) (stops (rule1_closes c.closing_all.ensures w.inside _ S (unknown_member _ n v)) c.in_err-closing_all.was) })

pub returns-then-is_administrative : goal.returns-then-is_administrative
returns-then-is_administrative c =
    record {
      is = λ w v S n. said_unknown _ w _ v _ (unknown_tag _ n)
          (passes (rule1_closes c.closing_all.ensures w.inside _ S (unknown_member _ n v)) c.in_ok-closing_all.was (record { is = rw (sym c.is_administrative.ensures ∙ c.if-is_administrative.true) }));
    }

pub returns : goal.returns
returns c =
    record {
      is = λ w v S n. said_unknown _ w _ v _ (unknown_tag _ n)
          (passes (rule1_closes c.closing_all.ensures w.inside _ S (unknown_member _ n v)) c.in_ok-closing_all.was (record { is = rw (sym c.is_administrative.ensures ∙ c.if-is_administrative.false) }));
    }
