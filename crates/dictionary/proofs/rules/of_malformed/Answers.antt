-- Rules 1 and 2, the first that speaks.
use Rattle.std.proofs.lemmas.Result.{err_from_is_err_and}
use Rattle.dictionary.proofs.Ending.{rule1_closes}
use Rattle.dictionary.proofs.Saying.{passes, stops, said-malformed, malformed_member}
use Rattle.fields.specs.Field.{malformed}
use mathlib.Core.Path.{refl}
use Rattle.dictionary.proofs.rules.of_malformed.Goals as goal

pub returns-in_err-closing_all : goal.returns-in_err-closing_all
returns-in_err-closing_all c =
    let p = err_from_is_err_and c.from_residual.result c.from_residual.ensures.1 in
    rw (p.1, p.2)
    (record { is = λ m w S. said-malformed m w _ (stops (rule1_closes c.closing_all.ensures w.inside malformed S malformed_member) c.in_err-closing_all.was) })

pub returns : goal.returns
returns c = record { is = λ m w S. said-malformed m w _ (passes (rule1_closes c.closing_all.ensures w.inside malformed S malformed_member) c.in_ok-closing_all.was (record { is = refl })) }
