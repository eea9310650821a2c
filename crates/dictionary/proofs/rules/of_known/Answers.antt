-- Rules 1 and 4 to 8, then rules 9 and 10.
use Rattle.std.proofs.lemmas.Result.{err_from_is_err_and}
use mathlib.Core.Path.{refl}
use Rattle.dictionary.proofs.Saying.{known_tag}
use Rattle.dictionary.proofs.Usual.{said_by_tag, said_by_value}
use Rattle.dictionary.proofs.rules.of_known.Goals as goal

pub returns-in_err-of_tag : goal.returns-in_err-of_tag
returns-in_err-of_tag c =
    let p = err_from_is_err_and c.from_residual.result c.from_residual.ensures.1 in
    rw (p.1, p.2)
    (record { is = λ w S. said_by_tag _ w _ _ (known_tag _ c.args.k.within) (c.of_tag.ensures.is w _ S refl) c.in_err-of_tag.was })

pub returns : goal.returns
returns c = record { is = λ w S. said_by_value _ w _ _ (known_tag _ c.args.k.within) (c.of_tag.ensures.is w _ S refl) c.in_ok-of_tag.was c.rules_9_and_10.ensures }
