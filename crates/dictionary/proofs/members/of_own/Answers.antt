-- Rules 4 to 10 outside groups, the first that speaks.
use Rattle.std.proofs.lemmas.Result.{err_from_is_err_and}
use Rattle.std.specs.Prelude.{None}
use Rattle.dictionary.proofs.FourToEight.{none_in}
use mathlib.Core.List.{[]}
use Rattle.dictionary.specs.Verdict.{left}
use Rattle.dictionary.specs.code.Held.{away}
use mathlib.Core.Path.{refl, sym, ◌∙◌}
use Rattle.dictionary.proofs.Saying.{passes, stops, known_tag, rule6_silent}
use Rattle.dictionary.proofs.Reported.{said_own}
use Rattle.dictionary.proofs.members.of_own.Goals as goal

pub returns-in_err-rule_4 : goal.returns-in_err-rule_4
returns-in_err-rule_4 c =
    let p = err_from_is_err_and c.from_residual.result c.from_residual.ensures.1 in
    rw (p.1, p.2)
    (record { is = λ met M o. said_own met _ _ _ (known_tag _ c.args.k.within) (stops (rw c.tag.ensures at (c.rule_4.ensures.is _ refl)) c.in_err-rule_4.was) })

pub returns-in_err-rule_5 : goal.returns-in_err-rule_5
returns-in_err-rule_5 c =
    let p = err_from_is_err_and c.from_residual-in_err-rule_5.result c.from_residual-in_err-rule_5.ensures.1 in
    rw (p.1, p.2)
    (record { is = λ met M o. said_own met _ _ _ (known_tag _ c.args.k.within) (passes (rw c.tag.ensures at (c.rule_4.ensures.is _ refl)) c.in_ok-rule_4.was (stops (c.rule_5.ensures.is met (M.at _ c.args.k.within)) c.in_err-rule_5.was)) })

pub returns-in_err-rule_6 : goal.returns-in_err-rule_6
returns-in_err-rule_6 c =
    let p = err_from_is_err_and c.from_residual-in_err-rule_6.result c.from_residual-in_err-rule_6.ensures.1 in
    rw (p.1, p.2)
    (record { is = λ met M o. said_own met _ _ _ (known_tag _ c.args.k.within) (passes (rw c.tag.ensures at (c.rule_4.ensures.is _ refl)) c.in_ok-rule_4.was (passes (c.rule_5.ensures.is met (M.at _ c.args.k.within)) c.in_ok-rule_5.was (stops c.rule_6.ensures c.in_err-rule_6.was))) })

pub returns-in_err-rule_7 : goal.returns-in_err-rule_7
returns-in_err-rule_7 c =
    let p = err_from_is_err_and c.from_residual-in_err-rule_7.result c.from_residual-in_err-rule_7.ensures.1 in
    rw (p.1, p.2)
    (record { is = λ met M o. said_own met _ _ _ (known_tag _ c.args.k.within) (passes (rw c.tag.ensures at (c.rule_4.ensures.is _ refl)) c.in_ok-rule_4.was (passes (c.rule_5.ensures.is met (M.at _ c.args.k.within)) c.in_ok-rule_5.was (passes c.rule_6.ensures c.in_ok-rule_6.was (stops (c.rule_7.ensures.is met o) c.in_err-rule_7.was)))) })

pub returns-in_err-rule_8 : goal.returns-in_err-rule_8
unfolding left
returns-in_err-rule_8 c =
    let p = err_from_is_err_and c.from_residual-in_err-rule_8.result c.from_residual-in_err-rule_8.ensures.1 in
    rw (p.1, p.2)
    (record { is = λ met M o. said_own met _ _ _ (known_tag _ c.args.k.within) (passes (rw c.tag.ensures at (c.rule_4.ensures.is _ refl)) c.in_ok-rule_4.was (passes (c.rule_5.ensures.is met (M.at _ c.args.k.within)) c.in_ok-rule_5.was (passes c.rule_6.ensures c.in_ok-rule_6.was (passes (c.rule_7.ensures.is met o) c.in_ok-rule_7.was (stops ((c.rule_8.ensures None (none_in _ refl)).is [] c.args.v.now (away refl)) c.in_err-rule_8.was))))) })

pub returns : goal.returns
unfolding left
returns c =
    record { is = λ met M o. said_own met _ _ _ (known_tag _ c.args.k.within) (passes (rw c.tag.ensures at (c.rule_4.ensures.is _ refl)) c.in_ok-rule_4.was (passes (c.rule_5.ensures.is met (M.at _ c.args.k.within)) c.in_ok-rule_5.was (passes c.rule_6.ensures c.in_ok-rule_6.was (passes (c.rule_7.ensures.is met o) c.in_ok-rule_7.was (passes ((c.rule_8.ensures None (none_in _ refl)).is [] c.args.v.now (away refl)) c.in_ok-rule_8.was (record { is = c.rules_9_and_10.ensures.is (rule6_silent _ _ (sym c.in_ok-rule_6.was ∙ c.rule_6.ensures)) })))))) }
