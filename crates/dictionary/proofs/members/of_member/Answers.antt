-- Rules 1, 4, 8, 9 and 10, the first that speaks.
use Rattle.std.proofs.lemmas.Result.{err_from_is_err_and}
use mathlib.Core.Path.{refl, ap, sym, ◌∙◌}
use mathlib.Core.List.{[], ◌∷◌}
use mathlib.Core.Bool.{Bool}
use Rattle.dictionary.specs.Verdict.{◌when◌, incomplete}
use Rattle.dictionary.specs.code.Held.{within}
use Rattle.dictionary.proofs.Saying.{passes, stops, known_tag}
use Rattle.dictionary.proofs.Reported.{member_stands, said_member, member_listed}
use Rattle.dictionary.proofs.members.of_member.Goals as goal

pub returns-in_err-rule_1_inside : goal.returns-in_err-rule_1_inside
returns-in_err-rule_1_inside c =
    let p = err_from_is_err_and c.from_residual.result c.from_residual.ensures.1 in
    rw (p.1, p.2)
    (record { is = λ x g gs I R h f. said_member g _ R h x gs _ _ (known_tag _ c.args.k.within) (stops (c.rule_1_inside.ensures.is g I ∙ ap (λ (b : Bool). incomplete g when b) (sym f)) c.in_err-rule_1_inside.was) })

pub returns-in_err-rule_4 : goal.returns-in_err-rule_4
returns-in_err-rule_4 c =
    let p = err_from_is_err_and c.from_residual-in_err-rule_4.result c.from_residual-in_err-rule_4.ensures.1 in
    rw (p.1, p.2)
    (record { is = λ x g gs I R h f. said_member g _ R h x gs _ _ (known_tag _ c.args.k.within) (passes (c.rule_1_inside.ensures.is g I ∙ ap (λ (b : Bool). incomplete g when b) (sym f)) c.in_ok-rule_1_inside.was (stops (rw c.tag.ensures at (c.rule_4.ensures.is _ refl)) c.in_err-rule_4.was)) })

pub returns-in_err-rule_8 : goal.returns-in_err-rule_8
returns-in_err-rule_8 c =
    let p = err_from_is_err_and c.from_residual-in_err-rule_8.result c.from_residual-in_err-rule_8.ensures.1 in
    rw (p.1, p.2)
    (record { is = λ x g gs I R h f. said_member g _ R h x gs _ _ (known_tag _ c.args.k.within) (passes (c.rule_1_inside.ensures.is g I ∙ ap (λ (b : Bool). incomplete g when b) (sym f)) c.in_ok-rule_1_inside.was (passes (rw c.tag.ensures at (c.rule_4.ensures.is _ refl)) c.in_ok-rule_4.was (stops ((c.rule_8.ensures _ (member_stands g I h f)).is (g ∷ []) _ (within refl I)) c.in_err-rule_8.was))) })

pub returns : goal.returns
returns c =
    record { is = λ x g gs I R h f. said_member g _ R h x gs _ _ (known_tag _ c.args.k.within) (passes (c.rule_1_inside.ensures.is g I ∙ ap (λ (b : Bool). incomplete g when b) (sym f)) c.in_ok-rule_1_inside.was (passes (rw c.tag.ensures at (c.rule_4.ensures.is _ refl)) c.in_ok-rule_4.was (passes ((c.rule_8.ensures _ (member_stands g I h f)).is (g ∷ []) _ (within refl I)) c.in_ok-rule_8.was (record { is = c.rules_9_and_10.ensures.is (member_listed g _ R h) })))) }
