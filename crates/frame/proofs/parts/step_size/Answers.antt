-- `step_size`: each answer by its law.
use native.Mathlib.Omega.{arith}
use mathlib.Core.Path.{refl}
use Rattle.frame.specs.Frame.{rule_of}
use Rattle.frame.proofs.AtSize.{size_next, size_wrong_full, size_wrong_high, size_wrong_next, size_wrong_low, size_short, size_short_more}
use Rattle.frame.proofs.Past.{past_mark}
use Rattle.frame.proofs.parts.step_size.Goals as goal

pub returns-then-count-lt6 : goal.returns-then-count-lt6
returns-then-count-lt6 c =
    let a = c.args in
    let R = rule_of a.mark.now in
    let s = a.s.now in
    let ok = c.requires.mark_ok in
    let S = c.requires.mark_seen in
    size_short_more R s a.p a.a S _ _ c.number-n.ensures ok c.if-e-s.true refl (omega arith) (omega arith)

pub returns-then-value-ge5 : goal.returns-then-value-ge5
returns-then-value-ge5 c =
    let a = c.args in
    let R = rule_of a.mark.now in
    let s = a.s.now in
    let ok = c.requires.mark_ok in
    let S = c.requires.mark_seen in
    size_short R s a.p a.a S _ _ c.number-n.ensures ok c.if-e-s.true refl (omega arith) (omega arith)

pub returns-else-value-ge5 : goal.returns-else-value-ge5
returns-else-value-ge5 c =
    let a = c.args in
    let R = rule_of a.mark.now in
    let s = a.s.now in
    let ok = c.requires.mark_ok in
    let S = c.requires.mark_seen in
    past_mark R s ok a.p a.a S (λ w. size_wrong_full R s a.p a.a S _ _ c.number-n.ensures w (omega arith) (omega arith))

pub returns-else-value-le2048 : goal.returns-else-value-le2048
returns-else-value-le2048 c =
    let a = c.args in
    let R = rule_of a.mark.now in
    let s = a.s.now in
    let ok = c.requires.mark_ok in
    let S = c.requires.mark_seen in
    past_mark R s ok a.p a.a S (λ w. size_wrong_high R s a.p a.a S _ _ c.number-n.ensures w (omega arith))

pub returns-then-s-e-ne1 : goal.returns-then-s-e-ne1
returns-then-s-e-ne1 c =
    let a = c.args in
    let R = rule_of a.mark.now in
    let s = a.s.now in
    let ok = c.requires.mark_ok in
    let S = c.requires.mark_seen in
    past_mark R s ok a.p a.a S (λ w. size_wrong_next R s a.p a.a S _ _ c.number-n.ensures w (omega arith) c.if-s-e-ne1.true)

pub returns-then-value-lt5 : goal.returns-then-value-lt5
returns-then-value-lt5 c =
    let a = c.args in
    let R = rule_of a.mark.now in
    let s = a.s.now in
    let ok = c.requires.mark_ok in
    let S = c.requires.mark_seen in
    past_mark R s ok a.p a.a S (λ w. size_wrong_low R s a.p a.a S _ _ c.number-n.ensures w (omega arith) c.if-s-e-ne1.false (omega arith))

pub returns-then-value-gt2048 : goal.returns-then-value-gt2048
returns-then-value-gt2048 c =
    let a = c.args in
    let R = rule_of a.mark.now in
    let s = a.s.now in
    let ok = c.requires.mark_ok in
    let S = c.requires.mark_seen in
    past_mark R s ok a.p a.a S (λ w. size_wrong_high R s a.p a.a S _ _ c.number-n.ensures w (omega arith))

pub returns : goal.returns
returns c =
    let a = c.args in
    let R = rule_of a.mark.now in
    let s = a.s.now in
    let ok = c.requires.mark_ok in
    let S = c.requires.mark_seen in
    size_next R s a.p a.a S _ _ c.number-n.ensures refl (omega arith) (omega arith) (omega arith) c.if-s-e-ne1.false
