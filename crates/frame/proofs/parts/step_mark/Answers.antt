-- `step_mark`: each answer by its law.
use native.Mathlib.Omega.{arith}
use Prim.Native.Nat.{◌-◌}
use mathlib.Core.Path.{refl, sym}
use lib.ListN.{length}
use lib.Seq.{length-take-le}
use Rattle.octets.proofs.Words.{matched_whole}
use Rattle.frame.specs.Frame.{rule_of}
use Rattle.frame.proofs.AtMark.{matched_front, mark_next, mark_unlike, mark_wrong, mark_short}
use Rattle.frame.proofs.Past.{past_one}
use Rattle.frame.proofs.parts.step_mark.Goals as goal

pub returns-then-stands : goal.returns-then-stands
returns-then-stands c =
    let a = c.args in
    let R = rule_of a.mark.now in
    mark_next R _ _ _ (matched_whole a.s.now a.p a.mark.now (c.stands.ensures.found c.if-stands.true)) refl

pub returns-then-n-s : goal.returns-then-n-s
returns-then-n-s c =
    let a = c.args in
    let R = rule_of a.mark.now in
    past_one R a.s.now a.p (omega (arith, c.requires.mark_ok.long)) (mark_unlike R a.s.now a.p (omega arith) (c.stands.ensures.none c.if-stands.false))

pub slice_bounds-matched-end : goal.slice_bounds-matched-end
slice_bounds-matched-end c =
    let a = c.args in sym (length-take-le (length a.s.now - a.p) a.mark.now (omega arith))

pub returns-then-matched-rest : goal.returns-then-matched-rest
returns-then-matched-rest c =
    let a = c.args in
    let R = rule_of a.mark.now in
    let M = matched_front a.s.now a.p a.mark.now (length a.s.now - a.p) _ (omega arith) (omega arith) c.matched.ensures in
    mark_short R c.requires.mark_ok _ _ _ (omega arith) M (omega (arith, c.if-matched-rest.true))

pub returns : goal.returns
returns c =
    let a = c.args in
    let R = rule_of a.mark.now in
    let M = matched_front a.s.now a.p a.mark.now (length a.s.now - a.p) _ (omega arith) (omega arith) c.matched.ensures in
    past_one R a.s.now a.p (omega arith) (mark_wrong R _ _ _ M (λ e. omega arith) (λ e. c.if-matched-rest.false (omega arith)))
