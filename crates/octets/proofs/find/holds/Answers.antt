-- `holds`: the literal stands nowhere with its fifth byte in what was stepped over.
use Rattle.std.proofs.Common.{◌≤◌, length, refl, arith}
use Rattle.octets.proofs.Search.{none_to, none_past, none_end}
use Rattle.octets.proofs.find.holds.Goals as goal

pub loop-i-init : goal.loop-i-init
loop-i-init c = (omega arith, (omega arith, λ q h k. absurd (omega arith)))

pub returns-then-j-e : goal.returns-then-j-e
returns-then-j-e c =
    let a = c.args in
    let l = c.loop-i in
    let five : 5 ≤ length a.lit.now = omega arith in
    let F = c.find_byte-j.ensures in
    record {
      high = omega arith;
      found = λ h. absurd (omega arith);
      none = none_end a.s.now a.a a.e a.lit.now five _ (omega arith) (none_to a.s.now a.a a.e a.lit.now five l.i _ _ refl F l.invariant.1.1);
    }

pub overflow_sub-result : goal.overflow_sub-result
overflow_sub-result c = (c.stands_around.ensures.found c.if-stands_around.true).0

pub returns-then-stands_around : goal.returns-then-stands_around
returns-then-stands_around c =
    let a = c.args in
    let l = c.loop-i in
    let five : 5 ≤ length a.lit.now = omega arith in
    let F = c.find_byte-j.ensures in
    let w = c.stands_around.ensures.found c.if-stands_around.true in
    let H = w.1 in
    record {
      high = omega (arith, H.high);
      found = λ h. H;
      none = λ q h. none_to a.s.now a.a a.e a.lit.now five l.i _ _ refl F l.invariant.1.1 q (omega arith);
    }

pub loop-i-preserved : goal.loop-i-preserved
loop-i-preserved c =
    let a = c.args in
    let l = c.loop-i in
    let five : 5 ≤ length a.lit.now = omega arith in
    let F = c.find_byte-j.ensures in
    let s = a.s.now in
    let lit = a.lit.now in (
      omega arith,
      (
        omega arith,
        none_past s a.a a.e lit five _ _ c.if-stands_around.false c.stands_around.ensures (none_to s a.a a.e lit five l.i _ _ refl F l.invariant.1.1),
      ),
    )

pub returns : goal.returns
returns c =
    let a = c.args in
    let l = c.loop-i in
    let five : 5 ≤ length a.lit.now = omega arith in
    record {
      high = omega arith;
      found = λ h. absurd (omega arith);
      none = none_end a.s.now a.a a.e a.lit.now five l.i (omega arith) l.invariant.1.1;
    }
