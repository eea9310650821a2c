-- `step_fields`: each answer by its law.
use native.Mathlib.Omega.{arith}
use Prim.Native.Nat.{◌+◌}
use Rattle.frame.specs.Frame.{rule_of}
use lib.ListN.{length}
use Rattle.octets.proofs.Search.{none_at_all}
use Rattle.frame.proofs.AtBody.{tag_wrong, tag_short, mark_inside, behind_first, size_range, fields_short, last_wrong, fields_next}
use Rattle.frame.proofs.Past.{past_size, past_inside}
use Rattle.frame.proofs.parts.step_fields.Goals as goal

pub returns-then-a-m : goal.returns-then-a-m
returns-then-a-m c =
    let a = c.args in
    let R = rule_of a.mark.now in
    let s = a.s.now in
    let ok = c.requires.mark_ok in
    let S = c.requires.size_seen in
    let M = c.matched-m.ensures in
    tag_short R s a.p a.a a.n S ok _ M (omega arith) c.if-a-m.true (λ i. omega (arith, c.type_inv.s i))

pub returns-then-m-lt3 : goal.returns-then-m-lt3
returns-then-m-lt3 c =
    let a = c.args in
    let R = rule_of a.mark.now in
    let s = a.s.now in
    let ok = c.requires.mark_ok in
    let S = c.requires.size_seen in
    let M = c.matched-m.ensures in
    past_size R s ok a.p a.a a.n S (tag_wrong R s a.p a.a a.n S _ M (omega arith) c.if-a-m.false)

pub holds-q-requires : goal.holds-q-requires
holds-q-requires c =
    let ok = c.requires.mark_ok in
    ((omega (arith, c.matched-m.ensures.within), omega arith), (ok.long, ok.short))

pub returns-then-q-end : goal.returns-then-q-end
returns-then-q-end c =
    let a = c.args in
    let R = rule_of a.mark.now in
    let s = a.s.now in
    let ok = c.requires.mark_ok in
    let S = c.requires.size_seen in
    let M = c.matched-m.ensures in
    let F = behind_first R s a.p a.a a.n S ok _ M (omega arith) _ _ c.holds-q.ensures in
    past_inside R s ok a.p a.a a.n S (length s) _ (omega arith) (omega arith) F (mark_inside R s a.p a.a a.n S (length s) (omega arith) _ (F.found (omega arith)))

pub returns-then-end-a : goal.returns-then-end-a
returns-then-end-a c =
    let a = c.args in
    let R = rule_of a.mark.now in
    let s = a.s.now in
    let ok = c.requires.mark_ok in
    let S = c.requires.size_seen in
    let M = c.matched-m.ensures in
    let F = behind_first R s a.p a.a a.n S ok _ M (omega arith) _ _ c.holds-q.ensures in
    fields_short R s a.p a.a a.n S ok _ M (omega arith) (omega arith) (none_at_all s a.a (length s) a.mark.now (omega arith) _ F (λ l. omega (arith, c.if-q-end.false))) (λ i. omega (arith, c.type_inv.s i))

pub returns-then-s-e-ne1 : goal.returns-then-s-e-ne1
returns-then-s-e-ne1 c =
    let a = c.args in
    let R = rule_of a.mark.now in
    let s = a.s.now in
    let ok = c.requires.mark_ok in
    let S = c.requires.size_seen in
    let M = c.matched-m.ensures in
    past_size R s ok a.p a.a a.n S (last_wrong R s a.p a.a a.n S (omega arith) c.if-s-e-ne1.true)

pub holds-q-requires-2 : goal.holds-q-requires-2
holds-q-requires-2 c =
    let ok = c.requires.mark_ok in
    ((omega (arith, size_range _ _ _ _ _ c.requires.size_seen), omega arith), (ok.long, ok.short))

pub returns-then-q-e : goal.returns-then-q-e
returns-then-q-e c =
    let a = c.args in
    let R = rule_of a.mark.now in
    let s = a.s.now in
    let ok = c.requires.mark_ok in
    let S = c.requires.size_seen in
    let M = c.matched-m.ensures in
    let F = behind_first R s a.p a.a a.n S ok _ M (omega arith) _ _ c.holds-q-2.ensures in
    past_inside R s ok a.p a.a a.n S (a.a + a.n) _ (omega arith) (omega arith) F (mark_inside R s a.p a.a a.n S (a.a + a.n) (omega arith) _ (F.found (omega arith)))

pub returns : goal.returns
returns c =
    let a = c.args in
    let R = rule_of a.mark.now in
    let s = a.s.now in
    let ok = c.requires.mark_ok in
    let S = c.requires.size_seen in
    let M = c.matched-m.ensures in
    let F = behind_first R s a.p a.a a.n S ok _ M (omega arith) _ _ c.holds-q-2.ensures in
    fields_next R s a.p a.a a.n S (omega arith) _ M (omega arith) (λ i. omega (arith, c.type_inv.s i)) c.if-s-e-ne1.false (none_at_all s a.a (a.a + a.n) a.mark.now (omega arith) _ F (λ l. omega (arith, c.if-q-e.false)))
