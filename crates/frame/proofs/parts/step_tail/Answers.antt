-- `step_tail`: each answer by its law.
use borrow.Author.Rules.{rules}
use native.Mathlib.Omega.{arith}
use mathlib.Core.Path.{refl, sym, ◌∙◌}
use Rattle.octets.proofs.Words.{matched_whole}
use Rattle.frame.specs.Frame.{rule_of, trailer}
use Rattle.frame.proofs.AtTrailer.{tail_after, tail_behind, tail_at, tail_word, tail_unlike, tail_wrong, tail_short, tail_whole}
use Rattle.frame.proofs.Past.{past_room, past_body}
use Rattle.frame.proofs.parts.step_tail.Goals as goal

pub slice_bounds-checksum-count : goal.slice_bounds-checksum-count
slice_bounds-checksum-count c =
    let a = c.args in
    tail_after (rule_of a.mark.now) a.s.now a.p a.a c.requires.body_seen

pub slice_bounds-checksum-start : goal.slice_bounds-checksum-start
slice_bounds-checksum-start c =
    let a = c.args in
    let S = c.requires.body_seen in
    let h = tail_after (rule_of a.mark.now) a.s.now a.p a.a S in
    let w = S.within in
    search rules

pub overflow_sub-a : goal.overflow_sub-a
overflow_sub-a c =
    let a = c.args in
    tail_behind (rule_of a.mark.now) a.s.now a.p a.a c.requires.body_seen

pub word-requires : goal.word-requires
word-requires c =
    let a = c.args in
    omega (arith, tail_behind (rule_of a.mark.now) a.s.now a.p a.a c.requires.body_seen)

pub returns-then-word-trailer_word : goal.returns-then-word-trailer_word
returns-then-word-trailer_word c =
    let a = c.args in
    let R = rule_of a.mark.now in
    let s = a.s.now in
    let S = c.requires.body_seen in
    let hv = c.checksum-v.ensures in
    let e = sym c.word.ensures ∙ c.if-word-trailer_word.true ∙ c.trailer_word.ensures in
    let A = tail_at R s a.p a.a S _ hv (λ i. omega (arith, c.type_inv.s i)) (omega arith) e in
    tail_whole R s a.p a.a S _ hv _ (matched_whole s a.a (trailer c.checksum-v.result) A) c.requires.mark_ok refl

pub overflow_sub-result : goal.overflow_sub-result
overflow_sub-result c =
    let a = c.args in
    omega (arith, past_room (rule_of a.mark.now) a.s.now c.requires.mark_ok a.p a.a c.requires.body_seen)

pub returns-then-s-a-ge7 : goal.returns-then-s-a-ge7
returns-then-s-a-ge7 c =
    let a = c.args in
    let R = rule_of a.mark.now in
    let s = a.s.now in
    let S = c.requires.body_seen in
    let hv = c.checksum-v.ensures in
    past_body R s c.requires.mark_ok a.p a.a S (tail_unlike R s a.p a.a S _ hv (omega arith) (λ A. c.if-word-trailer_word.false (c.word.ensures ∙ tail_word R s a.p a.a S _ hv A ∙ sym c.trailer_word.ensures)))

pub returns-then-a-m : goal.returns-then-a-m
returns-then-a-m c =
    let a = c.args in
    let R = rule_of a.mark.now in
    let s = a.s.now in
    let S = c.requires.body_seen in
    let M = rw c.trailer.ensures at c.matched-m.ensures in
    tail_short R s a.p a.a S _ c.checksum-v.ensures _ M c.requires.mark_ok (λ e. omega (arith, M.within)) c.if-a-m.true

pub overflow_sub-result-2 : goal.overflow_sub-result-2
overflow_sub-result-2 c =
    let a = c.args in
    omega (arith, past_room (rule_of a.mark.now) a.s.now c.requires.mark_ok a.p a.a c.requires.body_seen)

pub returns : goal.returns
returns c =
    let a = c.args in
    let R = rule_of a.mark.now in
    let s = a.s.now in
    let S = c.requires.body_seen in
    let M = rw c.trailer.ensures at c.matched-m.ensures in
    past_body R s c.requires.mark_ok a.p a.a S (tail_wrong R s a.p a.a S _ c.checksum-v.ensures _ M (λ e. omega (arith, M.within)) c.if-a-m.false)
