-- `stands`: the first eight bytes and the last eight as two numbers.
use Rattle.std.proofs.Common.{◌≤◌, T, length, sym, ◌∙◌, subst, arith, eqb-true}
use borrow.Author.Tests.{eqb-false}
use Rattle.octets.proofs.Words.{at_words, words_first, words_last}
use Rattle.octets.proofs.compare.stands.Goals as goal

pub returns-then-word : goal.returns-then-word
returns-then-word c =
    let a = c.args in
    let long : 8 ≤ length a.lit.now = omega arith in
    record {
      found = λ t. absurd (subst T (sym t) tt);
      none = λ t A. c.if-word.true (c.word.ensures ∙ words_first a.s.now a.lit.now a.at long A ∙ sym c.word-2.ensures);
    }

pub returns : goal.returns
returns c =
    let a = c.args in
    let s = a.s.now in
    let l = a.lit.now in
    let long : 8 ≤ length a.lit.now = omega arith in
    let first = sym c.word.ensures ∙ c.if-word.false ∙ c.word-2.ensures in
    record {
      found = λ t.
          at_words s l a.at long (λ i. omega (arith, c.shared_slice_known-1.given i)) (λ i. omega (arith, c.shared_slice_known-2-1.given i)) (omega arith) (omega arith) first
          (sym c.word-3.ensures ∙ eqb-true _ _ t ∙ c.word-4.ensures);
      none = λ t A. eqb-false _ _ t (c.word-3.ensures ∙ words_last s l a.at long A ∙ sym c.word-4.ensures);
    }
