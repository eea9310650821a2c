-- `is_filled`: each piece in its turn.
use native.Mathlib.Omega.{arith}
use mathlib.Core.Path.{sym, ◌∙◌}
use mathlib.Core.Bool.{false≢true}
use Rattle.kept.proofs.Behind.{seen, missed, stood, refuted}
use Rattle.kept.proofs.Fillings.{filled_long, filled_label, filled_stamp, filled_bar, filled_listed, is_filled}
use Rattle.kept.proofs.is_filled.Goals as goal

pub returns-then-n-at : goal.returns-then-n-at
returns-then-n-at c =
    let a = c.args in
    refuted (λ F. absurd (omega (arith, filled_long a.place.now a.at a.n F, c.if-n-at.true)))

pub returns-then-not-stands_at : goal.returns-then-not-stands_at
returns-then-not-stands_at c =
    let a = c.args in
    refuted (λ F. missed _ c.stands_at.ensures c.if-not-stands_at.true (filled_label a.place.now a.at a.n F))

pub returns-then-not-is_stamp : goal.returns-then-not-is_stamp
returns-then-not-is_stamp c =
    let a = c.args in
    refuted (λ F. false≢true (sym c.if-not-is_stamp.true ∙ c.is_stamp.ensures ∙ filled_stamp a.place.now a.at a.n F))

pub returns-then-place-at-ne1 : goal.returns-then-place-at-ne1
returns-then-place-at-ne1 c =
    let a = c.args in
    refuted (λ F. c.if-place-at-ne1.true (filled_bar a.place.now a.at a.n F))

pub returns-then-not-is_listed : goal.returns-then-not-is_listed
returns-then-not-is_listed c =
    let a = c.args in
    refuted (λ F. false≢true (sym c.if-not-is_listed.true ∙ filled_listed a.place.now a.at a.n F c.is_listed.ensures))

pub returns-then-not-is_summed : goal.returns-then-not-is_summed
returns-then-not-is_summed c =
    let a = c.args in
    refuted (λ F. missed _ c.is_summed.ensures c.if-not-is_summed.true F.summed)

pub returns : goal.returns
returns c =
    let a = c.args in
    record {
      yes = λ e.
          is_filled a.place.now a.at a.n c.if-n-at.false (omega arith) (seen _ c.stands_at.ensures c.if-not-stands_at.false)
          (sym c.is_stamp.ensures ∙ c.if-not-is_stamp.false)
          c.if-place-at-ne1.false
          (c.is_listed.ensures.yes c.if-not-is_listed.false)
          (seen _ c.is_summed.ensures c.if-not-is_summed.false)
          (c.is_zero_from.ensures.found e);
      no = λ F. stood _ c.is_zero_from.ensures F.zeros;
    }
