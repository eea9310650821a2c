-- Each return passes the rules that said nothing and stops at the one that spoke.
use Rattle.std.proofs.lemmas.Result.{err_from_is_err_and}
use mathlib.Core.Path.{sym, ◌∙◌}
use Rattle.dictionary.proofs.Ending.{alone}
use Rattle.dictionary.proofs.Saying.{passes, stops}
use Rattle.dictionary.proofs.Usual.{tag_said}
use Rattle.dictionary.proofs.rules.rules_1_to_8.Goals as goal

pub returns-in_err-rule_1 : goal.returns-in_err-rule_1
returns-in_err-rule_1 c N =
    let p = err_from_is_err_and c.from_residual.result c.from_residual.ensures.1 in
    rw (p.1, p.2)
    (record {
      is = λ w v S q.
          tag_said _ w _ v
          (stops ((c.rule_1.ensures _ N).is w.inside v S.stood) c.in_err-rule_1.was);
    })

pub returns-in_err-rule_4 : goal.returns-in_err-rule_4
returns-in_err-rule_4 c N =
    let p = err_from_is_err_and c.from_residual-in_err-rule_4.result c.from_residual-in_err-rule_4.ensures.1 in
    rw (p.1, p.2)
    (record {
      is = λ w v S q.
          tag_said _ w _ v
          (passes ((c.rule_1.ensures _ N).is w.inside v S.stood) c.in_ok-rule_1.was
          (stops (rw c.tag.ensures at (c.rule_4.ensures.is v q)) c.in_err-rule_4.was));
    })

pub returns-in_err-rule_5 : goal.returns-in_err-rule_5
returns-in_err-rule_5 c N =
    let p = err_from_is_err_and c.from_residual-in_err-rule_5.result c.from_residual-in_err-rule_5.ensures.1 in
    rw (p.1, p.2)
    (record {
      is = λ w v S q.
          tag_said _ w _ v
          (passes ((c.rule_1.ensures _ N).is w.inside v S.stood) c.in_ok-rule_1.was
          (passes (rw c.tag.ensures at (c.rule_4.ensures.is v q)) c.in_ok-rule_4.was
          (stops (c.rule_5.ensures.is w.seen (S.marked.at _ c.args.k.within)) c.in_err-rule_5.was)));
    })

pub returns-in_err-rule_6 : goal.returns-in_err-rule_6
returns-in_err-rule_6 c N =
    let p = err_from_is_err_and c.from_residual-in_err-rule_6.result c.from_residual-in_err-rule_6.ensures.1 in
    rw (p.1, p.2)
    (record {
      is = λ w v S q.
          tag_said _ w _ v
          (passes ((c.rule_1.ensures _ N).is w.inside v S.stood) c.in_ok-rule_1.was
          (passes (rw c.tag.ensures at (c.rule_4.ensures.is v q)) c.in_ok-rule_4.was
          (passes (c.rule_5.ensures.is w.seen (S.marked.at _ c.args.k.within)) c.in_ok-rule_5.was
          (stops c.rule_6.ensures c.in_err-rule_6.was))));
    })

pub returns-in_err-rule_7 : goal.returns-in_err-rule_7
returns-in_err-rule_7 c N =
    let p = err_from_is_err_and c.from_residual-in_err-rule_7.result c.from_residual-in_err-rule_7.ensures.1 in
    rw (p.1, p.2)
    (record {
      is = λ w v S q.
          tag_said _ w _ v
          (passes ((c.rule_1.ensures _ N).is w.inside v S.stood) c.in_ok-rule_1.was
          (passes (rw c.tag.ensures at (c.rule_4.ensures.is v q)) c.in_ok-rule_4.was
          (passes (c.rule_5.ensures.is w.seen (S.marked.at _ c.args.k.within)) c.in_ok-rule_5.was
          (passes c.rule_6.ensures c.in_ok-rule_6.was
          (stops (c.rule_7.ensures.is w.seen S.over) c.in_err-rule_7.was)))));
    })

pub returns : goal.returns
returns c N =
    record {
      is = λ w v S q.
          tag_said _ w _ v
          (passes ((c.rule_1.ensures _ N).is w.inside v S.stood) c.in_ok-rule_1.was
          (passes (rw c.tag.ensures at (c.rule_4.ensures.is v q)) c.in_ok-rule_4.was
          (passes (c.rule_5.ensures.is w.seen (S.marked.at _ c.args.k.within)) c.in_ok-rule_5.was
          (passes c.rule_6.ensures c.in_ok-rule_6.was
          (passes (c.rule_7.ensures.is w.seen S.over) c.in_ok-rule_7.was
          (record { is = (c.rule_8.ensures _ N).is w.inside v S.stood ∙ sym (alone _) }))))));
    }
