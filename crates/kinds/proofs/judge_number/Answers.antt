-- `judge_number`: what was read, and its range.
use Rattle.std.proofs.Common.{sym, ap, ◌∙◌, arith}
use Rattle.kinds.specs.code.Scan.{range_of}
use Rattle.kinds.proofs.Values.{number-judged, number_within, number_below, number_above}
use Rattle.kinds.proofs.judge_number.Goals as goal
use Rattle.kinds.proofs.judge_number.Goals.{else-from-n-via-then-from-n+else-n-from, else-from-n-via-else-from-n}

pub returns-in_default : goal.returns-in_default
returns-in_default c = sym (ap (range_of _ _) c.in_default.is) ∙ ap (range_of _ _) c.read_number.ensures ∙ number-judged _ _ _

pub returns-then-n-from : goal.returns-then-n-from
returns-then-n-from c = number_within _ _ _ (sym c.in-Some.is ∙ c.read_number.ensures) (omega arith) (omega arith)

pub returns-else-from-n : goal.returns-else-from-n
returns-else-from-n c =
    let s = c.args in
    elim c.else-from-n.branch [
      | else-from-n-via-then-from-n+else-n-from w ↦ number_above s.least s.most s.v.now (sym c.in-Some.is ∙ c.read_number.ensures) (omega arith)
      | else-from-n-via-else-from-n w ↦ number_below s.least s.most s.v.now (sym c.in-Some.is ∙ c.read_number.ensures) (omega arith)
    ]
