-- `judge_decimal`: the finding is that of the reading.
use Rattle.std.proofs.lemmas.Result.{err_from_is_err_and}
use Rattle.kinds.proofs.Decimals.{decimal-judged}
use Rattle.kinds.proofs.judge_decimal.Goals as goal

pub returns-in_err-read_decimal : goal.returns-in_err-read_decimal
returns-in_err-read_decimal c =
    let p = err_from_is_err_and c.from_residual.result c.from_residual.ensures.1 in
    rw (p.1, p.2) (decimal-judged _ c.in_err-read_decimal.ensures)

pub returns : goal.returns
returns c = decimal-judged _ c.in_ok-read_decimal.ensures
