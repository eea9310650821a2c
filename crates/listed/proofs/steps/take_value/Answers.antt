-- `take_value`: the bytes before the first `|`.
use Rattle.std.proofs.Common.{sym}
use Rattle.std.proofs.lemmas.List.{take_rest}
use Rattle.kinds.specs.Judged.{meaning}
use Rattle.listed.proofs.Pieces.{value_empty, value_unfit, value_taken, value_open}
use Rattle.listed.proofs.steps.take_value.Goals as goal

pub returns-in_err-n : goal.returns-in_err-n
returns-in_err-n c = rw c.from_residual.ensures (value_open (meaning c.args.kind) c.args.s.now (sym c.in_err-n.ensures))

pub returns-then-n-eq0 : goal.returns-then-n-eq0
returns-then-n-eq0 c = value_empty (meaning c.args.kind) c.args.s.now _ (sym c.in_ok-n.ensures) c.if-n-eq0.true

pub returns-in_default : goal.returns-in_default
returns-in_default c =
    let h = c.in_default.ensures in
    value_unfit (meaning c.args.kind) c.args.s.now _ (sym c.in_ok-n.ensures) _ c.if-n-eq0.false h

pub returns : goal.returns
returns c = rw take_rest (value_taken (meaning c.args.kind) c.args.s.now _ (sym c.in_ok-n.ensures) c.if-n-eq0.false c.in-Ok.ensures)
