-- What is answered by the verdict, and of a clean body by its type.
use mathlib.Core.Path.{sym, subst}
use lib.ListN.{replicate}
use Rattle.std.specs.Prelude.{Err}
use Rattle.dictionary.specs.declared.Unclean.{Unclean}
use Rattle.readback.specs.Back.{Reads}
use Rattle.readback.proofs.Answers.{reads_other, reads_values, reads_err}
use Rattle.readback.proofs.report_values.Goals as goal

pub returns-in_err-verdict_on : goal.returns-in_err-verdict_on
returns-in_err-verdict_on c = reads_err c.args.body.now c.in_err-verdict_on.ensures c.from_residual.result c.from_residual.ensures.1

pub returns-then-not-is_report : goal.returns-then-not-is_report
returns-then-not-is_report c =
    subst (λ (u : Unclean). Reads c.args.body.now (Err u) (replicate 82 0)) (sym c.into.ensures)
    (reads_other c.args.body.now c.verdict_on.ensures c.in_ok-verdict_on.was c.is_report.ensures c.if-not-is_report.true)

pub returns : goal.returns
returns c = reads_values _ c.verdict_on.ensures c.in_ok-verdict_on.was c.is_report.ensures c.if-not-is_report.false c.note_all.ensures
