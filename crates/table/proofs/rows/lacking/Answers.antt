-- The search for a required tag that is not marked: up to the row at hand, the rows lack nothing.
use mathlib.Core.Path.{◌∙◌}
use mathlib.Core.Bool.{false}
use Rattle.table.proofs.Needs.{rest, passed, met_one}
use Rattle.table.proofs.rows.lacking.Goals.{else-row-via-then-row+else-not-marks-place, else-row-via-else-row}
use Rattle.table.proofs.rows.lacking.Goals as goal

pub loop-row-preserved : goal.loop-row-preserved
loop-row-preserved c =
    λ lines h. let R = c.loop-row.invariant lines h in (
      rest _ lines c.loop-row.row-index (record { place = 0; required = false }) c.loop-row-test.true R.0,
      λ met M. R.1 met M
          ∙ elim c.else-row.branch [
            | else-row-via-then-row+else-not-marks-place w ↦ met_one _ lines c.loop-row.row-index _ c.loop-row-test.true R.0 _ met M w.if-not-marks-place.false
            | else-row-via-else-row w ↦ passed _ lines c.loop-row.row-index _ c.loop-row-test.true R.0 _ met M w.if-row.false
          ],
    )
