-- The rows before this one lack nothing.
use Rattle.std.proofs.Common.{◌≡◌, true, ℕ, List, drop}
use Rattle.table.specs.Dictionary.{Row}
use Rattle.table.specs.code.Held.{Marked, unmet, right_rows}
use Rattle.table.proofs.rows.lacking.Given as goal

abbrev pub invariant-loop-row : goal.invariant-loop-row
invariant-loop-row l =
    (lines : List Row) → right_rows l.rows lines ≡ true
    → (right_rows (drop l.row-index l.rows) (drop l.row-index lines) ≡ true)
    × ((met : List ℕ) → Marked l.marks met → unmet lines met ≡ unmet (drop l.row-index lines) met)
