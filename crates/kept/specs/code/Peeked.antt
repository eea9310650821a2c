-- The number of a report, read where it stands in a place without looking at the rest. Only the code needs this: nothing here states document 02.
use Rattle.std.specs.Prelude.{ℕ, zero, suc, ◌+◌, ◌≡◌, [], ◌∷◌, cond, length, drop}
use Rattle.std.proofs.Math.Option.{some}
use Rattle.octets.specs.Bytes.{Bytes, digit, value}
use Rattle.report.specs.Report.{Report}
use Rattle.kept.specs.Kept.{held}

-- the digits that bytes begin with, at most n of them
abbrev pub leading : ℕ → Bytes → Bytes
leading zero l = []
leading (suc n) [] = []
leading (suc n) (x ∷ l) = cond (digit x) (x ∷ leading n l) []

-- n is what the digits are worth that stand where a number stands behind CompIDs of so many bytes together; if the place holds a report between such
-- CompIDs, it is the report's number
pub record Peeked (place : Bytes) (ids n : ℕ) : Type 0 where
  pub is : n ≡ value (leading 9 (drop (34 + ids) place))
  pub right : (us them : Bytes) (r : Report) → length us + length them ≡ ids → held us them place ≡ some r → n ≡ r.number
