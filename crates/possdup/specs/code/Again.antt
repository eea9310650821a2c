-- A kept report, sent again as a possible duplicate (document 02, Q-4).
use Rattle.std.specs.Prelude.{ℕ, []}
use Rattle.std.proofs.Math.Option.{Option, none, some}
use Rattle.octets.specs.Bytes.{Bytes}
use Rattle.report.specs.Report.{Report, again}

-- "each kept report goes out again under its old number with 43=Y, a new 52 and its first 52 as 122": of the report that a place holds, if it holds one
abbrev pub again_of : Bytes → Bytes → ℕ → Option Report → Bytes
again_of us them t none = []
again_of us them t (some r) = again us them r t
