-- The report call has one outcome: any two that its contract allows, for the same input, are equal in all that the call answers and leaves.
-- Assumes nothing.
use Prim.Native.Nat.{ℕ}
use mathlib.Core.Path.{◌≡◌}
use Rattle.octets.specs.Bytes.{Bytes}
use Rattle.report.specs.Values.{Values}
use Rattle.moves.specs.Held.{session_of}
use Rattle.moves.specs.declared.record.Record.{Record}
use Rattle.session.specs.Held.{LeavesStore}
use Rattle.session.specs.declared.Answered.{Answered}
use Rattle.session.proofs.OneOutcome.{leaves_store_one}
use Rattle.reporting.specs.Call.{report, store_after}

-- the answer, the record and the reply's length, the buffer and the store
pub report_one : (r : Record) (v : Values) (t : ℕ) (buf store : Bytes) {a b : Answered} {c d x y : Bytes} → LeavesStore r (report (session_of r) v t buf store) (store_after (session_of r) v t buf store) a c x
    → LeavesStore r (report (session_of r) v t buf store) (store_after (session_of r) v t buf store) b d y → (a ≡ b) × ((c ≡ d) × (x ≡ y))
report_one r v t buf store p q = leaves_store_one r (report (session_of r) v t buf store) (store_after (session_of r) v t buf store) p q
