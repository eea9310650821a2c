-- The replay call has one outcome: any two that its contract allows, for the same input, are equal in all that the call answers and leaves.
-- Assumes nothing.
use Prim.Native.Nat.{ℕ}
use mathlib.Core.Path.{◌≡◌}
use Rattle.octets.specs.Bytes.{Bytes}
use Rattle.moves.specs.Held.{session_of}
use Rattle.moves.specs.declared.record.Record.{Record}
use Rattle.session.specs.Held.{Leaves}
use Rattle.session.specs.declared.Answered.{Answered}
use Rattle.session.proofs.OneOutcome.{leaves_one}
use Rattle.replaying.specs.Call.{replay}

pub replay_one : (r : Record) (t : ℕ) (buf store : Bytes) {a b : Answered} {c d : Bytes}
    → Leaves r (replay (session_of r) t buf store) a c → Leaves r (replay (session_of r) t buf store) b d → (a ≡ b) × (c ≡ d)
replay_one r t buf store x y = leaves_one r (replay (session_of r) t buf store) x y
