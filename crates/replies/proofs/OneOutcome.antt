-- Every reply has one outcome: any two that its contract allows, for the same input, are equal in all that the call answers and leaves.
use Prim.Native.Nat.{ℕ, ◌+◌, ◌≤◌}
use mathlib.Core.Path.{◌≡◌, refl, sym, ap, ◌∙◌}
use mathlib.Core.Bool.{Bool, true, false, ◌&&◌}
use lib.ListN.{length}
use Rattle.octets.specs.Bytes.{Bytes}
use Rattle.std.specs.Prelude.{Option, Some}
use Rattle.message.specs.Wrote.{Wrote}
use Rattle.replies.specs.Replied.{reply_room, sendable, Replied}

-- the next place and every byte of the buffer
pub replied_one : {ours peers : Bytes} {n : ℕ} {time : Bytes} {own : Bool} {before a a' : Bytes} {at : ℕ} {x x' : Option ℕ} {message : Bytes}
    → Replied ours peers n time own before a at x message → Replied ours peers n time own before a' at x' message → (x ≡ x') × (a ≡ a')
replied_one {ours} {peers} {n} {time} {own} {before} {a} {a'} {at} {x} {x'} {message} A B = go (sendable ours peers n time at (length before) && own) refl
  where
    go : (b : Bool) → (sendable ours peers n time at (length before) && own) ≡ b → (x ≡ x') × (a ≡ a')
    go true e = by (A.written e) (B.written e)
      where
        by : (to : ℕ) × (x ≡ Some to) × Wrote before a at to message × (to ≤ at + reply_room) → (to : ℕ) × (x' ≡ Some to) × Wrote before a' at to message × (to ≤ at + reply_room)
            → (x ≡ x') × (a ≡ a')
        by r s = (r.1 ∙ ap Some (r.2.next ∙ sym s.2.next) ∙ sym s.1, r.2.bytes ∙ sym s.2.bytes)
    go false e = let r = A.refused e in let s = B.refused e in (r.1 ∙ sym s.1, r.0 ∙ sym s.0)
