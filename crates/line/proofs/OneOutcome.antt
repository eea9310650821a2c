-- Every function that this crate hands out has one outcome: any two that its contract allows, for the same input, are equal in all that the call
-- answers and leaves. Assumes nothing.
use Prim.Native.Nat.{ℕ}
use native.Mathlib.Omega.{arith}
use mathlib.Core.Path.{◌≡◌, sym, ap, ◌∙◌}
use Rattle.octets.specs.Bytes.{Bytes}
use Rattle.line.specs.Line.{Line, Puts, Drops}

-- `put_piece`: how many bytes were put, and every byte of the buffer
pub puts_one : (buffer : Bytes) (held : ℕ) (piece : Bytes) {count count' : ℕ} {left left' : Bytes} → Puts buffer held piece count left → Puts buffer held piece count' left' → (count ≡ count') × (left ≡ left')
puts_one buffer held piece A B =
    let e = A ∙ sym B in
    let h = ap (λ (l : Line). l.held) e in
    (omega (arith, h), ap (λ (l : Line). l.buffer) e)

-- `drop_front`: how many bytes are then pending, and every byte of the buffer
pub drops_one : (buffer : Bytes) (held n : ℕ) {still still' : ℕ} {left left' : Bytes} → Drops buffer held n still left → Drops buffer held n still' left' → (still ≡ still') × (left ≡ left')
drops_one buffer held n A B = let e = A ∙ sym B in (ap (λ (l : Line). l.held) e, ap (λ (l : Line). l.buffer) e)
