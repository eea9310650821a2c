-- Where the body of a frame lies: behind its mark, its length and `|`, and before its trailer of seven bytes. Assumes nothing.
use Prim.Native.Nat.{ℕ, ◌+◌, ◌-◌, ◌≤◌}
use mathlib.Core.Path.{◌≡◌, refl, ap, ◌∙◌}
use mathlib.Core.List.{[], ◌∷◌, ◌++◌}
use native.Mathlib.Omega.{arith}
use lib.ListN.{length, length-append}
use Rattle.octets.specs.Bytes.{Bytes, fix}
use Rattle.frame.specs.Frame.{fixt, front, Good, BodyOf}
use Rattle.frame.specs.Frame as Frame
use Rattle.frame.proofs.Good.{good_length, same_digits, good_body}
use Rattle.gateway.specs.Border.{BodyOut, its_body}

-- a good frame has one body, at one place
pub same_lengths : (f : Bytes) (G H : Good fixt f) → ◌≡◌ {A = ℕ × ℕ} (length (front fixt G.digits []), length G.body) (length (front fixt H.digits []), length H.body)
same_lengths f G H =
    rw (same_digits fixt f f [] [] G H refl, good_body fixt f G H)

module _ {f : Bytes} (G : Good fixt f) where
  front_length : length (front fixt G.digits []) ≡ length fixt.mark + (length G.digits + 1)
  front_length = length-append fixt.mark (G.digits ++ fix "|") ∙ ap (λ (n : ℕ). length fixt.mark + n) (length-append G.digits (fix "|"))

  frame_length : length f ≡ length (front fixt G.digits []) + (length G.body + 7)
  frame_length = let a = good_length fixt f G in let b = front_length in let d = G.inner.sized in omega (arith, a, b, d)

pub body-room : {f b : Bytes} → BodyOf fixt f b → length b + 7 ≤ length f
body-room (Frame.its_body G) = let a = frame_length G in omega (arith, a)

pub body-found : {f b : Bytes} → BodyOf fixt f b → BodyOut f 0 ((length f - (length b + 7)) ∷ length b ∷ [])
body-found {f} (Frame.its_body G) =
    let a = frame_length G in
    let e : length f - (length G.body + 7) ≡ length (front fixt G.digits []) = omega (arith, a) in
    rw e (its_body G)
