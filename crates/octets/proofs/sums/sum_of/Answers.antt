-- `sum_of`: t is the sum of the bytes passed, and each of them is at most 255.
use Rattle.std.proofs.Common.{◌≡◌, ℕ, ◌+◌, ◌-◌, ◌<◌, ◌≤◌, length, take, drop, get_or, ap, ◌∙◌, get_or-take, get_or-drop, arith}
use Rattle.octets.specs.Bytes.{Bytes, sum}
use Rattle.octets.proofs.Parts.{sum_more}
use Rattle.octets.proofs.sums.sum_of.Goals as goal

-- one byte more
further : (s : Bytes) (at n i t b : ℕ) → at + n ≤ length s → i < n → b ≡ get_or (take (at + n - at) (drop at s)) i 0 → t ≡ sum (take i (drop at s))
    → t + b ≡ sum (take (i + 1) (drop at s))
further s at n i t b h l e f =
    let k : at + n - at ≡ n = omega arith in
    let x : b ≡ get_or s (at + i) 0 = e ∙ ap (λ (j : ℕ). get_or (take j (drop at s)) i 0) k ∙ get_or-take n (drop at s) i 0 l ∙ get_or-drop at s i 0 in
    let m = sum_more s at i (omega arith) in
    cc

pub loop-x-preserved : goal.loop-x-preserved
loop-x-preserved c =
    let l = c.loop-x in
    let a = c.args in
    (further a.s.now a.at a.n l.x-index l.t _ (omega arith) (omega arith) c.from-t.ensures l.invariant.0, omega arith)
