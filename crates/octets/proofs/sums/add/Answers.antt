-- `add`: the bytes added are those behind the place.
use Rattle.std.proofs.Common.{ℕ, ◌+◌, take, sym, refl, ap, ◌∙◌}
use Rattle.octets.specs.Bytes.{sum}
use Rattle.octets.proofs.Parts.{sum-part, sum_step}
use Rattle.octets.proofs.sums.add.Goals as goal

pub returns : goal.returns
returns c =
    let a = c.args in
    let s = a.s.now in
    let at = a.front.at in
    let e = sum-part s at a.n ∙ ap (λ (k : ℕ). sum (take at s) + k) (sym c.sum_of-more.ensures) in
    (sum_step _ _ _ _ _ c.requires.0 refl e, refl)
