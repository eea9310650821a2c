-- The number of parties, and zeros behind theirs.
use native.Mathlib.Omega.{arith}
use Prim.Native.Nat.{ℕ, ◌+◌, ◌-◌, ◌*◌}
use mathlib.Core.Path.{ap, ◌∙◌}
use lib.ListN.{set, replicate}
use Rattle.octets.proofs.Lists.{part_length}
use Rattle.readback.proofs.Clearing.{eight_parties, numbered_long, finished, least_of_three}
use Rattle.readback.proofs.noting.finish.Goals as goal

pub returns : goal.returns
returns c =
    let a = c.args in
    let n = c.min-parties.result in
    let Z = least_of_three _ _ _ _ n c.min.ensures c.min-parties.ensures in
    let few = eight_parties a.body.now a.words.now a.had.now c.requires n Z in
    let long = numbered_long a.body.now a.words.now a.had.now c.requires n Z in
    let k = part_length (set a.words.now 33 n) (34 + 6 * n) (82 - (34 + 6 * n)) (omega (arith, long, few)) in
    finished a.body.now a.words.now a.had.now c.requires n Z (82 - (34 + 6 * n)) _ (omega (arith, few)) (c.fill.ensures.after (λ y e. e) ∙ ap (λ (i : ℕ). replicate i 0) k)
