-- `read`: the part that the numbers name.
use Rattle.std.proofs.Common.{◌≡◌, ℕ, ◌+◌, ◌-◌, take, drop, sym, subst, arith}
use Rattle.frame.specs.Frame.{fixt}
use Rattle.frame.specs.Reading.{HandedOut}
use Rattle.frame.proofs.Unique.{found_part}
use Rattle.frame.proofs.read.Goals as goal

pub returns-then-len-eq0 : goal.returns-then-len-eq0
unfolding fixt
returns-then-len-eq0 c = c.read_with-len.ensures.none c.if-len-eq0.true

pub returns : goal.returns
unfolding fixt
returns c =
    let s = c.args.s.now in
    let p = c.read_with-len.new.at in
    let n = c.read_with-len.result in
    let e : p + n - p ≡ n = omega arith in
    subst (λ (k : ℕ). HandedOut fixt s (take k (drop p s)) p) (sym e) (found_part fixt s p n (c.read_with-len.ensures.frame (omega arith)))
