-- `stands_around`: no room before j or behind it, or a comparison.
use Rattle.std.proofs.Common.{◌≡◌, ℕ, ◌-◌, T, sym, subst, arith}
use Rattle.octets.specs.Bytes.{At}
use Rattle.octets.proofs.find.stands_around.Goals as goal

pub returns-then-j-lt4 : goal.returns-then-j-lt4
returns-then-j-lt4 c = record { found = λ t. absurd (subst T (sym t) tt); none = λ t q h k l A. omega arith }

pub returns-then-q-a : goal.returns-then-q-a
returns-then-q-a c = record { found = λ t. absurd (subst T (sym t) tt); none = λ t q h k l A. omega arith }

pub returns-then-e-q : goal.returns-then-e-q
returns-then-e-q c = record { found = λ t. absurd (subst T (sym t) tt); none = λ t q h k l A. omega arith }

pub returns : goal.returns
returns c =
    let a = c.args in
    let M = c.stands.ensures in
    record {
      found = λ t. (omega arith, record { low = omega arith; high = omega arith; there = M.found t });
      none = λ t q h k l A.
          let e : q ≡ a.j - 4 = omega arith in
          M.none t (subst (λ (x : ℕ). At a.s.now x a.lit.now) e A);
    }
