-- `frame_end`: three digits, worth 100 to 488.
use native.Mathlib.Omega.{arith}
use Prim.Native.Nat.{ℕ, ◌+◌, ◌-◌}
use mathlib.Core.Path.{◌≡◌, ap, subst}
use Rattle.std.specs.Prelude.{Some}
use Rattle.std.proofs.lemmas.Option.{none-some, same_Some}
use Rattle.octets.specs.Bytes.{decimal, At}
use Rattle.kept.proofs.Numbered.{three-digits, read-three}
use Rattle.kept.proofs.frame_end.Goals as goal

pub returns-in-100-to-488 : goal.returns-in-100-to-488
returns-in-100-to-488 c =
    let v = c.row-body.result.value in
    let N = c.row-body.ensures in
    record {
      is = λ n e.
          let w : v + 24 ≡ n = same_Some {A = ℕ} _ _ e in
          let k : v ≡ n - 24 = omega arith in
          (omega arith, omega arith, subst (λ (k : ℕ). At c.args.place.now 13 (decimal k)) k (three-digits _ 13 _ _ N (omega arith)));
      only = λ k h g A. ap (λ (x : ℕ). Some (x + 24)) (read-three _ 13 _ _ k N h (omega arith) A);
    }

pub returns-in_default : goal.returns-in_default
returns-in_default c =
    let N = c.row-body.ensures in
    record { is = λ n e. absurd (none-some {A = ℕ} _ e); only = λ k h g A. absurd (omega (arith, read-three _ 13 _ _ k N h (omega arith) A)) }

pub returns-in_default-2 : goal.returns-in_default-2
returns-in_default-2 c =
    let N = c.row-body.ensures in
    record { is = λ n e. absurd (none-some {A = ℕ} _ e); only = λ k h g A. absurd (omega (arith, read-three _ 13 _ _ k N h (omega arith) A)) }
