-- Whether a value is fit, test by test as the code looks at it.
use mathlib.Core.Path.{◌≡◌, refl}
use mathlib.Core.Bool.{Bool, true, false, not, ◌||◌}
use lib.ListN.{length}
use borrow.Author.Tests.{eq-eqb, ne_eqb}
use Rattle.octets.specs.Bytes.{Bytes, has}
use Rattle.kinds.specs.Kind.{Kind, formed, allowed}
use Rattle.std.specs.Prelude.{Result, Ok, Err, is_ok}
use Rattle.dates.specs.Date.{found}
use Rattle.fault.specs.Fault.{reason}
use Rattle.fault.specs.declared.Fault.{Fault}
use Rattle.fault.specs.declared.Fault.TheVariants.{Value, Form}
use native.Mathlib.Omega.{arith}
use Rattle.kinds.specs.Judged.{judged}
use Rattle.message.specs.code.Writable.{unwritten}

pub fit_empty : (k : Kind) (v : Bytes) → length v ≡ 0 → false ≡ not (unwritten k v)
unfolding unwritten
fit_empty k v n = rw (eq-eqb (length v) 0 n)

pub fit_bar : (k : Kind) (v : Bytes) {b : Bool} → (length v ≡ 0 → ⊥) → b ≡ has v 1 → b ≡ true → false ≡ not (unwritten k v)
unfolding unwritten
fit_bar k v n e h = rw (ne_eqb (length v) 0 n, ← e, h)

pub fit_judged : (k : Kind) (v : Bytes) {b : Bool} (r : Result (Unit {0}) Fault) → (length v ≡ 0 → ⊥) → b ≡ has v 1 → b ≡ false → reason r ≡ judged k v → is_ok r ≡ not (unwritten k v)
unfolding unwritten judged
fit_judged k v r n e h j = rw (ne_eqb (length v) 0 n, ← e, h) (go (formed k v) (allowed k v) r j)
  where
    go : (a b : Bool) (r : Result (Unit {0}) Fault) → reason r ≡ found a b → is_ok r ≡ not (not a || not b)
    go true true (Ok u) q = refl
    go true true (Err Value) q = absurd (omega (arith, q))
    go true true (Err Form) q = absurd (omega (arith, q))
    go true false (Ok u) q = absurd (omega (arith, q))
    go true false (Err f) q = refl
    go false b (Ok u) q = absurd (omega (arith, q))
    go false b (Err f) q = refl
