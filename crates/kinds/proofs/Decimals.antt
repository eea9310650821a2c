-- The finding on a decimal, by what was read.
use Rattle.std.proofs.Common.{Result, Ok, Err}
use mathlib.Core.Path.{◌≡◌, refl, ap, ◌∙◌}
use mathlib.Core.Bool.{Bool, true, false, cond}
use lib.ListN.{length}
use Rattle.octets.specs.Bytes.{Bytes}
use Rattle.decimals.specs.Decimal.{is_decimal, whole_of, places_of, in_range, decimal_of}
use Rattle.decimals.specs.declared.Decimal.{Decimal}
use Rattle.fault.specs.declared.Fault.{Fault}
use Rattle.fault.specs.declared.Fault.TheVariants.{Value, Form}
use Rattle.fault.specs.Fault.{reason}
use Rattle.kinds.specs.Kind.{decimal, formed, allowed}
use Rattle.kinds.specs.Judged.{judged}

-- without the decimal, whether it is one
abbrev pub outcome : Result Decimal Fault → Result (Unit {0}) Fault
outcome (Ok d) = Ok tt
outcome (Err e) = Err e

pub decimal-judged : (v : Bytes) {r : Result Decimal Fault} → r ≡ decimal_of v → reason (outcome r) ≡ judged decimal v
unfolding judged formed allowed decimal_of
decimal-judged v e = ap (λ (r : Result Decimal Fault). reason (outcome r)) e ∙ go (is_decimal v) (in_range (whole_of v) (length (places_of v)))
  where
    go : (f a : Bool) → reason (outcome (cond f (cond a (Ok (record { whole = whole_of v; places = length (places_of v) })) (Err Value)) (Err Form))) ≡ cond f (cond a 0 5) 6
    go true true = refl
    go true false = refl
    go false a = refl
