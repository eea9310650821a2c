-- `row`: the digits so far are digits, and v is what they are worth.
use Rattle.std.proofs.Common.{◌≡◌, ℕ, ◌+◌, ◌^◌, ◌<◌, get_or, take, drop}
use Rattle.octets.specs.Bytes.{value, Digit}
use Rattle.octets.proofs.numbers.row.Given as goal

abbrev pub invariant-loop-c : goal.invariant-loop-c
invariant-loop-c l =
    ((k : ℕ) → k < l.c → Digit (get_or l.s (l.at + k) 0)) × ((l.v ≡ value (take l.c (drop l.at l.s))) × (l.v < 10 ^ l.c))
