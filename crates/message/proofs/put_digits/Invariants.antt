-- `put_digits`: the digits from the right; those that are still to come are the last ones of what is left of the number.
use Prim.Native.Nat.{◌/◌, ◌^◌}
use mathlib.Core.Path.{◌≡◌}
use Rattle.octets.specs.Bytes.{padded}
use Rattle.message.proofs.Leftward.{Left}
use Rattle.message.proofs.put_digits.Given as goal

abbrev pub invariant-loop-i : goal.invariant-loop-i
invariant-loop-i l = Left l.initial.buf l.buf (padded l.k l.n) l.at l.i l.rest × (l.rest / 10 ^ l.i ≡ l.n / 10 ^ l.k)
