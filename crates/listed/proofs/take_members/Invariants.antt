-- `take_members`: whatever the other parties are, those passed stand in front of them.
use Rattle.std.proofs.Common.{◌-◌}
use mathlib.Core.Option.{Option}
use Rattle.octets.specs.Bytes.{Bytes}
use Rattle.listed.specs.code.Taken.{Took, anything, Parties}
use Rattle.listed.proofs.take_members.Given as goal

abbrev pub invariant-loop-i : goal.invariant-loop-i
invariant-loop-i l = (r : Option Bytes) → Took (Parties (l.n - l.i)) anything l.left r → Took (Parties l.n) anything l.s r
