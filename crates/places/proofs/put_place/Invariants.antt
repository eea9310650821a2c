-- `put_place`: the first k bytes of the message stand there.
use Rattle.std.proofs.Common.{◌≡◌, length, take}
use Rattle.std.proofs.Math.Seq.{sets}
use Rattle.places.proofs.put_place.Given as goal

abbrev pub invariant-loop-k : goal.invariant-loop-k
invariant-loop-k l = (length l.store ≡ length l.initial.store) × (l.store ≡ sets l.initial.store l.at (take l.k l.m))
