-- `put_bytes`: the first i bytes stand there.
use Rattle.std.proofs.Common.{◌≡◌, ◌+◌, length, take}
use Rattle.message.specs.Wrote.{Wrote}
use Rattle.message.proofs.put_bytes.Given as goal

abbrev pub invariant-loop-i : goal.invariant-loop-i
invariant-loop-i l = (length l.buf ≡ length l.initial.buf) × Wrote l.initial.buf l.buf l.at (l.at + l.i) (take l.i l.s)
