-- `put_piece`: i bytes have been put.
use Rattle.std.specs.Prelude.{◌≡◌, length}
use Rattle.std.proofs.Math.Seq.{paste}
use Rattle.line.proofs.put_piece.Given as goal

abbrev pub invariant-loop-i : goal.invariant-loop-i
invariant-loop-i l = record {
  long : length l.buf ≡ length l.initial.buf;
  bytes : l.buf ≡ paste l.initial.buf l.held l.piece l.i;
}
