-- `put_values`: up to place k the values are fit and their fields stand one behind the other.
use mathlib.Core.Path.{◌≡◌}
use mathlib.Core.Bool.{true, false}
use lib.ListN.{take}
use Rattle.octets.specs.Bytes.{any}
use Rattle.table.specs.declared.MsgType.{MsgType}
use Rattle.table.specs.Dictionary.{administrative}
use Rattle.message.specs.Message.{row, valued}
use Rattle.writer.specs.Tags.{tags}
use Rattle.writer.specs.Call.{value_in}
use Rattle.message.specs.Unfit.{unfit}
use Rattle.message.specs.Wrote.{Wrote}
use Rattle.writer.specs.code.Held.{Marked}
use Rattle.writer.proofs.fill.put_values.Given as goal

abbrev pub invariant-loop-k : goal.invariant-loop-k
invariant-loop-k l =
    Wrote l.initial.buf l.buf l.at l.to (row (valued (value_in l.values l.text) (take l.k tags)))
    × ((m : MsgType) → administrative m ≡ true → Marked m l.marks → any (unfit m) (valued (value_in l.values l.text) (take l.k tags)) ≡ false)
