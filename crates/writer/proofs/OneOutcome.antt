-- Every call of the writer has one outcome: any two that its contract allows, for the same input, are equal in all that the call answers and leaves.
use mathlib.Core.Path.{◌≡◌, sym, ap, ◌∙◌}
use Rattle.octets.specs.Bytes.{Bytes}
use Rattle.writer.specs.Call.{Values, Written, Outcome, Writes}

-- the writer call: its answer and every byte of the buffer
pub writes_one : (type : Bytes) (vs : Values) (text buf : Bytes) {r r' : Written} {a a' : Bytes} → Writes type vs text buf r a → Writes type vs text buf r' a' → (r ≡ r') × (a ≡ a')
writes_one type vs text buf A B = let e = A ∙ sym B in (ap (λ (o : Outcome). o.answer) e, ap (λ (o : Outcome). o.buffer) e)
