-- The reading back has one outcome: any two that its contract allows are equal in all that the call answers and leaves.
use Prim.Native.Nat.{ℕ}
use mathlib.Core.Path.{◌≡◌, sym, ◌∙◌}
use mathlib.Core.List.{List}
use Rattle.octets.specs.Bytes.{Bytes}
use Rattle.readback.specs.Back.{Reads}
use Rattle.dictionary.specs.Verdict.{Verdict}

-- `report_values`: the answer and every word
pub reads_one : {body : Bytes} {r r' : Verdict} {words words' : List ℕ} → Reads body r words → Reads body r' words' → (r ≡ r') × (words ≡ words')
reads_one A B = (A.answer ∙ sym B.answer, A.words_are ∙ sym B.words_are)
