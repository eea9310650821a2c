-- `put_head`: six fields one behind the other.
use Prim.Native.Nat.{ℕ}
use mathlib.Core.Path.{ap}
use mathlib.Core.List.{[], ◌∷◌}
use mathlib.Core.Option.{Option, some}
use Rattle.octets.specs.Bytes.{Bytes}
use Rattle.message.specs.Message.{tagged}
use Rattle.message.proofs.Writes.{chain, nothing, reword}
use Rattle.replies.proofs.head.put_head.Goals as goal

pub returns-clause-bytes : goal.returns-clause-bytes
returns-clause-bytes c =
    let code = ap (λ (x : ℕ). tagged 35 (some (x ∷ []))) c.begins-code.ensures.code in
    let duplicate = ap (λ (o : Option Bytes). tagged 43 o) c.begins-code.ensures.duplicate in
    chain (reword code c.put_field-a.ensures.bytes)
    (chain c.put_field-b.ensures.bytes
    (chain c.put_field-c.ensures.bytes (chain c.put_field-d.ensures.bytes (chain (reword duplicate c.put_optional-e.ensures.bytes) (chain c.put_field.ensures.bytes nothing)))))
