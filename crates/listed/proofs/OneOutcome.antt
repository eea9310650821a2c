-- Whether bytes are a report's own fields has one answer. Assumes nothing.
use mathlib.Core.Path.{◌≡◌, refl, sym}
use mathlib.Core.Bool.{Bool, true, false}
use Rattle.octets.specs.Bytes.{Bytes}
use Rattle.listed.specs.code.Listed.{Listed}

pub listed_one : {l : Bytes} {a b : Bool} → Listed l a → Listed l b → a ≡ b
listed_one {a = true} A B =
    let v = A.yes refl in sym (B.no v.0 v.1.0 v.1.1)
listed_one {a = false} {b = true} A B =
    let v = B.yes refl in A.no v.0 v.1.0 v.1.1
listed_one {a = false} {b = false} A B = refl
