-- What the code reads of a body is what the moves read of it.
-- Assumes nothing.
use Prim.Native.Nat.{ℕ, ◌≤◌}
use mathlib.Core.Path.{◌≡◌, refl, ap, ◌∙◌}
use mathlib.Core.Bool.{Bool, true, false, ◌&&◌, false≢true}
use mathlib.Core.Option.{Option, none, some}
use borrow.Author.Tests.{leb-true}
use Rattle.octets.specs.Bytes.{Bytes, within, value}
use Rattle.octets.proofs.Tests.{both}
use Rattle.std.specs.Prelude.{IfSome, Ok, Err}
use Rattle.fields.specs.Field.{first_field}
use Rattle.fields.specs.First.{Place, First, value_at}
use Rattle.kinds.specs.Kind.{is_number}
use Rattle.dictionary.specs.Verdict.{Verdict, Clean}
use Rattle.moves.specs.Words.{◌when◌}
use Rattle.moves.specs.Seen.{number_in, is_clean}
use Rattle.moves.specs.code.Reads.{told}

-- ITS VALUE is that of the words
pub value_at_lem : {t : ℕ} {body : Bytes} {r p : Place} → within 1 99_999 t ≡ true → First t body r → r ≡ p → value_at body p ≡ first_field t body
value_at_lem {body = body} w F e = ap (value_at body) (rw e refl) ∙ F.value w

-- A NUMBER that is read keeps its bound
pub told_small : (least : ℕ) (o : Option Bytes) → IfSome (told (number_in least 999_999_999 o)) (λ n. n ≤ 999_999_999)
told_small least none = tt
told_small least (some v) = go (is_number v && within least 999_999_999 (value v)) refl
  where
    go : (b : Bool) → (is_number v && within least 999_999_999 (value v)) ≡ b → IfSome (told (value v when b)) (λ n. n ≤ 999_999_999)
    go true e = leb-true _ _ (both _ _ (both _ _ e).1).1
    go false e = tt

-- THE VERDICT
pub is_clean_lem : (v : Verdict) → is_clean v ≡ true → v ≡ Clean
is_clean_lem (Ok _) e = refl
is_clean_lem (Err u) e = absurd (false≢true e)
