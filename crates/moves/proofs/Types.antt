-- The type of a body, as the code compares it with one of the ten.
-- Assumes nothing.
use mathlib.Core.Path.{◌≡◌, refl, sym, ◌∙◌}
use mathlib.Core.Bool.{Bool, true, false, not}
use mathlib.Core.Option as Math
use Rattle.std.specs.Prelude.{Option, Some}
use Rattle.std.specs.Option.{option_eq}
use Rattle.octets.specs.Bytes.{Bytes, same, all}
use Rattle.table.specs.declared.MsgType.{MsgType}
use Rattle.table.specs.Dictionary.{the_ten, code35}
use Rattle.table.specs.code.Held.{agree}
use Rattle.table.proofs.Lists.{all_ten, agree_true}
use Rattle.moves.specs.Seen.{is_it, code_of}
use Rattle.moves.specs.code.Reads.{told}

-- by a test of types that says of each of the ten what its code says
module _ (E : MsgType → MsgType → Bool) (m : MsgType) (t : Bytes) (h : all (λ (n : MsgType). agree (E n m) (same (code35 n) t)) the_ten ≡ true) where
  pub kind_is : (o : Math.Option MsgType) {k : Option MsgType} {b : Bool} → k ≡ told o → b ≡ option_eq E k (Some m) → is_it t (code_of o) ≡ b
  kind_is Math.none e f = sym (f ∙ rw e refl)
  kind_is (Math.some n) e f = sym (f ∙ rw e (agree_true _ _ (all_ten (λ (n : MsgType). agree (E n m) (same (code35 n) t)) h n)))

  pub kind_not : (o : Math.Option MsgType) {k : Option MsgType} {b : Bool} → k ≡ told o → b ≡ not (option_eq E k (Some m)) → is_it t (code_of o) ≡ not b
  kind_not o {k = k} e f = kind_is o e refl ∙ back (option_eq E k (Some m)) f
    where
      back : (x : Bool) {b : Bool} → b ≡ not x → x ≡ not b
      back true f = rw f refl
      back false f = rw f refl
