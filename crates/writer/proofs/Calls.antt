-- The writer call as the code makes it: the body, the frame in the buffer, and which of the three outcomes it is.
use Prim.Native.Nat.{ℕ, ◌+◌, ◌≤◌, ◌<◌}
use native.Mathlib.Nat.{zero-add}
use native.Mathlib.Omega.{arith}
use mathlib.Core.Path.{◌≡◌, sym, ap, ◌∙◌, subst}
use mathlib.Core.List.{◌∷◌, ◌++◌}
use mathlib.Core.Bool.{Bool, true, false, cond}
use mathlib.Core.Option.{Option}
use lib.ListN.{length, drop}
use borrow.Author.Tests.{lt-ltb, le-ltb}
use Rattle.octets.specs.Bytes.{Bytes, decimal}
use Rattle.table.specs.declared.MsgType.{MsgType}
use Rattle.table.specs.Dictionary.{code35, administrative, type_is}
use Rattle.message.specs.Message.{Value, bytes, ◌is◌, field, row, framed, valued, order, message, written}
use Rattle.writer.specs.Tags.{tags}
use Rattle.std.specs.Prelude as Given
use Rattle.std.specs.Prelude.{Some, None}
use Rattle.writer.specs.Call.{Values, value_in, refused8, admin, Message, Unfit, Short, Outcome, refusing, fitted, write_as, write}
use Rattle.message.specs.Wrote.{Wrote}
use Rattle.writer.specs.code.Held.{PutAll, PutBody}
use Rattle.message.proofs.Writes.{chain, reword, spliced}
use Rattle.message.proofs.Frames.{framed-length}
use Rattle.message.proofs.Sizes.{all_fine, body_length}
use Rattle.writer.proofs.Tagged.{all_tags, tags-short}

-- THE BODY
pub body_put : (m : MsgType) → administrative m ≡ true → (vs : ℕ → Value) (v d d₁ d₂ : Bytes) (at : ℕ) → v ≡ code35 m → Wrote d d₁ 0 at (field (35 is bytes v))
    → (r : Given.Option ℕ) → PutAll m vs d₁ d₂ at r → PutBody m vs d d₂ r
unfolding refused8
body_put m a vs v d d₁ d₂ at e w (Some to) P =
    let f = all_fine m vs tags P.0 in
    let x = chain w (reword (all_tags m a vs f) P.1) in
    let y = subst (λ (c : Bytes). Wrote d d₂ 0 to (row (35 is bytes c ∷ valued vs (order m)))) e x in
    (P.0, omega (arith, y.next, body_length m a vs, ap length (all_tags m a vs f), tags-short m a vs f), y)
body_put m a vs v d d₁ d₂ at e w None P = P

-- the answer by its case
pub body-told : {r r' : Given.Option ℕ} → r ≡ r' → (m : MsgType) (vs : ℕ → Value) (d d' : Bytes) → PutBody m vs d d' r → PutBody m vs d d' r'
body-told e m vs d d' P = subst (λ (x : Given.Option ℕ). PutBody m vs d d' x) e P

-- THE FRAME
module _ (b d : Bytes) (len : ℕ) (e : len ≡ length b + length (decimal (length b)) + 21) where
  pub too_short : length d < len → refusing Short d ≡ fitted (framed b) d
  too_short h = let l = framed-length b in rw (lt-ltb (length d) (length (framed b)) (omega arith))

  pub put_whole : (d' : Bytes) (to : ℕ) → len ≤ length d → Wrote d d' 0 to (framed b) → record { answer = Message len; buffer = d' } ≡ fitted (framed b) d
  put_whole d' to h w =
      let l = framed-length b in
      let q : len ≡ length (framed b) = omega arith in
      let s = spliced w (omega arith) ∙ ap (λ (n : ℕ). framed b ++ drop n d) (zero-add (length (framed b))) in
      rw (le-ltb (length d) (length (framed b)) (omega arith), q, s)

-- THE OUTCOME
module _ (v : Bytes) (vs : Values) (s d : Bytes) (r : Given.Option MsgType) (e : type_is r ≡ admin v) where
  pub other_type : r ≡ None → refusing Unfit d ≡ write v vs s d
  unfolding write
  other_type q = ap (λ (o : Option MsgType). write_as o (value_in vs s) d) (sym (ap type_is q) ∙ e)

  module _ (m : MsgType) (q : r ≡ Some m) where
    outcome : (b : Bool) → refused8 m (value_in vs s) ≡ b → cond b (refusing Unfit d) (fitted (written m (value_in vs s)) d) ≡ write v vs s d
    unfolding write
    outcome b f =
        ap (λ (x : Bool). cond x (refusing Unfit d) (fitted (written m (value_in vs s)) d)) (sym f)
        ∙ ap (λ (o : Option MsgType). write_as o (value_in vs s) d) (sym (ap type_is q) ∙ e)

    pub unfit_values : refused8 m (value_in vs s) ≡ true → refusing Unfit d ≡ write v vs s d
    unfit_values f = outcome true f

    pub fit_values : (b : Bytes) (o : Outcome) → refused8 m (value_in vs s) ≡ false → b ≡ row (message m (value_in vs s)) → o ≡ fitted (framed b) d → o ≡ write v vs s d
    unfolding written
    fit_values b o f k g = g ∙ ap (λ (x : Bytes). fitted (framed x) d) k ∙ outcome false f
