-- The type that a call names, and the tables by which the code looks its tags up: each is tied to the definitions by a computed test.
use Prim.Native.Nat.{ℕ}
use native.Mathlib.Omega.{arith}
use mathlib.Core.Path.{◌≡◌, refl, sym, ap, ◌∙◌}
use mathlib.Core.Bool.{Bool, true, false, cond, ◌&&◌}
use mathlib.Core.Option.{Option, none, some}
use Rattle.octets.specs.Bytes.{Bytes}
use Rattle.octets.proofs.Tests.{both, all_below, at_below}
use Rattle.table.specs.declared.MsgType.{MsgType}
use Rattle.table.specs.Dictionary.{code35, the_ten, type_among, type_of, named, type_is, rows_of, listed, administrative}
use Rattle.table.specs.code.Held.{agree}
use Rattle.table.proofs.Lists.{agree_true}
use Rattle.table.proofs.Types.{type_coded, named_is}
use Rattle.std.specs.Prelude as Given
use Rattle.std.specs.Bool.{then_some}
use Rattle.writer.specs.Call.{if_administrative, admin}
use Rattle.message.specs.Unfit.{required}
use Rattle.std.specs.Prelude.{Some, None}
use Rattle.writer.specs.declared.types.Marks.{Marks}
use Rattle.writer.specs.code.Held.{bit_of, tag_at, Marked}

-- THE TYPE
-- none of the ten
pub type_none : (v : Bytes) {r : Given.Option MsgType} → r ≡ named (type_of v) → r ≡ None → {x : Given.Option MsgType} → x ≡ None → type_is x ≡ admin v
unfolding admin
type_none v e q x = ap type_is x ∙ ap if_administrative (sym (ap type_is q) ∙ ap type_is e ∙ named_is (type_of v))

-- one of the ten
pub type_some : (v : Bytes) {r : Given.Option MsgType} (m : MsgType) → r ≡ named (type_of v) → r ≡ Some m → {b : Bool} → b ≡ administrative m → type_is (then_some b m) ≡ admin v
unfolding admin
type_some v m e q f = ap (λ (b : Bool). type_is (then_some b m)) f ∙ go (administrative m) refl ∙ ap if_administrative (sym (ap type_is q) ∙ ap type_is e ∙ named_is (type_of v))
  where
    go : (b : Bool) → administrative m ≡ b → type_is (then_some b m) ≡ if_administrative (some m)
    go true a = rw a
    go false a = rw a

-- the type's bytes are the code of the message, which is one of the seven
pub record Named (m : MsgType) (v : Bytes) : Type 0 where
  pub administers : administrative m ≡ true
  pub coded : v ≡ code35 m

pub named_by : (v : Bytes) (m : MsgType) → some m ≡ admin v → Named m v
unfolding admin type_of
named_by v m e = go (type_among the_ten v) refl e
  where
    inner : (n : MsgType) (b : Bool) → administrative n ≡ b → type_among the_ten v ≡ some n → some m ≡ cond b (some n) none → Named m v
    inner n true a k e = let q : m ≡ n = cc in record { administers = ap administrative q ∙ a; coded = type_coded v m (k ∙ ap some (sym q)) }
    inner n false a k e = let z : ◌≡◌ {A = ℕ} 0 1 = cc in absurd (omega arith)

    go : (o : Option MsgType) → type_among the_ten v ≡ o → some m ≡ if_administrative o → Named m v
    go none k e = let z : ◌≡◌ {A = ℕ} 0 1 = cc in absurd (omega arith)
    go (some n) k e = inner n (administrative n) refl k e

-- THE TABLES
-- the marks of a message, by a test at each place
unfoldable pub right_at : MsgType → Marks → ℕ → Bool
right_at m r k = agree (bit_of r.own k) (listed (rows_of m) (tag_at k)) && agree (bit_of r.needed k) (required m (tag_at k))

pub marked : (m : MsgType) (r : Marks) → all_below 21 (right_at m r) ≡ true → Marked m r
unfolding right_at
marked m r h =
    record {
      own = λ k l. agree_true _ _ (both _ _ (at_below 21 (right_at m r) h k l)).0;
      needed = λ k l. agree_true _ _ (both (agree (bit_of r.own k) (listed (rows_of m) (tag_at k))) _ (at_below 21 (right_at m r) h k l)).1;
    }
