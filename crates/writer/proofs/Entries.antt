-- One value of a call, as the code holds it: what it stands for, and what was put for it.
use Prim.Native.Nat.{ℕ, ◌-◌, ◌≤◌, ◌<◌}
use mathlib.Core.Path.{◌≡◌, refl, sym, ap, ◌∙◌, subst}
use mathlib.Core.List.{[]}
use mathlib.Core.Bool.{Bool, true, false, cond, ◌&&◌}
use mathlib.Core.Option.{Option, none, some}
use lib.Dec.{leb}
use lib.ListN.{length, take, drop}
use borrow.Author.Tests.{le-leb, lt-leb, not-false}
use Rattle.octets.specs.Bytes.{Bytes, decimal}
use Rattle.kinds.specs.Kind.{Kind}
use Rattle.kinds.specs.Judged.{meaning}
use Rattle.table.specs.declared.MsgType.{MsgType}
use Rattle.table.specs.Dictionary.{rows_of, listed, kind_in}
use Rattle.message.specs.Message.{Value, number, bytes, shown, tagged}
use Rattle.writer.specs.Tags.{is_numeric}
use Rattle.message.specs.Message.{part}
use Rattle.message.specs.Unfit.{unwritable}
use Rattle.message.specs.Wrote.{Wrote}
use Rattle.std.specs.Prelude as Given
use Rattle.std.specs.Prelude.{Some, None}
use Rattle.writer.specs.declared.Given.{Given}
use Rattle.writer.specs.declared.types.Entry.{Entry}
use Rattle.writer.specs.code.Held.{Holds, value_by, value_of, PutText, PutOne}
use Rattle.message.specs.code.Writable.{unwritten}
use Rattle.message.proofs.Writes.{nothing}
use Rattle.message.proofs.Fitness.{fit_empty}
use Rattle.writer.proofs.Fitness.{rejected_is, rejected_other}

-- what was put for the bytes of a value was put for the value
put_value : (m : MsgType) (t : ℕ) (o : Option Bytes) (w : Bytes) {k : Kind} {d d' : Bytes} {at : ℕ} → o ≡ some w → listed (rows_of m) t ≡ true → k ≡ kind_in (rows_of m) t
    → (to : ℕ) → (unwritten k w ≡ false) × Wrote d d' at to (tagged t (some w)) → (unwritable m t o ≡ false) × Wrote d d' at to (tagged t o)
put_value m t o w {k} {d} {d'} {at} e l q to P =
    subst (λ (x : Option Bytes). (unwritable m t x ≡ false) × Wrote d d' at to (tagged t x)) (sym e) (rejected_is m t w l q ∙ P.0, P.1)

no_value : (m : MsgType) (t : ℕ) (o : Option Bytes) (w : Bytes) {k : Kind} → o ≡ some w → listed (rows_of m) t ≡ true → k ≡ kind_in (rows_of m) t → unwritten k w ≡ true
    → unwritable m t o ≡ true
no_value m t o w e l q u = ap (unwritable m t) e ∙ rejected_is m t w l q ∙ u

module _ (m : MsgType) (e : Entry) (s : Bytes) (H : Holds m e) where
  abbrev value : Value
  value = value_of e s

  module _ (x : Given) (g : e.value ≡ Some x) where
    is_number : is_numeric (meaning e.kind) ≡ true → shown value ≡ some (decimal x.a)
    is_number i = ap (λ (o : Given.Option Given). shown (value_by (meaning e.kind) s o)) g ∙ ap (λ (b : Bool). shown (cond b (number x.a) (bytes (part s x.a x.b)))) i

    is_part : is_numeric (meaning e.kind) ≡ false → shown value ≡ some (part s x.a x.b)
    is_part i = ap (λ (o : Given.Option Given). shown (value_by (meaning e.kind) s o)) g ∙ ap (λ (b : Bool). shown (cond b (number x.a) (bytes (part s x.a x.b)))) i

  is_absent : e.value ≡ None → shown value ≡ none
  is_absent g = ap (λ (o : Given.Option Given). shown (value_by (meaning e.kind) s o)) g

  -- A VALUE THAT IS GIVEN, for a tag that the message has
  module _ (x : Given) (g : e.value ≡ Some x) (o : e.own ≡ true) where
    has_tag : listed (rows_of m) e.tag ≡ true
    has_tag = sym H.own ∙ o

    pub put_number : (d d' : Bytes) (at : ℕ) (r : Given.Option ℕ) → is_numeric (meaning e.kind) ≡ true → PutText (meaning e.kind) e.tag (decimal x.a) d d' at r
        → PutOne m e.tag value d d' at r
    put_number d d' at (Some to) i P = put_value m e.tag (shown value) (decimal x.a) (is_number x g i) has_tag (H.kind has_tag) to P
    put_number d d' at None i P = no_value m e.tag (shown value) (decimal x.a) (is_number x g i) has_tag (H.kind has_tag) P

    -- bytes that lie in the text
    inside : is_numeric (meaning e.kind) ≡ false → x.a ≤ x.b → x.b ≤ length s → shown value ≡ some (take (x.b - x.a) (drop x.a s))
    inside i l h =
        is_part x g i
        ∙ ap (λ (b : Bool). some (cond (b && leb x.b (length s)) (take (x.b - x.a) (drop x.a s)) [])) (le-leb x.a x.b l)
        ∙ ap (λ (b : Bool). some (cond b (take (x.b - x.a) (drop x.a s)) [])) (le-leb x.b (length s) h)

    pub put_part : (d d' : Bytes) (at : ℕ) (r : Given.Option ℕ) → is_numeric (meaning e.kind) ≡ false → x.a ≤ x.b → x.b ≤ length s
        → PutText (meaning e.kind) e.tag (take (x.b - x.a) (drop x.a s)) d d' at r → PutOne m e.tag value d d' at r
    put_part d d' at (Some to) i l h P = put_value m e.tag (shown value) _ (inside i l h) has_tag (H.kind has_tag) to P
    put_part d d' at None i l h P = no_value m e.tag (shown value) _ (inside i l h) has_tag (H.kind has_tag) P

    -- a place that the text does not have
    outside : is_numeric (meaning e.kind) ≡ false → part s x.a x.b ≡ [] → unwritable m e.tag (shown value) ≡ true
    outside i n = no_value m e.tag (shown value) [] (is_part x g i ∙ ap some n) has_tag (H.kind has_tag) (not-false _ (sym (fit_empty (meaning e.kind) [] refl)))

    pub backwards : is_numeric (meaning e.kind) ≡ false → x.b < x.a → unwritable m e.tag (shown value) ≡ true
    backwards i l =
        outside i (ap (λ (b : Bool). cond (b && leb x.b (length s)) (take (x.b - x.a) (drop x.a s)) []) (lt-leb x.a x.b l))

    pub beyond : is_numeric (meaning e.kind) ≡ false → x.a ≤ x.b → length s < x.b → unwritable m e.tag (shown value) ≡ true
    beyond i l h =
        outside i
        (ap (λ (b : Bool). cond (b && leb x.b (length s)) (take (x.b - x.a) (drop x.a s)) []) (le-leb x.a x.b l)
        ∙ ap (λ (b : Bool). cond b (take (x.b - x.a) (drop x.a s)) []) (lt-leb x.b (length s) h))

  -- a value for a tag that the message has not
  pub not_own : (x : Given) → e.value ≡ Some x → e.own ≡ false → unwritable m e.tag (shown value) ≡ true
  not_own x g o = go (is_numeric (meaning e.kind)) refl
    where
      go : (b : Bool) → is_numeric (meaning e.kind) ≡ b → unwritable m e.tag (shown value) ≡ true
      go true i = ap (unwritable m e.tag) (is_number x g i) ∙ rejected_other m e.tag (decimal x.a) (sym H.own ∙ o)
      go false i = ap (unwritable m e.tag) (is_part x g i) ∙ rejected_other m e.tag (part s x.a x.b) (sym H.own ∙ o)

  -- none given
  pub missing : e.value ≡ None → e.needed ≡ true → unwritable m e.tag (shown value) ≡ true
  missing g n = ap (unwritable m e.tag) (is_absent g) ∙ sym H.needed ∙ n

  pub left_out : (d : Bytes) (at : ℕ) → e.value ≡ None → e.needed ≡ false → PutOne m e.tag value d d at (Some at)
  left_out d at g n =
      subst (λ (o : Option Bytes). (unwritable m e.tag o ≡ false) × Wrote d d at at (tagged e.tag o)) (sym (is_absent g)) (sym H.needed ∙ n, nothing)
