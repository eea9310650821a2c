-- A call gives "numbers as numbers, others as bytes": what it gives as bytes is of another kind.
use mathlib.Core.Path.{◌≡◌, refl, sym, ap, ◌∙◌}
use mathlib.Core.Bool.{Bool, true, false, cond, not, ◌||◌, false≢true}
use lib.ListN.{get_or}
use borrow.Author.Tests.{not-true}
use Rattle.octets.specs.Bytes.{Bytes, all}
use Rattle.kinds.specs.Kind as Kinds
use Rattle.kinds.specs.Kind.{Kind, text, number◌to◌, Y/N, time, day, among, kind_of}
use Rattle.table.specs.declared.MsgType.{MsgType}
use Rattle.table.specs.Dictionary.{№453, №580, №552, header, fields, code35, administrative, groups_of, rows_of, kind_in}
use Rattle.message.specs.Message.{Value, bytes, own, order, part}
use Rattle.message.proofs.Seven.{each}
use Rattle.message.proofs.Sizes.{OtherKind, GivenAs, AsNumbers}
use Rattle.writer.specs.Tags.{tags, is_numeric, numeric}
use Rattle.std.specs.Prelude as Given
use Rattle.std.specs.Prelude.{Some, None}
use Rattle.writer.specs.declared.Given.{Given}
use Rattle.writer.specs.Call.{Values, place_in, value_for, value_in}
use Rattle.writer.proofs.Tagged.{all_has}

other_kind : (k : Kind) → is_numeric k ≡ false → OtherKind k
other_kind (text n) e = tt
other_kind (number a to b) e = absurd (false≢true (sym e))
other_kind Y/N e = tt
other_kind time e = tt
other_kind day e = tt
other_kind Kinds.decimal e = tt
other_kind (among l) e = tt

numbers-told : (m : MsgType) → administrative m ≡ true → all (λ t. numeric t || not (is_numeric (kind_in (rows_of m) t))) (order m) ≡ true
unfolding numeric order own code35 rows_of header fields groups_of №453 №580 №552 kind_of
numbers-told =
    each (λ m. all (λ t. numeric t || not (is_numeric (kind_in (rows_of m) t))) (order m) ≡ true)
    (record { heartbeat = refl; test_request = refl; resend_request = refl; reject = refl; sequence_reset = refl; logout = refl; logon = refl })

pub as_numbers : (m : MsgType) → administrative m ≡ true → (vs : Values) (s : Bytes) → AsNumbers m (value_in vs s)
unfolding value_in
as_numbers m a vs s t h = go (get_or vs (place_in tags t) None)
  where
    bytes_as : numeric t ≡ false → OtherKind (kind_in (rows_of m) t)
    bytes_as e =
        other_kind (kind_in (rows_of m) t)
        (not-true _ (sym (ap (λ (b : Bool). b || not (is_numeric (kind_in (rows_of m) t))) e) ∙ all_has (λ u. numeric u || not (is_numeric (kind_in (rows_of m) u))) (order m) t (numbers-told m a) h))

    by : (g : Given) (n : Bool) → numeric t ≡ n → GivenAs (kind_in (rows_of m) t) (cond n (Value.number g.a) (bytes (part s g.a g.b)))
    by g true e = tt
    by g false e = bytes_as e

    go : (o : Given.Option Given) → GivenAs (kind_in (rows_of m) t) (value_for s t o)
    go (Some g) = by g (numeric t) refl
    go None = tt
