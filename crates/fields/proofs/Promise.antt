-- What is promised of a body's fields, proved.
use Prim.Native.Nat.{ℕ}
use mathlib.Core.Path.{◌≡◌, refl}
use mathlib.Core.Bool.{true, false}
use lib.Dec.{leb}
use Rattle.octets.specs.Bytes.{Bytes, within}
use Rattle.octets.proofs.Tests.{both}
use borrow.Author.Tests.{leb-true}
use Rattle.fields.specs.Field.{parts}
use Rattle.fields.specs.First.{first_place}
use Rattle.fields.specs.Reading.{items_of, place_among}
use Rattle.fields.specs.Promise.{Promise}
use Rattle.std.specs.Prelude.{None}
use Rattle.fields.proofs.Firsts.{first-place, place-among}
use Rattle.fields.proofs.Readings.{any_calls, calls_in_order, parts-joined, refusal_10}

among : (t : ℕ) (body : Bytes) → within 1 99_999 t ≡ true → first_place t body ≡ place_among t (items_of 0 (parts body))
unfolding first_place
among t body h = let w = both (leb 1 t) (leb t 99_999) h in rw h (place-among t (leb-true 1 t w.0) (leb-true t 99_999 w.1) 0 (parts body))

none_there : (t : ℕ) (body : Bytes) → within 1 99_999 t ≡ false → first_place t body ≡ None
unfolding first_place
none_there t body h = rw h

pub promise : Promise
promise =
    record {
      goes_on = any_calls;
      in_order = calls_in_order;
      row = parts-joined;
      first = λ t body h. (first-place t body (first_place t body) refl).value h;
      first_inside = λ t body. (first-place t body (first_place t body) refl).inside;
      first_handed = among;
      first_none = none_there;
      refusal_10 = refusal_10;
    }
