-- A report's body is its header and then the fields of its values, the same when it is sent again: what a replay copies. And how long it can be.
use Prim.Native.Nat.{ℕ, ◌≤◌, ◌<◌}
use native.Mathlib.Omega.{arith}
use mathlib.Core.Path.{◌≡◌, refl, sym, ap, ◌∙◌}
use mathlib.Core.List.{List, [], ◌∷◌, ◌++◌, append_assoc}
use mathlib.Core.Bool.{true}
use mathlib.Core.Option.{some}
use lib.ListN.{length, length-append}
use Rattle.octets.specs.Bytes.{Bytes, fix, decimal}
use Rattle.octets.proofs.Decimals.{decimal-written}
use Rattle.calendar.specs.Time.{utc}
use Rattle.calendar.proofs.Times.{utc_length}
use Rattle.message.specs.Message.{Value, absent, number, bytes, Field, ◌is◌, tagged, field, row}
use Rattle.report.specs.Values.{own, takes}
use Rattle.message.specs.Unfit.{comp_id}
use Rattle.report.specs.Report.{Report, fields_of, fields_with}
use Rattle.message.proofs.Sizes.{length-tagged}
use Rattle.report.proofs.ReadBack.{comp_long}
use Rattle.report.proofs.Longest.{own_long}

row_append : (fs gs : List Field) → row (fs ++ gs) ≡ row fs ++ row gs
row_append [] gs = refl
row_append (f ∷ fs) gs = ap (λ (l : Bytes). field f ++ l) (row_append fs gs) ∙ sym (append_assoc (field f) (row fs) (row gs))

abbrev pub head : Bytes → Bytes → ℕ → Value → ℕ → Value → List Field
head us them n dup t orig =
    35 is bytes (fix "AE") ∷ 49 is bytes us ∷ 56 is bytes them ∷ 34 is number n ∷ 43 is dup ∷ 52 is bytes (utc t) ∷ 122 is orig ∷ []

module _ (us them : Bytes) (r : Report) where
  pub sent_split : row (fields_of us them r) ≡ row (head us them r.number absent r.time absent) ++ row (own r.values)
  sent_split = row_append (head us them r.number absent r.time absent) (own r.values)

  pub again_split : (t : ℕ) → row (fields_with us them r.number (bytes (fix "Y")) t (bytes (utc r.time)) r.values)
      ≡ row (head us them r.number (bytes (fix "Y")) t (bytes (utc r.time))) ++ row (own r.values)
  again_split t = row_append (head us them r.number (bytes (fix "Y")) t (bytes (utc r.time))) (own r.values)

  two : (t : ℕ) → 1 ≤ t → t < 100 → length (decimal t) ≤ 2
  two t h k = (decimal-written 1 t h k).few

  module _ (ours : comp_id us ≡ true) (peers : comp_id them ≡ true) (low : 1 ≤ r.number) (high : r.number ≤ 999_999_999) where
    pub head_long : length (row (head us them r.number absent r.time absent)) ≤ 77
    head_long =
        let n : Bytes = decimal r.number in
        let a : Bytes = tagged 35 (some (fix "AE")) in
        let b : Bytes = tagged 49 (some us) in
        let c : Bytes = tagged 56 (some them) in
        let d : Bytes = tagged 34 (some n) in
        let e : Bytes = tagged 52 (some (utc r.time)) in
        let N = decimal-written 8 r.number low (omega arith) in
        omega (arith, length-append a (b ++ (c ++ (d ++ (e ++ [])))), length-append b (c ++ (d ++ (e ++ []))), length-append c (d ++ (e ++ [])), length-append d (e ++ []), length-append e [], length-tagged 35 (fix "AE"), length-tagged 49 us, length-tagged 56 them, length-tagged 34 n, length-tagged 52 (utc r.time), two 35 (omega arith) (omega arith), two 49 (omega arith) (omega arith), two 56 (omega arith) (omega arith), two 34 (omega arith) (omega arith), two 52 (omega arith) (omega arith), utc_length r.time, (comp_long us ours).1, (comp_long them peers).1, N.few)

    -- a body buffer of 768 bytes holds every report whose values are taken, also one that refusal 12 is for
    pub body_long : takes r.values ≡ true → length (row (fields_of us them r)) ≤ 720
    body_long h = omega (arith, ap length sent_split, length-append (row (head us them r.number absent r.time absent)) (row (own r.values)), head_long, own_long r.values h)
