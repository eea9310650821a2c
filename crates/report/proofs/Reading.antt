-- A report's body read back: its values, its number and its time.
use Prim.Native.Nat.{ℕ}
use mathlib.Core.Path.{◌≡◌, refl, ap, ◌∙◌}
use mathlib.Core.List.{List, [], ◌∷◌}
use mathlib.Core.Option.{Option, none, some}
use mathlib.Core.Bool.{true, false}
use lib.Dec.{eqb}
use lib.ListN.{drop}
use Rattle.octets.specs.Bytes.{Bytes, has, value}
use Rattle.octets.proofs.Decimals.{decimal-worth}
use Rattle.calendar.specs.Time.{utc}
use Rattle.calendar.proofs.Times.{utc_no_bar}
use Rattle.fields.specs.Field.{first_field}
use Rattle.message.specs.Message.{Field, shown, row}
use Rattle.message.proofs.Cutting.{or_later, shown_for}
use Rattle.message.proofs.Cutting.{FreeOne, Free, decimal_free, first_free}
use Rattle.amounts.specs.Amount.{amount_text, amount_in}
use Rattle.report.specs.Values.{Party, Values, optional, members, group, own, takes}
use Rattle.report.specs.Report.{fields_with, or_empty, every_field, parties_of, parties_in, values_in}
use Rattle.amounts.proofs.Amounts.{amount_back}
use Rattle.report.proofs.Every.{and_later, every_for, every_free}
use Rattle.report.proofs.Taken.{own_free, quantity_fits, price_fits}

-- NOTHING ELSE IN A GROUP
members_none : (t : ℕ) → eqb t 448 ≡ false → eqb t 447 ≡ false → eqb t 452 ≡ false → (ps : List Party) → shown_for t (members ps) ≡ none
members_none t a b c [] = refl
members_none t a b c (p ∷ ps) = rw (a, b, c) (members_none t a b c ps)

group_none : (t : ℕ) → eqb t 453 ≡ false → eqb t 448 ≡ false → eqb t 447 ≡ false → eqb t 452 ≡ false → (ps : List Party) → shown_for t (group ps) ≡ none
group_none t d a b c [] = refl
group_none t d a b c (p ∷ ps) = rw d (members_none t a b c (p ∷ ps))

-- EACH PARTY
members_back : (ps : List Party) → parties_of (every_for 448 (members ps)) (every_for 447 (members ps)) (every_for 452 (members ps)) ≡ ps
members_back [] = refl
members_back (p ∷ ps) = ap (λ (l : List Party). p ∷ l) (members_back ps)

parties_back : (ps : List Party) → parties_of (every_for 448 (group ps)) (every_for 447 (group ps)) (every_for 452 (group ps)) ≡ ps
parties_back [] = refl
parties_back (p ∷ ps) = members_back (p ∷ ps)

-- a value that may be absent: passed over, or found
passed : (t u : ℕ) → eqb t u ≡ false → (o : Option Bytes) (later : Option Bytes) → or_later t u (shown (optional o)) later ≡ later
passed t u e none l = refl
passed t u e (some v) l = rw e

found : (t : ℕ) → eqb t t ≡ true → (o : Option Bytes) (later : Option Bytes) → later ≡ none → or_later t t (shown (optional o)) later ≡ o
found t e none l h = h
found t e (some v) l h = rw e

skipped : (t u : ℕ) → eqb t u ≡ false → (o : Option Bytes) (later : List Bytes) → and_later t u (shown (optional o)) later ≡ later
skipped t u e none l = refl
skipped t u e (some v) l = rw e

-- values that are read one by one
values_by : (b : Bytes) (v : Values)
    → first_field 571 b ≡ some v.its571 → first_field 828 b ≡ some v.its828 → first_field 60 b ≡ some v.its60
    → first_field 32 b ≡ some (amount_text v.its32) → amount_in (amount_text v.its32) ≡ v.its32
    → first_field 31 b ≡ some (amount_text v.its31) → amount_in (amount_text v.its31) ≡ v.its31
    → first_field 64 b ≡ v.its64 → first_field 574 b ≡ some v.its574 → first_field 48 b ≡ some v.its48 → first_field 22 b ≡ some v.its22
    → first_field 54 b ≡ some v.its54 → first_field 1427 b ≡ v.its1427 → parties_in b ≡ v.parties → values_in b ≡ v
unfolding values_in
values_by b v a1 a2 a3 a4 q4 a5 q5 a6 a7 a8 a9 a10 a11 a12 = rw (a1, a2, a3, a4, q4, a5, q5, a6, a7, a8, a9, a10, a11, a12)

-- A HEADER with or without 43 and 122, then the values of a report: both sent and sent again
module _ (us them : Bytes) (n : ℕ) (dup : Option Bytes) (t : ℕ) (orig : Option Bytes) (v : Values) (free-us : has us 1 ≡ false) (free-them : has them 1 ≡ false)
    (free-dup : FreeOne dup) (free-orig : FreeOne orig) (h : takes v ≡ true) where
  abbrev fs : List Field
  fs = fields_with us them n (optional dup) t (optional orig) v

  optional_free : (o : Option Bytes) → FreeOne o → FreeOne (shown (optional o))
  optional_free none k = tt
  optional_free (some w) k = k

  pub all_free : Free fs
  all_free =
      (refl, (free-us, (free-them, (decimal_free n, (optional_free dup free-dup, (utc_no_bar t, (optional_free orig free-orig, own_free v h)))))))

  abbrev pub body : Bytes
  body = row fs

  first : (u : ℕ) → first_field u body ≡ shown_for u fs
  first u = first_free u fs all_free

  -- past 43 and 122 to the fields of the message
  past : (u : ℕ) → eqb u 35 ≡ false → eqb u 49 ≡ false → eqb u 56 ≡ false → eqb u 34 ≡ false → eqb u 43 ≡ false → eqb u 52 ≡ false → eqb u 122 ≡ false
      → first_field u body ≡ shown_for u (own v)
  past u a b c d e f g =
      first u ∙ rw (a, b, c, d) (passed u 43 e dup _ ∙ rw f (passed u 122 g orig (shown_for u (own v))))

  pub number_back : value (or_empty (first_field 34 body)) ≡ n
  number_back = ap (λ (o : Option Bytes). value (or_empty o)) (first 34) ∙ decimal-worth n

  pub stamp_back : first_field 52 body ≡ some (utc t)
  stamp_back = first 52 ∙ passed 52 43 refl dup (some (utc t))

  -- each value
  abbrev ps : List Party
  ps = v.parties

  every_448 : every_field 448 body ≡ every_for 448 (group ps)
  every_448 = every_free 448 fs all_free ∙ skipped 448 43 refl dup _ ∙ skipped 448 122 refl orig _ ∙ skipped 448 64 refl v.its64 _ ∙ skipped 448 1427 refl v.its1427 _

  every_447 : every_field 447 body ≡ every_for 447 (group ps)
  every_447 = every_free 447 fs all_free ∙ skipped 447 43 refl dup _ ∙ skipped 447 122 refl orig _ ∙ skipped 447 64 refl v.its64 _ ∙ skipped 447 1427 refl v.its1427 _

  every_452 : every_field 452 body ≡ every_for 452 (group ps)
  every_452 = every_free 452 fs all_free ∙ skipped 452 43 refl dup _ ∙ skipped 452 122 refl orig _ ∙ skipped 452 64 refl v.its64 _ ∙ skipped 452 1427 refl v.its1427 _

  group_back : parties_in body ≡ ps
  group_back = rw (every_448, every_447, every_452) (parties_back ps)

  day_back : first_field 64 body ≡ v.its64
  day_back =
      past 64 refl refl refl refl refl refl refl
      ∙ found 64 refl v.its64 (shown_for 64 (drop 6 (own v))) (passed 64 1427 refl v.its1427 (shown_for 64 (group ps)) ∙ group_none 64 refl refl refl refl ps)

  venue_back : first_field 1427 body ≡ v.its1427
  venue_back =
      past 1427 refl refl refl refl refl refl refl
      ∙ passed 1427 64 refl v.its64 (shown_for 1427 (drop 6 (own v)))
      ∙ found 1427 refl v.its1427 (shown_for 1427 (group ps)) (group_none 1427 refl refl refl refl ps)

  pub values_back : values_in body ≡ v
  values_back =
      values_by body v (past 571 refl refl refl refl refl refl refl) (past 828 refl refl refl refl refl refl refl) (past 60 refl refl refl refl refl refl refl)
      (past 32 refl refl refl refl refl refl refl) (amount_back v.its32 (quantity_fits v h))
      (past 31 refl refl refl refl refl refl refl) (amount_back v.its31 (price_fits v h))
      day_back
      (past 574 refl refl refl refl refl refl refl ∙ passed 574 64 refl v.its64 (some v.its574))
      (past 48 refl refl refl refl refl refl refl ∙ passed 48 64 refl v.its64 (some v.its48))
      (past 22 refl refl refl refl refl refl refl ∙ passed 22 64 refl v.its64 (some v.its22))
      (past 54 refl refl refl refl refl refl refl ∙ passed 54 64 refl v.its64 (some v.its54))
      venue_back
      group_back
