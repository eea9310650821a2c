-- The kinds of a report's tags as the code names them; and group 453, one party further.
use Prim.Native.Nat.{ℕ, zero, suc, ◌+◌, ◌-◌, ◌*◌, ◌≤◌, ◌<◌}
use native.Mathlib.Nat.{add-zero}
use native.Mathlib.Numerals.{add-one}
use native.Mathlib.Omega.{arith}
use mathlib.Core.Path.{◌≡◌, refl, sym, ap, ◌∙◌, subst}
use mathlib.Core.List.{List, [], ◌∷◌, ◌++◌}
use Rattle.std.specs.Prelude.{Option, Some, None}
use mathlib.Core.Bool.{Bool, true, false, not, ◌||◌, and-false}
use lib.Dec.{eqb, leb}
use lib.ListN.{length}
use borrow.Author.Tests.{lt-leb, not-true}
use Rattle.octets.specs.Bytes.{Bytes, any, has, writes, decimal}
use Rattle.octets.proofs.Tests.{all_below, at_below, or_last}
use Rattle.octets.proofs.Decimals.{decimal-worth}
use Rattle.kinds.specs.Kind.{Kind, text, time, day, among, kind_of, is_number, formed, allowed}
use Rattle.kinds.specs.Judged.{choices}
use Rattle.kinds.specs.declared.Choice.TheVariants.{Eight, D, OneOrTwo, ZeroOr54Or99, Matches, Roles}
use Rattle.table.specs.declared.MsgType.TheVariants.{TradeCaptureReport}
use Rattle.table.specs.Dictionary.{№453, №580, №552, header, fields, groups_of, rows_of, listed, kind_in}
use Rattle.message.specs.Message.{number, bytes, Field, ◌is◌, field, part}
use Rattle.message.specs.Unfit.{rejected, required, unfit}
use Rattle.message.specs.Wrote.{Wrote}
use Rattle.amounts.specs.Amount.{amount_text}
use Rattle.report.specs.Values.{Party, optional, members, group, takes}
use Rattle.report.specs.Layout.{word, needed, may_be, amount_at, party_part, parties_from, values_given}
use Rattle.report.specs.code.Puts.{Piece, Puts, Has, Optional, Within, PutOwn}
use Rattle.report.proofs.Putting.{is_unfit, is_put, field-number, none_put, rows_put, rows_unfit}

-- THE TAGS
pub has_571 : Has 571 (text 32)
unfolding rows_of header fields groups_of №453 №580 №552 kind_of
has_571 = record { own = refl; kind = refl }

pub has_828 : Has 828 (among (choices ZeroOr54Or99))
unfolding rows_of header fields groups_of №453 №580 №552 kind_of
has_828 = record { own = refl; kind = refl }

pub has_60 : Has 60 time
unfolding rows_of header fields groups_of №453 №580 №552 kind_of
has_60 = record { own = refl; kind = refl }

pub has_32 : Has 32 Kind.decimal
unfolding rows_of header fields groups_of №453 №580 №552 kind_of
has_32 = record { own = refl; kind = refl }

pub has_31 : Has 31 Kind.decimal
unfolding rows_of header fields groups_of №453 №580 №552 kind_of
has_31 = record { own = refl; kind = refl }

pub has_64 : Optional 64 day
unfolding required rows_of header fields groups_of №453 №580 №552 kind_of
has_64 = record { has = record { own = refl; kind = refl }; may = refl }

pub has_574 : Has 574 (among (choices Matches))
unfolding rows_of header fields groups_of №453 №580 №552 kind_of
has_574 = record { own = refl; kind = refl }

pub has_48 : Has 48 (text 32)
unfolding rows_of header fields groups_of №453 №580 №552 kind_of
has_48 = record { own = refl; kind = refl }

pub has_22 : Has 22 (among (choices Eight))
unfolding rows_of header fields groups_of №453 №580 №552 kind_of
has_22 = record { own = refl; kind = refl }

pub has_54 : Has 54 (among (choices OneOrTwo))
unfolding rows_of header fields groups_of №453 №580 №552 kind_of
has_54 = record { own = refl; kind = refl }

pub has_1427 : Optional 1427 (text 32)
unfolding required rows_of header fields groups_of №453 №580 №552 kind_of
has_1427 = record { has = record { own = refl; kind = refl }; may = refl }

pub has_448 : Has 448 (text 32)
unfolding rows_of header fields groups_of №453 №580 №552 kind_of
has_448 = record { own = refl; kind = refl }

pub has_447 : Has 447 (among (choices D))
unfolding rows_of header fields groups_of №453 №580 №552 kind_of
has_447 = record { own = refl; kind = refl }

pub has_452 : Has 452 (among (choices Roles))
unfolding rows_of header fields groups_of №453 №580 №552 kind_of
has_452 = record { own = refl; kind = refl }

pub once_fit : unfit TradeCaptureReport (552 is number 1) ≡ false
unfolding rejected rows_of header fields groups_of №453 №580 №552 kind_of formed allowed is_number writes decimal
once_fit = refl

-- THE NUMBER OF PARTIES
kind_453 : Has 453 (Kind.number◌to◌ 1 8)
unfolding rows_of header fields groups_of №453 №580 №552 kind_of
kind_453 = record { own = refl; kind = refl }

up_to_eight : all_below 8 (λ k. not (unfit TradeCaptureReport (453 is number (suc k)))) ≡ true
unfolding rejected rows_of header fields groups_of №453 №580 №552 kind_of formed allowed is_number writes decimal
up_to_eight = refl

pub count_fit : (n : ℕ) → (n ≡ 0 → ⊥) → n ≤ 8 → unfit TradeCaptureReport (453 is number n) ≡ false
count_fit zero h l = absurd (h refl)
count_fit (suc k) h l = not-true _ (at_below 8 (λ k. not (unfit TradeCaptureReport (453 is number (suc k)))) up_to_eight k (omega arith))

count_many : (n : ℕ) → 8 < n → unfit TradeCaptureReport (453 is number n) ≡ true
unfolding rejected allowed
count_many n h =
    let e : allowed (kind_in (rows_of TradeCaptureReport) 453) (decimal n) ≡ false =
    subst (λ (k : Kind). allowed k (decimal n) ≡ false) kind_453.kind (rw (decimal-worth n, lt-leb n 8 h) (and-false (leb 1 n))) in
    or_last
    (not (listed (rows_of TradeCaptureReport) 453) || eqb (length (decimal n)) 0 || has (decimal n) 1 || not (formed (kind_in (rows_of TradeCaptureReport) 453) (decimal n)))
    (not (allowed (kind_in (rows_of TradeCaptureReport) 453) (decimal n)))
    (ap not e)

-- PARTY BY PARTY
module _ (words text : Bytes) where
  parties_length : (j n : ℕ) → length (parties_from words text j n) ≡ n
  parties_length j zero = refl
  parties_length j (suc n) = ap suc (parties_length (j + 1) n)

  parties_more : (j i : ℕ) → parties_from words text j (suc i) ≡ parties_from words text j i ++ parties_from words text (j + i) 1
  parties_more j zero = ap (λ (x : ℕ). parties_from words text x 1) (sym (add-zero j))
  parties_more j (suc i) =
      let e : j + 1 + i ≡ j + suc i = omega arith in
      ap (λ (ps : List Party). record { its448 = party_part words text j 0; its447 = party_part words text j 1; its452 = party_part words text j 2 } ∷ ps)
      (parties_more (j + 1) i ∙ ap (λ (x : ℕ). parties_from words text (j + 1) i ++ parties_from words text x 1) e)

  members_append : (ps qs : List Party) → members (ps ++ qs) ≡ members ps ++ members qs
  members_append [] qs = refl
  members_append (p ∷ ps) qs =
      ap (λ (fs : List Field). 448 is bytes p.its448 ∷ 447 is bytes p.its447 ∷ 452 is bytes p.its452 ∷ fs) (members_append ps qs)

  -- the part j of the party i, at the word that the code counts to
  pub party_at : (t i j w x : ℕ) → w ≡ 34 + 6 * i + 2 * j → x ≡ 35 + 6 * i + 2 * j → {d d' : Bytes} {at : ℕ} {to : Option ℕ} → Puts d d' at to (t is bytes (part text (word words text w) (word words text x)) ∷ [])
      → Puts d d' at to (t is bytes (party_part words text i j) ∷ [])
  party_at t i j w x e f {d} {d'} {at} {to} P =
      subst (λ (y : ℕ). Puts d d' at to (t is bytes (part text (word words text (34 + 6 * i + 2 * j)) (word words text y)) ∷ [])) f
      (subst (λ (y : ℕ). Puts d d' at to (t is bytes (part text (word words text y) (word words text x)) ∷ [])) e P)

  pub party_more : (i : ℕ) {d d₁ d₂ : Bytes} {at mid : ℕ} {to : Option ℕ} → Puts d d₁ at (Some mid) (members (parties_from words text 0 i)) → Puts d₁ d₂ mid to (members (parties_from words text i 1))
      → Puts d d₂ at to (members (parties_from words text 0 (i + 1)))
  party_more i {d} {d₁} {d₂} {at} {mid} {to} P Q =
      let z : 0 + i ≡ i = omega arith in
      subst (λ (fs : List Field). Puts d d₂ at to fs)
      (sym
      (ap members
      (ap (parties_from words text 0) (add-one i) ∙ parties_more 0 i ∙ ap (λ (x : ℕ). parties_from words text 0 i ++ parties_from words text x 1) z)
      ∙ members_append (parties_from words text 0 i) (parties_from words text i 1)))
      (rows_put (members (parties_from words text 0 i)) (members (parties_from words text i 1)) P Q)

  -- the count and n parties; the row so far, or one that is unfit
  pub all_parties : (n : ℕ) → (n ≡ 0 → ⊥) → n ≤ 8 → {d d₁ d₂ : Bytes} {at mid : ℕ} {to : Option ℕ} → Wrote d d₁ at mid (field (453 is number n))
      → Puts d₁ d₂ mid to (members (parties_from words text 0 n)) → Puts d d₂ at to (group (parties_from words text 0 n))
  all_parties zero h l w P = absurd (h refl)
  all_parties (suc n) h l {d} {d₁} {d₂} {at} {mid} {to} w P =
      subst (λ (k : ℕ). Puts d d₂ at to (453 is number k ∷ members (parties_from words text 0 (suc n)))) (sym (parties_length 0 (suc n)))
      (rows_put (453 is number (suc n) ∷ []) (members (parties_from words text 0 (suc n))) (field-number 453 (suc n) (count_fit (suc n) h l) w) P)

  parties_split : (j a b : ℕ) → parties_from words text j (a + b) ≡ parties_from words text j a ++ parties_from words text (j + a) b
  parties_split j zero b =
      let e : 0 + b ≡ b = omega arith in
      let f : j + 0 ≡ j = omega arith in
      ap (parties_from words text j) e ∙ ap (λ (x : ℕ). parties_from words text x b) (sym f)
  parties_split j (suc a) b =
      let s : suc a + b ≡ suc (a + b) = omega arith in
      let e : j + 1 + a ≡ j + suc a = omega arith in
      ap (parties_from words text j) s
      ∙ ap (λ (ps : List Party). record { its448 = party_part words text j 0; its447 = party_part words text j 1; its452 = party_part words text j 2 } ∷ ps)
      (parties_split (j + 1) a b ∙ ap (λ (x : ℕ). parties_from words text (j + 1) a ++ parties_from words text x b) e)

  -- an unfit party among the first i makes all n so
  pub parties_unfit : (i n : ℕ) → i ≤ n → {d d' e e' : Bytes} {at mid : ℕ} → Puts d d' at None (members (parties_from words text 0 i)) → Puts e e' mid None (members (parties_from words text 0 n))
  parties_unfit i n h {d} {d'} {e} {e'} {at} {mid} P =
      let k : i + (n - i) ≡ n = omega arith in
      subst (λ (fs : List Field). Puts e e' mid None fs)
      (sym (ap (λ (x : ℕ). members (parties_from words text 0 x)) (sym k) ∙ ap members (parties_split 0 i (n - i)) ∙ members_append (parties_from words text 0 i) (parties_from words text (0 + i) (n - i))))
      (rows_unfit (members (parties_from words text 0 i)) (members (parties_from words text (0 + i) (n - i))) P)

  pub no_parties : (n : ℕ) → n ≡ 0 → {d : Bytes} {at : ℕ} → Puts d d at (Some at) (group (parties_from words text 0 n))
  no_parties n e {d} {at} =
      subst (λ (k : ℕ). Puts d d at (Some at) (group (parties_from words text 0 k))) (sym e)
      none_put

  pub many_parties : (n : ℕ) → 8 < n → {d d' : Bytes} {at : ℕ} → Puts d d' at None (group (parties_from words text 0 n))
  many_parties zero h = absurd (omega arith)
  many_parties (suc n) h =
      Piece.unfit
      (ap (λ (b : Bool). not (b || any (unfit TradeCaptureReport) (members (parties_from words text 0 (suc n)))))
      (ap (λ (k : ℕ). unfit TradeCaptureReport (453 is number k)) (parties_length 0 (suc n)) ∙ count_many (suc n) h))

-- a bound that grows
pub within : {m n : ℕ} (to : Option ℕ) → m ≤ n → Within to m → Within to n
within None h w = tt
within (Some to) h w = omega (arith, h, w)

-- ALL FIELDS of the values
module _ (words text : Bytes) where
  abbrev trade : List Field
  trade = 571 is bytes (needed words text 0) ∷ 828 is bytes (needed words text 1) ∷ 60 is bytes (needed words text 2) ∷ []

  abbrev figures : List Field
  figures = 32 is bytes (amount_text (amount_at words text 3)) ∷ 31 is bytes (amount_text (amount_at words text 4)) ∷ 64 is optional (may_be words text 5) ∷ []

  abbrev instrument : List Field
  instrument = 574 is bytes (needed words text 6) ∷ 48 is bytes (needed words text 7) ∷ 22 is bytes (needed words text 8) ∷ []

  abbrev side : List Field
  side = 552 is number 1 ∷ 54 is bytes (needed words text 9) ∷ 1427 is optional (may_be words text 10) ∷ []

  abbrev parties : List Field
  parties = group (parties_from words text 0 (word words text 33))

  -- what is put of all of them, and an unfit one among the groups
  abbrev whole : List Field
  whole = trade ++ (figures ++ (instrument ++ (side ++ parties)))

  pub own_put : {d d' : Bytes} {at : ℕ} (to : Option ℕ) → Within to 768 → Puts d d' at to whole → PutOwn (values_given words text) d d' at to
  unfolding values_given takes
  own_put None r P = is_unfit P
  own_put (Some to) r P = ((is_put P).0, (is_put P).1, r)

  abbrev behind_instrument : List Field
  behind_instrument = side ++ parties

  abbrev behind_figures : List Field
  behind_figures = instrument ++ behind_instrument

  abbrev behind_trade : List Field
  behind_trade = figures ++ behind_figures

  pub trade_unfit : {d d₁ : Bytes} {at : ℕ} → Puts d d₁ at None trade → Puts d d₁ at None whole
  trade_unfit p = rows_unfit trade behind_trade p

  module _ {d d₁ d₂ : Bytes} {at a : ℕ} where
    pub figures_unfit : Puts d d₁ at (Some a) trade → Puts d₁ d₂ a None figures → Puts d d₂ at None whole
    figures_unfit p q = rows_put trade behind_trade p (rows_unfit figures behind_figures q)

    module _ {d₃ : Bytes} {b : ℕ} where
      pub instrument_unfit : Puts d d₁ at (Some a) trade → Puts d₁ d₂ a (Some b) figures → Puts d₂ d₃ b None instrument → Puts d d₃ at None whole
      instrument_unfit p q u = rows_put trade behind_trade p (rows_put figures behind_figures q (rows_unfit instrument behind_instrument u))

      module _ {d₄ : Bytes} {c : ℕ} where
        pub side_unfit : Puts d d₁ at (Some a) trade → Puts d₁ d₂ a (Some b) figures → Puts d₂ d₃ b (Some c) instrument → Puts d₃ d₄ c None side → Puts d d₄ at None whole
        side_unfit p q u v =
            rows_put trade behind_trade p (rows_put figures behind_figures q (rows_put instrument behind_instrument u (rows_unfit side parties v)))

        pub all_put : {d₅ : Bytes} {e : ℕ} {to : Option ℕ} → Puts d d₁ at (Some a) trade → Puts d₁ d₂ a (Some b) figures → Puts d₂ d₃ b (Some c) instrument → Puts d₃ d₄ c (Some e) side → Puts d₄ d₅ e to parties → Puts d d₅ at to whole
        all_put p q u v w =
            rows_put trade behind_trade p (rows_put figures behind_figures q (rows_put instrument behind_instrument u (rows_put side parties v w)))
