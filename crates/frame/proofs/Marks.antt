-- The conditions of a mark are one test that antt computes; `8=FIXT.1.1|9=` and `8=FIX.4.2|9=` pass it.
use Prim.Native.Nat.{ℕ, ◌+◌, ◌-◌}
use mathlib.Core.Path.{◌≡◌, refl, sym, ap, ◌∙◌, subst}
use mathlib.Core.Bool.{Bool, true, not, ◌&&◌}
use lib.Dec.{T, leb, ltb, eqb}
use lib.ListN.{length, get_or}
use borrow.Author.Tests.{ltb-true, leb-true, le-leb, eq-eqb}
use Rattle.octets.specs.Bytes.{Bytes, digit}
use Rattle.octets.proofs.Tests.{both_true, all_below, at_below}
use Rattle.octets.proofs.Numerals.{is_digit}
use Rattle.frame.specs.Frame.{fixt, fix42}
use Rattle.frame.specs.Mark.{MarkOk}

-- two tests of which one fails
apart : (a b : Bool) → not (a && b) ≡ true → a ≡ true → b ≡ true → ⊥
apart a b t p q = subst T (sym t ∙ ap not (both_true a b p q)) tt

module _ (m : Bytes) where
  abbrev fresh : ℕ → Bool
  fresh i = not (leb 1 i && eqb (get_or m i 0) (get_or m 0 0))

  abbrev no_trailer : ℕ → Bool
  no_trailer i = not (eqb (get_or m i 0) 1 && eqb (get_or m (i + 1) 0) 49)

  abbrev no_end : ℕ → Bool
  no_end i = not (eqb (get_or m (i + 2) 0) 1 && digit (get_or m i 0))

  abbrev a_byte : ℕ → Bool
  a_byte i = ltb (get_or m i 0) 256

  pub record MarkTest : Type 0 where
    pub bytes : all_below (length m) a_byte ≡ true
    pub long : leb 8 (length m) ≡ true
    pub short : leb (length m) 16 ≡ true
    pub first : not (true && eqb (get_or m 0 0) 1) ≡ true
    pub second : not (true && eqb (get_or m 1 0) 1) ≡ true
    pub second_digit : not (true && digit (get_or m 1 0)) ≡ true
    pub last : not (true && eqb (get_or m (length m - 1) 0) 1) ≡ true
    pub alone : all_below (length m) fresh ≡ true
    pub soh : all_below (length m) no_trailer ≡ true
    pub end : all_below (length m) no_end ≡ true

  pub mark_ok : MarkTest → MarkOk m
  mark_ok t =
      record {
        bytes = λ i l. ltb-true _ 256 (at_below (length m) a_byte t.bytes i l);
        long = leb-true 8 (length m) t.long;
        short = leb-true (length m) 16 t.short;
        first = λ e. apart true _ t.first refl (eq-eqb _ _ e);
        second = λ e. apart true _ t.second refl (eq-eqb _ _ e);
        second_digit = λ h. apart true _ t.second_digit refl (is_digit _ h);
        last = λ e. apart true _ t.last refl (eq-eqb _ _ e);
        alone = λ i l k e. apart _ _ (at_below (length m) fresh t.alone i l) (le-leb 1 i k) (eq-eqb _ _ e);
        soh = λ i l e f. apart _ _ (at_below (length m) no_trailer t.soh i l) (eq-eqb _ _ e) (eq-eqb _ _ f);
        end = λ i l e h. apart _ _ (at_below (length m) no_end t.end i l) (eq-eqb _ _ e) (is_digit _ h);
      }

pub fixt_ok : MarkOk fixt.mark
unfolding fixt
fixt_ok =
    mark_ok fixt.mark (record { bytes = refl; long = refl; short = refl; first = refl; second = refl; second_digit = refl; last = refl; alone = refl; soh = refl; end = refl })

pub fix42_ok : MarkOk fix42.mark
unfolding fix42
fix42_ok =
    mark_ok fix42.mark (record { bytes = refl; long = refl; short = refl; first = refl; second = refl; second_digit = refl; last = refl; alone = refl; soh = refl; end = refl })
