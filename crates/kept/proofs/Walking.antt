-- What each answer of the walk over a place says about the report that it holds.
-- Assumes nothing.
use Prim.Native.Nat.{ℕ, ◌+◌, ◌-◌, ◌≤◌, ◌<◌}
use native.Mathlib.Nat.{add-zero}
use native.Mathlib.Omega.{arith}
use mathlib.Core.Path.{◌≡◌, refl, sym, ap, ◌∙◌, subst}
use mathlib.Core.Bool.{false, Bool, true, false≢true}
use mathlib.Core.Option.{Option, none, some}
use lib.ListN.{length, get_or}
use Rattle.std.specs.Prelude.{Some, None}
use Rattle.std.proofs.lemmas.Option.{none-some, same_Some}
use Rattle.octets.specs.Bytes.{Bytes, decimal, value}
use Rattle.octets.specs.code.Leaf.{Number}
use Rattle.octets.proofs.Lists.{at_byte}
use Rattle.octets.proofs.Decimals.{decimal-written}
use Rattle.message.specs.Unfit.{comp_id}
use Rattle.report.specs.Report.{Report}
use Rattle.report.proofs.ReadBack.{sendable_is}
use Rattle.kept.specs.Kept.{Holds, held, number_of}
use Rattle.kept.specs.code.Peeked.{Peeked}
use Rattle.kept.specs.code.Walk.{Tells, Headed, Ended, Filled}
use Rattle.kept.proofs.Holding.{held_is, is_held}
use Rattle.kept.proofs.Numbered.{read-nine, is_decimal, leading_all}
use Rattle.kept.proofs.Fillings.{filled_start}
use Rattle.kept.proofs.Laying.{Laid, size, laid, found, holds}

module _ (us them s : Bytes) (long : length s ≡ 512) where
  unheld : ((r : Report) → Holds us them s r → ⊥) → None ≡ number_of (held us them s)
  unheld n = go (held us them s) refl
    where
      go : (o : Option Report) → held us them s ≡ o → None ≡ number_of o
      go none e = refl
      go (some r) e = absurd (n r (held_is us them s r long e))

  pub unheaded : (b : Bool) → Tells (Headed us them s) b → b ≡ false → None ≡ number_of (held us them s)
  unheaded b T e = unheld (λ r H. false≢true (sym e ∙ T.no (laid us them s r long H).headed))

  abbrev at : ℕ
  at = 34 + length us + length them

  module _ (v c : ℕ) (N : Number s at 9 v c) where
    reads : (r : Report) → Holds us them s r → (c ≡ length (decimal r.number)) × (v ≡ r.number)
    reads r H =
        let S = sendable_is us them r H.sends in
        let L = laid us them s r long H in
        read-nine s at v c r.number N S.low (omega (arith, S.high)) L.digits (filled_start s _ _ L.filled)

    pub no_number : v ≡ 0 → None ≡ number_of (held us them s)
    no_number e = unheld (λ r H. let S = sendable_is us them r H.sends in absurd (omega (arith, S.low, (reads r H).1)))

    pub zero_first : get_or s at 0 ≡ 48 → None ≡ number_of (held us them s)
    zero_first e =
        unheld
        (λ r H. let S = sendable_is us them r H.sends in
        let D = decimal-written 8 r.number S.low (omega (arith, S.high)) in
        D.no_zero refl
        (sym (at_byte s at (decimal r.number) (laid us them s r long H).digits 0 (omega (arith, D.some_digit))) ∙ ap (λ (j : ℕ). get_or s j 0) (add-zero at) ∙ e))

    pub too_high : 999_999_990 < v → None ≡ number_of (held us them s)
    too_high h = unheld (λ r H. let S = sendable_is us them r H.sends in absurd (omega (arith, S.high, (reads r H).1)))

    -- no length of a frame
    pub endless : Ended s None → None ≡ number_of (held us them s)
    endless E =
        unheld
        (λ r H. let L = laid us them s r long H in
        let m = size us them s r long H in
        absurd (none-some {A = ℕ} _ (E.only (m - 24) (omega (arith, L.low)) (omega (arith, L.high)) L.sized)))

    module _ (n : ℕ) (E : Ended s (Some n)) where
      pub unfilled : (b : Bool) → Tells (Filled s (at + c) n) b → b ≡ false → None ≡ number_of (held us them s)
      unfilled b T e =
          unheld
          (λ r H. let L = laid us them s r long H in
          let m = size us them s r long H in
          let w = same_Some {A = ℕ} n (m - 24 + 24) (E.only (m - 24) (omega (arith, L.low)) (omega (arith, L.high)) L.sized) in
          let k : n ≡ m = omega (arith, w, L.low) in
          false≢true
          (sym e
          ∙ T.no (subst (λ (j : ℕ). Filled s (at + j) n) (sym (reads r H).0) (subst (λ (j : ℕ). Filled s (at + length (decimal r.number)) j) (sym k) L.filled))))

      pub kept_is : Headed us them s → comp_id us ≡ true → comp_id them ≡ true → (v ≡ 0 → ⊥) → (get_or s at 0 ≡ 48 → ⊥) → v ≤ 999_999_990 → Filled s (at + c) n
          → Some v ≡ number_of (held us them s)
      kept_is head ours peers Some-number no_zero high F =
          let low : 1 ≤ v = omega arith in
          let D = is_decimal s at 9 v c N low no_zero in
          let e = E.is n refl in
          let L : Laid us them s v n =
          record { low = e.0; high = e.1; headed = head; sized = e.2; digits = D.0; filled = subst (λ (j : ℕ). Filled s (at + j) n) D.1 F } in
          sym (ap number_of (is_held us them s (found us them s v n L long) (holds us them s v n L long ours peers low high)))

-- the number alone
pub peeked : (s : Bytes) (ids v c : ℕ) → length s ≡ 512 → Number s (34 + ids) 9 v c → Peeked s ids v
peeked s ids v c long N =
    record {
      is = N.worth ∙ ap value (sym (leading_all s (34 + ids) 9 v c N));
      right = λ us them r e h.
          let k : 34 + ids ≡ 34 + length us + length them = omega (arith, e) in
          (reads us them s long v c (subst (λ (j : ℕ). Number s j 9 v c) k N) r (held_is us them s r long h)).1;
    }
