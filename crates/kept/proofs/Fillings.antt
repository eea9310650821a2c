-- What stands in a place behind the number, piece by piece.
-- Assumes nothing.
use Prim.Native.Nat.{ℕ, ◌+◌, ◌-◌, ◌%◌, ◌≤◌, ◌<◌}
use native.Mathlib.Nat.{add-zero}
use native.Mathlib.Omega.{arith}
use mathlib.Core.Path.{◌≡◌, refl, sym, ap, ◌∙◌}
use mathlib.Core.List.{◌∷◌, ◌++◌}
use mathlib.Core.Bool.{Bool, true}
use lib.ListN.{length, take, drop, get_or, replicate, length-append, length-drop}
use lib.Seq.{length-take-le}
use Rattle.octets.specs.Bytes.{Bytes, fix, sum, At}
use Rattle.octets.proofs.Lists.{at_byte, bytes_at}
use Rattle.frame.specs.Frame.{trailer}
use Rattle.calendar.specs.Time.{utc, microseconds}
use Rattle.calendar.proofs.Times.{utc_length}
use Rattle.message.specs.Message.{row}
use Rattle.report.specs.Values.{Values, own, takes}
use Rattle.stamps.specs.code.Stamp.{is_stamp}
use Rattle.stamps.proofs.Stamps.{stamp_is, utc_stamp}
use Rattle.listed.specs.code.Listed.{Listed}
use Rattle.kept.specs.code.Walk.{Filled}
use Rattle.kept.proofs.Behind.{at_join, at_first, at_second}

bar_at : (s : Bytes) (p : ℕ) → p < length s → get_or s p 0 ≡ 1 → At s p (fix "|")
bar_at s p h e = bytes_at s p (fix "|") (omega arith) go
  where
    go : (i : ℕ) → i < 1 → get_or s (p + i) 0 ≡ get_or (fix "|") i 0
    go i k = let z : i ≡ 0 = omega arith in ap (λ (j : ℕ). get_or s (p + j) 0) z ∙ ap (λ (j : ℕ). get_or s j 0) (add-zero p) ∙ e ∙ ap (λ (j : ℕ). get_or (fix "|") j 0) (sym z)

at_bar : (s : Bytes) (p : ℕ) (l : Bytes) → At s p (1 ∷ l) → get_or s p 0 ≡ 1
at_bar s p l A = ap (λ (j : ℕ). get_or s j 0) (sym (add-zero p)) ∙ at_byte s p (1 ∷ l) A 0 (omega arith)

module _ (s : Bytes) (at n : ℕ) where
  -- 24 bytes behind the label
  abbrev pub stamp : Bytes
  stamp = take (at + 28 - (at + 4)) (drop (at + 4) s)

  stamp_part : stamp ≡ take 24 (drop (at + 4) s)
  stamp_part = let e : at + 28 - (at + 4) ≡ 24 = omega arith in ap (λ (k : ℕ). take k (drop (at + 4) s)) e

  -- what each test finds where all is as it should be
  module _ (F : Filled s at n) where
    abbrev t : ℕ
    t = F.time

    abbrev fields : Bytes
    fields = row (own F.values)

    size : n ≡ at + 36 + length fields
    size = omega (arith, F.size, length-append (fix "|52=") (utc t ++ (fix "|" ++ fields)), length-append (utc t) (fix "|" ++ fields), utc_length t)

    pub filled_long : at + 36 ≤ n
    filled_long = omega (arith, size)

    pub filled_label : At s at (fix "|52=")
    filled_label = at_first s at (fix "|52=") (utc t ++ (fix "|" ++ fields)) F.fields

    -- the byte behind the number
    pub filled_start : get_or s at 0 ≡ 1
    filled_start = at_bar s at (fix "52=" ++ (utc t ++ (fix "|" ++ fields))) F.fields

    from_stamp : At s (at + 4) (utc t ++ (fix "|" ++ fields))
    from_stamp = at_second s at (fix "|52=") (utc t ++ (fix "|" ++ fields)) (at + 4) refl F.fields

    from_bar : At s (at + 28) (fix "|" ++ fields)
    from_bar = at_second s (at + 4) (utc t) (fix "|" ++ fields) (at + 28) (omega (arith, utc_length t)) from_stamp

    pub filled_stamp : is_stamp stamp ≡ true
    filled_stamp =
        let A = at_first s (at + 4) (utc t) (fix "|" ++ fields) from_stamp in
        ap is_stamp (stamp_part ∙ ap (λ (k : ℕ). take k (drop (at + 4) s)) (sym (utc_length t)) ∙ A.1) ∙ utc_stamp t F.timed

    pub filled_bar : get_or s (at + 28) 0 ≡ 1
    filled_bar = at_bar s (at + 28) fields from_bar

    pub filled_listed : {b : Bool} → Listed (take (n - 7 - (at + 29)) (drop (at + 29) s)) b → b ≡ true
    filled_listed L =
        let A = at_second s (at + 28) (fix "|") fields (at + 29) (omega arith) from_bar in
        let e : n - 7 - (at + 29) ≡ length fields = omega (arith, size) in
        L.no F.values F.taken (ap (λ (k : ℕ). take k (drop (at + 29) s)) e ∙ A.1)

  -- and all is as it should be where each test is passed
  pub is_filled : at + 36 ≤ n → n ≤ length s → At s at (fix "|52=") → is_stamp stamp ≡ true → get_or s (at + 28) 0 ≡ 1
      → ((v : Values) × ((takes v ≡ true) × (take (n - 7 - (at + 29)) (drop (at + 29) s) ≡ row (own v)))) → At s (n - 7) (trailer (sum (take (n - 7) s) % 256))
      → At s n (replicate (length s - n) 0) → Filled s at n
  is_filled long fits label stamped bar listed summed zeros =
      let v = listed.0 in
      let S = stamp_is stamp stamped in
      let t = microseconds stamp in
      let k : length (row (own v)) ≡ n - 7 - (at + 29) =
      ap length (sym listed.1.1) ∙ length-take-le (n - 7 - (at + 29)) (drop (at + 29) s) (omega (arith, length-drop (at + 29) s)) in
      let own_at : At s (at + 29) (row (own v)) = (omega arith, ap (λ (j : ℕ). take j (drop (at + 29) s)) k ∙ listed.1.1) in
      let bar-on = at_join s (at + 28) (fix "|") (row (own v)) (at + 29) (omega arith) (bar_at s (at + 28) (omega arith) bar) own_at in
      let stamp-at : At s (at + 4) (utc t) =
      (omega (arith, utc_length t), ap (λ (j : ℕ). take j (drop (at + 4) s)) (utc_length t) ∙ sym stamp_part ∙ S.0) in
      let stamp-on = at_join s (at + 4) (utc t) (fix "|" ++ row (own v)) (at + 28) (omega (arith, utc_length t)) stamp-at bar-on in
      record {
        values = v;
        time = t;
        taken = listed.1.0;
        timed = S.1;
        size = omega (arith, k, length-append (fix "|52=") (utc t ++ (fix "|" ++ row (own v))), length-append (utc t) (fix "|" ++ row (own v)), utc_length t);
        fields = at_join s at (fix "|52=") (utc t ++ (fix "|" ++ row (own v))) (at + 4) refl label stamp-on;
        summed = summed;
        zeros = zeros;
      }
