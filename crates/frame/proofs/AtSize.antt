-- A candidate's body length, where the mark is read: what each answer about it means.
use Prim.Native.Nat.{ℕ, ◌+◌, ◌*◌, ◌≤◌, ◌<◌}
use native.Mathlib.Nat.{add-zero}
use native.Mathlib.Decide.{dec_lt}
use native.Mathlib.Numerals.{add-one}
use native.Mathlib.Omega.{arith}
use mathlib.Core.Path.{◌≡◌, sym, ap, ap₂, ◌∙◌, subst}
use mathlib.Core.Bool.{true, false≢true}
use mathlib.Core.List.{[], ◌∷◌, ◌++◌, append_assoc, append-nil}
use lib.ListN.{length, take, drop, get_or, length-append, length-drop, take-append-drop}
use lib.Seq.{get_or-append-add, get_or-drop, get_or-take, take_all, ext_get_or, length-take-le, drop-drop, drop-cons}
use Rattle.octets.specs.Bytes.{Bytes, fix, value, value_from, Digit}
use Rattle.octets.specs.code.Leaf.{Number}
use Rattle.octets.proofs.Lists.{value_from-append}
use Rattle.octets.proofs.Numerals.{Digits, Written, digit_at, digits_of, digits_append, value_from_lem, written_means, written_true, row_digits, digits_row}
use Rattle.frame.specs.Frame.{Rule, longest_body, Length, Live}
use Rattle.frame.specs.code.Walk.{MarkSeen, SizeSeen, Open}
use Rattle.frame.specs.Mark.{MarkOk}
use Rattle.frame.proofs.Complete.{Comp, open_of, comp_more, comp_size, comp_mark}
use Rattle.frame.proofs.AtMark.{agree, Begun, begun, begun_mark}

module _ (R : Rule) (s : Bytes) (p a : ℕ) (S : MarkSeen R s p a) (v c : ℕ) (N : Number s a R.size.most v c) where
  -- the digits that stand there
  ds : Bytes
  ds = take c (drop a s)

  ds_digits : Digits ds
  unfolding ds
  ds_digits = digits_of (drop a s) c (omega (arith, length-drop a s, N.within)) (λ i k. subst Digit (sym (get_or-drop a s i 0)) (N.digits i k))

  ds_length : length ds ≡ c
  unfolding ds
  ds_length = length-take-le c (drop a s) (omega (arith, length-drop a s, N.within))

  ds_value : v ≡ value ds
  unfolding ds
  ds_value = N.worth

  ds_written : 0 < c → R.size.zeros ≡ true → Written R.size ds
  ds_written k z =
      record {
        whole = digits_row ds ds_digits;
        some_digit = omega (arith, ds_length);
        few = omega (arith, ds_length, N.few);
        no_zero = λ y. absurd (false≢true (sym y ∙ z));
      }

  ds_size : 0 < c → R.size.zeros ≡ true → 5 ≤ v → v ≤ longest_body → Length R ds
  ds_size k z lo hi =
      record { written = written_true R.size ds (ds_written k z); low = omega (arith, ds_value); high = omega (arith, ds_value) }

  -- no digits are worth nothing
  some_digit : 5 ≤ v → 0 < c
  some_digit lo = go (dec_lt 0 c)
    where
      go : Dec (0 < c) → 0 < c
      go (yes k) = k
      go (no k) =
          let z : c ≡ 0 = omega arith in
          let e : v ≡ 0 = N.worth ∙ ap (λ (i : ℕ). value (take i (drop a s))) z in
          absurd (omega arith)

  pub size_next : R.size.zeros ≡ true → 5 ≤ v → v ≤ longest_body → a + c < length s → get_or s (a + c) 0 ≡ 1 → SizeSeen R s p (a + c + 1) v
  unfolding ds
  size_next z lo hi l x =
      let e₁ : drop (a + c) s ≡ 1 ∷ drop (a + c + 1) s =
      drop-cons s (a + c) 0 l ∙ ap₂ (λ (y : ℕ) (n : ℕ). y ∷ drop n s) x (sym (add-one (a + c))) in
      record {
        within = omega arith;
        digits = ds;
        split = S.split ∙ ap (λ (y : Bytes). R.mark ++ y) (sym (take-append-drop c (drop a s)) ∙ ap (λ (y : Bytes). ds ++ y) (drop-drop c a s ∙ e₁));
        len = ds_size (some_digit lo) z lo hi;
        worth = ds_value;
      }

  -- beside the digits es of a frame that could come of it
  module _ (w : Live R s p) where
    abbrev B : Begun R (drop p s)
    B = begun R s p S.from w

    es : Bytes
    es = B.good.digits

    es_eq : (i : ℕ) → i < length es → a + i < length s → get_or s (a + i) 0 ≡ get_or es i 0
    unfolding es
    es_eq i k l = sym (get_or-drop a s i 0) ∙ agree (drop a s) B.t es _ i (begun_mark R (drop p s) B (drop a s) S.split) (omega (arith, length-drop a s)) k

    es_end : a + length es < length s → get_or s (a + length es) 0 ≡ 1
    unfolding es
    es_end l =
        sym (get_or-drop a s (length es) 0)
        ∙ agree (drop a s) B.t (es ++ (1 ∷ [])) _ (length es) (begun_mark R (drop p s) B (drop a s) S.split ∙ sym (append_assoc es (1 ∷ []) _)) (omega (arith, length-drop a s)) (omega (arith, length-append es (1 ∷ [])))
        ∙ ap (λ (z : ℕ). get_or (es ++ (1 ∷ [])) z 0) (sym (add-zero (length es))) ∙ get_or-append-add es (1 ∷ []) 0 0

    es_len : Length R es
    unfolding es
    es_len = B.good.len

    es_written : Written R.size es
    es_written = written_means R.size es es_len.written

    es_digit : (i : ℕ) → i < length es → Digit (get_or es i 0)
    es_digit i k = digit_at es (row_digits es es_written.whole) i k

    -- the digits that stand there are among those of the frame
    es_reach : c ≤ length es
    es_reach = go (dec_lt (length es) c)
      where
        go : Dec (length es < c) → c ≤ length es
        go (yes k) = absurd (omega (arith, N.digits (length es) k, es_end (omega (arith, N.within))))
        go (no k) = omega arith

    es_take : take c es ≡ ds
    unfolding ds
    es_take =
        let e₁ : length (take c es) ≡ c = length-take-le c es es_reach in
        ext_get_or 0 (take c es) ds (e₁ ∙ sym ds_length)
        (λ i k. let j : i < c = omega arith in
        get_or-take c es i 0 j ∙ sym (es_eq i (omega (arith, es_reach)) (omega (arith, N.within))) ∙ sym (get_or-drop a s i 0) ∙ sym (get_or-take c (drop a s) i 0 j))

    es_value : v ≤ value es
    es_value =
        let e₁ : value es ≡ value_from (value ds) (drop c es) =
        ap value (sym (take-append-drop c es)) ∙ value_from-append 0 (take c es) (drop c es) ∙ ap (λ (l : Bytes). value_from (value l) (drop c es)) es_take in
        omega (arith, value_from_lem (value ds) (drop c es), ds_value)

    -- as many digits as there may be, worth less than 5
    pub size_wrong_full : R.size.most ≤ c → v < 5 → ⊥
    size_wrong_full l k =
        let e₁ : take c es ≡ es = take_all c es (omega (arith, es_written.few)) in
        omega (arith, es_len.low, ap value (sym e₁ ∙ es_take), ds_value)

    pub size_wrong_high : longest_body < v → ⊥
    size_wrong_high k = omega (arith, es_value, es_len.high)

    pub size_wrong_next : a + c < length s → (get_or s (a + c) 0 ≡ 1 → ⊥) → ⊥
    size_wrong_next l z = go (dec_lt c (length es))
      where
        go : Dec (c < length es) → ⊥
        go (yes k) = N.stop (omega (arith, es_written.few)) l (subst Digit (sym (es_eq c k l)) (es_digit c k))
        go (no k) =
            let e₁ : length es ≡ c = omega (arith, es_reach) in
            z (subst (λ (i : ℕ). get_or s (a + i) 0 ≡ 1) e₁ (es_end (omega arith)))

    pub size_wrong_low : a + c < length s → get_or s (a + c) 0 ≡ 1 → v < 5 → ⊥
    size_wrong_low l x k = go (dec_lt c (length es))
      where
        go : Dec (c < length es) → ⊥
        go (yes y) = omega (arith, es_eq c y l, es_digit c y)
        go (no y) =
            let e₁ : take c es ≡ es = take_all c es (omega arith) in
            omega (arith, es_len.low, ap value (sym e₁ ∙ es_take), ds_value)

  -- the bytes end with the digits
  module _ (ok : MarkOk R.mark) (x : a + c ≡ length s) where
    rest_ds : drop p s ≡ R.mark ++ ds
    unfolding ds
    rest_ds = S.split ∙ ap (λ (l : Bytes). R.mark ++ l) (sym (take_all c (drop a s) (omega (arith, length-drop a s))))

    size_short_none : c ≡ 0 → 1 ≤ R.size.most → Open R s p
    unfolding ds
    size_short_none z k =
        open_of R ok s p S.from
        (subst (λ (l : Bytes). Comp R ok l) (sym (rest_ds ∙ ap (λ (i : ℕ). R.mark ++ take i (drop a s)) z ∙ append-nil R.mark)) (comp_mark R ok k))

    pub size_short : R.size.zeros ≡ true → 5 ≤ v → v ≤ longest_body → Open R s p
    size_short z lo hi = open_of R ok s p S.from (subst (λ (l : Bytes). Comp R ok l) (sym rest_ds) (comp_size R ok ds (ds_size (some_digit lo) z lo hi)))

    -- where a further digit may follow: a 5 behind a length below 5 makes it one from 5 to 45
    five_more : 0 < c → R.size.zeros ≡ true → c < R.size.most → v < 5 → Length R (ds ++ fix "5")
    five_more k z room y =
        let e₁ : value (ds ++ fix "5") ≡ value ds * 10 + 5 = value_from-append 0 ds (fix "5") in
        let e₂ : length (ds ++ fix "5") ≡ length ds + 1 = length-append ds (fix "5") in
        let w : Written R.size (ds ++ fix "5") =
        record {
          whole = digits_row (ds ++ fix "5") (digits_append ds (fix "5") ds_digits ((omega arith, omega arith), tt));
          some_digit = omega arith;
          few = omega (arith, ds_length);
          no_zero = λ x. absurd (false≢true (sym x ∙ z));
        } in
        record { written = written_true R.size (ds ++ fix "5") w; low = omega arith; high = omega (arith, ds_value) }

    pub size_short_more : R.size.zeros ≡ true → c < R.size.most → v ≤ longest_body → Open R s p
    size_short_more z room hi = go (dec_lt 0 c) (dec_lt v 5)
      where
        go : Dec (0 < c) → Dec (v < 5) → Open R s p
        go (no k) y = size_short_none (omega arith) (omega arith)
        go (yes k) (no y) = size_short z (omega arith) hi
        go (yes k) (yes y) =
            open_of R ok s p S.from
            (subst (λ (l : Bytes). Comp R ok l) (sym rest_ds)
            (comp_more R ok (R.mark ++ ds) (fix "5")
            (subst (λ (l : Bytes). Comp R ok l) (sym (append_assoc R.mark ds (fix "5"))) (comp_size R ok (ds ++ fix "5") (five_more k z room y)))))
