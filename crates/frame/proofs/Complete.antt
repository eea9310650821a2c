-- What has begun as a good frame, and broken no rule, can be completed to one. So a position at which the bytes run out is live.
use Prim.Native.Nat.{ℕ, zero, suc, ◌+◌, ◌-◌, ◌≤◌, ◌<◌}
use native.Mathlib.Nat.{zero-add}
use native.Mathlib.Decide.{dec_lt}
use native.Mathlib.Omega.{arith}
use mathlib.Core.Path.{◌≡◌, sym, ap, ◌∙◌, subst}
use mathlib.Core.List.{[], ◌∷◌, ◌++◌, append_assoc}
use lib.ListN.{length, take, drop, get_or, replicate, length-append, length-drop, length-replicate, get_or-replicate, get_or-append, get_or-eq_default}
use lib.Dec.{lit≤}
use lib.Seq.{get_or-append-add, get_or-drop, drop-append-le, take_all}
use Rattle.octets.specs.Bytes.{Bytes, fix, value, At}
use Rattle.octets.proofs.Lists.{at_byte, bytes_at}
use Rattle.octets.proofs.Numerals.{written_true, digits_row}
use Rattle.frame.specs.Frame.{Rule, Length, Body, Good, GoodAt, front, trailer, sum_of}
use Rattle.frame.specs.code.Walk.{Open}
use Rattle.frame.specs.Mark.{MarkOk}
use Rattle.frame.proofs.Make.{good_make}

-- the bytes with which a body begins
abbrev pub type_tag : Bytes
type_tag = fix "35="

-- ---- a body begun with x, filled up to n bytes
module _ (x : Bytes) (n : ℕ) where
  fill : Bytes
  fill = drop (length x) type_tag ++ replicate (n - length x - length (drop (length x) type_tag)) 1

  module _ (h : length x ≤ n) (five : 5 ≤ n) where
    fill_length : length fill ≡ n - length x
    unfolding fill
    fill_length =
        omega (
          arith,
          length-append (drop (length x) type_tag) (replicate (n - length x - length (drop (length x) type_tag)) 1),
          length-drop (length x) type_tag,
          length-replicate {A = ℕ} (n - length x - length (drop (length x) type_tag)) 1,
        )

    filled_length : length (x ++ fill) ≡ n
    filled_length = omega (arith, length-append x fill, fill_length)

    filled_x : (i : ℕ) → i < length x → get_or (x ++ fill) i 0 ≡ get_or x i 0
    filled_x i l = get_or-append x fill 0 i l

    filled_tag : (i : ℕ) → length x ≤ i → i < 3 → get_or (x ++ fill) i 0 ≡ get_or type_tag i 0
    unfolding fill
    filled_tag i k l =
        let f = drop (length x) type_tag in
        let j : ℕ = i - length x in
        let e : length x + j ≡ i = omega arith in
        ap (λ (z : ℕ). get_or (x ++ fill) z 0) (sym e) ∙ get_or-append-add x fill j 0
        ∙ get_or-append f _ 0 j (omega (arith, length-drop (length x) type_tag))
        ∙ get_or-drop (length x) type_tag j 0
        ∙ ap (λ (z : ℕ). get_or type_tag z 0) e

    filled_soh : (i : ℕ) → length x ≤ i → 3 ≤ i → i < n → get_or (x ++ fill) i 0 ≡ 1
    unfolding fill
    filled_soh i k l u =
        let f = drop (length x) type_tag in
        let r : ℕ = n - length x - length f in
        let j : ℕ = i - length x - length f in
        let e : length x + (length f + j) ≡ i = omega (arith, length-drop (length x) type_tag) in
        ap (λ (z : ℕ). get_or (x ++ fill) z 0) (sym e) ∙ get_or-append-add x fill (length f + j) 0
        ∙ get_or-append-add f (replicate r 1) j 0
        ∙ get_or-replicate r j 1 0 (omega (arith, length-drop (length x) type_tag))

tag_byte : (i : ℕ) → get_or type_tag i 0 < 256
tag_byte zero = omega arith
tag_byte (suc zero) = omega arith
tag_byte (suc (suc zero)) = omega arith
tag_byte (suc (suc (suc i))) = omega arith

module _ (R : Rule) (ok : MarkOk R.mark) where
  -- some bytes can follow r, at least one, so that the whole is a good frame
  pub record Comp (r : Bytes) : Type 0 where
    pub rest : Bytes
    pub some : 0 < length rest
    pub good : Good R (r ++ rest)

  pub open_of : (s : Bytes) (p : ℕ) → p ≤ length s → Comp (drop p s) → Open R s p
  open_of s p h w =
      let t = w.rest in
      let n : ℕ = length (drop p s ++ t) in
      let e : drop p (s ++ t) ≡ drop p s ++ t = drop-append-le p s t h in
      let G : GoodAt R (s ++ t) p n =
      record {
        inside = omega (arith, length-append s t, length-append (drop p s) t, length-drop p s);
        good = subst (λ (g : Bytes). Good R g) (sym (ap (λ (l : Bytes). take n l) e ∙ take_all n (drop p s ++ t) (omega arith))) w.good;
      } in
      record {
        live = record { more = t; size = n; good_at = G };
        past = omega (arith, w.some, length-append (drop p s) t, length-drop p s);
      }

  pub comp_more : (r x : Bytes) → Comp (r ++ x) → Comp r
  comp_more r x w =
      record {
        rest = x ++ w.rest;
        some = omega (arith, w.some, length-append x w.rest);
        good = subst (λ (g : Bytes). Good R g) (append_assoc r x w.rest) w.good;
      }

  pub comp_tail : (r t ds b : Bytes) → Length R ds → Body (value ds) b → ((q : ℕ) → At b q R.mark → ⊥)
      → r ++ t ≡ front R ds b ++ trailer (sum_of R ds b) → 0 < length t → Comp r
  comp_tail r t ds b L B none e h =
      record { rest = t; some = h; good = subst (λ (g : Bytes). Good R g) (sym e) (good_make R ok ds b L B none) }

  pub comp_fields : (ds x : Bytes) → Length R ds → length x < value ds → ((i : ℕ) → i < length x → i < 3 → get_or x i 0 ≡ get_or type_tag i 0)
      → ((q : ℕ) → At x q R.mark → ⊥) → ((i : ℕ) → get_or x i 0 < 256) → Comp (R.mark ++ (ds ++ (1 ∷ x)))
  comp_fields ds x L l tag none small =
      comp_tail (R.mark ++ (ds ++ (1 ∷ x))) (f ++ trailer v) ds (x ++ f) L
      (record { sized = lb; begins = begins; ends = filled_soh x n (omega arith) L.low (n - 1) (omega (arith, L.low)) (omega (arith, L.low)) (omega (arith, L.low)); bytes = bytes })
      free (simp append_assoc) (omega (arith, length-append f (trailer v)))
    where
      n : ℕ
      n = value ds

      f : Bytes
      f = fill x n

      v : ℕ
      v = sum_of R ds (x ++ f)

      lb : length (x ++ f) ≡ n
      lb = filled_length x n (omega arith) L.low

      tag' : (i : ℕ) → i < 3 → get_or (x ++ f) i 0 ≡ get_or type_tag i 0
      tag' i k = go (dec_lt i (length x))
        where
          go : Dec (i < length x) → get_or (x ++ f) i 0 ≡ get_or type_tag i 0
          go (yes y) = filled_x x n (omega arith) L.low i y ∙ tag i y k
          go (no y) = filled_tag x n (omega arith) L.low i (omega arith) k

      bytes : (i : ℕ) → get_or (x ++ f) i 0 < 256
      bytes i = go (dec_lt i (length x))
        where
          late : length x ≤ i → 3 ≤ i → Dec (i < n) → get_or (x ++ f) i 0 < 256
          late u w (yes y) = omega (arith, filled_soh x n (omega arith) L.low i u w y)
          late u w (no y) = omega (arith, get_or-eq_default (x ++ f) 0 {n = i} (omega (arith, lb)))

          go : Dec (i < length x) → get_or (x ++ f) i 0 < 256
          go (yes y) = omega (arith, filled_x x n (omega arith) L.low i y, small i)
          go (no y) = pick (dec_lt i 3)
            where
              pick : Dec (i < 3) → get_or (x ++ f) i 0 < 256
              pick (yes z) = omega (arith, tag' i z, tag_byte i)
              pick (no z) = late (omega arith) (omega arith) (dec_lt i n)

      begins : At (x ++ f) 0 type_tag
      begins = bytes_at (x ++ f) 0 type_tag (omega (arith, lb, L.low)) (λ i k. ap (λ (z : ℕ). get_or (x ++ f) z 0) (zero-add i) ∙ tag' i k)

      free : (q : ℕ) → At (x ++ f) q R.mark → ⊥
      free q a = go (dec_lt (q + length R.mark) (length x + 1))
        where
          go : Dec (q + length R.mark < length x + 1) → ⊥
          go (yes y) =
              none q
              (bytes_at x q R.mark (omega arith)
              (λ i k. sym (filled_x x n (omega arith) L.low (q + i) (omega arith)) ∙ at_byte (x ++ f) q R.mark a i k))
          go (no y) =
              let i : ℕ = length R.mark - 1 in
              ok.last
              (sym (at_byte (x ++ f) q R.mark a i (omega (arith, ok.long)))
              ∙ filled_soh x n (omega arith) L.low (q + i) (omega (arith, ok.long)) (omega (arith, ok.long)) (omega (arith, ok.long, a.0, lb)))

  pub comp_size : (ds : Bytes) → Length R ds → Comp (R.mark ++ ds)
  comp_size ds L =
      comp_more (R.mark ++ ds) (1 ∷ [])
      (subst (λ (l : Bytes). Comp l) (sym (append_assoc R.mark ds (1 ∷ []))) (comp_fields ds [] L (omega (arith, L.low)) (λ i k _. absurd (omega arith)) (λ q a. omega (arith, a.0, ok.long)) (λ i. omega arith)))

  pub comp_mark : 1 ≤ R.size.most → Comp R.mark
  comp_mark h =
      comp_more R.mark (53 ∷ [])
      (comp_size (53 ∷ [])
      (record {
        written = written_true R.size (53 ∷ []) (record { whole = digits_row (53 ∷ []) ((lit≤ tt, lit≤ tt), tt); some_digit = omega arith; few = h; no_zero = λ z e. omega arith });
        low = lit≤ tt;
        high = lit≤ tt;
      }))
