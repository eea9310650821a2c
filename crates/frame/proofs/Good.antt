-- The good frame over any rule: its length, its parts, where it stands; no good frame is a proper beginning of another.
use Prim.Native.Nat.{ℕ, ◌+◌, ◌-◌, ◌≤◌, ◌<◌}
use native.Mathlib.Nat.{add-zero}
use native.Mathlib.Decide.{dec_lt}
use native.Mathlib.Omega.{arith}
use mathlib.Core.Path.{◌≡◌, refl, sym, ap, ◌∙◌, subst}
use mathlib.Core.List.{[], ◌∷◌, ◌++◌, append_assoc, append-nil, append_cancel_left, tail-eq_of_cons-eq}
use lib.ListN.{length, take, drop, length-append, take-append-drop}
use lib.Seq.{take-append_seam, drop-append_seam, take-length, take_at}
use Rattle.octets.specs.Bytes.{Bytes, value, At}
use Rattle.octets.proofs.Lists.{part_length, at_part, at_whole, at_more, part_more}
use Rattle.octets.proofs.Numerals.{Digits, written_means, split_digits, row_digits}
use Rattle.frame.specs.Frame.{Rule, Good, GoodAt, Live, front, trailer, sum_of, longest}
use Rattle.frame.specs.code.Walk.{Open}

-- a mark, digits and `|` taken together
pub up_to_bar : (m ds t : Bytes) → m ++ (ds ++ (1 ∷ t)) ≡ m ++ (ds ++ (1 ∷ [])) ++ t
up_to_bar m ds t = simp append_assoc

-- two ways to write one list that begin with parts of one length begin with the same part
pub same_start : (x y c d : Bytes) → length x ≡ length y → x ++ c ≡ y ++ d → x ≡ y
same_start x y c d h e = sym (take_at x c (length x) refl) ∙ ap (λ (l : Bytes). take (length x) l) e ∙ take_at y d (length x) (sym h)

module _ (R : Rule) where
  pub good_digits : (g : Bytes) (G : Good R g) → Digits G.digits
  good_digits g G = row_digits G.digits (written_means R.size G.digits G.len.written).whole

  pub good_length : (g : Bytes) (G : Good R g) → length g ≡ length R.mark + (length G.digits + (value G.digits + 8))
  good_length g G =
      let b = front R G.digits G.body in
      let e₁ : length g ≡ length (b ++ trailer (sum_of R G.digits G.body)) = ap length G.whole in
      let e₂ = length-append b (trailer (sum_of R G.digits G.body)) in
      let e₃ = length-append R.mark (G.digits ++ (1 ∷ G.body)) in
      let e₄ = length-append G.digits (1 ∷ G.body) in
      omega (arith, G.inner.sized)

  -- "The longest frame becomes 2,075 bytes"
  pub good_longest : (g : Bytes) (G : Good R g) → length g ≤ longest R
  good_longest g G = omega (arith, good_length g G, (written_means R.size G.digits G.len.written).few, G.len.high)

  pub good_shortest : (g : Bytes) (G : Good R g) → length R.mark + 14 ≤ length g
  good_shortest g G = omega (arith, good_length g G, (written_means R.size G.digits G.len.written).some_digit, G.len.low)

  -- the frame, and what is behind it, behind the mark
  pub good_split : (g u : Bytes) (G : Good R g) → g ++ u ≡ R.mark ++ (G.digits ++ (1 ∷ (G.body ++ (trailer (sum_of R G.digits G.body) ++ u))))
  good_split g u G =
      ap (λ (x : Bytes). x ++ u) G.whole ∙ regroup R.mark G.digits G.body (trailer (sum_of R G.digits G.body)) u
    where
      regroup : (m ds b t u : Bytes) → m ++ (ds ++ (1 ∷ b)) ++ t ++ u ≡ m ++ (ds ++ (1 ∷ (b ++ (t ++ u))))
      regroup m ds b t u = simp append_assoc

  pub same_digits : (g h u v : Bytes) (G : Good R g) (H : Good R h) → g ++ u ≡ h ++ v → G.digits ≡ H.digits
  same_digits g h u v G H e =
      split_digits G.digits H.digits _ _ (good_digits g G) (good_digits h H)
      (append_cancel_left R.mark _ _ (sym (good_split g u G) ∙ e ∙ good_split h v H))

  -- F3: no good frame is a proper beginning of another
  pub same_length : (g h u v : Bytes) → Good R g → Good R h → g ++ u ≡ h ++ v → length g ≡ length h
  same_length g h u v G H e =
      let d : G.digits ≡ H.digits = same_digits g h u v G H e in
      good_length g G ∙ ap (λ (ds : Bytes). length R.mark + (length ds + (value ds + 8))) d ∙ sym (good_length h H)

  -- a good frame has one body
  pub good_body : (g : Bytes) (G H : Good R g) → G.body ≡ H.body
  good_body g G H =
      let d : G.digits ≡ H.digits = same_digits g g [] [] G H refl in
      same_start G.body H.body _ _ (G.inner.sized ∙ ap value d ∙ sym H.inner.sized)
      (tail-eq_of_cons-eq
      (append_cancel_left G.digits _ _
      (append_cancel_left R.mark _ _ (sym (good_split g [] G) ∙ good_split g [] H)
      ∙ ap (λ (x : Bytes). x ++ (1 ∷ (H.body ++ (trailer (sum_of R H.digits H.body) ++ [])))) (sym d))))

  pub good_mark : (g : Bytes) → Good R g → At g 0 R.mark
  good_mark g G =
      (omega (arith, good_length g G), ap (λ (l : Bytes). take (length R.mark) l) (sym (append-nil g) ∙ good_split g [] G) ∙ take-append_seam R.mark _)

  -- ---- a good frame at a place
  pub good_at_mark : {s : Bytes} {p n : ℕ} → GoodAt R s p n → At s p R.mark
  good_at_mark {s} {p} {n} G =
      subst (λ (x : ℕ). At s x R.mark) (add-zero p) (at_whole s p n 0 R.mark G.inside (good_mark (take n (drop p s)) G.good))

  pub good_at_length : {s : Bytes} {p n : ℕ} → GoodAt R s p n → (length R.mark + 14 ≤ n) × (n ≤ longest R)
  good_at_length {s} {p} {n} G =
      let g = take n (drop p s) in
      omega (arith, good_shortest g G.good, good_longest g G.good, part_length s p n G.inside)

  pub good_more : {s : Bytes} {p n : ℕ} (t : Bytes) → GoodAt R s p n → GoodAt R (s ++ t) p n
  good_more {s} {p} {n} t G =
      record {
        inside = omega (arith, G.inside, length-append s t);
        good = subst (λ (g : Bytes). Good R g) (sym (part_more s t p n G.inside)) G.good;
      }

  -- a good frame of s ++ t that lies in s
  pub good_less : (s t : Bytes) {q m : ℕ} → GoodAt R (s ++ t) q m → q + m ≤ length s → GoodAt R s q m
  good_less s t {q} {m} G h =
      record { inside = h; good = subst (λ (g : Bytes). Good R g) (part_more s t q m h) G.good }

  pub good_here : (a g b : Bytes) → Good R g → GoodAt R (a ++ (g ++ b)) (length a) (length g)
  good_here a g b G =
      let e : take (length g) (drop (length a) (a ++ (g ++ b))) ≡ g =
      ap (λ (l : Bytes). take (length g) l) (drop-append_seam a (g ++ b)) ∙ take-append_seam g b in
      record {
        inside = omega (arith, length-append a (g ++ b), length-append g b);
        good = subst (λ (l : Bytes). Good R l) (sym e) G;
      }

  -- all of s is a good frame
  pub good_whole : (s : Bytes) → Good R s → GoodAt R s 0 (length s)
  good_whole s G = record { inside = omega arith; good = subst (λ (l : Bytes). Good R l) (sym (take-length s)) G }

  pub good_unique : {s : Bytes} {p n m : ℕ} → GoodAt R s p n → GoodAt R s p m → n ≡ m
  good_unique {s} {p} {n} {m} G H =
      sym (part_length s p n G.inside)
      ∙ same_length (take n (drop p s)) (take m (drop p s)) (drop n (drop p s)) (drop m (drop p s)) G.good H.good
      (take-append-drop n (drop p s) ∙ sym (take-append-drop m (drop p s)))
      ∙ part_length s p m H.inside

  pub good_live : {s : Bytes} {p n : ℕ} → GoodAt R s p n → Live R s p
  good_live {n = n} G = record { more = []; size = n; good_at = good_more [] G }

  -- a frame that has begun at p and is not whole in s leaves no room for a whole frame from p on
  pub open_none : {s : Bytes} {p q m : ℕ} → Open R s p → p ≤ q → GoodAt R s q m → ⊥
  open_none {s} {p} {q} {m} o h G = go (dec_lt p q)
    where
      t : Bytes
      t = o.live.more

      n : ℕ
      n = o.live.size

      F : GoodAt R (s ++ t) p n
      F = o.live.good_at

      late : p < q → ⊥
      late l =
          let a : At (s ++ t) q R.mark = at_more s t q R.mark (good_at_mark G) in
          let e : p + (q - p) ≡ q = omega arith in
          F.good.once (q - p) (omega arith)
          (at_part (s ++ t) p n (q - p) R.mark F.inside (omega (arith, (good_at_mark G).0, o.past))
          (subst (λ (x : ℕ). At (s ++ t) x R.mark) (sym e) a))

      go : Dec (p < q) → ⊥
      go (yes l) = late l
      go (no k) =
          let e : q ≡ p = omega arith in
          let H : GoodAt R s p m = subst (λ (x : ℕ). GoodAt R s x m) e G in
          omega (arith, good_unique F (good_more t H), H.inside, o.past)
