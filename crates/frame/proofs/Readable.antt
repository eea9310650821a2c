-- Whether a good frame stands at a place, and whether a position is live, can be decided; so every byte string has its reading.
use Prim.Native.Nat.{ℕ, zero, suc, ◌+◌, ◌-◌, ◌≤◌, ◌<◌}
use native.Mathlib.Omega.{arith}
use native.Mathlib.Decide.{dec_lt, dec_le, ℕ_discrete}
use mathlib.Core.Path.{◌≡◌, refl, sym, ap, ap₂, ◌∙◌, subst}
use mathlib.Core.Logic.{◌⊎◌, inl, inr}
use mathlib.Core.List.{[], ◌∷◌, ◌++◌, append-nil, append_assoc}
use lib.ListN.{length, take, drop, get_or, length-append, take-append-drop, get_or-append}
use lib.Seq.{take_at, drop_at, length-take-le, get_or-append-add, get_or-drop, get_or-take}
use Rattle.octets.specs.Bytes.{Bytes, fix, value, writes, At}
use Rattle.octets.proofs.Lists.{part_length}
use Rattle.octets.proofs.Numerals.{digit_at, written_means}
use Rattle.frame.specs.Frame.{Rule, longest_body, Length, Body, Good, GoodAt, Live, front, trailer, sum_of, longest}
use Rattle.frame.specs.Reading.{Answer, frame, refusal, Reads}
use Rattle.frame.specs.Mark.{MarkOk}
use Rattle.frame.proofs.Good.{up_to_bar, good_split, good_digits, good_at_length, good_live, good_less}
use Rattle.frame.proofs.Decide.{both?, neither, turn, lists, holds?, Least, least, some_below, Some, some_bytes, small?, at?}

module _ (R : Rule) where
  -- ---- a good frame
  length? : (ds : Bytes) → Dec (Length R ds)
  length? ds =
      turn (λ w. record { written = w.0; low = w.1.0; high = w.1.1 }) (λ L. (L.written, (L.low, L.high)))
      (both? (holds? (writes R.size ds)) (both? (dec_le 5 (value ds)) (dec_le (value ds) longest_body)))

  body? : (n : ℕ) (b : Bytes) → Dec (Body n b)
  body? n b =
      turn (λ w. record { sized = w.0; begins = w.1.0; ends = w.1.1.0; bytes = w.1.1.1 })
      (λ B. (B.sized, (B.begins, (B.ends, B.bytes))))
      (both? (ℕ_discrete (length b) n) (both? (at? b 0 (fix "35=")) (both? (ℕ_discrete (get_or b (n - 1) 0) 1) (small? b))))

  once? : (g : Bytes) → Dec ((q : ℕ) → 0 < q → At g q R.mark → ⊥)
  once? g =
      turn (λ f q h a. f (q, (h, a))) (λ f w. f w.0 w.1.0 w.1.1)
      (neither
      (some_below (λ q. (0 < q) × At g q R.mark) (λ q. both? (dec_lt 0 q) (at? g q R.mark)) (suc (length g)) (λ q w. omega (arith, w.1.0))))

  -- the digits and the body of g, where the length has k digits
  abbrev digits_in : Bytes → ℕ → Bytes
  digits_in g k = take k (drop (length R.mark) g)

  abbrev body_in : Bytes → ℕ → Bytes
  body_in g k = take (value (digits_in g k)) (drop (length R.mark + (k + 1)) g)

  pub record Parts (g ds b : Bytes) : Type 0 where
    pub len : Length R ds
    pub inner : Body (value ds) b
    pub whole : g ≡ front R ds b ++ trailer (sum_of R ds b)
    pub once : (q : ℕ) → 0 < q → At g q R.mark → ⊥

  parts? : (g ds b : Bytes) → Dec (Parts g ds b)
  parts? g ds b =
      turn (λ w. record { len = w.0; inner = w.1.0; whole = w.1.1.0; once = w.1.1.1 }) (λ x. (x.len, (x.inner, (x.whole, x.once))))
      (both? (length? ds) (both? (body? (value ds) b) (both? (lists g (front R ds b ++ trailer (sum_of R ds b))) (once? g))))

  digits_in_lem : (g : Bytes) (G : Good R g) → digits_in g (length G.digits) ≡ G.digits
  digits_in_lem g G =
      ap (λ (l : Bytes). take (length G.digits) l) (ap (λ (l : Bytes). drop (length R.mark) l) (sym (append-nil g) ∙ good_split R g [] G) ∙ drop_at R.mark _ (length R.mark) refl)
      ∙ take_at G.digits _ (length G.digits) refl

  body_in_lem : (g : Bytes) (G : Good R g) → body_in g (length G.digits) ≡ G.body
  body_in_lem g G =
      let a : ℕ = length R.mark + (length G.digits + 1) in
      let h = R.mark ++ (G.digits ++ (1 ∷ [])) in
      let tr = trailer (sum_of R G.digits G.body) ++ [] in
      let e : g ≡ h ++ (G.body ++ tr) = sym (append-nil g) ∙ good_split R g [] G ∙ up_to_bar R.mark G.digits (G.body ++ tr) in
      let l : length h ≡ a = omega (arith, length-append R.mark (G.digits ++ (1 ∷ [])), length-append G.digits (1 ∷ [])) in
      ap₂ (λ (n : ℕ) (x : Bytes). take n x) (ap value (digits_in_lem g G)) (ap (λ (x : Bytes). drop a x) e ∙ drop_at h _ a l)
      ∙ take_at G.body _ (value G.digits) G.inner.sized

  pub good? : (g : Bytes) → Dec (Good R g)
  good? g =
      turn to from
      (some_below (λ k. (k ≤ R.size.most) × Parts g (digits_in g k) (body_in g k)) (λ k. both? (dec_le k R.size.most) (parts? g (digits_in g k) (body_in g k))) (suc R.size.most) (λ k w. omega (arith, w.0)))
    where
      to : (k : ℕ) × ((k ≤ R.size.most) × Parts g (digits_in g k) (body_in g k)) → Good R g
      to w =
          let x = w.1.1 in
          record { digits = digits_in g w.0; body = body_in g w.0; len = x.len; inner = x.inner; whole = x.whole; once = x.once }

      from : Good R g → (k : ℕ) × ((k ≤ R.size.most) × Parts g (digits_in g k) (body_in g k))
      from G = (
        length G.digits,
        (
          (written_means R.size G.digits G.len.written).few,
          subst (λ (x : Bytes). Parts g x (body_in g (length G.digits))) (sym (digits_in_lem g G))
              (subst (λ (x : Bytes). Parts g G.digits x) (sym (body_in_lem g G)) (record { len = G.len; inner = G.inner; whole = G.whole; once = G.once })),
        ),
      )

  good_at? : (s : Bytes) (p : ℕ) → Dec ((n : ℕ) × GoodAt R s p n)
  good_at? s p =
      some_below (λ n. GoodAt R s p n)
      (λ n. turn (λ w. record { inside = w.0; good = w.1 }) (λ G. (G.inside, G.good)) (both? (dec_le (p + n) (length s)) (good? (take n (drop p s)))))
      (suc (length s)) (λ n G. omega (arith, G.inside))

  -- ---- a live position: where any bytes could follow, some of at most a frame's length could
  module _ (ok : MarkOk R.mark) where
    -- a good frame is made of bytes
    good_small : (g : Bytes) → Good R g → (i : ℕ) → i < length g → get_or g i 0 < 256
    good_small g G i l = subst (λ (x : Bytes). get_or x i 0 < 256) (sym whole) (in_mark (dec_lt i (length R.mark)))
      where
        ds : Bytes
        ds = G.digits

        b : Bytes
        b = G.body

        v : ℕ
        v = sum_of R G.digits G.body

        whole : g ≡ R.mark ++ (ds ++ (1 ∷ (b ++ (trailer v ++ []))))
        whole = sym (append-nil g) ∙ good_split R g [] G

        size : length g ≡ length R.mark + (length ds + suc (length b + 7))
        size =
            omega (
              arith,
              ap length whole,
              length-append R.mark (ds ++ (1 ∷ (b ++ (trailer v ++ [])))),
              length-append ds (1 ∷ (b ++ (trailer v ++ []))),
              length-append b (trailer v ++ []),
            )

        in_trailer : (k : ℕ) → k < 7 → get_or (trailer v ++ []) k 0 < 256
        in_trailer zero h = omega arith
        in_trailer (suc zero) h = omega arith
        in_trailer (suc (suc zero)) h = omega arith
        in_trailer (suc (suc (suc zero))) h = omega arith
        in_trailer (suc (suc (suc (suc zero)))) h = omega arith
        in_trailer (suc (suc (suc (suc (suc zero))))) h = omega arith
        in_trailer (suc (suc (suc (suc (suc (suc zero)))))) h = omega arith
        in_trailer (suc (suc (suc (suc (suc (suc (suc k))))))) h = absurd (omega arith)

        behind : (k : ℕ) → k < length b + 7 → get_or (b ++ (trailer v ++ [])) k 0 < 256
        behind k h = go (dec_lt k (length b))
          where
            go : Dec (k < length b) → get_or (b ++ (trailer v ++ [])) k 0 < 256
            go (yes y) = subst (λ (x : ℕ). x < 256) (sym (get_or-append b (trailer v ++ []) 0 k y)) (G.inner.bytes k)
            go (no y) =
                let j : ℕ = k - length b in
                let e : length b + j ≡ k = omega arith in
                subst (λ (x : ℕ). x < 256) (sym (get_or-append-add b (trailer v ++ []) j 0) ∙ ap (λ (z : ℕ). get_or (b ++ (trailer v ++ [])) z 0) e) (in_trailer j (omega arith))

        soh : (k : ℕ) → k < suc (length b + 7) → get_or (1 ∷ (b ++ (trailer v ++ []))) k 0 < 256
        soh zero h = omega arith
        soh (suc k) h = behind k (omega arith)

        in_digits : (k : ℕ) → k < length ds + suc (length b + 7) → get_or (ds ++ (1 ∷ (b ++ (trailer v ++ [])))) k 0 < 256
        in_digits k h = go (dec_lt k (length ds))
          where
            go : Dec (k < length ds) → get_or (ds ++ (1 ∷ (b ++ (trailer v ++ [])))) k 0 < 256
            go (yes y) =
                subst (λ (x : ℕ). x < 256) (sym (get_or-append ds (1 ∷ (b ++ (trailer v ++ []))) 0 k y)) (omega (arith, digit_at ds (good_digits R g G) k y))
            go (no y) =
                let j : ℕ = k - length ds in
                let e : length ds + j ≡ k = omega arith in
                subst (λ (x : ℕ). x < 256) (sym (get_or-append-add ds (1 ∷ (b ++ (trailer v ++ []))) j 0) ∙ ap (λ (z : ℕ). get_or (ds ++ (1 ∷ (b ++ (trailer v ++ [])))) z 0) e)
                (soh j (omega arith))

        in_mark : Dec (i < length R.mark) → get_or (R.mark ++ (ds ++ (1 ∷ (b ++ (trailer v ++ []))))) i 0 < 256
        in_mark (yes y) = subst (λ (x : ℕ). x < 256) (sym (get_or-append R.mark (ds ++ (1 ∷ (b ++ (trailer v ++ [])))) 0 i y)) (ok.bytes i y)
        in_mark (no y) =
            let j : ℕ = i - length R.mark in
            let e : length R.mark + j ≡ i = omega arith in
            subst (λ (x : ℕ). x < 256)
            (sym (get_or-append-add R.mark (ds ++ (1 ∷ (b ++ (trailer v ++ [])))) j 0) ∙ ap (λ (z : ℕ). get_or (R.mark ++ (ds ++ (1 ∷ (b ++ (trailer v ++ []))))) z 0) e)
            (in_digits j (omega (arith, size)))

    module _ (s : Bytes) (p : ℕ) (h : p ≤ length s) where
      -- s and the bytes t begin a good frame at p
      abbrev Ends : Bytes → Type 0
      Ends t = (n : ℕ) × GoodAt R (s ++ t) p n

      -- the bytes that could follow, cut at the frame's end
      live_cut : (w : Live R s p) → length s < p + w.size → Some (p + w.size - length s) Ends
      live_cut w l =
          record {
            bytes = t;
            many = many;
            small = λ i y.
                let j : ℕ = length s + i - p in
                let e : p + j ≡ length s + i = omega arith in
                let x : get_or (take n (drop p (s ++ t))) j 0 ≡ get_or t i 0 =
                get_or-take n (drop p (s ++ t)) j 0 (omega (arith, many)) ∙ get_or-drop p (s ++ t) j 0 ∙ ap (λ (z : ℕ). get_or (s ++ t) z 0) e ∙ get_or-append-add s t i 0 in
                subst (λ (z : ℕ). z < 256) x (good_small (take n (drop p (s ++ t))) G.good j (omega (arith, part_length (s ++ t) p n G.inside, many)));
            here = (n, G);
          }
        where
          n : ℕ
          n = w.size

          k : ℕ
          k = p + n - length s

          t : Bytes
          t = take k w.more

          many : length t ≡ k
          many = length-take-le k w.more (omega (arith, w.good_at.inside, length-append s w.more))

          G : GoodAt R (s ++ t) p n
          G =
              good_less R (s ++ t) (drop k w.more)
              (subst (λ (x : Bytes). GoodAt R x p n) (ap (λ (x : Bytes). s ++ x) (sym (take-append-drop k w.more)) ∙ sym (append_assoc s t (drop k w.more))) w.good_at)
              (omega (arith, length-append s t, many))

      live? : Dec (Live R s p)
      live? = go (good_at? s p)
        where
          to : (k : ℕ) × ((k < suc (longest R)) × Some k Ends) → Live R s p
          to w = let S = w.1.1 in record { more = S.bytes; size = S.here.0; good_at = S.here.1 }

          from : (((n : ℕ) × GoodAt R s p n) → ⊥) → Live R s p → (k : ℕ) × ((k < suc (longest R)) × Some k Ends)
          from f w = pick (dec_lt (length s) (p + w.size))
            where
              pick : Dec (length s < p + w.size) → (k : ℕ) × ((k < suc (longest R)) × Some k Ends)
              pick (yes l) = (p + w.size - length s, (omega (arith, (good_at_length R w.good_at).1), live_cut w l))
              pick (no l) = absurd (f (w.size, good_less R s w.more w.good_at (omega arith)))

          go : Dec ((n : ℕ) × GoodAt R s p n) → Dec (Live R s p)
          go (yes w) = yes (good_live R w.1)
          go (no f) =
              turn to (from f)
              (some_below (λ k. (k < suc (longest R)) × Some k Ends) (λ k. both? (dec_lt k (suc (longest R))) (some_bytes k Ends (λ t. good_at? (s ++ t) p))) (suc (longest R)) (λ k w. w.0))

    -- every byte string has its reading
    pub reads_of : (s : Bytes) → (a : Answer) × Reads R s a
    reads_of s = found (least (λ p. (n : ℕ) × GoodAt R s p n) (good_at? s) (suc (length s)))
      where
        live_within? : (p : ℕ) → Dec ((p < length s) × Live R s p)
        live_within? p = go (dec_lt p (length s))
          where
            go : Dec (p < length s) → Dec ((p < length s) × Live R s p)
            go (yes l) = turn (λ w. (l, w)) (λ w. w.1) (live? s p (omega arith))
            go (no l) = no (λ w. l w.0)

        rest : ((q m : ℕ) → GoodAt R s q m → ⊥) → Least (λ p. (p < length s) × Live R s p) (length s) ⊎ ((p : ℕ) → p < length s → ((p < length s) × Live R s p) → ⊥) → (a : Answer) × Reads R s a
        rest none (inl w) = (
          refusal 1 w.at,
          (refl, record { none = none; dead = λ q l L. w.first q l (omega (arith, w.below), L); stop = inr w.here }),
        )
        rest none (inr f) = (refusal 1 (length s), (refl, record { none = none; dead = λ q l L. f q l (l, L); stop = inl refl }))

        found : Least (λ p. (n : ℕ) × GoodAt R s p n) (suc (length s)) ⊎ ((p : ℕ) → p < suc (length s) → ((n : ℕ) × GoodAt R s p n) → ⊥) → (a : Answer) × Reads R s a
        found (inl w) = (frame w.at w.here.0, record { here = w.here.1; left = λ q m l H. w.first q l (m, H) })
        found (inr f) = rest (λ q m H. f q (omega (arith, H.inside)) (m, H)) (least (λ p. (p < length s) × Live R s p) live_within? (length s))
