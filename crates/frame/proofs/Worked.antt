-- Working off a stream: it has one outcome, and what is put behind the kept rest is as if put behind the whole stream.
use Prim.Native.Nat.{ℕ, zero, suc, ◌+◌, ◌-◌, ◌≤◌, ◌<◌}
use native.Mathlib.Nat.{add_assoc}
use native.Mathlib.Decide.{dec_lt, dec_le}
use native.Mathlib.Omega.{arith}
use mathlib.Core.Path.{◌≡◌, refl, sym, ap, ap₂, ◌∙◌, subst}
use mathlib.Core.Logic.{◌⊎◌, inl, inr}
use mathlib.Core.List.{List, [], ◌∷◌, ◌++◌, append_assoc, append-nil}
use lib.ListN.{length, take, drop, length-append, length-drop}
use lib.Seq.{drop-append-le, drop-drop}
use Rattle.octets.specs.Bytes.{Bytes}
use Rattle.octets.proofs.Lists.{part_more}
use Rattle.frame.specs.Frame.{Rule, Good, GoodAt, Live, longest}
use Rattle.frame.specs.Reading.{Answer, frame, refusal, Leftmost, Unfinished, Reads}
use Rattle.frame.specs.Mark.{MarkOk}
use Rattle.frame.specs.Stream.{Frames, rest, next, Drained, keep, hand}
use Rattle.frame.proofs.Good.{good_at_length, good_less}
use Rattle.frame.proofs.Unique.{left_one, unfinished_one, stop_bound}
use Rattle.frame.proofs.Apart.{left_more}
use Rattle.frame.proofs.Readable.{reads_of}

module _ (R : Rule) where
  -- ---- a stream whose first d bytes are dropped
  module _ (s t : Bytes) (d : ℕ) (h : d ≤ length s) where
    dropped_part : (q : ℕ) (u : Bytes) → drop q (drop d s ++ t ++ u) ≡ drop (d + q) (s ++ t ++ u)
    dropped_part q u =
        ap (λ (l : Bytes). drop q l)
        (append_assoc (drop d s) t u ∙ sym (drop-append-le d s (t ++ u) h) ∙ ap (λ (l : Bytes). drop d l) (sym (append_assoc s t u)))
        ∙ drop-drop q d (s ++ t ++ u)

    dropped_length : (u : Bytes) → d + length (drop d s ++ t ++ u) ≡ length (s ++ t ++ u)
    dropped_length u =
        omega (arith, length-append (drop d s ++ t) u, length-append (drop d s) t, length-drop d s, length-append (s ++ t) u, length-append s t)

    shift : (u : Bytes) (q m : ℕ) → GoodAt R (drop d s ++ t ++ u) q m → GoodAt R (s ++ t ++ u) (d + q) m
    shift u q m G =
        record {
          inside = omega (arith, G.inside, dropped_length u);
          good = subst (λ (l : Bytes). Good R (take m l)) (dropped_part q u) G.good;
        }

    unshift : (u : Bytes) (q m : ℕ) → d ≤ q → GoodAt R (s ++ t ++ u) q m → GoodAt R (drop d s ++ t ++ u) (q - d) m
    unshift u q m k G =
        let e : d + (q - d) ≡ q = omega arith in
        record {
          inside = omega (arith, G.inside, dropped_length u);
          good = subst (λ (l : Bytes). Good R (take m l)) (sym (dropped_part (q - d) u ∙ ap (λ (x : ℕ). drop x (s ++ t ++ u)) e)) G.good;
        }

    -- nothing begins in what is dropped
    module _ (dead : (q : ℕ) → q < d → Live R s q → ⊥) where
      dead_more : (q : ℕ) → q < d → Live R (s ++ t) q → ⊥
      dead_more q l w =
          dead q l (record { more = t ++ w.more; size = w.size; good_at = subst (λ (x : Bytes). GoodAt R x q w.size) (append_assoc s t w.more) w.good_at })

      none_dropped : (u : Bytes) (q m : ℕ) → q < d → GoodAt R (s ++ t ++ u) q m → ⊥
      none_dropped u q m l G = dead_more q l (record { more = u; size = m; good_at = G })

      at_nil : {x : Bytes} {q m : ℕ} → GoodAt R x q m → GoodAt R (x ++ []) q m
      at_nil {x} {q} {m} G = subst (λ (y : Bytes). GoodAt R y q m) (sym (append-nil x)) G

      of_nil : {x : Bytes} {q m : ℕ} → GoodAt R (x ++ []) q m → GoodAt R x q m
      of_nil {x} {q} {m} G = subst (λ (y : Bytes). GoodAt R y q m) (append-nil x) G

      pub frame_dropped : {p n : ℕ} → Leftmost R (drop d s ++ t) p n → Leftmost R (s ++ t) (d + p) n
      frame_dropped {p} {n} L =
          record { here = of_nil (shift [] p n (at_nil L.here)); left = left }
        where
          left : (q m : ℕ) → q < d + p → GoodAt R (s ++ t) q m → ⊥
          left q m l G = go (dec_lt q d)
            where
              go : Dec (q < d) → ⊥
              go (yes k) = none_dropped [] q m k (at_nil G)
              go (no k) = L.left (q - d) m (omega arith) (of_nil (unshift [] q m (omega arith) (at_nil G)))

      pub rest_dropped : {e : ℕ} → Unfinished R (drop d s ++ t) e → Unfinished R (s ++ t) (d + e)
      rest_dropped {e} U = record { none = none; dead = dead'; stop = stop U.stop }
        where
          none : (q m : ℕ) → GoodAt R (s ++ t) q m → ⊥
          none q m G = go (dec_lt q d)
            where
              go : Dec (q < d) → ⊥
              go (yes k) = none_dropped [] q m k (at_nil G)
              go (no k) = U.none (q - d) m (of_nil (unshift [] q m (omega arith) (at_nil G)))

          dead' : (q : ℕ) → q < d + e → Live R (s ++ t) q → ⊥
          dead' q l w = go (dec_lt q d)
            where
              go : Dec (q < d) → ⊥
              go (yes k) = dead_more q k w
              go (no k) =
                  U.dead (q - d) (omega arith) (record { more = w.more; size = w.size; good_at = unshift w.more q w.size (omega arith) w.good_at })

          size : d + length (drop d s ++ t) ≡ length (s ++ t)
          size = omega (arith, length-append (drop d s) t, length-drop d s, length-append s t)

          stop : (e ≡ length (drop d s ++ t)) ⊎ ((e < length (drop d s ++ t)) × Live R (drop d s ++ t) e) → (d + e ≡ length (s ++ t)) ⊎ ((d + e < length (s ++ t)) × Live R (s ++ t) (d + e))
          stop (inl x) = inl (omega (arith, size))
          stop (inr x) =
              let w = x.1 in
              inr (omega (arith, size, x.0), record { more = w.more; size = w.size; good_at = shift w.more e w.size w.good_at })

  -- ---- working off
  pub drained_at : {s s' r r' : Bytes} {fs fs' : List Bytes} → s ≡ s' → fs ≡ fs' → r ≡ r' → Drained R s fs r → Drained R s' fs' r'
  drained_at {s} {s'} {r} {r'} {fs} {fs'} e f g D =
      subst (λ (x : Bytes). Drained R x fs' r') e (subst (λ (x : List Bytes). Drained R s x r') f (subst (λ (x : Bytes). Drained R s fs x) g D))

  -- what is handed out of a stream worked off are its frames
  pub drained_frames : {s r : Bytes} {fs : List Bytes} → Drained R s fs r → Frames R s fs
  drained_frames (keep d A) = rest d A
  drained_frames (hand p n A D) = next p n A (drained_frames D)

  module _ (ok : MarkOk R.mark) where
    -- what was dropped can stand in front again
    drained_drop : (s t : Bytes) (d : ℕ) → d ≤ length s → ((q : ℕ) → q < d → Live R s q → ⊥) → {x r : Bytes} {gs : List Bytes} → x ≡ drop d s ++ t → Drained R x gs r → Drained R (s ++ t) gs r
    drained_drop s t d h dead e (keep c A) =
        let f : drop (d + c) (s ++ t) ≡ drop c _ =
        sym (drop-drop c d (s ++ t)) ∙ ap (λ (l : Bytes). drop c l) (drop-append-le d s t h ∙ sym e) in
        drained_at refl refl f (keep (d + c) (refl, rest_dropped s t d h dead (subst (λ (y : Bytes). Unfinished R y c) e A.1)))
    drained_drop s t d h dead e (hand {fs = fs} p n A D) =
        let f₁ : take n (drop (d + p) (s ++ t)) ≡ take n (drop p _) =
        ap (λ (l : Bytes). take n l) (sym (drop-drop p d (s ++ t)) ∙ ap (λ (l : Bytes). drop p l) (drop-append-le d s t h ∙ sym e)) in
        let f₂ : drop (p + n) _ ≡ drop (d + p + n) (s ++ t) =
        ap (λ (l : Bytes). drop (p + n) l) (e ∙ sym (drop-append-le d s t h)) ∙ drop-drop (p + n) d (s ++ t) ∙ ap (λ (k : ℕ). drop k (s ++ t)) (sym (add_assoc d p n)) in
        drained_at refl (ap (λ (y : Bytes). y ∷ fs) f₁) refl
        (hand (d + p) n (frame_dropped s t d h dead (subst (λ (y : Bytes). Leftmost R y p n) e A)) (drained_at f₂ refl refl D))

    -- working off s, and then t behind what is kept, is working off s with t behind it
    pub drained_join : {s r r' : Bytes} {fs gs : List Bytes} (t : Bytes) → Drained R s fs r → Drained R (r ++ t) gs r' → Drained R (s ++ t) (fs ++ gs) r'
    drained_join {s} t (keep d A) E = drained_drop s t d (stop_bound R s A.1) A.1.dead refl E
    drained_join {s} {gs = gs} t (hand {fs = fs} p n A D) E =
        let e₁ : drop (p + n) s ++ t ≡ drop (p + n) (s ++ t) = sym (drop-append-le (p + n) s t A.here.inside) in
        let e₂ : take n (drop p (s ++ t)) ≡ take n (drop p s) = part_more s t p n A.here.inside in
        drained_at refl (ap (λ (y : Bytes). y ∷ (fs ++ gs)) e₂) refl (hand p n (left_more R ok t A) (drained_at e₁ refl refl (drained_join t D E)))

    -- working off has one outcome
    pub drained_one : {s s' r r' : Bytes} {fs gs : List Bytes} → s ≡ s' → Drained R s fs r → Drained R s' gs r' → (fs ≡ gs) × (r ≡ r')
    drained_one {s} {s'} e (keep d A) (keep c B) =
        (refl, ap₂ (λ (x : Bytes) (k : ℕ). drop k x) e (unfinished_one R s' (subst (λ (x : Bytes). Unfinished R x d) e A.1) B.1))
    drained_one e (keep d A) (hand p n B E) = absurd (A.1.none p n (subst (λ (x : Bytes). GoodAt R x p n) (sym e) B.here))
    drained_one e (hand p n A D) (keep d B) = absurd (B.1.none p n (subst (λ (x : Bytes). GoodAt R x p n) e A.here))
    drained_one {s} {s'} e (hand p n A D) (hand q m B E) =
        let f = left_one R s' (subst (λ (x : Bytes). Leftmost R x p n) e A) B in
        let w = drained_one (ap (λ (x : Bytes). drop (p + n) x) e ∙ ap₂ (λ (i j : ℕ). drop (i + j) s') f.0 f.1) D E in (
          ap₂ (λ (x : Bytes) (y : List Bytes). x ∷ y)
              (ap (λ (x : Bytes). take n (drop p x)) e ∙ ap₂ (λ (i j : ℕ). take j (drop i s')) f.0 f.1) w.0,
          w.1,
        )

    -- and there is one
    drained_within : (k : ℕ) (s : Bytes) → length s < k → (fs : List Bytes) × ((r : Bytes) × Drained R s fs r)
    drained_within zero s h = absurd (omega arith)
    drained_within (suc k) s h = go (reads_of R ok s).0 (reads_of R ok s).1 (λ t. drained_within k t)
      where
        go : (a : Answer) → Reads R s a → ((t : Bytes) → length t < k → (fs : List Bytes) × ((r : Bytes) × Drained R t fs r)) → (fs : List Bytes) × ((r : Bytes) × Drained R s fs r)
        go (refusal j d) A later = ([], (drop d s, keep d (refl, A.1)))
        go (frame p n) A later =
            let w = later (drop (p + n) s) (omega (arith, length-drop (p + n) s, (good_at_length R A.here).0, A.here.inside)) in
            (take n (drop p s) ∷ w.0, (w.1.0, hand p n A w.1.1))

    pub drained_of : (s : Bytes) → (fs : List Bytes) × ((r : Bytes) × Drained R s fs r)
    drained_of s = drained_within (suc (length s)) s (omega arith)

    -- bytes of which nothing comes out are read late: as if what they keep had been kept
    pub drained_late : {q r r' : Bytes} {fs : List Bytes} (x : Bytes) → Drained R q [] r → Drained R (q ++ x) fs r' → Drained R (r ++ x) fs r'
    drained_late {r = r} x D E =
        let w = drained_of (r ++ x) in
        let e = drained_one refl (drained_join x D w.1.1) E in
        drained_at refl e.0 e.1 w.1.1

    -- what is kept, worked off again, is kept
    pub drained_again : {s r : Bytes} {fs : List Bytes} → Drained R s fs r → Drained R r [] r
    drained_again {s} (keep d A) =
        let K : Drained R s [] (drop d s) = keep d A in
        drained_at (append-nil (drop d s)) refl refl (drained_late [] K (drained_at (sym (append-nil s)) refl refl K))
    drained_again (hand p n A D) = drained_again D

    -- "the pending rest 2,074": less than a longest frame
    pub rest_short : (s : Bytes) {d : ℕ} → Unfinished R s d → length (drop d s) < longest R
    rest_short s {d} U = go U.stop
      where
        go : (d ≡ length s) ⊎ ((d < length s) × Live R s d) → length (drop d s) < longest R
        go (inl e) = omega (arith, length-drop d s)
        go (inr v) = fits (dec_le (d + v.1.size) (length s))
          where
            fits : Dec (d + v.1.size ≤ length s) → length (drop d s) < longest R
            fits (yes k) = absurd (U.none d v.1.size (good_less R s v.1.more v.1.good_at k))
            fits (no k) = omega (arith, length-drop d s, (good_at_length R v.1.good_at).1)

    pub drained_short : {s r : Bytes} {fs : List Bytes} → Drained R s fs r → length r < longest R
    drained_short {s} (keep d A) = rest_short s A.1
    drained_short (hand p n A D) = drained_short D
