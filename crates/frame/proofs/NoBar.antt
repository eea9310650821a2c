-- Bytes without `|`: a good frame ends with one, so they end no frame, and reading can be left until more have come.
use Prim.Native.Nat.{ℕ, ◌+◌, ◌-◌, ◌≤◌, ◌<◌}
use native.Mathlib.Decide.{dec_le}
use native.Mathlib.Omega.{arith}
use mathlib.Core.Path.{◌≡◌, refl, sym, ap, ◌∙◌}
use mathlib.Core.Bool.{false, false≢true}
use mathlib.Core.List.{List, [], ◌∷◌, ◌++◌, append_assoc}
use lib.ListN.{length, drop, get_or, length-append}
use lib.Seq.{get_or-append-add}
use Rattle.octets.specs.Bytes.{Bytes, byte, has}
use Rattle.octets.proofs.Tests.{has_at}
use Rattle.frame.specs.Frame.{Rule, GoodAt}
use Rattle.frame.specs.Reading.{Answer, frame, refusal, Reads}
use Rattle.frame.specs.Mark.{MarkOk}
use Rattle.frame.specs.Stream.{Drained, keep, Fed, piece}
use Rattle.frame.proofs.Good.{good_at_length, good_less}
use Rattle.frame.proofs.Unique.{stop_bound}
use Rattle.frame.proofs.Apart.{good_end_at}
use Rattle.frame.proofs.Readable.{reads_of}
use Rattle.frame.proofs.Worked.{frame_dropped, rest_dropped, drained_at, drained_join, drained_late}

module _ (R : Rule) where
  -- where no frame is whole, none gets whole by them
  none_more : (s x : Bytes) → has x (byte "|") ≡ false → ((q m : ℕ) → GoodAt R s q m → ⊥) → (q m : ℕ) → GoodAt R (s ++ x) q m → ⊥
  none_more s x bar none q m G = go (dec_le (q + m) (length s))
    where
      go : Dec (q + m ≤ length s) → ⊥
      go (yes k) = none q m (good_less R s x G k)
      go (no k) =
          let i : ℕ = q + m - 1 - length s in
          let h : i < length x = omega (arith, G.inside, length-append s x, (good_at_length R G).0) in
          let e : length s + i ≡ q + m - 1 = omega arith in
          let b : get_or x i 0 ≡ 1 = sym (get_or-append-add s x i 0) ∙ ap (λ (j : ℕ). get_or (s ++ x) j 0) e ∙ (good_end_at R G).0 in
          false≢true (sym bar ∙ ap (λ (c : ℕ). has x c) (sym b) ∙ has_at x i h)

  module _ (ok : MarkOk R.mark) where
    -- refusal 1 comes again, behind all that was read and behind what was left of it
    pub refused_again : (s x : Bytes) (d : ℕ) → Reads R s (refusal 1 d) → has x (byte "|") ≡ false → (e : ℕ) × (Reads R (s ++ x) (refusal 1 (d + e)) × Reads R (drop d s ++ x) (refusal 1 e))
    refused_again s x d A bar = go (reads_of R ok (drop d s ++ x)).0 (reads_of R ok (drop d s ++ x)).1
      where
        go : (a : Answer) → Reads R (drop d s ++ x) a → (e : ℕ) × (Reads R (s ++ x) (refusal 1 (d + e)) × Reads R (drop d s ++ x) (refusal 1 e))
        go (frame p n) L = absurd (none_more s x bar A.1.none (d + p) n (frame_dropped R s x d (stop_bound R s A.1) A.1.dead L).here)
        go (refusal k e) U = (e, ((refl, rest_dropped R s x d (stop_bound R s A.1) A.1.dead U.1), (refl, U.1)))

    -- behind bytes q of which r is kept: nothing comes out, and the same is kept
    pub none_drained : {q r : Bytes} (x : Bytes) → has x (byte "|") ≡ false → Drained R q [] r → (r' : Bytes) × (Drained R (r ++ x) [] r' × Drained R (q ++ x) [] r')
    none_drained {q} x bar (keep d A) =
        let w = refused_again q x d A bar in
        let E = keep w.0 w.1.1 in
        (drop w.0 (drop d q ++ x), (E, drained_join R ok x (keep d A) E))

    -- they may as well come with the next piece
    pub with_the_next : {r r' : Bytes} {xs : List Bytes} {fss : List (List Bytes)} {d : ℕ} (x y : Bytes) → Reads R r (refusal 1 d) → has x (byte "|") ≡ false → Fed R r ((x ++ y) ∷ xs) fss r' → Fed R r (x ∷ y ∷ xs) ([] ∷ fss) r'
    with_the_next {r} {d = d} x y A bar (piece D F) =
        let E = (none_drained x bar (keep d A)).1.1 in
        piece E (piece (drained_late R ok y E (drained_at R (sym (append_assoc r x y)) refl refl D)) F)
