-- The frames of a stream: there is one list of them, and around a good frame it is that of the front, the frame, that of the back (demand 3).
use Prim.Native.Nat.{ℕ, zero, suc, ◌+◌, ◌<◌}
use native.Mathlib.Omega.{arith}
use mathlib.Core.Path.{◌≡◌, refl, sym, ap, ap₂, ◌∙◌, subst}
use mathlib.Core.List.{List, [], ◌∷◌, ◌++◌}
use lib.ListN.{length, take, drop, length-drop}
use lib.Seq.{drop-append-le, drop-append_seam, take-append_seam, drop-drop}
use Rattle.octets.specs.Bytes.{Bytes}
use Rattle.octets.proofs.Lists.{part_more}
use Rattle.frame.specs.Frame.{Rule, Good, GoodAt}
use Rattle.frame.specs.Reading.{Answer, frame, refusal, Leftmost, Reads}
use Rattle.frame.specs.Mark.{MarkOk}
use Rattle.frame.specs.Stream.{Frames, rest, next}
use Rattle.frame.proofs.Good.{good_at_length}
use Rattle.frame.proofs.Unique.{left_one}
use Rattle.frame.proofs.Apart.{left_more, left_none}
use Rattle.frame.proofs.Readable.{reads_of}

module _ (R : Rule) where
  -- the same frames, of an equal stream
  pub frames_at : {s s' : Bytes} {fs fs' : List Bytes} → s ≡ s' → fs ≡ fs' → Frames R s fs → Frames R s' fs'
  frames_at {s} {s'} {fs} {fs'} e f h = subst (λ (x : Bytes). Frames R x fs') e (subst (λ (x : List Bytes). Frames R s x) f h)

  -- the frames of a stream are one list
  pub frames_one : {s s' : Bytes} {fs gs : List Bytes} → s ≡ s' → Frames R s fs → Frames R s' gs → fs ≡ gs
  frames_one e (rest c A) (rest d B) = refl
  frames_one e (rest c A) (next p n w B) = absurd (A.1.none p n (subst (λ (x : Bytes). GoodAt R x p n) (sym e) w.here))
  frames_one e (next p n w A) (rest d B) = absurd (B.1.none p n (subst (λ (x : Bytes). GoodAt R x p n) e w.here))
  frames_one {s} {s'} e (next p n w A) (next q m v B) =
      let f = left_one R s' (subst (λ (x : Bytes). Leftmost R x p n) e w) v in
      ap₂ (λ (x : Bytes) (y : List Bytes). x ∷ y)
      (ap (λ (x : Bytes). take n (drop p x)) e ∙ ap₂ (λ (i j : ℕ). take j (drop i s')) f.0 f.1)
      (frames_one (ap (λ (x : Bytes). drop (p + n) x) e ∙ ap₂ (λ (i j : ℕ). drop (i + j) s') f.0 f.1) A B)

  module _ (ok : MarkOk R.mark) where
    -- where no frame is whole there is a smallest live position, or the whole length
    pub clear_rest : (s : Bytes) → ((q m : ℕ) → GoodAt R s q m → ⊥) → (d : ℕ) × Reads R s (refusal 1 d)
    clear_rest s clear = go (reads_of R ok s).0 (reads_of R ok s).1
      where
        go : (a : Answer) → Reads R s a → (d : ℕ) × Reads R s (refusal 1 d)
        go (frame p n) A = absurd (clear p n A.here)
        go (refusal k d) A = (d, (refl, A.1))

    -- every stream has its frames
    frames_within : (k : ℕ) (s : Bytes) → length s < k → (fs : List Bytes) × Frames R s fs
    frames_within zero s h = absurd (omega arith)
    frames_within (suc k) s h = go (reads_of R ok s).0 (reads_of R ok s).1 (λ t. frames_within k t)
      where
        go : (a : Answer) → Reads R s a → ((t : Bytes) → length t < k → (fs : List Bytes) × Frames R t fs) → (fs : List Bytes) × Frames R s fs
        go (refusal j d) A later = ([], rest d (refl, A.1))
        go (frame p n) A later =
            let r = later (drop (p + n) s) (omega (arith, length-drop (p + n) s, (good_at_length R A.here).0, A.here.inside)) in
            (take n (drop p s) ∷ r.0, next p n A r.1)

    pub frames_of : (s : Bytes) → (fs : List Bytes) × Frames R s fs
    frames_of s = frames_within (suc (length s)) s (omega arith)

    pub frames : Bytes → List Bytes
    frames s = (frames_of s).0

    pub frames_are : {s : Bytes} {fs : List Bytes} → Frames R s fs → frames s ≡ fs
    unfolding frames
    frames_are {s} F = frames_one refl (frames_of s).1 F

    pub are_frames : (s : Bytes) → Frames R s (frames s)
    unfolding frames
    are_frames s = (frames_of s).1

    -- demand 3 for the relation
    pub frames_join : {a b : Bytes} {fs gs : List Bytes} (g : Bytes) → Good R g → Frames R a fs → Frames R b gs → Frames R (a ++ (g ++ b)) (fs ++ (g ∷ gs))
    frames_join {a} {b} {gs = gs} g G (rest d A) B =
        let e₁ : drop (length a + length g) (a ++ (g ++ b)) ≡ b =
        sym (drop-drop (length g) (length a) (a ++ (g ++ b))) ∙ ap (λ (l : Bytes). drop (length g) l) (drop-append_seam a (g ++ b)) ∙ drop-append_seam g b in
        let e₂ : take (length g) (drop (length a) (a ++ (g ++ b))) ≡ g =
        ap (λ (l : Bytes). take (length g) l) (drop-append_seam a (g ++ b)) ∙ take-append_seam g b in
        frames_at refl (ap (λ (x : Bytes). x ∷ gs) e₂) (next (length a) (length g) (left_none R ok a g b G A.1.none) (frames_at (sym e₁) refl B))
    frames_join {a} {b} {gs = gs} g G (next {fs = fs} p n w A) B =
        let x = g ++ b in
        let e₁ : drop (p + n) a ++ x ≡ drop (p + n) (a ++ x) = sym (drop-append-le (p + n) a x w.here.inside) in
        let e₂ : take n (drop p (a ++ x)) ≡ take n (drop p a) = part_more a x p n w.here.inside in
        frames_at refl (ap (λ (y : Bytes). y ∷ (fs ++ (g ∷ gs))) e₂) (next p n (left_more R ok x w) (frames_at e₁ refl (frames_join g G A B)))

    -- F4, DEMAND 3: "Any bytes, one good frame, any bytes: the frames of the whole are those of the front by itself, this frame, those of the
    -- back by itself."
    pub frames_around : (a g b : Bytes) → Good R g → frames (a ++ (g ++ b)) ≡ frames a ++ (g ∷ frames b)
    frames_around a g b G = frames_are (frames_join g G (are_frames a) (are_frames b))
