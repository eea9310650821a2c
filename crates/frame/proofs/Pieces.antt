-- F5: reading in pieces. However a stream is cut, the frames that come out, and when, and the rest that stays, are those of the whole.
use Prim.Native.Nat.{ℕ, zero, suc, ◌+◌, ◌-◌, ◌≤◌, ◌<◌}
use native.Mathlib.Decide.{dec_le, dec_lt}
use native.Mathlib.Omega.{arith}
use mathlib.Core.Path.{◌≡◌, refl, sym, ap, ap₂, ◌∙◌, subst}
use mathlib.Core.List.{List, [], ◌∷◌, ◌++◌, append_assoc, append-nil, append_cancel_left}
use lib.ListN.{length, take, drop, get_or, length-append, take-append-drop}
use lib.Seq.{take_at, take_all, take-suc, take-append-le, drop-append-le}
use Rattle.octets.specs.Bytes.{Bytes}
use Rattle.octets.proofs.Lists.{part_more}
use Rattle.frame.specs.Frame.{Rule, Good, GoodAt, longest}
use Rattle.frame.specs.Mark.{MarkOk}
use Rattle.frame.specs.Stream.{Frames, rest, next, Drained, keep, Fed, end, piece, joined}
use Rattle.frame.specs.Promise.{EndsIn, ComesOut}
use Rattle.frame.proofs.Good.{good_at_length, good_more, good_less, good_unique, good_here}
use Rattle.frame.proofs.Apart.{apart, left_more}
use Rattle.frame.proofs.Streams.{frames, frames_at, frames_are, are_frames, frames_around, clear_rest}
use Rattle.frame.proofs.Worked.{drained_at, drained_frames, drained_join, drained_of, drained_one, drained_short}

-- pieces, and further pieces
pub joined-append : {A : Type 0} (xs ys : List (List A)) → joined (xs ++ ys) ≡ joined xs ++ joined ys
joined-append [] ys = refl
joined-append (x ∷ xs) ys = ap (λ l. x ++ l) (joined-append xs ys) ∙ sym (append_assoc x (joined xs) (joined ys))

pub one_more : {A : Type 0} (xs : List (List A)) (k : ℕ) (d : List A) → k < length xs → joined (take (suc k) xs) ≡ joined (take k xs) ++ get_or xs k d
one_more xs k d h =
    ap joined (take-suc xs k d h) ∙ joined-append (take k xs) (get_or xs k d ∷ []) ∙ ap (λ l. joined (take k xs) ++ l) (append-nil (get_or xs k d))

-- of two ways to write one list, the shorter beginning begins the longer
begins : (s x a c : Bytes) → s ++ x ≡ a ++ c → length s ≤ length a → a ≡ s ++ drop (length s) a
begins s x a c e h =
    sym (take-append-drop (length s) a)
    ∙ ap (λ (y : Bytes). y ++ drop (length s) a) (sym (take-append-le (length s) a c h) ∙ ap (λ (y : Bytes). take (length s) y) (sym e) ∙ take_at s x (length s) refl)

module _ (R : Rule) where
  pub fed_length : {r r' : Bytes} {xs : List Bytes} {fss : List (List Bytes)} → Fed R r xs fss r' → length fss ≡ length xs
  fed_length end = refl
  fed_length (piece D F) = ap suc (fed_length F)

  -- the first k pieces by themselves
  pub fed_take : {r r' : Bytes} {xs : List Bytes} {fss : List (List Bytes)} (k : ℕ) → Fed R r xs fss r' → (r'' : Bytes) × Fed R r (take k xs) (take k fss) r''
  fed_take {r} zero F = (r, end)
  fed_take {r} (suc k) end = (r, end)
  fed_take (suc k) (piece D F) = let w = fed_take k F in (w.0, piece D w.1)

  module _ (ok : MarkOk R.mark) where
    -- a stream worked off up to here, and then in pieces
    pub fed_drained : {s r r' : Bytes} {fs xs : List Bytes} {fss : List (List Bytes)} → Drained R s fs r → Fed R r xs fss r' → Drained R (s ++ joined xs) (fs ++ joined fss) r'
    fed_drained {s} {fs = fs} D end = drained_at R (sym (append-nil s)) (sym (append-nil fs)) refl D
    fed_drained {s} {fs = fs} D (piece {x = x} {xs = xs} {fs = gs} {fss = fss} E F) =
        drained_at R (append_assoc s x (joined xs)) (append_assoc fs gs (joined fss)) refl (fed_drained (drained_join R ok x D E) F)

    -- no bytes, worked off
    pub nothing_drained : Drained R [] [] []
    nothing_drained =
        let w = clear_rest R ok [] (λ q m G. omega (arith, G.inside, (good_at_length R G).0)) in
        subst (λ (y : Bytes). Drained R [] [] y) (drop_none w.0) (keep w.0 w.1)
      where
        drop_none : (k : ℕ) → ◌≡◌ {A = Bytes} (drop k []) []
        drop_none zero = refl
        drop_none (suc k) = refl

    -- all pieces together are worked off as the stream they make
    pub fed_whole : {xs : List Bytes} {fss : List (List Bytes)} {r : Bytes} → Fed R [] xs fss r → Drained R (joined xs) (joined fss) r
    fed_whole F = fed_drained nothing_drained F

    -- F5: after each piece exactly the frames of all bytes so far have come out
    pub frames_so_far : {xs : List Bytes} {fss : List (List Bytes)} {r : Bytes} → Fed R [] xs fss r → (k : ℕ) → joined (take k fss) ≡ frames R ok (joined (take k xs))
    frames_so_far F k = sym (frames_are R ok (drained_frames R (fed_whole (fed_take k F).1)))

    -- F5: "for every cutting the frames and their order are those of the whole"
    pub frames_cut : {xs : List Bytes} {fss : List (List Bytes)} {r : Bytes} → Fed R [] xs fss r → joined fss ≡ frames R ok (joined xs)
    frames_cut F = sym (frames_are R ok (drained_frames R (fed_whole F)))

    -- F5: less than a longest frame stays
    pub fed_short : {xs : List Bytes} {fss : List (List Bytes)} {r : Bytes} → Fed R [] xs fss r → length r < longest R
    fed_short F = drained_short R ok (fed_whole F)

    -- a cutting has one outcome
    pub fed_one : {r q r' q' : Bytes} {xs : List Bytes} {fss gss : List (List Bytes)} → r ≡ q → Fed R r xs fss r' → Fed R q xs gss q' → (fss ≡ gss) × (r' ≡ q')
    fed_one e end end = (refl, e)
    fed_one e (piece {x = x} D F) (piece E H) =
        let d = drained_one R ok (ap (λ (y : Bytes). y ++ x) e) D E in
        let f = fed_one d.1 F H in
        (ap₂ (λ (y : List Bytes) (z : List (List Bytes)). y ∷ z) d.0 f.0, f.1)

    -- every cutting has its outcome
    pub fed_of : (r : Bytes) (xs : List Bytes) → (fss : List (List Bytes)) × ((r' : Bytes) × Fed R r xs fss r')
    fed_of r [] = ([], (r, end))
    fed_of r (x ∷ xs) =
        let D = drained_of R ok (r ++ x) in
        let w = fed_of D.1.0 xs in
        (D.0 ∷ w.0, (w.1.0, piece D.1.1 w.1.1))

    -- ---- when a frame comes out
    -- the frames of a beginning begin the frames
    pub frames_more : (s t : Bytes) → (gs : List Bytes) × (frames R ok (s ++ t) ≡ frames R ok s ++ gs)
    frames_more s t =
        let D = drained_of R ok s in
        let E = drained_of R ok (D.1.0 ++ t) in
        (E.0, frames_are R ok (drained_frames R (drained_join R ok t D.1.1 E.1.1)) ∙ ap (λ (l : List Bytes). l ++ E.0) (sym (frames_are R ok (drained_frames R D.1.1))))

    -- a good frame that is not yet whole brings nothing out
    begun_none : {a : Bytes} {fs : List Bytes} (g₀ g₁ : Bytes) → Good R (g₀ ++ g₁) → 0 < length g₁ → Frames R a fs → Frames R (a ++ g₀) fs
    begun_none {a} g₀ g₁ G h (rest d A) = let w = clear_rest R ok (a ++ g₀) none in rest w.0 w.1
      where
        g : Bytes
        g = g₀ ++ g₁

        H : GoodAt R (a ++ (g ++ [])) (length a) (length g)
        H = good_here R a g [] G

        longer : {q m : ℕ} → GoodAt R (a ++ g₀) q m → GoodAt R (a ++ (g ++ [])) q m
        longer {q} {m} F = subst (λ (x : Bytes). GoodAt R x q m) (regroup a g₀ g₁) (good_more R g₁ F)
          where
            regroup : (x y z : Bytes) → x ++ y ++ z ≡ x ++ ((y ++ z) ++ [])
            regroup x y z = append_assoc x y z ∙ ap (λ (l : Bytes). x ++ l) (sym (append-nil (y ++ z)))

        size : length g ≡ length g₀ + length g₁
        size = length-append g₀ g₁

        none : (q m : ℕ) → GoodAt R (a ++ g₀) q m → ⊥
        none q m F = go (dec_le (q + m) (length a)) (dec_lt q (length a)) (dec_lt (length a) q)
          where
            go : Dec (q + m ≤ length a) → Dec (q < length a) → Dec (length a < q) → ⊥
            go (yes k) _ _ = A.1.none q m (good_less R a g₀ F k)
            go (no k) (yes l) _ = apart R ok (longer F) H l (omega arith)
            go (no k) (no l) (yes y) = apart R ok H (longer F) y (omega (arith, F.inside, (good_at_length R F).0, length-append a g₀, size))
            go (no k) (no l) (no y) =
                let e : q ≡ length a = omega arith in
                omega (arith, good_unique R (subst (λ (x : ℕ). GoodAt R (a ++ (g ++ [])) x m) e (longer F)) H, F.inside, length-append a g₀, size)
    begun_none {a} g₀ g₁ G h (next {fs = fs} p n w A) =
        let e₁ : drop (p + n) a ++ g₀ ≡ drop (p + n) (a ++ g₀) = sym (drop-append-le (p + n) a g₀ w.here.inside) in
        let e₂ : take n (drop p (a ++ g₀)) ≡ take n (drop p a) = part_more a g₀ p n w.here.inside in
        frames_at R refl (ap (λ (y : Bytes). y ∷ fs) e₂) (next p n (left_more R ok g₀ w) (frames_at R e₁ refl (begun_none g₀ g₁ G h A)))

    -- the frames of a stream that ends before g is whole begin those of what stands in front of g
    frames_before : (s x a g b : Bytes) → Good R g → s ++ x ≡ a ++ (g ++ b) → length s < length a + length g → (us : List Bytes) × (frames R ok a ≡ frames R ok s ++ us)
    frames_before s x a g b G e l = go (dec_le (length s) (length a))
      where
        go : Dec (length s ≤ length a) → (us : List Bytes) × (frames R ok a ≡ frames R ok s ++ us)
        go (yes h) =
            let a' = drop (length s) a in
            let w = frames_more s a' in
            (w.0, ap (λ (y : Bytes). frames R ok y) (begins s x a (g ++ b) e h) ∙ w.1)
        go (no h) =
            let g₀ = drop (length a) s in
            let f : s ≡ a ++ g₀ = begins a (g ++ b) s x (sym e) (omega arith) in
            let k : length s ≡ length a + length g₀ = ap length f ∙ length-append a g₀ in
            let e' : g₀ ++ x ≡ g ++ b = append_cancel_left a _ _ (sym (append_assoc a g₀ x) ∙ ap (λ (y : Bytes). y ++ x) (sym f) ∙ e) in
            let g₁ = drop (length g₀) g in
            let f' : g ≡ g₀ ++ g₁ = begins g₀ x g b e' (omega arith) in
            let k' : length g ≡ length g₀ + length g₁ = ap length f' ∙ length-append g₀ g₁ in
            let F = begun_none g₀ g₁ (subst (λ (y : Bytes). Good R y) f' G) (omega arith) (are_frames R ok a) in
            ([], sym (append-nil (frames R ok s) ∙ ap (λ (y : Bytes). frames R ok y) f ∙ frames_are R ok F))

    -- a piece that is there, by which g has ended, and the bytes up to its end
    ends_in : {xs : List Bytes} {k : ℕ} {a g b : Bytes} → EndsIn xs k a g b → (k < length xs) × ((b' : Bytes) × (joined (take (suc k) xs) ≡ a ++ (g ++ b')))
    ends_in {xs} {k} {a} {g} {b} E = (there (dec_lt k (length xs)), (b', e ∙ append_assoc a g b'))
      where
        s : Bytes
        s = joined (take (suc k) xs)

        b' : Bytes
        b' = drop (length (a ++ g)) s

        whole : a ++ g ++ b ≡ s ++ joined (drop (suc k) xs)
        whole =
            append_assoc a g b ∙ sym E.stream ∙ ap joined (sym (take-append-drop (suc k) xs)) ∙ joined-append (take (suc k) xs) (drop (suc k) xs)

        e : s ≡ a ++ g ++ b'
        e = begins (a ++ g) b s (joined (drop (suc k) xs)) whole (omega (arith, length-append a g, E.by_then))

        there : Dec (k < length xs) → k < length xs
        there (yes l) = l
        there (no l) =
            let f : take k xs ≡ take (suc k) xs = take_all k xs (omega arith) ∙ sym (take_all (suc k) xs (omega arith)) in
            absurd (omega (arith, E.not_before, E.by_then, ap (λ (ys : List Bytes). length (joined ys)) f))

    -- F5, demand 3: "However the stream is cut, the good frame comes out while the piece with its last byte is worked off"
    pub comes_out : {xs : List Bytes} {fss : List (List Bytes)} {r : Bytes} → Fed R [] xs fss r → (k : ℕ) (a g b : Bytes) → Good R g → EndsIn xs k a g b → ComesOut R fss k a g
    comes_out {xs} {fss} F k a g b G E =
        let h = (ends_in E).0 in
        let b' = (ends_in E).1.0 in
        let e = (ends_in E).1.1 in
        let s = joined (take k xs) in
        let x = get_or xs k [] in
        let s' : joined (take (suc k) xs) ≡ s ++ x = one_more xs k [] h in
        let w = frames_before s x a g b' G (sym s' ∙ e) E.not_before in
        let p : joined (take k fss) ≡ frames R ok s = frames_so_far F k in
        let q : frames R ok s ++ get_or fss k [] ≡ frames R ok s ++ (w.0 ++ (g ∷ frames R ok b')) =
        ap (λ (y : List Bytes). y ++ get_or fss k []) (sym p)
        ∙ sym (one_more fss k [] (omega (arith, fed_length F)))
        ∙ frames_so_far F (suc k)
        ∙ ap (λ (y : Bytes). frames R ok y) e
        ∙ frames_around R ok a g b' G
        ∙ ap (λ (y : List Bytes). y ++ (g ∷ frames R ok b')) w.1
        ∙ append_assoc (frames R ok s) w.0 (g ∷ frames R ok b') in
        record {
          before = w.0;
          after = frames R ok b';
          here = append_cancel_left (frames R ok s) _ _ q;
          behind = frames_at R refl (w.1 ∙ ap (λ (y : List Bytes). y ++ w.0) (sym p)) (are_frames R ok a);
        }

-- of bytes cut into pieces, the n-th is in one of them
piece_of : (xs : List Bytes) (n : ℕ) → 0 < n → n ≤ length (joined xs) → (k : ℕ) × ((length (joined (take k xs)) < n) × (n ≤ length (joined (take (suc k) xs))))
piece_of [] n h l = absurd (omega arith)
piece_of (x ∷ xs) n h l = go (dec_le n (length x)) (λ i. piece_of xs (n - length x) i)
  where
    go : Dec (n ≤ length x)
        → (0 < n - length x → n - length x ≤ length (joined xs) → (k : ℕ) × ((length (joined (take k xs)) < n - length x) × (n - length x ≤ length (joined (take (suc k) xs)))))
        → (k : ℕ) × ((length (joined (take k (x ∷ xs))) < n) × (n ≤ length (joined (take (suc k) (x ∷ xs)))))
    go (yes y) later = (0, (h, omega (arith, length-append x [])))
    go (no y) later =
        let w = later (omega arith) (omega (arith, l, length-append x (joined xs))) in
        (suc w.0, (omega (arith, w.1.0, length-append x (joined (take w.0 xs))), omega (arith, w.1.1, length-append x (joined (take (suc w.0) xs)))))

-- the last byte of some bytes g is in a piece
pub some_piece : (xs : List Bytes) (a g b : Bytes) → 0 < length g → joined xs ≡ a ++ (g ++ b) → (k : ℕ) × EndsIn xs k a g b
some_piece xs a g b h e =
    let w = piece_of xs (length a + length g) (omega arith) (omega (arith, ap length e, length-append a (g ++ b), length-append g b)) in
    (w.0, record { stream = e; not_before = w.1.0; by_then = w.1.1 })
