-- The host's loop "put, read, drop, until refusal 1" over a lent buffer is the document's reading in pieces, it ends, and it has one outcome.
use Prim.Native.Nat.{ℕ, zero, suc, ◌+◌, ◌-◌, ◌≤◌, ◌<◌}
use native.Mathlib.Decide.{dec_le}
use native.Mathlib.Omega.{arith}
use mathlib.Core.Path.{◌≡◌, refl, sym, ap, ap₂, ◌∙◌, subst}
use mathlib.Core.List.{List, [], ◌∷◌, ◌++◌, append_assoc}
use lib.ListN.{length, take, drop, length-append, length-drop, take-append-drop}
use lib.Seq.{take_at, take_all, length-take-le, length-paste, take-paste}
use borrow.Author.Tests.{le-leb, lt-leb}
use Rattle.octets.specs.Bytes.{Bytes}
use Rattle.frame.specs.Frame.{Rule, longest}
use Rattle.frame.specs.Reading.{Answer, frame, refusal, Leftmost, Unfinished, Reads}
use Rattle.frame.specs.Mark.{MarkOk}
use Rattle.frame.specs.Stream.{Drained, Fed, keep, hand, end, piece}
use Rattle.frame.proofs.Good.{good_at_length}
use Rattle.frame.proofs.Unique.{left_one, unfinished_one}
use Rattle.frame.proofs.Readable.{reads_of}
use Rattle.frame.proofs.Worked.{drained_at, drained_join, drained_short}
use Rattle.line.specs.Line.{Line, pending, room, fitting, put, dropped, Worked, Taken, Hosted}
use Rattle.line.specs.Line as L
use Rattle.line.specs.Promise.{Within, Lent}

-- ---- the two calls
fitting-whole : (l : Line) (x : Bytes) → length x ≤ room l → fitting l x ≡ length x
fitting-whole l x h = rw (le-leb (length x) (room l) h)

pub fitting-full : (l : Line) (x : Bytes) → room l ≤ length x → fitting l x ≡ room l
fitting-full l x h = go (dec_le (length x) (room l))
  where
    go : Dec (length x ≤ room l) → fitting l x ≡ room l
    go (yes k) = fitting-whole l x k ∙ omega arith
    go (no k) = rw (lt-leb (length x) (room l) (omega arith))

fitting_bounds : (l : Line) (x : Bytes) → (fitting l x ≤ length x) × (fitting l x ≤ room l)
fitting_bounds l x = go (dec_le (length x) (room l))
  where
    go : Dec (length x ≤ room l) → (fitting l x ≤ length x) × (fitting l x ≤ room l)
    go (yes h) = omega (arith, fitting-whole l x h)
    go (no h) = omega (arith, fitting-full l x (omega arith))

pub put_fits : (l : Line) (x : Bytes) → Within l → (length (put l x).buffer ≡ length l.buffer) × Within (put l x)
unfolding put
put_fits l x h =
    let b = fitting_bounds l x in
    let e = length-paste l.buffer l.held x (fitting l x) (omega arith) b.0 in
    (e, omega (arith, e))

pub put_pending : (l : Line) (x : Bytes) → Within l → pending (put l x) ≡ pending l ++ take (fitting l x) x
unfolding put
put_pending l x h = take-paste l.buffer l.held x (fitting l x) h (fitting_bounds l x).0

-- a piece that fits is put whole
pub put_whole : (l : Line) (x : Bytes) → Within l → length x ≤ room l → pending (put l x) ≡ pending l ++ x
put_whole l x h f = put_pending l x h ∙ ap (λ (y : Bytes). pending l ++ y) (take_all (fitting l x) x (omega (arith, fitting-whole l x f)))

pub put_room : (l : Line) (x : Bytes) → Within l → length x ≤ room l → room (put l x) ≡ room l - length x
unfolding put
put_room l x h f = omega (arith, (put_fits l x h).0, fitting-whole l x f)

pub pending-fits : (l : Line) → Within l → length (pending l) ≡ l.held
pending-fits l h = length-take-le l.held l.buffer h

pub dropped-fits : (l : Line) (n : ℕ) → Within l → (length (dropped l n).buffer ≡ length l.buffer) × Within (dropped l n)
unfolding dropped
dropped-fits l n h =
    let p = pending-fits l h in
    let k : ℕ = length (pending l) - n in
    let e : length (drop n (pending l) ++ drop k l.buffer) ≡ length l.buffer =
    length-append (drop n (pending l)) (drop k l.buffer) ∙ ap₂ (λ (i j : ℕ). i + j) (length-drop n (pending l)) (length-drop k l.buffer) ∙ omega arith in
    (e, omega (arith, e))

pub dropped-pending : (l : Line) (n : ℕ) → pending (dropped l n) ≡ drop n (pending l)
unfolding dropped
dropped-pending l n = take_at (drop n (pending l)) (drop (length (pending l) - n) l.buffer) (length (pending l) - n) (length-drop n (pending l))

module _ (R : Rule) where
  -- ---- the loop is the document's
  pub record Kept (l l' : Line) : Type 0 where
    pub same : length l'.buffer ≡ length l.buffer
    pub fits : Within l'

  pub worked_kept : {l l' : Line} {fs : List Bytes} → Within l → Worked R l fs l' → Kept l l'
  worked_kept {l} h (L.keep d A) = let f = dropped-fits l d h in record { same = f.0; fits = f.1 }
  worked_kept {l} h (L.hand p n A W) =
      let f = dropped-fits l (p + n) h in
      let k = worked_kept f.1 W in
      record { same = k.same ∙ f.0; fits = k.fits }

  pub worked_drained : {l l' : Line} {fs : List Bytes} → Worked R l fs l' → Drained R (pending l) fs (pending l')
  worked_drained {l} (L.keep d A) = drained_at R refl refl (sym (dropped-pending l d)) (keep d A)
  worked_drained {l} (L.hand p n A W) = hand p n A (drained_at R (dropped-pending l (p + n)) refl refl (worked_drained W))

  -- ---- the loop has one outcome
  pub worked_one : {l l₂ m n : Line} {fs gs : List Bytes} → l ≡ l₂ → Worked R l fs m → Worked R l₂ gs n → (fs ≡ gs) × (m ≡ n)
  worked_one {l} {l₂} e (L.keep d A) (L.keep c B) =
      (refl, ap₂ (λ (x : Line) (k : ℕ). dropped x k) e (unfinished_one R (pending l₂) (subst (λ (x : Line). Unfinished R (pending x) d) e A.1) B.1))
  worked_one e (L.keep d A) (L.hand p n B X) = absurd (A.1.none p n (subst (λ (x : Line). Leftmost R (pending x) p n) (sym e) B).here)
  worked_one e (L.hand p n A W) (L.keep d B) = absurd (B.1.none p n (subst (λ (x : Line). Leftmost R (pending x) p n) e A).here)
  worked_one {l} {l₂} e (L.hand p n A W) (L.hand q m B X) =
      let f = left_one R (pending l₂) (subst (λ (x : Line). Leftmost R (pending x) p n) e A) B in
      let w = worked_one (ap (λ (x : Line). dropped x (p + n)) e ∙ ap₂ (λ (i j : ℕ). dropped l₂ (i + j)) f.0 f.1) W X in (
        ap₂ (λ (x : Bytes) (y : List Bytes). x ∷ y)
            (ap (λ (x : Line). take n (drop p (pending x))) e ∙ ap₂ (λ (i j : ℕ). take j (drop i (pending l₂))) f.0 f.1) w.0,
        w.1,
      )

  taken_one : {l l₂ m n : Line} {x x₂ : Bytes} {fs gs : List Bytes} → l ≡ l₂ → x ≡ x₂ → Taken R l x fs m → Taken R l₂ x₂ gs n → (fs ≡ gs) × (m ≡ n)
  taken_one e f (L.all h W) (L.all k X) = worked_one (ap₂ put e f) W X
  taken_one e f (L.all h W) (L.some k X U) = absurd (omega (arith, h, k, ap room e, ap length f))
  taken_one e f (L.some h W T) (L.all k X) = absurd (omega (arith, h, k, ap room e, ap length f))
  taken_one e f (L.some h W T) (L.some k X U) =
      let w = worked_one (ap₂ put e f) W X in
      let t = taken_one w.1 (ap₂ (λ (y : Line) (z : Bytes). drop (fitting y z) z) e f) T U in
      (ap₂ (λ (y z : List Bytes). y ++ z) w.0 t.0, t.1)

  pub hosted_one : {l l₂ m n : Line} {xs : List Bytes} {fss gss : List (List Bytes)} → l ≡ l₂ → Hosted R l xs fss m → Hosted R l₂ xs gss n → (fss ≡ gss) × (m ≡ n)
  hosted_one e L.end L.end = (refl, e)
  hosted_one e (L.piece T H) (L.piece U I) =
      let t = taken_one e refl T U in
      let h = hosted_one t.1 H I in
      (ap₂ (λ (y : List Bytes) (z : List (List Bytes)). y ∷ z) t.0 h.0, h.1)

  module _ (ok : MarkOk R.mark) where
    pub taken_kept : {l l' : Line} {x : Bytes} {fs : List Bytes} → Within l → Taken R l x fs l' → Kept l l'
    taken_kept {l} {x = x} h (L.all f W) =
        let p = put_fits l x h in
        let k = worked_kept p.1 W in
        record { same = k.same ∙ p.0; fits = k.fits }
    taken_kept {l} {x = x} h (L.some f W T) =
        let p = put_fits l x h in
        let k = worked_kept p.1 W in
        let m = taken_kept k.fits T in
        record { same = m.same ∙ k.same ∙ p.0; fits = m.fits }

    -- the loop for one piece is "puts each piece behind the pending rest, reads and drops until refusal 1, and keeps what isn't dropped"
    pub taken_drained : {l l' : Line} {x : Bytes} {fs : List Bytes} → Within l → Taken R l x fs l' → Drained R (pending l ++ x) fs (pending l')
    taken_drained {l} {x = x} h (L.all f W) = drained_at R (put_whole l x h f) refl refl (worked_drained W)
    taken_drained {l} {x = x} h (L.some f W T) =
        let k = worked_kept (put_fits l x h).1 W in
        let x₁ = take (fitting l x) x in
        let x₂ = drop (fitting l x) x in
        let D = drained_at R (put_pending l x h) refl refl (worked_drained W) in
        drained_at R (append_assoc (pending l) x₁ x₂ ∙ ap (λ (y : Bytes). pending l ++ y) (take-append-drop (fitting l x) x)) refl refl
        (drained_join R ok x₂ D (taken_drained k.fits T))

    -- the loop for a row of pieces
    pub hosted_fed : {l l' : Line} {xs : List Bytes} {fss : List (List Bytes)} → Within l → Hosted R l xs fss l' → Fed R (pending l) xs fss (pending l')
    hosted_fed h L.end = end
    hosted_fed h (L.piece T H) = piece (taken_drained h T) (hosted_fed (taken_kept h T).fits H)

    pub hosted_kept : {l l' : Line} {xs : List Bytes} {fss : List (List Bytes)} → Within l → Hosted R l xs fss l' → Kept l l'
    hosted_kept h L.end = record { same = refl; fits = h }
    hosted_kept h (L.piece T H) =
        let k = taken_kept h T in
        let m = hosted_kept k.fits H in
        record { same = m.same ∙ k.same; fits = m.fits }

    -- ---- the loop ends
    worked_within : (k : ℕ) (l : Line) → length (pending l) < k → (fs : List Bytes) × ((l' : Line) × Worked R l fs l')
    worked_within zero l h = absurd (omega arith)
    worked_within (suc k) l h = go (reads_of R ok (pending l)).0 (reads_of R ok (pending l)).1 (λ m. worked_within k m)
      where
        go : (a : Answer) → Reads R (pending l) a → ((m : Line) → length (pending m) < k → (fs : List Bytes) × ((l' : Line) × Worked R m fs l')) → (fs : List Bytes) × ((l' : Line) × Worked R l fs l')
        go (refusal j d) A later = ([], (dropped l d, L.keep d (refl, A.1)))
        go (frame p n) A later =
            let e = ap length (dropped-pending l (p + n)) ∙ length-drop (p + n) (pending l) in
            let w = later (dropped l (p + n)) (omega (arith, e, (good_at_length R A.here).0, A.here.inside)) in
            (take n (drop p (pending l)) ∷ w.0, (w.1.0, L.hand p n A w.1.1))

    pub worked_of : (l : Line) → (fs : List Bytes) × ((l' : Line) × Worked R l fs l')
    worked_of l = worked_within (suc (length (pending l))) l (omega arith)

    kept_lent : {l l' : Line} → Lent R l → Kept l l' → Lent R l'
    kept_lent r k = record { within = k.fits; wide = omega (arith, r.wide, k.same) }

    pub put_lent : (l : Line) (x : Bytes) → Lent R l → Lent R (put l x)
    put_lent l x r = let p = put_fits l x r.within in record { within = p.1; wide = omega (arith, r.wide, p.0) }

    -- a lent line on which less than a longest frame is pending, as it is when it has been worked off
    pub record Ready (l : Line) : Type 0 where
      pub lent : Lent R l
      pub short : l.held < longest R

    pub worked_ready : {l l' : Line} {fs : List Bytes} → Lent R l → Worked R l fs l' → Ready l'
    worked_ready {l} {l'} r W =
        let k = worked_kept r.within W in
        record { lent = kept_lent r k; short = omega (arith, drained_short R ok (worked_drained W), pending-fits l' k.fits) }

    abbrev TakenSome : Line → Bytes → Type 0
    TakenSome l x = (fs : List Bytes) × ((l' : Line) × Taken R l x fs l')

    -- one turn, and the further ones where the piece does not fit
    taken_turn : (l : Line) (x : Bytes) → Lent R l → (room l < length x → (m : Line) → Ready m → TakenSome m (drop (fitting l x) x)) → TakenSome l x
    taken_turn l x r later = go (dec_le (length x) (room l)) (worked_of (put l x))
      where
        go : Dec (length x ≤ room l) → (fs : List Bytes) × ((l' : Line) × Worked R (put l x) fs l') → TakenSome l x
        go (yes f) w = (w.0, (w.1.0, L.all f w.1.1))
        go (no f) w =
            let more : room l < length x = omega arith in
            let v = later more w.1.0 (worked_ready (put_lent l x r) w.1.1) in
            (w.0 ++ v.0, (v.1.0, L.some {x = x} more w.1.1 v.1.1))

    -- a turn on a line that is ready takes at least one byte of the piece, so the loop ends
    taken_within : (k : ℕ) (l : Line) (x : Bytes) → Ready l → length x < k → TakenSome l x
    taken_within zero l x r h = absurd (omega arith)
    taken_within (suc k) l x r h = taken_turn l x r.lent (λ more m q. taken_within k m (drop (fitting l x) x) q (less more))
      where
        less : room l < length x → length (drop (fitting l x) x) < k
        less more = omega (arith, length-drop (fitting l x) x, fitting-full l x (omega arith), r.short, r.lent.wide)

    pub taken_of : (l : Line) (x : Bytes) → Lent R l → TakenSome l x
    taken_of l x r = taken_turn l x r (λ more m q. taken_within (suc (length (drop (fitting l x) x))) m (drop (fitting l x) x) q (omega arith))

    pub hosted_lent : {l l' : Line} {xs : List Bytes} {fss : List (List Bytes)} → Lent R l → Hosted R l xs fss l' → Lent R l'
    hosted_lent r H = kept_lent r (hosted_kept r.within H)

    pub hosted_of : (l : Line) (xs : List Bytes) → Lent R l → (fss : List (List Bytes)) × ((l' : Line) × Hosted R l xs fss l')
    hosted_of l [] r = ([], (l, L.end))
    hosted_of l (x ∷ xs) r =
        let w = taken_of l x r in
        let v = hosted_of w.1.0 xs (kept_lent r (taken_kept r.within w.1.1)) in
        (w.0 ∷ v.0, (v.1.0, L.piece w.1.1 v.1.1))
