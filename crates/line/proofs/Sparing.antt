-- The host's loop that reads only where a frame may have ended: its frames are those of reading in pieces, it ends, and it has one outcome.
use Prim.Native.Nat.{ℕ, zero, suc, ◌≤◌, ◌<◌}
use native.Mathlib.Decide.{dec_lt}
use native.Mathlib.Omega.{arith}
use mathlib.Core.Path.{◌≡◌, refl, sym, ap, ap₂, ◌∙◌}
use mathlib.Core.Bool.{Bool, true, false, false≢true}
use mathlib.Core.List.{List, [], ◌∷◌, ◌++◌, append_assoc}
use lib.ListN.{length, take, drop, length-drop, take-append-drop}
use Rattle.octets.specs.Bytes.{Bytes, byte, has}
use Rattle.frame.specs.Frame.{Rule}
use Rattle.frame.specs.Mark.{MarkOk}
use Rattle.frame.specs.Stream.{Drained, Fed, end, piece}
use Rattle.frame.proofs.Worked.{drained_at, drained_join, drained_late, drained_again}
use Rattle.frame.proofs.NoBar.{none_drained}
use Rattle.line.specs.Line.{Line, pending, room, fitting, put, Worked, TakenSparing, HostedSparing, unread, read, full}
use Rattle.line.specs.Line as L
use Rattle.line.specs.Promise.{Within, Roomy}
use Rattle.line.proofs.Hosted.{fitting-full, put_fits, put_pending, put_whole, put_room, worked_kept, worked_drained, worked_one, worked_of, worked_ready, put_lent}

module _ (R : Rule) where
  -- ---- the loop has one outcome
  sparing_one : {l l₂ : Line} {x x₂ : Bytes} {m n : Line} {fs gs : List Bytes} → l ≡ l₂ → x ≡ x₂ → TakenSparing R l x fs m → TakenSparing R l₂ x₂ gs n → (fs ≡ gs) × (m ≡ n)
  sparing_one e f (unread h a) (unread k b) = (refl, ap₂ put e f)
  sparing_one e f (unread h a) (read k b X) = absurd (false≢true (sym a ∙ ap (λ (y : Bytes). has y (byte "|")) f ∙ b))
  sparing_one e f (unread h a) (full k X U) = absurd (omega (arith, h, k, ap room e, ap length f))
  sparing_one e f (read h a W) (unread k b) = absurd (false≢true (sym b ∙ ap (λ (y : Bytes). has y (byte "|")) (sym f) ∙ a))
  sparing_one e f (read h a W) (read k b X) = worked_one R (ap₂ put e f) W X
  sparing_one e f (read h a W) (full k X U) = absurd (omega (arith, h, k, ap room e, ap length f))
  sparing_one e f (full h W T) (unread k b) = absurd (omega (arith, h, k, ap room e, ap length f))
  sparing_one e f (full h W T) (read k b X) = absurd (omega (arith, h, k, ap room e, ap length f))
  sparing_one e f (full h W T) (full k X U) =
      let w = worked_one R (ap₂ put e f) W X in
      let t = sparing_one w.1 (ap₂ (λ (y : Line) (z : Bytes). drop (fitting y z) z) e f) T U in
      (ap₂ (λ (y z : List Bytes). y ++ z) w.0 t.0, t.1)

  pub hosted_sparing_one : {l l₂ m n : Line} {xs : List Bytes} {fss gss : List (List Bytes)} → l ≡ l₂ → HostedSparing R l xs fss m → HostedSparing R l₂ xs gss n → (fss ≡ gss) × (m ≡ n)
  hosted_sparing_one e L.end L.end = (refl, e)
  hosted_sparing_one e (L.piece T H) (L.piece U I) =
      let t = sparing_one e refl T U in
      let h = hosted_sparing_one t.1 H I in
      (ap₂ (λ (y : List Bytes) (z : List (List Bytes)). y ∷ z) t.0 h.0, h.1)

  module _ (ok : MarkOk R.mark) where
    -- ---- the frames are those of reading in pieces
    sparing_fits : {l l' : Line} {x : Bytes} {fs : List Bytes} → Within l → TakenSparing R l x fs l' → Within l'
    sparing_fits {l} {x = x} h (unread f a) = (put_fits l x h).1
    sparing_fits {l} {x = x} h (read f a W) = (worked_kept R (put_fits l x h).1 W).fits
    sparing_fits {l} {x = x} h (full f W T) = sparing_fits (worked_kept R (put_fits l x h).1 W).fits T

    -- what is pending gives no frame, and r is kept of it: a piece behind it gives what it gives behind r
    sparing_drained : {l l' : Line} {x r : Bytes} {fs : List Bytes} → Within l → Drained R (pending l) [] r → TakenSparing R l x fs l' → (r' : Bytes) × (Drained R (r ++ x) fs r' × Drained R (pending l') [] r')
    sparing_drained {l} {x = x} h D (unread f a) =
        let w = none_drained R ok x a D in
        (w.0, (w.1.0, drained_at R (sym (put_whole l x h (omega arith))) refl refl w.1.1))
    sparing_drained {l} {l'} {x} h D (read f a W) =
        let E = drained_late R ok x D (drained_at R (put_whole l x h (omega arith)) refl refl (worked_drained R W)) in
        (pending l', (E, drained_again R ok E))
    sparing_drained {l} {x = x} {r = r} h D (full f W T) =
        let x₁ = take (fitting l x) x in
        let x₂ = drop (fitting l x) x in
        let E = drained_late R ok x₁ D (drained_at R (put_pending l x h) refl refl (worked_drained R W)) in
        let w = sparing_drained (worked_kept R (put_fits l x h).1 W).fits (drained_again R ok E) T in (
          w.0,
          (drained_at R (append_assoc r x₁ x₂ ∙ ap (λ (y : Bytes). r ++ y) (take-append-drop (fitting l x) x)) refl refl (drained_join R ok x₂ E w.1.0), w.1.1),
        )

    pub hosted_sparing_fed : {l l' : Line} {r : Bytes} {xs : List Bytes} {fss : List (List Bytes)} → Within l → Drained R (pending l) [] r → HostedSparing R l xs fss l' → (r' : Bytes) × (Fed R r xs fss r' × Drained R (pending l') [] r')
    hosted_sparing_fed {r = r} h D L.end = (r, (end, D))
    hosted_sparing_fed h D (L.piece T H) =
        let w = sparing_drained h D T in
        let v = hosted_sparing_fed (sparing_fits h T) w.1.1 H in
        (v.0, (piece w.1.0 v.1.0, v.1.1))

    -- ---- the loop ends
    worked_roomy : {l l' : Line} {fs : List Bytes} (x : Bytes) → Roomy R l → Worked R (put l x) fs l' → Roomy R l'
    worked_roomy {l} x r W =
        let q = worked_ready R ok (put_lent R ok l x r.lent) W in
        record { lent = q.lent; free = omega (arith, q.short, q.lent.wide) }

    sparing_roomy : {l l' : Line} {x : Bytes} {fs : List Bytes} → Roomy R l → TakenSparing R l x fs l' → Roomy R l'
    sparing_roomy {l} {x = x} r (unread f a) =
        record { lent = put_lent R ok l x r.lent; free = omega (arith, put_room l x r.lent.within (omega arith)) }
    sparing_roomy {x = x} r (read f a W) = worked_roomy x r W
    sparing_roomy {x = x} r (full f W T) = sparing_roomy (worked_roomy x r W) T

    abbrev SparingSome : Line → Bytes → Type 0
    SparingSome l x = (fs : List Bytes) × ((l' : Line) × TakenSparing R l x fs l')

    -- a turn that fills the buffer takes at least one byte of the piece, so the loop ends
    sparing_within : (k : ℕ) (l : Line) (x : Bytes) → Roomy R l → length x < k → SparingSome l x
    sparing_within zero l x r h = absurd (omega arith)
    sparing_within (suc k) l x r h = go (dec_lt (length x) (room l)) (has x (byte "|")) refl (worked_of R ok (put l x)) (λ m q. sparing_within k m (drop (fitting l x) x) q)
      where
        go : Dec (length x < room l) → (b : Bool) → has x (byte "|") ≡ b → (fs : List Bytes) × ((l' : Line) × Worked R (put l x) fs l') → ((m : Line) → Roomy R m → length (drop (fitting l x) x) < k → SparingSome m (drop (fitting l x) x)) → SparingSome l x
        go (yes f) false e w later = ([], (put l x, unread f e))
        go (yes f) true e w later = (w.0, (w.1.0, read f e w.1.1))
        go (no f) b e w later =
            let more : room l ≤ length x = omega arith in
            let less : length (drop (fitting l x) x) < k = omega (arith, length-drop (fitting l x) x, fitting-full l x more, r.free) in
            let v = later w.1.0 (worked_roomy x r w.1.1) less in
            (w.0 ++ v.0, (v.1.0, full {x = x} more w.1.1 v.1.1))

    pub hosted_sparing_of : (l : Line) (xs : List Bytes) → Roomy R l → (fss : List (List Bytes)) × ((l' : Line) × HostedSparing R l xs fss l')
    hosted_sparing_of l [] r = ([], (l, L.end))
    hosted_sparing_of l (x ∷ xs) r =
        let w = sparing_within (suc (length x)) l x r (omega arith) in
        let v = hosted_sparing_of w.1.0 xs (sparing_roomy r w.1.1) in
        (w.0 ∷ v.0, (v.1.0, L.piece w.1.1 v.1.1))

    pub hosted_sparing_roomy : {l l' : Line} {xs : List Bytes} {fss : List (List Bytes)} → Roomy R l → HostedSparing R l xs fss l' → Roomy R l'
    hosted_sparing_roomy r L.end = r
    hosted_sparing_roomy r (L.piece T H) = hosted_sparing_roomy (sparing_roomy r T) H
