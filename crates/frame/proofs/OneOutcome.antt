-- Every function that this crate hands out has one outcome: any two that its contract allows, for the same input, are equal in all that the call
-- answers and leaves. Assumes nothing.
use Prim.Native.Nat.{ℕ}
use mathlib.Core.Path.{◌≡◌, refl, sym, ap, ap₂, ◌∙◌}
use mathlib.Core.Bool.{Bool, true, false}
use lib.ListN.{take, drop}
use Rattle.std.specs.Prelude.{Option, Some, None, Result, Ok, Err}
use Rattle.std.specs.Borrow.{Bor}
use Rattle.octets.specs.Bytes.{Bytes}
use Rattle.frame.specs.Frame.{Rule, Good, Whether, BodyOf, its_body, BodyFound}
use Rattle.frame.specs.Reading.{refusal, Reads, ReadsAs, HandedOut, Handed}
use Rattle.frame.specs.declared.Found.{Found}
use Rattle.frame.specs.declared.NoFrame.{NoFrame}
use Rattle.frame.specs.declared.Part.{Part}
use Rattle.frame.proofs.Good.{good_body}
use Rattle.frame.proofs.Unique.{left_one, unfinished_one}

module _ (R : Rule) where
  -- `read`: the part of the caller's bytes and the bytes skipped, or the bytes to drop; and never both
  pub handed_one : {s f f' : Bytes} {skip skip' : ℕ} → HandedOut R s f skip → HandedOut R s f' skip' → (f ≡ f') × (skip ≡ skip')
  handed_one {s} A B =
      let e = left_one R s A.reads B.reads in (A.part ∙ ap₂ (λ (n k : ℕ). take n (drop k s)) e.1 e.0 ∙ sym B.part, e.0)

  pub refused_one : {s : Bytes} {d d' : ℕ} → Reads R s (refusal 1 d) → Reads R s (refusal 1 d') → d ≡ d'
  refused_one {s} A B = unfinished_one R s A.1 B.1

  pub handed_or_refused : {s f : Bytes} {skip d : ℕ} → HandedOut R s f skip → Reads R s (refusal 1 d) → ⊥
  handed_or_refused A B = B.1.none _ _ A.reads.here

  -- all three in one: what is handed out of the bytes and what stands before it, or what is to be dropped
  abbrev told_by : Result Part NoFrame → Result (Bytes × ℕ) ℕ
  told_by (Ok p) = Ok (p.frame.now, p.skip)
  told_by (Err e) = Err e.drop

  pub read_one : (s : Bytes) (x y : Result Part NoFrame) → Handed R s x → Handed R s y → told_by x ≡ told_by y
  read_one s (Ok p) (Ok q) A B =
      let e = handed_one A B in ap₂ (λ (f : Bytes) (k : ℕ). Ok (f, k)) e.0 e.1
  read_one s (Ok p) (Err e) A B = absurd (handed_or_refused A B)
  read_one s (Err e) (Ok p) A B = absurd (handed_or_refused B A)
  read_one s (Err e) (Err f) A B = ap Err (refused_one A B)

  -- `reading_of`
  found : ℕ → ℕ → Result Found NoFrame
  found p n = Ok (record { skip = p; len = n })

  refused : ℕ → Result Found NoFrame
  refused d = Err (record { drop = d })

  pub reading_one : (s : Bytes) (r r' : Result Found NoFrame) → ReadsAs R s r → ReadsAs R s r' → r ≡ r'
  unfolding found refused
  reading_one s (Ok f) (Ok g) A B =
      let e = left_one R s A B in ap₂ found e.0 e.1
  reading_one s (Ok f) (Err e) A B = absurd (B.1.none f.skip f.len A.here)
  reading_one s (Err e) (Ok f) A B = absurd (A.1.none f.skip f.len B.here)
  reading_one s (Err e) (Err f) A B = ap refused (unfinished_one R s A.1 B.1)

  -- `is_frame`
  pub whether_one : {f : Bytes} {r r' : Bool} → Whether R f r → Whether R f r' → r ≡ r'
  whether_one {r = true} A B = sym (B.every (A.only refl))
  whether_one {r = false} {r' = true} A B = A.every (B.only refl)
  whether_one {r = false} {r' = false} A B = refl

  -- `body_of`
  of_good : {f r : Bytes} → BodyOf R f r → Good R f
  of_good (its_body G) = G

  same_body : {f r r' : Bytes} → BodyOf R f r → BodyOf R f r' → r ≡ r'
  same_body {f} (its_body G) (its_body H) = good_body R f G H

  abbrev lent : Option (Bor Bytes) → Option Bytes
  lent (Some b) = Some b.now
  lent None = None

  pub body_one : (f : Bytes) (r r' : Option (Bor Bytes)) → BodyFound R f r → BodyFound R f r' → lent r ≡ lent r'
  body_one f (Some x) (Some y) A B = ap Some (same_body A.some B.some)
  body_one f (Some x) None A B = absurd (B.none (of_good A.some))
  body_one f None (Some y) A B = absurd (A.none (of_good B.some))
  body_one f None None A B = refl
