-- Q-10 over any run whose calls are sound, one by one: what is shown of one call, added up.
-- Assumes nothing.
use Rattle.std.specs.Prelude.{if◌then◌else◌}
use Prim.Native.Nat.{ℕ, zero, suc, ◌+◌, ◌≤◌, ◌<◌}
use native.Mathlib.Omega.{arith}
use native.Mathlib.Decide.{dec_lt}
use mathlib.Core.Path.{◌≡◌, refl, sym, ap, ◌∙◌, subst}
use mathlib.Core.Bool.{Bool, true, false}
use mathlib.Core.Logic.{◌⊎◌, inl, inr}
use mathlib.Core.List.{List, [], ◌∷◌, ◌++◌, map}
use mathlib.Core.Option.{Option, none, some}
use Rattle.octets.specs.Bytes.{Bytes}
use Rattle.moves.specs.Session.{Session}
use Rattle.moves.specs.Moves.{N}
use Rattle.session.specs.Calls.{Outcome}
use Rattle.session.specs.Sequence.{Made, entry, log, delivers, rejects, counts, delivered_by, body_of, by_body, resets, share, delivered, distance, Belongs, distances, Passes, Quiet, NoneDelivers, NoReset, end, deliveries, RiseFrom, AllCount, BelongsTo, AllQuiet, Sequence}

-- ONE CALL
pub record Sound (m : Made) : Type 0 where
  pub passes : Passes m
  pub counting : (n : ℕ) → delivered m ≡ n ∷ [] → share m ≡ counts n
  pub quiet : Quiet m

-- it delivers nothing, or one number, which counts: it is the E that the call met, and the next E is one above
delivers_one : (s : Session) (b : Option Bytes) (o : Outcome) → let l = by_body delivered_by [] s b o in (l ≡ []) ⊎ ((n : ℕ) × (l ≡ n ∷ []))
delivers_one s none o = inl refl
delivers_one s (some body) o = go (delivers o.answer)
  where
    go : (b : Bool) → let l : List ℕ = if b then N s body ∷ [] else [] in (l ≡ []) ⊎ ((n : ℕ) × (l ≡ n ∷ []))
    go true = inr (N s body, refl)
    go false = inl refl

rise_below : (m n : ℕ) (xs : List ℕ) → m ≤ n → RiseFrom n xs → RiseFrom m xs
rise_below m n [] l r = tt
rise_below m n (x ∷ xs) l r = (omega (arith, l, r.0), r.1)

one_more : (m : Made) (xs : List ℕ) → Sound m → RiseFrom m.left.session.E xs → RiseFrom m.met.E (delivered m ++ xs)
one_more m xs S h = go (delivers_one m.met (body_of m.frame) m.left)
  where
    go : ((delivered m ≡ []) ⊎ ((n : ℕ) × (delivered m ≡ n ∷ []))) → RiseFrom m.met.E (delivered m ++ xs)
    go (inl e) = subst (λ (l : List ℕ). RiseFrom m.met.E (l ++ xs)) (sym e) (rise_below m.met.E m.left.session.E xs (omega (arith, S.passes.moved_by)) h)
    go (inr (n, e)) =
        let c = S.counting n e in
        let k = S.passes.no_other n (subst (Belongs n) (sym c) refl) in
        let d = ap distance c in
        let z : m.left.session.E ≡ n + 1 = omega (arith, S.passes.moved_by, k.0, k.1, d) in
        subst (λ (l : List ℕ). RiseFrom m.met.E (l ++ xs)) (sym e) (k.0, subst (λ (i : ℕ). RiseFrom i xs) z h)

-- what a later session has of an earlier one, where nothing reset it
pub record Later (s s' : Session) : Type 0 where
  pub higher : s.E ≤ s'.E
  pub same_ours : s'.ours ≡ s.ours
  pub same_peers : s'.peers ≡ s.peers

further : {s s' s'' : Session} → Later s s' → Later s' s'' → Later s s''
further O P = record { higher = omega (arith, O.higher, P.higher); same_ours = P.same_ours ∙ O.same_ours; same_peers = P.same_peers ∙ O.same_peers }

-- CALLS of any kind that are sound, that lead on, and of which none delivers what one before it rejected
pub record Calls {C : Type 0} (given : C → Option Bytes) (call : Session → C → Outcome) : Type 0 where
  pub sound : (s : Session) (c : C) → resets (entry given call s c) ≡ false → Sound (entry given call s c)
  pub leads_on : (s : Session) (c : C) → resets (entry given call s c) ≡ false → Later s (call s c).session
  pub not_later : (s s' : Session) (c c' : C) → Later s s' → given c' ≡ given c → rejects (call s c) ≡ true → delivered (entry given call s' c') ≡ []

-- A RUN of them
module _ {C : Type 0} (given : C → Option Bytes) (call : Session → C → Outcome) (K : Calls given call) where
  sound : (s : Session) (c : C) → resets (entry given call s c) ≡ false → Sound (entry given call s c)
  sound s c R = K.sound s c R

  abbrev runs : Session → List C → List Made
  runs s cs = log given call s cs

  rise : (s : Session) (cs : List C) → NoReset (runs s cs) → RiseFrom s.E (deliveries (runs s cs))
  rise s [] R = tt
  rise s (c ∷ cs) R = one_more (entry given call s c) (deliveries (runs (call s c).session cs)) (sound s c R.0) (rise (call s c).session cs R.1)

  adds_up : (s : Session) (cs : List C) → NoReset (runs s cs) → (end s (runs s cs)).E ≡ s.E + distances (map share (runs s cs))
  adds_up s [] R = omega arith
  adds_up s (c ∷ cs) R = let h = adds_up (call s c).session cs R.1 in let k = (sound s c R.0).passes.moved_by in omega (arith, h, k)

  -- a number that belongs to a call of it lies between the first E and the last
  only : (s : Session) (cs : List C) → NoReset (runs s cs) → (n i : ℕ) → BelongsTo (runs s cs) n i → (s.E ≤ n) × (n < (end s (runs s cs)).E)
  only s [] R n i b = absurd b
  only s (c ∷ cs) R n zero b =
      let k = (sound s c R.0).passes.no_other n b in
      let h = adds_up (call s c).session cs R.1 in
      (k.0, omega (arith, k.1, h))
  only s (c ∷ cs) R n (suc i) b =
      let k = only (call s c).session cs R.1 n i b in
      let h = (sound s c R.0).passes.moved_by in
      (omega (arith, k.0, h), k.1)

  belongs : (s : Session) (cs : List C) → NoReset (runs s cs) → (n : ℕ) → s.E ≤ n → n < (end s (runs s cs)).E → (i : ℕ) × BelongsTo (runs s cs) n i
  belongs s [] R n k l = absurd (omega (arith, k, l))
  belongs s (c ∷ cs) R n k l = go (dec_lt n (call s c).session.E) (λ a. belongs (call s c).session cs R.1 n a l)
    where
      go : Dec (n < (call s c).session.E) → ((call s c).session.E ≤ n → (i : ℕ) × BelongsTo (runs (call s c).session cs) n i) → (i : ℕ) × BelongsTo (runs s (c ∷ cs)) n i
      go (yes a) h = (0, (sound s c R.0).passes.all_passed n k a)
      go (no a) h = let b = h (omega (arith, a)) in (suc b.0, b.1)

  -- no number belongs to the first call and to a later one
  apart : (s : Session) (c : C) (cs : List C) → NoReset (runs s (c ∷ cs)) → (n j : ℕ) → BelongsTo (runs s (c ∷ cs)) n 0 → BelongsTo (runs (call s c).session cs) n j → ◌≡◌ {A = ℕ} 0 (suc j)
  apart s c cs R n j a b =
      let k = (sound s c R.0).passes.no_other n a in
      let l = only (call s c).session cs R.1 n j b in
      absurd (omega (arith, k.1, l.0))

  same : (s : Session) (cs : List C) → NoReset (runs s cs) → (n i j : ℕ) → BelongsTo (runs s cs) n i → BelongsTo (runs s cs) n j → i ≡ j
  same s [] R n i j a b = absurd a
  same s (c ∷ cs) R n zero zero a b = refl
  same s (c ∷ cs) R n zero (suc j) a b = apart s c cs R n j a b
  same s (c ∷ cs) R n (suc i) zero a b = sym (apart s c cs R n i b a)
  same s (c ∷ cs) R n (suc i) (suc j) a b = ap suc (same (call s c).session cs R.1 n i j a b)

  all_count : (s : Session) (cs : List C) → NoReset (runs s cs) → AllCount (runs s cs)
  all_count s [] R = tt
  all_count s (c ∷ cs) R = ((sound s c R.0).counting, all_count (call s c).session cs R.1)

  -- behind a call on s that rejected its frame
  none_delivers : (s : Session) (c : C) → rejects (call s c) ≡ true → (s' : Session) (cs : List C) → Later s s' → NoReset (runs s' cs) → NoneDelivers (given c) (runs s' cs)
  none_delivers s c r s' [] O R = tt
  none_delivers s c r s' (c' ∷ cs) O R = (λ e. K.not_later s s' c c' O e r, none_delivers s c r (call s' c').session cs (further O (K.leads_on s' c' R.0)) R.1)

  all_quiet : (s : Session) (cs : List C) → NoReset (runs s cs) → AllQuiet (runs s cs)
  all_quiet s [] R = tt
  all_quiet s (c ∷ cs) R = ((sound s c R.0).quiet, λ r. none_delivers s c r (call s c).session cs (K.leads_on s c R.0) R.1, all_quiet (call s c).session cs R.1)

  pub sequence_of : (s : Session) (cs : List C) → NoReset (runs s cs) → Sequence s (runs s cs)
  sequence_of s cs R =
      record {
        rise = (rise s cs R, all_count s cs R);
        adds_up = adds_up s cs R;
        each_once = λ n. (λ k l. let b = belongs s cs R n k l in record { it = b.0; is = b.1; same = same s cs R n }, only s cs R n);
        quiet = all_quiet s cs R;
      }
