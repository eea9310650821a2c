-- What the code decides is what the rules say: one law for each way through it.
-- Assumes nothing.
use Prim.Native.Nat.{ℕ, ◌+◌, ◌-◌, ◌≤◌, ◌<◌, min}
use native.Mathlib.Omega.{arith}
use mathlib.Core.Path.{◌≡◌, refl, sym, ap, ◌∙◌}
use mathlib.Core.Bool.{Bool, true, false, cond, not, ◌&&◌}
use mathlib.Core.List.{[], ◌∷◌}
use mathlib.Core.Option.{none, some}
use lib.Dec.{ltb}
use borrow.Author.Tests.{lt-ltb, le-ltb, lt-leb, le-leb, ne_eqb}
use Rattle.std.specs.Prelude.{Option, Some, None, Result, Ok, Err, is_err}
use Rattle.std.specs.Result.{result_ok}
use Rattle.octets.specs.Bytes.{Bytes, fix}
use Rattle.fields.specs.Field.{first_field}
use Rattle.calendar.specs.Later.{later}
use Rattle.calendar.specs.declared.moments.Moment.{Moment}
use Rattle.dictionary.specs.declared.Unclean.{Unclean}
use Rattle.dictionary.specs.Verdict.{Verdict, verdict}
use Rattle.moves.specs.Words.{speaks, first, ◌when◌, ◌otherwise◌}
use Rattle.gap.specs.Gap.{asks, seen}
use Rattle.gap.specs.Held.{held_gap}
use Rattle.moves.specs.Session.{Session}
use Rattle.moves.specs.Seen.{is_it, is_clean}
use Rattle.moves.specs.Moves.{Deeds, Start, GapBecomes, #, N, readable, asking, counted, requested, unserved, served, bare_reset, served_first, asks_or_not, too_high, too_low, filled, reject, type}
use Rattle.moves.specs.Held.{replay_of, held_replay}
use Rattle.moves.specs.code.Plan.{planned, summed, says, counts, expects, closes, rejected_by, served_by, served_early, missed_if, missed_by, resets, serves}
use Rattle.moves.specs.code.Reads.{NumberIn, time_in}
use Rattle.moves.specs.declared.record.Replay as Held
use Rattle.moves.specs.declared.plan.Plan.{Plan}
use Rattle.moves.specs.declared.plan.Letter.{Letter}
use Rattle.moves.specs.declared.plan.Letter.TheVariants.{Reject, Logout}
use Rattle.moves.specs.declared.times.NoTime.{NoTime}
use Rattle.rulebook.proofs.Read.{hash, is_there, moment_by, speaks_by, moment_was}

module _ (s : Session) (body : Bytes) where
  -- RULE 3
  pub reset_verdict : {v : Verdict} {u : Unclean} {l : Letter} {p : Plan} → v ≡ verdict body → v ≡ Err u → l ≡ rejected_by u → p ≡ says s (Some l) None → planned body s p ≡ summed s (bare_reset s body)
  unfolding bare_reset reject readable
  reset_verdict e k q w = rw (w, q, ← e, k)

  module _ {v : Verdict} {n : ℕ} (e : v ≡ verdict body) (k : v ≡ Ok tt) (R : NumberIn 0 36 body n) where
    pub reset_below : n < s.E → {p : Plan} → p ≡ says s (Some (Reject 5 36)) None → planned body s p ≡ summed s (bare_reset s body)
    unfolding bare_reset reject readable
    reset_below l pw = rw (pw, ← e, k, ← (hash s R), lt-ltb n s.E l)

    pub reset_taken : s.E ≤ n → {p : Plan} → p ≡ resets s n → planned body s p ≡ summed s (bare_reset s body)
    unfolding bare_reset reject readable
    reset_taken l pw = rw (pw, ← e, k, ← (hash s R), le-ltb n s.E l)

  -- SERVING
  module _ {n : ℕ} (R : NumberIn 0 7 body n) where
    pub begin_high : s.next - 1 < n → Err 7 ≡ served_by s body
    unfolding served_by
    begin_high l = rw (← (hash s R), lt-ltb (s.next - 1) n l)

    module _ {m : ℕ} (l : n ≤ s.next - 1) (Q : NumberIn 0 16 body m) where
      pub end_none : m ≡ 0 → {x : ℕ} → x ≡ s.next - 1 → Ok (record { at = n; to = x }) ≡ served_by s body
      unfolding served_by
      end_none h q = rw (q, ← (hash s R), ← (hash s Q), le-ltb (s.next - 1) n l, h)

      pub end_low : (m ≡ 0 → ⊥) → m < n → Err 16 ≡ served_by s body
      unfolding served_by
      end_low h k = rw (← (hash s R), ← (hash s Q), le-ltb (s.next - 1) n l, lt-ltb 0 m (omega arith), lt-ltb m n k)

      pub end_high : (m ≡ 0 → ⊥) → n ≤ m → {x : ℕ} → x ≡ min m (s.next - 1) → Ok (record { at = n; to = x }) ≡ served_by s body
      unfolding served_by
      end_high h k q = rw (← (hash s R), ← (hash s Q), le-ltb (s.next - 1) n l, lt-ltb 0 m (omega arith), le-ltb m n k, ne_eqb m 0 h, q)

  -- what becomes of a Resend Request, by what the code answers of it
  abbrev answered : Result Held.Replay ℕ → Deeds
  answered (Ok q) = Start (replay_of q) ∷ []
  answered (Err tag) = reject s body 5 tag

  abbrev started : Option Held.Replay → Deeds
  started (Some q) = Start (replay_of q) ∷ []
  started None = []

  answered_is : (unserved s body otherwise served s body) ≡ answered (served_by s body)
  unfolding served_by unserved served
  answered_is = go (ltb (s.next - 1) (# s body 7)) (ltb 0 (# s body 16) && ltb (# s body 16) (# s body 7))
    where
      go : (x y : Bool) → first ((reject s body 5 7 when x) ∷ (reject s body 5 16 when y) ∷ []) otherwise Start (requested s body) ∷ []
          ≡ answered (cond x (Err 7) (cond y (Err 16) (Ok (held_replay (requested s body)))))
      go true y = refl
      go false true = refl
      go false false = refl

  started_is : served_first s body ≡ started (served_early s body)
  unfolding served_first served_early served_by unserved served
  started_is = go (type s body "2") (is_clean (verdict body)) (ltb (s.next - 1) (# s body 7)) (ltb 0 (# s body 16) && ltb (# s body 16) (# s body 7))
    where
      go : (a c x y : Bool) → cond (a && c && not (speaks (first ((reject s body 5 7 when x) ∷ (reject s body 5 16 when y) ∷ [])))) (Start (requested s body) ∷ []) []
          ≡ started (cond (a && c) (result_ok {E = ℕ} (cond x (Err 7) (cond y (Err 16) (Ok (held_replay (requested s body)))))) None)
      go true true true y = refl
      go true true false true = refl
      go true true false false = refl
      go true false x y = refl
      go false c x y = refl

  -- a plan with this replay in it
  abbrev with_replay : Plan → Held.Replay → Plan
  with_replay p q = record { delivered = p.delivered; first = p.first; second = p.second; status = p.status; expected = p.expected; heartbeat = p.heartbeat; replay = q; gap = p.gap }

  -- A RESEND REQUEST IN TURN
  module _ {u : Result Held.Replay ℕ} (w : u ≡ served_by s body) where
    pub turn_unserved : {tag : ℕ} → u ≡ Err tag → {p : Plan} → p ≡ counts s (Some (Reject 5 tag)) → planned body s p ≡ summed s (counted s body (unserved s body otherwise served s body))
    unfolding reject readable
    turn_unserved z pw = rw (pw, answered_is, ← w, z) refl

    pub turn_served : {q : Held.Replay} → u ≡ Ok q → {p : Plan} → p ≡ serves s None (s.E + 1) q (held_gap s.gap) → planned body s p ≡ summed s (counted s body (unserved s body otherwise served s body))
    turn_served z pw = rw (pw, answered_is, ← w, z) refl

  -- WHAT CAN BE SERVED before rule 4 asks
  pub early_other : type s body "2" ≡ false → None ≡ served_early s body
  unfolding served_early
  early_other e = rw e refl

  module _ (e : type s body "2" ≡ true) {v : Verdict} {d : Bool} (f : v ≡ verdict body) (k : d ≡ is_err v) where
    unclean : {b : Bool} → d ≡ b → is_clean (verdict body) ≡ not b
    unclean q = ap is_clean (sym f) ∙ go v ∙ ap not (sym k ∙ q)
      where
        go : (w : Verdict) → is_clean w ≡ not (is_err w)
        go (Ok _) = refl
        go (Err u) = refl

    pub early_unclean : d ≡ true → None ≡ served_early s body
    unfolding served_early
    early_unclean q = rw (e, unclean q) refl

    pub early_is : d ≡ false → {u : Result Held.Replay ℕ} {o : Option Held.Replay} → u ≡ served_by s body → o ≡ result_ok u → o ≡ served_early s body
    unfolding served_early
    early_is q w y = rw (e, unclean q, ← w) y

  -- RULE 4
  high_alone : (t : ℕ) → planned body s (missed_by s (N s body) t) ≡ summed s (asks_or_not s body t)
  unfolding asks_or_not
  high_alone t = go (asks t s.E s.gap)
    where
      go : (b : Bool) → planned body s (missed_if s (N s body) t b) ≡ summed s (cond b (asking s body t s.gap) (GapBecomes (seen (N s body) s.gap) ∷ []))
      go true = refl
      go false = refl

  high_behind : (t : ℕ) (q : Held.Replay) → planned body s (with_replay (missed_by s (N s body) t) q) ≡ summed s (Start (replay_of q) ∷ asks_or_not s body t)
  unfolding asks_or_not
  high_behind t q = go (asks t s.E s.gap)
    where
      go : (b : Bool) → planned body s (with_replay (missed_if s (N s body) t b) q) ≡ summed s (Start (replay_of q) ∷ cond b (asking s body t s.gap) (GapBecomes (seen (N s body) s.gap) ∷ []))
      go true = refl
      go false = refl

  module _ (t : ℕ) {n : ℕ} (i : n ≡ N s body) {o : Option Held.Replay} (w : o ≡ served_early s body) where
    pub high_only : o ≡ None → {p : Plan} → p ≡ missed_by s n t → planned body s p ≡ summed s (too_high s body t)
    unfolding too_high
    high_only z pw = rw (pw, i, started_is, ← w, z) (high_alone t)

    pub high_served : {q : Held.Replay} → o ≡ Some q → (p : Plan) → p ≡ missed_by s n t → planned body s (with_replay p q) ≡ summed s (too_high s body t)
    unfolding too_high
    high_served {q = q} z p pw = rw (pw, i, started_is, ← w, z) (high_behind t q)

  -- RULE 5
  pub low_first : {b : Bool} → b ≡ is_it (fix "Y") (first_field 43 body) → b ≡ false → {p : Plan} → p ≡ closes s (Some (Logout 101)) None s.E → planned body s p ≡ summed s (too_low s body)
  unfolding too_low reject readable
  low_first e h pw = rw (pw, ← e, h)

  -- with 43=Y: the first field 122, then the first field 52
  module _ {b : Bool} {x : Result Moment NoTime} (e : b ≡ is_it (fix "Y") (first_field 43 body)) (h : b ≡ true) (o : x ≡ time_in (first_field 122 body)) where
    pub low_without : is_there x ≡ false → {p : Plan} → p ≡ says s (Some (Reject 1 122)) None → planned body s p ≡ summed s (too_low s body)
    unfolding too_low reject readable
    low_without k pw = rw (pw, ← e, h, speaks_by (first_field 122 body) o k)

    module _ {y : Result Moment NoTime} (k : is_there x ≡ true) (q : y ≡ time_in (first_field 52 body)) where
      pub low_unsent : is_there y ≡ false → {p : Plan} → p ≡ says s (Some (Reject 1 52)) None → planned body s p ≡ summed s (too_low s body)
      unfolding too_low reject readable
      low_unsent l pw = rw (pw, ← e, h, speaks_by (first_field 122 body) o k, speaks_by (first_field 52 body) q l)

      -- both are there: what their times are
      module _ (l : is_there y ≡ true) where
        pub low_bad_sending : moment_by y ≡ none → {p : Plan} → p ≡ says s (Some (Reject 6 52)) None → planned body s p ≡ summed s (too_low s body)
        unfolding too_low reject readable
        low_bad_sending z pw = rw (pw, ← e, h, speaks_by (first_field 122 body) o k, speaks_by (first_field 52 body) q l, moment_was (first_field 52 body) q z)

        pub low_bad_original : {a : Moment} → moment_by y ≡ some a → moment_by x ≡ none → {p : Plan} → p ≡ says s (Some (Reject 6 122)) None → planned body s p ≡ summed s (too_low s body)
        unfolding too_low reject readable
        low_bad_original z w pw = rw (pw, ← e, h, speaks_by (first_field 122 body) o k, speaks_by (first_field 52 body) q l, moment_was (first_field 52 body) q z, moment_was (first_field 122 body) o w)

        module _ {a f : Moment} {c : Bool} (z : moment_by y ≡ some a) (w : moment_by x ≡ some f) (j : c ≡ later f a) where
          pub low_later : c ≡ true → {p : Plan} → p ≡ says s (Some (Reject 10 122)) None → planned body s p ≡ summed s (too_low s body)
          unfolding too_low reject readable
          low_later i pw = rw (pw, ← e, h, speaks_by (first_field 122 body) o k, speaks_by (first_field 52 body) q l, moment_was (first_field 52 body) q z, moment_was (first_field 122 body) o w, ← j, i)

          pub low_ignored : c ≡ false → {p : Plan} → p ≡ says s None None → planned body s p ≡ summed s (too_low s body)
          unfolding too_low reject readable
          low_ignored i pw = rw (pw, ← e, h, speaks_by (first_field 122 body) o k, speaks_by (first_field 52 body) q l, moment_was (first_field 52 body) q z, moment_was (first_field 122 body) o w, ← j, i)

  -- A GAP FILL IN TURN
  module _ {n m : ℕ} (e : n ≡ N s body) (R : NumberIn 0 36 body m) where
    pub fill_low : m ≤ n → {p : Plan} → p ≡ counts s (Some (Reject 5 36)) → planned body s p ≡ summed s (filled s body)
    unfolding filled reject readable
    fill_low l pw = rw (pw, ← e, ← (hash s R), le-leb m n l)

    pub fill_on : n < m → {p : Plan} → p ≡ expects s m → planned body s p ≡ summed s (filled s body)
    unfolding filled reject readable
    fill_on l pw = rw (pw, ← e, ← (hash s R), lt-leb m n l)

pub ruleset deciding = (reset_verdict, reset_below, reset_taken, begin_high, end_none, end_low, end_high, turn_unserved, turn_served, early_other, early_unclean, early_is, high_only, high_served, low_first, fill_low, fill_on)
