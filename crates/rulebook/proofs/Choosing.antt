-- Which rule the code takes is the first that fits: one law for each way through rule 6, the six rules and the logon.
-- Assumes nothing.
use Prim.Native.Nat.{ℕ, ◌+◌, ◌≤◌, ◌<◌}
use native.Mathlib.Omega.{arith}
use mathlib.Core.Path.{◌≡◌, refl, sym, ap, ◌∙◌}
use mathlib.Core.Bool.{Bool, true, false, cond, not, ◌&&◌, false≢true}
use mathlib.Core.List.{[], ◌∷◌, ◌++◌}
use mathlib.Core.Option as Math
use lib.Dec.{eqb}
use borrow.Author.Tests.{lt-ltb, le-ltb, eq-eqb, ne_eqb}
use Rattle.std.specs.Prelude.{Option, Some, None, is_none, is_some, Ok, Err}
use Rattle.octets.specs.Bytes.{Bytes, fix}
use Rattle.fields.specs.Field.{first_field}
use Rattle.table.specs.declared.MsgType.{MsgType}
use Rattle.table.specs.declared.MsgType.TheVariants as Kind
use Rattle.table.specs.Dictionary.{code35}
use Rattle.dictionary.specs.declared.Unclean.{Unclean}
use Rattle.dictionary.specs.Verdict.{Verdict, verdict, msg_type}
use Rattle.moves.specs.Words.{speaks, first, ◌when◌, ◌otherwise◌}
use Rattle.gap.specs.Gap.{no_gap, asked_for}
use Rattle.gap.specs.Held.{gap_of, held_gap}
use Rattle.gap.specs.declared.Gap.{Gap}
use Rattle.moves.specs.Session.{Session}
use Rattle.moves.specs.Seen.{is_it, is_clean, number_in}
use Rattle.moves.specs.Moves.{#, readable, acceptable, Deeds, reject, reject_type, logout, counted, unserved, served, stranger, type, rule_1, rule_2, bare_reset, rule_3, too_high, rule_4, too_low, rule_5, filled, in_turn, rule_6, active, logon, reset, no_reset, waiting}
use Rattle.moves.specs.code.Plan.{planned, summed, counts, expects, closes, delivers, accepts, raised, rejected_by, is_bare_reset, strange_tag}
use Rattle.moves.specs.code.Reads.{NumberIn, ReadIn, told}
use Rattle.moves.specs.declared.plan.Plan.{Plan}
use Rattle.moves.specs.declared.plan.Letter.{Letter}
use Rattle.moves.specs.declared.plan.Letter.TheVariants.{Echo, Ask, Reject, RejectType, Logout}
use Rattle.rulebook.proofs.Read.{hash, read_N, unread_N, told_speaks, told_some, told_none}

module _ (s : Session) (body : Bytes) where
  -- RULE 6, by the type
  pub as_type : {k : Option MsgType} {m n : MsgType} → k ≡ told (msg_type body) → k ≡ Some m → m ≡ n → msg_type body ≡ Math.some n
  as_type e f g = told_some (msg_type body) e (f ∙ ap Some g)

  pub untyped : {k : Option MsgType} → k ≡ told (msg_type body) → k ≡ None → msg_type body ≡ Math.none
  untyped e f = told_none (msg_type body) e f

  -- a Trade Capture Report was answered before
  pub never_AE : {A : Type 0} → type s body "AE" ≡ false → msg_type body ≡ Math.some Kind.TradeCaptureReport → A
  unfolding code35
  never_AE e m = let z : true ≡ false = rw m at e in absurd (false≢true (sym z))

  pub turn_report : type s body "AE" ≡ true → {p : Plan} → p ≡ counts s (Some RejectType) → planned body s p ≡ summed s (in_turn s body)
  unfolding in_turn reject_type readable
  turn_report h pw = rw (pw, h) refl

  module _ (h₀ : type s body "AE" ≡ false) {v : Verdict} (f : v ≡ verdict body) where
    pub turn_verdict : {u : Unclean} → v ≡ Err u → {l : Letter} → l ≡ rejected_by u → {p : Plan} → p ≡ counts s (Some l) → planned body s p ≡ summed s (in_turn s body)
    unfolding in_turn reject readable
    turn_verdict h q w = rw (w, q, h₀, ← f, h) refl

  module _ {v : Verdict} (f : v ≡ verdict body) (q : v ≡ Ok tt) where
    pub turn_1 : msg_type body ≡ Math.some Kind.TestRequest → {p : Plan} → p ≡ counts s (Some Echo) → planned body s p ≡ summed s (in_turn s body)
    unfolding in_turn code35
    turn_1 m pw = rw (pw, m, ← f, q) refl

    pub turn_2 : msg_type body ≡ Math.some Kind.ResendRequest → (p : Plan) → planned body s p ≡ summed s (counted s body (unserved s body otherwise served s body)) → planned body s p ≡ summed s (in_turn s body)
    unfolding in_turn code35
    turn_2 m p w = w ∙ rw (m, ← f, q) refl

    pub turn_4 : msg_type body ≡ Math.some Kind.SequenceReset → (p : Plan) → planned body s p ≡ summed s (filled s body) → planned body s p ≡ summed s (in_turn s body)
    unfolding in_turn code35
    turn_4 m p w = w ∙ rw (m, ← f, q) refl

    pub turn_5 : msg_type body ≡ Math.some Kind.Logout → {p : Plan} → p ≡ closes s (Some (Logout 4)) None (s.E + 1) → planned body s p ≡ summed s (in_turn s body)
    unfolding in_turn code35
    turn_5 m pw = rw (pw, m, ← f, q) refl

    pub turn_A : msg_type body ≡ Math.some Kind.Logon → {p : Plan} → p ≡ counts s (Some (Reject 99 35)) → planned body s p ≡ summed s (in_turn s body)
    unfolding in_turn reject readable code35
    turn_A m pw = rw (pw, m, ← f, q) refl

    pub turn_AD : msg_type body ≡ Math.some Kind.TradeCaptureReportRequest → {p : Plan} → p ≡ delivers s → planned body s p ≡ summed s (in_turn s body)
    unfolding in_turn code35
    turn_AD m pw = rw (pw, m, ← f, q) refl

    pub turn_F : msg_type body ≡ Math.some Kind.OrderCancelRequest → {p : Plan} → p ≡ delivers s → planned body s p ≡ summed s (in_turn s body)
    unfolding in_turn code35
    turn_F m pw = rw (pw, m, ← f, q) refl

    pub turn_0 : msg_type body ≡ Math.some Kind.Heartbeat → {p : Plan} → p ≡ expects s (s.E + 1) → planned body s p ≡ summed s (in_turn s body)
    unfolding in_turn code35
    turn_0 m pw = rw (pw, m, ← f, q) refl

    pub turn_3 : msg_type body ≡ Math.some Kind.Reject → {p : Plan} → p ≡ expects s (s.E + 1) → planned body s p ≡ summed s (in_turn s body)
    unfolding in_turn code35
    turn_3 m pw = rw (pw, m, ← f, q) refl

    pub turn_other : msg_type body ≡ Math.none → {p : Plan} → p ≡ expects s (s.E + 1) → planned body s p ≡ summed s (in_turn s body)
    unfolding in_turn
    turn_other m pw = rw (pw, m, ← f, q) refl

  -- THE RULES, each by its test
  -- what rule 2 finds
  abbrev strangers : Option ℕ → Math.Option Deeds
  strangers None = Math.none
  strangers (Some tag) = Math.some (stranger s body tag)

  two_is : rule_2 s body ≡ strangers (strange_tag s body)
  unfolding rule_2
  two_is = go (is_it s.peers (first_field 49 body)) (is_it s.ours (first_field 56 body))
    where
      go : (x y : Bool) → first ((stranger s body 49 when not x) ∷ (stranger s body 56 when not y) ∷ []) ≡ strangers (cond x (cond y None (Some 56)) (Some 49))
      go true true = refl
      go true false = refl
      go false y = refl

  strange_plan : (u : ℕ) (b : Bool) → planned body s (closes s (Some (Reject 9 u)) (Some (Logout 101)) (raised b s.E)) ≡ summed s (cond b (counted s body (reject s body 9 u ++ logout s body 101)) (reject s body 9 u ++ logout s body 101))
  unfolding reject readable
  strange_plan u true = refl
  strange_plan u false = refl

  pub three_is : rule_3 s body ≡ (bare_reset s body when is_bare_reset body)
  unfolding rule_3 is_bare_reset
  three_is = refl

  module _ (t : ℕ) {o : Option ℕ} (R : ReadIn 1 34 body o) where
    pub first_1 : o ≡ None → {p : Plan} → p ≡ closes s (Some (Logout 101)) None s.E → planned body s p ≡ summed s (active s body t)
    unfolding active rule_1
    first_1 z pw = rw (pw, unread_N s R z) refl

    module _ {n : ℕ} (z : o ≡ Some n) {u : Option ℕ} (w : u ≡ strange_tag s body) where
      pub first_2 : {tag : ℕ} → u ≡ Some tag → {p : Plan} → p ≡ closes s (Some (Reject 9 tag)) (Some (Logout 101)) (raised (eqb n s.E) s.E) → planned body s p ≡ summed s (active s body t)
      unfolding active rule_1
      first_2 {tag = tag} h pw = rw (pw, two_is, ← w, h, read_N s R z) (strange_plan tag (eqb n s.E))

      module _ (h : u ≡ None) {b : Bool} (k : b ≡ is_bare_reset body) where
        pub first_3 : b ≡ true → (p : Plan) → planned body s p ≡ summed s (bare_reset s body) → planned body s p ≡ summed s (active s body t)
        unfolding active rule_1
        first_3 q p d = d ∙ rw (two_is, ← w, h, three_is, ← k, q, read_N s R z)

        module _ (q : b ≡ false) where
          pub first_4 : s.E < n → (p : Plan) → planned body s p ≡ summed s (too_high s body t) → planned body s p ≡ summed s (active s body t)
          unfolding active rule_1 rule_4
          first_4 l p d = d ∙ rw (two_is, ← w, h, three_is, ← k, q, read_N s R z, lt-ltb s.E n l)

          pub first_5 : n ≤ s.E → n < s.E → (p : Plan) → planned body s p ≡ summed s (too_low s body) → planned body s p ≡ summed s (active s body t)
          unfolding active rule_1 rule_4 rule_5
          first_5 l r p d = d ∙ rw (two_is, ← w, h, three_is, ← k, q, read_N s R z, le-ltb s.E n l, lt-ltb n s.E r)

          pub first_6 : n ≤ s.E → s.E ≤ n → (p : Plan) → planned body s p ≡ summed s (in_turn s body) → planned body s p ≡ summed s (active s body t)
          unfolding active rule_1 rule_4 rule_5 rule_6
          first_6 l r p d =
              let x : n ≡ s.E = omega arith in
              d ∙ rw (two_is, ← w, h, three_is, ← k, q, read_N s R z, le-ltb s.E n l, le-ltb n s.E r, eq-eqb n s.E x)

    -- A LOGON
    pub logon_unread : 1 ≤ s.E → o ≡ None → {p : Plan} → p ≡ closes s (Some (Logout 101)) None s.E → planned body s p ≡ summed s (waiting s body t)
    unfolding waiting reset no_reset
    logon_unread l z pw = rw (pw, unread_N s R z, lt-ltb 0 s.E (omega arith)) (go (is_it (fix "Y") (first_field 141 body)))
      where
        go : (y : Bool) → planned body s (closes s (Some (Logout 101)) None s.E) ≡ summed s (first ((logout s body 101 when y) ∷ Math.some (logout s body 101) ∷ []) otherwise [])
        go true = refl
        go false = refl

    module _ {n : ℕ} (z : o ≡ Some n) {y : Bool} {h₁₀₈ : ℕ} (p : y ≡ is_it (fix "Y") (first_field 141 body)) (T : NumberIn 0 108 body h₁₀₈) where
      seconds : h₁₀₈ ≡ # s body 108
      seconds = hash s T

      pub logon_anew : y ≡ true → n ≡ 1 → {g : Gap} → g ≡ held_gap no_gap → {p : Plan} → p ≡ accepts true None 2 h₁₀₈ g → planned body s p ≡ summed s (waiting s body t)
      unfolding # waiting reset logon
      logon_anew h l gw pw = rw (pw, gw, ← p, h, read_N s R z, eq-eqb n 1 l, seconds)

      pub logon_late : y ≡ true → (n ≡ 1 → ⊥) → {p : Plan} → p ≡ closes s (Some (Logout 101)) None s.E → planned body s p ≡ summed s (waiting s body t)
      unfolding waiting reset
      logon_late h l pw = rw (pw, ← p, h, read_N s R z, ne_eqb n 1 l)

      pub logon_low : y ≡ false → n < s.E → {p : Plan} → p ≡ closes s (Some (Logout 101)) None s.E → planned body s p ≡ summed s (waiting s body t)
      unfolding waiting reset no_reset
      logon_low h l pw = rw (pw, ← p, h, read_N s R z, lt-ltb n s.E l)

      pub logon_next : y ≡ false → s.E ≤ n → n ≡ s.E → {g : Gap} → g ≡ held_gap no_gap → {p : Plan} → p ≡ accepts false None (s.E + 1) h₁₀₈ g → planned body s p ≡ summed s (waiting s body t)
      unfolding # waiting reset no_reset logon
      logon_next h l q gw pw = rw (pw, gw, ← p, h, read_N s R z, le-ltb n s.E l, eq-eqb n s.E q, seconds)

      pub logon_high : y ≡ false → s.E ≤ n → (n ≡ s.E → ⊥) → {c g : Gap} → c ≡ held_gap no_gap → g ≡ held_gap (asked_for t s.E n (gap_of c)) → {p : Plan} → p ≡ accepts false (Some (Ask s.E)) s.E h₁₀₈ g → planned body s p ≡ summed s (waiting s body t)
      unfolding # waiting reset no_reset logon
      logon_high h l q cw gw pw = let k : s.E < n = omega arith in rw (pw, gw, cw, ← p, h, read_N s R z, le-ltb n s.E l, ne_eqb n s.E q, lt-ltb s.E n k, seconds)

  -- WHETHER A LOGON CAN BE ACCEPTED
  ids_right : (is_it s.peers (first_field 49 body) && is_it s.ours (first_field 56 body)) ≡ is_none (strange_tag s body)
  ids_right = go (is_it s.peers (first_field 49 body)) (is_it s.ours (first_field 56 body))
    where
      go : (x y : Bool) → (x && y) ≡ is_none {T = ℕ} (cond x (cond y None (Some 56)) (Some 49))
      go true true = refl
      go true false = refl
      go false y = refl

  accepts_is : acceptable s body ≡ (speaks (readable s body) && (is_none (strange_tag s body) && is_clean (verdict body)))
  unfolding acceptable
  accepts_is = go (speaks (readable s body)) (is_it s.peers (first_field 49 body)) (is_it s.ours (first_field 56 body)) (is_clean (verdict body)) ∙ ap (λ (x : Bool). speaks (readable s body) && (x && is_clean (verdict body))) ids_right
    where
      go : (a x y c : Bool) → (a && x && y && c) ≡ (a && ((x && y) && c))
      go true true y c = refl
      go true false y c = refl
      go false x y c = refl

  module _ {o : Option ℕ} {a : Bool} (R : ReadIn 1 34 body o) (k : is_some o ≡ not a) where
    read_or_not : {b : Bool} → a ≡ b → speaks (readable s body) ≡ not b
    unfolding readable
    read_or_not h = sym (told_speaks (number_in 1 999_999_999 (first_field 34 body)) R.is) ∙ k ∙ ap not h

    pub accepts_none : a ≡ true → false ≡ acceptable s body
    accepts_none h = rw (accepts_is, read_or_not h) refl

    module _ (h : a ≡ false) {u : Option ℕ} {d : Bool} (w : u ≡ strange_tag s body) (l : d ≡ is_some u) where
      told_right : {b : Bool} → d ≡ b → is_none (strange_tag s body) ≡ not b
      told_right q = ap is_none (sym w) ∙ go u ∙ ap not (sym l ∙ q)
        where
          go : (q : Option ℕ) → is_none q ≡ not (is_some q)
          go (Some n) = refl
          go None = refl

      pub accepts_strange : d ≡ true → false ≡ acceptable s body
      accepts_strange q = rw (accepts_is, read_or_not h, told_right q) refl

      pub accepts_by : d ≡ false → {v : Verdict} {c : Bool} → v ≡ verdict body → c ≡ is_clean v → c ≡ acceptable s body
      accepts_by q f e = rw (accepts_is, read_or_not h, told_right q, ← f, ← e) refl

pub ruleset choosing = (turn_report, turn_verdict, turn_1, turn_2, turn_4, turn_5, turn_A, turn_AD, turn_F, turn_other, first_1, first_2, first_3, first_4, first_5, first_6, logon_unread, logon_anew, logon_late, logon_low, logon_next, logon_high, accepts_none, accepts_strange, accepts_by)
