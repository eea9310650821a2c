-- What holds of each rule's move holds of the move: one law for all that is shown of every move of a session.
-- Assumes nothing.
use Prim.Native.Nat.{ℕ, ◌-◌, ◌≤◌, ◌<◌}
use native.Mathlib.Omega.{arith}
use mathlib.Core.Path.{◌≡◌, refl, sym, ap, ◌∙◌}
use mathlib.Core.Bool.{Bool, true, false, cond, not, ◌&&◌, ◌||◌, false≢true}
use mathlib.Core.List.{[], ◌∷◌, ◌++◌}
use mathlib.Core.Option.{Option, none, some}
use lib.Dec.{eqb, ltb, leb}
use borrow.Author.Tests.{ltb-true, ltb-false, leb-true, leb-false, eqb-true, eqb-false, not-true, not-false}
use Rattle.octets.specs.Bytes.{Bytes, fix}
use Rattle.fields.specs.Field.{first_field}
use Rattle.kinds.proofs.Values.{same_true, same_refl}
use Rattle.dictionary.specs.Verdict.{verdict, Clean}
use Rattle.message.specs.Message.{absent, bytes}
use Rattle.gap.specs.Gap.{no_gap, asks, seen}
use Rattle.moves.specs.Words.{first, ◌when◌, ◌otherwise◌, speaks}
use Rattle.moves.specs.Session.{Session}
use Rattle.moves.specs.Seen.{is_it, repeated, moment_in, ◌later_than◌, is_clean}
use Rattle.moves.specs.Moves.{Deeds, Heartbeat, Write, FillTo, ResetTo, Anew, Deliver, GapBecomes, #, N, type, readable, reject, rejection, logout, asking, counted, unserved, served, logon, reset, no_reset, waiting, stranger, rule_1, rule_2, bare_reset, rule_3, served_first, asks_or_not, too_high, rule_4, too_low, rule_5, filled, in_turn, rule_6, active}
use Rattle.moves.specs.Moves.{OurPeer, bare, reject_type}
use Rattle.moves.proofs.Words.{then_by, said_when, said-first, said_otherwise, Said, not_said, all_silent}
use Rattle.moves.proofs.Readings.{is_clean_lem}

-- a field that holds a value
pub holds_is : (w : Bytes) (o : Option Bytes) → is_it w o ≡ true → o ≡ some w
holds_is w none e = absurd (false≢true e)
holds_is w (some v) e = ap some (same_true v w e)

pub is_held : (w : Bytes) (o : Option Bytes) → o ≡ some w → is_it w o ≡ true
is_held w o e = rw e (same_refl w)

not_held : (w : Bytes) (o : Option Bytes) → is_it w o ≡ false → o ≡ some w → ⊥
not_held w o h e = false≢true (sym h ∙ is_held w o e)

-- A LOGON that is answered
pub record EachLogon (P : Deeds → Type 0) (s : Session) (body : Bytes) (t : ℕ) : Type 0 where
  pub anew : is_it (fix "Y") (first_field 141 body) ≡ true → N s body ≡ 1 → P (Anew ∷ logon s body (bytes (fix "Y")))
  pub logged_out : P (logout s body 101)
  pub in_turn : is_it (fix "Y") (first_field 141 body) ≡ false → N s body ≡ s.E → P (counted s body (logon s body absent))
  pub high : is_it (fix "Y") (first_field 141 body) ≡ false → s.E < N s body → P (logon s body absent ++ asking s body t no_gap)

-- A MESSAGE IN TURN
pub record EachTurn (P : Deeds → Type 0) (s : Session) (body : Bytes) : Type 0 where
  pub report : type s body "AE" ≡ true → P (counted s body (reject_type s body))
  pub finding : is_clean (verdict body) ≡ false → P (counted s body (rejection s body))
  pub test : verdict body ≡ Clean → type s body "1" ≡ true → P (counted s body (Write (Heartbeat (repeated (first_field 112 body))) ∷ []))
  pub resend : verdict body ≡ Clean → type s body "2" ≡ true → P (counted s body (unserved s body otherwise served s body))
  pub gap : type s body "4" ≡ true → P (filled s body)
  pub logout : type s body "5" ≡ true → P (counted s body (logout s body 4))
  pub logon : type s body "A" ≡ true → P (counted s body (reject s body 99 35))
  pub application : verdict body ≡ Clean → (type s body "AD" || type s body "F") ≡ true → P (counted s body (Deliver ∷ []))
  pub other : P (counted s body [])

-- THE SIX RULES
pub record EachRule (P : Deeds → Type 0) (s : Session) (body : Bytes) (t : ℕ) : Type 0 where
  pub one : speaks (readable s body) ≡ false → P (logout s body 101)
  pub two : speaks (readable s body) ≡ true → (OurPeer s body → ⊥) → (tag : ℕ) → tag ≤ 56 → P (stranger s body tag)
  pub three : speaks (readable s body) ≡ true → OurPeer s body → bare s body ≡ true → P (bare_reset s body)
  pub four : speaks (readable s body) ≡ true → OurPeer s body → bare s body ≡ false → s.E < N s body → P (too_high s body t)
  pub five : speaks (readable s body) ≡ true → OurPeer s body → bare s body ≡ false → N s body < s.E → P (too_low s body)
  pub six : speaks (readable s body) ≡ true → OurPeer s body → bare s body ≡ false → N s body ≡ s.E → P (in_turn s body)

module _ (P : Deeds → Type 0) (s : Session) (body : Bytes) where
  pub each_logon : (t : ℕ) → EachLogon P s body t → P (waiting s body t)
  unfolding waiting reset no_reset
  each_logon t R = go (is_it (fix "Y") (first_field 141 body)) (eqb (N s body) 1) (ltb (N s body) s.E) (eqb (N s body) s.E) (ltb s.E (N s body)) refl refl refl refl refl
    where
      go : (p q l m h : Bool) → is_it (fix "Y") (first_field 141 body) ≡ p → eqb (N s body) 1 ≡ q → ltb (N s body) s.E ≡ l → eqb (N s body) s.E ≡ m → ltb s.E (N s body) ≡ h → P (first
          ((cond q (Anew ∷ logon s body (bytes (fix "Y"))) (logout s body 101) when p)
          ∷ first ((logout s body 101 when l) ∷ (counted s body (logon s body absent) when m) ∷ ((logon s body absent ++ asking s body t no_gap) when h) ∷ [])
          ∷ []) otherwise [])
      go true true l m h y a b c d = R.anew y (eqb-true _ _ a)
      go true false l m h y a b c d = R.logged_out
      go false q true m h y a b c d = R.logged_out
      go false q false true h y a b c d = R.in_turn y (eqb-true _ _ c)
      go false q false false true y a b c d = R.high y (ltb-true _ _ d)
      go false q false false false y a b c d =
          let x = ltb-false (N s body) s.E b in
          let y = ltb-false s.E (N s body) d in
          absurd (eqb-false (N s body) s.E c (omega arith))

  -- RULE 3
  pub each_reset : (is_clean (verdict body) ≡ false → P (rejection s body)) → (is_clean (verdict body) ≡ true → # s body 36 < s.E → P (reject s body 5 36))
      → (is_clean (verdict body) ≡ true → s.E ≤ # s body 36 → P (ResetTo (# s body 36) ∷ GapBecomes no_gap ∷ [])) → P (bare_reset s body)
  unfolding bare_reset
  each_reset finding low taken =
      said_otherwise P ((rejection s body when not (is_clean (verdict body))) ∷ (reject s body 5 36 when ltb (# s body 36) s.E) ∷ []) (ResetTo (# s body 36) ∷ GapBecomes no_gap ∷ [])
      (then_by (said_when P _ _ (λ e. finding (not-true _ e))) (λ n. let c = not-false (is_clean (verdict body)) (not_said (rejection s body) _ n) in
      then_by (said_when P _ _ (λ e. low c (ltb-true _ _ e))) (λ m. taken c (ltb-false _ _ (not_said (reject s body 5 36) _ m)))))

  -- SERVING
  pub each_serving : P (reject s body 5 7) → P (reject s body 5 16) → (unserved s body ≡ none → P (served s body)) → P (unserved s body otherwise served s body)
  unfolding unserved
  each_serving begin end serve = go (ltb (s.next - 1) (# s body 7)) (ltb 0 (# s body 16) && ltb (# s body 16) (# s body 7)) refl refl
    where
      go : (x y : Bool) → ltb (s.next - 1) (# s body 7) ≡ x → (ltb 0 (# s body 16) && ltb (# s body 16) (# s body 7)) ≡ y
          → P (first ((reject s body 5 7 when x) ∷ (reject s body 5 16 when y) ∷ []) otherwise served s body)
      go true y p q = begin
      go false true p q = end
      go false false p q = serve (rw (p, q))

  -- RULE 4: served first or not, and then asked or not
  pub each_asking : (t : ℕ) → (asks t s.E s.gap ≡ true → P (asking s body t s.gap)) → (asks t s.E s.gap ≡ false → P (GapBecomes (seen (N s body) s.gap) ∷ [])) → P (asks_or_not s body t)
  unfolding asks_or_not
  each_asking t asked not-asked = go (asks t s.E s.gap) refl
    where
      go : (b : Bool) → asks t s.E s.gap ≡ b → P (cond b (asking s body t s.gap) (GapBecomes (seen (N s body) s.gap) ∷ []))
      go true e = asked e
      go false e = not-asked e

  each_served : (verdict body ≡ Clean → type s body "2" ≡ true → unserved s body ≡ none → P (served s body)) → P [] → P (served_first s body)
  unfolding served_first
  each_served serves alone = go (type s body "2") (is_clean (verdict body)) (unserved s body) refl refl refl
    where
      go : (a c : Bool) (u : Option Deeds) → type s body "2" ≡ a → is_clean (verdict body) ≡ c → unserved s body ≡ u → P (cond (a && c && not (speaks u)) (served s body) [])
      go true true none p q r = serves (is_clean_lem (verdict body) q) p r
      go true true (some ds) p q r = alone
      go true false u p q r = alone
      go false c u p q r = alone

  -- RULE 5
  pub each_low : P (logout s body 101) → ((reason tag : ℕ) → reason ≤ 10 → tag ≤ 122 → P (reject s body reason tag)) → P [] → P (too_low s body)
  unfolding too_low
  each_low new rejected ignored =
      go
      (is_it (fix "Y") (first_field 43 body))
      (speaks (first_field 122 body))
      (speaks (first_field 52 body))
      (speaks (moment_in (first_field 52 body)))
      (speaks (moment_in (first_field 122 body)))
      (moment_in (first_field 122 body) later_than moment_in (first_field 52 body))
    where
      go : (a b c d e f : Bool)
          → P (first
          (logout s body 101 when not a ∷ reject s body 1 122 when not b ∷ reject s body 1 52 when not c ∷ reject s body 6 52 when not d ∷ reject s body 6 122 when not e ∷ reject s body 10 122 when f ∷ [])
          otherwise [])
      go false b c d e f = new
      go true false c d e f = rejected 1 122 (omega arith) (omega arith)
      go true true false d e f = rejected 1 52 (omega arith) (omega arith)
      go true true true false e f = rejected 6 52 (omega arith) (omega arith)
      go true true true true false f = rejected 6 122 (omega arith) (omega arith)
      go true true true true true true = rejected 10 122 (omega arith) (omega arith)
      go true true true true true false = ignored

  -- RULE 6
  pub each_gap : (# s body 36 ≤ N s body → P (counted s body (reject s body 5 36))) → (N s body < # s body 36 → P (FillTo (# s body 36) ∷ [])) → P (filled s body)
  unfolding filled
  each_gap low taken = go (leb (# s body 36) (N s body)) refl
    where
      go : (b : Bool) → leb (# s body 36) (N s body) ≡ b → P (cond b (counted s body (reject s body 5 36)) (FillTo (# s body 36) ∷ []))
      go true e = low (leb-true _ _ e)
      go false e = taken (leb-false _ _ e)

  pub each_turn : EachTurn P s body → P (in_turn s body)
  unfolding in_turn
  each_turn R =
      said_otherwise P
      ((counted s body (reject_type s body) when type s body "AE")
      ∷ (counted s body (rejection s body) when not (is_clean (verdict body)))
      ∷ (counted s body (Write (Heartbeat (repeated (first_field 112 body))) ∷ []) when type s body "1")
      ∷ (counted s body (unserved s body otherwise served s body) when type s body "2")
      ∷ (filled s body when type s body "4")
      ∷ (counted s body (logout s body 4) when type s body "5")
      ∷ (counted s body (reject s body 99 35) when type s body "A")
      ∷ (counted s body (Deliver ∷ []) when (type s body "AD" || type s body "F"))
      ∷ []) (counted s body [])
      (then_by (said_when P _ _ (λ e. R.report e)) (λ n₀.
      then_by (said_when P _ _ (λ e. R.finding (not-true _ e))) (λ n. let c = is_clean_lem (verdict body) (not-false _ (not_said (counted s body (rejection s body)) _ n)) in
      then_by (said_when P _ _ (λ e. R.test c e)) (λ n₁.
      then_by (said_when P _ _ (λ e. R.resend c e)) (λ n₂.
      then_by (said_when P _ _ (λ e. R.gap e)) (λ n₄.
      then_by (said_when P _ _ (λ e. R.logout e)) (λ n₅.
      then_by (said_when P _ _ (λ e. R.logon e)) (λ n₆.
      then_by (said_when P _ _ (λ e. R.application c e)) (λ n₇. R.other)))))))))

  -- RULE 2, and all six
  our_peer : rule_2 s body ≡ none → OurPeer s body
  unfolding rule_2
  our_peer n =
      let k = all_silent ((stranger s body 49 when not (is_it s.peers (first_field 49 body))) ∷ (stranger s body 56 when not (is_it s.ours (first_field 56 body))) ∷ []) n in
      record { sender = holds_is s.peers (first_field 49 body) (not-false _ (not_said (stranger s body 49) _ k.0)); target = holds_is s.ours (first_field 56 body) (not-false _ (not_said (stranger s body 56) _ k.1.0)) }

  pub each_rule : (t : ℕ) → EachRule P s body t → P (active s body t)
  unfolding active rule_1 rule_2 rule_3 rule_4 rule_5 rule_6
  each_rule t R =
      said_otherwise P (rule_1 s body ∷ rule_2 s body ∷ rule_3 s body ∷ rule_4 s body t ∷ rule_5 s body ∷ rule_6 s body ∷ []) []
      (then_by (said_when P _ _ (λ e. R.one (not-true _ e))) (λ n₁. let r = not-false (speaks (readable s body)) (not_said (logout s body 101) _ n₁) in
      then_by (two r) (λ n₂. let p = our_peer n₂ in
      then_by (said_when P _ _ (λ e. R.three r p e)) (λ n₃. let b = not_said (bare_reset s body) (bare s body) n₃ in
      then_by (said_when P _ _ (λ e. R.four r p b (ltb-true _ _ e))) (λ n₄. let h = ltb-false s.E (N s body) (not_said (too_high s body t) _ n₄) in
      then_by (said_when P _ _ (λ e. R.five r p b (ltb-true _ _ e))) (λ n₅. let l = ltb-false (N s body) s.E (not_said (too_low s body) _ n₅) in
      then_by (said_when P _ _ (λ e. R.six r p b (eqb-true _ _ e))) (λ n₆. absurd (eqb-false (N s body) s.E (not_said (in_turn s body) _ n₆) (omega arith)))))))))
    where
      two : speaks (readable s body) ≡ true → Said P (rule_2 s body)
      two r =
          said-first P ((stranger s body 49 when not (is_it s.peers (first_field 49 body))) ∷ (stranger s body 56 when not (is_it s.ours (first_field 56 body))) ∷ [])
          (then_by (said_when P _ _ (λ e. R.two r (λ p. not_held s.peers (first_field 49 body) (not-true _ e) p.sender) 49 (omega arith))) (λ n.
          then_by (said_when P _ _ (λ e. R.two r (λ p. not_held s.ours (first_field 56 body) (not-true _ e) p.target) 56 (omega arith))) (λ m. tt)))

-- a frame that is too high: served first or not, and what it then does
pub record EachHigh (P : Deeds → Type 0) (s : Session) (body : Bytes) (t : ℕ) : Type 0 where
  pub served_asks : verdict body ≡ Clean → type s body "2" ≡ true → unserved s body ≡ none → asks t s.E s.gap ≡ true → P (served s body ++ asking s body t s.gap)
  pub served_seen : verdict body ≡ Clean → type s body "2" ≡ true → unserved s body ≡ none → asks t s.E s.gap ≡ false → P (served s body ++ (GapBecomes (seen (N s body) s.gap) ∷ []))
  pub only_asks : asks t s.E s.gap ≡ true → P (asking s body t s.gap)
  pub only_seen : asks t s.E s.gap ≡ false → P (GapBecomes (seen (N s body) s.gap) ∷ [])

pub each_high : (P : Deeds → Type 0) (s : Session) (body : Bytes) (t : ℕ) → EachHigh P s body t → P (too_high s body t)
unfolding too_high
each_high P s body t R =
    each_served (λ (ds : Deeds). P (ds ++ asks_or_not s body t)) s body
    (λ c y u. each_asking (λ (ds : Deeds). P (served s body ++ ds)) s body t (R.served_asks c y u) (R.served_seen c y u))
    (each_asking P s body t R.only_asks R.only_seen)
