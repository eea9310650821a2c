-- One step: unless it is a reset, what it contributes are the numbers that E passes over.
-- Assumes nothing.
use Prim.Native.Nat.{ℕ, ◌+◌, ◌<◌}
use native.Mathlib.Omega.{arith}
use mathlib.Core.Path.{◌≡◌, refl, sym, ap, ◌∙◌, subst}
use mathlib.Core.Bool.{Bool, true, false, cond, not, ◌&&◌, ◌||◌, false≢true}
use mathlib.Core.Logic.{◌⊎◌, inl, inr}
use mathlib.Core.List.{[], ◌∷◌, ◌++◌}
use mathlib.Core.Option.{none, some}
use lib.Dec.{eqb, ltb, leb}
use borrow.Author.Tests.{eqb-true, ltb-true, not-true, eq-eqb, lt-ltb, le-leb}
use Rattle.octets.specs.Bytes.{Bytes, fix}
use Rattle.octets.proofs.Tests.{both, both_true, neither}
use Rattle.fields.specs.Field.{first_field}
use Rattle.table.specs.declared.MsgType.TheVariants.{SequenceReset, OrderCancelRequest, TradeCaptureReportRequest}
use Rattle.table.specs.Dictionary.{code35}
use Rattle.dictionary.specs.Verdict.{verdict, msg_type}
use Rattle.message.specs.Whole.{body_in}
use Rattle.gap.specs.Gap.{seen}
use Rattle.moves.specs.Words.{◌when◌, first, ◌otherwise◌, speaks}
use Rattle.moves.specs.Session.{◌equals◌, Session}
use Rattle.moves.specs.Seen.{is_it, code_of, is_clean}
use Rattle.moves.specs.Moves.{OurPeer, Deeds, #, N, type, bare, readable, acceptable, reject, reject_type, rejection, counted, logout, asking, GapBecomes, served, logon, waiting, stranger, bare_reset, filled, in_turn, active}
use Rattle.moves.specs.declared.record.Status.{Status}
use Rattle.moves.specs.declared.record.Status.TheVariants.{Waiting, Active}
use Rattle.moves.proofs.EachRule.{holds_is, is_held, each_logon, each_serving, each_reset, each_high, each_low, each_gap, each_turn, each_rule}
use Rattle.letters.proofs.Carried.{type_is_lem}
use Rattle.session.specs.Calls.{Outcome, after_all, making, settling, renewed, step}
use Rattle.session.proofs.EachCall.{each_refusal, each_step}
use Rattle.session.proofs.Slips.{fails}
use Rattle.session.specs.Sequence.{refuses, rejects, Share, nothing, counts, skips, taken, reset_by, filled_by, counted_by, share_of}

-- a share, with the E before and behind it
abbrev pub Covers : ℕ → Share → ℕ → Type 0
Covers e nothing e' = e' ≡ e
Covers e (counts n) e' = (n ≡ e) × (e' ≡ e + 1)
Covers e (skips n k) e' = (n ≡ e) × (n < k) × (e' ≡ k)

-- one that passes and fails
pub never : {A : Type 0} {b : Bool} → b ≡ false → b ≡ true → A
never p q = absurd (false≢true (sym p ∙ q))

-- A session s and the body of a frame.
module _ (s : Session) (body : Bytes) where
  abbrev filling : Bool
  filling = is_it (fix "Y") (first_field 123 body)

  -- NOTHING IS WRONG with the message
  record Acceptable : Type 0 where
    numbered : speaks (readable s body) ≡ true
    sender : is_it s.peers (first_field 49 body) ≡ true
    target : is_it s.ours (first_field 56 body) ≡ true
    clean : is_clean (verdict body) ≡ true

  acceptable_is : acceptable s body ≡ true → Acceptable
  unfolding acceptable
  acceptable_is e =
      let a = both (speaks (readable s body) && is_it s.peers (first_field 49 body) && is_it s.ours (first_field 56 body)) (is_clean (verdict body)) e in
      let b = both (speaks (readable s body) && is_it s.peers (first_field 49 body)) (is_it s.ours (first_field 56 body)) a.0 in
      let c = both (speaks (readable s body)) (is_it s.peers (first_field 49 body)) b.0 in
      record { numbered = c.0; sender = c.1; target = b.1; clean = a.1 }

  acceptable_by : speaks (readable s body) ≡ true → OurPeer s body → is_clean (verdict body) ≡ true → acceptable s body ≡ true
  unfolding acceptable
  acceptable_by r p c = rw (r, is_held s.peers _ p.sender, is_held s.ours _ p.target, c)

  -- AN ACCEPTED GAP FILL
  pub record Fills (o : Outcome) : Type 0 where
    pub is_active : (s.status equals Active) ≡ true
    pub unrefused : refuses o.answer ≡ false
    pub right : acceptable s body ≡ true
    pub type_4 : type s body "4" ≡ true
    pub with_123 : filling ≡ true
    pub in_turn : N s body ≡ s.E
    pub leads_on : N s body < # s body 36

  pub fills_is : (o : Outcome) → filled_by s body o ≡ true → Fills o
  unfolding filled_by taken
  fills_is o e =
      let a = both (taken s body o && type s body "4" && filling && eqb (N s body) s.E) (ltb (N s body) (# s body 36)) e in
      let b = both (taken s body o && type s body "4" && filling) (eqb (N s body) s.E) a.0 in
      let c = both (taken s body o && type s body "4") filling b.0 in
      let d = both (taken s body o) (type s body "4") c.0 in
      let f = both ((s.status equals Active) && not (refuses o.answer)) (acceptable s body) d.0 in
      let g = both (s.status equals Active) (not (refuses o.answer)) f.0 in
      record { is_active = g.0; unrefused = not-true (refuses o.answer) g.1; right = f.1; type_4 = d.1; with_123 = c.1; in_turn = eqb-true _ _ b.1; leads_on = ltb-true _ _ a.1 }

  -- WHY E MOVES: it stays, or a frame in turn moves it by one, and no gap fill is accepted; or one is
  abbrev pub By : ℕ → Type 0
  By e' = (e' ≡ s.E) ⊎ ((N s body ≡ s.E) × (e' ≡ s.E + 1))

  pub record Plain (o : Outcome) : Type 0 where
    pub not_filled : Fills o → ⊥
    pub by : By o.session.E

  pub record Filled (o : Outcome) : Type 0 where
    pub is_filled : filled_by s body o ≡ true
    pub to : o.session.E ≡ # s body 36
    pub unrejected : rejects o ≡ false

  abbrev pub Why : Outcome → Type 0
  Why o = Filled o ⊎ Plain o

  pub why_covers : (o : Outcome) → Why o → Covers s.E (share_of s body o) o.session.E
  unfolding share_of counted_by
  why_covers o (inl F) = let k = fills_is o F.is_filled in rw F.is_filled (k.in_turn, k.leads_on, F.to)
  why_covers o (inr P) =
      rw (fails (filled_by s body o) (λ e. P.not_filled (fills_is o e))) (go (eqb (N s body) s.E && eqb o.session.E (s.E + 1)) refl P.by)
    where
      go : (b : Bool) → (eqb (N s body) s.E && eqb o.session.E (s.E + 1)) ≡ b → By o.session.E
          → Covers s.E (first ((counts (N s body) when b) ∷ []) otherwise nothing) o.session.E
      go true q w = let k = both (eqb (N s body) s.E) (eqb o.session.E (s.E + 1)) q in (eqb-true _ _ k.0, eqb-true _ _ k.1)
      go false q (inl e) = e
      go false q (inr e) = never q (both_true (eqb (N s body) s.E) (eqb o.session.E (s.E + 1)) (eq-eqb _ _ e.0) (eq-eqb _ _ e.1))

  -- what is delivered is of no other type, and counts
  pub application_not : (x : Bytes) → is_it x (some (code35 TradeCaptureReportRequest)) ≡ false → is_it x (some (code35 OrderCancelRequest)) ≡ false
      → (type s body "AD" || type s body "F") ≡ true → is_it x (code_of (msg_type body)) ≡ false
  unfolding code35
  application_not x a f y = go (type s body "AD") (type s body "F") refl refl y
    where
      go : (p q : Bool) → type s body "AD" ≡ p → type s body "F" ≡ q → (p || q) ≡ true → is_it x (code_of (msg_type body)) ≡ false
      go true q e h k = rw (type_is_lem TradeCaptureReportRequest (msg_type body) e) a
      go false true e h k = rw (type_is_lem OrderCancelRequest (msg_type body) h) f
      go false false e h k = absurd (false≢true k)

  pub delivered_share : (o : Outcome) → (type s body "AD" || type s body "F") ≡ true → N s body ≡ s.E → o.session.E ≡ s.E + 1 → share_of s body o ≡ counts (N s body)
  unfolding share_of counted_by code35
  delivered_share o y n e = rw (fails (filled_by s body o) (λ k. never (application_not (fix "4") refl refl y) (fills_is o k).type_4), eq-eqb _ _ n, eq-eqb _ _ e)

  module _ (t : ℕ) (buf : Bytes) where
    -- A LOGON that is answered: the session is not yet Active
    logon_why : s.status ≡ Waiting → type s body "A" ≡ true → (renewed s body (settling (making t s (waiting s body t) buf)) && type s body "A" && not (refuses (settling (making t s (waiting s body t) buf)).answer)) ≡ false
        → Why (settling (making t s (waiting s body t) buf))
    unfolding logon
    logon_why st y = each_logon (λ (ds : Deeds). (renewed s body (settling (making t s ds buf)) && type s body "A" && not (refuses (settling (making t s ds buf)).answer)) ≡ false → Why (settling (making t s ds buf))) s body t (record {
      anew = λ a n R. never R (both_true _ true (both_true _ (type s body "A") (ap (λ (x : Status). (x equals Waiting) && (Active equals Active) && is_it (fix "Y") (first_field 141 body)) st ∙ a) y) refl);
      logged_out = λ R. inr (record { not_filled = asleep; by = inl refl });
      in_turn = λ a n R. inr (record { not_filled = asleep; by = inr (n, refl) });
      high = λ a n R. inr (record { not_filled = asleep; by = inl refl });
    })
      where
        asleep : {o : Outcome} → Fills o → ⊥
        asleep F = false≢true (sym (ap (λ (x : Status). x equals Active) st) ∙ F.is_active)

    -- THE SIX RULES of an Active session
    abbrev Moved : Deeds → Type 0
    Moved ds = (taken s body (settling (making t s ds buf)) && bare s body && leb s.E (# s body 36) && not (rejects (settling (making t s ds buf)))) ≡ false → Why (settling (making t s ds buf))

    -- no gap fill is accepted
    plain : (ds : Deeds) → (Fills (settling (making t s ds buf)) → ⊥) → By (after_all t s ds).E → Moved ds
    plain ds h b R = inr (record { not_filled = h; by = b })

    stranger_why : (OurPeer s body → ⊥) → (tag : ℕ) → Moved (stranger s body tag)
    unfolding reject
    stranger_why h tag = go (eqb (N s body) s.E) refl
      where
        strange : {o : Outcome} → Fills o → ⊥
        strange F = let A = acceptable_is F.right in h (record { sender = holds_is s.peers (first_field 49 body) A.sender; target = holds_is s.ours (first_field 56 body) A.target })

        go : (b : Bool) → eqb (N s body) s.E ≡ b → Moved (cond b (counted s body (reject s body 9 tag ++ logout s body 101)) (reject s body 9 tag ++ logout s body 101))
        go true e = plain (counted s body (reject s body 9 tag ++ logout s body 101)) strange (inr (eqb-true _ _ e, refl))
        go false e = plain (reject s body 9 tag ++ logout s body 101) strange (inl refl)

    -- rule 3: without 123=Y
    bare_not : bare s body ≡ true → {o : Outcome} → Fills o → ⊥
    bare_not b F = never (ap not F.with_123) (both (type s body "4") (not filling) b).1

    reset_why : (s.status equals Active) ≡ true → speaks (readable s body) ≡ true → OurPeer s body → bare s body ≡ true → Moved (bare_reset s body)
    unfolding reject taken
    reset_why st r p b = each_reset Moved s body
        (λ c. plain (rejection s body) (bare_not b) (inl refl))
        (λ c l. plain (reject s body 5 36) (bare_not b) (inl refl))
        (λ c l R. never R (rw (st, acceptable_by r p c, b, le-leb _ _ l)))

    -- rule 6: a message of another type than 4 counts,
    pub other_counts : type s body "4" ≡ false → (after_all t s (in_turn s body)).E ≡ s.E + 1
    unfolding reject reject_type served
    other_counts y = each_turn (λ (ds : Deeds). (after_all t s ds).E ≡ s.E + 1) s body (record {
      report = λ a. refl;
      finding = λ c. refl;
      test = λ c a. refl;
      resend = λ c a. each_serving (λ (ds : Deeds). (after_all t s (counted s body ds)).E ≡ s.E + 1) s body refl refl (λ u. refl);
      gap = λ a. never y a;
      logout = λ a. refl;
      logon = λ a. refl;
      application = λ c a. refl;
      other = refl;
    })

    -- and one of type 4 is rejected and counts, or leads on
    pub fill_turn : type s body "4" ≡ true → in_turn s body ≡ cond (is_clean (verdict body)) (filled s body) (counted s body (rejection s body))
    unfolding in_turn code35
    fill_turn y = rw (type_is_lem SequenceReset (msg_type body) y) (go (is_clean (verdict body)))
      where
        go : (c : Bool) → ◌≡◌ {A = Deeds} (first ((counted s body (rejection s body) when not c) ∷ none ∷ none ∷ some (filled s body) ∷ none ∷ none ∷ none ∷ []) otherwise counted s body []) (cond c (filled s body) (counted s body (rejection s body)))
        go true = refl
        go false = refl

    fill_why : (s.status equals Active) ≡ true → speaks (readable s body) ≡ true → OurPeer s body → N s body ≡ s.E → type s body "4" ≡ true → bare s body ≡ false → Moved (in_turn s body)
    unfolding reject filled_by taken
    fill_why st r p e y b = subst Moved (sym (fill_turn y)) (go (is_clean (verdict body)) refl)
      where
        has_123 : (h : Bool) → filling ≡ h → h ≡ true
        has_123 true q = refl
        has_123 false q = never b (both_true (type s body "4") (not filling) y (ap not q))

        go : (c : Bool) → is_clean (verdict body) ≡ c → Moved (cond c (filled s body) (counted s body (rejection s body)))
        go true c = each_gap Moved s body (λ l. plain (counted s body (reject s body 5 36)) (λ F. let k = F.leads_on in omega arith) (inr (e, refl)))
            (λ l R. inl (record { is_filled = rw (st, acceptable_by r p c, y, has_123 filling refl, eq-eqb _ _ e, lt-ltb _ _ l); to = refl; unrejected = refl }))
        go false c = plain (counted s body (rejection s body)) (λ F. never c (acceptable_is F.right).clean) (inr (e, refl))

    turn_why : (s.status equals Active) ≡ true → speaks (readable s body) ≡ true → OurPeer s body → N s body ≡ s.E → bare s body ≡ false → Moved (in_turn s body)
    turn_why st r p e b = go (type s body "4") refl
      where
        go : (h : Bool) → type s body "4" ≡ h → Moved (in_turn s body)
        go true y = fill_why st r p e y b
        go false y = plain (in_turn s body) (λ F. never y F.type_4) (inr (e, other_counts y))

    -- rules 4 and 5: out of turn
    out_of_turn : (N s body ≡ s.E → ⊥) → (ds : Deeds) → (after_all t s ds).E ≡ s.E → Moved ds
    out_of_turn h ds e = plain ds (λ F. h F.in_turn) (inl e)

    active_why : (s.status equals Active) ≡ true → Moved (active s body t)
    unfolding reject served
    active_why st = each_rule Moved s body t (record {
      one = λ r. plain (logout s body 101) (λ F. never r (acceptable_is F.right).numbered) (inl refl);
      two = λ r h tag l. stranger_why h tag;
      three = λ r p b. reset_why st r p b;
      four = λ r p b l. each_high Moved s body t (record {
        served_asks = λ c y u a. out_of_turn (λ e. omega arith) (served s body ++ asking s body t s.gap) refl;
        served_seen = λ c y u a. out_of_turn (λ e. omega arith) (served s body ++ (GapBecomes (seen (N s body) s.gap) ∷ [])) refl;
        only_asks = λ a. out_of_turn (λ e. omega arith) (asking s body t s.gap) refl;
        only_seen = λ a. out_of_turn (λ e. omega arith) (GapBecomes (seen (N s body) s.gap) ∷ []) refl;
      });
      five = λ r p b l. each_low Moved s body (out_of_turn (λ e. omega arith) (logout s body 101) refl) (λ reason tag i j. out_of_turn (λ e. omega arith) (reject s body reason tag) refl) (out_of_turn (λ e. omega arith) [] refl);
      six = λ r p b e. turn_why st r p e b;
    })

-- IN EVERY STEP
pub step_why : (s : Session) (f : Bytes) (t : ℕ) (buf store : Bytes) → reset_by s (body_in f) (step s f t buf store) ≡ false → Why s (body_in f) (step s f t buf store)
unfolding reset_by
step_why s f t buf store = each_step (λ (o : Outcome). (anew o || onward o) ≡ false → Why s body o) s t buf f store (record {
  refused = λ k n. inr (record { not_filled = λ F. false≢true (sym F.unrefused); by = inl (each_refusal (λ (u : Session). u.E ≡ s.E) k s refl refl) });
  logon = λ P st y c n. logon_why s body t buf st y (neither (anew (settling (making t s (waiting s body t) buf))) (onward (settling (making t s (waiting s body t) buf))) n).0;
  move = λ P st n. active_why s body t buf (ap (λ (x : Status). x equals Active) st) (neither (anew (settling (making t s (active s body t) buf))) (onward (settling (making t s (active s body t) buf))) n).1;
})
  where
    body : Bytes
    body = body_in f

    anew : Outcome → Bool
    anew o = renewed s body o && type s body "A" && not (refuses o.answer)

    onward : Outcome → Bool
    onward o = taken s body o && bare s body && leb s.E (# s body 36) && not (rejects o)
