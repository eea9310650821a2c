-- A move that is neither rule 4's nor a reset that is taken leaves the gap, unless E is past it; a reset that is taken closes it.
-- Assumes nothing.
use Prim.Native.Nat.{ℕ, ◌≤◌, ◌<◌}
use mathlib.Core.Path.{◌≡◌, refl, sym, ap, ◌∙◌}
use mathlib.Core.Bool.{Bool, true, false, cond}
use mathlib.Core.List.{◌++◌}
use lib.Dec.{eqb}
use Rattle.octets.specs.Bytes.{Bytes}
use Rattle.message.specs.Whole.{body_in}
use Rattle.gap.specs.Gap.{unless_past}
use Rattle.moves.specs.Words.{speaks}
use Rattle.moves.specs.Session.{Session}
use Rattle.moves.specs.Moves.{OurPeer, bare, Deeds, #, N, readable, clean, reject, reject_type, logout, counted, served, stranger, in_turn, active}
use Rattle.moves.proofs.EachRule.{each_serving, each_reset, each_low, each_gap, each_turn, each_rule}
use Rattle.session.specs.Calls.{Outcome, after_all, making, settling}
use Rattle.session.proofs.Promise as Session
use Rattle.session.proofs.EachCall.{active-step}
use Rattle.requests.specs.Requests.{ResetCloses, LeavesGap}

module _ (t : ℕ) (s : Session) (body : Bytes) where
  abbrev Keeps : Deeds → Type 0
  Keeps ds = (after_all t s ds).gap ≡ s.gap

  turn_keeps : Keeps (in_turn s body)
  unfolding reject reject_type served
  turn_keeps = each_turn Keeps s body (record {
    report = λ y. refl;
    finding = λ c. refl;
    test = λ c y. refl;
    resend = λ c y. each_serving (λ (ds : Deeds). Keeps (counted s body ds)) s body refl refl (λ u. refl);
    gap = λ y. each_gap Keeps s body (λ l. refl) (λ l. refl);
    logout = λ y. refl;
    logon = λ y. refl;
    application = λ c y. refl;
    other = refl;
  })

  stranger_keeps : (tag : ℕ) → Keeps (stranger s body tag)
  unfolding reject
  stranger_keeps tag = go (eqb (N s body) s.E)
    where
      go : (b : Bool) → Keeps (cond b (counted s body (reject s body 9 tag ++ logout s body 101)) (reject s body 9 tag ++ logout s body 101))
      go true = refl
      go false = refl

  active_keeps : (speaks (readable s body) ≡ true → OurPeer s body → bare s body ≡ false → s.E < N s body → ⊥)
      → (speaks (readable s body) ≡ true → OurPeer s body → bare s body ≡ true → clean s body ≡ true → s.E ≤ # s body 36 → ⊥) → Keeps (active s body t)
  unfolding reject
  active_keeps not-high not_taken = each_rule Keeps s body t (record {
    one = λ r. refl;
    two = λ r h tag l. stranger_keeps tag;
    three = λ r p b. each_reset Keeps s body (λ c. refl) (λ c l. refl) (λ c l. absurd (not_taken r p b c l));
    four = λ r p b h. absurd (not-high r p b h);
    five = λ r p b l. each_low Keeps s body refl (λ reason tag i j. refl) refl;
    six = λ r p b e. turn_keeps;
  })

pub leaves : (s : Session) (f : Bytes) (t : ℕ) (buf store : Bytes) → LeavesGap s f t buf store
leaves s f t buf store U not-high not_taken =
    let o = settling (making t s (active s (body_in f) t) buf) in
    let k = active_keeps t s (body_in f) (λ r p b h. not-high (record { by_number = record { unrefused = U; numbered = r; peer = p; not_bare = b }; above = h }))
    (λ r p b c l. not_taken (record { unrefused = U; numbered = r; peer = p; is_bare = b }) c l) in
    ap (λ (x : Outcome). x.session.gap) (active-step s f t buf store U)
    ∙ ap (unless_past o.session.E) k
    ∙ ap (λ (x : Outcome). unless_past x.session.E s.gap) (sym (active-step s f t buf store U))

-- and one that is taken closes it
pub resets : (s : Session) (f : Bytes) (t : ℕ) (buf store : Bytes) → ResetCloses s f t buf store
resets s f t buf store R c l = ap (λ (o : Outcome). o.session.gap) (((Session.promise).slips s f t buf store).reset_taken R c l)
