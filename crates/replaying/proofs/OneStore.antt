-- Behind any run with one store that was zeroed at its beginning the last 64 reports since the numbers began anew are found, and no others.
-- Assumes nothing.
use Prim.Native.Nat.{ℕ, ◌+◌, ◌≤◌, ◌<◌}
use native.Mathlib.Omega.{arith}
use mathlib.Core.Path.{◌≡◌, refl, sym, ap, ap₂, ◌∙◌, subst}
use mathlib.Core.Bool.{Bool, true, false, cond}
use mathlib.Core.List.{List, [], ◌∷◌, ◌++◌, append-nil}
use mathlib.Core.Option.{Option, none}
use lib.ListN.{length}
use Rattle.octets.specs.Bytes.{Bytes}
use Rattle.message.specs.Whole.{body_in}
use Rattle.report.specs.Values.{Values}
use Rattle.report.specs.Report.{Report}
use Rattle.places.specs.Places.{is_store, zeroed}
use Rattle.places.proofs.Cuts.{zeroed_store}
use Rattle.store.specs.Store.{find, kept}
use Rattle.store.specs.Promise.{Above, last64}
use Rattle.store.proofs.Last.{Behind}
use Rattle.store.proofs.FromZero.{zeroed_behind, still_store, one_more}
use Rattle.moves.specs.Session.{Session}
use Rattle.session.specs.Calls.{Outcome, renewed, step, Call, Step, Tick, OurLogout, OurTestRequest, Reconnect, call}
use Rattle.session.specs.Promise.{renews}
use Rattle.session.specs.Answer.{Answer}
use Rattle.session.specs.declared.Refusal.{Refusal}
use Rattle.session.specs.Refusals.{after}
use Rattle.session.proofs.EachCall.{each_refusal}
use Rattle.session.proofs.Stepping.{ranged_is}
use Rattle.session.proofs.Promise as Session
use Rattle.reporting.specs.Call.{the_report, unless, report, kept_unless, store_after}
use Rattle.reporting.proofs.Promise.{Passed, each_report, passed-sendable}
use Rattle.replaying.specs.Call.{replay}
use Rattle.replaying.specs.Run.{Turn, Ours, OurReport, OurReplay, Day, lent, left, went_out, day}
use Rattle.replaying.specs.Run as Run
use Rattle.replaying.proofs.Ways.{each_replay}
use Rattle.replaying.proofs.Numbers.{turn_ours}

-- REPORTS of numbers below the next
abbrev Below : ℕ → List Report → Type 0
Below n [] = Unit {0}
Below n (r ∷ rs) = (r.number < n) × Below n rs

below_more : (n m : ℕ) (rs : List Report) → n ≤ m → Below n rs → Below m rs
below_more n m [] l B = tt
below_more n m (r ∷ rs) l B = (let h = B.0 in omega (arith, h, l), below_more n m rs l B.1)

below_new : (n : ℕ) (rs : List Report) (r : Report) → r.number < n → Below n rs → Below n (rs ++ (r ∷ []))
below_new n [] r l B = (l, tt)
below_new n (x ∷ rs) r l B = (B.0, below_new n rs r l B.1)

above_new : (m : ℕ) (rs : List Report) (r : Report) → m < r.number → Above m rs → Below r.number rs → Above m (rs ++ (r ∷ []))
above_new m [] r l A B = (l, tt)
above_new m (x ∷ rs) r l A B = (A.0, above_new x.number rs r B.0 A.1 B.1)

-- WHAT HOLDS behind each turn
record Keeping (s : Session) (store : Bytes) (rs : List Report) : Type 0 where
  whole : is_store store ≡ true
  table : Behind (kept s.ours s.peers store) rs
  rising : Above 0 rs
  below : Below s.next rs

-- for a session with the same CompIDs that has used no fewer numbers
keeping_on : (s u : Session) (store : Bytes) (rs : List Report) → u.ours ≡ s.ours → u.peers ≡ s.peers → s.next ≤ u.next → Keeping s store rs → Keeping u store rs
keeping_on s u store rs a b l K =
    record {
      whole = K.whole;
      table = subst (λ (us : Bytes). Behind (kept us u.peers store) rs) (sym a) (subst (λ (them : Bytes). Behind (kept s.ours them store) rs) (sym b) K.table);
      rising = K.rising;
      below = below_more s.next u.next rs l K.below;
    }

keeping-zeroed : (s : Session) (store : Bytes) → is_store store ≡ true → Keeping s (zeroed store) []
keeping-zeroed s store w = record { whole = zeroed_store store w; table = zeroed_behind s.ours s.peers store w; rising = tt; below = tt }

-- A SESSION'S OWN CALL: it zeroes the store, or leaves it
left_is : (s : Session) (store : Bytes) (c : Call) → left s store c ≡ cond (renews s (lent store c)) (zeroed store) store
left_is s store (Step f t buf other) = go (renewed s (body_in f) (step s f t buf store)) refl
  where
    go : (b : Bool) → renewed s (body_in f) (step s f t buf store) ≡ b → left s store (Step f t buf other) ≡ cond b (zeroed store) store
    go true e = ((Session.promise).stores s f t buf store).zeroes e
    go false e = ((Session.promise).stores s f t buf store).stays e
left_is s store (Tick t buf) = refl
left_is s store (OurLogout t buf) = refl
left_is s store (OurTestRequest id t buf) = refl
left_is s store Reconnect = refl

call_keeps : (s : Session) (store : Bytes) (rs : List Report) (c : Call) → Keeping s store rs
    → Keeping (call s (lent store c)).session (left s store c) (cond (renews s (lent store c)) [] rs)
call_keeps s store rs c K =
    subst (λ (x : Bytes). Keeping (call s (lent store c)).session x (cond (renews s (lent store c)) [] rs)) (sym (left_is s store c)) (go (renews s (lent store c)) refl)
  where
    go : (b : Bool) → renews s (lent store c) ≡ b → Keeping (call s (lent store c)).session (cond b (zeroed store) store) (cond b [] rs)
    go true e = keeping-zeroed (call s (lent store c)).session store K.whole
    go false e =
        let B = (Session.promise).buffers s (lent store c) in
        let n : (call s (lent store c)).session.next ≡ s.next + length (call s (lent store c)).reply =
        (Session.promise).next_out s (lent store c) ∙ ap (λ (b : Bool). cond b 1 s.next + length (call s (lent store c)).reply) e in
        keeping_on s (call s (lent store c)).session store rs B.ours B.peers (omega (arith, n)) K

-- A REPORT: refused, or one more
refused_keeps : (k : Refusal) (s : Session) (store : Bytes) (rs : List Report) → Keeping s store rs → Keeping (after k s) store (rs ++ [])
refused_keeps k s store rs K =
    subst (Keeping (after k s) store) (sym (append-nil rs)) (each_refusal (λ (u : Session). Keeping u store rs) k s K (record { whole = K.whole; table = K.table; rising = K.rising; below = K.below }))

module _ (s : Session) (v : Values) (t : ℕ) (buf store : Bytes) (rs : List Report) (K : Keeping s store rs) where
  sent_keeps : Passed s v t (is_store store) (length buf) → Keeping (unless s v t none buf).session (kept_unless s v t none store) (rs ++ (the_report s v t ∷ []))
  sent_keeps P =
      let h = passed-sendable s v t P in
      let n = (ranged_is s P.ranged).next.0 in
      let A = above_new 0 rs (the_report s v t) (omega (arith, n)) K.rising K.below in
      record {
        whole = still_store s.ours s.peers rs (the_report s v t) [] store K.whole K.table h A;
        table = one_more s.ours s.peers rs (the_report s v t) [] store K.whole K.table h A;
        rising = A;
        below = below_new (s.next + 1) rs (the_report s v t) (omega arith) (below_more s.next (s.next + 1) rs (omega arith) K.below);
      }

  report_keeps : Keeping (report s v t buf store).session (store_after s v t buf store) (rs ++ went_out (report s v t buf store).answer (the_report s v t))
  unfolding report store_after
  report_keeps =
      each_report (λ (o : Option Answer). Keeping (unless s v t o buf).session (kept_unless s v t o store) (rs ++ went_out (unless s v t o buf).answer (the_report s v t))) s v t (is_store store) (length buf)
      (λ k. refused_keeps k s store rs K)
      sent_keeps

-- A REPLAY CALL
replay_keeps : (s : Session) (t : ℕ) (buf store : Bytes) (rs : List Report) → Keeping s store rs → Keeping (replay s t buf store).session store rs
replay_keeps s t buf store rs K =
    each_replay (λ (o : Outcome). Keeping o.session store rs) s t buf store (λ k e n. subst (λ (u : Session). Keeping u store rs) (sym e) K) (λ r h. K)
    (λ P. record { whole = K.whole; table = K.table; rising = K.rising; below = K.below })

-- A DAY
abbrev Holds : Day → Type 0
Holds d = Keeping d.session d.store d.reports

turn_keeps : (d : Day) (c : Turn) → Holds d → Holds (Run.after d c)
turn_keeps d (Ours c) K = call_keeps d.session d.store d.reports c K
turn_keeps d (OurReport v t buf other) K = report_keeps d.session v t buf d.store d.reports K
turn_keeps d (OurReplay t buf other) K = replay_keeps d.session t buf d.store d.reports K

same_ids : (d : Day) (c : Turn) → ((Run.after d c).session.ours ≡ d.session.ours) × ((Run.after d c).session.peers ≡ d.session.peers)
same_ids d (Ours c) = turn_ours d.session (Ours (lent d.store c))
same_ids d (OurReport v t buf other) = turn_ours d.session (OurReport v t buf d.store)
same_ids d (OurReplay t buf other) = turn_ours d.session (OurReplay t buf d.store)

day_found : (d : Day) (cs : List Turn) → Holds d → (n : ℕ) → find n (kept d.session.ours d.session.peers (day d cs).store) ≡ find n (last64 (day d cs).reports)
day_found d [] K n = K.table.last n
day_found d (c ∷ cs) K n =
    let i = same_ids d c in
    ap₂ (λ (us them : Bytes). find n (kept us them (day (Run.after d c) cs).store)) (sym i.0) (sym i.1)
    ∙ day_found (Run.after d c) cs (turn_keeps d c K) n

pub last : (s : Session) (store : Bytes) (cs : List Turn) → is_store store ≡ true
    → let d = day (record { session = s; store = zeroed store; reports = [] }) cs in (n : ℕ) → find n (kept s.ours s.peers d.store) ≡ find n (last64 d.reports)
last s store cs w = day_found (record { session = s; store = zeroed store; reports = [] }) cs (keeping-zeroed s store w)
