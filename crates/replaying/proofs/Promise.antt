-- The promise of the replay call: what its message is, what it keeps, and what follows for a run.
-- Assumes nothing.
use Prim.Native.Nat.{ℕ, ◌+◌, ◌≤◌}
use native.Mathlib.Omega.{arith}
use mathlib.Core.Path.{◌≡◌, refl, sym, ap, ap₂, ◌∙◌, subst}
use mathlib.Core.Bool.{Bool, true, false, cond, ◌&&◌}
use mathlib.Core.List.{List, [], ◌∷◌}
use mathlib.Core.Option.{some}
use lib.Dec.{leb, ltb}
use lib.ListN.{length}
use borrow.Author.Tests.{ltb-true, ne_eqb, le-leb, lt-leb, lt-ltb, le-ltb}
use Rattle.octets.specs.Bytes.{Bytes, Byted, has}
use Rattle.octets.proofs.Tests.{both_true}
use Rattle.frame.specs.Frame.{fixt, Good}
use Rattle.dictionary.specs.Verdict.{Clean}
use Rattle.dictionary.specs.Verdict.{verdict}
use Rattle.fields.specs.Field.{first_field}
use Rattle.table.specs.declared.MsgType.TheVariants.{SequenceReset}
use Rattle.table.specs.Dictionary.{code35}
use Rattle.calendar.specs.Time.{utc, limit}
use Rattle.message.specs.Message.{row, own, order, written}
use Rattle.message.specs.Message as Message
use Rattle.message.proofs.Writes.{few_digits}
use Rattle.message.proofs.Frames.{framed-length}
use Rattle.message.specs.Whole.{body_in}
use Rattle.message.proofs.Wholes.{body_is}
use Rattle.replies.specs.Reply as Reply
use Rattle.report.specs.Report.{Report}
use Rattle.report.proofs.Promise as Report
use Rattle.store.specs.Store.{find}
use Rattle.store.specs.Plan.{Item, Again, Fill, ends, Run, Right}
use Rattle.store.proofs.Plan.{Fits, item_fits, item_right}
use Rattle.store.proofs.Finding.{found_number}
use Rattle.moves.specs.Session.{◌equals◌, Session, no_replay, running, sent_at, replaying, placed, in_range}
use Rattle.moves.specs.Moves.{GapFill}
use Rattle.moves.specs.declared.record.Status.TheVariants.{Active}
use Rattle.letters.specs.code.Fit.{Numbered}
use Rattle.session.specs.Refusals.{No}
use Rattle.session.specs.Calls.{Outcome, keeping}
use Rattle.session.specs.Promise.{Whole, AllInRange, Kept}
use Rattle.session.specs.Answer.{Done, NothingDue, Refused}
use Rattle.session.specs.declared.Refusal.{Refusal}
use Rattle.session.proofs.Stepping.{Ranged, ranged_is}
use Rattle.session.proofs.Ranged.{is_ranged}
use Rattle.session.proofs.Whole.{gap_fill_reads, letter_sent, kept_refusal}
use Rattle.session.proofs.Promise.{never_past}
use Rattle.session.proofs.Promise as Session
use Rattle.reporting.proofs.Promise as Reporting
use Rattle.replaying.specs.Call.{its_table, its_item, message, behind, refusals, replay}
use Rattle.replaying.specs.Promise.{Carries, Asked, Played, Promise}
use Rattle.replaying.specs.Run.{Turn, Ours, OurReport, OurReplay, turn, run, Lent}
use Rattle.replaying.proofs.Ways.{Placed, placed_running, Passed, each_replay}
use Rattle.replaying.proofs.Kept.{found_kept}
use Rattle.replaying.proofs.Following.{follows, plan_out}
use Rattle.replaying.proofs.Finished.{finished, requested_covered}
use Rattle.replaying.proofs.Numbers.{numbers}
use Rattle.replaying.proofs.OneStore.{last}

-- A MESSAGE OF A REPLAY
record Sent (s : Session) (t : ℕ) (store : Bytes) (i : Item) : Type 0 where
  carries : Carries s t store i
  frame : Good fixt (message s t i)
  no_finding : verdict frame.body ≡ Clean
  short : length (message s t i) ≤ 600

-- a reply is short
whole-short : (m : Bytes) → Whole m → length m ≤ 600
unfolding written
whole-short m W =
    let b = row (Message.message W.its_type W.its_values) in
    let l = W.reads_back.longest in
    omega (arith, ap length W.is_written, framed-length b, l, (few_digits 2 (length b) (omega (arith, l))).1)

module _ (s : Session) (t : ℕ) (buf store : Bytes) (bo : Byted s.ours) (bp : Byted s.peers) (bs : Byted store) (P : Passed s t buf store) where
  again_sent : (r : Report) → find s.replay.at (its_table s store) ≡ some r → Sent s t store (Again r)
  unfolding message
  again_sent r f =
      let F = found_kept s.ours s.peers store r s.replay.at P.stored f in
      let n = found_number s.replay.at (its_table s store) r f in
      let R = (Report.promise).repeated s.ours s.peers r F.sends t in
      let G = R.good bo bp (F.of_bytes bs) in
      record {
        carries = (n, subst (λ (k : ℕ). find k (its_table s store) ≡ some r) (sym n) f, F.sends, R);
        frame = G.frame;
        no_finding = ap verdict G.its_body ∙ R.clean P.timed;
        short = R.short;
      }

  fill_sent : (e : ℕ) → e ≤ s.replay.to → Run (its_table s store) s.replay.to s.replay.at s.replay.at e → Sent s t store (Fill s.replay.at e)
  unfolding message Reply.gap_fill order own code35
  fill_sent e l run =
      let b = s.replay.at in
      let R = ranged_is s P.ranged in
      let p = placed_running s P.ranged P.is_running in
      let N : Numbered b = record { low = p.low; high = omega (arith, p.ordered, p.high, R.next.1) } in
      let M : Numbered (e + 1) = record { low = omega arith; high = omega (arith, l, p.high, R.next.1) } in
      let S = letter_sent t P.timed s.ours s.peers R.ours R.peers bo bp b N (GapFill (e + 1)) M in
      let G = gap_fill_reads t P.timed s.ours s.peers R.ours R.peers bo bp b N (e + 1) M in
      let k : body_in (message s t (Fill b e)) ≡ row (Message.message SequenceReset (Reply.of_gap_fill s.ours s.peers b (utc t) (e + 1))) = body_is (message s t (Fill b e)) G.frame ∙ G.its_body in
      record {
        carries = (
          refl,
          run,
          record {
            type = ap (first_field 35) k ∙ G.type;
            head = S.head;
            possible_duplicate = ap (first_field 43) k ∙ G.values 43 refl;
            as_52 = ap (first_field 122) k ∙ G.values 122 refl;
            gap_filled = ap (first_field 123) k ∙ G.values 123 refl;
            new_number = ap (first_field 36) k ∙ G.values 36 refl;
          },
          S.whole,
        );
        frame = S.whole.frame;
        no_finding = S.whole.no_finding;
        short = whole-short _ S.whole;
      }

  item_sent : Sent s t store (its_item s store)
  item_sent =
      let p = (placed_running s P.ranged P.is_running).ordered in
      go (its_item s store) (item_fits (its_table s store) s.replay.to s.replay.at p) (item_right (its_table s store) s.replay.to s.replay.at s.replay.at p (λ f g. refl))
    where
      go : (i : Item) → Fits (its_table s store) s.replay.to s.replay.at i → Right (its_table s store) s.replay.to s.replay.at i → Sent s t store i
      go (Again r) F R = again_sent r (subst (λ (k : ℕ). find k (its_table s store) ≡ some r) F.from R)
      go (Fill b e) F R = subst (λ (x : ℕ). Sent s t store (Fill x e)) (sym F.from) (fill_sent e F.within (subst (λ (x : ℕ). Run (its_table s store) s.replay.to s.replay.at x e) F.from R))

played : (s : Session) (t : ℕ) (buf store : Bytes) → Byted s.ours → Byted s.peers → Byted store → (replay s t buf store).answer ≡ Done → Played s t store (replay s t buf store)
played s t buf store bo bp bs =
    each_replay (λ (o : Outcome). o.answer ≡ Done → Played s t store o) s t buf store
    (λ k f n e. let z : ◌≡◌ {A = ℕ} 0 1 = cc in absurd (omega arith))
    (λ r h e. let z : ◌≡◌ {A = ℕ} 0 1 = cc in absurd (omega arith))
    (λ P e. let S = item_sent s t buf store bo bp bs P in record { one = refl; carries = S.carries; frame = S.frame; no_finding = S.no_finding; short = S.short; moved = refl })

-- WHAT IT KEEPS
kept : (s : Session) (t : ℕ) (buf store : Bytes) → Kept (replay s t buf store) s buf
kept s t buf store =
    each_replay (λ (o : Outcome). Kept o s buf) s t buf store
    (λ k e n. kept_refusal s t buf k)
    (λ r h. record { behind = refl; refused = λ k e. let z : ◌≡◌ {A = ℕ} 0 1 = cc in absurd (omega arith); idle = λ e. refl; ours = refl; peers = refl })
    (λ P. record { behind = refl; refused = λ k e. let z : ◌≡◌ {A = ℕ} 0 1 = cc in absurd (omega arith); idle = λ e. let z : ◌≡◌ {A = ℕ} 0 1 = cc in absurd (omega arith); ours = refl; peers = refl })

-- WHEN IT SENDS, and when it does not
module _ (s : Session) (t : ℕ) (buf store : Bytes) where
  plays : Asked s t buf store → running s.replay ≡ true → (replay s t buf store).answer ≡ Done
  unfolding replay refusals
  plays A h = rw (A.ranged, A.stored, lt-leb limit t A.timed, le-ltb (length buf) 600 A.room, h)

  rests : Asked s t buf store → running s.replay ≡ false → replay s t buf store ≡ keeping NothingDue s buf
  unfolding replay refusals
  rests A h = rw (A.ranged, A.stored, lt-leb limit t A.timed, le-ltb (length buf) 600 A.room, h)

  refuses : (k : Refusal) → (replay s t buf store).answer ≡ Refused k → (has (11 ∷ 14 ∷ 7 ∷ 6 ∷ []) (No k) ≡ true) × (replay s t buf store ≡ keeping (Refused k) s buf)
  refuses k =
      each_replay (λ (o : Outcome). o.answer ≡ Refused k → (has (11 ∷ 14 ∷ 7 ∷ 6 ∷ []) (No k) ≡ true) × (o ≡ keeping (Refused k) s buf)) s t buf store
      (λ j e n h.
      let same : j ≡ k = cc in (
        subst (λ (x : Refusal). has (11 ∷ 14 ∷ 7 ∷ 6 ∷ []) (No x) ≡ true) same n,
        ap₂ (λ (u : Session) (x : Refusal). record { answer = Refused x; session = u; reply = []; buffer = buf }) e same,
      ))
      (λ r h e. let z : ◌≡◌ {A = ℕ} 0 1 = cc in absurd (omega arith))
      (λ P e. let z : ◌≡◌ {A = ℕ} 0 1 = cc in absurd (omega arith))

-- THE RANGES
behind-placed : (s : Session) (t : ℕ) (i : Item) → Placed s → placed (replaying (behind s i) (sent_at t s)) (behind s i) ≡ true
behind-placed s t i P = go (ltb (ends i) s.replay.to) refl
  where
    go : (b : Bool) → ltb (ends i) s.replay.to ≡ b → placed s (cond b (record { at = ends i + 1; to = s.replay.to }) no_replay) ≡ true
    go true e =
        rw (ne_eqb (ends i + 1) 0 (λ x. omega (arith, x)))
        (both_true ((s.status equals Active) && leb (ends i + 1) s.replay.to) (ltb s.replay.to s.next)
        (both_true (s.status equals Active) (leb (ends i + 1) s.replay.to) P.active (le-leb (ends i + 1) s.replay.to (omega (arith, ltb-true (ends i) s.replay.to e))))
        (lt-ltb s.replay.to s.next P.high))
    go false e = refl

replay_ranged : (s : Session) (t : ℕ) (buf store : Bytes) → in_range s ≡ true → in_range (replay s t buf store).session ≡ true
replay_ranged s t buf store r =
    let R = ranged_is s r in
    is_ranged _
    (each_replay (λ (o : Outcome). Ranged o.session) s t buf store
    (λ k e n. subst Ranged (sym e) R)
    (λ i h. R)
    (λ P. record { ours = R.ours; peers = R.peers; E = R.E; next = R.next; heartbeat = R.heartbeat; place = behind-placed s t (its_item s store) (placed_running s r P.is_running); gap = R.gap }))

ranges : (s : Session) (cs : List Turn) → Lent cs → in_range s ≡ true → AllInRange (run s cs)
ranges s [] B r = tt
ranges s (Ours c ∷ cs) B r = let k = ((Session.promise).ranges s (c ∷ []) B.0 r).0 in (k, ranges (turn s (Ours c)).session cs B.1 k.ranged)
ranges s (OurReport v t buf store ∷ cs) B r = let k = (Reporting.promise).ranged s v t buf store r in (k, ranges (turn s (OurReport v t buf store)).session cs B k.ranged)
ranges s (OurReplay t buf store ∷ cs) B r = let k = replay_ranged s t buf store r in (never_past _ k, ranges (replay s t buf store).session cs B k)

pub promise : Promise
promise =
    record {
      played = played;
      plays = plays;
      rests = rests;
      refuses = refuses;
      kept = kept;
      follows = follows;
      plan_out = plan_out;
      finished = finished;
      requested_covered = λ s f t buf store cs B S. requested_covered s f t buf store S B cs;
      numbers = numbers;
      last = last;
      ranges = ranges;
    }
