-- What is written is read back, and nothing else is read; two different reports never have the same bytes.
-- Assumes nothing.
use Prim.Native.Nat.{ℕ, ◌≤◌, ◌<◌}
use native.Mathlib.Omega.{arith}
use mathlib.Core.Path.{◌≡◌, refl, sym, ap, ◌∙◌}
use mathlib.Core.List.{[], ◌∷◌, ◌++◌, append_assoc}
use mathlib.Core.Option.{Option, none, some}
use mathlib.Core.Bool.{Bool, true, false, cond, not, ◌&&◌}
use lib.Dec.{ltb, leb}
use lib.ListN.{length}
use borrow.Author.Tests.{ltb-true, leb-true}
use Rattle.octets.specs.Bytes.{Bytes, fix, has, same, within, value, decimal}
use Rattle.frame.specs.Frame.{fixt, front, three_digits, sum_of}
use Rattle.octets.proofs.Tests.{both}
use Rattle.octets.proofs.Numerals.{within_is}
use Rattle.calendar.specs.Time.{limit, microseconds}
use Rattle.calendar.proofs.Times.{utc_names}
use Rattle.kinds.proofs.Values.{same_true, same_refl}
use Rattle.message.specs.Message.{row, framed}
use Rattle.message.specs.Whole.{body_in}
use Rattle.message.proofs.Wholes.{body_back}
use Rattle.report.specs.Values.{takes}
use Rattle.message.specs.Unfit.{comp_id}
use Rattle.report.specs.Report.{Report, fields_of, sent, the, or_empty, values_in, report_in, sendable, if_written, read}
use borrow.Author.Tests.{not-true}
use Rattle.report.proofs.Reading.{number_back, stamp_back, values_back}

-- WHAT THE CALL CAN WRITE, one by one
pub record Sendable (us them : Bytes) (r : Report) : Type 0 where
  pub ours : comp_id us ≡ true
  pub peers : comp_id them ≡ true
  pub low : 1 ≤ r.number
  pub high : r.number ≤ 999_999_990
  pub timed : r.time < limit
  pub taken : takes r.values ≡ true
  pub short : length (sent us them r) ≤ 512

pub sendable_is : (us them : Bytes) (r : Report) → sendable us them r ≡ true → Sendable us them r
unfolding sendable
sendable_is us them r h =
    let a = both (comp_id us && comp_id them && within 1 999_999_990 r.number && ltb r.time limit && takes r.values) (leb (length (sent us them r)) 512) h in
    let b = both (comp_id us && comp_id them && within 1 999_999_990 r.number && ltb r.time limit) (takes r.values) a.0 in
    let c = both (comp_id us && comp_id them && within 1 999_999_990 r.number) (ltb r.time limit) b.0 in
    let d = both (comp_id us && comp_id them) (within 1 999_999_990 r.number) c.0 in
    let e = both (comp_id us) (comp_id them) d.0 in
    let n = within_is 1 999_999_990 r.number d.1 in
    record {
      ours = e.0;
      peers = e.1;
      low = n.0;
      high = n.1;
      timed = ltb-true r.time limit c.1;
      taken = b.1;
      short = leb-true (length (sent us them r)) 512 a.1;
    }

pub comp_free : (c : Bytes) → comp_id c ≡ true → has c 1 ≡ false
unfolding comp_id
comp_free c h = not-true (has c 1) (both (within 1 11 (length c)) (not (has c 1)) h).1

pub comp_long : (c : Bytes) → comp_id c ≡ true → (1 ≤ length c) × (length c ≤ 11)
unfolding comp_id
comp_long c h = within_is 1 11 (length c) (both (within 1 11 (length c)) (not (has c 1)) h).0

-- READ BACK
report_by : (b : Bytes) (r : Report) → values_in b ≡ r.values → value (the 34 b) ≡ r.number → microseconds (the 52 b) ≡ r.time → report_in b ≡ r
unfolding report_in
report_by b r e f g = rw (e, f, g)

module _ (us them : Bytes) (r : Report) (h : sendable us them r ≡ true) where
  abbrev S : Sendable us them r
  S = sendable_is us them r h

  pub body_read : report_in (row (fields_of us them r)) ≡ r
  body_read =
      let u = comp_free us S.ours in
      let t = comp_free them S.peers in
      report_by (row (fields_of us them r)) r
      (values_back us them r.number none r.time none r.values u t tt tt S.taken)
      (number_back us them r.number none r.time none r.values u t tt tt S.taken)
      (ap (λ (o : Option Bytes). microseconds (or_empty o)) (stamp_back us them r.number none r.time none r.values u t tt tt S.taken) ∙ utc_names r.time S.timed)

  pub sent_read : report_in (body_in (sent us them r)) ≡ r
  unfolding sent
  sent_read = ap report_in (body_back (row (fields_of us them r))) ∙ body_read

  pub sent_back : read us them (sent us them r) ≡ some r
  unfolding read
  sent_back = ap (if_written us them (sent us them r)) sent_read ∙ rw (h, same_refl (sent us them r))

-- ONLY WHAT IS WRITTEN
pub read_only : (us them m : Bytes) (r : Report) → read us them m ≡ some r → (sendable us them r ≡ true) × (m ≡ sent us them r)
unfolding read
read_only us them m r e = go (report_in (body_in m)) e
  where
    told : (x : Report) (b c : Bool) → sendable us them x ≡ b → same m (sent us them x) ≡ c → cond (b && c) (some x) none ≡ some r → (sendable us them r ≡ true) × (m ≡ sent us them r)
    told x true true f g k =
        let z : x ≡ r = cc in
        (ap (sendable us them) (sym z) ∙ f, same_true m (sent us them x) g ∙ ap (sent us them) z)
    told x true false f g k = let z : ◌≡◌ {A = ℕ} 0 1 = cc in absurd (omega arith)
    told x false c f g k = let z : ◌≡◌ {A = ℕ} 0 1 = cc in absurd (omega arith)

    go : (x : Report) → if_written us them m x ≡ some r → (sendable us them r ≡ true) × (m ≡ sent us them r)
    go x k = told x (sendable us them x) (same m (sent us them x)) refl refl k

-- TWO DIFFERENT REPORTS never have the same bytes
pub sent_one : (us them us' them' : Bytes) (r r' : Report) → sendable us them r ≡ true → sendable us' them' r' ≡ true → sent us them r ≡ sent us' them' r' → r ≡ r'
sent_one us them us' them' r r' h h' e = sym (sent_read us them r h) ∙ ap (λ (m : Bytes). report_in (body_in m)) e ∙ sent_read us' them' r' h'

-- the last byte is `|`
last_bar : (p t : Bytes) → p ++ (t ++ (1 ∷ [])) ≡ (p ++ t) ++ (1 ∷ [])
last_bar p t = sym (append_assoc p t (1 ∷ []))

pub framed_bar : (b : Bytes) → (m : Bytes) × (framed b ≡ m ++ (1 ∷ []))
unfolding framed
framed_bar b =
    let s : ℕ = sum_of fixt (decimal (length b)) b in
    (front fixt (decimal (length b)) b ++ (fix "10=" ++ three_digits s), last_bar (front fixt (decimal (length b)) b) (fix "10=" ++ three_digits s))

pub sent_bar : (us them : Bytes) (r : Report) → (m : Bytes) × (sent us them r ≡ m ++ (1 ∷ []))
unfolding sent
sent_bar us them r = framed_bar (row (fields_of us them r))
