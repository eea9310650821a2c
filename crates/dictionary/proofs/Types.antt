-- The message type, and the verdict by it.
use Prim.Native.Nat.{ℕ, ◌+◌, ◌-◌, ◌≤◌, ◌<◌}
use borrow.Author.Tests.{eqb-true, ne_eqb, not-true}
use mathlib.Core.Path.{◌≡◌, refl, ap, sym, ◌∙◌}
use mathlib.Core.List.{[], ◌∷◌}
use mathlib.Core.Bool.{Bool, true, false, cond, not, ◌&&◌, false≢true}
use mathlib.Core.Option.{Option, none, some}
use native.Mathlib.Omega.{arith}
use native.Mathlib.Decide.{dec_lt}
use lib.Dec.{eqb}
use lib.ListN.{length, drop, get_or, length-drop}
use lib.Seq.{get_or-drop}
use Rattle.octets.specs.Bytes.{Bytes, fix, starts, within}
use Rattle.octets.proofs.Tests.{both}
use Rattle.octets.proofs.Numerals.{within_is}
use Rattle.fields.specs.Field.{before, parts, first_field, is_body}
use Rattle.fields.proofs.Firsts.{type-first}
use Rattle.fields.proofs.Rows.{part_within, part_end}
use Rattle.table.specs.Dictionary.{code35, type_of, named, type_is}
use Rattle.dictionary.specs.code.Held.{is_report}
use Rattle.dictionary.specs.Verdict.{Verdict, found, no_body, type_by, msg_type, judged_as, walk, nothing_yet, verdict}
use Rattle.table.specs.declared.MsgType.{MsgType}
use Rattle.table.specs.contracts.MsgType.{the_type}
use denote.Enum.Bare.{sameb}
use Rattle.table.specs.declared.MsgType.TheVariants.{Heartbeat, TestRequest, ResendRequest, Reject, SequenceReset, Logout, Logon, OrderCancelRequest, TradeCaptureReportRequest, TradeCaptureReport}
use Rattle.std.specs.Prelude as some_type
use Rattle.table.proofs.Types.{other_long, named_is}

pub record Body (body : Bytes) : Type 0 where
  pub least : 5 ≤ length body
  pub most : length body ≤ 2048
  pub begins : starts (fix "35=") body ≡ true
  pub ends : get_or body (length body - 1) 0 ≡ 1

pub is_body_lem : (body : Bytes) → is_body body ≡ true → Body body
unfolding is_body
is_body_lem body h =
    let a = both (within 5 2048 (length body) && starts (fix "35=") body) _ h in
    let b = both (within 5 2048 (length body)) (starts (fix "35=") body) a.0 in
    let c = within_is 5 2048 (length body) b.0 in
    record { least = c.0; most = c.1; begins = b.1; ends = eqb-true _ 1 a.1 }

first-value : (body : Bytes) → Body body → first_field 35 body ≡ some (before 1 (drop 3 body))
first-value body B =
    let F = type-first body (3 + length (before 1 (drop 3 body))) B.begins (record { is = refl; within = part_within body 3 (omega (arith, B.least)) }) in
    sym (F.value refl) ∙ ap some (sym (part_end body 3 0 (omega arith)))

one_front : (l : Bytes) → 2 ≤ length l → get_or l 1 0 ≡ 1 → type_of (get_or l 0 0 ∷ []) ≡ type_of (before 1 l)
unfolding type_of code35
one_front [] n e = absurd (omega arith)
one_front (x ∷ []) n e = absurd (omega arith)
one_front (x ∷ y ∷ l) n e = rw e (go (eqb x 1) refl)
  where
    go : (b : Bool) → eqb x 1 ≡ b → type_of (x ∷ []) ≡ type_of (cond b [] (x ∷ []))
    go true k = rw (eqb-true x 1 k)
    go false k = refl

two_front : (l : Bytes) → 3 ≤ length l → (get_or l 1 0 ≡ 1 → ⊥) → get_or l 2 0 ≡ 1 → type_of (get_or l 0 0 ∷ get_or l 1 0 ∷ []) ≡ type_of (before 1 l)
unfolding type_of code35
two_front [] n k e = absurd (omega arith)
two_front (x ∷ []) n k e = absurd (omega arith)
two_front (x ∷ y ∷ []) n k e = absurd (omega arith)
two_front (x ∷ y ∷ z ∷ l) n k e = rw (ne_eqb y 1 k, e) (go (eqb x 1) refl)
  where
    go : (b : Bool) → eqb x 1 ≡ b → type_of (x ∷ y ∷ []) ≡ type_of (cond b [] (x ∷ y ∷ []))
    go true k = rw (eqb-true x 1 k)
    go false k = refl

long-front : (l : Bytes) → 3 ≤ length l → (get_or l 1 0 ≡ 1 → ⊥) → (get_or l 2 0 ≡ 1 → ⊥) → none ≡ type_of (before 1 l)
long-front [] n k h = absurd (omega arith)
long-front (x ∷ []) n k h = absurd (omega arith)
long-front (x ∷ y ∷ []) n k h = absurd (omega arith)
long-front (x ∷ y ∷ z ∷ l) n k h = rw (ne_eqb y 1 k, ne_eqb z 1 h) (go (eqb x 1))
  where
    go : (b : Bool) → none ≡ type_of (cond b [] (x ∷ y ∷ z ∷ before 1 l))
    go true = other_long [] (λ e. omega arith) (λ e. omega arith)
    go false = other_long (x ∷ y ∷ z ∷ before 1 l) (λ e. omega arith) (λ e. omega arith)

module _ (body : Bytes) (h : is_body body ≡ true) where
  -- where the fifth byte is not the last, there is a sixth
  pub body_longer : (get_or body 4 0 ≡ 1 → ⊥) → 6 ≤ length body
  body_longer n = go (dec_lt 5 (length body))
    where
      B : Body body
      B = is_body_lem body h

      go : Dec (5 < length body) → 6 ≤ length body
      go (yes l) = omega arith
      go (no l) =
          let e : 4 ≡ length body - 1 = omega (arith, B.least) in
          absurd (n (ap (λ (i : ℕ). get_or body i 0) e ∙ B.ends))

  by_front : (o : Option MsgType) → o ≡ type_of (before 1 (drop 3 body)) → o ≡ msg_type body
  by_front o e = e ∙ ap type_by (sym (first-value body (is_body_lem body h)))

  pub front_one : get_or body 4 0 ≡ 1 → type_of (get_or body 3 0 ∷ []) ≡ msg_type body
  front_one e =
      by_front _
      (ap (λ (x : ℕ). type_of (x ∷ [])) (sym (get_or-drop 3 body 0 0))
      ∙ one_front (drop 3 body) (omega (arith, length-drop 3 body, (is_body_lem body h).least)) (get_or-drop 3 body 1 0 ∙ e))

  pub front_two : (get_or body 4 0 ≡ 1 → ⊥) → get_or body 5 0 ≡ 1 → type_of (get_or body 3 0 ∷ get_or body 4 0 ∷ []) ≡ msg_type body
  front_two n e =
      by_front _
      (ap (λ (x : ℕ). type_of (x ∷ get_or body 4 0 ∷ [])) (sym (get_or-drop 3 body 0 0))
      ∙ ap (λ (y : ℕ). type_of (get_or (drop 3 body) 0 0 ∷ y ∷ [])) (sym (get_or-drop 3 body 1 0))
      ∙ two_front (drop 3 body) (omega (arith, length-drop 3 body, body_longer n)) (λ q. n (sym (get_or-drop 3 body 1 0) ∙ q)) (get_or-drop 3 body 2 0 ∙ e))

  pub front_long : (get_or body 4 0 ≡ 1 → ⊥) → (get_or body 5 0 ≡ 1 → ⊥) → none ≡ msg_type body
  front_long n k =
      by_front none
      (long-front (drop 3 body) (omega (arith, length-drop 3 body, body_longer n)) (λ q. n (sym (get_or-drop 3 body 1 0) ∙ q)) (λ q. k (sym (get_or-drop 3 body 2 0) ∙ q)))

-- the answer of `MsgType::of` stands for the type that a value names
pub type-told : (v : Bytes) {r : some_type.Option MsgType} → r ≡ named (type_of v) → type_is r ≡ type_of v
type-told v e = ap type_is e ∙ named_is (type_of v)

-- the report, by the test of the code
pub not_report : (m : MsgType) → false ≡ sameb the_type m TradeCaptureReport → is_report m ≡ false
not_report Heartbeat h = refl
not_report TestRequest h = refl
not_report ResendRequest h = refl
not_report Reject h = refl
not_report SequenceReset h = refl
not_report Logout h = refl
not_report Logon h = refl
not_report OrderCancelRequest h = refl
not_report TradeCaptureReportRequest h = refl
not_report TradeCaptureReport h = absurd (false≢true h)

pub report_is : (m : MsgType) → true ≡ sameb the_type m TradeCaptureReport → m ≡ TradeCaptureReport
report_is Heartbeat h = absurd (false≢true (sym h))
report_is TestRequest h = absurd (false≢true (sym h))
report_is ResendRequest h = absurd (false≢true (sym h))
report_is Reject h = absurd (false≢true (sym h))
report_is SequenceReset h = absurd (false≢true (sym h))
report_is Logout h = absurd (false≢true (sym h))
report_is Logon h = absurd (false≢true (sym h))
report_is OrderCancelRequest h = absurd (false≢true (sym h))
report_is TradeCaptureReportRequest h = absurd (false≢true (sym h))
report_is TradeCaptureReport h = refl

-- THE VERDICT
pub verdict_nobody : (body : Bytes) {b : Bool} → b ≡ is_body body → not b ≡ true → no_body ≡ verdict body
unfolding verdict
verdict_nobody body {b} p q = rw (sym p ∙ not-true b q)

module _ (body : Bytes) (h : is_body body ≡ true) {k : some_type.Option MsgType} (t : k ≡ named (msg_type body)) where
  by_type : verdict body ≡ judged_as (type_is k) body
  unfolding verdict
  by_type = rw (h, ap type_is t ∙ named_is (msg_type body))

  pub verdict_other : k ≡ some_type.None → found 11 35 ≡ verdict body
  verdict_other o = sym (by_type ∙ rw o)

  pub verdict_walked : {m : MsgType} {f : Verdict} → k ≡ some_type.Some m → f ≡ walk m nothing_yet (parts body) → f ≡ verdict body
  verdict_walked o w = w ∙ sym (by_type ∙ rw o)
