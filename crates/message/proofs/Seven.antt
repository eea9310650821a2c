-- What holds of each of the seven administrative messages, by tests that antt computes.
use Prim.Native.Nat.{ℕ}
use mathlib.Core.Path.{◌≡◌, refl}
use mathlib.Core.List.{List, [], ◌∷◌, ◌++◌}
use mathlib.Core.Bool.{Bool, true, false, cond, not, ◌&&◌, ◌||◌, false≢true}
use mathlib.Core.Option.{some}
use Rattle.table.specs.declared.MsgType.{MsgType}
use Rattle.table.specs.declared.MsgType.TheVariants.{Heartbeat, TestRequest, ResendRequest, Reject, SequenceReset, Logout, Logon, OrderCancelRequest, TradeCaptureReportRequest, TradeCaptureReport}
use lib.Dec.{eqb}
use lib.ListN.{length}
use native.Mathlib.Omega.{arith}
use borrow.Author.Tests.{eqb-true, not-true}
use Rattle.octets.specs.Bytes.{Bytes, any, all, has, within, decimal}
use Rattle.table.specs.Dictionary.{header, fields, №453, №580, №552, code35, type_of, administrative, listed, groups_of, member, rows_of, frame_tag, in_dictionary}
use Rattle.octets.proofs.Tests.{both, neither}
use Rattle.dictionary.specs.Verdict.{msg_type}
use Rattle.fields.specs.Field.{first_field}
use Rattle.kinds.specs.Kind.{kind_of, formed, allowed}
use Rattle.message.specs.Message.{Value, bytes, own, order, valued, message, tagged}
use Rattle.message.specs.Unfit.{rejected}

-- whatever holds of each of the seven
pub record Each (P : MsgType → Type 0) : Type 0 where
  pub heartbeat : P Heartbeat
  pub test_request : P TestRequest
  pub resend_request : P ResendRequest
  pub reject : P Reject
  pub sequence_reset : P SequenceReset
  pub logout : P Logout
  pub logon : P Logon

pub each : (P : MsgType → Type 0) → Each P → (m : MsgType) → administrative m ≡ true → P m
unfolding administrative code35
each P E Heartbeat a = E.heartbeat
each P E TestRequest a = E.test_request
each P E ResendRequest a = E.resend_request
each P E Reject a = E.reject
each P E SequenceReset a = E.sequence_reset
each P E Logout a = E.logout
each P E Logon a = E.logon
each P E OrderCancelRequest a = absurd (false≢true a)
each P E TradeCaptureReportRequest a = absurd (false≢true a)
each P E TradeCaptureReport a = absurd (false≢true a)

-- THE TAGS OF A MESSAGE, in order: each is in the dictionary and listed for the message, no member of a group; none comes twice, and no header
-- tag behind another
abbrev pub in_place : MsgType → List ℕ → ℕ → Bool
in_place m past t =
    in_dictionary t && (not (frame_tag t || has past t) && (not (member m t) && (listed (rows_of m) t && (not (listed header t && any (λ s. not (listed header s)) past) && within 1 99_999 t))))

unfoldable pub in_order : MsgType → List ℕ → List ℕ → Bool
in_order m past [] = true
in_order m past (t ∷ ts) = in_place m past t && in_order m (t ∷ past) ts

-- every required tag is among them
unfoldable pub needed : MsgType → Bool
needed m = all (λ r. not r.required || has (35 ∷ order m) r.tag) (rows_of m)

-- one test for all of it: no groups, the tags in order, every required one among them, and neither 9 nor 35
unfoldable pub well_listed : MsgType → Bool
well_listed m = eqb (length (groups_of m)) 0 && (in_order m [] (35 ∷ order m) && (needed m && not (has (order m) 9 || has (order m) 35)))

well_listed_lem : (m : MsgType) → administrative m ≡ true → well_listed m ≡ true
unfolding well_listed needed in_order order own code35 header fields №453 №580 №552 groups_of member rows_of in_dictionary
well_listed_lem = each (λ m. well_listed m ≡ true) (record { heartbeat = refl; test_request = refl; resend_request = refl; reject = refl; sequence_reset = refl; logout = refl; logon = refl })

-- what the walk has to know of a message
pub record Known (m : MsgType) : Type 0 where
  pub no_groups : groups_of m ≡ []
  pub ordered : in_order m [] (35 ∷ order m) ≡ true
  pub has_all : needed m ≡ true
  pub no_nine : has (order m) 9 ≡ false
  pub no_type : has (order m) 35 ≡ false

no_more : {A : Type 0} (l : List A) → eqb (length l) 0 ≡ true → l ≡ []
no_more [] h = refl
no_more (x ∷ l) h = absurd (omega (arith, eqb-true (length (x ∷ l)) 0 h))

pub known : (m : MsgType) → administrative m ≡ true → Known m
unfolding well_listed
known m a =
    let x = both (eqb (length (groups_of m)) 0) (in_order m [] (35 ∷ order m) && (needed m && not (has (order m) 9 || has (order m) 35))) (well_listed_lem m a) in
    let y = both (in_order m [] (35 ∷ order m)) (needed m && not (has (order m) 9 || has (order m) 35)) x.1 in
    let z = both (needed m) (not (has (order m) 9 || has (order m) 35)) y.1 in
    let w = neither (has (order m) 9) (has (order m) 35) (not-true _ z.1) in
    record { no_groups = no_more (groups_of m) x.0; ordered = y.0; has_all = z.0; no_nine = w.0; no_type = w.1 }

-- 35 ITSELF, with the type as its value
-- the values with that of 35
abbrev pub with_type : MsgType → (ℕ → Value) → ℕ → Value
with_type m vs t = cond (eqb 35 t) (bytes (code35 m)) (vs t)

pub message_is : (vs : ℕ → Value) (m : MsgType) → administrative m ≡ true → message m vs ≡ valued (with_type m vs) (35 ∷ order m)
unfolding order own code35 fields
message_is vs =
    each (λ m. message m vs ≡ valued (with_type m vs) (35 ∷ order m))
    (record { heartbeat = refl; test_request = refl; resend_request = refl; reject = refl; sequence_reset = refl; logout = refl; logon = refl })

pub type-fits : (m : MsgType) → administrative m ≡ true → rejected m 35 (code35 m) ≡ false
unfolding rejected rows_of header fields groups_of №453 №580 №552 code35 formed allowed kind_of
type-fits =
    each (λ m. rejected m 35 (code35 m) ≡ false)
    (record { heartbeat = refl; test_request = refl; resend_request = refl; reject = refl; sequence_reset = refl; logout = refl; logon = refl })

pub type-read : (r : Bytes) (m : MsgType) → administrative m ≡ true → msg_type (tagged 35 (some (code35 m)) ++ r) ≡ some m
unfolding code35 decimal first_field type_of
type-read r =
    each (λ m. msg_type (tagged 35 (some (code35 m)) ++ r) ≡ some m)
    (record { heartbeat = refl; test_request = refl; resend_request = refl; reject = refl; sequence_reset = refl; logout = refl; logon = refl })
