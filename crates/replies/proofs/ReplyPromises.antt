-- D4 for each reply of a session in its ranges: a good frame, a clean verdict, and the values read back.
use Prim.Native.Nat.{ℕ, ◌≤◌}
use mathlib.Core.Path.{◌≡◌, refl, subst}
use mathlib.Core.List.{List, [], ◌∷◌}
use mathlib.Core.Bool.{Bool, true, false, cond}
use lib.Dec.{eqb}
use borrow.Author.Tests.{eqb-true}
use mathlib.Core.Option.{Option, none, some}
use Rattle.octets.specs.Bytes.{Bytes, fix, Byted}
use Rattle.table.specs.declared.MsgType.{MsgType}
use Rattle.table.specs.declared.MsgType.TheVariants.{Heartbeat, TestRequest, ResendRequest, Reject, SequenceReset, Logout, Logon}
use Rattle.table.specs.Dictionary.{№453, №580, №552, header, fields, code35, administrative, groups_of, rows_of, kind_in}
use Rattle.kinds.specs.Kind.{Kind, kind_of}
use Rattle.message.specs.Message.{Value, absent, number, bytes, Field, ◌is◌, shown, order, given}
use Rattle.replies.specs.Reply.{if_any, optional, unless_zero, values, of_heartbeat, of_test_request, of_logon, of_resend_request, of_reject, of_gap_fill, of_logout}
use Rattle.replies.specs.Promise.{IfThere, TextOf, Sendable}
use Rattle.message.specs.ReadsBack.{ReadsBack}
use Rattle.message.proofs.ReadBack.{OfBytes, small_bytes, decimal-bytes, reads_back}
use Rattle.message.proofs.Sizes.{OtherKind, GivenAs, AllAs, all_fine}
use Rattle.replies.proofs.Sent.{AllFit, heartbeat_fit, test_request_fit, logon_fit, resend_request_fit, reject_fit, gap_fill_fit, logout_fit}

-- the values of a reply are bytes
abbrev AllOf : List Field → Type 0
AllOf [] = Unit {0}
AllOf ((t is v) ∷ fs) = OfBytes (shown v) × AllOf fs

given_bytes : (fs : List Field) → AllOf fs → (t : ℕ) → OfBytes (shown (given fs t))
given_bytes [] h t = tt
given_bytes ((u is v) ∷ fs) h t = go (eqb u t) (given_bytes fs h.1 t)
  where
    go : (b : Bool) → OfBytes (shown (given fs t)) → OfBytes (shown (cond b v (given fs t)))
    go true k = h.0
    go false k = k

any-bytes : (o : Option Bytes) → IfThere Byted o → OfBytes (shown (if_any o))
any-bytes none h = tt
any-bytes (some v) h = h

optional-bytes : (there : Bool) (v : Bytes) → Byted v → OfBytes (shown (optional there v))
optional-bytes true v h = h
optional-bytes false v h = tt

unless_zero-bytes : (n : ℕ) → OfBytes (shown (unless_zero n))
unless_zero-bytes n = go (eqb n 0)
  where
    go : (b : Bool) → OfBytes (shown (cond b absent (number n)))
    go true = tt
    go false = decimal-bytes n

-- and numbers are numbers
given_as : (m : MsgType) (fs : List Field) → AllAs m fs → (t : ℕ) → GivenAs (kind_in (rows_of m) t) (given fs t)
given_as m [] h t = tt
given_as m ((u is v) ∷ fs) h t = go (eqb u t) refl (given_as m fs h.1 t)
  where
    go : (b : Bool) → eqb u t ≡ b → GivenAs (kind_in (rows_of m) t) (given fs t) → GivenAs (kind_in (rows_of m) t) (cond b v (given fs t))
    go true e k = subst (λ (x : ℕ). GivenAs (kind_in (rows_of m) x) v) (eqb-true u t e) h.0
    go false e k = k

any_as : (k : Kind) → OtherKind k → (o : Option Bytes) → GivenAs k (if_any o)
any_as k h none = tt
any_as k h (some v) = h

optional_as : (k : Kind) → OtherKind k → (there : Bool) (v : Bytes) → GivenAs k (optional there v)
optional_as k o true v = o
optional_as k o false v = tt

unless_zero_as : (k : Kind) (n : ℕ) → GivenAs k (unless_zero n)
unless_zero_as k n = go (eqb n 0)
  where
    go : (b : Bool) → GivenAs k (cond b absent (number n))
    go true = tt
    go false = tt

-- a message whose values are fit reads back
back : (m : MsgType) → administrative m ≡ true → (vs : ℕ → Value) → AllFit m vs → ((t : ℕ) → GivenAs (kind_in (rows_of m) t) (vs t)) → ((t : ℕ) → OfBytes (shown (vs t))) → ReadsBack m vs
back m a vs f g b = reads_back m a vs (all_fine m vs (order m) f) (λ t h. g t) b

-- EACH REPLY
module _ (ours peers : Bytes) (n : ℕ) (stamp : Bytes) (S : Sendable ours peers n stamp) (bo : Byted ours) (bp : Byted peers) (bs : Byted stamp) where
  -- the header's, and those of the message
  all_as : (m : MsgType) (fs : List Field) → AllAs m fs → GivenAs (kind_in (rows_of m) 49) (bytes ours) × GivenAs (kind_in (rows_of m) 56) (bytes peers) × GivenAs (kind_in (rows_of m) 52) (bytes stamp)
      → (t : ℕ) → GivenAs (kind_in (rows_of m) t) (values ours peers n stamp fs t)
  all_as m fs h k = given_as m (49 is bytes ours ∷ 56 is bytes peers ∷ 34 is number n ∷ 52 is bytes stamp ∷ fs) (k.0, (k.1, (tt, (k.2, h))))

  all_bytes : (fs : List Field) → AllOf fs → (t : ℕ) → OfBytes (shown (values ours peers n stamp fs t))
  all_bytes fs h = given_bytes (49 is bytes ours ∷ 56 is bytes peers ∷ 34 is number n ∷ 52 is bytes stamp ∷ fs) (bo, (bp, (decimal-bytes n, (bs, h))))

  pub heartbeat_promised : (id : Option Bytes) → IfThere (TextOf 64) id → IfThere Byted id → ReadsBack Heartbeat (of_heartbeat ours peers n stamp (if_any id))
  unfolding administrative code35 rows_of header fields groups_of №453 №580 №552 kind_of
  heartbeat_promised id T b =
      back Heartbeat refl (of_heartbeat ours peers n stamp (if_any id)) (heartbeat_fit ours peers n stamp S id T)
      (all_as Heartbeat (112 is if_any id ∷ []) (any_as (kind_in (rows_of Heartbeat) 112) (tt {0}) id, tt) (tt, tt, tt))
      (all_bytes (112 is if_any id ∷ []) (any-bytes id b, tt))

  pub test_request_promised : (id : Bytes) → TextOf 64 id → Byted id → ReadsBack TestRequest (of_test_request ours peers n stamp id)
  unfolding administrative code35 rows_of header fields groups_of №453 №580 №552 kind_of
  test_request_promised id T b =
      back TestRequest refl (of_test_request ours peers n stamp id) (test_request_fit ours peers n stamp S id T) (all_as TestRequest (112 is bytes id ∷ []) (tt, tt) (tt, tt, tt))
      (all_bytes (112 is bytes id ∷ []) (b, tt))

  pub logon_promised : (seconds : ℕ) (reset : Bool) → 1 ≤ seconds → seconds ≤ 60 → ReadsBack Logon (of_logon ours peers n stamp seconds (optional reset (fix "Y")))
  unfolding administrative code35 rows_of header fields groups_of №453 №580 №552 kind_of
  logon_promised seconds reset low high =
      back Logon refl (of_logon ours peers n stamp seconds (optional reset (fix "Y"))) (logon_fit ours peers n stamp S seconds reset low high)
      (all_as Logon (98 is bytes (fix "0") ∷ 108 is number seconds ∷ 1137 is bytes (fix "9") ∷ 141 is optional reset (fix "Y") ∷ []) (tt, (tt, (tt, (optional_as (kind_in (rows_of Logon) 141) (tt {0}) reset (fix "Y"), tt)))) (tt, tt, tt))
      (all_bytes (98 is bytes (fix "0") ∷ 108 is number seconds ∷ 1137 is bytes (fix "9") ∷ 141 is optional reset (fix "Y") ∷ [])
      (small_bytes (fix "0") refl, (decimal-bytes seconds, (small_bytes (fix "9") refl, (optional-bytes reset (fix "Y") (small_bytes (fix "Y") refl), tt)))))

  pub resend_request_promised : (expected : ℕ) → 1 ≤ expected → expected ≤ 999_999_999 → ReadsBack ResendRequest (of_resend_request ours peers n stamp expected)
  unfolding administrative code35 rows_of header fields groups_of №453 №580 №552 kind_of
  resend_request_promised expected low high =
      back ResendRequest refl (of_resend_request ours peers n stamp expected) (resend_request_fit ours peers n stamp S expected low high)
      (all_as ResendRequest (7 is number expected ∷ 16 is number 0 ∷ []) (tt, (tt, tt)) (tt, tt, tt))
      (all_bytes (7 is number expected ∷ 16 is number 0 ∷ []) (decimal-bytes expected, (decimal-bytes 0, tt)))

  pub reject_promised : (refused tag : ℕ) (kind : Option Bytes) (why : ℕ) → 1 ≤ refused → refused ≤ 999_999_999 → tag ≤ 999_999_999 → IfThere (TextOf 2) kind → IfThere Byted kind
      → why ≤ 999_999_999 → ReadsBack Reject (of_reject ours peers n stamp refused tag (if_any kind) why)
  unfolding administrative code35 rows_of header fields groups_of №453 №580 №552 kind_of
  reject_promised refused tag kind why low high small T b few =
      back Reject refl (of_reject ours peers n stamp refused tag (if_any kind) why) (reject_fit ours peers n stamp S refused tag kind why low high small T few)
      (all_as Reject (45 is number refused ∷ 371 is unless_zero tag ∷ 372 is if_any kind ∷ 373 is number why ∷ []) (tt, (unless_zero_as (kind_in (rows_of Reject) 371) tag, (any_as (kind_in (rows_of Reject) 372) (tt {0}) kind, (tt, tt)))) (tt, tt, tt))
      (all_bytes (45 is number refused ∷ 371 is unless_zero tag ∷ 372 is if_any kind ∷ 373 is number why ∷ [])
      (decimal-bytes refused, (unless_zero-bytes tag, (any-bytes kind b, (decimal-bytes why, tt)))))

  pub gap_fill_promised : (next : ℕ) → 1 ≤ next → next ≤ 999_999_999 → ReadsBack SequenceReset (of_gap_fill ours peers n stamp next)
  unfolding administrative code35 rows_of header fields groups_of №453 №580 №552 kind_of
  gap_fill_promised next low high =
      back SequenceReset refl (of_gap_fill ours peers n stamp next) (gap_fill_fit ours peers n stamp S next low high)
      (all_as SequenceReset (43 is bytes (fix "Y") ∷ 122 is bytes stamp ∷ 123 is bytes (fix "Y") ∷ 36 is number next ∷ []) (tt, (tt, (tt, (tt, tt)))) (tt, tt, tt))
      (all_bytes (43 is bytes (fix "Y") ∷ 122 is bytes stamp ∷ 123 is bytes (fix "Y") ∷ 36 is number next ∷ [])
      (small_bytes (fix "Y") refl, (bs, (small_bytes (fix "Y") refl, (decimal-bytes next, tt)))))

  pub logout_promised : (status : ℕ) → status ≤ 999_999_999 → ReadsBack Logout (of_logout ours peers n stamp status)
  unfolding administrative code35 rows_of header fields groups_of №453 №580 №552 kind_of
  logout_promised status few =
      back Logout refl (of_logout ours peers n stamp status) (logout_fit ours peers n stamp S status few) (all_as Logout (1409 is number status ∷ []) (tt, tt) (tt, tt, tt))
      (all_bytes (1409 is number status ∷ []) (decimal-bytes status, tt))
