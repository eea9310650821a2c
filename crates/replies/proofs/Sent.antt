-- Each reply of a session in its ranges is fit: so it is a good frame, its verdict is clean, and it reads back (proofs/ReadBack.antt of message).
use Prim.Native.Nat.{ℕ, ◌≤◌}
use native.Mathlib.Omega.{arith}
use mathlib.Core.Path.{◌≡◌, refl, ◌∙◌}
use mathlib.Core.List.{[], ◌∷◌}
use mathlib.Core.Option.{Option, none, some}
use mathlib.Core.Bool.{Bool, true, false, cond}
use lib.Dec.{eqb}
use lib.ListN.{length}
use borrow.Author.Tests.{ne_eqb}
use Rattle.octets.specs.Bytes.{Bytes, fix, any, has, decimal}
use Rattle.octets.proofs.Numerals.{is_within}
use Rattle.kinds.specs.Kind.{text, number◌to◌, Y/N, time, kind_of, formed, allowed}
use Rattle.table.specs.declared.MsgType.{MsgType}
use Rattle.table.specs.declared.MsgType.TheVariants.{Heartbeat, TestRequest, ResendRequest, Reject, SequenceReset, Logout, Logon}
use Rattle.table.specs.Dictionary.{№453, №580, №552, header, fields, code35, groups_of, rows_of, listed, kind_in, administrative}
use Rattle.message.specs.Message.{Value, absent, shown, own, order, valued}
use Rattle.message.specs.Unfit.{rejected, required, unwritable, unfit}
use Rattle.replies.specs.Promise.{IfThere, TextOf, TimeOf, Sendable}
use Rattle.replies.specs.Reply.{if_any, optional, unless_zero, of_heartbeat, of_test_request, of_logon, of_resend_request, of_reject, of_gap_fill, of_logout}
use Rattle.message.proofs.Rows.{plain-decimal, Plain}
use Rattle.message.proofs.Accepted.{not_rejected, number-formed, number-allowed}
use Rattle.message.proofs.Writes.{few_digits}

no_bar_in : (l : Bytes) → Plain l → has l 1 ≡ false
no_bar_in [] h = refl
no_bar_in (x ∷ l) h = rw (ne_eqb x 1 h.0.0, no_bar_in l h.1)

-- ONE VALUE, by its kind
module _ (m : MsgType) (t : ℕ) (own : listed (rows_of m) t ≡ true) where
  pub text_fit : (l k : ℕ) (v : Bytes) → kind_in (rows_of m) t ≡ text l → TextOf k v → k ≤ l → rejected m t v ≡ false
  unfolding formed allowed
  text_fit l k v e T h =
      not_rejected m t v
      (record {
        own = own;
        filled = ne_eqb (length v) 0 (λ z. omega (arith, T.filled));
        no_bar = T.no_bar;
        form = rw e;
        right = rw e (is_within 1 l (length v) T.filled (omega (arith, T.short)));
      })

  pub number_fit : (a b n : ℕ) → kind_in (rows_of m) t ≡ number a to b → a ≤ n → n ≤ b → b ≤ 999_999_999 → rejected m t (decimal n) ≡ false
  unfolding formed
  number_fit a b n k low high few =
      let d = few_digits 8 n (omega arith) in
      not_rejected m t (decimal n)
      (record {
        own = own;
        filled = ne_eqb (length (decimal n)) 0 (λ e. omega arith);
        no_bar = no_bar_in (decimal n) (plain-decimal n);
        form = rw k (number-formed n (omega arith));
        right = rw k (number-allowed a b n ∙ is_within a b n low high);
      })

  pub time_fit : (v : Bytes) → kind_in (rows_of m) t ≡ time → TimeOf v → rejected m t v ≡ false
  time_fit v k T = not_rejected m t v (record { own = own; filled = ne_eqb (length v) 0 (λ e. omega (arith, T.long)); no_bar = T.no_bar; form = rw k T.form; right = rw k T.right })

  pub flag_fit : kind_in (rows_of m) t ≡ Y/N → rejected m t (fix "Y") ≡ false
  unfolding formed allowed
  flag_fit k = not_rejected m t (fix "Y") (record { own = own; filled = refl; no_bar = refl; form = rw k; right = rw k })

-- 98 and 1137 have one value each
encrypt_fit : rejected Logon 98 (fix "0") ≡ false
unfolding rejected rows_of header fields №453 №580 №552 groups_of kind_of formed allowed
encrypt_fit = refl

version_fit : rejected Logon 1137 (fix "9") ≡ false
unfolding rejected rows_of header fields №453 №580 №552 groups_of kind_of formed allowed
version_fit = refl

-- a value that may be absent
there : {P Q : Bytes → Type 0} (o : Option Bytes) → IfThere P o → ((v : Bytes) → P v → Q v) → IfThere Q o
there none h f = tt
there (some v) h f = f v h

module _ (m : MsgType) (t : ℕ) where
  any_fit : (o : Option Bytes) → required m t ≡ false → IfThere (λ v. rejected m t v ≡ false) o → unwritable m t (shown (if_any o)) ≡ false
  any_fit none r f = r
  any_fit (some v) r f = f

  optional_fit : (there : Bool) (v : Bytes) → required m t ≡ false → (there ≡ true → rejected m t v ≡ false) → unwritable m t (shown (optional there v)) ≡ false
  optional_fit true v r f = f refl
  optional_fit false v r f = r

  unless_zero_fit : (x : ℕ) → required m t ≡ false → rejected m t (decimal x) ≡ false → unwritable m t (shown (unless_zero x)) ≡ false
  unless_zero_fit x r f = go (eqb x 0)
    where
      go : (b : Bool) → unwritable m t (shown (cond b absent (Value.number x))) ≡ false
      go true = r
      go false = f

-- EACH REPLY
-- no value of a message is unfit
abbrev pub AllFit : MsgType → (ℕ → Value) → Type 0
AllFit m vs = any (unfit m) (valued vs (order m)) ≡ false

module _ (ours peers : Bytes) (n : ℕ) (stamp : Bytes) (S : Sendable ours peers n stamp) where
  -- those of the header
  pub record Header (m : MsgType) : Type 0 where
    pub from : rejected m 49 ours ≡ false
    pub target : rejected m 56 peers ≡ false
    pub seq : rejected m 34 (decimal n) ≡ false
    pub sent : rejected m 52 stamp ≡ false
    pub first_sent : rejected m 122 stamp ≡ false

  in_header : (m : MsgType) → administrative m ≡ true → Header m
  unfolding rows_of header kind_of
  in_header m a =
      record {
        from = text_fit m 49 refl 32 11 ours refl S.our_id (omega arith);
        target = text_fit m 56 refl 32 11 peers refl S.peer_id (omega arith);
        seq = number_fit m 34 refl 1 999_999_999 n refl S.counted S.few (omega arith);
        sent = time_fit m 52 refl stamp refl S.timed;
        first_sent = time_fit m 122 refl stamp refl S.timed;
      }

  pub heartbeat_fit : (id : Option Bytes) → IfThere (TextOf 64) id → AllFit Heartbeat (of_heartbeat ours peers n stamp (if_any id))
  unfolding order own required rows_of header fields №453 №580 №552 groups_of kind_of administrative code35
  heartbeat_fit id T =
      let H = in_header Heartbeat refl in
      rw (H.from, H.target, H.seq, H.sent, any_fit Heartbeat 112 id refl (there id T (λ v F. text_fit Heartbeat 112 refl 64 64 v refl F (omega arith))))

  pub test_request_fit : (id : Bytes) → TextOf 64 id → AllFit TestRequest (of_test_request ours peers n stamp id)
  unfolding order own required rows_of header fields №453 №580 №552 groups_of kind_of administrative code35
  test_request_fit id T =
      let H = in_header TestRequest refl in
      rw (H.from, H.target, H.seq, H.sent, text_fit TestRequest 112 refl 64 64 id refl T (omega arith))

  pub logon_fit : (seconds : ℕ) (reset : Bool) → 1 ≤ seconds → seconds ≤ 60 → AllFit Logon (of_logon ours peers n stamp seconds (optional reset (fix "Y")))
  unfolding order own required rows_of header fields №453 №580 №552 groups_of kind_of administrative code35
  logon_fit seconds reset low high =
      let H = in_header Logon refl in
      rw
      (H.from, H.target, H.seq, H.sent, encrypt_fit, number_fit Logon 108 refl 1 60 seconds refl low high (omega arith), version_fit, optional_fit Logon 141 reset (fix "Y") refl (λ e. flag_fit Logon 141 refl refl))

  pub resend_request_fit : (expected : ℕ) → 1 ≤ expected → expected ≤ 999_999_999 → AllFit ResendRequest (of_resend_request ours peers n stamp expected)
  unfolding order own required rows_of header fields №453 №580 №552 groups_of kind_of administrative code35
  resend_request_fit expected low high =
      let H = in_header ResendRequest refl in
      rw
      (H.from, H.target, H.seq, H.sent, number_fit ResendRequest 7 refl 1 999_999_999 expected refl low high (omega arith), number_fit ResendRequest 16 refl 0 999_999_999 0 refl (omega arith) (omega arith) (omega arith))

  pub reject_fit : (refused tag : ℕ) (kind : Option Bytes) (why : ℕ) → 1 ≤ refused → refused ≤ 999_999_999 → tag ≤ 999_999_999 → IfThere (TextOf 2) kind → why ≤ 999_999_999
      → AllFit Reject (of_reject ours peers n stamp refused tag (if_any kind) why)
  unfolding order own required rows_of header fields №453 №580 №552 groups_of kind_of administrative code35
  reject_fit refused tag kind why low high small T few =
      let H = in_header Reject refl in
      rw
      (H.from, H.target, H.seq, H.sent, number_fit Reject 45 refl 1 999_999_999 refused refl low high (omega arith), unless_zero_fit Reject 371 tag refl (number_fit Reject 371 refl 0 999_999_999 tag refl (omega arith) small (omega arith)), any_fit Reject 372 kind refl (there kind T (λ v F. text_fit Reject 372 refl 32 2 v refl F (omega arith))), number_fit Reject 373 refl 0 999_999_999 why refl (omega arith) few (omega arith))

  pub gap_fill_fit : (next : ℕ) → 1 ≤ next → next ≤ 999_999_999 → AllFit SequenceReset (of_gap_fill ours peers n stamp next)
  unfolding order own required rows_of header fields №453 №580 №552 groups_of kind_of administrative code35
  gap_fill_fit next low high =
      let H = in_header SequenceReset refl in
      rw
      (H.from, H.target, H.seq, flag_fit SequenceReset 43 refl refl, H.sent, H.first_sent, flag_fit SequenceReset 123 refl refl, number_fit SequenceReset 36 refl 1 999_999_999 next refl low high (omega arith))

  pub logout_fit : (status : ℕ) → status ≤ 999_999_999 → AllFit Logout (of_logout ours peers n stamp status)
  unfolding order own required rows_of header fields №453 №580 №552 groups_of kind_of administrative code35
  logout_fit status few =
      let H = in_header Logout refl in
      rw (H.from, H.target, H.seq, H.sent, number_fit Logout 1409 refl 0 999_999_999 status refl (omega arith) few (omega arith))
