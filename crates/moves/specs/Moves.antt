-- "The session's moves": what a session does with the body of a good frame, rule by rule.
use Rattle.std.specs.Prelude.{ℕ, ◌-◌, min, ◌≡◌, List, [], ◌∷◌, ◌++◌, Bool, not, ◌&&◌, ◌||◌, if◌then◌else◌}
use Prim.Native.String.{String}
use Rattle.std.proofs.Math.Option.{Option, some}
use Rattle.octets.specs.Bytes.{Bytes, fix}
use Rattle.fields.specs.Field.{first_field}
use Rattle.calendar.specs.declared.moments.Moment.{Moment}
use Rattle.table.specs.declared.MsgType.{MsgType}
use Rattle.dictionary.specs.Verdict.{verdict, msg_type}
use Rattle.message.specs.Message.{Value, number, absent, bytes, ◌is◌, written}
use Rattle.replies.specs.Reply as Reply
use Rattle.gap.specs.Gap.{Gap, no_gap, asks, asked_for, seen}
use Rattle.moves.specs.Words.{◌=?◌, ◌<?◌, ◌≤?◌, ◌when◌, first, ◌otherwise◌, speaks}
use Rattle.moves.specs.Session.{Session, Replay}
use Rattle.moves.specs.Seen.{is_it, repeated, number_in, moment_in, ◌later_than◌, code_of, reason_of, tag_of, is_clean}
use Rattle.moves.specs.declared.record.Status.{Status}
use Rattle.moves.specs.declared.record.Status.TheVariants.{Active, Closed}

-- THE MESSAGES of a session, with the values that each carries behind its header
pub data Letter : Type 0 where
  Heartbeat : Value → Letter  -- 112
  Logon : Value → ℕ → Value → Value → Letter  -- 98, 108, 1137, 141
  ResendRequest : ℕ → Letter  -- 7
  Reject : ℕ → ℕ → Value → ℕ → Letter  -- 45, 371, 372, 373
  GapFill : ℕ → Letter  -- 36; only a replay sends one
  Logout : ℕ → Letter  -- 1409
  TestRequest : Bytes → Letter  -- 112

-- the bytes of a message from ours to peers, as number n at a time
abbrev pub letter : Bytes → Bytes → ℕ → Bytes → Letter → Bytes
letter ours peers n time (Heartbeat id) = Reply.heartbeat ours peers n time id
letter ours peers n time (Logon method seconds version reset) =
    written MsgType.Logon (Reply.values ours peers n time (98 is method ∷ 108 is number seconds ∷ 1137 is version ∷ 141 is reset ∷ []))
letter ours peers n time (ResendRequest expected) = Reply.resend_request ours peers n time expected
letter ours peers n time (Reject refused tag type reason) = Reply.reject ours peers n time refused tag type reason
letter ours peers n time (GapFill new) = Reply.gap_fill ours peers n time new
letter ours peers n time (Logout status) = Reply.logout ours peers n time status
letter ours peers n time (TestRequest id) = Reply.test_request ours peers n time id

-- WHAT A MOVE DOES, one thing behind the other
pub data Deed : Type 0 where
  Write : Letter → Deed  -- with the next number, which it uses: "other replies use the next"
  Start : Replay → Deed  -- this replay starts, in place of any other
  Count : Deed  -- E + 1
  FillTo : ℕ → Deed  -- E becomes that, by a gap fill
  ResetTo : ℕ → Deed  -- E becomes that, by a Sequence Reset without 123=Y
  Anew : Deed  -- the numbers begin anew: E is 2, the next out is 1
  HeartbeatBecomes : ℕ → Deed
  Becomes : Status → Deed
  GapBecomes : Gap → Deed
  Deliver : Deed

abbrev pub Deeds : Type 0
Deeds = List Deed

-- A session s and the body of a frame.
module _ (s : Session) (body : Bytes) where
  abbrev pub E : ℕ
  E = s.E

  -- "Every other tag that a move reads is the first field of that tag."
  abbrev pub the : ℕ → Option Bytes
  the t = first_field t body

  infix 78 ◌holds◌
  abbrev pub ◌holds◌ : ℕ → Bytes → Bool
  ◌holds◌ t v = is_it v (the t)

  -- its number (read only behind a clean verdict, so that it is one)
  unfoldable pub # : ℕ → ℕ
  # t = number_in 0 999_999_999 (the t) otherwise 0

  -- the moment of its time
  abbrev pub moment : ℕ → Option Moment
  moment t = moment_in (the t)

  -- "N is the first field 34; it is unreadable if absent or not of its kind."
  unfoldable pub readable : Option ℕ
  readable = number_in 1 999_999_999 (the 34)

  abbrev pub N : ℕ
  N = readable otherwise 0

  -- the type, which is the first field 35
  abbrev pub type : String → Bool
  type t = is_it (fix t) (code_of (msg_type body))

  abbrev pub clean : Bool
  clean = is_clean (verdict body)

  -- "Reject writes 45 (N), 371 unless 0, 372 only if the type is one of the nine, 373." Document 02: "with AE as a tenth type".
  unfoldable pub reject : ℕ → ℕ → Deeds
  reject reason tag = Write (Reject N tag (repeated (code_of (msg_type body))) reason) ∷ []

  -- "a verdict gives Reject"
  abbrev pub rejection : Deeds
  rejection = reject (reason_of (verdict body)) (tag_of (verdict body))

  -- "Logouts of ours set Closed and carry 1409=101; the answer to a Logout carries 1409=4."
  abbrev pub logout : ℕ → Deeds
  logout why = Write (Logout why) ∷ Becomes Closed ∷ []

  -- "Resend Request 7=E, 16=0", at the time t, and what is known of the gap behind it
  abbrev pub asking : ℕ → Gap → Deeds
  asking t g = Write (ResendRequest E) ∷ GapBecomes (asked_for t E N g) ∷ []

  -- what is done, and then E + 1
  abbrev pub counted : Deeds → Deeds
  counted ds = ds ++ (Count ∷ [])

  -- WAITING
  -- "Field 34 unreadable, wrong CompIDs or any verdict, refusal 4."
  unfoldable pub acceptable : Bool
  acceptable = speaks readable && 49 holds s.peers && 56 holds s.ours && clean

  -- "An accepted logon sets Active and the heartbeat; our Logon repeats its 98, 108 and 1137." Document 02: "what we write has none", no zeros in front of
  -- the number that its 108 is; "E above the highest seen closes" a gap, "as do logon and any reset".
  unfoldable pub logon : Value → Deeds
  logon with-141 =
      Write (Logon (repeated (the 98)) (# 108) (repeated (the 1137)) with-141) ∷
      Becomes Active ∷
      HeartbeatBecomes (# 108) ∷
      GapBecomes no_gap ∷
      []

  -- "141=Y: with N = 1, E is 2, our Logon with 141=Y goes out as number 1, and the next is 2; else Logout."
  unfoldable pub reset : Option Deeds
  reset = (if N =? 1 then Anew ∷ logon (bytes (fix "Y")) else logout 101) when 141 holds fix "Y"

  -- "Without 141=Y: N < E, Logout; N = E, Logon, E + 1; N > E, Logon, then Resend Request from E." Document 02: "a logon above E opens" a gap.
  unfoldable pub no_reset : ℕ → Option Deeds
  no_reset t = first
      (logout 101 when N <? E ∷
      counted (logon absent) when N =? E ∷
      (logon absent ++ asking t no_gap) when E <? N ∷
      [])

  -- at the time t, at which that gap is asked for
  unfoldable pub waiting : ℕ → Deeds
  waiting t = first (reset ∷ no_reset t ∷ []) otherwise []

  -- SERVING
  -- "Serving 7=b, 16=e, with L one below the next out"
  abbrev pub b : ℕ
  b = # 7

  abbrev pub e : ℕ
  e = # 16

  abbrev pub L : ℕ
  L = s.next - 1

  -- "b > L is Reject 5, tag 7; then 0 < e < b is Reject 5, tag 16;"
  unfoldable pub unserved : Option Deeds
  unserved = first (reject 5 7 when L <? b ∷ reject 5 16 when (0 <? e && e <? b) ∷ [])

  -- "else .. 36 one above the smaller of e and L (L if e = 0)": the numbers that are asked for, b to the smaller of e and L
  abbrev pub requested : Replay
  requested = record { at = b; to = if e =? 0 then L else min e L }

  -- Document 02: "A Resend Request is then served in number order .. The step, in rule 4 too, only starts this, with L from before the step. .. Demand 2's
  -- serving rule now reads this way"; "a new Resend Request that can be served replaces it."
  unfoldable pub served : Deeds
  served = Start requested ∷ []

  -- ACTIVE, first rule that fits
  -- "1. 34 unreadable: Logout."
  unfoldable pub rule_1 : Option Deeds
  rule_1 = logout 101 when not (speaks readable)

  -- "2. 49 missing or not the peer's, or else 56 missing or not ours: Reject 9 with that tag, then Logout; E + 1 if N = E."
  abbrev pub stranger : ℕ → Deeds
  stranger tag = let m = reject 9 tag ++ logout 101 in if N =? E then counted m else m

  unfoldable pub rule_2 : Option Deeds
  rule_2 = first (stranger 49 when not (49 holds s.peers) ∷ stranger 56 when not (56 holds s.ours) ∷ [])

  -- no such tag: 49 is the peer's, and 56 is ours
  pub record OurPeer : Type 0 where
    pub sender : the 49 ≡ some s.peers
    pub target : the 56 ≡ some s.ours

  -- "3. Type 4 without 123=Y: a verdict gives Reject; 36 below E gives Reject 5, tag 36; E stays. Otherwise E becomes 36." Document 02: "any
  -- reset" that is taken closes a gap.
  unfoldable pub bare_reset : Deeds
  bare_reset = first (rejection when not clean ∷ reject 5 36 when # 36 <? E ∷ []) otherwise (ResetTo (# 36) ∷ GapBecomes no_gap ∷ [])

  -- "Type 4 without 123=Y"
  abbrev pub bare : Bool
  bare = type "4" && not (123 holds fix "Y")

  unfoldable pub rule_3 : Option Deeds
  rule_3 = bare_reset when bare

  -- "4. N > E: Resend Request 7=E, 16=0; E stays. An incoming Resend Request, if clean and not rejected below, is served first."
  unfoldable pub served_first : Deeds
  served_first = if type "2" && clean && not (speaks unserved) then served else []

  -- Document 02: "A too-high frame asks only if ..", and one that does not is seen.
  unfoldable pub asks_or_not : ℕ → Deeds
  asks_or_not t = if asks t E s.gap then asking t s.gap else GapBecomes (seen N s.gap) ∷ []

  unfoldable pub too_high : ℕ → Deeds
  too_high t = served_first ++ asks_or_not t

  unfoldable pub rule_4 : ℕ → Option Deeds
  rule_4 t = too_high t when E <? N

  -- "5. N < E: 43 not Y, Logout. 43=Y without 122, Reject 1, tag 122. Otherwise ignored." Document 02: "a frame with 43=Y and a 122 later than its 52 is
  -- now Reject 10, tag 122. .. A missing 52 is Reject 1, tag 52; a 52 or 122 that breaks its form or the calendar is Reject 6 with that tag, 52 first. All
  -- this follows the check for 122; E stays."
  unfoldable pub too_low : Deeds
  too_low = first
      (logout 101 when not (43 holds fix "Y") ∷
      reject 1 122 when not (speaks (the 122)) ∷
      reject 1 52 when not (speaks (the 52)) ∷
      reject 6 52 when not (speaks (moment 52)) ∷
      reject 6 122 when not (speaks (moment 122)) ∷
      reject 10 122 when moment 122 later_than moment 52 ∷
      []) otherwise []

  unfoldable pub rule_5 : Option Deeds
  rule_5 = too_low when N <? E

  -- "6. N = E: a verdict gives Reject, E + 1. Type 1: Heartbeat with its 112. Type 2: gap fill, below. Gap fill: 36 not above N, Reject 5, tag 36, E + 1;
  -- else E becomes 36. Type 5: Logout, Closed. A: Reject 99, tag 35. AD, F: delivered. 0, 3: nothing. Where not said here, E + 1; elsewhere E stays."
  -- (By document 02 a Resend Request is served as said above.)
  unfoldable pub filled : Deeds
  filled = if # 36 ≤? N then counted (reject 5 36) else FillTo (# 36) ∷ []

  -- Document 02: "in rule 6 an AE from a member, whatever its verdict, is Reject 11, tag 35, no 372."
  unfoldable pub reject_type : Deeds
  reject_type = Write (Reject N 35 absent 11) ∷ []

  unfoldable pub in_turn : Deeds
  in_turn = first
      (counted reject_type when type "AE" ∷
      counted rejection when not clean ∷
      counted (Write (Heartbeat (repeated (the 112))) ∷ []) when type "1" ∷
      counted (unserved otherwise served) when type "2" ∷
      filled when type "4" ∷
      counted (logout 4) when type "5" ∷
      counted (reject 99 35) when type "A" ∷
      counted (Deliver ∷ []) when (type "AD" || type "F") ∷
      []) otherwise counted []

  unfoldable pub rule_6 : Option Deeds
  rule_6 = in_turn when N =? E

  -- at the time t, which rule 4 asks for
  unfoldable pub active : ℕ → Deeds
  active t = first (rule_1 ∷ rule_2 ∷ rule_3 ∷ rule_4 t ∷ rule_5 ∷ rule_6 ∷ []) otherwise []
