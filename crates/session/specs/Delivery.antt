-- What a reader of document 01 looks for in a step: the frame that is delivered, and the slips that are shut out.
use Rattle.std.specs.Prelude.{ℕ, ◌+◌, ◌≤◌, ◌<◌, ◌≡◌, [], ◌∷◌, true, false, ◌&&◌, ◌||◌, length, if◌then◌else◌}
use Rattle.octets.specs.Bytes.{Bytes}
use Rattle.places.specs.Places.{is_store}
use Rattle.dictionary.specs.Verdict.{Clean}
use Rattle.dictionary.specs.Verdict.{verdict, msg_type}
use Rattle.message.specs.Message.{absent}
use Rattle.message.specs.Whole.{good, body_in}
use Rattle.calendar.specs.Time.{utc, limit}
use Rattle.moves.specs.Words.{◌≤?◌, speaks}
use Rattle.gap.specs.Gap.{no_gap}
use Rattle.moves.specs.Session.{Session, expecting, numbering, sent_at, missing, in_range}
use Rattle.moves.specs.Seen.{repeated, code_of, reason_of, tag_of}
use Rattle.moves.specs.Moves.{OurPeer, bare, Reject, letter, #, readable, N, type, clean, bare_reset}
use Rattle.session.specs.Calls.{Outcome, over, making, keeping, settling, spent, step}
use Rattle.moves.specs.declared.record.Status.TheVariants.{Active}
use Rattle.session.specs.declared.Refusal.TheVariants.{NotOneFrame, BadRecord, BadStore}
use Rattle.session.specs.Answer.{Done, Delivered, Refused}

-- A session s and the body of a frame.
module _ (s : Session) (body : Bytes) where
  -- "N = E: .. AD, F: delivered."
  pub record Deliverable : Type 0 where
    pub numbered : speaks (readable s body) ≡ true
    pub in_turn : N s body ≡ s.E
    pub peer : OurPeer s body
    pub no_verdict : verdict body ≡ Clean
    pub application : (type s body "AD" || type s body "F") ≡ true

-- A session s, a frame f, a time t, a reply buffer and a store: what the step on them leaves.
module _ (s : Session) (f : Bytes) (t : ℕ) (buf store : Bytes) where
  abbrev pub body : Bytes
  body = body_in f

  abbrev pub result : Outcome
  result = step s f t buf store

  -- "11, 10, 7, 6, 2, 5, then the moves", and by document 02 "14, .. in a step after 11": it comes to the moves of an Active session
  pub record Unrefused : Type 0 where
    pub ranged : in_range s ≡ true
    pub stored : is_store store ≡ true
    pub one_frame : good f ≡ true
    pub timed : t < limit
    pub room : 600 ≤ length buf
    pub is_active : s.status ≡ Active
    pub unspent : spent s ≡ false

  -- THE DELIVERED FRAME: E + 1 and nothing else changed, no reply, the buffer as it was; and, as behind every step, a gap that E is past is closed
  abbrev pub handed_on : Outcome
  handed_on = settling (keeping Delivered (expecting (s.E + 1) s) buf)

  pub record Delivery : Type 0 where
    -- nothing else is delivered,
    pub delivered : result.answer ≡ Delivered → Unrefused × Deliverable s body × (result ≡ handed_on)
    -- and it always is
    pub delivers : Unrefused → Deliverable s body → result ≡ handed_on

  -- THE REJECT of the message with a reason and a tag, as our next number
  abbrev pub reject_with : ℕ → ℕ → Bytes
  reject_with reason tag = letter s.ours s.peers s.next (utc t) (Reject (N s body) tag (repeated (code_of (msg_type body))) reason)

  -- THE SLIPS
  -- "a verdict gives Reject, E + 1": one message, with the verdict's reason and tag
  abbrev pub the_reject : Bytes
  the_reject = reject_with (reason_of (verdict body)) (tag_of (verdict body))

  -- "in rule 6 an AE from a member, whatever its verdict, is Reject 11, tag 35, no 372" (document 02)
  abbrev pub the_type_reject : Bytes
  the_type_reject = letter s.ours s.peers s.next (utc t) (Reject (N s body) 35 absent 11)

  -- such a message is sent, and E + 1
  abbrev pub rejected_by : Bytes → Outcome
  rejected_by m = settling (record { answer = Done; session = sent_at t (numbering (s.next + 1) (expecting (s.E + 1) s)); reply = m ∷ []; buffer = over (m ∷ []) buf })

  abbrev pub rejected : Outcome
  rejected = rejected_by the_reject

  abbrev pub type_rejected : Outcome
  type_rejected = rejected_by the_type_reject

  -- a frame that comes to the rules that go by its number, 4 to 6: no refusal stands before them, and none of rules 1 to 3
  pub record ByNumber : Type 0 where
    pub unrefused : Unrefused
    pub numbered : speaks (readable s body) ≡ true
    pub peer : OurPeer s body
    pub not_bare : bare s body ≡ false

  -- "Type 4 without 123=Y" that comes to rule 3: no refusal, rule 1 or rule 2 stands before it
  pub record Reset : Type 0 where
    pub unrefused : Unrefused
    pub numbered : speaks (readable s body) ≡ true
    pub peer : OurPeer s body
    pub is_bare : bare s body ≡ true

  pub record Slips : Type 0 where
    -- "Taking a length at its word and swallowing the next frame.": bytes that are not exactly one good frame change nothing
    pub nothing_swallowed : good f ≡ false → result ≡ keeping (Refused (if in_range s then if is_store store then NotOneFrame else BadStore else BadRecord)) s buf
    -- "Raising E on a too-high frame.": whatever the step, it stays; but "type 4 without 123=Y" that comes to rule 3, which stands before rule 4, answers
    -- to its 36 there, and N plays no part (`leads_to` says to which E)
    pub not_raised : s.E < N s body → (Reset → ⊥) → result.session.E ≡ s.E
    -- "Counting a rejected message as unread.": "Where not said here, E + 1": a message in turn counts, whatever it is; but, again, what answers to rule 3
    pub counts : Unrefused → N s body ≡ s.E → (Reset → ⊥) → s.E < result.session.E
    -- and from our peer "a verdict gives Reject, E + 1",
    pub verdict_counts : Unrefused → N s body ≡ s.E → (Reset → ⊥) → OurPeer s body → type s body "AE" ≡ false → clean s body ≡ false → result ≡ rejected
    -- but of a Trade Capture Report the verdict plays no part
    pub report_rejected : Unrefused → N s body ≡ s.E → OurPeer s body → type s body "AE" ≡ true → result ≡ type_rejected
    -- "Answering a Reset against its 34.": it is rule 3's, whatever N is; to which E it leads is said without N
    pub by_rule_3 : Reset → result ≡ settling (making t s (bare_reset s body) buf)
    pub leads_to : Reset → result.session.E ≡ (if clean s body && s.E ≤? # s body 36 then # s body 36 else s.E)
    pub reset_taken : Reset → clean s body ≡ true → s.E ≤ # s body 36 → result ≡ keeping Done (missing no_gap (expecting (# s body 36) s)) buf
