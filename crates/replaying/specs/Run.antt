-- ANY RUN of a session's calls, with reports and replay calls among them: the numbers that go out, a replay that is finished, and the store that a host
-- lends to all of them.
use Rattle.std.specs.Prelude.{ℕ, ◌+◌, ◌≡◌, List, [], ◌∷◌, ◌++◌, map, Bool, true, false, Ok, Err, length, if◌then◌else◌}
use Rattle.std.proofs.Math.Option.{some}
use Rattle.octets.specs.Bytes.{Bytes, decimal}
use Rattle.fields.specs.Field.{first_field}
use Rattle.frame.specs.Stream.{joined}
use Rattle.message.specs.Whole.{body_in}
use Rattle.report.specs.Values.{Values}
use Rattle.report.specs.Report.{Report}
use Rattle.store.specs.Plan.{Item, range, covered}
use Rattle.moves.specs.Session.{Session, no_replay, running}
use Rattle.session.specs.Calls.{Outcome, store_after, Call, Step, Tick, OurLogout, OurTestRequest, Reconnect, call}
use Rattle.session.specs.Promise.{OfBytes, renews}
use Rattle.session.specs.declared.Success.TheVariants as Success
use Rattle.session.specs.Answer.{Answer}
use Rattle.reporting.specs.Call.{the_report, report}
use Rattle.reporting.specs.Call as Reporting
use Rattle.replaying.specs.Call.{its_item, replay}

-- A RUN: a session's own call, a report, or a replay call; each is lent a store, whichever it is
pub data Turn : Type 0 where
  Ours : Call → Turn
  OurReport : Values → ℕ → Bytes → Bytes → Turn
  OurReplay : ℕ → Bytes → Bytes → Turn

abbrev pub turn : Session → Turn → Outcome
turn s (Ours c) = call s c
turn s (OurReport v t buf store) = report s v t buf store
turn s (OurReplay t buf store) = replay s t buf store

abbrev pub run : Session → List Turn → List Outcome
run s [] = []
run s (c ∷ cs) = turn s c ∷ run (turn s c).session cs

abbrev pub final : Session → List Turn → Session
final s [] = s
final s (c ∷ cs) = final (turn s c).session cs

-- what is lent to a session's own calls is of bytes
abbrev pub Lent : List Turn → Type 0
Lent [] = Unit {0}
Lent (Ours c ∷ cs) = OfBytes (c ∷ []) × Lent cs
Lent (OurReport v t buf store ∷ cs) = Lent cs
Lent (OurReplay t buf store ∷ cs) = Lent cs

-- NUMBERS OUT
-- the messages of a turn that use a number; those of a replay carry their old ones
abbrev pub new_messages : Session → Turn → List Bytes
new_messages s (Ours c) = (call s c).reply
new_messages s (OurReport v t buf store) = (report s v t buf store).reply
new_messages s (OurReplay t buf store) = []

abbrev pub all_new : Session → List Turn → List Bytes
all_new s [] = []
all_new s (c ∷ cs) = new_messages s c ++ all_new (turn s c).session cs

-- only "an accepted logon with 141=Y" begins the numbers anew
abbrev pub begins_anew : Session → Turn → Bool
begins_anew s (Ours c) = renews s c
begins_anew s (OurReport v t buf store) = false
begins_anew s (OurReplay t buf store) = false

abbrev pub Onward : Session → List Turn → Type 0
Onward s [] = Unit {0}
Onward s (c ∷ cs) = (begins_anew s c ≡ false) × Onward (turn s c).session cs

-- messages that carry the numbers from n on, each the next
abbrev pub NumberedFrom : ℕ → List Bytes → Type 0
NumberedFrom n [] = Unit {0}
NumberedFrom n (m ∷ ms) = (first_field 34 (body_in m) ≡ some (decimal n)) × NumberedFrom (n + 1) ms

-- "other replies use the next", "takes the next number out", and a replay "uses no new number": each number is used once, and none is left out
pub record UsedOnce (s : Session) (cs : List Turn) : Type 0 where
  pub carried : NumberedFrom s.next (all_new s cs)
  pub next : (final s cs).next ≡ s.next + length (all_new s cs)

-- A FINISHED REPLAY
-- what a replay call sends, and over a run
abbrev pub item_if : Answer → Item → List Item
item_if (Ok Success.Done) i = i ∷ []
item_if (Ok Success.Delivered) i = []
item_if (Ok Success.NothingDue) i = []
item_if (Err k) i = []

abbrev pub items_of : Session → Turn → List Item
items_of s (Ours c) = []
items_of s (OurReport v t buf store) = []
items_of s (OurReplay t buf store) = item_if (replay s t buf store).answer (its_item s store)

abbrev pub sent_items : Session → List Turn → List Item
sent_items s [] = []
sent_items s (c ∷ cs) = items_of s c ++ sent_items (turn s c).session cs

-- the numbers that its messages cover
abbrev pub resent_by : Session → List Turn → List ℕ
resent_by s cs = joined (map covered (sent_items s cs))

-- one store is lent to all its replay calls
abbrev pub Lends : Bytes → List Turn → Type 0
Lends store [] = Unit {0}
Lends store (Ours c ∷ cs) = Lends store cs
Lends store (OurReport v t buf other ∷ cs) = Lends store cs
Lends store (OurReplay t buf other ∷ cs) = (other ≡ store) × Lends store cs

-- calls that neither close the session, nor reconnect, nor start another replay: only replay calls move it (session's `Disturbs` says which do)
abbrev pub Undisturbed : Session → Turn → Type 0
Undisturbed s (Ours c) = (call s c).session.replay ≡ s.replay
Undisturbed s (OurReport v t buf store) = (report s v t buf store).session.replay ≡ s.replay
Undisturbed s (OurReplay t buf store) = Unit {0}

abbrev pub AllUndisturbed : Session → List Turn → Type 0
AllUndisturbed s [] = Unit {0}
AllUndisturbed s (c ∷ cs) = Undisturbed s c × AllUndisturbed (turn s c).session cs

-- "a finished replay's numbers cover the requested range exactly, each once": they are its numbers, in order, whatever stores were lent
abbrev pub Finished : Session → List Turn → Type 0
Finished s cs = running s.replay ≡ true → AllUndisturbed s cs → (final s cs).replay ≡ no_replay → resent_by s cs ≡ range s.replay.at s.replay.to

-- WITH ONE STORE: what a host has that keeps a session's record and its store together and lends each call the store as the call before left it; and, to speak
-- of them, the reports that went out since the numbers began anew
pub record Day : Type 0 where
  pub session : Session
  pub store : Bytes
  pub reports : List Report

-- a session's own call, lent this store if it is lent one, and the store behind it
abbrev pub lent : Bytes → Call → Call
lent store (Step f t buf other) = Step f t buf store
lent store (Tick t buf) = Tick t buf
lent store (OurLogout t buf) = OurLogout t buf
lent store (OurTestRequest id t buf) = OurTestRequest id t buf
lent store Reconnect = Reconnect

abbrev pub left : Session → Bytes → Call → Bytes
left s store (Step f t buf other) = store_after s f t buf store
left s store (Tick t buf) = store
left s store (OurLogout t buf) = store
left s store (OurTestRequest id t buf) = store
left s store Reconnect = store

abbrev pub went_out : Answer → Report → List Report
went_out (Ok Success.Done) r = r ∷ []
went_out (Ok Success.Delivered) r = []
went_out (Ok Success.NothingDue) r = []
went_out (Err k) r = []

abbrev pub after : Day → Turn → Day
after d (Ours c) =
    let s = d.session in
    let given = lent d.store c in
    record { session = (call s given).session; store = left s d.store c; reports = if renews s given then [] else d.reports }
after d (OurReport v t buf other) =
    let s = d.session in
    let o = report s v t buf d.store in
    record { session = o.session; store = Reporting.store_after s v t buf d.store; reports = d.reports ++ went_out o.answer (the_report s v t) }
after d (OurReplay t buf other) =
    record { session = (replay d.session t buf d.store).session; store = d.store; reports = d.reports }

abbrev pub day : Day → List Turn → Day
day d [] = d
day d (c ∷ cs) = day (after d c) cs
