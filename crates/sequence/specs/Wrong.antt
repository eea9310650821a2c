-- Wrong sessions, and that what is promised of every run rules them out: each has a run without a reset that is not as Sequence.antt of crates/session says.
use Rattle.std.specs.Prelude.{◌+◌, ◌-◌, List, [], ◌∷◌, not, ◌&&◌, if◌then◌else◌}
use Rattle.octets.specs.Bytes.{Bytes, fix}
use Rattle.moves.specs.Words.{◌=?◌, ◌<?◌}
use Rattle.moves.specs.Session.{Session, expecting}
use Rattle.moves.specs.Moves.{#, N, type, ◌holds◌}
use Rattle.session.specs.Calls.{Outcome}
use Rattle.session.specs.Desk.{beat}
use Rattle.session.specs.Sequence.{log, delivers, taken, filled_by, body_of, by_body, NoReset, Sequence}
use Rattle.session.specs.Answer.{Answer}
use Rattle.session.specs.Answer.{Done, Delivered}
use Rattle.replaying.specs.Run.{Turn, turn}
use Rattle.sequence.specs.Run.{given}

-- what a wrong session leaves in place of an outcome of ours
abbrev pub leaving : Answer → Session → List Bytes → Outcome → Outcome
leaving a s reply o = record { answer = a; session = s; reply = reply; buffer = o.buffer }

abbrev pub a_reject : Bytes
a_reject = fix "8=FIXT.1.1|9=61|35=3|49=GW|56=MM|34=2|52=20240102-09:30:00.000000|45=3|373=5|10=190|"

-- one that does what ours does, but for what it leaves of some frames
abbrev pub ours_but : (Session → Bytes → Outcome → Outcome) → Session → Turn → Outcome
ours_but changed s c = by_body changed (turn s c) s (body_of (given c)) (turn s c)

-- an accepted gap fill leaves E one short of its 36
abbrev pub one_short : Session → Bytes → Outcome → Outcome
one_short s body o = if filled_by s body o then leaving Done (expecting (# s body 36 - 1) s) [] o else o

-- an accepted gap fill counts as one message, and is answered by a Heartbeat
abbrev pub counting_once : Session → Bytes → Outcome → Outcome
counting_once s body o = if filled_by s body o then leaving Done (expecting (s.E + 1) s) (beat ∷ []) o else o

-- a gap fill in turn to a number below its own is taken, and not rejected
abbrev pub stepping_back : Session → Bytes → Outcome → Outcome
stepping_back s body o =
    if taken s body o && type s body "4" && ◌holds◌ s body 123 (fix "Y") && N s body =? s.E && # s body 36 <? N s body
    then leaving Done (expecting (# s body 36) s) [] o
    else o

-- a message whose number is below E is delivered
abbrev pub delivering_again : Session → Bytes → Outcome → Outcome
delivering_again s body o = if taken s body o && N s body <? s.E then leaving Delivered s [] o else o

-- a message whose number is too high is rejected; in turn, later, it is delivered as ours delivers it
abbrev pub rejecting_ahead : Session → Bytes → Outcome → Outcome
rejecting_ahead s body o = if taken s body o && s.E <? N s body then leaving Done s (a_reject ∷ []) o else o

-- a message in turn is rejected and not counted, so that it is delivered when it is sent again with 43=Y
abbrev pub rejecting_unread : Session → Bytes → Outcome → Outcome
rejecting_unread s body o = if delivers o.answer && not (◌holds◌ s body 43 (fix "Y")) then leaving Done s (a_reject ∷ []) o else o

-- a gap fill is rejected and taken all the same
abbrev pub rejecting_a_fill : Session → Bytes → Outcome → Outcome
rejecting_a_fill s body o = if filled_by s body o then leaving Done o.session (a_reject ∷ []) o else o

-- where there is no good frame something is delivered: torn bytes, or nothing at all, at a tick
abbrev pub delivering_nothing : Session → Turn → Outcome
delivering_nothing s c = by_body (λ u body o. o) (leaving Delivered (turn s c).session (turn s c).reply (turn s c)) s (body_of (given c)) (turn s c)

pub record RuledOut (wrong : Session → Turn → Outcome) : Type 0 where
  pub begins : Session
  pub calls : List Turn
  pub no_reset : NoReset (log given wrong begins calls)
  pub broken : Sequence begins (log given wrong begins calls) → ⊥

pub record Wrong : Type 0 where
  pub gap_fill_one_short : RuledOut (ours_but one_short)
  pub gap_fill_counts_once : RuledOut (ours_but counting_once)
  pub gap_fill_steps_back : RuledOut (ours_but stepping_back)
  pub delivered_below_E : RuledOut (ours_but delivering_again)
  pub delivered_after_a_reject : RuledOut (ours_but rejecting_ahead)
  pub delivered_when_sent_again : RuledOut (ours_but rejecting_unread)
  pub skipped_by_a_reject : RuledOut (ours_but rejecting_a_fill)
  pub delivered_without_a_frame : RuledOut delivering_nothing
