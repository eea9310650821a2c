-- What a plan leaves as the code plays it, and what the code's gates answer. Only the code needs these: nothing here states document 01.
use Rattle.std.specs.Prelude.{ℕ, ◌≡◌, List, [], ◌∷◌, Bool, true, false, cond, not, Result, Ok, Err}
use Rattle.std.proofs.Math.Option.{Option, none, some}
use Rattle.octets.specs.Bytes.{Bytes}
use Rattle.calendar.specs.Time.{utc}
use Rattle.moves.specs.Words.{◌when◌, first}
use Rattle.moves.specs.Session.{Session}
use Rattle.moves.specs.Moves as Words
use Rattle.moves.specs.Moves.{type, acceptable}
use Rattle.moves.specs.code.Plan.{changed, Sum}
use Rattle.letters.specs.code.Put.{bytes_of}
use Rattle.session.specs.Calls.{Outcome, over}
use Rattle.session.specs.declared.Refusal.{Refusal}
use Rattle.session.specs.Answer.{Answer, Done, Delivered, NothingDue, Refused}
use Rattle.session.specs.declared.Refusal.TheVariants.{NotLogon, BadLogon}

-- whether a refusal stands before the moves
abbrev pub shut : {A : Type 0} → Result A Refusal → Option Answer
shut (Ok x) = none
shut (Err k) = some (Refused k)

-- a test of a list shuts with this refusal, or lets pass
abbrev pub Shuts : Result (Unit {0}) Refusal → Option Answer → Type 0
Shuts r a = shut r ≡ a

-- of a tick: whether a refusal does, or nothing is due
abbrev pub stilled : Result Bool Refusal → Option Answer
stilled (Ok true) = none
stilled (Ok false) = some NothingDue
stilled (Err k) = some (Refused k)

-- while Waiting: the refusal of a frame, if it is refused
unfoldable pub turning_away : Session → Bytes → Option Answer
turning_away s body = first (Refused NotLogon when not (type s body "A") ∷ Refused BadLogon when not (acceptable s body) ∷ [])

abbrev pub sent_by : ℕ → ℕ → List (ℕ × Words.Letter) → ℕ
sent_by t old [] = old
sent_by t old (x ∷ xs) = t

-- there is a message
abbrev pub Spoken : List (ℕ × Words.Letter) → Type 0
Spoken [] = ⊥
Spoken (x ∷ xs) = Unit {0}

abbrev pub outcome_of : ℕ → Session → Sum → Bytes → Outcome
outcome_of t s a old =
    record { answer = cond a.delivered Delivered Done; session = changed s a.status a.E a.next a.heartbeat (sent_by t s.sent a.letters) a.replay a.gap; reply = bytes_of s.ours s.peers (utc t) a.letters; buffer = over (bytes_of s.ours s.peers (utc t) a.letters) old }
