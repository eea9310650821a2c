-- "Nothing delivered twice, nothing stepped over." (document 02, Q-10): what one call contributes to E, a run without a reset, and what holds of every such
-- run. (That a frame in turn counts, and an AD or F in turn is delivered, is said of each step in Delivery.antt.)
use Rattle.std.specs.Prelude.{ℕ, ◌+◌, ◌-◌, ◌≤◌, ◌<◌, ◌≡◌, List, [], ◌∷◌, map, Bool, true, false, not, ◌&&◌, ◌||◌, Ok, Err, get_or, if◌then◌else◌}
use Rattle.std.proofs.Math.Option.{Option, none, some}
use Rattle.octets.specs.Bytes.{Bytes, fix, any}
use Rattle.frame.specs.Stream.{joined}
use Rattle.frame.specs.Promise.{ExactlyOne}
use Rattle.fields.specs.Field.{first_field}
use Rattle.message.specs.Whole.{good, body_in}
use Rattle.moves.specs.Words.{◌=?◌, ◌<?◌, ◌≤?◌, ◌when◌, first, ◌otherwise◌}
use Rattle.moves.specs.Session.{◌equals◌, Session}
use Rattle.moves.specs.Seen.{is_it}
use Rattle.moves.specs.Moves.{OurPeer, #, N, type, bare, ◌holds◌, acceptable}
use Rattle.moves.specs.declared.record.Status.TheVariants.{Active}
use Rattle.session.specs.Calls.{Outcome, renewed, Call, Step, Tick, OurLogout, OurTestRequest, Reconnect}
use Rattle.session.specs.declared.Refusal.{Refusal}
use Rattle.session.specs.declared.Success.TheVariants as Success
use Rattle.session.specs.Answer.{Answer, Refused}

-- A CALL THAT WAS MADE, as a log tells it: the session that it met, the bytes that it was given as a frame, if it is a step, and all that it left
pub record Made : Type 0 where
  pub met : Session
  pub frame : Option Bytes
  pub left : Outcome

-- of a session's own calls only a step is given a frame
abbrev pub frame_of : Call → Option Bytes
frame_of (Step f t buf store) = some f
frame_of (Tick t buf) = none
frame_of (OurLogout t buf) = none
frame_of (OurTestRequest id t buf) = none
frame_of Reconnect = none

-- Calls of any kind C: the frame that each is given, if it is given one, and what it does with a session.
module _ {C : Type 0} (given : C → Option Bytes) (call : Session → C → Outcome) where
  abbrev pub entry : Session → C → Made
  entry s c = record { met = s; frame = given c; left = call s c }

  -- THE LOG OF A RUN: each call meets the session that the one before left
  abbrev pub log : Session → List C → List Made
  log s [] = []
  log s (c ∷ cs) = entry s c ∷ log (call s c).session cs

-- WHAT A CALL ANSWERS
abbrev pub refuses : Answer → Bool
refuses (Ok x) = false
refuses (Err k) = true

abbrev pub delivers : Answer → Bool
delivers (Ok Success.Done) = false
delivers (Ok Success.Delivered) = true
delivers (Ok Success.NothingDue) = false
delivers (Err k) = false

-- it rejects: a Reject, 35=3, is among the messages of the reply
abbrev pub is_reject : Bytes → Bool
is_reject m = is_it (fix "3") (first_field 35 (body_in m))

abbrev pub rejects : Outcome → Bool
rejects o = any is_reject o.reply

-- WHAT A CALL CONTRIBUTES: nothing; the number N of its frame; or the numbers from the N of a gap fill up to its 36, which is not among them
pub data Share : Type 0 where
  nothing : Share
  counts : ℕ → Share
  skips : ℕ → ℕ → Share

-- A session s, the body of a good frame, and what the step on it left.
module _ (s : Session) (body : Bytes) (o : Outcome) where
  -- the step is not refused, the session is Active, and nothing is wrong with the message: 34 is readable, 49 the peer's, 56 ours, and there is no verdict
  unfoldable pub taken : Bool
  taken = s.status equals Active && not (refuses o.answer) && acceptable s body

  -- "a reset is an accepted logon with 141=Y or a Sequence Reset that isn't a gap fill": one that is to be taken by rule 3, and is not rejected
  unfoldable pub reset_by : Bool
  reset_by = (renewed s body o && type s body "A" && not (refuses o.answer)) || (taken && bare s body && s.E ≤? # s body 36 && not (rejects o))

  -- "an accepted gap fill": one that is to be taken by rule 6
  unfoldable pub filled_by : Bool
  filled_by = taken && type s body "4" && ◌holds◌ s body 123 (fix "Y") && N s body =? s.E && N s body <? # s body 36

  -- a frame "that came with N = E and moved it by one"
  unfoldable pub counted_by : Bool
  counted_by = N s body =? s.E && o.session.E =? (s.E + 1)

  -- "plus one for each frame other than an accepted gap fill that came with N = E and moved it by one, plus, for each accepted gap fill, the distance that
  -- it skips"
  unfoldable pub share_of : Share
  share_of = first (skips (N s body) (# s body 36) when filled_by ∷ counts (N s body) when counted_by ∷ []) otherwise nothing

  -- the number of the frame, if it is delivered
  abbrev pub delivered_by : List ℕ
  delivered_by = if delivers o.answer then N s body ∷ [] else []

-- the body of the frame: where a call is given none, or bytes that are not exactly one good frame, there is none
abbrev pub body_of : Option Bytes → Option Bytes
body_of none = none
body_of (some f) = body_in f when good f

-- the same of any call that was made; where there is no body, nothing of the kind
abbrev pub by_body : {A : Type 0} → (Session → Bytes → Outcome → A) → A → Session → Option Bytes → Outcome → A
by_body said unsaid s none o = unsaid
by_body said unsaid s (some body) o = said s body o

abbrev pub resets : Made → Bool
resets m = by_body reset_by false m.met (body_of m.frame) m.left

abbrev pub share : Made → Share
share m = by_body share_of nothing m.met (body_of m.frame) m.left

abbrev pub delivered : Made → List ℕ
delivered m = by_body delivered_by [] m.met (body_of m.frame) m.left

-- what is added to E for it
abbrev pub distance : Share → ℕ
distance nothing = 0
distance (counts n) = 1
distance (skips n e) = e - n

-- the number m belongs to it
abbrev pub Belongs : ℕ → Share → Type 0
Belongs m nothing = ⊥
Belongs m (counts n) = m ≡ n
Belongs m (skips n e) = (n ≤ m) × (m < e)

-- ONE CALL that is no reset: E moves by what it contributes, and the numbers that belong to it are just those that E passes over
pub record Passes (m : Made) : Type 0 where
  pub moved_by : m.left.session.E ≡ m.met.E + distance (share m)
  pub all_passed : (n : ℕ) → m.met.E ≤ n → n < m.left.session.E → Belongs n (share m)
  pub no_other : (n : ℕ) → Belongs n (share m) → (m.met.E ≤ n) × (n < m.left.session.E)

-- a call contributes nothing: no number belongs to it, E stays, and nothing is delivered
pub record Idle (m : Made) : Type 0 where
  pub no_number : share m ≡ nothing
  pub E_stays : m.left.session.E ≡ m.met.E
  pub not_delivered : delivered m ≡ []

-- a duplicate: its number is below E (an unreadable 34 is 0)
pub record Duplicate (m : Made) : Type 0 where
  pub its_body : Bytes
  pub is_its : body_of m.frame ≡ some its_body
  pub low : N m.met its_body < m.met.E

-- a call that answers by a Reject
pub record Rejected (m : Made) : Type 0 where
  pub not_delivered : delivered m ≡ []
  -- what it rejects is no gap fill that is accepted,
  pub not_skipped : (n e : ℕ) → share m ≡ skips n e → ⊥
  -- and its number is passed, so that it is not delivered either when it is sent again as a possible duplicate; but for a stranger's, and for a Sequence Reset
  -- without 123=Y, of which the number plays no part
  pub passed : (body : Bytes) → body_of m.frame ≡ some body → OurPeer m.met body → bare m.met body ≡ false → N m.met body < m.left.session.E

pub record Quiet (m : Made) : Type 0 where
  pub refused : (k : Refusal) → m.left.answer ≡ Refused k → Idle m
  pub duplicate : Duplicate m → Idle m
  pub rejected : rejects m.left ≡ true → Rejected m
  -- and without a good frame nothing is delivered, and nothing rejected
  pub no_frame : body_of m.frame ≡ none → (delivers m.left.answer ≡ false) × (rejects m.left ≡ false)

-- of calls: none of them delivers these bytes
abbrev pub NoneDelivers : Option Bytes → List Made → Type 0
NoneDelivers f [] = Unit {0}
NoneDelivers f (m ∷ ms) = (m.frame ≡ f → delivered m ≡ []) × NoneDelivers f ms

-- A RUN
-- "between two resets"
abbrev pub NoReset : List Made → Type 0
NoReset [] = Unit {0}
NoReset (m ∷ ms) = (resets m ≡ false) × NoReset ms

-- the session at the end of one that began with s
abbrev pub end : Session → List Made → Session
end s [] = s
end s (m ∷ ms) = end m.left.session ms

abbrev pub deliveries : List Made → List ℕ
deliveries ms = joined (map delivered ms)

-- each is above the one before, and the first is not below n
abbrev pub RiseFrom : ℕ → List ℕ → Type 0
RiseFrom n [] = Unit {0}
RiseFrom n (x ∷ xs) = (n ≤ x) × RiseFrom (x + 1) xs

-- what a call delivers is the number that it contributes
abbrev pub AllCount : List Made → Type 0
AllCount [] = Unit {0}
AllCount (m ∷ ms) = ((n : ℕ) → delivered m ≡ n ∷ [] → share m ≡ counts n) × AllCount ms

abbrev pub distances : List Share → ℕ
distances [] = 0
distances (x ∷ xs) = distance x + distances xs

-- the number n belongs to the call at place i, the first being 0
abbrev pub BelongsTo : List Made → ℕ → ℕ → Type 0
BelongsTo ms n i = Belongs n (get_or (map share ms) i nothing)

-- each call, and none delivers what one before it rejected
abbrev pub AllQuiet : List Made → Type 0
AllQuiet [] = Unit {0}
AllQuiet (m ∷ ms) = Quiet m × (rejects m.left ≡ true → NoneDelivers m.frame ms) × AllQuiet ms

-- "Take any sequence of steps, ticks and reconnects between two resets": one that begins with the session s
pub record Sequence (s : Session) (ms : List Made) : Type 0 where
  -- "The numbers of delivered application messages rise strictly.", and each is one that counts
  pub rise : RiseFrom s.E (deliveries ms) × AllCount ms
  -- "E at the end is E at the start, plus one for each frame .., plus, for each accepted gap fill, the distance that it skips."
  pub adds_up : (end s ms).E ≡ s.E + distances (map share ms)
  -- "Every number from the first E up to the one before the last E belongs to exactly one of these.", one call and no two; and no other number to any
  pub each_once : (n : ℕ) → (s.E ≤ n → n < (end s ms).E → ExactlyOne (BelongsTo ms n)) × ((i : ℕ) → BelongsTo ms n i → (s.E ≤ n) × (n < (end s ms).E))
  -- "Refused steps and duplicates contribute nothing, and a rejected message is never delivered.", nor is it later
  pub quiet : AllQuiet ms
