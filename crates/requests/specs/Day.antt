-- A worked line fault of GW with MM, so that what is said of every run is seen to speak of something: 5 is lost, and what was in flight behind it comes in.
use Rattle.std.specs.Prelude.{ℕ, ◌+◌, ◌≡◌, List, [], ◌∷◌, ◌++◌, replicate}
use Prim.Native.String.{String}
use Rattle.octets.specs.Bytes.{Bytes, fix}
use Rattle.message.specs.Message.{framed}
use Rattle.replies.specs.Reply.{resend_request}
use Rattle.calendar.specs.Time.{utc}
use Rattle.gap.specs.Gap.{no_gap}
use Rattle.session.specs.Calls.{Step, Tick}
use Rattle.session.specs.Desk.{GW_MM, half_past_nine, empty}
use Rattle.replaying.specs.Run.{Turn, Ours, final}
use Rattle.requests.specs.Requests.{all_answered}

-- a frame with this body comes in so many microseconds behind half past nine; the store that is lent is zeros
unfoldable pub zeros : Bytes
zeros = replicate 32_768 0

abbrev pub comes : ℕ → String → Turn
comes later body = Ours (Step (framed (fix body)) (half_past_nine + later) empty zeros)

abbrev pub in_flight : List Turn
in_flight =
    comes 0 "35=0|49=MM|56=GW|34=6|52=20240102-09:30:00|" ∷  -- the first that is too high: it asks
    comes 7_000 "35=0|49=MM|56=GW|34=9|52=20240102-09:30:00|" ∷
    Ours (Tick (half_past_nine + 8_000) empty) ∷
    comes 9_999_999 "35=0|49=MM|56=GW|34=8|52=20240102-09:30:00|" ∷
    comes 10_000_000 "35=0|49=MM|56=GW|34=7|52=20240102-09:30:00|" ∷  -- 10 seconds have passed
    []

-- a gap fill from 5 up to 10, past the highest
abbrev pub filled : Turn
filled = comes 10_100_000 "35=4|49=MM|56=GW|34=5|52=20240102-09:30:00|123=Y|36=10|"

-- the Resend Request with this number, so many microseconds behind half past nine
abbrev pub request : ℕ → ℕ → Bytes
request n later = resend_request (fix "GW") (fix "MM") n (utc (half_past_nine + later)) 5

pub record Day : Type 0 where
  pub requests : all_answered (GW_MM 5 2 0) in_flight ≡ request 2 0 ∷ request 3 10_000_000 ∷ []
  pub still_open : (final (GW_MM 5 2 0) in_flight).gap ≡ record { is_open = 1; for = 5; highest = 9; asked = half_past_nine + 10_000_000 }
  pub closed : (final (GW_MM 5 2 0) (in_flight ++ (filled ∷ []))).gap ≡ no_gap
