-- A member whose clock was repaired: worked duplicates of GW's session with MM, so that what is said of every step is seen to speak of something.
use Prim.Native.String.{String}
use Rattle.std.specs.Prelude.{◌≡◌, [], ◌∷◌, ◌++◌}
use Rattle.octets.specs.Bytes.{Bytes, fix}
use Rattle.message.specs.Message.{framed}
use Rattle.session.specs.Calls.{Outcome}
use Rattle.session.specs.Desk.{GW_MM, half_past_nine, stepped, leaves}
use Rattle.session.specs.Answer.{Done}

-- E is 5, and number 4 comes once more, a Heartbeat with these two times behind its 43=Y; whichever store is lent
abbrev pub again : Bytes → String → Outcome
again store times = stepped store (GW_MM 5 2 0) (framed (fix "35=0|49=MM|56=GW|34=4|43=Y|" ++ fix times))

abbrev pub passes : Outcome
passes = leaves Done (GW_MM 5 2 0) []

-- a Reject with this tag and this reason goes out as number 2
abbrev pub rejects : String → Outcome
rejects why = leaves Done (GW_MM 5 3 half_past_nine) (framed (fix "35=3|49=GW|56=MM|34=2|52=20240102-09:30:00.000000|45=4|" ++ fix why) ∷ [])

pub record Day (store : Bytes) : Type 0 where
  -- "A seconds-only time counts as having zero decimals; equal times pass."
  pub equal : again store "52=20240102-09:30:00|122=20240102-09:30:00.000|" ≡ passes
  pub equal_in_three : again store "52=20240102-09:30:00.120|122=20240102-09:30:00.120000|" ≡ passes
  -- later by one microsecond
  pub too_late : again store "52=20240102-09:30:00.120|122=20240102-09:30:00.120001|" ≡ rejects "371=122|372=0|373=10|"
  -- second 60 is behind second 59 of its minute, and before the next minute
  pub leap_second : again store "52=20240102-09:30:59.999|122=20240102-09:30:60|" ≡ rejects "371=122|372=0|373=10|"
  pub next_minute : again store "52=20240102-09:31:00|122=20240102-09:30:60.999|" ≡ passes
  -- "52 first", and a calendar that has no such day
  pub both_bad : again store "52=20230229-09:30:00|122=|" ≡ rejects "371=52|372=0|373=6|"
  pub empty_original : again store "52=20240229-09:30:00|122=|" ≡ rejects "371=122|372=0|373=6|"
  pub no_sending : again store "122=20240102-09:30:00|" ≡ rejects "371=52|372=0|373=1|"
