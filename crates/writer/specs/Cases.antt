-- Worked messages and calls of the writer: a Heartbeat from GW to MM, number 2, at half past nine, and cases near it.
use Rattle.std.specs.Prelude as Given
use Rattle.std.specs.Prelude.{ℕ, ◌≡◌, List, [], ◌∷◌, ◌++◌, replicate, Some, None}
use Rattle.octets.specs.Bytes.{Bytes, fix}
use Rattle.table.specs.declared.MsgType.TheVariants.{Heartbeat, ResendRequest, Reject}
use Rattle.message.specs.Message.{Value, number, bytes, Field, ◌is◌, row, message, written, given}
use Rattle.writer.specs.Call.{Values, Unfit, Short, refusing, fitted, write}
use Rattle.writer.specs.declared.Given.{Given}

abbrev pub half_past_nine : Bytes
half_past_nine = fix "20240102-09:30:00.000000"

-- the values of a message from GW to MM, and some more
abbrev pub from_gw : List Field → ℕ → Value
from_gw fs = given (49 is bytes (fix "GW") ∷ 56 is bytes (fix "MM") ∷ 34 is number 2 ∷ 52 is bytes half_past_nine ∷ fs)

abbrev pub beat : Bytes
beat = written Heartbeat (from_gw [])

-- its values for the writer call: 49, 56, 34 and 52
abbrev pub text : Bytes
text = fix "GWMM" ++ half_past_nine

-- a number; bytes from a to b
abbrev pub whole : ℕ → Given.Option Given
whole n = Some (record { a = n; b = 0 })

abbrev pub within : ℕ → ℕ → Given.Option Given
within a b = Some (record { a = a; b = b })

abbrev pub of_beat : Values
of_beat = within 0 2 ∷ within 2 4 ∷ whole 2 ∷ None ∷ within 4 28 ∷ replicate 16 None

-- the same with 52 absent, and with a place of 52 that the text does not have
abbrev pub no_52 : Values
no_52 = within 0 2 ∷ within 2 4 ∷ whole 2 ∷ replicate 18 None

abbrev pub past_52 : Values
past_52 = within 0 2 ∷ within 2 4 ∷ whole 2 ∷ None ∷ within 4 29 ∷ replicate 16 None

pub record Cases : Type 0 where
  -- the call writes the message
  pub by_call : (buf : Bytes) → write (fix "0") of_beat text buf ≡ fitted beat buf
  -- 0 is a value of 16 and of 371, not an absent one
  pub zero_16 :
      row (message ResendRequest (from_gw (7 is number 5 ∷ 16 is number 0 ∷ [])))
      ≡ fix "35=2|49=GW|56=MM|34=2|52=20240102-09:30:00.000000|7=5|16=0|"
  pub zero_371 :
      row (message Reject (from_gw (45 is number 5 ∷ 371 is number 0 ∷ [])))
      ≡ fix "35=3|49=GW|56=MM|34=2|52=20240102-09:30:00.000000|45=5|371=0|"
  -- refusal 8: another type, a required value absent, one that is not in the text; it stands before 9
  pub type_F : (buf : Bytes) → write (fix "F") of_beat text buf ≡ refusing Unfit buf
  pub type_AE : (buf : Bytes) → write (fix "AE") of_beat text buf ≡ refusing Unfit buf
  pub absent_52 : (buf : Bytes) → write (fix "0") no_52 text buf ≡ refusing Unfit buf
  pub outside_52 : write (fix "0") past_52 text [] ≡ refusing Unfit []
  -- refusal 9: of 73 bytes, 72 are one too few
  pub short_72 : write (fix "0") of_beat text (replicate 72 0) ≡ refusing Short (replicate 72 0)
