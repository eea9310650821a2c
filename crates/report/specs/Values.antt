-- The values of a report, and which of them refusal 8 keeps from being written.
use Rattle.std.specs.Prelude.{List, [], ◌∷◌, Bool, not, length}
use Rattle.std.proofs.Math.Option.{Option, none, some}
use Rattle.octets.specs.Bytes.{Bytes, any}
use Rattle.table.specs.declared.MsgType.TheVariants.{TradeCaptureReport}
use Rattle.message.specs.Message.{Value, absent, number, bytes, Field, ◌is◌}
use Rattle.message.specs.Unfit.{unfit}
use Rattle.amounts.specs.Amount.{Amount, amount_text}

-- "Group 453, 1 to 8 times: 448 Y, 447 {D} Y, 452 {1, 3, 12, 17, 76} Y."
pub record Party : Type 0 where
  pub its448 : Bytes
  pub its447 : Bytes
  pub its452 : Bytes

-- "The fields are 571, 828 {0, 54, 99}, 60, 32, 31, 64 optional, 574 {2, 4, 7, 22}, 48, 22 {8}, and group 552, exactly once, of 54 and, both
-- optional, 1427 and group 453." 552 is always 1, 453 the number of parties, so both are no values; with no party there is no group 453.
pub record Values : Type 0 where
  pub its571 : Bytes
  pub its828 : Bytes
  pub its60 : Bytes
  pub its32 : Amount
  pub its31 : Amount
  pub its64 : Option Bytes
  pub its574 : Bytes
  pub its48 : Bytes
  pub its22 : Bytes
  pub its54 : Bytes
  pub its1427 : Option Bytes
  pub parties : List Party

abbrev pub optional : Option Bytes → Value
optional none = absent
optional (some v) = bytes v

abbrev pub members : List Party → List Field
members [] = []
members (p ∷ ps) = 448 is bytes p.its448 ∷ 447 is bytes p.its447 ∷ 452 is bytes p.its452 ∷ members ps

abbrev pub group : List Party → List Field
group [] = []
group (p ∷ ps) = 453 is number (length (p ∷ ps)) ∷ members (p ∷ ps)

-- "then the message's fields as listed"
abbrev pub own : Values → List Field
own v =
    571 is bytes v.its571 ∷
    828 is bytes v.its828 ∷
    60 is bytes v.its60 ∷
    32 is bytes (amount_text v.its32) ∷
    31 is bytes (amount_text v.its31) ∷
    64 is optional v.its64 ∷
    574 is bytes v.its574 ∷
    48 is bytes v.its48 ∷
    22 is bytes v.its22 ∷
    552 is number 1 ∷
    54 is bytes v.its54 ∷
    1427 is optional v.its1427 ∷
    group v.parties

-- REFUSAL 8: "a value to write that the dictionary would reject, a required one absent"
-- the dictionary takes the values; more than 8 parties are a 453 that it rejects
unfoldable pub takes : Values → Bool
takes v = not (any (unfit TradeCaptureReport) (own v))
