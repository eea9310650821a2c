-- The fields of a report from 571 on, as our call writes them: "then the message's fields as listed".
use Rattle.std.specs.Prelude.{◌≡◌, Bool, true}
use Rattle.octets.specs.Bytes.{Bytes}
use Rattle.message.specs.Message.{row}
use Rattle.report.specs.Values.{Values, own, takes}

-- b says whether bytes are the fields of values that the dictionary takes, in the listed order and nothing else
pub record Listed (l : Bytes) (b : Bool) : Type 0 where
  pub yes : b ≡ true → (v : Values) × ((takes v ≡ true) × (l ≡ row (own v)))
  pub no : (v : Values) → takes v ≡ true → l ≡ row (own v) → b ≡ true
