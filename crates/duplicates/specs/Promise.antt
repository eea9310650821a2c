-- What is promised of a frame that is too low and of its two times (document 02, Q-6): Duplicates.antt says it.
use Rattle.std.specs.Prelude.{ℕ, ◌≡◌, true}
use Rattle.octets.specs.Bytes.{Bytes}
use Rattle.places.specs.Places.{is_store}
use Rattle.calendar.specs.Promise as Times
use Rattle.moves.specs.Session.{Session}
use Rattle.duplicates.specs.Duplicates.{TooLow, RuleFive}
use Rattle.duplicates.specs.Day.{Day}

pub record Promise : Type 0 where
  -- "In the low-number rule ..", whatever the frame's type, its verdict and the session's record
  pub rule_5 : (s : Session) (f : Bytes) (t : ℕ) (buf store : Bytes) → TooLow s f t buf store → RuleFive s f t buf store
  -- what it is to be later: a total order, in which decimals that are not written are zeros, and that of our own clock
  pub order : Times.Promise
  -- frames that it speaks of
  pub day : (store : Bytes) → is_store store ≡ true → Day store
