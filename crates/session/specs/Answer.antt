-- WHAT A CALL ANSWERS, in one word each: what it did, or the refusal.
use Rattle.std.specs.Prelude.{Result, Ok, Err}
use Rattle.session.specs.declared.Refusal.{Refusal}
use Rattle.session.specs.declared.Success.{Success}

abbrev pub Answer : Type 0
Answer = Result Success Refusal

-- it did what it is for; the frame is to be given to the application; nothing is due
abbrev pub Done : Answer
Done = Ok Success.Done

abbrev pub Delivered : Answer
Delivered = Ok Success.Delivered

abbrev pub NothingDue : Answer
NothingDue = Ok Success.NothingDue

abbrev pub Refused : Refusal → Answer
Refused k = Err k
