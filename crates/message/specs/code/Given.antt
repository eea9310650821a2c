-- A value that the code may leave out. Only the code needs this: nothing here states document 01.
use Rattle.std.specs.Prelude as Given
use Rattle.std.specs.Prelude.{Some, None}
use Rattle.std.proofs.Math.Option.{Option, none, some}
use Rattle.octets.specs.Bytes.{Bytes}

-- the bytes that it is written as, if it is there
abbrev pub given_text : {V : Type 0} → (V → Bytes) → Given.Option V → Option Bytes
given_text text (Some v) = some (text v)
given_text text None = none
