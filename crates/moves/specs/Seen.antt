-- What is seen of a frame's body: a field's value, its number, its time, its type, the verdict.
use Rattle.std.specs.Prelude.{ℕ, Bool, true, false, ◌&&◌, Ok, Err}
use Rattle.std.proofs.Math.Option.{Option, none, some}
use Rattle.octets.specs.Bytes.{Bytes, same, within, value}
use Rattle.kinds.specs.Kind.{is_number}
use Rattle.calendar.specs.Later.{is_readable, moment_of, later}
use Rattle.calendar.specs.declared.moments.Moment.{Moment}
use Rattle.table.specs.declared.MsgType.{MsgType}
use Rattle.table.specs.Dictionary.{code35}
use Rattle.dictionary.specs.Verdict.{Verdict}
use Rattle.dictionary.specs.declared.Unclean.TheVariants.{Found, NoBody}
use Rattle.message.specs.Message.{Value, absent, bytes}
use Rattle.moves.specs.Words.{◌when◌}

-- a field is there, and its value is w
abbrev pub is_it : Bytes → Option Bytes → Bool
is_it w none = false
is_it w (some v) = same v w

-- it, repeated in a reply
abbrev pub repeated : Option Bytes → Value
repeated none = absent
repeated (some v) = bytes v

-- its number, if it is one from a to b
abbrev pub number_in : ℕ → ℕ → Option Bytes → Option ℕ
number_in a b none = none
number_in a b (some v) = value v when (is_number v && within a b (value v))

-- the moment of its time, unless it "breaks its form or the calendar"
abbrev pub moment_in : Option Bytes → Option Moment
moment_in none = none
moment_in (some v) = moment_of v when is_readable v

-- the one time is later than the other
infix 78 ◌later_than◌
abbrev pub ◌later_than◌ : Option Moment → Option Moment → Bool
◌later_than◌ none b = false
◌later_than◌ (some a) none = false
◌later_than◌ (some a) (some b) = later a b

-- what stands behind `35=` for one of the ten types
abbrev pub code_of : Option MsgType → Option Bytes
code_of none = none
code_of (some m) = some (code35 m)

-- the verdict (NoBody is not met: the body of a good frame is a body)
abbrev pub reason_of : Verdict → ℕ
reason_of (Ok _) = 0
reason_of (Err (Found f)) = f.reason
reason_of (Err NoBody) = 0

abbrev pub tag_of : Verdict → ℕ
tag_of (Ok _) = 0
tag_of (Err (Found f)) = f.tag
tag_of (Err NoBody) = 0

abbrev pub is_clean : Verdict → Bool
is_clean (Ok _) = true
is_clean (Err _) = false
