-- The writer call: "the values of one of the seven administrative messages" in, refusal 8, refusal 9 or the message out.
use Rattle.std.specs.Prelude as Given
use Rattle.std.specs.Prelude.{ℕ, suc, ◌≡◌, List, [], ◌∷◌, ◌++◌, Bool, cond, eqb, ltb, length, drop, get_or, Result, Ok, Err, Some, None}
use Rattle.std.proofs.Math.Option.{Option, none, some}
use Rattle.octets.specs.Bytes.{Bytes, any}
use Rattle.table.specs.declared.MsgType.{MsgType}
use Rattle.table.specs.Dictionary.{type_of, administrative}
use Rattle.message.specs.Message.{Value, absent, number, bytes, valued, written, part}
use Rattle.message.specs.Unfit.{unfit}
use Rattle.writer.specs.Tags.{tags, numeric}
use Rattle.writer.specs.declared.Given.{Given}
use Rattle.writer.specs.declared.Unwritten.{Unwritten}

-- THE VALUES, each given or not. Each tag has its place among them; bytes lie in the text beside them (`part` of message).
abbrev pub Values : Type 0
Values = List (Given.Option Given)

abbrev pub place_in : List ℕ → ℕ → ℕ
place_in [] t = 0
place_in (u ∷ us) t = let later = suc (place_in us t) in cond (eqb u t) 0 later

abbrev pub value_for : Bytes → ℕ → Given.Option Given → Value
value_for text t None = absent
value_for text t (Some g) = cond (numeric t) (number g.a) (bytes (part text g.a g.b))

-- the value for a tag
unfoldable pub value_in : Values → Bytes → ℕ → Value
value_in vs text t = value_for text t (get_or vs (place_in tags t) None)

-- REFUSAL 8: "a value to write that the dictionary would reject, a required one absent, another type"
-- one of the values of a call is unfit (specs/Unfit.antt of message)
unfoldable pub refused8 : MsgType → (ℕ → Value) → Bool
refused8 m vs = any (unfit m) (valued vs tags)

-- "another type": none of the seven administrative messages
abbrev pub if_administrative : Option MsgType → Option MsgType
if_administrative none = none
if_administrative (some m) = cond (administrative m) (some m) none

unfoldable pub admin : Bytes → Option MsgType
admin type = if_administrative (type_of type)

-- THE CALL, with all that it leaves. "Writer: 8, 9."
abbrev pub Written : Type 0
Written = Result ℕ Unwritten

abbrev pub Message : ℕ → Written
Message len = Ok len

abbrev pub Unfit : Written
Unfit = Err Unwritten.Unfit

abbrev pub Short : Written
Short = Err Unwritten.Short

pub record Outcome : Type 0 where
  pub answer : Written
  pub buffer : Bytes

-- "under every refusal, the buffer keeps its old bytes"
abbrev pub refusing : Written → Bytes → Outcome
refusing refusal buf = record { answer = refusal; buffer = buf }

-- the message at the front; behind it "the buffer keeps its old bytes"
abbrev pub writing : Bytes → Bytes → Outcome
writing w buf = record { answer = Message (length w); buffer = w ++ drop (length w) buf }

-- refusal 9: "writer's buffer shorter than the message"
abbrev pub fitted : Bytes → Bytes → Outcome
fitted w buf = cond (ltb (length buf) (length w)) (refusing Short buf) (writing w buf)

abbrev pub write_as : Option MsgType → (ℕ → Value) → Bytes → Outcome
write_as none vs buf = refusing Unfit buf
write_as (some m) vs buf = cond (refused8 m vs) (refusing Unfit buf) (fitted (written m vs) buf)

unfoldable pub write : Bytes → Values → Bytes → Bytes → Outcome
write type vs text buf = write_as (admin type) (value_in vs text) buf

-- what the call answers and what it leaves in the buffer
abbrev pub Writes : Bytes → Values → Bytes → Bytes → Written → Bytes → Type 0
Writes type vs text buf answer after = record { answer = answer; buffer = after } ≡ write type vs text buf

-- this paper's number of the refusal, if it is one, and the values of each case: of a message its length
abbrev pub numbers : Written → Option ℕ × List ℕ
numbers (Ok len) = (none, len ∷ [])
numbers (Err Unwritten.Unfit) = (some 8, [])
numbers (Err Unwritten.Short) = (some 9, [])
