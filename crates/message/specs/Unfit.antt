-- Which values are not to be written: "a value to write that the dictionary would reject, a required one absent".
use Rattle.std.specs.Prelude.{ℕ, Bool, not, ◌&&◌, ◌||◌, eqb, length}
use Rattle.std.proofs.Math.Option.{Option, none, some}
use Rattle.octets.specs.Bytes.{Bytes, byte, any, has, within}
use Rattle.kinds.specs.Kind.{formed, allowed}
use Rattle.table.specs.declared.MsgType.{MsgType}
use Rattle.table.specs.Dictionary.{rows_of, listed, kind_in}
use Rattle.message.specs.Message.{Field, ◌is◌, shown}

-- "a value .. that the dictionary would reject": not for this message, empty, with a `|` in it, of bad form or a bad value
unfoldable pub rejected : MsgType → ℕ → Bytes → Bool
rejected m t v =
    not (listed (rows_of m) t) || eqb (length v) 0 || has v (byte "|") || not (formed (kind_in (rows_of m) t) v) || not (allowed (kind_in (rows_of m) t) v)

-- "a required one absent"
unfoldable pub required : MsgType → ℕ → Bool
required m t = any (λ r. eqb r.tag t && r.required) (rows_of m)

-- a value is unfit if it is absent and required, or there and rejected
abbrev pub unwritable : MsgType → ℕ → Option Bytes → Bool
unwritable m t none = required m t
unwritable m t (some v) = rejected m t v

abbrev pub unfit : MsgType → Field → Bool
unfit m (t is v) = unwritable m t (shown v)

-- "strings of 1 to .. bytes, none `|`", and "CompIDs (1 to 11 bytes, no `|`)"
abbrev pub string_to : ℕ → Bytes → Bool
string_to most v = within 1 most (length v) && not (has v (byte "|"))

unfoldable pub comp_id : Bytes → Bool
comp_id c = string_to 11 c
