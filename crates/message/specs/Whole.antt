-- One good frame and its body, by computation: what the session's definitions ask of the bytes of a frame. And good frames, one behind the other.
use Rattle.std.specs.Prelude.{◌-◌, List, [], ◌∷◌, ◌++◌, Bool, not, ◌&&◌, ◌||◌, eqb, length, take, drop}
use Rattle.octets.specs.Bytes.{Bytes, byte, starts, same, value, writes}
use Rattle.frame.specs.Frame.{fixt, Good, front, trailer, sum_of}
use Rattle.fields.specs.Field.{before, behind, is_body}

-- m occurs in s
abbrev pub occurs : Bytes → Bytes → Bool
occurs m [] = starts m []
occurs m (x ∷ s) = starts m (x ∷ s) || occurs m s

-- between `8=FIXT.1.1|9=n|` and the seven bytes `10=ddd|`
unfoldable pub body_in : Bytes → Bytes
body_in f = let rest = behind (byte "|") (behind (byte "|") f) in take (length rest - 7) rest

-- the digits between `8=FIXT.1.1|9=` and `|`
abbrev pub digits_in : Bytes → Bytes
digits_in f = before (byte "|") (drop (length fixt.mark) f)

-- exactly one good frame: digits that say how long the body is, a body, with what belongs around them, and no second start mark
unfoldable pub good : Bytes → Bool
good f =
    let digits = digits_in f in
    let body = body_in f in
    writes fixt.size digits && eqb (value digits) (length body) && is_body body && same f (front fixt digits body ++ trailer (sum_of fixt digits body)) && not (occurs fixt.mark (drop 1 f))

-- messages one behind the other
abbrev pub AllGood : List Bytes → Type 0
AllGood [] = Unit {0}
AllGood (m ∷ ms) = Good fixt m × AllGood ms
