-- The pass over the header: what was met of 34, 49 and 56. Only the code's walk needs this: nothing here states document 01.
use Rattle.std.specs.Prelude.{◌≡◌, Bool, cond, ◌&&◌, is_some, Some, None}
use Rattle.std.specs.Option.{option_or}
use Rattle.octets.specs.Bytes.{Bytes, fix, starts}
use Rattle.fields.specs.First.{Place}
use Rattle.fields.specs.declared.Heads.{Heads}
use Rattle.fields.specs.declared.Span.{Span}

-- all three were met
abbrev pub complete : Heads → Bool
complete h = is_some h.target && (is_some h.sender && is_some h.number)

-- what was met of a field stands; else the value of a part, where that part begins with the field's tag and `=`
abbrev pub kept : Place → Bytes → Bytes → Span → Place
kept p t part value = option_or p (cond (starts t part) (Some value) None)

-- g is h with the value of a part, if its tag is one of the three
pub record Noted (h : Heads) (part : Bytes) (value : Span) (g : Heads) : Type 0 where
  pub number : g.number ≡ kept h.number (fix "34=") part value
  pub sender : g.sender ≡ kept h.sender (fix "49=") part value
  pub target : g.target ≡ kept h.target (fix "56=") part value
