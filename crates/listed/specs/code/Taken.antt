-- What one step of the walk over a report's fields takes. Only the code needs these: nothing here states document 02.
use Rattle.std.specs.Prelude.{ℕ, ◌≡◌, List, [], ◌∷◌, ◌++◌, Bool, true, false, not, ◌⊎◌, eqb, length, Some, None}
use Rattle.std.specs.Prelude as Std
use Rattle.std.specs.Borrow.{Bor}
use Rattle.std.proofs.Math.Option.{Option, none, some}
use Rattle.octets.specs.Bytes.{Bytes, fix, any, starts}
use Rattle.kinds.specs.Kind.{Kind}
use Rattle.table.specs.declared.MsgType.TheVariants.{TradeCaptureReport}
use Rattle.message.specs.Message.{number, bytes, Field, ◌is◌, row}
use Rattle.message.specs.Unfit.{unfit}
use Rattle.message.specs.code.Writable.{unwritten}
use Rattle.amounts.specs.Amount.{Amount, amount_text}
use Rattle.report.specs.Values.{Party, optional, members}

-- what a step leaves, as bytes
abbrev pub left : Std.Option (Bor Bytes) → Option Bytes
left None = none
left (Some t) = some t.now

-- A step over s. Where it leaves bytes, those before them are such as G describes; where bytes such as G describes stand in front, with what N allows behind
-- them, it leaves what is behind.
pub record Took (G : Bytes → Type 0) (N : Bytes → Bool) (s : Bytes) (r : Option Bytes) : Type 0 where
  pub seen : (t : Bytes) → r ≡ some t → (m : Bytes) × (G m × (s ≡ m ++ t))
  pub found : (m t : Bytes) → G m → N t ≡ true → s ≡ m ++ t → r ≡ some t

-- WHAT MAY FOLLOW: any bytes; any that do not begin so; none
abbrev pub anything : Bytes → Bool
anything t = true

abbrev pub without : Bytes → Bytes → Bool
without label t = not (starts label t)

abbrev pub end : Bytes → Bool
end t = eqb (length t) 0

-- THE PIECES: given bytes; a value of a kind that can be written, with the `|` behind it; both; both or nothing
abbrev pub Just : Bytes → Bytes → Type 0
Just label m = m ≡ label

abbrev pub Value : Kind → Bytes → Type 0
Value k m = (v : Bytes) × ((not (unwritten k v) ≡ true) × (m ≡ v ++ fix "|"))

abbrev pub Labelled : Bytes → Kind → Bytes → Type 0
Labelled label k m = (v : Bytes) × ((not (unwritten k v) ≡ true) × (m ≡ label ++ (v ++ fix "|")))

abbrev pub Maybe : Bytes → Kind → Bytes → Type 0
Maybe label k m = (m ≡ []) ⊎ Labelled label k m

-- THE FIELDS that some values make, if they can be written
abbrev pub Fields : {A : Type 0} → (A → List Field) → Bytes → Type 0
Fields {A} fs m = (a : A) × ((any (unfit TradeCaptureReport) (fs a) ≡ false) × (m ≡ row (fs a)))

abbrev pub trade : Bytes × (Bytes × Bytes) → List Field
trade v = 571 is bytes v.0 ∷ 828 is bytes v.1.0 ∷ 60 is bytes v.1.1 ∷ []

abbrev pub figures : Amount × (Amount × Option Bytes) → List Field
figures v = 32 is bytes (amount_text v.0) ∷ 31 is bytes (amount_text v.1.0) ∷ 64 is optional v.1.1 ∷ []

abbrev pub instrument : Bytes × (Bytes × Bytes) → List Field
instrument v = 574 is bytes v.0 ∷ 48 is bytes v.1.0 ∷ 22 is bytes v.1.1 ∷ []

abbrev pub side : Bytes × Option Bytes → List Field
side v = 552 is number 1 ∷ 54 is bytes v.0 ∷ 1427 is optional v.1 ∷ []

abbrev pub party : Party → List Field
party p = members (p ∷ [])

-- n parties
abbrev pub Parties : ℕ → Bytes → Type 0
Parties n m = (ps : List Party) × ((length ps ≡ n) × ((any (unfit TradeCaptureReport) (members ps) ≡ false) × (m ≡ row (members ps))))
