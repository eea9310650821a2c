-- WHICH REPORT A PLACE HOLDS (document 02, Q-4): "A place that doesn't hold one AE frame as our report call writes it counts as empty".
use Rattle.std.specs.Prelude as rust
use Rattle.std.specs.Prelude.{ℕ, ◌≡◌, [], ◌∷◌, true, cond, eqb, length, Some, None}
use Rattle.std.proofs.Math.Option.{Option, none, some}
use Rattle.octets.specs.Bytes.{Bytes}
use Rattle.places.specs.Places.{padded}
use Rattle.report.specs.Report.{Report, sent, sendable, read}

-- a place without the zeros behind
abbrev pub unless_zero : ℕ → Bytes → Bytes
unless_zero x [] = cond (eqb x 0) [] (x ∷ [])
unless_zero x (y ∷ l) = x ∷ y ∷ l

abbrev pub trimmed : Bytes → Bytes
trimmed [] = []
trimmed (x ∷ l) = unless_zero x (trimmed l)

-- The reports of a session between two CompIDs.
module _ (us them : Bytes) where
  -- a place holds the report r if it is the very bytes that our call writes for r, zeros behind
  pub record Holds (place : Bytes) (r : Report) : Type 0 where
    pub sends : sendable us them r ≡ true
    pub bytes : place ≡ padded (sent us them r)

  -- by computation; `Holding` says that this is the same
  unfoldable pub held : Bytes → Option Report
  held place = read us them (trimmed place)

  pub record Holding (place : Bytes) : Type 0 where
    pub is : (r : Report) → held place ≡ some r → Holds place r
    pub only : (r : Report) → Holds place r → held place ≡ some r

-- its number, if there is one
abbrev pub number_of : Option Report → rust.Option ℕ
number_of none = None
number_of (some r) = Some r.number

pub record Promise : Type 0 where
  pub holding : (us them place : Bytes) → length place ≡ 512 → Holding us them place
