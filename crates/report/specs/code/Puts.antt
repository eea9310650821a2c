-- What the code puts for a report's fields, piece by piece. Only the code needs these: nothing here states document 02.
use Rattle.std.specs.Prelude.{ℕ, ◌≤◌, ◌≡◌, List, Bool, true, false, cond, not, ltb, Option, Some, None}
use Rattle.octets.specs.Bytes.{Bytes, any}
use Rattle.kinds.specs.Kind.{Kind}
use Rattle.table.specs.declared.MsgType.TheVariants.{TradeCaptureReport}
use Rattle.table.specs.Dictionary.{rows_of, listed, kind_in}
use Rattle.message.specs.Message.{Field, row}
use Rattle.message.specs.Unfit as Unfit
use Rattle.message.specs.Unfit.{required}
use Rattle.message.specs.Wrote.{Wrote}
use Rattle.report.specs.Values.{Values, own, takes}

-- Bytes behind a place, if they may be written, with the place behind them; else no place.
pub data Piece : Bool → Bytes → Bytes → ℕ → Option ℕ → Bytes → Type 0 where
  unfit : {ok : Bool} {d d' : Bytes} {at : ℕ} {xs : Bytes} → ok ≡ false → Piece ok d d' at None xs
  put : {ok : Bool} {d d' : Bytes} {at to : ℕ} {xs : Bytes} → ok ≡ true → Wrote d d' at to xs → Piece ok d d' at (Some to) xs

-- the place behind them, if there is one, is at most this
abbrev pub Within : Option ℕ → ℕ → Type 0
Within None most = Unit
Within (Some to) most = to ≤ most

-- how many bytes `tag=` has at most
abbrev pub label_room : ℕ → ℕ
label_room t = cond (ltb t 100) 3 (cond (ltb t 1000) 4 6)

-- fields of a report
abbrev pub Puts : Bytes → Bytes → ℕ → Option ℕ → List Field → Type 0
Puts d d' at to fs = Piece (not (any (Unfit.unfit TradeCaptureReport) fs)) d d' at to (row fs)

-- a report has the tag with values of the kind; it need not
pub record Has (t : ℕ) (k : Kind) : Type 0 where
  pub own : listed (rows_of TradeCaptureReport) t ≡ true
  pub kind : k ≡ kind_in (rows_of TradeCaptureReport) t

pub record Optional (t : ℕ) (k : Kind) : Type 0 where
  pub has : Has t k
  pub may : required TradeCaptureReport t ≡ false

-- all of them, in a body of 768 bytes
abbrev pub PutOwn : Values → Bytes → Bytes → ℕ → Option ℕ → Type 0
PutOwn v d d' at None = takes v ≡ false
PutOwn v d d' at (Some to) = (takes v ≡ true) × Wrote d d' at to (row (own v)) × (to ≤ 768)
