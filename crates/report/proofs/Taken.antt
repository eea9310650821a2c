-- What the dictionary takes: none of the values has a `|`, and the two decimals are in their ranges.
use Prim.Native.Nat.{ℕ, zero, suc}
use mathlib.Core.Path.{◌≡◌}
use mathlib.Core.List.{List, [], ◌∷◌}
use mathlib.Core.Option.{Option, none, some}
use mathlib.Core.Bool.{true, false}
use borrow.Author.Tests.{not-true}
use lib.ListN.{drop}
use Rattle.octets.specs.Bytes.{Bytes, any}
use Rattle.octets.proofs.Tests.{neither}
use Rattle.kinds.specs.Kind.{kind_of, allowed}
use Rattle.kinds.specs.Kind as Kind
use Rattle.table.specs.declared.MsgType.{MsgType}
use Rattle.table.specs.declared.MsgType.TheVariants.{TradeCaptureReport}
use Rattle.table.specs.Dictionary.{№453, №580, №552, header, fields, groups_of, rows_of}
use Rattle.message.specs.Message.{bytes, Field, ◌is◌, shown}
use Rattle.message.proofs.Accepted.{accepted}
use Rattle.message.proofs.Cutting.{FreeOne, Free}
use Rattle.amounts.specs.Amount.{amount_text}
use Rattle.message.specs.Unfit.{unwritable, unfit}
use Rattle.report.specs.Values.{Values, own, takes}

-- fields of which none is unfit
module _ (m : MsgType) where
  pub here : (f : Field) (fs : List Field) → any (unfit m) (f ∷ fs) ≡ false → unfit m f ≡ false
  here f fs h = (neither (unfit m f) (any (unfit m) fs) h).0

  pub later : (f : Field) (fs : List Field) → any (unfit m) (f ∷ fs) ≡ false → any (unfit m) fs ≡ false
  later f fs h = (neither (unfit m f) (any (unfit m) fs) h).1

  pub fit_from : (k : ℕ) (fs : List Field) → any (unfit m) fs ≡ false → any (unfit m) (drop k fs) ≡ false
  fit_from zero fs h = h
  fit_from (suc k) [] h = h
  fit_from (suc k) (f ∷ fs) h = fit_from k fs (later f fs h)

  pub none_bar : (fs : List Field) → any (unfit m) fs ≡ false → Free fs
  none_bar [] h = tt
  none_bar ((t is v) ∷ fs) h = (go (shown v) (here (t is v) fs h), none_bar fs (later (t is v) fs h))
    where
      go : (o : Option Bytes) → unwritable m t o ≡ false → FreeOne o
      go none k = tt
      go (some w) k = (accepted m t w k).no_bar

-- THE VALUES OF A REPORT
module _ (v : Values) (h : takes v ≡ true) where
  pub all_fit : any (unfit TradeCaptureReport) (own v) ≡ false
  unfolding takes
  all_fit = not-true _ h

  pub own_free : Free (own v)
  own_free = none_bar TradeCaptureReport (own v) all_fit

  own_fit : (k : ℕ) → any (unfit TradeCaptureReport) (drop k (own v)) ≡ false
  own_fit k = fit_from TradeCaptureReport k (own v) all_fit

  pub quantity_fits : allowed Kind.decimal (amount_text v.its32) ≡ true
  unfolding rows_of header fields groups_of №453 №580 №552 kind_of
  quantity_fits =
      (accepted TradeCaptureReport 32 (amount_text v.its32)
      (here TradeCaptureReport (32 is bytes (amount_text v.its32)) (drop 4 (own v)) (own_fit 3))).right

  pub price_fits : allowed Kind.decimal (amount_text v.its31) ≡ true
  unfolding rows_of header fields groups_of №453 №580 №552 kind_of
  price_fits =
      (accepted TradeCaptureReport 31 (amount_text v.its31)
      (here TradeCaptureReport (31 is bytes (amount_text v.its31)) (drop 5 (own v)) (own_fit 4))).right
