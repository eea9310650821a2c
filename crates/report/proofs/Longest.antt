-- How long the fields of a report can be, refusal 12 not yet asked: room for the code that writes them. And at most eight parties.
use Prim.Native.Nat.{ℕ, ◌+◌, ◌*◌, ◌≤◌}
use native.Mathlib.Omega.{arith}
use mathlib.Core.Path.{◌≡◌, refl}
use mathlib.Core.List.{List, [], ◌∷◌}
use mathlib.Core.Bool.{true, false}
use mathlib.Core.Option.{Option, none, some}
use lib.ListN.{length, length-append}
use Rattle.octets.specs.Bytes.{Bytes, any, value, decimal}
use Rattle.octets.proofs.Numerals.{within_is}
use Rattle.octets.proofs.Decimals.{decimal-worth}
use Rattle.kinds.specs.Kind.{Kind, kind_of, allowed}
use Rattle.table.specs.declared.MsgType.TheVariants.{TradeCaptureReport}
use Rattle.table.specs.Dictionary.{№453, №580, №552, header, fields, groups_of, rows_of, kind_in}
use Rattle.message.specs.Message.{number, Field, ◌is◌, shown, tagged, row}
use Rattle.message.specs.Unfit.{unfit}
use Rattle.message.specs.code.Writable.{as_written}
use Rattle.message.proofs.Accepted.{accepted}
use Rattle.message.proofs.Sizes.{OtherKind, GivenAs, AllAs, width, field_short, as_written_lem}
use Rattle.report.specs.Values.{Party, Values, optional, members, group, own, takes}
use Rattle.report.proofs.Taken.{here, later, fit_from, all_fit}

-- BY TAG: a field that the dictionary takes is no longer than its kind, and a number no longer than its greatest
abbrev widths : List Field → ℕ
widths [] = 0
widths ((t is v) ∷ fs) = width as_written TradeCaptureReport t + widths fs

row_short : (fs : List Field) → any (unfit TradeCaptureReport) fs ≡ false → AllAs TradeCaptureReport fs → length (row fs) ≤ widths fs
row_short [] h g = omega arith
row_short ((t is v) ∷ fs) h g =
    let u = here TradeCaptureReport (t is v) fs h in
    omega (
      arith,
      length-append (tagged t (shown v)) (row fs),
      field_short as_written TradeCaptureReport t (shown v) u (as_written_lem TradeCaptureReport t v u g.0),
      row_short fs (later TradeCaptureReport (t is v) fs h) g.1,
    )

-- THE PARTIES: at most eight, of 37 + 6 + 7 bytes each
pub group_few : (ps : List Party) → any (unfit TradeCaptureReport) (group ps) ≡ false → length ps ≤ 8
unfolding rows_of header fields groups_of №453 №580 №552 kind_of allowed
group_few [] h = omega arith
group_few (p ∷ ps) h =
    let n : ℕ = length (p ∷ ps) in
    let A = accepted TradeCaptureReport 453 (decimal n) (here TradeCaptureReport (453 is number n) (members (p ∷ ps)) h) in
    omega (arith, (within_is 1 8 (value (decimal n)) A.right).1, decimal-worth n)

members-width : (ps : List Party) → widths (members ps) ≡ 50 * length ps
unfolding width rows_of header fields groups_of №453 №580 №552 kind_of decimal
members-width [] = refl
members-width (p ∷ ps) = omega (arith, members-width ps)

group-width : (ps : List Party) → length ps ≤ 8 → widths (group ps) ≤ 406
unfolding width rows_of header fields groups_of №453 №580 №552 kind_of decimal
group-width [] h = omega arith
group-width (p ∷ ps) h = omega (arith, members-width (p ∷ ps))

optional_as : (k : Kind) → OtherKind k → (o : Option Bytes) → GivenAs k (optional o)
optional_as k c none = tt
optional_as k c (some v) = c

members_as : (ps : List Party) → AllAs TradeCaptureReport (members ps)
unfolding rows_of header fields groups_of №453 №580 №552 kind_of
members_as [] = tt
members_as (p ∷ ps) = (tt, (tt, (tt, members_as ps)))

group_as : (ps : List Party) → AllAs TradeCaptureReport (group ps)
group_as [] = tt
group_as (p ∷ ps) = (tt, members_as (p ∷ ps))

module _ (v : Values) (h : takes v ≡ true) where
  pub few_parties : length v.parties ≤ 8
  few_parties = group_few v.parties (fit_from TradeCaptureReport 12 (own v) (all_fit v h))

  -- 571 to 22, then 552, 54 and 1427: 37 + 7 + 28 + 20 + 20 + 12 + 7 + 36 + 5 + 6 + 5 + 38
  own_width : widths (own v) ≡ 221 + widths (group v.parties)
  unfolding width rows_of header fields groups_of №453 №580 №552 kind_of decimal
  own_width = omega arith

  own_as : AllAs TradeCaptureReport (own v)
  unfolding rows_of header fields groups_of №453 №580 №552 kind_of
  own_as = (tt, (tt, (tt, (tt, (tt, (optional_as (kind_in (rows_of TradeCaptureReport) 64) tt v.its64, (tt, (tt, (tt, (tt, (tt, (optional_as (kind_in (rows_of TradeCaptureReport) 1427) tt v.its1427, group_as v.parties))))))))))))

  pub own_long : length (row (own v)) ≤ 627
  own_long = omega (arith, row_short (own v) (all_fit v h) own_as, own_width, group-width v.parties few_parties)
