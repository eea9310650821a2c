-- A report's body has at least 100 bytes, since no value is empty: its length always has three digits.
-- Assumes nothing.
use Prim.Native.Nat.{ℕ, ◌+◌, ◌≤◌}
use native.Mathlib.Omega.{arith}
use mathlib.Core.Path.{◌≡◌, refl}
use mathlib.Core.List.{List, [], ◌∷◌, ◌++◌}
use mathlib.Core.Bool.{true, false}
use mathlib.Core.Option.{Option, none, some}
use lib.ListN.{length, length-append}
use borrow.Author.Tests.{eqb-false}
use Rattle.octets.specs.Bytes.{Bytes, fix, any, decimal}
use Rattle.calendar.specs.Time.{utc}
use Rattle.calendar.proofs.Times.{utc_length}
use Rattle.table.specs.declared.MsgType.TheVariants.{TradeCaptureReport}
use Rattle.message.specs.Message.{Field, ◌is◌, shown, tagged, row}
use Rattle.message.specs.Unfit.{unwritable, unfit}
use Rattle.message.proofs.Accepted.{accepted}
use Rattle.message.proofs.Sizes.{length-tagged}
use Rattle.report.specs.Values.{Values, own, takes}
use Rattle.report.specs.Report.{Report, fields_of}
use Rattle.report.proofs.Taken.{here, later, all_fit}
use Rattle.report.proofs.ReadBack.{Sendable, comp_long}

-- the bytes of a field with one byte of a value
abbrev least : ℕ → Option Bytes → ℕ
least t none = 0
least t (some v) = length (decimal t) + 3

abbrev floor : List Field → ℕ
floor [] = 0
floor ((t is v) ∷ fs) = least t (shown v) + floor fs

one_long : (t : ℕ) (o : Option Bytes) → unwritable TradeCaptureReport t o ≡ false → least t o ≤ length (tagged t o)
one_long t none h = omega arith
one_long t (some v) h = let n = eqb-false (length v) 0 (accepted TradeCaptureReport t v h).filled in omega (arith, length-tagged t v)

row_long : (fs : List Field) → any (unfit TradeCaptureReport) fs ≡ false → floor fs ≤ length (row fs)
row_long [] h = omega arith
row_long ((t is v) ∷ fs) h =
    omega (arith, length-append (tagged t (shown v)) (row fs), one_long t (shown v) (here TradeCaptureReport (t is v) fs h), row_long fs (later TradeCaptureReport (t is v) fs h))

own_least : (v : Values) → takes v ≡ true → 54 ≤ length (row (own v))
unfolding decimal
own_least v h = omega (arith, row_long (own v) (all_fit v h))

-- the tags before the own fields
labels : length (decimal 35) + length (decimal 49) + length (decimal 56) + length (decimal 34) + length (decimal 52) ≡ 10
unfolding decimal
labels = refl

pub body-least : (us them : Bytes) (r : Report) → Sendable us them r → 100 ≤ length (row (fields_of us them r))
body-least us them r S =
    let a : Bytes = tagged 35 (some (fix "AE")) in
    let b : Bytes = tagged 49 (some us) in
    let c : Bytes = tagged 56 (some them) in
    let d : Bytes = tagged 34 (some (decimal r.number)) in
    let e : Bytes = tagged 52 (some (utc r.time)) in
    let f : Bytes = row (own r.values) in
    omega (arith, labels, length-append a (b ++ (c ++ (d ++ (e ++ f)))), length-append b (c ++ (d ++ (e ++ f))), length-append c (d ++ (e ++ f)), length-append d (e ++ f), length-append e f, length-tagged 35 (fix "AE"), length-tagged 49 us, length-tagged 56 them, length-tagged 34 (decimal r.number), length-tagged 52 (utc r.time), utc_length r.time, own_least r.values S.taken, (comp_long us S.ours).0, (comp_long them S.peers).0)
