-- `put_values`: up to place k the values are fit and their fields stand one behind the other.
use native.Mathlib.Omega.{arith}
use Prim.Native.Nat.{◌<◌}
use mathlib.Core.Path.{refl, sym, ap, ◌∙◌}
use Rattle.octets.specs.Bytes.{any}
use Rattle.message.specs.Message.{row, valued}
use Rattle.writer.specs.Call.{value_in, refused8}
use Rattle.message.specs.Unfit.{unfit}
use Rattle.writer.specs.code.Held.{tag_at}
use Rattle.message.proofs.Writes.{nothing, reword}
use Rattle.writer.proofs.Tagged.{first_short}
use Rattle.writer.proofs.Filling.{many_slots, slot_bounds, put_here, told, put_further, fit_further, unfit-here, refused_put, all_put}
use Rattle.writer.proofs.fill.put_values.Goals as goal

pub loop-k-init : goal.loop-k-init
loop-k-init c = (nothing, λ m a M. refl)

pub put_entry-requires : goal.put_entry-requires
put_entry-requires c =
    let l = c.loop-k in
    let k : l.k < 21 = omega (arith, many_slots) in
    let vs = value_in c.args.values.now c.args.text.now in
    let t = slot_bounds l.k k in
    let f = first_short c.args.m c.requires.0 vs l.k (l.invariant.1 c.args.m c.requires.0 c.marks_of-marks.ensures) in
    record { tag_bound = (t.0, t.1, omega (arith, f, l.invariant.0.next, c.requires.1)); kind_value = t.2 }

pub returns-in_err-to : goal.returns-in_err-to
returns-in_err-to c =
    let l = c.loop-k in
    let k : l.k < 21 = omega (arith, many_slots) in
    let vs = value_in c.args.values.now c.args.text.now in
    let M = c.marks_of-marks in
    let here = put_here l.k k c.args.values.now c.args.text.now M.result c.bit.result c.bit-in-loop-k.result c.bit.ensures c.bit-in-loop-k.ensures l.buf c.put_entry.new.buf l.to c.put_entry.result c.put_entry.ensures in
    let r = told c.in_err-to.was (tag_at l.k) (vs (tag_at l.k)) l.buf c.put_entry.new.buf l.to M.result here in
    refused_put c.args.m vs _ _ c.args.at c.from_residual.ensures (unfit-here c.args.m vs l.k k (r c.args.m c.requires.0 M.ensures))

pub loop-k-preserved : goal.loop-k-preserved
loop-k-preserved c =
    let l = c.loop-k in
    let k : l.k < 21 = omega (arith, many_slots) in
    let vs = value_in c.args.values.now c.args.text.now in
    let M = c.marks_of-marks in
    let here = put_here l.k k c.args.values.now c.args.text.now M.result c.bit.result c.bit-in-loop-k.result c.bit.ensures c.bit-in-loop-k.ensures l.buf c.put_entry.new.buf l.to c.put_entry.result c.put_entry.ensures in
    let at = told c.in_ok-to.was (tag_at l.k) (vs (tag_at l.k)) l.buf c.put_entry.new.buf l.to M.result here in
    (put_further vs l.k k l.invariant.0 (at c.args.m c.requires.0 M.ensures).1, λ m a N. fit_further m vs l.k k (l.invariant.1 m a N) (at m a N).0)

pub returns : goal.returns
unfolding refused8
returns c =
    let l = c.loop-k in
    let vs = value_in c.args.values.now c.args.text.now in
    let e = ap (valued vs) (all_put l.k (omega (arith, many_slots))) in
    (ap (any (unfit c.args.m)) (sym e) ∙ l.invariant.1 c.args.m c.requires.0 c.marks_of-marks.ensures, reword (ap row e) l.invariant.0)
