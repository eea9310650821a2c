-- `put_place`: the message, byte by byte, then zeros behind it.
use Rattle.std.proofs.Common.{◌≡◌, ℕ, ◌+◌, ◌-◌, ◌*◌, ◌++◌, length, refl, ap, ◌∙◌, arith}
use lib.ListN.{length-set}
use lib.Seq.{take_all}
use Rattle.octets.specs.Bytes.{Bytes}
use Rattle.std.proofs.Math.Seq.{sets}
use Rattle.std.proofs.Math.ListN.{replicate}
use Rattle.places.specs.Places.{put_at}
use Rattle.places.proofs.Cuts.{store_is}
use Rattle.places.proofs.Filling.{byte_more, zeros_behind}
use Rattle.places.proofs.put_place.Goals as goal

pub loop-k-init : goal.loop-k-init
loop-k-init c = (refl, refl)

pub bounds-store-at : goal.bounds-store-at
bounds-store-at c = omega (arith, store_is c.args.store.now c.requires.0, c.loop-k.invariant.0)

pub loop-k-preserved : goal.loop-k-preserved
loop-k-preserved c =
    let l = c.loop-k in
    let a = c.args in
    (simp length-set l.invariant.0, byte_more a.store.now l.store (512 * a.i) l.k a.m.now (omega arith) l.invariant.1)

pub slice_bounds-fill-end : goal.slice_bounds-fill-end
slice_bounds-fill-end c = omega (arith, store_is c.args.store.now c.requires.0, c.loop-k.invariant.0)

pub returns : goal.returns
unfolding put_at
returns c =
    let a = c.args in
    let l = c.loop-k in
    let m = a.m.now in
    let s = a.store.now in
    let at = 512 * a.i in
    let n = length m in
    let w = store_is s c.requires.0 in
    let f = l.invariant.1 ∙ ap (λ (d : Bytes). sets s at d) (take_all l.k m (omega arith)) in
    let r : at + 512 - (at + n) ≡ 512 - n = omega arith in
    zeros_behind s l.store m _ at _ f (omega arith) (c.fill.ensures.after (λ y e. e)) ∙ ap (λ (k : ℕ). sets s at (m ++ replicate k 0)) r
