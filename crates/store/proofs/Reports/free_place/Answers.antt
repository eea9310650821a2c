-- `free_place`: each place passed holds a report of another number.
use native.Mathlib.Omega.{arith}
use mathlib.Core.Path.{◌≡◌, ap, ◌∙◌}
use lib.ListN.{length-set}
use Rattle.octets.specs.Bytes.{Bytes}
use Rattle.places.proofs.Cuts.{place-length}
use Rattle.kept.specs.Kept.{held, number_of}
use Rattle.store.proofs.Filled.{free_none, free_met, free_more, free_full}
use Rattle.store.proofs.Reports.free_place.Goals as goal

pub returns-in_default : goal.returns-in_default
returns-in_default c =
    let s = c.args.self.now in
    let l = c.loop-i in
    free_none s.ids.us.now s.ids.them.now s.store.now l.numbers l.i c.loop-i-test.true l.invariant.1 s.whole
    (c.in_default.ensures ∙ ap (λ (p : Bytes). number_of (held s.ids.us.now s.ids.them.now p)) c.place.ensures.is)

pub returns-then-contains : goal.returns-then-contains
returns-then-contains c =
    let s = c.args.self.now in
    let l = c.loop-i in
    let K = c.in-Some.ensures ∙ ap (λ (p : Bytes). number_of (held s.ids.us.now s.ids.them.now p)) c.place.ensures.is in
    free_met s.ids.us.now s.ids.them.now s.store.now l.numbers l.i c.loop-i-test.true l.invariant.1 c.in-Some.n (place-length s.store.now l.i s.whole c.loop-i-test.true) K c.contains.ensures.value c.if-contains.true

pub loop-i-preserved : goal.loop-i-preserved
loop-i-preserved c =
    let s = c.args.self.now in
    let l = c.loop-i in
    let K = c.in-Some.ensures ∙ ap (λ (p : Bytes). number_of (held s.ids.us.now s.ids.them.now p)) c.place.ensures.is in (
      length-set l.numbers l.i _ ∙ l.invariant.0,
      free_more s.ids.us.now s.ids.them.now s.store.now l.numbers l.i c.loop-i-test.true l.invariant.1 c.in-Some.n (place-length s.store.now l.i s.whole c.loop-i-test.true) K l.invariant.0 c.contains.ensures.value c.if-contains.false,
    )

pub returns : goal.returns
returns c =
    let s = c.args.self.now in
    let l = c.loop-i in
    let e : l.i ≡ 64 = omega arith in
    free_full s.ids.us.now s.ids.them.now s.store.now l.numbers l.i _ l.invariant.0 e l.invariant.1 c.lowest_place.ensures
