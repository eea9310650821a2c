-- `place_of`: no place passed holds the number.
use mathlib.Core.Path.{sym, ap, ◌∙◌}
use native.Mathlib.Omega.{arith}
use Rattle.octets.specs.Bytes.{Bytes}
use Rattle.kept.specs.Kept.{held, number_of}
use Rattle.kept.proofs.Numbers.{number_some, same_yes}
use Rattle.store.proofs.Running.{stands_here, stands_nowhere}
use Rattle.store.proofs.Reports.place_of.Goals as goal

pub returns-then-eq : goal.returns-then-eq
returns-then-eq c =
    let s = c.args.self.now in
    let K = c.kept_number.ensures ∙ ap (λ (p : Bytes). number_of (held s.ids.us.now s.ids.them.now p)) c.place.ensures.is in
    stands_here s.ids.us.now s.ids.them.now s.store.now c.args.n c.loop-i.i c.requires.0 c.loop-i-test.true c.loop-i.invariant
    (number_some _ c.args.n (sym (same_yes _ c.args.n (sym c.eq.ensures ∙ c.if-eq.true)) ∙ K))

pub returns : goal.returns
returns c =
    let s = c.args.self.now in
    stands_nowhere s.ids.us.now s.ids.them.now s.store.now c.args.n c.requires.0 (λ j h. c.loop-i.invariant j (omega arith))
