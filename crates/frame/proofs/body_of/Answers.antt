-- `body_of`: between the length and the trailer.
use Rattle.std.proofs.Common.{◌≡◌, ℕ, ◌+◌, ◌-◌, length, take, drop, subst, arith, sym, ◌∙◌}
use mathlib.Core.Bool.{false≢true}
use Rattle.frame.specs.Frame.{fixt, BodyOf}
use Rattle.frame.proofs.Bodies.{body_fits, body_is}
use Rattle.frame.proofs.body_of.Goals as goal

pub slice_bounds-result-count : goal.slice_bounds-result-count
unfolding fixt
slice_bounds-result-count c =
    let G = c.is_frame.ensures.only c.if-not-is_frame.false in omega (arith, (body_fits fixt _ G _ _ c.number-a.ensures).0)

pub slice_bounds-result-start : goal.slice_bounds-result-start
unfolding fixt
slice_bounds-result-start c =
    let G = c.is_frame.ensures.only c.if-not-is_frame.false in omega (arith, (body_fits fixt _ G _ _ c.number-a.ensures).0)

pub returns-then-not-is_frame : goal.returns-then-not-is_frame
returns-then-not-is_frame c = record { some = tt; none = λ G. false≢true (sym c.if-not-is_frame.true ∙ c.is_frame.ensures.every G) }

pub returns : goal.returns
unfolding fixt
returns c =
    let f = c.args.f.now in
    let n = c.number-a.result.count in
    let G = c.is_frame.ensures.only c.if-not-is_frame.false in
    let e : 13 + (n + 1) ≡ 14 + n = omega arith in
    record { some = subst (λ (k : ℕ). BodyOf fixt f (take (length f - 7 - k) (drop k f))) e (body_is fixt f G _ _ c.number-a.ensures); none = tt }
