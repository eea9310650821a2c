-- `kept_number`: what each part of the walk says of the report that the place holds.
use native.Mathlib.Omega.{arith}
use mathlib.Core.Path.{refl, ◌∙◌}
use Rattle.kept.proofs.Few.{short}
use Rattle.kept.proofs.Walking.{unheaded, no_number, zero_first, too_high, endless, unfilled, kept_is}
use Rattle.kept.proofs.kept_number.Goals as goal

pub returns-then-not-is_headed : goal.returns-then-not-is_headed
returns-then-not-is_headed c =
    let a = c.args in
    unheaded a.ids.now.us.now a.ids.now.them.now a.place.now c.requires _ c.is_headed.ensures c.if-not-is_headed.true

pub overflow_add-at-2 : goal.overflow_add-at-2
overflow_add-at-2 c =
    let a = c.args in
    omega (arith, short a.ids.now.us.now a.ids.now.ours, short a.ids.now.them.now a.ids.now.peers)

pub row-n-requires : goal.row-n-requires
row-n-requires c =
    let a = c.args in
    (omega (arith, c.requires, short a.ids.now.us.now a.ids.now.ours, short a.ids.now.them.now a.ids.now.peers), omega arith)

pub returns-then-n-eq0 : goal.returns-then-n-eq0
returns-then-n-eq0 c =
    let a = c.args in
    no_number a.ids.now.us.now a.ids.now.them.now a.place.now c.requires _ _ c.row-n.ensures c.if-n-eq0.true

pub bounds-place-at : goal.bounds-place-at
bounds-place-at c =
    let a = c.args in
    omega (arith, c.requires, short a.ids.now.us.now a.ids.now.ours, short a.ids.now.them.now a.ids.now.peers)

pub returns-then-place-at-eq48 : goal.returns-then-place-at-eq48
returns-then-place-at-eq48 c =
    let a = c.args in
    zero_first a.ids.now.us.now a.ids.now.them.now a.place.now c.requires _ _ c.row-n.ensures c.if-place-at-eq48.true

pub returns-then-n-gt999999990 : goal.returns-then-n-gt999999990
returns-then-n-gt999999990 c =
    let a = c.args in
    too_high a.ids.now.us.now a.ids.now.them.now a.place.now c.requires _ _ c.row-n.ensures c.if-n-gt999999990.true

pub returns-in_err-end : goal.returns-in_err-end
returns-in_err-end c =
    let a = c.args in
    c.from_residual.ensures ∙ endless a.ids.now.us.now a.ids.now.them.now a.place.now c.requires _ _ c.row-n.ensures c.in_err-end.ensures

pub is_filled-requires : goal.is_filled-requires
is_filled-requires c =
    let a = c.args in
    let N = c.row-n.ensures in
    let u = short a.ids.now.us.now a.ids.now.ours in
    let t = short a.ids.now.them.now a.ids.now.peers in
    (c.requires, omega arith, omega (arith, N.few), (c.in_ok-end.ensures.is _ refl).1)

pub returns-then-not-is_filled : goal.returns-then-not-is_filled
returns-then-not-is_filled c =
    let a = c.args in
    unfilled a.ids.now.us.now a.ids.now.them.now a.place.now c.requires _ _ c.row-n.ensures _ c.in_ok-end.ensures _ c.is_filled.ensures c.if-not-is_filled.true

pub returns : goal.returns
returns c =
    let a = c.args in
    kept_is a.ids.now.us.now a.ids.now.them.now a.place.now c.requires _ _ c.row-n.ensures _ c.in_ok-end.ensures
    (c.is_headed.ensures.yes c.if-not-is_headed.false)
    a.ids.now.ours a.ids.now.peers c.if-n-eq0.false c.if-place-at-eq48.false (omega arith)
    (c.is_filled.ensures.yes c.if-not-is_filled.false)
