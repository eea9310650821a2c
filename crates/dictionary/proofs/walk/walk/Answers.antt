-- The walk: before each part the code stands where the words stand (At), and each way that a part can go is one turn of theirs.
use native.Mathlib.Omega.{arith}
use Rattle.std.proofs.lemmas.Result.{err_from_is_err_and}
use mathlib.Core.Path.{refl, sym, ◌∙◌}
use Rattle.dictionary.proofs.Walking.{begins, ends_with, ends-here, goes_on, field_lies, field_step}
use Rattle.dictionary.proofs.Turns.{few_more, skips}
use Rattle.dictionary.proofs.walk.walk.Goals as goal

pub loop-tag-init : goal.loop-tag-init
loop-tag-init c = begins _ _

pub returns-in_default : goal.returns-in_default
returns-in_default c = ends-here c.loop-tag.invariant c.item_at-item.ensures c.in_default.not-Field c.ended.ensures

pub returns-in_err-of_unknown : goal.returns-in_err-of_unknown
returns-in_err-of_unknown c =
    let A = c.loop-tag.invariant in
    let p = err_from_is_err_and c.from_residual.result c.from_residual.ensures.1 in
    rw (p.1, p.2) (ends_with A (field_step c.item_at-item.ensures c.in-Field.is refl) (c.of_unknown.ensures.is A.past _ A.stands.stood c.in_default-look_up.ensures) c.in_err-of_unknown.was)

pub loop-tag-preserved-in_default-look_up : goal.loop-tag-preserved-in_default-look_up
loop-tag-preserved-in_default-look_up c =
    let A = c.loop-tag.invariant in
    let u = c.in_default-look_up.ensures in
    let s = c.of_unknown.ensures.is A.past _ A.stands.stood u in
    let q = c.in_ok-of_unknown.was in
    goes_on A (field_step c.item_at-item.ensures c.in-Field.is refl) s q (skips _ _ _ A.stands u (sym s ∙ q)) c.requires.1 tt A.seen_long A.met_long

pub returns-in_err-of_known : goal.returns-in_err-of_known
returns-in_err-of_known c =
    let A = c.loop-tag.invariant in
    let S = field_step c.item_at-item.ensures c.in-Field.is c.in-Some.ensures in
    let p = err_from_is_err_and c.from_residual-in_err-of_known.result c.from_residual-in_err-of_known.ensures.1 in
    rw (p.1, p.2) (ends_with A S (c.of_known.ensures.is A.past A.stands) c.in_err-of_known.was)

pub remembered-st-requires : goal.remembered-st-requires
remembered-st-requires c =
    let A = c.loop-tag.invariant in
    let l = field_lies c.item_at-item.ensures c.in-Field.is in
    (A.seen_long, A.met_long, few_more _ (omega (arith, l, c.requires.0)) A.few)

pub loop-tag-preserved : goal.loop-tag-preserved
loop-tag-preserved c =
    let A = c.loop-tag.invariant in
    let l = field_lies c.item_at-item.ensures c.in-Field.is in
    let S = field_step c.item_at-item.ensures c.in-Field.is c.in-Some.ensures in
    let s = c.of_known.ensures.is A.past A.stands in
    let q = c.in_ok-of_known.was in
    let R = c.remembered-st.ensures in
    goes_on A S s q (R.is _ A.past A.stands A.flat (sym s ∙ q)) c.requires.1 (few_more _ (omega (arith, l)) (R.few _ A.few)) R.seen_long R.met_long
