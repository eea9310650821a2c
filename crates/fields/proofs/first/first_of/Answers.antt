-- `first_of`: the search from the start is the search from the place reached.
use native.Mathlib.Omega.{arith}
use mathlib.Core.Path.{sym, ◌∙◌, subst}
use Rattle.fields.specs.Item.{Cut}
use Rattle.fields.proofs.Bars.{first_ends}
use Rattle.fields.proofs.Firsts.{first_found, first_passed, first_malformed, first_other, first_behind, first_from}
use Rattle.fields.proofs.first.first_of.Goals as goal

pub loop-at-preserved-then-body-at : goal.loop-at-preserved-then-body-at
loop-at-preserved-then-body-at c =
    let s = c.args in
    c.loop-at.invariant ∙ first_other s.tag c.requires.0 c.requires.1 s.body.now c.loop-at.at _ (omega arith) (λ e. c.if-body-at.true (e ∙ sym c.lead_of-lead.ensures)) (first_ends s.body.now c.loop-at.at _ c.byte_from-at.ensures)

pub returns-then-t-tag : goal.returns-then-t-tag
returns-then-t-tag c =
    let s = c.args in
    let C = subst (Cut s.body.now c.loop-at.at) c.in-Field.is c.item_at.ensures in
    first_from s.tag s.body.now _ c.requires.0 c.requires.1 (first_found s.tag c.requires.0 c.requires.1 s.body.now c.loop-at.at _ _ _ _ C c.if-t-tag.true ∙ sym c.loop-at.invariant)

pub loop-at-preserved-in-Field : goal.loop-at-preserved-in-Field
loop-at-preserved-in-Field c =
    let s = c.args in
    let C = subst (Cut s.body.now c.loop-at.at) c.in-Field.is c.item_at.ensures in
    c.loop-at.invariant ∙ first_passed s.tag c.requires.0 c.requires.1 s.body.now c.loop-at.at _ _ _ _ C c.if-t-tag.false

pub loop-at-preserved : goal.loop-at-preserved
loop-at-preserved c =
    let s = c.args in
    let C = subst (Cut s.body.now c.loop-at.at) c.in-Malformed.is c.item_at.ensures in
    c.loop-at.invariant ∙ first_malformed s.tag c.requires.0 c.requires.1 s.body.now c.loop-at.at _ _ _ C

pub returns : goal.returns
returns c =
    let s = c.args in
    first_from s.tag s.body.now _ c.requires.0 c.requires.1 (first_behind s.tag c.requires.0 c.requires.1 s.body.now c.loop-at.at (omega arith) ∙ sym c.loop-at.invariant)
