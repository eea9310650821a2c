-- The words hold the fields before the place reached; at the end they are those of the body.
use mathlib.Core.Path.{subst}
use Rattle.fields.specs.Item.{Cut}
use Rattle.readback.proofs.Passing.{sofar_none, sofar_field, sofar_malformed, sofar_end, at_end}
use Rattle.readback.proofs.noting.note_all.Goals as goal

pub loop-tag-init : goal.loop-tag-init
loop-tag-init c = sofar_none c.args.body.now c.args.words.now c.requires

pub loop-tag-preserved-in-Field : goal.loop-tag-preserved-in-Field
loop-tag-preserved-in-Field c = sofar_field _ _ _ _ _ _ _ _ _ (subst (Cut c.args.body.now c.loop-tag.at) c.in-Field.is c.item_at.ensures) c.loop-tag.invariant _ c.note.ensures

pub loop-tag-preserved : goal.loop-tag-preserved
loop-tag-preserved c = sofar_malformed _ _ _ _ (subst (Cut c.args.body.now c.loop-tag.at) c.in-Malformed.is c.item_at.ensures) c.loop-tag.invariant

pub finish-requires : goal.finish-requires
finish-requires c = sofar_end _ _ _ _ (at_end c.item_at.ensures c.in-End.is) c.loop-tag.invariant
