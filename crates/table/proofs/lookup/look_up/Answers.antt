-- The line at the only place that a tag can have.
use mathlib.Core.Path.{ap, sym, ◌∙◌}
use Rattle.std.proofs.lemmas.List.{get_or_default}
use Rattle.table.specs.code.Held.{entry_at, no_entry}
use Rattle.table.specs.declared.lines.Entry.{Entry}
use Rattle.table.specs.declared.lines.TheConstants.{TABLE}
use Rattle.table.proofs.Places.{no_place, entry_tag}
use Rattle.table.proofs.lookup.look_up.Goals as goal

pub returns-then-place-tag : goal.returns-then-place-tag
unfolding entry_at
returns-then-place-tag c =
    let O = c.place_in-place.ensures in
    no_place O (λ e. c.if-place-tag.true (ap (λ (y : Entry). y.tag) (get_or_default TABLE _ _ no_entry O.small) ∙ e))

pub returns : goal.returns
unfolding entry_at
returns c =
    let O = c.place_in-place.ensures in
    sym (entry_tag _ O.small) ∙ ap (λ (y : Entry). y.tag) (sym (get_or_default TABLE _ _ no_entry O.small)) ∙ c.if-place-tag.false
