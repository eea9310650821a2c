-- `load`: no record, test by test; or the one whose parts are what the definition says of them.
use mathlib.Core.Path.{refl, sym, ◌∙◌}
use lib.ListN.{get_or}
use Rattle.border.specs.Record.{status_of}
use Rattle.border.proofs.Records.{spare_is, other_length, other_version, other_status, not_spare, status_read}
use Rattle.border.proofs.Keeping.{no_record, a_record, told_none, told_some}
use Rattle.border.proofs.record.load.Goals as goal

pub returns-then-words-ne24 : goal.returns-then-words-ne24
returns-then-words-ne24 c = let a = c.args in sym (no_record a.words.now a.ids.now (other_length a.words.now c.if-words-ne24.true))

pub returns-then-words-ne1 : goal.returns-then-words-ne1
returns-then-words-ne1 c = let a = c.args in sym (no_record a.words.now a.ids.now (other_version a.words.now c.if-words-ne24.false c.if-words-ne1.true))

pub returns-in_err-status : goal.returns-in_err-status
returns-in_err-status c =
    let a = c.args in
    let h = told_none (status_of (get_or a.words.now 1 0)) (sym c.in_err-status.was ∙ c.status_of.ensures) in
    c.from_residual.ensures ∙ sym (no_record a.words.now a.ids.now (other_status a.words.now c.if-words-ne24.false c.if-words-ne1.false h))

pub returns-then-not-are_zero : goal.returns-then-not-are_zero
returns-then-not-are_zero c =
    let a = c.args in
    sym (no_record a.words.now a.ids.now (not_spare a.words.now c.if-words-ne24.false c.if-words-ne1.false (sym (c.are_zero.ensures ∙ spare_is a.words.now _ refl) ∙ c.if-not-are_zero.true)))

pub returns : goal.returns
returns c =
    let a = c.args in
    let h = told_some (status_of (get_or a.words.now 1 0)) c.in_ok-status.status (sym c.in_ok-status.was ∙ c.status_of.ensures) in
    let k = status_read a.words.now c.if-words-ne24.false c.if-words-ne1.false (sym (c.are_zero.ensures ∙ spare_is a.words.now _ refl) ∙ c.if-not-are_zero.false) in
    rw (c.from.ensures, c.from-2.ensures) (a_record a.words.now a.ids.now (h ∙ k) c.eleven_from.ensures c.eleven_from-2.ensures c.gap_from.ensures)
