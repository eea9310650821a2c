-- `put_given`: a number, or the bytes at a place of the text.
use mathlib.Core.Path.{sym, ◌∙◌}
use Rattle.writer.proofs.Entries.{put_number, put_part, backwards, beyond}
use Rattle.writer.proofs.fill.put_given.Goals as goal

pub returns-then-is_number : goal.returns-then-is_number
returns-then-is_number c m H =
    let g = c.requires.given_value in
    put_number m c.args.e c.args.text.now H c.args.given g.0 g.1 _ _ c.args.at _ (sym c.is_number.ensures ∙ c.if-is_number.true) c.put_number_value.ensures

pub returns-then-end-start : goal.returns-then-end-start
returns-then-end-start c m H =
    let g = c.requires.given_value in
    backwards m c.args.e c.args.text.now H c.args.given g.0 g.1 (sym c.is_number.ensures ∙ c.if-is_number.false) c.if-end-start.true

pub returns-then-text-end : goal.returns-then-text-end
returns-then-text-end c m H =
    let g = c.requires.given_value in
    beyond m c.args.e c.args.text.now H c.args.given g.0 g.1 (sym c.is_number.ensures ∙ c.if-is_number.false) c.if-end-start.false c.if-text-end.true

pub returns : goal.returns
returns c m H =
    let g = c.requires.given_value in
    put_part m c.args.e c.args.text.now H c.args.given g.0 g.1 _ _ c.args.at _ (sym c.is_number.ensures ∙ c.if-is_number.false) c.if-end-start.false c.if-text-end.false c.put_bytes_value.ensures
