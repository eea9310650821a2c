-- A field is a part of a party, or may be one of the eleven.
use native.Mathlib.Omega.{arith}
use mathlib.Core.Path.{◌≡◌, sym, ap, ◌∙◌}
use Rattle.readback.specs.code.Pass.{part_tag, a_part, a_value}
use Rattle.readback.proofs.noting.note.Goals as goal
use Rattle.readback.proofs.noting.note.Goals.{in-448, in-447, in-452}

pub returns-in_default : goal.returns-in_default
returns-in_default c = a_value (λ e. omega arith) (λ e. omega arith) (λ e. omega arith) c.note_value.ensures

pub returns : goal.returns
returns c =
    let t = c.args.tag in
    elim c.match-tag.branch [
      | in-448 w ↦ let e : t ≡ 448 = omega arith in a_part (omega (arith, w.j-is)) (e ∙ ap part_tag (sym w.j-is)) c.note_part.ensures
      | in-447 w ↦ let e : t ≡ 447 = omega arith in a_part (omega (arith, w.j-is)) (e ∙ ap part_tag (sym w.j-is)) c.note_part.ensures
      | in-452 w ↦ let e : t ≡ 452 = omega arith in a_part (omega (arith, w.j-is)) (e ∙ ap part_tag (sym w.j-is)) c.note_part.ensures
    ]
