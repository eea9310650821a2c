-- How the code holds a gap: the same four numbers.
use Rattle.gap.specs.Gap.{Gap}
use Rattle.gap.specs.declared.Gap as Code

abbrev pub gap_of : Code.Gap → Gap
gap_of g = record { is_open = g.isOpen; for = g.expected; highest = g.highest; asked = g.asked }

abbrev pub held_gap : Gap → Code.Gap
held_gap g = record { isOpen = g.is_open; expected = g.for; highest = g.highest; asked = g.asked }
