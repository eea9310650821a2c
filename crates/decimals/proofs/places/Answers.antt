-- `places`: what stands behind the first digits is nothing, or a point and places.
use Rattle.decimals.proofs.Making.{whole_alone, no_point, other_places, no_places, with_places}
use Rattle.decimals.proofs.places.Goals as goal

pub returns-then-k-n : goal.returns-then-k-n
returns-then-k-n c = record { is = whole_alone c.requires c.if-k-n.true c.ranged.ensures }

pub returns-then-v-k-ne46 : goal.returns-then-v-k-ne46
returns-then-v-k-ne46 c = record { is = no_point c.requires c.if-k-n.false c.if-v-k-ne46.true }

pub returns-then-b-n : goal.returns-then-b-n
returns-then-b-n c = record { is = other_places c.requires c.if-k-n.false c.if-v-k-ne46.false c.row_of-b.ensures c.if-b-n.true }

pub returns-then-b-k : goal.returns-then-b-k
returns-then-b-k c = record { is = no_places c.requires c.if-k-n.false c.if-v-k-ne46.false c.row_of-b.ensures c.if-b-n.false c.if-b-k.true }

pub returns : goal.returns
returns c = record { is = with_places c.requires c.if-k-n.false c.if-v-k-ne46.false c.row_of-b.ensures c.if-b-n.false c.if-b-k.false c.ranged-2.ensures }
