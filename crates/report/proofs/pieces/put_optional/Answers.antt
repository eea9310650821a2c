-- `put_optional`: nothing, or the field.
use Rattle.kinds.specs.Judged.{meaning}
use Rattle.report.proofs.Offered.{optional_put, optional_absent}
use Rattle.report.proofs.pieces.put_optional.Goals as goal

pub returns-then-given-k-eq0-clause-bytes : goal.returns-then-given-k-eq0-clause-bytes
returns-then-given-k-eq0-clause-bytes c = λ O. optional_absent c.args.given.words.now c.args.given.text.now c.args.k c.args.tag (meaning c.args.kind) O c.if-given-k-eq0.true

pub returns-clause-bytes : goal.returns-clause-bytes
returns-clause-bytes c = λ O. optional_put c.args.given.words.now c.args.given.text.now c.args.k c.args.tag c.if-given-k-eq0.false (c.put_value.ensures.bytes O.has)
