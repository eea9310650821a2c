-- `put_needed`: a value that is not given is empty.
use Rattle.kinds.specs.Judged.{meaning}
use Rattle.report.proofs.Offered.{needed_put, needed_absent}
use Rattle.report.proofs.pieces.put_needed.Goals as goal

pub returns-then-given-k-eq0-clause-bytes : goal.returns-then-given-k-eq0-clause-bytes
returns-then-given-k-eq0-clause-bytes c = λ H. needed_absent c.args.given.words.now c.args.given.text.now c.args.k c.args.tag (meaning c.args.kind) H c.if-given-k-eq0.true

pub returns-clause-bytes : goal.returns-clause-bytes
returns-clause-bytes c = λ H. needed_put c.args.given.words.now c.args.given.text.now c.args.k c.args.tag c.if-given-k-eq0.false (c.put_value.ensures.bytes H)
