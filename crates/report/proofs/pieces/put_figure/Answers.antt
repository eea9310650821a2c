-- `put_figure`: an amount in range.
use Rattle.std.proofs.Common.{[], arith}
use Rattle.report.proofs.Putting.{label_short}
use Rattle.report.proofs.Offered.{figure_put, figure_too_large, figure_too_fine, figure_absent}
use Rattle.report.proofs.pieces.put_figure.Goals as goal

pub returns-then-given-w-eq0-clause-bytes : goal.returns-then-given-w-eq0-clause-bytes
returns-then-given-w-eq0-clause-bytes c = λ H. figure_absent c.args.given.words.now [] c.args.k c.args.tag H c.if-given-w-eq0.true

pub returns-then-whole-gt999999999999999-clause-bytes : goal.returns-then-whole-gt999999999999999-clause-bytes
returns-then-whole-gt999999999999999-clause-bytes c = λ H. figure_too_large c.args.given.words.now [] c.args.k c.args.tag H c.if-given-w-eq0.false c.if-whole-gt999999999999999.true

pub returns-then-places-gt8-clause-bytes : goal.returns-then-places-gt8-clause-bytes
returns-then-places-gt8-clause-bytes c = λ H. figure_too_fine c.args.given.words.now [] c.args.k c.args.tag H c.if-given-w-eq0.false c.if-places-gt8.true

pub returns-clause-bytes : goal.returns-clause-bytes
returns-clause-bytes c = λ H. figure_put c.args.given.words.now [] c.args.k c.args.tag H c.if-given-w-eq0.false c.if-whole-gt999999999999999.false c.if-places-gt8.false c.put_tag-a.ensures.bytes c.put_amount-b.ensures.bytes c.put_byte.ensures

pub returns-clause-room : goal.returns-clause-room
returns-clause-room c = omega (arith, label_short c.args.tag c.requires.0, c.put_tag-a.ensures.bytes.next, c.put_amount-b.ensures.room, c.put_byte.ensures.next)
