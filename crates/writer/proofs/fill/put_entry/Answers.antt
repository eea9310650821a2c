-- `put_entry`: a value for a tag that the message has not.
use borrow.Author.Tests.{not-true}
use Rattle.writer.proofs.Entries.{not_own}
use Rattle.writer.proofs.fill.put_entry.Goals as goal

pub returns-then-not-e : goal.returns-then-not-e
returns-then-not-e c m H = not_own m c.args.e c.args.text.now H c.in-Some.given c.in-Some.is (not-true _ c.if-not-e.true)
