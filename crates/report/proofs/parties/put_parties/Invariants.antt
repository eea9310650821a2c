-- `put_parties`: the count, and i of the parties behind it.
use Rattle.std.specs.Prelude.{◌+◌, ◌*◌, ◌≤◌, ◌≡◌, length, Some}
use Rattle.report.specs.Values.{members}
use Rattle.report.specs.Layout.{parties_from}
use Rattle.report.specs.code.Puts.{Puts}
use Rattle.report.proofs.parties.put_parties.Given as goal

abbrev pub invariant-loop-i : goal.invariant-loop-i
invariant-loop-i l = record {
  long : length l.body ≡ length l.initial.body;
  within : l.to ≤ l.initial.to + 50 * l.i;
  puts : Puts l.initial.body l.body l.initial.to (Some l.to) (members (parties_from l.given.words.now l.given.text.now 0 l.i));
}
