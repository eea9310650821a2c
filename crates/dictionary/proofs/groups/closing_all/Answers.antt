-- Where a group is open, or none.
use Rattle.dictionary.proofs.Ending.{closes_none, closes_one}
use Rattle.dictionary.proofs.groups.closing_all.Goals as goal

pub returns-in_default : goal.returns-in_default
returns-in_default c = closes_none c.in_default.is

pub returns : goal.returns
returns c = closes_one c.in-Some.is c.closing.ensures
