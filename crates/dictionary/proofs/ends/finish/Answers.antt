-- The end of the body: rule 1, the header's missing tags, the message's.
use Rattle.std.proofs.lemmas.Result.{err_from_is_err_and}
use Rattle.dictionary.proofs.Unmet.{lacks}
use Rattle.dictionary.proofs.Walking.{finish_closing, finish_header, finish_own}
use Rattle.dictionary.proofs.ends.finish.Goals as goal

pub returns-in_err-closing_all : goal.returns-in_err-closing_all
returns-in_err-closing_all c =
    let p = err_from_is_err_and c.from_residual.result c.from_residual.ensures.1 in
    rw (p.1, p.2)
    (finish_closing c.closing_all.ensures c.in_err-closing_all.was)

pub returns-in_err-missing : goal.returns-in_err-missing
returns-in_err-missing c =
    let p = err_from_is_err_and c.from_residual-in_err-missing.result c.from_residual-in_err-missing.ensures.1 in
    rw (p.1, p.2)
    (finish_header c.closing_all.ensures c.in_ok-closing_all.was (rw c.missing.ensures (lacks _ c.lacking_header.ensures)) c.in_err-missing.was)

pub returns : goal.returns
returns c = finish_own c.closing_all.ensures c.in_ok-closing_all.was (rw c.missing.ensures (lacks _ c.lacking_header.ensures)) c.in_ok-missing.was (rw c.missing-2.ensures (lacks _ c.lacking_own.ensures))
