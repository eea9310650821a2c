-- `fixgw_write`: the case of the writer's answer, in words.
use Rattle.gateway.proofs.Calls.{write-left, write-refused}
use Rattle.gateway.proofs.writing.fixgw_write.Goals as goal

pub returns-in-Ok : goal.returns-in-Ok
returns-in-Ok c =
    let a = c.args in
    write-left a.code.now a.values.now a.text.now a.buf.now c.values_of.ensures c.write.ensures c.in-Ok.is

pub returns-in-Err : goal.returns-in-Err
returns-in-Err c =
    let a = c.args in
    write-refused a.code.now a.values.now a.text.now a.buf.now c.in-Err.e c.values_of.ensures c.write.ensures c.in-Err.is
