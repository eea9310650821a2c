-- `write`: another type, an unfit value, or the frame around the body.
use borrow.Author.Rules.{rules}
use native.Mathlib.Omega.{arith}
use mathlib.Core.Path.{sym, ap, ◌∙◌}
use lib.ListN.{length}
use lib.Seq.{length-take-le}
use Rattle.writer.specs.Call.{value_in}
use Rattle.table.specs.Dictionary.{type_is}
use Rattle.message.proofs.Writes.{front_of}
use Rattle.writer.proofs.Named.{named_by}
use Rattle.writer.proofs.Calls.{body-told, other_type, unfit_values, fit_values}
use Rattle.writer.proofs.write.Goals as goal

pub returns-in_default : goal.returns-in_default
returns-in_default c =
    let a = c.admin_of in
    other_type c.args.code.now c.args.values.now c.args.text.now c.args.buf.now a.result a.ensures c.in_default.is

pub put_body-requires : goal.put_body-requires
put_body-requires c =
    let a = c.admin_of in
    let N = named_by c.args.code.now c.in-Some.m (sym (ap type_is c.in-Some.is) ∙ a.ensures) in
    (N.administers, N.coded, search rules)

pub returns-in_default-put_body : goal.returns-in_default-put_body
returns-in_default-put_body c =
    let a = c.admin_of in
    let p = c.put_body in
    let vs = value_in c.args.values.now c.args.text.now in
    let f = body-told c.in_default-put_body.is c.in-Some.m vs _ p.new.body p.ensures in
    unfit_values c.args.code.now c.args.values.now c.args.text.now c.args.buf.now a.result a.ensures c.in-Some.m c.in-Some.is f

pub slice_bounds-body-end : goal.slice_bounds-body-end
slice_bounds-body-end c =
    let a = c.admin_of in
    let p = c.put_body in
    let f = body-told c.in-Some-put_body.is c.in-Some.m (value_in c.args.values.now c.args.text.now) _ p.new.body p.ensures in
    omega (arith, f.1, p.auto)

pub slice_bounds-put_message-end : goal.slice_bounds-put_message-end
slice_bounds-put_message-end c =
    let a = c.admin_of in
    let p = c.put_body in
    let f = body-told c.in-Some-put_body.is c.in-Some.m (value_in c.args.values.now c.args.text.now) _ p.new.body p.ensures in
    sym (length-take-le _ p.new.body (omega (arith, f.1, p.auto)))

pub put_message-requires : goal.put_message-requires
put_message-requires c =
    let a = c.admin_of in
    let p = c.put_body in
    let f = body-told c.in-Some-put_body.is c.in-Some.m (value_in c.args.values.now c.args.text.now) _ p.new.body p.ensures in
    let e = front_of f.2 (omega (arith, f.1)) in
    omega (arith, ap length e, f.2.next, f.1)

pub returns : goal.returns
returns c =
    let a = c.admin_of in
    let p = c.put_body in
    let f = body-told c.in-Some-put_body.is c.in-Some.m (value_in c.args.values.now c.args.text.now) _ p.new.body p.ensures in
    fit_values c.args.code.now c.args.values.now c.args.text.now c.args.buf.now a.result a.ensures c.in-Some.m c.in-Some.is _ _ f.0 (front_of f.2 (omega (arith, f.1))) c.put_message.ensures
