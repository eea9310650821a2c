-- `put_number_value`: a number's digits, judged as any other value.
use native.Mathlib.Omega.{arith}
use mathlib.Core.Path.{sym, subst}
use lib.Seq.{length-take-le}
use Rattle.octets.specs.Bytes.{Bytes}
use Rattle.kinds.specs.Judged.{meaning}
use Rattle.writer.specs.code.Held.{PutText}
use Rattle.message.proofs.Writes.{front_of, few_digits}
use Rattle.writer.proofs.Fitness.{unwritten_large}
use Rattle.writer.proofs.fill.put_number_value.Goals as goal

pub returns-then-n-gt999999999 : goal.returns-then-n-gt999999999
returns-then-n-gt999999999 c = unwritten_large _ _ c.requires.2 c.requires.3 c.if-n-gt999999999.true

pub put_decimal-k-requires : goal.put_decimal-k-requires
put_decimal-k-requires c = omega (arith, few_digits 8 c.args.n (omega arith))

pub slice_bounds-digits-end : goal.slice_bounds-digits-end
slice_bounds-digits-end c = omega (arith, few_digits 8 c.args.n (omega arith))

pub slice_bounds-put_bytes_value-end : goal.slice_bounds-put_bytes_value-end
slice_bounds-put_bytes_value-end c =
    let p = c.put_decimal-k in
    sym (length-take-le p.result p.new.buf (omega (arith, few_digits 8 c.args.n (omega arith))))

pub returns : goal.returns
returns c =
    let p = c.put_decimal-k in
    let e = front_of p.ensures (omega (arith, few_digits 8 c.args.n (omega arith))) in
    let q = c.put_bytes_value in
    subst (λ (v : Bytes). PutText (meaning c.args.kind) c.args.tag v c.args.buf.now q.new.buf c.args.at q.result) e q.ensures
