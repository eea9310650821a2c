-- `row`: the digits so far are digits, and v is what they are worth.
use Rattle.std.proofs.Common.{◌≡◌, ℕ, ◌+◌, ◌-◌, ◌%◌, ◌^◌, ◌<◌, arith, rules, below_more}
use Rattle.octets.specs.code.Leaf.{digit_limit}
use Rattle.octets.proofs.Lists.{value_more, pow_more, few_digits}
use Rattle.octets.proofs.Numerals.{above_zero, not_above}
use Rattle.octets.proofs.numbers.row.Goals as goal

-- what a byte is above `0`, and back
back : (b : ℕ) → b < 256 → ((b + 208) % 256 + 48) % 2 ^ 8 ≡ b
back b h = omega arith

pub returns-then-d-gt9 : goal.returns-then-d-gt9
returns-then-d-gt9 c =
    let l = c.loop-c in
    let h = few_digits digit_limit l.c l.v (omega arith) l.invariant.1.1 in
    record {
      within = omega arith;
      few = omega arith;
      digits = l.invariant.0;
      worth = l.invariant.1.0;
      small = h;
      stop = λ m k. not_above _ _ (back _ (omega (arith, c.type_inv.s (c.args.at + l.c)))) (omega arith) c.if-d-gt9.true;
    }

pub overflow_mul-v : goal.overflow_mul-v
overflow_mul-v c = let l = c.loop-c in omega (arith, few_digits (digit_limit - 1) l.c l.v (omega arith) l.invariant.1.1)

pub overflow_add-v : goal.overflow_add-v
overflow_add-v c = let l = c.loop-c in omega (arith, few_digits (digit_limit - 1) l.c l.v (omega arith) l.invariant.1.1)

pub loop-c-preserved : goal.loop-c-preserved
loop-c-preserved c =
    let l = c.loop-c in
    let a = c.args in
    let D = above_zero _ _ (back _ (omega (arith, c.type_inv.s (a.at + l.c)))) c.if-d-gt9.false in (
      below_more _ _ l.invariant.0 D.0,
      (
        cc (value_more a.s.now a.at l.c (omega arith), D.1),
        omega (arith, pow_more 10 l.c),
      ),
    )

pub returns : goal.returns
returns c = let l = c.loop-c in let h = few_digits digit_limit l.c l.v (omega arith) l.invariant.1.1 in search rules
