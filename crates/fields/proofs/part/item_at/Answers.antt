-- `item_at`: at each `return` the tests that led there say which item it is.
use borrow.Author.Rules.{rules}
use native.Mathlib.Omega.{arith}
use borrow.Author.Tests.{le-leb}
use Rattle.fields.specs.Item.{item_at}
use Rattle.octets.proofs.Numerals.{read_below}
use Rattle.fields.proofs.Items.{field_item, malformed_item}
use Rattle.fields.proofs.part.item_at.Goals as goal
use Rattle.fields.proofs.part.item_at.Goals.{then-mark-at-via-then-mark-at, then-mark-at-via-else-mark-at+then-mark-end, then-mark-at-via-else-mark-at+else-mark-end+then-body-mark-ne61}

pub returns-then-body-at : goal.returns-then-body-at
unfolding item_at
returns-then-body-at c = record { is = rw (le-leb _ _ c.if-body-at.true); lies = c.if-body-at.true }

pub overflow_cast-tag : goal.overflow_cast-tag
overflow_cast-tag c = omega (arith, read_below _ _ _ _ _ (c.digits-read.ensures.inside (omega arith) (omega arith)))

pub overflow_add-mark : goal.overflow_add-mark
overflow_add-mark c = let N = c.digits-read.ensures.inside (omega arith) (omega arith) in search rules

pub value_end-end-requires : goal.value_end-end-requires
value_end-end-requires c = let N = c.digits-read.ensures.inside (omega arith) (omega arith) in search rules

pub returns-then-mark-at : goal.returns-then-mark-at
returns-then-mark-at c =
    let whole = malformed_item _ _ _ _ _ (c.digits-read.ensures.inside (omega arith) (omega arith)) c.value_end-end.ensures c.if-body-at.false in
    elim c.then-mark-at.branch [
      | then-mark-at-via-then-mark-at w ↦ whole (λ some_digit m e z. omega arith)
      | then-mark-at-via-else-mark-at+then-mark-end w ↦ whole (λ some_digit m e z. m w.if-mark-end.true)
      | then-mark-at-via-else-mark-at+else-mark-end+then-body-mark-ne61 w ↦ whole (λ some_digit m e z. w.if-body-mark-ne61.true e)
    ]

pub returns-then-body-at-eq48 : goal.returns-then-body-at-eq48
returns-then-body-at-eq48 c =
    malformed_item _ _ _ _ _ (c.digits-read.ensures.inside (omega arith) (omega arith)) c.value_end-end.ensures c.if-body-at.false (λ some_digit m e z. z c.if-body-at-eq48.true)

pub returns : goal.returns
returns c =
    field_item _ _ _ _ _ (c.digits-read.ensures.inside (omega arith) (omega arith)) c.value_end-end.ensures c.if-body-at.false (omega arith) c.if-mark-end.false c.if-body-mark-ne61.false c.if-body-at-eq48.false
