-- What holds of a value that is fit, and of one that is not.
use Prim.Native.Nat.{ℕ, ◌≤◌, ◌<◌}
use native.Mathlib.Omega.{arith}
use mathlib.Core.Path.{◌≡◌, refl}
use mathlib.Core.Bool.{Bool, true, false, not, ◌||◌, false≢true}
use lib.Dec.{eqb}
use lib.ListN.{length}
use borrow.Author.Tests.{not-false, leb-true}
use Rattle.octets.specs.Bytes.{Bytes, has, within, value, decimal}
use Rattle.octets.proofs.Tests.{neither}
use Rattle.octets.proofs.Numerals.{within_is}
use Rattle.octets.proofs.Decimals.{decimal-worth}
use Rattle.kinds.specs.Kind.{Kind, text, number◌to◌, Y/N, time, day, among, formed, allowed}
use Rattle.kinds.specs.Kind as Kinds
use Rattle.table.specs.declared.MsgType.{MsgType}
use Rattle.table.specs.Dictionary.{rows_of, listed, kind_in}
use Rattle.writer.specs.Tags.{is_numeric}
use Rattle.writer.specs.code.Held.{nine_digits}
use Rattle.message.specs.Unfit.{rejected}
use Rattle.message.specs.code.Writable.{most, as_read, unwritten}
use Rattle.message.proofs.Accepted.{kind_length}

-- A VALUE OF A KIND
-- a value that is written is no longer than its kind allows
pub written-short : (k : Kind) (v : Bytes) → unwritten k v ≡ false → length v ≤ most as_read k
unfolding unwritten
written-short k v h =
    let a = neither _ (not (allowed k v)) h in
    let b = neither (eqb (length v) 0 || has v 1) (not (formed k v)) a.0 in
    kind_length k v (not-false _ b.1) (not-false _ a.1)

-- a number above 999,999,999 is none of its kind
pub unwritten_large : (k : Kind) (n : ℕ) → is_numeric k ≡ true → nine_digits k ≡ true → 999_999_999 < n → unwritten k (decimal n) ≡ true
unfolding unwritten allowed
unwritten_large (text l) n i d h = absurd (false≢true i)
unwritten_large (number a to b) n i d h = go (eqb (length (decimal n)) 0 || has (decimal n) 1 || not (formed (number a to b) (decimal n))) (within a b (value (decimal n))) refl
  where
    go : (x y : Bool) → within a b (value (decimal n)) ≡ y → (x || not y) ≡ true
    go x true e = absurd (omega (arith, (within_is a b (value (decimal n)) e).1, leb-true b 999_999_999 d, decimal-worth n))
    go true false e = refl
    go false false e = refl
unwritten_large Y/N n i d h = absurd (false≢true i)
unwritten_large time n i d h = absurd (false≢true i)
unwritten_large day n i d h = absurd (false≢true i)
unwritten_large Kinds.decimal n i d h = absurd (false≢true i)
unwritten_large (among l) n i d h = absurd (false≢true i)

-- IN A MESSAGE that has the tag
pub rejected_is : (m : MsgType) (t : ℕ) (v : Bytes) {k : Kind} → listed (rows_of m) t ≡ true → k ≡ kind_in (rows_of m) t → rejected m t v ≡ unwritten k v
unfolding rejected unwritten
rejected_is m t v l e = rw (l, e)

-- in one that has not
pub rejected_other : (m : MsgType) (t : ℕ) (v : Bytes) → listed (rows_of m) t ≡ false → rejected m t v ≡ true
unfolding rejected
rejected_other m t v l = rw l
