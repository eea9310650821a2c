-- A gap that was asked for at a time t: a frame within 10 seconds does not ask for it again, and one that comes later, or before t, does.
-- Assumes nothing.
use Prim.Native.Nat.{ℕ, ◌-◌}
use native.Mathlib.Omega.{arith}
use mathlib.Core.Path.{◌≡◌, ◌∙◌}
use mathlib.Core.Logic.{inl, inr}
use mathlib.Core.Bool.{true, false}
use lib.Dec.{leb, ltb}
use borrow.Author.Tests.{lt-ltb, le-ltb, le-leb, lt-leb, eq-eqb}
use Rattle.octets.proofs.Tests.{or_last}
use Rattle.gap.specs.Gap.{Gap, re_ask, passed, asks}
use Rattle.requests.specs.Requests.{Within, Passed}

-- open, for E, asked for at the time t
pub record AskedAt (t E : ℕ) (g : Gap) : Type 0 where
  pub is_open : g.is_open ≡ 1
  pub for_E : g.for ≡ E
  pub at : g.asked ≡ t

not_passed : (t t' : ℕ) → Within t t' → passed t t' ≡ false
unfolding passed
not_passed t t' w =
    let l = w.0 in
    let h = w.1 in
    rw (le-ltb t' t l, lt-leb re_ask (t' - t) (omega (arith, l, h)))

is_passed : (t t' : ℕ) → Passed t t' → passed t t' ≡ true
unfolding passed
is_passed t t' (inl l) = rw (lt-ltb t' t l)
is_passed t t' (inr l) = or_last (ltb t' t) (leb re_ask (t' - t)) (le-leb re_ask (t' - t) (omega (arith, l)))

module _ (t t' E : ℕ) (g : Gap) (A : AskedAt t E g) where
  by_time : asks t' E g ≡ passed t t'
  unfolding asks
  by_time = rw (eq-eqb g.is_open 1 A.is_open, eq-eqb g.for E A.for_E, A.at)

  pub asks_not : Within t t' → asks t' E g ≡ false
  asks_not w = by_time ∙ not_passed t t' w

  pub asks_again : Passed t t' → asks t' E g ≡ true
  asks_again p = by_time ∙ is_passed t t' p
