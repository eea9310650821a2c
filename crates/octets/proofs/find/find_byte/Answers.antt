-- `find_byte`: x stands nowhere in what was stepped over.
use Rattle.std.proofs.Common.{◌≡◌, ℕ, ◌+◌, ◌<◌, ◌≤◌, get_or, arith}
use Rattle.octets.specs.Bytes.{Bytes}
use Rattle.octets.specs.code.Leaf.{CalmTo}
use Rattle.octets.proofs.Search.{none_further, none_to_end, first-further, free_tail}
use Rattle.octets.proofs.find.find_byte.Goals as goal

-- sixteen bytes without x, then three times as far as it goes
calm_all : (s : Bytes) (a e x b c d : ℕ) → ((k : ℕ) → k < 16 → get_or s (a + k) 0 ≡ x → ⊥) → CalmTo s (a + 16) e x b → CalmTo s b e x c → CalmTo s c e x d
    → (q : ℕ) → q < d → a ≤ q → get_or s q 0 ≡ x → ⊥
calm_all s a e x b c d f B C D =
    none_to_end s a c d x
    (none_to_end s a b c x (none_to_end s a (a + 16) b x (none_further s a a 16 x (λ q h k. absurd (omega arith)) f) B.none) C.none)
    D.none

pub returns-then-e-a-lt16 : goal.returns-then-e-a-lt16
returns-then-e-a-lt16 c = c.byte_from.ensures

pub returns-then-not-calm : goal.returns-then-not-calm
returns-then-not-calm c = c.byte_from-then-not-calm.ensures

pub returns-then-e-d-ge16 : goal.returns-then-e-d-ge16
returns-then-e-d-ge16 c =
    let a = c.args in
    let none = calm_all a.s.now a.a a.e a.x _ _ _ (c.calm.ensures c.if-not-calm.false) c.calm_to-b.ensures c.calm_to-c.ensures c.calm_to-d.ensures in
    first-further a.s.now a.a c.calm_to-d.result a.e a.x _ (omega (arith, c.calm_to-b.ensures.low, c.calm_to-c.ensures.low, c.calm_to-d.ensures.low)) none c.byte_from-then-e-d-ge16.ensures

pub returns-then-calm : goal.returns-then-calm
returns-then-calm c =
    let a = c.args in
    let none = calm_all a.s.now a.a a.e a.x _ _ _ (c.calm.ensures c.if-not-calm.false) c.calm_to-b.ensures c.calm_to-c.ensures c.calm_to-d.ensures in
    let tail = free_tail a.s.now c.calm_to-d.result a.e 16 a.x (omega arith) (omega arith) (c.calm-2.ensures c.if-calm.true) in
    record { low = omega arith; high = omega arith; none = none_to_end a.s.now a.a c.calm_to-d.result a.e a.x none tail; found = λ h. absurd (omega arith) }

pub returns : goal.returns
returns c =
    let a = c.args in
    let none = calm_all a.s.now a.a a.e a.x _ _ _ (c.calm.ensures c.if-not-calm.false) c.calm_to-b.ensures c.calm_to-c.ensures c.calm_to-d.ensures in
    first-further a.s.now a.a c.calm_to-d.result a.e a.x _ (omega (arith, c.calm_to-b.ensures.low, c.calm_to-c.ensures.low, c.calm_to-d.ensures.low)) none c.byte_from-2.ensures
