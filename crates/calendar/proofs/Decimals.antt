-- Times with no, three or six decimals: zeros behind a time keep its moment, and a time with six decimals is what its moment writes.
use native.Mathlib.Omega.{arith}
use mathlib.Core.Path.{◌≡◌, refl, sym, ap, ◌∙◌, subst}
use mathlib.Core.List.{◌++◌}
use mathlib.Core.Bool.{true, or-true}
use lib.ListN.{length}
use lib.Seq.{take_all}
use Rattle.octets.specs.Bytes.{Bytes, fix}
use Rattle.octets.proofs.Tests.{both, both_true}
use Rattle.dates.specs.Date.{like, good_day, good_clock, number_at}
use Rattle.dates.proofs.Shapes.{bytes_from, bytes_are, like-length}
use Rattle.dates.proofs.Stamps.{by_shape}
use Rattle.kinds.specs.Kind.{time, formed, allowed}
use Rattle.calendar.specs.declared.moments.Moment.{Moment}
use Rattle.calendar.specs.Later.{decimals, is_readable, moment_of}
use Rattle.calendar.specs.Promise.{with_six}
use Rattle.calendar.proofs.Named.{written, shaped}
use Rattle.calendar.proofs.Timed.{seconds, six_are}

-- THE THREE SHAPES
abbrev three : Bytes
three = fix "YYYYMMDD-HH:MM:SS.sss"

abbrev six : Bytes
six = fix "YYYYMMDD-HH:MM:SS.ssssss"

readable_shape : (v : Bytes) {P : Type 0} → is_readable v ≡ true → (like seconds v ≡ true → P) → (like three v ≡ true → P) → (like six v ≡ true → P) → P
unfolding formed
readable_shape v h = by_shape v (both (formed time v) (allowed time v) h).0

three-formed : (v : Bytes) → like three v ≡ true → formed time v ≡ true
unfolding formed
three-formed v h = rw (h, or-true (like seconds v))

six_formed : (v : Bytes) → like six v ≡ true → formed time v ≡ true
unfolding formed
six_formed v h = rw (h, or-true (like three v), or-true (like seconds v))

-- a fact about the bytes of a time, each by itself: there it computes
by_bytes : (s : Bytes) (P : Bytes → Type 0) (v : Bytes) → like s v ≡ true → (like s (bytes_from 0 (length s) v) ≡ true → P (bytes_from 0 (length s) v)) → P v
by_bytes s P v h f =
    let n = like-length s v h in
    let e : bytes_from 0 (length s) v ≡ v = sym (bytes_are 0 (length s) v (omega arith)) ∙ take_all (length s) v (omega arith) in
    subst P e (f (subst (λ (l : Bytes). like s l ≡ true) (sym e) h))

-- ZEROS BEHIND A TIME v make the time u, of the shape s
pub record Longer (s v u : Bytes) : Type 0 where
  pub shape : like s u ≡ true
  pub value : allowed time u ≡ allowed time v
  pub moment : moment_of u ≡ moment_of v

plain-three : (v : Bytes) → like seconds v ≡ true → Longer three v (v ++ fix ".000")
unfolding allowed good_day good_clock moment_of
plain-three v h = by_bytes seconds (λ l. Longer three l (l ++ fix ".000")) v h (λ k. record { shape = k; value = refl; moment = refl })

three_six : (v : Bytes) → like three v ≡ true → Longer six v (v ++ fix "000")
unfolding allowed good_day good_clock moment_of
three_six v h = by_bytes three (λ l. Longer six l (l ++ fix "000")) v h (λ k. record { shape = k; value = refl; moment = refl })

pub any_six : (v : Bytes) → is_readable v ≡ true → Longer six v (with_six v)
unfolding allowed good_day good_clock moment_of
any_six v h =
    readable_shape v h
    (λ s. by_bytes seconds (λ l. Longer six l (with_six l)) v s (λ k. record { shape = k; value = refl; moment = refl }))
    (λ s. by_bytes three (λ l. Longer six l (with_six l)) v s (λ k. record { shape = k; value = refl; moment = refl }))
    (λ s. by_bytes six (λ l. Longer six l (with_six l)) v s (λ k. record { shape = k; value = refl; moment = refl }))

pub longer-allowed : {s v u : Bytes} → Longer s v u → is_readable v ≡ true → allowed time u ≡ true
longer-allowed {s} {v} L h = L.value ∙ (both (formed time v) (allowed time v) h).1

pub no_decimals : (v : Bytes) → like seconds v ≡ true → is_readable v ≡ true → (is_readable (v ++ fix ".000") ≡ true) × (moment_of (v ++ fix ".000") ≡ moment_of v)
no_decimals v s h = let L = plain-three v s in (both_true _ _ (three-formed _ L.shape) (longer-allowed L h), L.moment)

pub three_decimals : (v : Bytes) → like three v ≡ true → is_readable v ≡ true → (is_readable (v ++ fix "000") ≡ true) × (moment_of (v ++ fix "000") ≡ moment_of v)
three_decimals v s h = let L = three_six v s in (both_true _ _ (six_formed _ L.shape) (longer-allowed L h), L.moment)

pub six_decimals : (v : Bytes) → is_readable v ≡ true → (is_readable (with_six v) ≡ true) × (moment_of (with_six v) ≡ moment_of v)
six_decimals v h = let L = any_six v h in (both_true _ _ (six_formed _ L.shape) (longer-allowed L h), L.moment)

-- ONE TEXT for a moment
pub micros_are : (v : Bytes) → like six v ≡ true → decimals v ≡ number_at 18 6 v
micros_are v h = sym (six_are v (like-length six v h))

abbrev text_of : Moment → Bytes
text_of a = written a.year a.month a.day a.hour a.minute a.second a.micros

moment-writes : (v : Bytes) → like six v ≡ true → text_of (moment_of v) ≡ v
unfolding moment_of
moment-writes v h = rw (micros_are v h) (sym (shaped v h).is)

pub one_text : (v w : Bytes) → is_readable v ≡ true → is_readable w ≡ true → moment_of v ≡ moment_of w → with_six v ≡ with_six w
one_text v w h k e =
    let L = any_six v h in
    let M = any_six w k in
    sym (moment-writes (with_six v) L.shape) ∙ ap text_of (L.moment ∙ e ∙ sym M.moment) ∙ moment-writes (with_six w) M.shape
