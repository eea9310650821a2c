-- What the code reads of a body is what the rules read of it: a number, N, the type, a time.
-- Assumes nothing.
use Prim.Native.Nat.{ℕ}
use mathlib.Core.Path.{◌≡◌, refl, sym, ap, ◌∙◌}
use mathlib.Core.Bool.{Bool, true, false, cond, not}
use mathlib.Core.Option as Math
use Rattle.std.specs.Prelude.{Option, Some, None, is_some, Result, Ok, Err}
use Rattle.std.specs.Result.{result_eq}
use Rattle.octets.specs.Bytes.{Bytes}
use Rattle.fields.specs.Field.{first_field}
use Rattle.calendar.specs.Later.{is_readable, moment_of, read_time}
use Rattle.calendar.specs.declared.moments.Moment.{Moment}
use Rattle.moves.specs.Words.{speaks, ◌when◌}
use Rattle.moves.specs.Session.{Session}
use Rattle.moves.specs.Seen.{number_in, moment_in}
use Rattle.moves.specs.Moves.{#, N, readable}
use Rattle.moves.specs.code.Reads.{ReadIn, NumberIn, told, time_by, time_in}
use Rattle.moves.specs.declared.times.NoTime.{NoTime}
use Rattle.moves.specs.declared.times.NoTime.TheVariants.{Missing, Bad}

-- WHAT IS TOLD is there
pub told_some : {A : Type 0} (o : Math.Option A) {k : Option A} {a : A} → k ≡ told o → k ≡ Some a → o ≡ Math.some a
told_some (Math.some b) e f = let z = sym e ∙ f in cc
told_some Math.none e f = let z = sym e ∙ f in cc

pub told_none : {A : Type 0} (o : Math.Option A) {k : Option A} → k ≡ told o → k ≡ None → o ≡ Math.none
told_none (Math.some b) e f = let z = sym e ∙ f in cc
told_none Math.none e f = refl

pub told_speaks : {A : Type 0} (o : Math.Option A) {k : Option A} → k ≡ told o → is_some k ≡ speaks o
told_speaks (Math.some b) e = rw e
told_speaks Math.none e = rw e

-- A NUMBER that was read is the one that the rules read
pub hash : (s : Session) {t : ℕ} {body : Bytes} {n : ℕ} → NumberIn 0 t body n → n ≡ # s body t
unfolding #
hash s R = R.is

module _ (s : Session) {body : Bytes} {o : Option ℕ} (R : ReadIn 1 34 body o) where
  pub read_N : {n : ℕ} → o ≡ Some n → readable s body ≡ Math.some n
  unfolding readable
  read_N e = told_some (number_in 1 999_999_999 (first_field 34 body)) R.is e

  pub is_N : {n : ℕ} → o ≡ Some n → n ≡ N s body
  is_N e = rw (read_N e)

  pub unread_N : o ≡ None → readable s body ≡ Math.none
  unfolding readable
  unread_N e = told_none (number_in 1 999_999_999 (first_field 34 body)) R.is e

-- A TIME: whether it is there, and its moment
abbrev pub is_there : Result Moment NoTime → Bool
is_there (Ok a) = true
is_there (Err Missing) = false
is_there (Err Bad) = true

abbrev pub moment_by : Result Moment NoTime → Math.Option Moment
moment_by (Ok a) = Math.some a
moment_by (Err e) = Math.none

there_is : (o : Math.Option Bytes) → speaks o ≡ is_there (time_in o)
there_is Math.none = refl
there_is (Math.some v) = go (read_time v)
  where
    go : (x : Option Moment) → true ≡ is_there (time_by x)
    go (Some a) = refl
    go None = refl

moment_is : (o : Math.Option Bytes) → moment_in o ≡ moment_by (time_in o)
unfolding read_time
moment_is Math.none = refl
moment_is (Math.some v) = go (is_readable v)
  where
    go : (b : Bool) → moment_of v when b ≡ moment_by (time_by (cond b (Some (moment_of v)) None))
    go true = refl
    go false = refl

module _ (o : Math.Option Bytes) {x : Result Moment NoTime} (e : x ≡ time_in o) where
  pub speaks_by : {b : Bool} → is_there x ≡ b → speaks o ≡ b
  speaks_by q = there_is o ∙ ap is_there (sym e) ∙ q

  pub moment_was : {a : Math.Option Moment} → moment_by x ≡ a → moment_in o ≡ a
  moment_was q = moment_is o ∙ ap moment_by (sym e) ∙ q

-- whether a time is missing, by a test of two reasons
pub by_missing : (F : Moment → Moment → Bool) (E : NoTime → NoTime → Bool) (x : Result Moment NoTime) {b : Bool} → E Missing Missing ≡ true → E Bad Missing ≡ false → b ≡ result_eq F E x (Err Missing) → is_there x ≡ not b
by_missing F E (Ok a) j k e = rw e refl
by_missing F E (Err Missing) j k e = rw (e, j) refl
by_missing F E (Err Bad) j k e = rw (e, k) refl
