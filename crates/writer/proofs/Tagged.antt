-- The tags of a call beside those of each message: those that the message lists are its own, in their order, and the values of the others are absent.
use Prim.Native.Nat.{ℕ, zero, suc, ◌≤◌}
use native.Mathlib.Omega.{arith}
use mathlib.Core.Path.{◌≡◌, refl, sym, ap, ◌∙◌}
use mathlib.Core.List.{List, [], ◌∷◌, ◌++◌}
use mathlib.Core.Bool.{Bool, true, false, cond, ◌&&◌, ◌||◌, false≢true}
use mathlib.Core.Option.{Option, none}
use lib.Dec.{eqb, leb}
use lib.ListN.{length, take}
use borrow.Author.Tests.{eqb-true, eq-eqb, leb-true}
use Rattle.octets.specs.Bytes.{Bytes, any, all, has, same, decimal}
use Rattle.octets.proofs.Tests.{both, or_last}
use Rattle.fields.specs.Field.{first_field}
use Rattle.kinds.specs.Kind.{kind_of}
use Rattle.kinds.proofs.Values.{same_true}
use Rattle.table.specs.declared.MsgType.{MsgType}
use Rattle.table.specs.Dictionary.{№453, №580, №552, header, fields, code35, administrative, groups_of, rows_of, listed}
use Rattle.message.specs.Message.{Value, shown, tagged, row, valued, own, order, message}
use Rattle.message.specs.Unfit.{unfit}
use Rattle.message.specs.code.Writable.{as_read}
use Rattle.message.specs.ReadsBack.{ReadsBack}
use Rattle.message.proofs.Seven.{each}
use Rattle.message.proofs.Sizes.{Fine, not_own, all_fine, width, widths, row_short, as_read_lem}
use Rattle.writer.specs.Tags.{tags}
use Rattle.writer.specs.Call.{refused8}

-- those of a list that pass
unfoldable pub filtered : (ℕ → Bool) → List ℕ → List ℕ
filtered p [] = []
filtered p (t ∷ ts) = cond (p t) (t ∷ filtered p ts) (filtered p ts)

pub filtered_has : (p : ℕ → Bool) (ts : List ℕ) (u : ℕ) → has (filtered p ts) u ≡ false → has ts u ≡ true → p u ≡ false
unfolding filtered
filtered_has p [] u h k = absurd (false≢true k)
filtered_has p (t ∷ ts) u h k = go (eqb t u) refl k (p t) refl h (filtered_has p ts u)
  where
    go : (b : Bool) → eqb t u ≡ b → (b || has ts u) ≡ true → (c : Bool) → p t ≡ c → has (cond c (t ∷ filtered p ts) (filtered p ts)) u ≡ false
        → (has (filtered p ts) u ≡ false → has ts u ≡ true → p u ≡ false) → p u ≡ false
    go true e g true x h f = absurd (false≢true (sym h ∙ rw e))
    go true e g false x h f = ap p (sym (eqb-true t u e)) ∙ x
    go false e g true x h f = f (sym (rw e) ∙ h) g
    go false e g false x h f = f h g

pub all_has : (p : ℕ → Bool) (ts : List ℕ) (u : ℕ) → all p ts ≡ true → has ts u ≡ true → p u ≡ true
all_has p [] u h k = absurd (false≢true k)
all_has p (t ∷ ts) u h k = let w = both (p t) (all p ts) h in go (eqb t u) refl k w.0 (all_has p ts u w.1)
  where
    go : (b : Bool) → eqb t u ≡ b → (b || has ts u) ≡ true → p t ≡ true → (has ts u ≡ true → p u ≡ true) → p u ≡ true
    go true e g x f = ap p (sym (eqb-true t u e)) ∙ x
    go false e g x f = f g

-- one test for both: every tag of a message is one of a call, and no other that the message lists
unfoldable pub well_tagged : MsgType → Bool
well_tagged m = all (has tags) (order m) && same (filtered (listed (rows_of m)) tags) (order m)

well_tagged_lem : (m : MsgType) → administrative m ≡ true → well_tagged m ≡ true
unfolding well_tagged filtered tags order own code35 header fields №453 №580 №552 groups_of rows_of
well_tagged_lem = each (λ m. well_tagged m ≡ true) (record { heartbeat = refl; test_request = refl; resend_request = refl; reject = refl; sequence_reset = refl; logout = refl; logon = refl })

pub record Tagged (m : MsgType) : Type 0 where
  pub given : all (has tags) (order m) ≡ true
  pub only : filtered (listed (rows_of m)) tags ≡ order m

pub its_tags : (m : MsgType) → administrative m ≡ true → Tagged m
unfolding well_tagged
its_tags m a =
    let w = both (all (has tags) (order m)) (same (filtered (listed (rows_of m)) tags) (order m)) (well_tagged_lem m a) in
    record { given = w.0; only = same_true (filtered (listed (rows_of m)) tags) (order m) w.1 }

-- WHAT A MESSAGE DOES NOT HAVE is absent
pub not_listed : (m : MsgType) → administrative m ≡ true → (t : ℕ) → has tags t ≡ true → has (order m) t ≡ false → listed (rows_of m) t ≡ false
not_listed m a t h k = filtered_has (listed (rows_of m)) tags t (ap (λ (ts : List ℕ). has ts t) (its_tags m a).only ∙ k) h

row_filtered : (p : ℕ → Bool) (vs : ℕ → Value) (ts : List ℕ) → ((t : ℕ) → has ts t ≡ true → p t ≡ false → shown (vs t) ≡ none)
    → row (valued vs ts) ≡ row (valued vs (filtered p ts))
unfolding filtered
row_filtered p vs [] f = refl
row_filtered p vs (t ∷ ts) f = go (p t) refl (row_filtered p vs ts (λ u h. f u (or_last (eqb t u) (has ts u) h)))
  where
    go : (b : Bool) → p t ≡ b → row (valued vs ts) ≡ row (valued vs (filtered p ts)) → tagged t (shown (vs t)) ++ row (valued vs ts) ≡ row (valued vs (cond b (t ∷ filtered p ts) (filtered p ts)))
    go true e r = ap (λ (l : Bytes). tagged t (shown (vs t)) ++ l) r
    go false e r = ap (λ (o : Option Bytes). tagged t o ++ row (valued vs ts)) (f t (rw (eq-eqb t t refl)) e) ∙ r

-- so the row of all values is the row of the message's
pub all_tags : (m : MsgType) → administrative m ≡ true → (vs : ℕ → Value) → Fine m vs tags → row (valued vs tags) ≡ row (valued vs (order m))
all_tags m a vs f =
    row_filtered (listed (rows_of m)) vs tags (λ t h l. not_own m t (shown (vs t)) (f t h) l) ∙ ap (λ (ts : List ℕ). row (valued vs ts)) (its_tags m a).only

-- HOW LONG the row of the first k values is
widths-short : (m : MsgType) → administrative m ≡ true → leb (widths as_read m tags) 497 ≡ true
unfolding width widths tags rows_of header fields groups_of №453 №580 №552 kind_of decimal
widths-short =
    each (λ m. leb (widths as_read m tags) 497 ≡ true)
    (record { heartbeat = refl; test_request = refl; resend_request = refl; reject = refl; sequence_reset = refl; logout = refl; logon = refl })

pub tags-short : (m : MsgType) → administrative m ≡ true → (vs : ℕ → Value) → Fine m vs tags → length (row (valued vs tags)) ≤ 497
tags-short m a vs f = omega (arith, row_short as_read m vs tags f (λ t h. as_read_lem m t (shown (vs t)) (f t h)), leb-true (widths as_read m tags) 497 (widths-short m a))

widths-first : (m : MsgType) (k : ℕ) (ts : List ℕ) → widths as_read m (take k ts) ≤ widths as_read m ts
unfolding widths
widths-first m zero ts = omega arith
widths-first m (suc k) [] = omega arith
widths-first m (suc k) (t ∷ ts) = omega (arith, widths-first m k ts)

pub first_short : (m : MsgType) → administrative m ≡ true → (vs : ℕ → Value) (k : ℕ) → any (unfit m) (valued vs (take k tags)) ≡ false → length (row (valued vs (take k tags))) ≤ 497
first_short m a vs k h =
    let f = all_fine m vs (take k tags) h in
    omega (arith, row_short as_read m vs (take k tags) f (λ t e. as_read_lem m t (shown (vs t)) (f t e)), widths-first m k tags, leb-true (widths as_read m tags) 497 (widths-short m a))

-- THE VALUES OF A CALL that is not refused
module _ (m : MsgType) (a : administrative m ≡ true) (vs : ℕ → Value) (ok : refused8 m vs ≡ false) where
  fine : Fine m vs tags
  unfolding refused8
  fine = all_fine m vs tags ok

  -- those of its message are fit
  pub order_fine : Fine m vs (order m)
  order_fine t h = fine t (all_has (has tags) (order m) t (its_tags m a).given h)

  -- and all of them are read back
  pub values_back : ReadsBack m vs → (t : ℕ) → has tags t ≡ true → first_field t (row (message m vs)) ≡ shown (vs t)
  unfolding tags
  values_back R t h = go (has (order m) t) refl
    where
      other : (b : Bool) → eqb 35 t ≡ b → has (order m) t ≡ false → (b || has (order m) t) ≡ false
      other true e k = absurd (false≢true (ap (has tags) (eqb-true 35 t e) ∙ h))
      other false e k = k

      go : (b : Bool) → has (order m) t ≡ b → first_field t (row (message m vs)) ≡ shown (vs t)
      go true e = R.values t e
      go false e = R.no_other t (other (eqb 35 t) refl e) ∙ sym (not_own m t (shown (vs t)) (fine t h) (not_listed m a t h e))
