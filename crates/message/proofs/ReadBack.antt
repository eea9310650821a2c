-- D4: what is written for values that are fit is a good frame, has a clean verdict, and reads back as the values given, each of them and no other.
use Prim.Native.Nat.{ℕ, zero, suc, ◌≤◌}
use native.Mathlib.Omega.{arith}
use mathlib.Core.Path.{◌≡◌, refl, sym, ap, ◌∙◌, subst}
use mathlib.Core.List.{List, [], ◌∷◌}
use mathlib.Core.Bool.{Bool, true, false, cond, ◌||◌, false≢true}
use mathlib.Core.Option.{Option, none, some}
use lib.Dec.{eqb, ltb}
use lib.ListN.{length}
use borrow.Author.Tests.{eqb-true, eqb-false, eq-eqb, ne_eqb, ltb-true}
use Rattle.octets.specs.Bytes.{Bytes, all, has, decimal, Byted}
use Rattle.frame.specs.Frame.{fixt, Good}
use Rattle.fields.specs.Field.{first_field}
use Rattle.octets.proofs.Tests.{both, or_last}
use Rattle.table.specs.declared.MsgType.{MsgType}
use Rattle.table.specs.Dictionary.{code35, administrative}
use Rattle.dictionary.specs.Verdict.{Clean, verdict, walk, nothing_yet}
use Rattle.message.specs.ReadsBack.{ReadsBack}
use Rattle.message.specs.Message.{Value, bytes, shown, row, order, valued, message, written}
use Rattle.message.specs.Unfit.{unwritable}
use Rattle.message.proofs.Cutting.{parts_of, cut_free, or_later, shown_for, first_free}
use Rattle.message.proofs.Rows.{Plain, plain_of, plain-decimal, Fit, FitOne, fit_free}
use Rattle.message.proofs.Frames.{sound_row, row_ends, good_framed, begins_35}
use Rattle.message.proofs.Wholes.{body_true}
use Rattle.message.proofs.Accepted.{accepted}
use Rattle.message.proofs.Seven.{known, with_type, message_is, type-fits, type-read}
use Rattle.dictionary.proofs.Taken.{verdict_walks}
use Rattle.message.proofs.Clean.{message-clean}
use Rattle.message.proofs.Sizes.{Fine, AsNumbers, fine_first, fine_later, type-byte, body_length, body_longest}

-- the bytes of a value are bytes
abbrev pub OfBytes : Option Bytes → Type 0
OfBytes none = Unit {0}
OfBytes (some v) = Byted v

-- the fields are well formed
fit_valued : (m : MsgType) (vs : ℕ → Value) (ts : List ℕ) → (has ts 9 ≡ true → ⊥) → Fine m vs ts → ((t : ℕ) → OfBytes (shown (vs t))) → Fit (valued vs ts)
fit_valued m vs [] n f b = tt
fit_valued m vs (t ∷ ts) n f b =
    (go (shown (vs t)) (fine_first m vs t ts f) (b t), fit_valued m vs ts (λ h. n (or_last (eqb t 9) (has ts 9) h)) (fine_later m vs t ts f) b)
  where
    go : (o : Option Bytes) → unwritable m t o ≡ false → OfBytes o → FitOne t o
    go none u h = tt
    go (some v) u h = ((λ e. n (rw (eq-eqb t 9 e))), plain_of v (accepted m t v u).no_bar h)

-- what a row of distinct tags shows for one of them
shown-valued : (t : ℕ) (vs : ℕ → Value) (ts : List ℕ) → shown_for t (valued vs ts) ≡ cond (has ts t) (shown (vs t)) none
shown-valued t vs [] = refl
shown-valued t vs (u ∷ ts) = go (eqb u t) refl (shown (vs u)) refl (shown-valued t vs ts)
  where
    turned : eqb u t ≡ false → eqb t u ≡ false
    turned e = ne_eqb t u (λ k. eqb-false u t e (sym k))

    later : (c : Bool) → shown (vs t) ≡ none → cond c (shown (vs t)) none ≡ none
    later true e = e
    later false e = refl

    go : (b : Bool) → eqb u t ≡ b → (o : Option Bytes) → shown (vs u) ≡ o → shown_for t (valued vs ts) ≡ cond (has ts t) (shown (vs t)) none
        → or_later t u o (shown_for t (valued vs ts)) ≡ cond (b || has ts t) (shown (vs t)) none
    go true e none s r = let k = ap (λ (x : ℕ). shown (vs x)) (sym (eqb-true u t e)) ∙ s in r ∙ later (has ts t) k ∙ sym k
    go true e (some v) s r = rw (eq-eqb t u (sym (eqb-true u t e))) (sym s ∙ ap (λ (x : ℕ). shown (vs x)) (eqb-true u t e))
    go false e none s r = r
    go false e (some v) s r = rw (turned e) r

-- bytes, by a test
pub small_bytes : (l : Bytes) → all (λ x. ltb x 256) l ≡ true → Byted l
small_bytes [] h i = omega arith
small_bytes (x ∷ l) h zero = ltb-true x 256 (both (ltb x 256) (all (λ x. ltb x 256) l) h).0
small_bytes (x ∷ l) h (suc i) = small_bytes l (both (ltb x 256) (all (λ x. ltb x 256) l) h).1 i

plain_bytes : (l : Bytes) → Plain l → Byted l
plain_bytes [] h i = omega arith
plain_bytes (x ∷ l) h zero = h.0.1
plain_bytes (x ∷ l) h (suc i) = plain_bytes l h.1 i

pub decimal-bytes : (n : ℕ) → Byted (decimal n)
decimal-bytes n = plain_bytes (decimal n) (plain-decimal n)

module _ (m : MsgType) (a : administrative m ≡ true) (vs : ℕ → Value) (fine : Fine m vs (order m)) (numbers : AsNumbers m vs) (of_bytes : (t : ℕ) → OfBytes (shown (vs t))) where
  abbrev body : Bytes
  body = row (message m vs)

  -- with 35 among them
  whole_fine : Fine m (with_type m vs) (35 ∷ order m)
  whole_fine t h = go (eqb 35 t) refl h
    where
      go : (b : Bool) → eqb 35 t ≡ b → (b || has (order m) t) ≡ true → unwritable m t (shown (cond b (bytes (code35 m)) (vs t))) ≡ false
      go true e k = subst (λ (u : ℕ). unwritable m u (some (code35 m)) ≡ false) (eqb-true 35 t e) (type-fits m a)
      go false e k = fine t k

  whole_bytes : (t : ℕ) → OfBytes (shown (with_type m vs t))
  whole_bytes t = go (eqb 35 t)
    where
      go : (b : Bool) → OfBytes (shown (cond b (bytes (code35 m)) (vs t)))
      go true = small_bytes (code35 m) (both (all (λ x. ltb x 256) (code35 m)) (eqb (length (code35 m)) 1) (type-byte m a)).0
      go false = of_bytes t

  well_formed : Fit (message m vs)
  well_formed =
      subst Fit (sym (message_is vs m a))
      (fit_valued m (with_type m vs) (35 ∷ order m) (λ h. false≢true (sym (known m a).no_nine ∙ h)) whole_fine whole_bytes)

  -- A GOOD FRAME, with the row of the fields as its body
  its_bounds : (5 ≤ length body) × (length body ≤ 2048)
  its_bounds = (omega (arith, body_length m a vs), omega (arith, body_longest m a vs fine numbers))

  written_good : (G : Good fixt (written m vs)) × (G.body ≡ body)
  unfolding written
  written_good =
      (good_framed body (sound_row (message m vs) well_formed) (begins_35 (code35 m) (row (valued vs (order m)))) (row_ends (message m vs)) its_bounds.0 its_bounds.1, refl)

  -- A CLEAN VERDICT
  written_clean : verdict body ≡ Clean
  written_clean =
      let B = body_true body (record { low = its_bounds.0; high = its_bounds.1; begins = begins_35 (code35 m) (row (valued vs (order m))); ends = row_ends (message m vs) (omega (arith, its_bounds.0)) }) in
      let c = cut_free (message m vs) (fit_free (message m vs) well_formed) ∙ ap parts_of (message_is vs m a) in
      verdict_walks m body B (type-read (row (valued vs (order m))) m a) ∙ ap (walk m nothing_yet) c ∙ message-clean m a (with_type m vs) whole_fine

  -- THE VALUES ARE READ BACK: the first field of each tag is its value
  first_is : (t : ℕ) → first_field t body ≡ cond (has (35 ∷ order m) t) (shown (with_type m vs t)) none
  first_is t = first_free t (message m vs) (fit_free (message m vs) well_formed) ∙ ap (shown_for t) (message_is vs m a) ∙ shown-valued t (with_type m vs) (35 ∷ order m)

  value_back : (t : ℕ) → has (order m) t ≡ true → first_field t body ≡ shown (vs t)
  value_back t h = first_is t ∙ go (eqb 35 t) refl
    where
      go : (b : Bool) → eqb 35 t ≡ b → cond (b || has (order m) t) (shown (cond b (bytes (code35 m)) (vs t))) none ≡ shown (vs t)
      go true e = absurd (false≢true (sym (known m a).no_type ∙ ap (has (order m)) (eqb-true 35 t e) ∙ h))
      go false e = rw h

  no_other : (t : ℕ) → has (35 ∷ order m) t ≡ false → first_field t body ≡ none
  no_other t h = first_is t ∙ ap (λ (b : Bool). cond b (shown (with_type m vs t)) none) h

  -- ALL OF IT
  pub reads_back : ReadsBack m vs
  reads_back =
      record {
        frame = written_good.0;
        its_body = written_good.1;
        clean = written_clean;
        type = first_is 35;
        values = value_back;
        no_other = no_other;
        longest = body_longest m a vs fine numbers;
      }
