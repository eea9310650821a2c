-- D4 for the writer call, by the way in which it ends; different values never write the same bytes.
use Prim.Native.Nat.{ℕ, zero, suc, ◌-◌}
use native.Mathlib.Omega.{arith}
use mathlib.Core.Path.{◌≡◌, refl, sym, ap, ◌∙◌}
use mathlib.Core.Logic.{◌⊎◌, inl, inr}
use mathlib.Core.List.{List, [], ◌∷◌, ◌++◌}
use mathlib.Core.Bool.{Bool, true, false, cond, ◌&&◌}
use mathlib.Core.Option.{Option, none, some}
use lib.Dec.{leb, ltb}
use lib.ListN.{length, take, drop, get_or}
use lib.Seq.{take-append_seam, drop-append_seam}
use borrow.Author.Tests.{ltb-true, ltb-false}
use Rattle.octets.specs.Bytes.{Bytes, value, decimal, Byted}
use Rattle.fields.specs.Field.{first_field}
use Rattle.octets.proofs.Decimals.{decimal-worth}
use Rattle.table.specs.declared.MsgType.{MsgType}
use Rattle.table.specs.Dictionary.{code35}
use Rattle.message.specs.Message.{Value, number, bytes, shown, row, message, written}
use Rattle.writer.specs.Tags.{tags, numeric}
use Rattle.std.specs.Prelude as Given
use Rattle.std.specs.Prelude.{Some, None}
use Rattle.writer.specs.declared.Given.{Given}
use Rattle.writer.specs.Call.{Values, place_in, value_for, value_in, refused8, admin, Unfit, Short, Outcome, refusing, writing, fitted, write_as, write, numbers}
use Rattle.message.specs.Message.{part}
use Rattle.message.specs.ReadsBack.{ReadsBack}
use Rattle.writer.specs.Promise.{MessageOf, Ends, another_type, unfit_value, short_buffer, whole}
use Rattle.message.proofs.Wholes.{bytes_take, framed_one}
use Rattle.message.proofs.ReadBack.{OfBytes, decimal-bytes, reads_back}
use Rattle.writer.proofs.Tagged.{order_fine, values_back}
use Rattle.writer.proofs.Numbers.{as_numbers}
use Rattle.writer.proofs.Named.{named_by}

-- VALUES OF BYTES
bytes_drop : (n : ℕ) (l : Bytes) → Byted l → Byted (drop n l)
bytes_drop zero l h = h
bytes_drop (suc n) [] h = h
bytes_drop (suc n) (x ∷ l) h = bytes_drop n l (λ i. h (suc i))

part_bytes : (s : Bytes) (a e : ℕ) → Byted s → Byted (part s a e)
part_bytes s a e h = go (leb a e && leb e (length s))
  where
    go : (b : Bool) → Byted (cond b (take (e - a) (drop a s)) [])
    go true = bytes_take (e - a) (drop a s) (bytes_drop a s h)
    go false = λ i. omega arith

value-bytes : (vs : Values) (s : Bytes) → Byted s → (t : ℕ) → OfBytes (shown (value_in vs s t))
unfolding value_in
value-bytes vs s h t = go (get_or vs (place_in tags t) None)
  where
    by : (g : Given) (n : Bool) → OfBytes (shown (cond n (number g.a) (bytes (part s g.a g.b))))
    by g true = decimal-bytes g.a
    by g false = part_bytes s g.a g.b h

    go : (o : Given.Option Given) → OfBytes (shown (value_for s t o))
    go (Some g) = by g (numeric t)
    go None = tt

-- THE WRITER CALL
module _ (type : Bytes) (vs : Values) (s d : Bytes) where
  pub ends : Ends type vs s d (write type vs s d)
  unfolding write
  ends = go (admin type) refl
    where
      fit : (m : MsgType) → admin type ≡ some m → refused8 m (value_in vs s) ≡ false → (x : Bool) → ltb (length d) (length (written m (value_in vs s))) ≡ x
          → Ends type vs s d (cond x (refusing Short d) (writing (written m (value_in vs s)) d))
      fit m a ok true l = short_buffer m a ok (ltb-true _ _ l)
      fit m a ok false l = whole m a ok (ltb-false _ _ l)

      typed : (m : MsgType) → admin type ≡ some m → (x : Bool) → refused8 m (value_in vs s) ≡ x → Ends type vs s d (cond x (refusing Unfit d) (fitted (written m (value_in vs s)) d))
      typed m a true r = unfit_value m a r
      typed m a false r = fit m a r (ltb (length d) (length (written m (value_in vs s)))) refl

      go : (o : Option MsgType) → admin type ≡ o → Ends type vs s d (write_as o (value_in vs s) d)
      go none e = another_type e
      go (some m) e = typed m e (refused8 m (value_in vs s)) refl

  -- this paper's numbers: the refusals are 8 and 9, ..
  pub refusal_8_or_9 : {o : Outcome} → Ends type vs s d o → (k : ℕ) → (numbers o.answer).0 ≡ some k → (k ≡ 8) ⊎ (k ≡ 9)
  refusal_8_or_9 (another_type a) k e = inl (cc)
  refusal_8_or_9 (unfit_value m a r) k e = inl (cc)
  refusal_8_or_9 (short_buffer m a r l) k e = inr (cc)
  refusal_8_or_9 (whole m a r l) k e = let z : ◌≡◌ {A = ℕ} 0 1 = cc in absurd (omega arith)

  -- .. and "under every refusal, the buffer keeps its old bytes"
  pub refusal_keeps : {o : Outcome} → Ends type vs s d o → (k : ℕ) → (numbers o.answer).0 ≡ some k → o.buffer ≡ d
  refusal_keeps (another_type a) k e = refl
  refusal_keeps (unfit_value m a r) k e = refl
  refusal_keeps (short_buffer m a r l) k e = refl
  refusal_keeps (whole m a r l) k e = let z : ◌≡◌ {A = ℕ} 0 1 = cc in absurd (omega arith)

  -- a message of n bytes is what D4 promises
  pub message_promised : Byted s → {o : Outcome} → Ends type vs s d o → (n : ℕ) → numbers o.answer ≡ (none, n ∷ []) → MessageOf type vs s d o.buffer n
  message_promised b (another_type a) n e = let z : ◌≡◌ {A = Option ℕ} (some 8) none = ap (λ (p : Option ℕ × List ℕ). p.0) e in let y : ◌≡◌ {A = ℕ} 0 1 = cc in absurd (omega arith)
  message_promised b (unfit_value m a r) n e = let z : ◌≡◌ {A = Option ℕ} (some 8) none = ap (λ (p : Option ℕ × List ℕ). p.0) e in let y : ◌≡◌ {A = ℕ} 0 1 = cc in absurd (omega arith)
  message_promised b (short_buffer m a r l) n e = let z : ◌≡◌ {A = Option ℕ} (some 9) none = ap (λ (p : Option ℕ × List ℕ). p.0) e in let y : ◌≡◌ {A = ℕ} 0 1 = cc in absurd (omega arith)
  message_promised b (whole m a r l) n e =
      let w : Bytes = written m (value_in vs s) in
      let q : length w ≡ n = ap (λ (p : Option ℕ × List ℕ). get_or p.1 0 0) e in
      let N = named_by type m (sym a) in
      let R = reads_back m N.administers (value_in vs s) (order_fine m N.administers (value_in vs s) r) (as_numbers m N.administers vs s) (value-bytes vs s b) in
      record {
        message = m;
        administers = N.administers;
        coded = N.coded;
        front = ap (λ (k : ℕ). take k (w ++ drop (length w) d)) (sym q) ∙ take-append_seam w (drop (length w) d);
        behind = ap (λ (k : ℕ). drop k (w ++ drop (length w) d)) (sym q) ∙ drop-append_seam w (drop (length w) d) ∙ ap (λ (k : ℕ). drop k d) q;
        fits = omega (arith, q);
        reads_back = R;
        values = λ t h. ap (first_field t) R.its_body ∙ values_back m N.administers (value_in vs s) r R t h;
      }

-- TWO DIFFERENT SETS OF VALUES NEVER WRITE THE SAME BYTES
-- a value of a call is told by its bytes, since its tag says whether it is a number
pub same-shown : (t : ℕ) (vs ws : Values) (s r : Bytes) → shown (value_in vs s t) ≡ shown (value_in ws r t) → value_in vs s t ≡ value_in ws r t
unfolding value_in
same-shown t vs ws s r = go (get_or vs (place_in tags t) None) (get_or ws (place_in tags t) None)
  where
    both : (g h : Given) (n : Bool) → shown (cond n (number g.a) (bytes (part s g.a g.b))) ≡ shown (cond n (number h.a) (bytes (part r h.a h.b)))
        → cond n (number g.a) (bytes (part s g.a g.b)) ≡ cond n (number h.a) (bytes (part r h.a h.b))
    both g h true e = let q : decimal g.a ≡ decimal h.a = cc in ap number (sym (decimal-worth g.a) ∙ ap value q ∙ decimal-worth h.a)
    both g h false e = let q : part s g.a g.b ≡ part r h.a h.b = cc in ap bytes q

    one : (l : Bytes) (g : Given) (n : Bool) → shown (cond n (number g.a) (bytes (part l g.a g.b))) ≡ none → ⊥
    one l g true e = let z : ◌≡◌ {A = ℕ} 0 1 = cc in omega (arith, z)
    one l g false e = let z : ◌≡◌ {A = ℕ} 0 1 = cc in omega (arith, z)

    go : (g h : Given.Option Given) → shown (value_for s t g) ≡ shown (value_for r t h) → value_for s t g ≡ value_for r t h
    go (Some g) (Some h) e = both g h (numeric t) e
    go (Some g) None e = absurd (one s g (numeric t) e)
    go None (Some h) e = absurd (one r h (numeric t) (sym e))
    go None None e = refl

-- messages that read back and have the same bytes
pub same_read : {m m' : MsgType} {vs ws : ℕ → Value} (A : ReadsBack m vs) (B : ReadsBack m' ws) → written m vs ≡ written m' ws
    → (code35 m ≡ code35 m') × (A.frame.body ≡ B.frame.body)
unfolding written
same_read {m} {m'} {vs} {ws} A B e =
    let q = framed_one (row (message m vs)) (row (message m' ws)) e in
    let c : some (code35 m) ≡ some (code35 m') = sym A.type ∙ ap (first_field 35) q ∙ B.type in
    (cc, A.its_body ∙ q ∙ sym B.its_body)
