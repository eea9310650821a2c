-- What is written for well-formed fields is a good frame, and the row of the fields is its body.
use Prim.Native.Nat.{ℕ, zero, suc, ◌+◌, ◌-◌, ◌≤◌, ◌<◌}
use native.Mathlib.Omega.{arith}
use mathlib.Core.Path.{◌≡◌, refl, sym, ap, ◌∙◌, subst}
use mathlib.Core.List.{List, [], ◌∷◌, ◌++◌, append_assoc}
use mathlib.Core.Option.{Option, none, some}
use lib.Dec.{lit<}
use lib.ListN.{length, get_or, length-append}
use Rattle.octets.specs.Bytes.{Bytes, fix, value, decimal, At, Byted}
use Rattle.frame.specs.Frame.{fixt, Length, Body, Good, front, trailer, sum_of}
use Rattle.octets.proofs.Lists.{at_byte}
use Rattle.octets.proofs.Numerals.{Digits}
use Rattle.frame.proofs.Make.{good_make}
use Rattle.frame.proofs.Marks.{fixt_ok}
use Rattle.octets.proofs.Numerals.{written_true}
use Rattle.octets.proofs.Decimals.{decimal-read, decimal-worth}
use Rattle.message.specs.Message.{Field, ◌is◌, shown, tagged, row, framed}
use Rattle.message.proofs.Cutting.{decimal-digits, part_field}
use Rattle.message.proofs.Rows.{Plain, Fit, FitOne, plain-part}

-- no `|9=` in it; it doesn't begin with `9=`; bytes
abbrev pub Clear : Bytes → Type 0
Clear l = (i : ℕ) → get_or l i 0 ≡ 1 → get_or l (suc i) 0 ≡ 57 → get_or l (suc (suc i)) 0 ≡ 61 → ⊥

abbrev pub NoNine : Bytes → Type 0
NoNine l = get_or l 0 0 ≡ 57 → get_or l 1 0 ≡ 61 → ⊥

pub record Sound (l : Bytes) : Type 0 where
  pub clear : Clear l
  pub no_nine : NoNine l
  pub all_bytes : Byted l

clear_part : (p r : Bytes) → Plain p → NoNine r → Clear r → Clear (p ++ (1 ∷ r))
clear_part [] r h s c zero a b d = s b d
clear_part [] r h s c (suc i) a b d = c i a b d
clear_part (x ∷ p) r h s c zero a b d = h.0.0 a
clear_part (x ∷ p) r h s c (suc i) a b d = clear_part p r h.1 s c i a b d

other_tag : (l r : Bytes) → Digits l → (value l ≡ 9 → ⊥) → NoNine (l ++ (61 ∷ r))
other_tag [] r h n a b = absurd (omega arith)
other_tag (d ∷ []) r h n a b = n (omega arith)
other_tag (d ∷ d₂ ∷ l) r h n a b = absurd (omega (arith, h.1.0))

bytes-part : (p r : Bytes) → Plain p → Byted r → Byted (p ++ (1 ∷ r))
bytes-part [] r h k zero = omega arith
bytes-part [] r h k (suc i) = k i
bytes-part (x ∷ p) r h k zero = h.0.1
bytes-part (x ∷ p) r h k (suc i) = bytes-part p r h.1 k i

sound_part : (t : ℕ) (v r : Bytes) → (t ≡ 9 → ⊥) → Plain v → Sound r → Sound ((decimal t ++ (61 ∷ v)) ++ (1 ∷ r))
sound_part t v r n h s =
    let p : Plain (decimal t ++ (61 ∷ v)) = plain-part t v h in
    let e : (decimal t ++ (61 ∷ v)) ++ (1 ∷ r) ≡ decimal t ++ (61 ∷ (v ++ (1 ∷ r))) = append_assoc (decimal t) (61 ∷ v) (1 ∷ r) in
    record {
      clear = clear_part (decimal t ++ (61 ∷ v)) r p s.no_nine s.clear;
      no_nine = subst NoNine (sym e) (other_tag (decimal t) (v ++ (1 ∷ r)) (decimal-digits t) (λ k. n (sym (decimal-worth t) ∙ k)));
      all_bytes = bytes-part (decimal t ++ (61 ∷ v)) r p s.all_bytes;
    }

pub sound_row : (fs : List Field) → Fit fs → Sound (row fs)
sound_row [] h = record { clear = λ i a b c. absurd (omega arith); no_nine = λ a b. absurd (omega arith); all_bytes = λ i. omega arith }
sound_row ((t is v) ∷ fs) h = go (shown v) h.0 (sound_row fs h.1)
  where
    go : (o : Option Bytes) → FitOne t o → Sound (row fs) → Sound (tagged t o ++ row fs)
    go none g s = s
    go (some w) g s = subst Sound (sym (part_field (decimal t) w (row fs))) (sound_part t w (row fs) g.0 g.1 s)

-- a row is empty or ends in `|`, whatever its values
abbrev pub Ends : Bytes → Type 0
Ends l = 0 < length l → get_or l (length l - 1) 0 ≡ 1

ends_cons : (x : ℕ) (r : Bytes) → (length r ≡ 0 → x ≡ 1) → Ends r → Ends (x ∷ r)
ends_cons x [] k e h = k refl
ends_cons x (y ∷ r) k e h = let n : length (x ∷ y ∷ r) - 1 ≡ suc (length (y ∷ r) - 1) = omega arith in ap (λ (j : ℕ). get_or (x ∷ y ∷ r) j 0) n ∙ e (omega arith)

ends-part : (p r : Bytes) → Ends r → Ends (p ++ (1 ∷ r))
ends-part [] r e = ends_cons 1 r (λ k. refl) e
ends-part (x ∷ p) r e = ends_cons x (p ++ (1 ∷ r)) (λ k. absurd (omega (arith, length-append p (1 ∷ r)))) (ends-part p r e)

pub row_ends : (fs : List Field) → Ends (row fs)
row_ends [] = λ k. absurd (omega arith)
row_ends ((t is v) ∷ fs) = go (shown v) (row_ends fs)
  where
    go : (o : Option Bytes) → Ends (row fs) → Ends (tagged t o ++ row fs)
    go none e = e
    go (some w) e = subst Ends (sym (part_field (decimal t) w (row fs))) (ends-part (decimal t ++ (61 ∷ w)) (row fs) e)

-- a second mark would have a `|9=`
pub no_mark : (l : Bytes) → Clear l → (q : ℕ) → At l q fixt.mark → ⊥
unfolding fixt
no_mark l c q a =
    let e₁ : suc (q + 10) ≡ q + 11 = omega arith in
    let e₂ : suc (suc (q + 10)) ≡ q + 12 = omega arith in
    c (q + 10) (at_byte l q fixt.mark a 10 (lit< tt))
    (ap (λ (k : ℕ). get_or l k 0) e₁ ∙ at_byte l q fixt.mark a 11 (lit< tt))
    (ap (λ (k : ℕ). get_or l k 0) e₂ ∙ at_byte l q fixt.mark a 12 (lit< tt))

pub length-good : (n : ℕ) → 5 ≤ n → n ≤ 2048 → Length fixt (decimal n)
unfolding fixt
length-good n l h =
    record {
      written = written_true fixt.size (decimal n) (decimal-read 5 n (omega arith));
      low = subst (λ (k : ℕ). 5 ≤ k) (sym (decimal-worth n)) l;
      high = subst (λ (k : ℕ). k ≤ 2048) (sym (decimal-worth n)) h;
    }

-- the body's conditions, said of the digits of its length
pub inside : (b : Bytes) → Byted b → At b 0 (fix "35=") → get_or b (length b - 1) 0 ≡ 1 → Body (value (decimal (length b))) b
inside b all begins ends =
    let w : value (decimal (length b)) ≡ length b = decimal-worth (length b) in
    record { sized = sym w; begins = begins; ends = ap (λ (k : ℕ). get_or b (k - 1) 0) w ∙ ends; bytes = all }

pub framed_is : (b : Bytes) → framed b ≡ front fixt (decimal (length b)) b ++ trailer (sum_of fixt (decimal (length b)) b)
unfolding framed
framed_is b = refl

pub framed-length : (b : Bytes) → length (framed b) ≡ length b + length (decimal (length b)) + 21
unfolding framed fixt
framed-length b =
    let ds = decimal (length b) in
    omega
    (arith, length-append (front fixt ds b) (trailer (sum_of fixt ds b)), length-append fixt.mark (ds ++ (1 ∷ b)), length-append ds (1 ∷ b))

-- a sound body in its frame is a good frame
module _ (b : Bytes) (s : Sound b) (begins : At b 0 (fix "35=")) (ends : Ends b) (low : 5 ≤ length b) (high : length b ≤ 2048) where
  pub its_length : Length fixt (decimal (length b))
  its_length = length-good (length b) low high

  pub its_inner : Body (value (decimal (length b))) b
  its_inner = inside b s.all_bytes begins (ends (omega arith))

  abbrev pub good_framed : Good fixt (framed b)
  good_framed =
      record {
        digits = decimal (length b);
        body = b;
        len = its_length;
        inner = its_inner;
        whole = framed_is b;
        once = λ q h a.
            (good_make fixt fixt_ok (decimal (length b)) b its_length its_inner (no_mark b s.clear)).once q h
            (subst (λ (l : Bytes). At l q fixt.mark) (framed_is b) a);
      }

-- a row that begins with 35
pub begins_35 : (o : Bytes) (r : Bytes) → At (tagged 35 (some o) ++ r) 0 (fix "35=")
unfolding decimal
begins_35 o r = (omega arith, refl)
