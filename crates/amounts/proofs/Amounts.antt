-- The written decimal reads back as its two numbers, and a decimal that is read is the one that is written for them.
use Prim.Native.Nat.{ℕ, zero, suc, ◌+◌, ◌-◌, ◌*◌, ◌/◌, ◌%◌, ◌≤◌}
use native.Mathlib.Nat.{add-zero}
use native.Mathlib.Omega.{arith}
use mathlib.Core.Path.{◌≡◌, refl, sym, ap, ◌∙◌, subst}
use mathlib.Core.List.{[], ◌∷◌, ◌++◌, append_assoc, append-nil}
use mathlib.Core.Bool.{Bool, true, false, cond, not, ◌&&◌, ◌||◌, and-false, false≢true}
use lib.Dec.{eqb}
use lib.ListN.{length, drop}
use borrow.Author.Tests.{ne_eqb, eqb-true, eqb-false}
use Rattle.octets.specs.Bytes.{Bytes, Byted, all, digit, value, value_from, decimal, padded, no_zeros}
use Rattle.octets.proofs.Lists.{value_from-append}
use Rattle.octets.proofs.Tests.{both, all_append}
use Rattle.octets.proofs.Numerals.{Written, digit_is, is_digit, is_within, digits_row}
use Rattle.octets.proofs.Rightmost.{padded-length}
use Rattle.octets.proofs.Decimals.{decimal-worth, decimal-written, written-decimal}
use Rattle.decimals.specs.Decimal.{leading, trailing, plain, pointed, is_decimal, places_of, whole_of, in_range, ranged_of, decimal_of}
use Rattle.std.specs.Prelude.{Result, Ok, Err}
use Rattle.decimals.specs.declared.Decimal.{Decimal}
use Rattle.fault.specs.declared.Fault.{Fault}
use Rattle.fault.specs.declared.Fault.TheVariants.{Value, Form}
use Rattle.kinds.specs.Kind.{Kind, formed, allowed}
use Rattle.calendar.proofs.Texts.{padded_from}
use Rattle.message.proofs.Pointed.{leading-digits, decimal-length}
use Rattle.message.proofs.Cutting.{below_power, decimal-digits}
use Rattle.message.proofs.ReadBack.{small_bytes}
use Rattle.amounts.specs.Amount.{Amount, without, pointing, amount_text, amount_in}

-- DIGITS, then what is no digit
pub leading-first : (l r : Bytes) → all digit l ≡ true → leading r ≡ [] → leading (l ++ r) ≡ l
leading-first [] r h e = e
leading-first (x ∷ l) r h e = let w = both (digit x) (all digit l) h in rw (w.0, leading-first l r w.1 e)

pub trailing_last : (l r : Bytes) → all digit l ≡ true → trailing r ≡ r → trailing (l ++ r) ≡ r
trailing_last [] r h e = e
trailing_last (x ∷ l) r h e = let w = both (digit x) (all digit l) h in rw (w.0, trailing_last l r w.1 e)

split : (v : Bytes) → leading v ++ trailing v ≡ v
split [] = refl
split (x ∷ v) = go (digit x) (split v)
  where
    go : (b : Bool) → leading v ++ trailing v ≡ v → cond b (x ∷ leading v) [] ++ cond b (trailing v) (x ∷ v) ≡ x ∷ v
    go true e = ap (λ (l : Bytes). x ∷ l) e
    go false e = refl

-- THE DIGITS OF A NUMBER, with no zero in front but a lone 0
decimal_all : (n : ℕ) → all digit (decimal n) ≡ true
decimal_all n = digits_row (decimal n) (decimal-digits n)

numeral_plain : (k : ℕ) (l : Bytes) → Written (no_zeros k) l → plain l ≡ true
numeral_plain k [] N = absurd (omega (arith, N.some_digit))
numeral_plain k (d ∷ l) N = rw (ne_eqb (length (d ∷ l)) 0 (λ e. omega arith), ne_eqb 48 d (λ e. N.no_zero refl (sym e)))

pub lone_zero : decimal 0 ≡ 48 ∷ []
unfolding decimal
lone_zero = refl

decimal-plain : (n : ℕ) → plain (decimal n) ≡ true
decimal-plain zero = ap plain lone_zero
decimal-plain (suc n) = numeral_plain (suc (suc n)) (decimal (suc n)) (decimal-written (suc n) (suc n) (omega arith) (below_power (suc n)))

-- they are the only ones
pub plain-decimal : (l : Bytes) → plain l ≡ true → all digit l ≡ true → decimal (value l) ≡ l
plain-decimal [] p h = absurd (false≢true p)
plain-decimal (d ∷ []) p h = go (eqb 48 d) refl
  where
    go : (b : Bool) → eqb 48 d ≡ b → decimal (value (d ∷ [])) ≡ d ∷ []
    go true e = subst (λ (x : ℕ). decimal (value (x ∷ [])) ≡ x ∷ []) (eqb-true 48 d e) lone_zero
    go false e = written-decimal 1 (d ∷ []) (record { some_digit = omega arith; few = omega arith; whole = h; no_zero = λ _ z. eqb-false 48 d e (sym z) })
plain-decimal (d ∷ x ∷ l) p h = go (eqb 48 d) refl p
  where
    go : (b : Bool) → eqb 48 d ≡ b → (not (eqb (length (d ∷ x ∷ l)) 0) && (not (b && true) || eqb (length (d ∷ x ∷ l)) 1)) ≡ true → decimal (value (d ∷ x ∷ l)) ≡ d ∷ x ∷ l
    go true e g = let n = eqb-true (length (d ∷ x ∷ l)) 1 (both (not (eqb (length (d ∷ x ∷ l)) 0)) (eqb (length (d ∷ x ∷ l)) 1) g).1 in absurd (omega arith)
    go false e g = written-decimal (length (d ∷ x ∷ l)) (d ∷ x ∷ l) (record { some_digit = omega arith; few = omega arith; whole = h; no_zero = λ _ z. eqb-false 48 d e (sym z) })

-- THE LAST k DIGITS, and the number without them
padded_all : (k n : ℕ) → all digit (padded k n) ≡ true
padded_all zero n = refl
padded_all (suc k) n = all_append digit (padded k (n / 10)) ((48 + n % 10) ∷ []) ∙ rw (padded_all k (n / 10), is_digit (48 + n % 10) (omega arith, omega arith))

joined : (k n : ℕ) → value (decimal (without k n) ++ padded k n) ≡ n
joined zero n = ap value (append-nil (decimal n)) ∙ decimal-worth n
joined (suc k) n =
    ap value (sym (append_assoc (decimal (without k (n / 10))) (padded k (n / 10)) ((48 + n % 10) ∷ [])))
    ∙ value_from-append 0 (decimal (without k (n / 10)) ++ padded k (n / 10)) ((48 + n % 10) ∷ [])
    ∙ omega (arith, joined k (n / 10))

without_from : (k n : ℕ) (l : Bytes) → all digit l ≡ true → without (k + length l) (value_from n l) ≡ without k n
without_from k n [] h = rw (add-zero k)
without_from k n (d ∷ l) h =
    let w = both (digit d) (all digit l) h in
    let D = digit_is d w.0 in
    let q : (n * 10 + (d - 48)) / 10 ≡ n = omega arith in
    let e : k + suc (length l) ≡ suc k + length l = omega arith in
    rw e (without_from (suc k) (n * 10 + (d - 48)) l w.1 ∙ rw q)

-- WHAT IS WRITTEN READS BACK as its two numbers, whatever they are
pub record Reads (v : Bytes) (w p : ℕ) : Type 0 where
  pub form : is_decimal v ≡ true
  pub whole : whole_of v ≡ w
  pub places : length (places_of v) ≡ p

reads_by : (v l t : Bytes) → leading v ≡ l → trailing v ≡ t → plain l ≡ true → pointed t ≡ true → Reads v (value (l ++ drop 1 t)) (length (drop 1 t))
unfolding is_decimal
reads_by v l t e f p q = record { form = rw (e, f, p, q); whole = rw (e, f); places = rw f }

pub pointing_reads : (w k : ℕ) → Reads (pointing w k) w k
pointing_reads w zero =
    let n = append-nil (decimal w) in
    let R = reads_by (decimal w) (decimal w) [] (ap leading (sym n) ∙ leading-first (decimal w) [] (decimal_all w) refl) (ap trailing (sym n) ∙ trailing_last (decimal w) [] (decimal_all w) refl) (decimal-plain w) refl in
    record { form = R.form; whole = R.whole ∙ joined 0 w; places = R.places }
pointing_reads w (suc k) =
    let q : ℕ = without (suc k) w in
    let ds : Bytes = padded (suc k) w in
    let n : length ds ≡ suc k = padded-length (suc k) w in
    let g : pointed (46 ∷ ds) ≡ true = rw (ne_eqb (length ds) 0 (λ e. omega arith), padded_all (suc k) w) in
    let R = reads_by (pointing w (suc k)) (decimal q) (46 ∷ ds) (leading-first (decimal q) (46 ∷ ds) (decimal_all q) refl) (trailing_last (decimal q) (46 ∷ ds) (decimal_all q) refl) (decimal-plain q) g in
    record { form = R.form; whole = R.whole ∙ joined (suc k) w; places = R.places ∙ n }

-- the decimal of a whole number and its places
abbrev pub is : ℕ → ℕ → Result Decimal Fault
is w k = Ok (record { whole = w; places = k })

-- in their ranges: (d) "reading gives back both"
pub decimal_back : (w k : ℕ) → w ≤ 999_999_999_999_999 → k ≤ 8 → decimal_of (pointing w k) ≡ is w k
unfolding decimal_of
decimal_back w k h g =
    let R = pointing_reads w k in
    rw (R.form, R.whole, R.places, is_within 0 999_999_999_999_999 w (omega arith) h, is_within 0 8 k (omega arith) g)

pub amount_back : (a : Amount) → allowed Kind.decimal (amount_text a) ≡ true → amount_in (amount_text a) ≡ a
unfolding amount_text amount_in decimal_of allowed
amount_back a h =
    let R = pointing_reads a.whole a.places in
    rw (R.form, h) (rw (R.whole, R.places))

-- it has at most fifteen digits and a point, all of them bytes
pub pointing-length : (w k : ℕ) → w ≤ 999_999_999_999_999 → k ≤ 8 → length (pointing w k) ≤ 16
pointing-length w k h g =
    let R = pointing_reads w k in
    decimal-length (pointing w k) R.form (rw (R.whole, R.places, is_within 0 999_999_999_999_999 w (omega arith) h, is_within 0 8 k (omega arith) g))

bytes-append : (k l : Bytes) → Byted k → Byted l → Byted (k ++ l)
bytes-append [] l h g i = g i
bytes-append (x ∷ k) l h g zero = h 0
bytes-append (x ∷ k) l h g (suc i) = bytes-append k l (λ j. h (suc j)) g i

digits-bytes : (l : Bytes) → all digit l ≡ true → Byted l
digits-bytes [] h i = omega arith
digits-bytes (x ∷ l) h zero = omega (arith, digit_is x (both (digit x) (all digit l) h).0)
digits-bytes (x ∷ l) h (suc i) = digits-bytes l (both (digit x) (all digit l) h).1 i

pub amount-bytes : (a : Amount) → Byted (amount_text a)
unfolding amount_text
amount-bytes a = go a.whole a.places
  where
    go : (w k : ℕ) → Byted (pointing w k)
    go w zero = digits-bytes (decimal w) (decimal_all w)
    go w (suc k) =
        bytes-append (decimal (without (suc k) w)) (46 ∷ padded (suc k) w) (digits-bytes (decimal (without (suc k) w)) (decimal_all (without (suc k) w)))
        (bytes-append (46 ∷ []) (padded (suc k) w) (small_bytes (46 ∷ []) refl) (digits-bytes (padded (suc k) w) (padded_all (suc k) w)))

-- WHAT IS READ IS WHAT IS WRITTEN for the two numbers
pointing_by : (l t : Bytes) → plain l ≡ true → all digit l ≡ true → pointed t ≡ true → pointing (value (l ++ drop 1 t)) (length (drop 1 t)) ≡ l ++ t
pointing_by l [] p h q = ap (λ (x : Bytes). decimal (value x)) (append-nil l) ∙ plain-decimal l p h ∙ sym (append-nil l)
pointing_by l (x ∷ []) p h q = absurd (false≢true (sym (ap (λ (b : Bool). b) (and-false (eqb x 46))) ∙ q))
pointing_by l (x ∷ d ∷ ds) p h q =
    let a = both (eqb x 46) (not (eqb (length (d ∷ ds)) 0) && all digit (d ∷ ds)) q in
    let b = both (not (eqb (length (d ∷ ds)) 0)) (all digit (d ∷ ds)) a.1 in
    let v : value (l ++ (d ∷ ds)) ≡ value_from (value l) (d ∷ ds) = value_from-append 0 l (d ∷ ds) in
    let z : 0 + length (d ∷ ds) ≡ length (d ∷ ds) = omega arith in
    let f : without (length (d ∷ ds)) (value_from (value l) (d ∷ ds)) ≡ value l = rw z at (without_from 0 (value l) (d ∷ ds) b.1) in
    let g : padded (length (d ∷ ds)) (value_from (value l) (d ∷ ds)) ≡ d ∷ ds = rw z at (padded_from 0 (value l) (d ∷ ds) b.1) in
    ap (λ (n : ℕ). decimal (without (length (d ∷ ds)) n) ++ (46 ∷ padded (length (d ∷ ds)) n)) v
    ∙ ap (λ (n : ℕ). decimal n ++ (46 ∷ padded (length (d ∷ ds)) (value_from (value l) (d ∷ ds)))) f
    ∙ ap (λ (y : Bytes). decimal (value l) ++ (46 ∷ y)) g
    ∙ ap (λ (y : Bytes). y ++ (46 ∷ d ∷ ds)) (plain-decimal l p h)
    ∙ ap (λ (n : ℕ). l ++ (n ∷ d ∷ ds)) (sym (eqb-true x 46 a.0))

pub pointing_only : (v : Bytes) → is_decimal v ≡ true → pointing (whole_of v) (length (places_of v)) ≡ v
unfolding is_decimal
pointing_only v h =
    let w = both (plain (leading v)) (pointed (trailing v)) h in
    pointing_by (leading v) (trailing v) w.0 (leading-digits v) w.1 ∙ split v

-- each text has one pair, each pair one text
pub decimal_only : (v : Bytes) (w k : ℕ) → decimal_of v ≡ is w k → pointing w k ≡ v
unfolding decimal_of
decimal_only v w k e = go (is_decimal v) refl e
  where
    ranged : (b : Bool) → is_decimal v ≡ true → cond b (is (whole_of v) (length (places_of v))) (Err Value) ≡ is w k → pointing w k ≡ v
    ranged true f g =
        let q : (◌≡◌ {A = Decimal} (record { whole = whole_of v; places = length (places_of v) }) (record { whole = w; places = k })) = cc in
        let a : whole_of v ≡ w = ap (λ (d : Decimal). d.whole) q in
        let c : length (places_of v) ≡ k = ap (λ (d : Decimal). d.places) q in
        ap (λ (x : ℕ). pointing x k) (sym a) ∙ ap (pointing (whole_of v)) (sym c) ∙ pointing_only v f
    ranged false f g = let z : ◌≡◌ {A = ℕ} 0 1 = cc in absurd (omega arith)

    go : (b : Bool) → is_decimal v ≡ b → cond b (ranged_of (whole_of v) (length (places_of v))) (Err Form) ≡ is w k → pointing w k ≡ v
    go true f g = ranged (in_range (whole_of v) (length (places_of v))) f g
    go false f g = let z : ◌≡◌ {A = ℕ} 0 1 = cc in absurd (omega arith)

pub one_text : (u v : Bytes) (w k : ℕ) → decimal_of u ≡ is w k → decimal_of v ≡ is w k → u ≡ v
one_text u v w k e f = sym (decimal_only u w k e) ∙ decimal_only v w k f

-- so that the amount of a decimal tells its text
pub text_back : (v : Bytes) → formed Kind.decimal v ≡ true → allowed Kind.decimal v ≡ true → amount_text (amount_in v) ≡ v
unfolding amount_text amount_in decimal_of formed allowed
text_back v f h = rw (f, h) (pointing_only v f)
