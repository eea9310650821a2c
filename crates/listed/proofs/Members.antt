-- Parties one behind the other, and group 453: one digit says how many. Assumes nothing.
use Prim.Native.Nat.{ℕ, suc, ◌+◌, ◌-◌, ◌≤◌, ◌<◌}
use native.Mathlib.Omega.{arith}
use mathlib.Core.Path.{◌≡◌, refl, sym, ap, ap₂, ◌∙◌, subst}
use mathlib.Core.List.{List, [], ◌∷◌, ◌++◌, head-eq_of_cons-eq, tail-eq_of_cons-eq}
use mathlib.Core.Bool.{true, false, false≢true}
use lib.ListN.{length, drop, get_or, length-append}
use lib.Seq.{drop-cons}
use lib.Dec.{eqb}
use mathlib.Core.Option.{Option, none, some, some-injective}
use borrow.Author.Tests.{eqb-true, eq-eqb}
use Rattle.octets.specs.Bytes.{Bytes, fix, any, decimal}
use Rattle.octets.proofs.Tests.{neither}
use Rattle.table.specs.declared.MsgType.TheVariants.{TradeCaptureReport}
use Rattle.message.specs.Message.{number, Field, ◌is◌, row}
use Rattle.message.specs.Unfit.{unfit}
use Rattle.octets.proofs.Rightmost.{decimal_small}
use Rattle.message.proofs.Writes.{row_append}
use Rattle.report.specs.Values.{Party, members, group}
use Rattle.report.proofs.Longest.{group_few}
use Rattle.report.proofs.Sides.{count_fit}
use Rattle.listed.specs.code.Taken.{Took, anything, end, Just, Fields, party, Parties}
use Rattle.listed.proofs.Taking.{refused, reworded, Onward, on, stop, Both, joined}
use Rattle.listed.proofs.Rows.{fit_both, both_fit}

-- PARTIES
none_took : {s : Bytes} → Took (Parties 0) anything s (some s)
none_took {s} = record { seen = λ t e. ([], (([], (refl, (refl, refl))), some-injective _ _ e)); found = found }
  where
    found : (m t : Bytes) → Parties 0 m → anything t ≡ true → s ≡ m ++ t → some s ≡ some t
    found m t ([], (n, (u, e))) f w = ap (λ (x : Bytes). some x) (w ∙ ap (λ (x : Bytes). x ++ t) e)
    found m t (p ∷ ps, (n, (u, e))) f w = absurd (omega (arith, n))

one_more : (k : ℕ) {s : Bytes} {q r : Option Bytes} → Took (Fields party) anything s q → Onward (Parties k) anything q r → Took (Parties (suc k)) anything s r
one_more k P Q = reworded there back (joined (λ y t h n. refl) P Q)
  where
    there : (m : Bytes) → Both (Fields party) (Parties k) m → Parties (suc k) m
    there m (x, (y, ((p, (u, d)), ((ps, (n, (v, e))), w)))) =
        (p ∷ ps, (ap suc n, (fit_both (party p) (members ps) u v, w ∙ ap₂ (λ (s : Bytes) (t : Bytes). s ++ t) d e ∙ sym (row_append (party p) (members ps)))))

    back : (m : Bytes) → Parties (suc k) m → Both (Fields party) (Parties k) m
    back m ([], (n, (u, e))) = absurd (omega (arith, n))
    back m (p ∷ ps, (n, (u, e))) =
        let F = both_fit (party p) (members ps) u in
        (row (party p), (row (members ps), ((p, (F.0, refl)), ((ps, (omega (arith, n), (F.1, refl))), e ∙ row_append (party p) (members ps)))))

-- the first of n of them, one further or none, and the last
pub first-party : (n : ℕ) {s : Bytes} (r : Option Bytes) → Took (Parties (n - 0)) anything s r → Took (Parties n) anything s r
first-party n {s} r T = let e : n - 0 ≡ n = omega arith in subst (λ (k : ℕ). Took (Parties k) anything s r) e T

module _ (n i : ℕ) {s at : Bytes} (so_far : (r : Option Bytes) → Took (Parties (n - i)) anything at r → Took (Parties n) anything s r) where
  further : {q : Option Bytes} → i < n → Took (Fields party) anything at q → (r : Option Bytes) → Onward (Parties (n - (i + 1))) anything q r → Took (Parties n) anything s r
  further h P r T =
      let e : suc (n - (i + 1)) ≡ n - i = omega arith in
      so_far r (subst (λ (k : ℕ). Took (Parties k) anything at r) e (one_more (n - (i + 1)) P T))

  pub next_party : {u : Bytes} → i < n → Took (Fields party) anything at (some u) → (r : Option Bytes) → Took (Parties (n - (i + 1))) anything u r → Took (Parties n) anything s r
  next_party h P r T = further h P r (on T)

  pub no_party : i < n → Took (Fields party) anything at none → Took (Parties n) anything s none
  no_party h P = further h P none stop

  pub last_party : n ≤ i → Took (Parties n) anything s (some at)
  last_party h =
      let e : 0 ≡ n - i = omega arith in
      so_far (some at) (subst (λ (j : ℕ). Took (Parties j) anything at (some at)) e none_took)

-- HOW MANY: a digit from 1 to 8, `|`, and as many parties
abbrev pub Counted : Bytes → Type 0
Counted y = (d : ℕ) × ((x : Bytes) × ((49 ≤ d) × ((d ≤ 56) × (Parties (d - 48) x × (y ≡ d ∷ 1 ∷ x)))))

module _ {s : Bytes} where
  pub count_end : length s < 1 → Took Counted anything s none
  count_end h = refused (λ m t (d, (x, (lo, (hi, (p, y))))) n w. omega (arith, ap length w, length-append m t, ap length y))

  module _ (h : 1 ≤ length s) where
    first : s ≡ get_or s 0 0 ∷ drop 1 s
    first = drop-cons s 0 0 h

    same-digit : (d : ℕ) (x t : Bytes) {m : Bytes} → m ≡ d ∷ 1 ∷ x → s ≡ m ++ t → (get_or s 0 0 ≡ d) × (drop 1 s ≡ 1 ∷ x ++ t)
    same-digit d x t y w =
        let v : get_or s 0 0 ∷ drop 1 s ≡ d ∷ 1 ∷ (x ++ t) = sym first ∙ w ∙ ap (λ (z : Bytes). z ++ t) y in
        (head-eq_of_cons-eq v, tail-eq_of_cons-eq v)

    pub count_low : get_or s 0 0 < 49 → Took Counted anything s none
    count_low k = refused (λ m t (d, (x, (lo, (hi, (p, y))))) n w. omega (arith, lo, k, (same-digit d x t y w).0))

    pub count_high : 56 < get_or s 0 0 → Took Counted anything s none
    count_high k = refused (λ m t (d, (x, (lo, (hi, (p, y))))) n w. omega (arith, hi, k, (same-digit d x t y w).0))

    pub count_took : {b r : Option Bytes} → 49 ≤ get_or s 0 0 → get_or s 0 0 ≤ 56 → Took (Just (fix "|")) anything (drop 1 s) b → Onward (Parties (get_or s 0 0 - 48)) anything b r → Took Counted anything s r
    count_took {b} {r} lo hi P Q = record { seen = seen; found = found }
      where
        J : Took (Both (Just (fix "|")) (Parties (get_or s 0 0 - 48))) anything (drop 1 s) r
        J = joined (λ y t g n. refl) P Q

        seen : (t : Bytes) → r ≡ some t → (m : Bytes) × (Counted m × (s ≡ m ++ t))
        seen t q =
            let w = J.seen t q in
            let B = w.1.0 in
            let x : Bytes = B.1.0 in
            let f : w.0 ≡ 1 ∷ x = B.1.1.1.1 ∙ ap (λ (z : Bytes). z ++ x) B.1.1.0 in
            (get_or s 0 0 ∷ 1 ∷ x, ((get_or s 0 0, (x, (lo, (hi, (B.1.1.1.0, refl))))), first ∙ ap (λ (z : Bytes). get_or s 0 0 ∷ z) (w.1.1 ∙ ap (λ (z : Bytes). z ++ t) f)))

        found : (m t : Bytes) → Counted m → anything t ≡ true → s ≡ m ++ t → r ≡ some t
        found m t (d, (x, (_, (_, (p, y))))) n w =
            let z = same-digit d x t y w in
            J.found (1 ∷ x) t (1 ∷ [], (x, (refl, (subst (λ (j : ℕ). Parties (j - 48) x) (sym z.0) p, refl)))) refl z.1

-- GROUP 453
count_row : (n : ℕ) (fs : List Field) → n ≤ 8 → row (453 is number n ∷ fs) ≡ fix "453=" ++ ((48 + n) ∷ 1 ∷ row fs)
unfolding decimal
count_row n fs h = ap (λ (v : Bytes). decimal 453 ++ fix "=" ++ v ++ fix "|" ++ row fs) (decimal_small n (omega arith))

there : (m : Bytes) → Both (Just (fix "453=")) Counted m → Fields group m
there m (x, (y, (g, ((d, (z, (lo, (hi, (([], (n, (u, f))), q))))), w)))) = absurd (omega (arith, n, lo))
there m (x, (y, (g, ((d, (z, (lo, (hi, ((p ∷ ps, (n, (u, f))), q))))), w)))) =
    let k : ℕ = length (p ∷ ps) in
    let c : 48 + k ≡ d = omega (arith, n, lo) in
    let few : k ≤ 8 = omega (arith, n, hi) in
    let fit : any (unfit TradeCaptureReport) (group (p ∷ ps)) ≡ false = rw (count_fit k (λ e. omega (arith, e)) few, u) in
    let e : fix "453=" ++ (d ∷ 1 ∷ z) ≡ row (group (p ∷ ps)) =
    ap₂ (λ (j : ℕ) (t : Bytes). fix "453=" ++ (j ∷ 1 ∷ t)) (sym c) f ∙ sym (count_row k (members (p ∷ ps)) few) in
    (p ∷ ps, (fit, w ∙ ap₂ (λ (s : Bytes) (t : Bytes). s ++ t) g q ∙ e))

back : (m : Bytes) (p : Party) (ps : List Party) → any (unfit TradeCaptureReport) (group (p ∷ ps)) ≡ false → m ≡ row (group (p ∷ ps)) → Both (Just (fix "453=")) Counted m
back m p ps u e =
    let k : ℕ = length (p ∷ ps) in
    let few : k ≤ 8 = group_few (p ∷ ps) u in
    let x : Bytes = row (members (p ∷ ps)) in
    let fit = (neither (unfit TradeCaptureReport (453 is number k)) (any (unfit TradeCaptureReport) (members (p ∷ ps))) u).1 in
    let n : length (p ∷ ps) ≡ 48 + k - 48 = omega arith in
    (fix "453=", ((48 + k) ∷ 1 ∷ x, (refl, ((48 + k, (x, (omega arith, (omega arith, ((p ∷ ps, (n, (fit, refl))), refl))))), e ∙ count_row k (members (p ∷ ps)) few))))

pub empty_is : (l : Bytes) → length l ≡ 0 → l ≡ []
empty_is [] e = refl
empty_is (x ∷ l) e = absurd (omega arith)

module _ {s : Bytes} where
  pub group_none : eqb (length s) 0 ≡ true → Took (Fields group) end s (some s)
  group_none e = record { seen = λ t q. ([], (([], (refl, refl)), some-injective _ _ q)); found = found }
    where
      found : (m t : Bytes) → Fields group m → end t ≡ true → s ≡ m ++ t → some s ≡ some t
      found m t g n w = ap (λ (x : Bytes). some x) (empty_is s (eqb-true (length s) 0 e) ∙ sym (empty_is t (eqb-true (length t) 0 n)))

  pub group_took : {q r : Option Bytes} → eqb (length s) 0 ≡ false → Took (Just (fix "453=")) anything s q → Onward Counted anything q r → Took (Fields group) end s r
  group_took {q} {r} h P Q = record { seen = λ t e. let w = J.seen t e in (w.0, (there w.0 w.1.0, w.1.1)); found = found }
    where
      J : Took (Both (Just (fix "453=")) Counted) anything s r
      J = joined (λ y t k n. refl) P Q

      found : (m t : Bytes) → Fields group m → end t ≡ true → s ≡ m ++ t → r ≡ some t
      found m t ([], (u, e)) n w =
          let z : length s ≡ 0 = omega (arith, eqb-true (length t) 0 n, ap length w, length-append m t, ap length e) in
          absurd (false≢true (sym h ∙ eq-eqb (length s) 0 z))
      found m t (p ∷ ps, (u, e)) n w = J.found m t (back m p ps u e) refl w
