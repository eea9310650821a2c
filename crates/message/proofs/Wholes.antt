-- The test `good` says what the frame layer means by a good frame, and `body_in` is its body; so what is written determines the body.
use Prim.Native.Nat.{ℕ, zero, suc, ◌-◌, ◌≤◌, ◌<◌}
use native.Mathlib.Omega.{arith}
use mathlib.Core.Path.{◌≡◌, refl, sym, ap, ◌∙◌}
use mathlib.Core.List.{[], ◌∷◌, ◌++◌, append_assoc}
use mathlib.Core.Bool.{Bool, true, false, cond, not, ◌&&◌, ◌||◌, false≢true}
use lib.Dec.{eqb}
use lib.ListN.{length, take, drop, get_or, length-append}
use lib.Seq.{take_at}
use borrow.Author.Tests.{eqb-true, eq-eqb, ne_eqb}
use Rattle.octets.specs.Bytes.{Bytes, fix, all, digit, starts, same, within, value, writes, decimal, At}
use Rattle.frame.specs.Frame.{fixt, Good, front, trailer, sum_of}
use Rattle.octets.proofs.Numerals.{within_is, is_within, digit_is, written_means}
use Rattle.fields.specs.Field.{before, behind, is_body}
use Rattle.octets.proofs.Tests.{both, or_last}
use Rattle.kinds.proofs.Values.{same_true, same_refl}
use Rattle.message.specs.Message.{framed}
use Rattle.message.specs.Whole.{occurs, body_in, digits_in, good}
use Rattle.message.proofs.Rows.{Plain, plain-append, plain-decimal}
use Rattle.message.proofs.Frames.{framed_is}

-- THE DIGITS AND THE BODY OF A FRAME
behind-plain : (p r : Bytes) → Plain p → behind 1 (p ++ (1 ∷ r)) ≡ r
behind-plain [] r h = refl
behind-plain (x ∷ p) r h = rw (ne_eqb x 1 h.0.0) (behind-plain p r h.1)

before-plain : (p r : Bytes) → Plain p → before 1 (p ++ (1 ∷ r)) ≡ p
before-plain [] r h = refl
before-plain (x ∷ p) r h = rw (ne_eqb x 1 h.0.0) (ap (λ (l : Bytes). x ∷ l) (before-plain p r h.1))

regroup : (m d b t : Bytes) → m ++ (d ++ (1 ∷ b)) ++ t ≡ m ++ (d ++ (1 ∷ (b ++ t)))
regroup m d b t = simp append_assoc

module _ (ds b : Bytes) (h : Plain ds) where
  tl : Bytes
  tl = trailer (sum_of fixt ds b)

  digits_between : digits_in (front fixt ds b ++ tl) ≡ ds
  unfolding fixt
  digits_between = ap (λ (l : Bytes). before 1 (drop 13 l)) (regroup fixt.mark ds b tl) ∙ before-plain ds (b ++ tl) h

  body_between : body_in (front fixt ds b ++ tl) ≡ b
  unfolding body_in fixt tl
  body_between =
      let nine : Plain (fix "9=") = (((λ x. omega arith), omega arith), (((λ x. omega arith), omega arith), tt)) in
      let c : behind 1 (behind 1 (front fixt ds b ++ tl)) ≡ b ++ tl =
      ap (λ (l : Bytes). behind 1 (behind 1 l)) (regroup fixt.mark ds b tl) ∙ behind-plain (fix "9=" ++ ds) (b ++ tl) (plain-append (fix "9=") ds nine h) in
      ap (λ (l : Bytes). take (length l - 7) l) c ∙ take_at b tl (length (b ++ tl) - 7) (omega (arith, length-append b tl))

-- of what is written
pub body_back : (b : Bytes) → body_in (framed b) ≡ b
unfolding tl
body_back b = ap body_in (framed_is b) ∙ body_between (decimal (length b)) b (plain-decimal (length b))

-- two bodies in the same frame are the same
pub framed_one : (b c : Bytes) → framed b ≡ framed c → b ≡ c
framed_one b c e = sym (body_back b) ∙ ap body_in e ∙ body_back c

-- of a good frame
digits-plain : (l : Bytes) → all digit l ≡ true → Plain l
digits-plain [] h = tt
digits-plain (d ∷ l) h =
    let w = both (digit d) (all digit l) h in let D = digit_is d w.0 in (((λ x. omega arith), omega arith), digits-plain l w.1)

module _ (f : Bytes) (G : Good fixt f) where
  its_digits : Plain G.digits
  its_digits = digits-plain G.digits (written_means fixt.size G.digits G.len.written).whole

  digits_is : digits_in f ≡ G.digits
  unfolding tl
  digits_is = ap digits_in G.whole ∙ digits_between G.digits G.body its_digits

  pub body_is : body_in f ≡ G.body
  unfolding tl
  body_is = ap body_in G.whole ∙ body_between G.digits G.body its_digits

-- WHERE BYTES OCCUR
starts_at : (m s : Bytes) → At s 0 m → starts m s ≡ true
starts_at [] s a = refl
starts_at (y ∷ m) [] a = absurd (omega (arith, a.0))
starts_at (y ∷ m) (x ∷ s) a =
    let e : x ≡ y = ap (λ (l : Bytes). get_or l 0 0) a.1 in
    rw (eq-eqb y x (sym e)) (starts_at m s (omega (arith, a.0), ap (drop 1) a.1))

at_starts : (m s : Bytes) → starts m s ≡ true → At s 0 m
at_starts [] s h = (omega arith, refl)
at_starts (y ∷ m) [] h = absurd (false≢true h)
at_starts (y ∷ m) (x ∷ s) h =
    let w = both (eqb y x) (starts m s) h in
    let r = at_starts m s w.1 in
    (omega (arith, r.0), rw (eqb-true y x w.0) (ap (λ (l : Bytes). x ∷ l) r.1))

occurs_at : (m s : Bytes) (q : ℕ) → 0 < length m → At s q m → occurs m s ≡ true
occurs_at m [] q h a = absurd (omega (arith, a.0))
occurs_at m (x ∷ s) zero h a = rw (starts_at m (x ∷ s) a)
occurs_at m (x ∷ s) (suc q) h a = or_last (starts m (x ∷ s)) (occurs m s) (occurs_at m s q h (omega (arith, a.0), a.1))

at_occurs : (m s : Bytes) → occurs m s ≡ true → (q : ℕ) × At s q m
at_occurs m [] e = (0, at_starts m [] e)
at_occurs m (x ∷ s) e = go (starts m (x ∷ s)) refl e (at_occurs m s)
  where
    go : (b : Bool) → starts m (x ∷ s) ≡ b → (b || occurs m s) ≡ true → (occurs m s ≡ true → (q : ℕ) × At s q m) → (q : ℕ) × At (x ∷ s) q m
    go true k g f = (0, at_starts m (x ∷ s) k)
    go false k g f = let w : (q : ℕ) × At s q m = f g in (suc w.0, (omega (arith, w.1.0), w.1.1))

-- somewhere behind the first byte
behind_first : (m f : Bytes) → 0 < length m → occurs m (drop 1 f) ≡ true → (q : ℕ) × ((0 < q) × At f q m)
behind_first m [] h e = let w = at_occurs m [] e in absurd (omega (arith, w.1.0))
behind_first m (x ∷ f) h e = let w = at_occurs m f e in (suc w.0, (omega arith, (omega (arith, w.1.0), w.1.1)))

first_behind : (m f : Bytes) (q : ℕ) → 0 < q → 0 < length m → At f q m → occurs m (drop 1 f) ≡ true
first_behind m [] q l h a = absurd (omega (arith, a.0))
first_behind m (x ∷ f) zero l h a = absurd (omega arith)
first_behind m (x ∷ f) (suc q) l h a = occurs_at m f q h (omega (arith, a.0), a.1)

-- THE TEST AND THE MEANING
pub record IsBody (l : Bytes) : Type 0 where
  pub low : 5 ≤ length l
  pub high : length l ≤ 2048
  pub begins : At l 0 (fix "35=")
  pub ends : get_or l (length l - 1) 0 ≡ 1

pub body_true : (l : Bytes) → IsBody l → is_body l ≡ true
unfolding is_body
body_true l B = rw (is_within 5 2048 (length l) B.low B.high, starts_at (fix "35=") l B.begins, eq-eqb _ 1 B.ends)

pub body_means : (l : Bytes) → is_body l ≡ true → IsBody l
unfolding is_body
body_means l h =
    let a = both (within 5 2048 (length l) && starts (fix "35=") l) (eqb (get_or l (length l - 1) 0) 1) h in
    let b = both (within 5 2048 (length l)) (starts (fix "35=") l) a.0 in
    let c = within_is 5 2048 (length l) b.0 in
    record { low = c.0; high = c.1; begins = at_starts (fix "35=") l b.1; ends = eqb-true _ 1 a.1 }

-- a good frame passes
pub good_true : (f : Bytes) → Good fixt f → good f ≡ true
unfolding good fixt
good_true f G =
    let n : length G.body ≡ value G.digits = G.inner.sized in
    let B : IsBody G.body =
    record { low = omega (arith, G.len.low); high = omega (arith, G.len.high); begins = G.inner.begins; ends = ap (λ (k : ℕ). get_or G.body (k - 1) 0) n ∙ G.inner.ends } in
    rw (digits_is f G, body_is f G, G.len.written, eq-eqb (value G.digits) (length G.body) (sym n), body_true G.body B, ← G.whole, same_refl f)
    (go (occurs fixt.mark (drop 1 f)) refl)
  where
    go : (b : Bool) → occurs fixt.mark (drop 1 f) ≡ b → not b ≡ true
    go true e = let w = behind_first fixt.mark f (omega arith) e in absurd (G.once w.0 w.1.0 w.1.1)
    go false e = refl

-- what passes is a good frame, if it is of bytes
pub bytes_take : (n : ℕ) (l : Bytes) → ((i : ℕ) → get_or l i 0 < 256) → (i : ℕ) → get_or (take n l) i 0 < 256
bytes_take zero l h i = omega arith
bytes_take (suc n) [] h i = omega arith
bytes_take (suc n) (x ∷ l) h zero = h 0
bytes_take (suc n) (x ∷ l) h (suc i) = bytes_take n l (λ j. h (suc j)) i

bytes-behind : (l : Bytes) → ((i : ℕ) → get_or l i 0 < 256) → (i : ℕ) → get_or (behind 1 l) i 0 < 256
bytes-behind [] h = h
bytes-behind (x ∷ l) h = go (eqb x 1) (bytes-behind l (λ j. h (suc j)))
  where
    go : (b : Bool) → ((i : ℕ) → get_or (behind 1 l) i 0 < 256) → (i : ℕ) → get_or (cond b l (behind 1 l)) i 0 < 256
    go true k = λ j. h (suc j)
    go false k = k

pub true_good : (f : Bytes) → ((i : ℕ) → get_or f i 0 < 256) → good f ≡ true → Good fixt f
unfolding good fixt body_in
true_good f bytes h =
    let ds = digits_in f in
    let b = body_in f in
    let x = both (writes fixt.size ds && eqb (value ds) (length b) && is_body b && same f (front fixt ds b ++ trailer (sum_of fixt ds b))) (not (occurs fixt.mark (drop 1 f))) h in
    let y = both (writes fixt.size ds && eqb (value ds) (length b) && is_body b) (same f (front fixt ds b ++ trailer (sum_of fixt ds b))) x.0 in
    let z = both (writes fixt.size ds && eqb (value ds) (length b)) (is_body b) y.0 in
    let w = both (writes fixt.size ds) (eqb (value ds) (length b)) z.0 in
    let n : value ds ≡ length b = eqb-true (value ds) (length b) w.1 in
    let B : IsBody b = body_means b z.1 in
    let rest : Bytes = behind 1 (behind 1 f) in
    record {
      digits = ds;
      body = b;
      len = record { written = w.0; low = omega (arith, B.low); high = omega (arith, B.high) };
      inner =
          record {
            sized = sym n;
            begins = B.begins;
            ends = ap (λ (k : ℕ). get_or b (k - 1) 0) n ∙ B.ends;
            bytes = bytes_take (length rest - 7) rest (bytes-behind (behind 1 f) (bytes-behind f bytes));
          };
      whole = same_true f (front fixt ds b ++ trailer (sum_of fixt ds b)) y.1;
      once = λ q l a.
          let o : occurs fixt.mark (drop 1 f) ≡ true = first_behind fixt.mark f q l (omega arith) a in
          false≢true (sym (ap not o) ∙ x.1);
    }
