-- The instances of group 453 in a clean report are its parties: three fields each, the i-th of each tag.
-- Assumes nothing.
use Prim.Native.Nat.{ℕ, zero, suc, ◌≤◌}
use native.Mathlib.Omega.{arith}
use borrow.Author.Tests.{eq-eqb, eqb-true}
use mathlib.Core.Path.{◌≡◌, refl, ap, sym, ◌∙◌, subst}
use mathlib.Core.List.{List, [], ◌∷◌, map}
use mathlib.Core.Bool.{Bool, true, false, cond, ◌||◌, false≢true}
use mathlib.Core.Logic.{◌⊎◌, inl, inr}
use lib.Dec.{eqb}
use lib.ListN.{length, drop}
use Rattle.octets.specs.Bytes.{Bytes, has, starts}
use Rattle.fields.specs.Field.{Part, field, malformed, part_of, parts}
use Rattle.fields.proofs.Firsts.{tagged, tag_part}
use Rattle.table.specs.Dictionary.{№453, listed}
use Rattle.dictionary.specs.Verdict.{first_member}
use Rattle.dictionary.specs.Groups.{required, kept, fields_among, Instances, ended, begins, follows}
use Rattle.dictionary.proofs.Clean.{part-starts}
use Rattle.dictionary.proofs.Counting.{those, those-fields}
use Rattle.report.specs.Values.{Party}
use Rattle.report.specs.Report.{every_of_parts, every_field, parties_of, parties_in}
use Rattle.readback.specs.Promise.{Parties, no_party, ordered, turned}

-- EVERY FIELD OF A TAG: the values of the fields with this tag
module _ (t : ℕ) (low : 1 ≤ t) (high : t ≤ 99_999) where
  pub every_of : (ps : List Bytes) → every_of_parts (tagged t) ps ≡ map (λ (f : ℕ × Bytes). f.1) (fields_among (eqb t) ps)
  every_of [] = refl
  every_of (p ∷ ps) = go (starts (tagged t) p) (part_of p) refl refl (every_of ps)
    where
      go : (b : Bool) (q : Part) → starts (tagged t) p ≡ b → part_of p ≡ q → every_of_parts (tagged t) ps ≡ map (λ (f : ℕ × Bytes). f.1) (fields_among (eqb t) ps)
          → cond b (drop (length (tagged t)) p ∷ every_of_parts (tagged t) ps) (every_of_parts (tagged t) ps) ≡ map (λ (f : ℕ × Bytes). f.1) (kept (eqb t) q (fields_among (eqb t) ps))
      go true malformed s e ih = let z = sym e ∙ tag_part t p low high s in let y : ◌≡◌ {A = ℕ} 0 1 = cc in absurd (omega arith)
      go true (field u v) s e ih =
          let z = sym e ∙ tag_part t p low high s in
          let x : u ≡ t = cc in
          let y : v ≡ drop (length (tagged t)) p = cc in
          rw (x, eq-eqb t t refl, y, ih)
      go false malformed s e ih = ih
      go false (field u v) s e ih = by (eqb t u) refl
        where
          by : (c : Bool) → eqb t u ≡ c → every_of_parts (tagged t) ps ≡ map (λ (f : ℕ × Bytes). f.1) (cond c ((u, v) ∷ fields_among (eqb t) ps) (fields_among (eqb t) ps))
          by true x = absurd (false≢true (sym s ∙ part-starts t p v (e ∙ ap (λ (n : ℕ). field n v) (sym (eqb-true t u x)))))
          by false x = ih

  every_field_lem : (body : Bytes) → every_field t body ≡ map (λ (f : ℕ × Bytes). f.1) (fields_among (eqb t) (parts body))
  unfolding every_field
  every_field_lem body = every_of (parts body)

-- ONE INSTANCE: 448, then 447 and 452 in either order
others_are : (t : ℕ) → listed №453.members t ≡ true → first_member №453.members t ≡ false → (t ≡ 447) ⊎ (t ≡ 452)
unfolding №453
others_are t x f = go (eqb 447 t) (eqb 452 t) refl refl (rw f at x)
  where
    go : (a b : Bool) → eqb 447 t ≡ a → eqb 452 t ≡ b → (a || (b || false)) ≡ true → (t ≡ 447) ⊎ (t ≡ 452)
    go true b e g h = inl (sym (eqb-true 447 t e))
    go false true e g h = inr (sym (eqb-true 452 t g))
    go false false e g h = absurd (false≢true h)

first_is : (t : ℕ) → first_member №453.members t ≡ true → 448 ≡ t
unfolding №453
first_is t f = eqb-true 448 t f

-- behind all three nothing follows
third : {fs : List (ℕ × Bytes)} {n : ℕ} {t u : ℕ} → has (t ∷ u ∷ 448 ∷ []) 447 ≡ true → has (t ∷ u ∷ 448 ∷ []) 452 ≡ true → Instances №453 (t ∷ u ∷ 448 ∷ []) fs n → Instances №453 [] fs n
third a b (ended W) = ended tt
third a b (begins W f I) = begins tt f I
third {t = t} {u} a b (follows {t = s} x f h I) = absurd (go (others_are s x f))
  where
    go : (s ≡ 447) ⊎ (s ≡ 452) → ⊥
    go (inl e) = false≢true (sym h ∙ ap (has (t ∷ u ∷ 448 ∷ [])) e ∙ a)
    go (inr e) = false≢true (sym h ∙ ap (has (t ∷ u ∷ 448 ∷ [])) e ∙ b)

-- so many instances behind the field of such a tag
record Then (t : ℕ) (fs : List (ℕ × Bytes)) (n : ℕ) : Type 0 where
  v : Bytes
  rest : List (ℕ × Bytes)
  is : fs ≡ (t, v) ∷ rest
  more : Instances №453 [] rest n

-- the second of a pair behind the first, ..
second : (t u : ℕ) → has (t ∷ 448 ∷ []) u ≡ false → required №453.members u ≡ true → ((s : ℕ) → (s ≡ 447) ⊎ (s ≡ 452) → (s ≡ t) ⊎ (s ≡ u)) → has (t ∷ 448 ∷ []) t ≡ true
    → has (u ∷ t ∷ 448 ∷ []) 447 ≡ true → has (u ∷ t ∷ 448 ∷ []) 452 ≡ true → {fs : List (ℕ × Bytes)} {n : ℕ} → Instances №453 (t ∷ 448 ∷ []) fs n → Then u fs n
second t u l r o y a b (ended W) = absurd (false≢true (sym l ∙ W u r))
second t u l r o y a b (begins W f I) = absurd (false≢true (sym l ∙ W u r))
second t u l r o y a b {fs} {n} (follows {t = s} {v = v} {fs = rest} x f h I) = go (o s (others_are s x f))
  where
    go : (s ≡ t) ⊎ (s ≡ u) → Then u ((s, v) ∷ rest) n
    go (inl e) = absurd (false≢true (sym h ∙ ap (has (t ∷ 448 ∷ [])) e ∙ y))
    go (inr e) = record { v = v; rest = rest; is = rw e; more = third a b (subst (λ (k : ℕ). Instances №453 (k ∷ t ∷ 448 ∷ []) rest n) e I) }

swap : (s : ℕ) → (s ≡ 447) ⊎ (s ≡ 452) → (s ≡ 452) ⊎ (s ≡ 447)
swap s (inl e) = inr e
swap s (inr e) = inl e

-- .. and the first behind 448
record Both (fs : List (ℕ × Bytes)) (n : ℕ) : Type 0 where
  b : Bytes
  c : Bytes
  rest : List (ℕ × Bytes)
  is : (fs ≡ (447, b) ∷ (452, c) ∷ rest) ⊎ (fs ≡ (452, c) ∷ (447, b) ∷ rest)
  more : Instances №453 [] rest n

two_more : {fs : List (ℕ × Bytes)} {n : ℕ} → Instances №453 (448 ∷ []) fs n → Both fs n
unfolding №453
two_more (ended W) = absurd (false≢true (W 447 refl))
two_more (begins W f I) = absurd (false≢true (W 447 refl))
two_more {fs} {n} (follows {t = s} {v = v} {fs = l} x f h I) = go (others_are s x f)
  where
    go : (s ≡ 447) ⊎ (s ≡ 452) → Both ((s, v) ∷ l) n
    go (inl e) =
        let T = second 447 452 refl refl (λ k q. q) refl refl refl (subst (λ (k : ℕ). Instances №453 (k ∷ 448 ∷ []) l n) e I) in
        record { b = v; c = T.v; rest = T.rest; is = inl (rw e (ap (λ (r : List (ℕ × Bytes)). (447, v) ∷ r) T.is)); more = T.more }
    go (inr e) =
        let T = second 452 447 refl refl swap refl refl refl (subst (λ (k : ℕ). Instances №453 (k ∷ 448 ∷ []) l n) e I) in
        record { b = T.v; c = v; rest = T.rest; is = inr (rw e (ap (λ (r : List (ℕ × Bytes)). (452, v) ∷ r) T.is)); more = T.more }

-- ALL OF THEM
pub record PartiesOf (fs : List (ℕ × Bytes)) (n : ℕ) : Type 0 where
  pub parties : List Party
  pub are : Parties fs parties
  pub long : length parties ≡ n

pub parties_of_lem : (n : ℕ) {fs : List (ℕ × Bytes)} → Instances №453 [] fs n → PartiesOf fs n
parties_of_lem zero (ended W) = record { parties = []; are = no_party; long = refl }
parties_of_lem (suc n) (begins {t = t} {v = a} {fs = fs} W f I) = go (two_more (subst (λ (k : ℕ). Instances №453 (k ∷ []) fs n) (sym (first_is t f)) I)) (first_is t f) (λ r J. parties_of_lem n J)
  where
    go : Both fs n → 448 ≡ t → ((r : List (ℕ × Bytes)) → Instances №453 [] r n → PartiesOf r n) → PartiesOf ((t, a) ∷ fs) (suc n)
    go B e ih = by B.is (ih B.rest B.more)
      where
        by : (fs ≡ (447, B.b) ∷ (452, B.c) ∷ B.rest) ⊎ (fs ≡ (452, B.c) ∷ (447, B.b) ∷ B.rest) → PartiesOf B.rest n → PartiesOf ((t, a) ∷ fs) (suc n)
        by (inl q) P = record { parties = record { its448 = a; its447 = B.b; its452 = B.c } ∷ P.parties; are = rw (q, ← e) (ordered P.are); long = ap suc P.long }
        by (inr q) P = record { parties = record { its448 = a; its447 = B.b; its452 = B.c } ∷ P.parties; are = rw (q, ← e) (turned P.are); long = ap suc P.long }

-- THE i-TH OF EACH TAG belongs to the i-th party
values : List (ℕ × Bytes) → List Bytes
values fs = map (λ (f : ℕ × Bytes). f.1) fs

its_448 : {fs : List (ℕ × Bytes)} {ps : List Party} → Parties fs ps → values (those 448 fs) ≡ map (λ (p : Party). p.its448) ps
unfolding values
its_448 no_party = refl
its_448 (ordered {a = a} P) = ap (λ (l : List Bytes). a ∷ l) (its_448 P)
its_448 (turned {a = a} P) = ap (λ (l : List Bytes). a ∷ l) (its_448 P)

its_447 : {fs : List (ℕ × Bytes)} {ps : List Party} → Parties fs ps → values (those 447 fs) ≡ map (λ (p : Party). p.its447) ps
unfolding values
its_447 no_party = refl
its_447 (ordered {b = b} P) = ap (λ (l : List Bytes). b ∷ l) (its_447 P)
its_447 (turned {b = b} P) = ap (λ (l : List Bytes). b ∷ l) (its_447 P)

its_452 : {fs : List (ℕ × Bytes)} {ps : List Party} → Parties fs ps → values (those 452 fs) ≡ map (λ (p : Party). p.its452) ps
unfolding values
its_452 no_party = refl
its_452 (ordered {c = c} P) = ap (λ (l : List Bytes). c ∷ l) (its_452 P)
its_452 (turned {c = c} P) = ap (λ (l : List Bytes). c ∷ l) (its_452 P)

zipped_back : (ps : List Party) → parties_of (map (λ (p : Party). p.its448) ps) (map (λ (p : Party). p.its447) ps) (map (λ (p : Party). p.its452) ps) ≡ ps
zipped_back [] = refl
zipped_back (p ∷ ps) = ap (λ (l : List Party). p ∷ l) (zipped_back ps)

abbrev pub three : ℕ → Bool
three = has (448 ∷ 447 ∷ 452 ∷ [])

pub parties_are : (body : Bytes) (ps : List Party) → Parties (fields_among three (parts body)) ps → parties_in body ≡ ps
unfolding values
parties_are body ps P =
    rw (
      every_field_lem 448 (omega arith) (omega arith) body ∙ ap values (sym (those-fields three 448 refl (parts body))) ∙ its_448 P,
      every_field_lem 447 (omega arith) (omega arith) body ∙ ap values (sym (those-fields three 447 refl (parts body))) ∙ its_447 P,
      every_field_lem 452 (omega arith) (omega arith) body ∙ ap values (sym (those-fields three 452 refl (parts body))) ∙ its_452 P,
    )
    (zipped_back ps)
