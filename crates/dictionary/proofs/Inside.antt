-- Where a walk stands beside one group of its message: outside it, or in it with groups of its members open further in; and what a field that no
-- rule spoke of does to that.
-- Assumes nothing.
use Rattle.std.specs.Prelude.{Ok, Err}
use Prim.Native.Nat.{ℕ, ◌+◌}
use native.Mathlib.Omega.{arith}
use borrow.Author.Tests.{eqb-true, not-true}
use mathlib.Core.Path.{◌≡◌, refl, ap, sym, ◌∙◌}
use mathlib.Core.List.{List, [], ◌∷◌, ◌++◌}
use mathlib.Core.Bool.{Bool, true, false, cond, not, ◌&&◌, ◌||◌, false≢true}
use mathlib.Core.Logic.{◌⊎◌, inl, inr}
use lib.Dec.{eqb}
use Rattle.octets.specs.Bytes.{Bytes, all, any, value}
use Rattle.octets.proofs.Tests.{both, neither}
use Rattle.fields.specs.Field.{Part, field}
use Rattle.table.specs.Dictionary.{Row, Group, groups_of, member, listed, in_dictionary}
use Rattle.table.specs.declared.MsgType.{MsgType}
use Rattle.dictionary.specs.Verdict.{Says, Nothing, Open, ◌when◌, first_of, first_member, begins, ends, incomplete, closing, closing_all, rule1, left, opened, joined, taken}
use Rattle.dictionary.proofs.FourToEight.{listed_all}

-- all open groups are such
abbrev pub AllOpen : (Open → Type 0) → List Open → Type 0
AllOpen P [] = Unit {0}
AllOpen P (o ∷ os) = P o × AllOpen P os

-- no member of g is one of x; no member of x counts a group of the message
abbrev pub Apart : Group → Group → Type 0
Apart g x = (t : ℕ) → listed g.members t ≡ true → listed x.members t ≡ false

abbrev pub Leaf : MsgType → Group → Type 0
Leaf m x = (t : ℕ) (v : Bytes) → listed x.members t ≡ true → opened (groups_of m) t v ≡ []

abbrev pub Away : Group → List Open → Type 0
Away g os = AllOpen (λ (o : Open). Apart g o.group) os

abbrev pub Inner : MsgType → Group → Open → Type 0
Inner m g o = Apart g o.group × Leaf m o.group

abbrev pub at : Group → ℕ → ℕ → List ℕ → Open
at g c b l = record { group = g; count = c; begun = b; last = l }

-- g is open with this count, these instances begun and these members met, and behind it further out these groups
pub data In (m : MsgType) (g : Group) (c b : ℕ) (l : List ℕ) (gs : List Open) : List Open → Type 0 where
  here : In m g c b l gs (at g c b l ∷ gs)
  deeper : {x : Open} {os : List Open} → Inner m g x → In m g c b l gs os → In m g c b l gs (x ∷ os)

-- SAYINGS
pub two_silent : (a b : Says) → first_of (a ∷ b ∷ []) ≡ Nothing → (a ≡ Nothing) × (b ≡ Nothing)
two_silent (Ok _) (Ok _) h = (refl, refl)
two_silent (Ok _) (Err f) h = let z : ◌≡◌ {A = ℕ} 0 1 = cc in absurd (omega arith)
two_silent (Err f) b h = let z : ◌≡◌ {A = ℕ} 0 1 = cc in absurd (omega arith)

-- WHAT A FIELD LEAVES OPEN
pub left_all : (P : Open → Type 0) (os : List Open) (p : Part) → AllOpen P os → AllOpen P (left os p)
unfolding left
left_all P [] p A = tt
left_all P (o ∷ os) p A = go (ends o.group.members p) (left_all P os p A.1)
  where
    go : (b : Bool) → AllOpen P (left os p) → AllOpen P (cond b (left os p) (o ∷ os))
    go true k = k
    go false k = A

pub left_none : (g : Group) (os : List Open) (t : ℕ) (v : Bytes) → Away g os → listed g.members t ≡ true → left os (field t v) ≡ []
unfolding left
left_none g [] t v A h = refl
left_none g (o ∷ os) t v A h = rw (A.0 t h) (left_none g os t v A.1 h)

-- a member of g is found there ..
module _ {m : MsgType} {g : Group} {c b : ℕ} {l : List ℕ} {gs : List Open} (t : ℕ) (v : Bytes) where
  pub left_here : {os : List Open} → listed g.members t ≡ true → In m g c b l gs os → left os (field t v) ≡ at g c b l ∷ gs
  unfolding left
  left_here h here = rw h
  left_here h (deeper i I) = rw (i.0 t h) (left_here h I)

  pub rule1_here : {os : List Open} → listed g.members t ≡ true → In m g c b l gs os → rule1 os (field t v) ≡ Nothing → (incomplete (at g c b l) when first_member g.members t) ≡ Nothing
  unfolding rule1
  rule1_here h here k = rw h at k
  rule1_here h (deeper {x} {os} i I) k = rule1_here h I (two_silent (closing x) (rule1 os (field t v)) (rw (i.0 t h) at k)).1

-- .. and what is none either belongs to a group further in or closes g
pub record Stays (m : MsgType) (g : Group) (c b : ℕ) (l : List ℕ) (gs : List Open) (t : ℕ) (v : Bytes) (os : List Open) : Type 0 where
  pub x : Open
  pub xs : List Open
  pub is : left os (field t v) ≡ x ∷ xs
  pub its : listed x.group.members t ≡ true
  pub inner : Inner m g x
  pub further : In m g c b l gs xs

pub record Closes (o : Open) (gs : List Open) (t : ℕ) (v : Bytes) (os : List Open) : Type 0 where
  pub closed : closing o ≡ Nothing
  pub silent : rule1 gs (field t v) ≡ Nothing
  pub is : left os (field t v) ≡ left gs (field t v)

module _ {m : MsgType} {g : Group} {c b : ℕ} {l : List ℕ} {gs : List Open} (t : ℕ) (v : Bytes) where
  pub other_here : {os : List Open} → listed g.members t ≡ false → In m g c b l gs os → rule1 os (field t v) ≡ Nothing → Stays m g c b l gs t v os ⊎ Closes (at g c b l) gs t v os
  unfolding rule1 left
  other_here h here k =
      let s = two_silent (closing (at g c b l)) (rule1 gs (field t v)) (rw h at k) in
      inr (record { closed = s.0; silent = s.1; is = rw h })
  other_here h (deeper {x} {os} i I) k = go (listed x.group.members t) refl k (λ q. other_here h I q)
    where
      on : listed x.group.members t ≡ false → Stays m g c b l gs t v os ⊎ Closes (at g c b l) gs t v os → Stays m g c b l gs t v (x ∷ os) ⊎ Closes (at g c b l) gs t v (x ∷ os)
      on e (inl S) = inl (record { x = S.x; xs = S.xs; is = rw e S.is; its = S.its; inner = S.inner; further = S.further })
      on e (inr C) = inr (record { closed = C.closed; silent = C.silent; is = rw e C.is })

      go : (d : Bool) → listed x.group.members t ≡ d → cond (not d) (first_of (closing x ∷ rule1 os (field t v) ∷ [])) (incomplete x when begins x.group.members (field t v)) ≡ Nothing
          → (rule1 os (field t v) ≡ Nothing → Stays m g c b l gs t v os ⊎ Closes (at g c b l) gs t v os) → Stays m g c b l gs t v (x ∷ os) ⊎ Closes (at g c b l) gs t v (x ∷ os)
      go true e q f = inl (record { x = x; xs = os; is = rw e; its = e; inner = i; further = I })
      go false e q f = on e (f (two_silent (closing x) (rule1 os (field t v)) q).1)

pub closes_here : {m : MsgType} {g : Group} {c b : ℕ} {l : List ℕ} {gs os : List Open} → In m g c b l gs os → closing_all os ≡ Nothing → closing (at g c b l) ≡ Nothing
closes_here {g = g} {c} {b} {l} {gs} here k = (two_silent (closing (at g c b l)) (closing_all gs) k).0
closes_here (deeper {x} {os} i I) k = closes_here I (two_silent (closing x) (closing_all os) k).1

-- WHAT A FIELD OPENS AND JOINS
pub joined-group : (P : Group → Type 0) (o : Open) (t : ℕ) → P o.group → P (joined o t).group
joined-group P o t h = go (first_member o.group.members t)
  where
    go : (b : Bool) → P (cond {A = Open} b (record { group = o.group; count = o.count; begun = o.begun + 1; last = t ∷ [] }) (record { group = o.group; count = o.count; begun = o.begun; last = t ∷ o.last })).group
    go true = h
    go false = h

-- the groups that were open before, the innermost with one field more
abbrev pub further : List Open → ℕ → List Open
further [] t = []
further (o ∷ os) t = joined o t ∷ os

pub taken_inside : (m : MsgType) (seen : List ℕ) (os : List Open) (t : ℕ) (v : Bytes) → (taken m seen os t v).inside ≡ opened (groups_of m) t v ++ further os t
unfolding taken
taken_inside m seen [] t v = go (opened (groups_of m) t v)
  where
    go : (l : List Open) → l ≡ l ++ []
    go [] = refl
    go (x ∷ l) = ap (λ (k : List Open). x ∷ k) (go l)
taken_inside m seen (o ∷ os) t v = refl

pub further-away : (g : Group) (os : List Open) (t : ℕ) → Away g os → Away g (further os t)
further-away g [] t A = tt
further-away g (o ∷ os) t A = (joined-group (Apart g) o t A.0, A.1)

pub all_append : (P : Open → Type 0) (k l : List Open) → AllOpen P k → AllOpen P l → AllOpen P (k ++ l)
all_append P [] l A B = B
all_append P (o ∷ k) l A B = (A.0, all_append P k l A.1 B)

pub in_append : {m : MsgType} {g : Group} {c b : ℕ} {l : List ℕ} {gs : List Open} (k os : List Open) → AllOpen (Inner m g) k → In m g c b l gs os → In m g c b l gs (k ++ os)
in_append [] os A I = I
in_append (x ∷ k) os A I = deeper A.0 (in_append k os A.1 I)

-- A MESSAGE'S GROUPS THAT FIT TO SPEAK OF ONE OF THEM, by tests that compute
module _ (m : MsgType) (g : Group) where
  abbrev apart : Group → Bool
  apart x = all (λ (r : Row). not (listed x.members r.tag)) g.members

  abbrev leaf : Group → Bool
  leaf x = all (λ (r : Row). not (any (λ (y : Group). eqb y.counter r.tag) (groups_of m))) x.members

  pub record Tested : Type 0 where
    pub members : all (λ (r : Row). member m r.tag && in_dictionary r.tag) g.members ≡ true
    pub counter : (in_dictionary g.counter && not (listed g.members g.counter)) ≡ true
    pub others : all (λ (x : Group). eqb x.counter g.counter || apart x) (groups_of m) ≡ true
    pub inner : all (λ (x : Group). not (listed g.members x.counter) || (apart x && leaf x)) (groups_of m) ≡ true
    pub opens : (v : Bytes) → opened (groups_of m) g.counter v ≡ at g (value v) 0 [] ∷ []

  pub record Fit : Type 0 where
    pub member_of : (t : ℕ) → listed g.members t ≡ true → member m t ≡ true
    pub known : (t : ℕ) → listed g.members t ≡ true → in_dictionary t ≡ true
    pub counter_known : in_dictionary g.counter ≡ true
    pub counter_out : listed g.members g.counter ≡ false
    pub opens : (v : Bytes) → opened (groups_of m) g.counter v ≡ at g (value v) 0 [] ∷ []
    pub others : (t : ℕ) (v : Bytes) → eqb g.counter t ≡ false → Away g (opened (groups_of m) t v)
    pub inner : (t : ℕ) (v : Bytes) → listed g.members t ≡ true → AllOpen (Inner m g) (opened (groups_of m) t v)

opened_none : (gs : List Group) (t : ℕ) (v : Bytes) → any (λ (y : Group). eqb y.counter t) gs ≡ false → opened gs t v ≡ []
opened_none [] t v h = refl
opened_none (g ∷ gs) t v h = let w = neither (eqb g.counter t) (any (λ (y : Group). eqb y.counter t) gs) h in rw w.0 (opened_none gs t v w.1)

-- what is opened is of such groups as all those with this counter are
pub opened_all : (q : Group → Bool) (P : Open → Type 0) (gs : List Group) (t : ℕ) (v : Bytes) → all q gs ≡ true → ((x : Group) → q x ≡ true → eqb x.counter t ≡ true → P (at x (value v) 0 [])) → AllOpen P (opened gs t v)
opened_all q P [] t v h f = tt
opened_all q P (x ∷ gs) t v h f = let w = both (q x) (all q gs) h in go (eqb x.counter t) refl (f x w.0) (opened_all q P gs t v w.1 f)
  where
    go : (b : Bool) → eqb x.counter t ≡ b → (eqb x.counter t ≡ true → P (at x (value v) 0 [])) → AllOpen P (opened gs t v) → AllOpen P (cond b (at x (value v) 0 [] ∷ []) (opened gs t v))
    go true e k ih = (k e, tt)
    go false e k ih = ih

module _ (m : MsgType) (g : Group) where
  is_apart : (x : Group) → apart m g x ≡ true → Apart g x
  is_apart x h t k = not-true (listed x.members t) (listed_all (λ (n : ℕ). not (listed x.members n)) g.members h t k)

  is_leaf : (x : Group) → leaf m g x ≡ true → Leaf m x
  is_leaf x h t v k = opened_none (groups_of m) t v (not-true _ (listed_all (λ (n : ℕ). not (any (λ (y : Group). eqb y.counter n) (groups_of m))) x.members h t k))

  pub fit : Tested m g → Fit m g
  fit T =
      record {
        member_of = λ t k. (its t k).0;
        known = λ t k. (its t k).1;
        counter_known = counter.0;
        counter_out = not-true (listed g.members g.counter) counter.1;
        opens = T.opens;
        others = λ t v n. opened_all (λ (x : Group). eqb x.counter g.counter || apart m g x) (λ (o : Open). Apart g o.group) (groups_of m) t v T.others (λ x q e. other t n x (eqb x.counter g.counter) refl q e);
        inner = λ t v k. opened_all (λ (x : Group). not (listed g.members x.counter) || (apart m g x && leaf m g x)) (Inner m g) (groups_of m) t v T.inner (λ x q e. inner t k x (listed g.members x.counter) refl q e);
      }
    where
      counter : (in_dictionary g.counter ≡ true) × (not (listed g.members g.counter) ≡ true)
      counter = both (in_dictionary g.counter) (not (listed g.members g.counter)) T.counter

      its : (t : ℕ) → listed g.members t ≡ true → (member m t ≡ true) × (in_dictionary t ≡ true)
      its t k = both (member m t) (in_dictionary t) (listed_all (λ (n : ℕ). member m n && in_dictionary n) g.members T.members t k)

      other : (t : ℕ) → eqb g.counter t ≡ false → (x : Group) (b : Bool) → eqb x.counter g.counter ≡ b → (b || apart m g x) ≡ true → eqb x.counter t ≡ true → Apart g x
      other t n x true e q k = absurd (false≢true (sym n ∙ ap (λ (c : ℕ). eqb c t) (sym (eqb-true x.counter g.counter e)) ∙ k))
      other t n x false e q k = is_apart x q

      inner : (t : ℕ) → listed g.members t ≡ true → (x : Group) (b : Bool) → listed g.members x.counter ≡ b → (not b || (apart m g x && leaf m g x)) ≡ true → eqb x.counter t ≡ true → Apart g x × Leaf m x
      inner t k x true e q j = let w = both (apart m g x) (leaf m g x) q in (is_apart x w.0, is_leaf x w.1)
      inner t k x false e q j = absurd (false≢true (sym e ∙ ap (listed g.members) (eqb-true x.counter t j) ∙ k))
