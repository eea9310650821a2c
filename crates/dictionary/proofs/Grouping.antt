-- Along a clean walk the members of a group are whole instances, as many as its counts say.
-- Assumes nothing.
use Prim.Native.Nat.{ℕ, suc, ◌+◌, ◌≤◌}
use native.Mathlib.Omega.{arith}
use borrow.Author.Tests.{eqb-true}
use mathlib.Core.Path.{◌≡◌, refl, ap, sym, ◌∙◌, subst}
use mathlib.Core.List.{List, [], ◌∷◌, ◌++◌}
use mathlib.Core.Bool.{Bool, true, false, cond, not, false≢true}
use mathlib.Core.Logic.{◌⊎◌, inl, inr}
use lib.Dec.{eqb}
use Rattle.octets.specs.Bytes.{Bytes, has, value}
use Rattle.fields.specs.Field.{Part, field, malformed, part_of}
use Rattle.table.specs.Dictionary.{Group, header, fields, groups_of, member, listed}
use Rattle.table.specs.declared.MsgType.{MsgType}
use Rattle.dictionary.specs.Verdict.{Nothing, reason◌tag◌, Clean, Open, Past, ◌when◌, first_of, missing, first_member, incomplete, miscounted, closing, closing_all, rule1, rule2, rule3, rules4to10, rule8, left, skipped, said, opened, joined, taken, after, walk, nothing_yet}
use Rattle.dictionary.specs.Groups.{kept, fields_among, Whole, Instances, ended, begins, follows}
use Rattle.dictionary.proofs.Turns.{silent, silent_at, known_not_skipped}
use Rattle.dictionary.proofs.Clean.{by_clean, when_so, none_missing}
use Rattle.dictionary.proofs.Inside.{Away, at, In, here, deeper, two_silent, left_all, left_none, left_here, rule1_here, Stays, Closes, other_here, closes_here, joined-group, further, taken_inside, further-away, all_append, in_append, Apart, Leaf, Fit}

-- SAYINGS
said-rule1 : (m : MsgType) (w : Past) (q : Part) → said m w q ≡ Nothing → rule1 w.inside q ≡ Nothing
unfolding said
said-rule1 m w malformed h = silent_at (rule1 w.inside malformed ∷ rule2 malformed ∷ []) (sym h) 0 (omega arith)
said-rule1 m w (field t v) h = silent_at (rule1 w.inside (field t v) ∷ rule2 (field t v) ∷ rule3 m t ∷ cond (skipped m t) [] (rules4to10 m w t v)) (sym h) 0 (omega arith)

pub malformed-said : (m : MsgType) (w : Past) → said m w malformed ≡ Nothing → ⊥
unfolding said rule2
malformed-said m w h = let n = silent_at (rule1 w.inside malformed ∷ reason 0 tag 0 ∷ []) (sym h) 1 (omega arith) in let z : ◌≡◌ {A = ℕ} 0 1 = cc in omega arith

-- a walk that leaves the same open says the same, and goes on as it
module _ (m : MsgType) (seen : List ℕ) (os gs : List Open) (t : ℕ) (v : Bytes) (e : left os (field t v) ≡ left gs (field t v)) where
  same_said : rule1 os (field t v) ≡ Nothing → rule1 gs (field t v) ≡ Nothing → said m (record { seen = seen; inside = os }) (field t v) ≡ said m (record { seen = seen; inside = gs }) (field t v)
  unfolding said rules4to10
  same_said a b = rw (a, b, e)

  same_after : after m (record { seen = seen; inside = os }) (field t v) ≡ after m (record { seen = seen; inside = gs }) (field t v)
  unfolding after
  same_after = rw e

-- where the walk stands behind a field
pub inside_after : (m : MsgType) (w : Past) (t : ℕ) (v : Bytes) (P : List Open → Type 0) → P (left w.inside (field t v)) → P (opened (groups_of m) t v ++ further (left w.inside (field t v)) t) → P (after m w (field t v)).inside
unfolding after
inside_after m w t v P a b = go (skipped m t)
  where
    go : (s : Bool) → P (cond {A = Past} s (record { seen = w.seen; inside = left w.inside (field t v) }) (taken m w.seen (left w.inside (field t v)) t v)).inside
    go true = a
    go false = subst P (sym (taken_inside m w.seen (left w.inside (field t v)) t v)) b

inside_known : (m : MsgType) (w : Past) (t : ℕ) (v : Bytes) (gs : List Open) → skipped m t ≡ false → left w.inside (field t v) ≡ gs → (after m w (field t v)).inside ≡ opened (groups_of m) t v ++ further gs t
unfolding after
inside_known m w t v gs k l = rw (k, l) (taken_inside m w.seen gs t v)

-- INSTANCES: what is left of the members, and of what count fields say together
abbrev pub counts : List (ℕ × Bytes) → ℕ
counts [] = 0
counts (f ∷ fs) = value f.1 + counts fs

pub record Left (g : Group) (l : List ℕ) (b c : ℕ) (fs cs : List (ℕ × Bytes)) : Type 0 where
  pub number : ℕ
  pub instances : Instances g l fs number
  pub counted : b + number ≡ c + counts cs

-- as many are begun as members are met
abbrev Begun : ℕ → List ℕ → Type 0
Begun b [] = b ≡ 0
Begun b (u ∷ l) = 1 ≤ b

module _ (g : Group) where
  whole_by : (c b : ℕ) (l : List ℕ) → Begun b l → incomplete (at g c b l) ≡ Nothing → Whole g l
  unfolding incomplete
  whole_by c b [] B h = tt
  whole_by c b (u ∷ l) B h = go (eqb b 0) refl h
    where
      go : (z : Bool) → eqb b 0 ≡ z → (missing g.members (u ∷ l) when not z) ≡ Nothing → Whole g (u ∷ l)
      go true e k = absurd (omega (arith, eqb-true b 0 e))
      go false e k = λ t r. none_missing g.members (u ∷ l) t r k

  closed_by : (c b : ℕ) (l : List ℕ) → Begun b l → closing (at g c b l) ≡ Nothing → Whole g l × (b ≡ c)
  unfolding closing
  closed_by c b l B h =
      let s = two_silent (incomplete (at g c b l)) (miscounted (at g c b l)) h in
      (whole_by c b l B s.0, eqb-true b c (so (eqb b c) s.1))
    where
      so : (z : Bool) → (reason 16 tag g.counter when not z) ≡ Nothing → z ≡ true
      so true k = refl
      so false k = let z : ◌≡◌ {A = ℕ} 0 1 = cc in absurd (omega arith)

  -- behind a whole instance as where none has begun
  resumed : {fs : List (ℕ × Bytes)} {n : ℕ} (l : List ℕ) → Whole g l → Instances g [] fs n → Instances g l fs n
  resumed l W (ended x) = ended W
  resumed l W (begins x f I) = begins W f I

module _ (m : MsgType) (g : Group) (F : Fit m g) where
  abbrev mine : List Bytes → List (ℕ × Bytes)
  mine ps = fields_among (listed g.members) ps

  abbrev said_of : List Bytes → List (ℕ × Bytes)
  said_of ps = fields_among (eqb g.counter) ps

  record Along (ps : List Bytes) : Type 0 where
    outside : (w : Past) → Away g w.inside → walk m w ps ≡ Clean → Left g [] 0 0 (mine ps) (said_of ps)
    inside : (w : Past) (c b : ℕ) (l : List ℕ) (gs : List Open) → In m g c b l gs w.inside → Away g gs → Begun b l → walk m w ps ≡ Clean → Left g l b c (mine ps) (said_of ps)

  counter_apart : (t : ℕ) → listed g.members t ≡ true → eqb g.counter t ≡ false
  counter_apart t h = go (eqb g.counter t) refl
    where
      go : (b : Bool) → eqb g.counter t ≡ b → b ≡ false
      go true e = absurd (false≢true (sym F.counter_out ∙ ap (listed g.members) (eqb-true g.counter t e) ∙ h))
      go false e = refl

  module _ (ps : List Bytes) (A : Along ps) where
    -- A FIELD WHERE g IS NOT OPEN: no member; its count opens it; any other leaves it so
    counts_it : (w : Past) (t : ℕ) (v : Bytes) → Away g w.inside → walk m (after m w (field t v)) ps ≡ Clean → eqb g.counter t ≡ true → Left g [] 0 0 (mine ps) ((t, v) ∷ said_of ps)
    counts_it w t v W k y =
        let e = eqb-true g.counter t y in
        let o : opened (groups_of m) t v ≡ at g (value v) 0 [] ∷ [] = subst (λ (n : ℕ). opened (groups_of m) n v ≡ at g (value v) 0 [] ∷ []) e (F.opens v) in
        let s : skipped m t ≡ false = subst (λ (n : ℕ). skipped m n ≡ false) e (known_not_skipped m g.counter F.counter_known) in
        let gs : List Open = further (left w.inside (field t v)) t in
        let i : (after m w (field t v)).inside ≡ at g (value v) 0 [] ∷ gs = inside_known m w t v (left w.inside (field t v)) s refl ∙ ap (λ (x : List Open). x ++ gs) o in
        let L = A.inside (after m w (field t v)) (value v) 0 [] gs (subst (In m g (value v) 0 [] gs) (sym i) here) (further-away g (left w.inside (field t v)) t (left_all (λ (o : Open). Apart g o.group) w.inside (field t v) W)) refl k in
        record { number = L.number; instances = L.instances; counted = omega (arith, L.counted) }

    no_member : (w : Past) (t : ℕ) (v : Bytes) → Away g w.inside → said m w (field t v) ≡ Nothing → listed g.members t ≡ true → ⊥
    unfolding rule8
    no_member w t v W h x =
        let e = (silent m w t v (F.known t x) (sym h)).silent8 in
        let q = when_so (member m t) 15 t (rw (left_none g w.inside t v W x) at e) in
        false≢true (sym q ∙ F.member_of t x)

    from_outside : (w : Past) (q : Part) → Away g w.inside → said m w q ≡ Nothing → walk m (after m w q) ps ≡ Clean
        → Left g [] 0 0 (kept (listed g.members) q (mine ps)) (kept (eqb g.counter) q (said_of ps))
    from_outside w malformed W h k = absurd (malformed-said m w h)
    from_outside w (field t v) W h k = go (listed g.members t) (eqb g.counter t) refl refl
      where
        stays : Away g (left w.inside (field t v))
        stays = left_all (λ (o : Open). Apart g o.group) w.inside (field t v) W

        go : (a b : Bool) → listed g.members t ≡ a → eqb g.counter t ≡ b → Left g [] 0 0 (cond a ((t, v) ∷ mine ps) (mine ps)) (cond b ((t, v) ∷ said_of ps) (said_of ps))
        go true b x y = absurd (no_member w t v W h x)
        go false true x y = counts_it w t v W k y
        go false false x y =
            A.outside (after m w (field t v)) (inside_after m w t v (Away g) stays (all_append (λ (o : Open). Apart g o.group) (opened (groups_of m) t v) (further (left w.inside (field t v)) t) (F.others t v y) (further-away g (left w.inside (field t v)) t stays))) k

    -- A MEMBER WHERE g IS OPEN: it begins an instance or follows in one
    module _ (w : Past) (c b : ℕ) (l : List ℕ) (gs : List Open) (I : In m g c b l gs w.inside) (G : Away g gs) (B : Begun b l) (t : ℕ) (v : Bytes) (h : said m w (field t v) ≡ Nothing) (k : walk m (after m w (field t v)) ps ≡ Clean) where
      behind_member : listed g.members t ≡ true → (l' : List ℕ) (b' : ℕ) → joined (at g c b l) t ≡ at g c b' l' → Begun b' l' → Left g l' b' c (mine ps) (said_of ps)
      behind_member x l' b' j B' =
          let i = inside_known m w t v (at g c b l ∷ gs) (known_not_skipped m t (F.known t x)) (left_here t v x I) ∙ ap (λ (o : Open). opened (groups_of m) t v ++ (o ∷ gs)) j in
          A.inside (after m w (field t v)) c b' l' gs (subst (In m g c b' l' gs) (sym i) (in_append (opened (groups_of m) t v) (at g c b' l' ∷ gs) (F.inner t v x) here)) G B' k

      begins_one : listed g.members t ≡ true → first_member g.members t ≡ true → Left g l b c ((t, v) ∷ mine ps) (said_of ps)
      begins_one x f =
          let L = behind_member x (t ∷ []) (b + 1) (rw f) (omega arith) in
          let W = whole_by g c b l B (rw f at (rule1_here t v x I (said-rule1 m w (field t v) h))) in
          record { number = suc L.number; instances = begins W f L.instances; counted = omega (arith, L.counted) }

      said_8 : listed g.members t ≡ true → first_member g.members t ≡ false → (eqb b 0 ≡ false) × (has l t ≡ false)
      unfolding rule8
      said_8 x f =
          let s = two_silent (reason 15 tag t when eqb b 0) (reason 13 tag t when has l t) (rw (left_here t v x I, f) at (silent m w t v (F.known t x) (sym h)).silent8) in
          (when_so (eqb b 0) 15 t s.0, when_so (has l t) 13 t s.1)

    follows_one : (w : Past) (c b : ℕ) (l : List ℕ) (gs : List Open) (I : In m g c b l gs w.inside) → Away g gs → (B : Begun b l) (t : ℕ) (v : Bytes) → said m w (field t v) ≡ Nothing → walk m (after m w (field t v)) ps ≡ Clean
        → listed g.members t ≡ true → first_member g.members t ≡ false → Left g l b c ((t, v) ∷ mine ps) (said_of ps)
    follows_one w c b [] gs I G B t v h k x f = absurd (false≢true (sym (said_8 w c b [] gs I G B t v h k x f).0 ∙ ap (λ (n : ℕ). eqb n 0) B))
    follows_one w c b (u ∷ l) gs I G B t v h k x f =
        let L = behind_member w c b (u ∷ l) gs I G B t v h k x (t ∷ u ∷ l) b (rw f) B in
        record { number = L.number; instances = follows x f (said_8 w c b (u ∷ l) gs I G B t v h k x f).1 L.instances; counted = L.counted }

    from_inside : (w : Past) (c b : ℕ) (l : List ℕ) (gs : List Open) (q : Part) → In m g c b l gs w.inside → Away g gs → Begun b l → said m w q ≡ Nothing → walk m (after m w q) ps ≡ Clean
        → Left g l b c (kept (listed g.members) q (mine ps)) (kept (eqb g.counter) q (said_of ps))
    from_inside w c b l gs malformed I G B h k = absurd (malformed-said m w h)
    from_inside w c b l gs (field t v) I G B h k = go (listed g.members t) (first_member g.members t) refl refl
      where
        -- any other stays further in, ..
        staying : Stays m g c b l gs t v w.inside → listed g.members t ≡ false → Left g l b c (mine ps) (cond (eqb g.counter t) ((t, v) ∷ said_of ps) (said_of ps))
        staying S x = by (eqb g.counter t) refl
          where
            none_opened : opened (groups_of m) t v ≡ []
            none_opened = S.inner.1 t v S.its

            by : (d : Bool) → eqb g.counter t ≡ d → Left g l b c (mine ps) (cond d ((t, v) ∷ said_of ps) (said_of ps))
            by true e =
                let n = sym none_opened ∙ subst (λ (n : ℕ). opened (groups_of m) n v ≡ at g (value v) 0 [] ∷ []) (eqb-true g.counter t e) (F.opens v) in
                let z : ◌≡◌ {A = ℕ} 0 1 = cc in
                absurd (omega arith)
            by false e =
                A.inside (after m w (field t v)) c b l gs (inside_after m w t v (In m g c b l gs) (rw S.is (deeper S.inner S.further))
                (rw (none_opened, S.is) (deeper (joined-group (λ (y : Group). Apart g y × Leaf m y) S.x t S.inner) S.further))) G B k

        -- .. or closes g
        shutting : Closes (at g c b l) gs t v w.inside → Left g l b c (kept (listed g.members) (field t v) (mine ps)) (kept (eqb g.counter) (field t v) (said_of ps))
        shutting C =
            let w' : Past = record { seen = w.seen; inside = gs } in
            let s = sym (same_said m w.seen w.inside gs t v C.is (said-rule1 m w (field t v) h) C.silent) ∙ h in
            let L = from_outside w' (field t v) G s (subst (λ (y : Past). walk m y ps ≡ Clean) (same_after m w.seen w.inside gs t v C.is) k) in
            let E = closed_by g c b l B C.closed in
            record { number = L.number; instances = resumed g l E.0 L.instances; counted = omega (arith, L.counted, E.1) }

        other : listed g.members t ≡ false → Stays m g c b l gs t v w.inside ⊎ Closes (at g c b l) gs t v w.inside
            → Left g l b c (kept (listed g.members) (field t v) (mine ps)) (kept (eqb g.counter) (field t v) (said_of ps))
        other x (inl S) = rw x (staying S x)
        other x (inr C) = shutting C

        go : (a f : Bool) → listed g.members t ≡ a → first_member g.members t ≡ f → Left g l b c (kept (listed g.members) (field t v) (mine ps)) (kept (eqb g.counter) (field t v) (said_of ps))
        go true true x y = rw (x, counter_apart t x) (begins_one w c b l gs I G B t v h k x y)
        go true false x y = rw (x, counter_apart t x) (follows_one w c b l gs I G B t v h k x y)
        go false f x y = other x (other_here t v x I (said-rule1 m w (field t v) h))

  along : (ps : List Bytes) → Along ps
  along [] = record {
    outside = λ w W k. record { number = 0; instances = ended tt; counted = refl };
    inside = λ w c b l gs I G B k.
        let s = two_silent (closing_all w.inside) (missing (header ++ fields m) w.seen) (by_clean (first_of (closing_all w.inside ∷ missing (header ++ fields m) w.seen ∷ [])) Clean k).0 in
        let E = closed_by g c b l B (closes_here I s.0) in
        record { number = 0; instances = ended E.0; counted = omega (arith, E.1) };
  }
  along (p ∷ ps) =
      let A = along ps in
      record {
        outside = λ w W k. let s = by_clean (said m w (part_of p)) (walk m (after m w (part_of p)) ps) k in from_outside ps A w (part_of p) W s.0 s.1;
        inside = λ w c b l gs I G B k. let s = by_clean (said m w (part_of p)) (walk m (after m w (part_of p)) ps) k in from_inside ps A w c b l gs (part_of p) I G B s.0 s.1;
      }

  pub grouped_by : (ps : List Bytes) → walk m nothing_yet ps ≡ Clean → Left g [] 0 0 (mine ps) (said_of ps)
  grouped_by ps k = (along ps).outside nothing_yet tt k
