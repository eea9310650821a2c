-- Along a clean walk a tag outside groups is met at most once.
-- Assumes nothing.
use Prim.Native.Nat.{ℕ, ◌≤◌}
use native.Mathlib.Omega.{arith}
use borrow.Author.Tests.{eq-eqb, eqb-true, not-true}
use mathlib.Core.Path.{◌≡◌, refl, ap, sym, ◌∙◌, subst}
use mathlib.Core.List.{List, [], ◌∷◌}
use mathlib.Core.Bool.{Bool, true, false, cond, not, ◌&&◌, ◌||◌, false≢true}
use lib.Dec.{eqb}
use lib.ListN.{length}
use Rattle.octets.specs.Bytes.{Bytes, all, has}
use Rattle.octets.proofs.Tests.{neither, or_last, any_append}
use Rattle.fields.specs.Field.{Part, field, malformed, part_of}
use Rattle.kinds.specs.Kind.{Y/N}
use Rattle.table.specs.Dictionary.{Row, Group, row, groups_of, all_members, member, listed, frame_tag, in_dictionary}
use Rattle.table.specs.declared.MsgType.{MsgType}
use Rattle.dictionary.specs.Verdict.{Nothing, Clean, Open, Past, rule5, left, skipped, said, opened, taken, after, walk, nothing_yet}
use Rattle.dictionary.specs.Groups.{kept, fields_among}
use Rattle.dictionary.proofs.Saying.{rules_heard, known_says}
use Rattle.dictionary.proofs.Turns.{silent_at, after-taken, taken_outside}
use Rattle.dictionary.proofs.Clean.{by_clean, when_so, seen-taken, seen-member}
use Rattle.dictionary.proofs.Inside.{Apart, Away, left_all, left_none, further, further-away, all_append, opened_all}
use Rattle.dictionary.proofs.Grouping.{malformed-said, inside_after}

module _ (m : MsgType) (t : ℕ) where
  -- t as the only member of a group, which no group of the message shares
  abbrev lone : Group
  lone = record { counter = 0; most = 0; members = row t Y/N false ∷ [] }

  is_lone : (n : ℕ) → listed lone.members n ≡ true → t ≡ n
  is_lone n h = go (eqb t n) refl h
    where
      go : (b : Bool) → eqb t n ≡ b → (b || false) ≡ true → t ≡ n
      go true e k = eqb-true t n e
      go false e k = absurd (false≢true k)

  no_group : (gs : List Group) → listed (all_members gs) t ≡ false → all (λ (x : Group). not (listed x.members t)) gs ≡ true
  no_group [] h = refl
  no_group (x ∷ gs) h =
      let w = neither (listed x.members t) (listed (all_members gs) t) (sym (any_append (λ (r : Row). eqb r.tag t) x.members (all_members gs)) ∙ h) in
      rw (w.0, no_group gs w.1)

  opened_away : member m t ≡ false → (u : ℕ) (v : Bytes) → Away lone (opened (groups_of m) u v)
  unfolding member
  opened_away n u v =
      opened_all (λ (x : Group). not (listed x.members t)) (λ (o : Open). Apart lone o.group) (groups_of m) u v (no_group (groups_of m) n)
      (λ x q e y k. subst (λ (z : ℕ). listed x.members z ≡ false) (is_lone y k) (not-true (listed x.members t) q))

  seen_kept : (w : Past) (u : ℕ) (v : Bytes) → has w.seen t ≡ true → has (after m w (field u v)).seen t ≡ true
  unfolding after
  seen_kept w u v h = go (skipped m u) (left w.inside (field u v))
    where
      go : (b : Bool) (gs : List Open) → has (cond {A = Past} b (record { seen = w.seen; inside = gs }) (taken m w.seen gs u v)).seen t ≡ true
      go true gs = h
      go false [] = rw (seen-taken m w.seen u v) (or_last (eqb u t) (has w.seen t) h)
      go false (g ∷ gs) = rw (seen-member m w.seen g gs u v) h

  -- the fields t behind some tags: none if it is among them, and one at most
  record Turn (seen : List ℕ) (fs : List (ℕ × Bytes)) : Type 0 where
    none : has seen t ≡ true → fs ≡ []
    one : length fs ≤ 1

  module _ (k : in_dictionary t ≡ true) (n : member m t ≡ false) where
    -- a field t was not met before, and is met then
    new : (w : Past) (v : Bytes) → said m w (field t v) ≡ Nothing → has w.seen t ≡ false
    unfolding rule5
    new w v h =
        let s = when_so (frame_tag t || (not (member m t) && has w.seen t)) 13 t (silent_at (rules_heard m w t v) (sym h ∙ known_says m w t v k) 2 (omega arith)) in
        let o = (neither (frame_tag t) (not (member m t) && has w.seen t) s).1 in
        rw n at o

    met : (w : Past) (v : Bytes) → Away lone w.inside → has (after m w (field t v)).seen t ≡ true
    met w v W =
        let e : listed lone.members t ≡ true = rw (eq-eqb t t refl) in
        rw (after-taken m w t v [] k (left_none lone w.inside t v W e) ∙ taken_outside m w.seen t v, eq-eqb t t refl)

    abbrev Rest : Past → List Bytes → Type 0
    Rest w ps = Turn w.seen (fields_among (eqb t) ps)

    rest : (ps : List Bytes) (w : Past) → Away lone w.inside → walk m w ps ≡ Clean → Rest w ps
    rest [] w W h = record { none = λ e. refl; one = omega arith }
    rest (p ∷ ps) w W h =
        let s = by_clean (said m w (part_of p)) (walk m (after m w (part_of p)) ps) h in
        step (part_of p) s.0 (λ A. rest ps (after m w (part_of p)) A s.1)
      where
        away : (u : ℕ) (v : Bytes) → Away lone (after m w (field u v)).inside
        away u v =
            let l = left_all (λ (o : Open). Apart lone o.group) w.inside (field u v) W in
            inside_after m w u v (Away lone) l (all_append (λ (o : Open). Apart lone o.group) (opened (groups_of m) u v) (further (left w.inside (field u v)) u) (opened_away n u v) (further-away lone (left w.inside (field u v)) u l))

        step : (q : Part) → said m w q ≡ Nothing → (Away lone (after m w q).inside → Rest (after m w q) ps) → Turn w.seen (kept (eqb t) q (fields_among (eqb t) ps))
        step malformed h r = absurd (malformed-said m w h)
        step (field u v) h r = go (eqb t u) refl (r (away u v))
          where
            go : (b : Bool) → eqb t u ≡ b → Rest (after m w (field u v)) ps → Turn w.seen (cond b ((u, v) ∷ fields_among (eqb t) ps) (fields_among (eqb t) ps))
            go true e R =
                let q = eqb-true t u e in
                let f = R.none (subst (λ (x : ℕ). has (after m w (field x v)).seen t ≡ true) q (met w v W)) in
                let z = new w v (subst (λ (x : ℕ). said m w (field x v) ≡ Nothing) (sym q) h) in
                record { none = λ y. absurd (false≢true (sym z ∙ y)); one = omega (arith, ap length f) }
            go false e R = record { none = λ y. R.none (seen_kept w u v y); one = R.one }

  pub met_once : (ps : List Bytes) → in_dictionary t ≡ true → member m t ≡ false → walk m nothing_yet ps ≡ Clean → length (fields_among (eqb t) ps) ≤ 1
  met_once ps k n h = (rest k n ps nothing_yet tt h).one
