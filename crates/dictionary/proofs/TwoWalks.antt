-- The group walk and the instance walk: where each stands before a part, and one turn of it for each way that a part can go.
use Rattle.dictionary.specs.declared.members.Head.{Head}
use Rattle.std.specs.Prelude.{Option, Some, None, Ok, Err}
use Rattle.dictionary.specs.declared.Finding.{Finding}
use Prim.Native.Nat.{ℕ, ◌+◌, ◌≤◌}
use native.Mathlib.Omega.{arith}
use mathlib.Core.Path.{◌≡◌, refl, ap, sym, ◌∙◌, subst}
use mathlib.Core.List.{List, ◌∷◌}
use mathlib.Core.Bool.{Bool, true, false, not, or-true}
use mathlib.Core.Logic.{◌⊎◌, inl, inr}
use lib.ListN.{length, set, replicate, length-set, length-replicate}
use Rattle.octets.specs.Bytes.{Bytes}
use Rattle.fields.specs.Item.{Cut}
use Rattle.fields.specs.declared.Item.{Item}
use Rattle.fields.specs.declared.Item.TheVariants.{Field, Malformed, End, NoBody}
use Rattle.table.specs.Dictionary.{Row, listed}
use Rattle.table.specs.code.Held.{tag_at}
use Rattle.dictionary.specs.Verdict.{Says, Nothing, Open, first_member}
use Rattle.dictionary.specs.code.Held.{Closing, Opened, begun_of}
use Rattle.dictionary.specs.code.Nested.{past, MemberAt, ends_group, MemberBy, ends_instance, OfMember, Reached, to, Lies, onward, Goes, GroupWalk, Along, Turned, InstanceWalk}
use Rattle.dictionary.specs.declared.groups.OpenGroup.{OpenGroup}
use Rattle.dictionary.specs.declared.nested.Part as At
use Rattle.dictionary.proofs.Reported.{one_of_three}
use Rattle.dictionary.proofs.Nesting.{reached_by, leaves, value_in, member_lies, faults, begins_one, joins, nests, chains, before_any}

-- WHERE THE TWO WALKS STAND before the part at a place
pub record InGroupWalk (body : Bytes) (c0 : OpenGroup) (from : ℕ) (met : List Bool) (c : OpenGroup) (at : ℕ) (item : Item) : Type 0 where
  pub behind : from ≤ at
  pub near : at ≤ length body + 1
  pub cut : Cut body at item
  pub few : c.begun ≤ at
  pub long : length met ≡ 128
  pub turns : (c.begun ≡ 0) ⊎ Turned c.counter (to at item)
  pub is : (s : List ℕ) (g : Open) (gs : List Open) (met0 : List Bool) → Goes g met0 c0 → Along body s g gs from met c (to at item)

pub record InInstanceWalk (body : Bytes) (met0 : List Bool) (c : OpenGroup) (from : ℕ) (met : List Bool) (at : ℕ) (item : Item) : Type 0 where
  pub behind : from ≤ at
  pub near : at ≤ length body + 1
  pub cut : Cut body at item
  pub long : length met ≡ 128
  pub is : (s : List ℕ) (g : Open) (gs : List Open) → Goes g met0 c → Along body s g gs from met c (to at item)

pub group-starts : {body : Bytes} {c : OpenGroup} {from : ℕ} {item : Item} → from ≤ length body + 1 → Cut body from item → c.begun ≡ 0 → InGroupWalk body c from (replicate 128 false) c from item
group-starts l C z = record { behind = omega arith; near = l; cut = C; few = omega arith; long = length-replicate 128 false; turns = inl z; is = λ s g gs met0 G. record { later = g; goes = before_any z G; is = refl } }

pub instance_starts : {body : Bytes} {met : List Bool} {c : OpenGroup} {from : ℕ} {item : Item} → from ≤ length body + 1 → Cut body from item → length met ≡ 128 → InInstanceWalk body met c from met from item
instance_starts l C n = record { behind = omega arith; near = l; cut = C; long = n; is = λ s g gs G. record { later = g; goes = G; is = refl } }

pub marks_long : {item : Item} {group : ℕ} {h : Head} → MemberAt item group h → length (set (replicate 128 false) h.k.place true) ≡ 128
marks_long {h = h} M = length-set (replicate 128 false) h.k.place true ∙ length-replicate 128 false

-- the group walk
module _ {body : Bytes} {c0 : OpenGroup} {from : ℕ} {met : List Bool} {c : OpenGroup} {at : ℕ} {item : Item} (W : InGroupWalk body c0 from met c at item) where
  module _ (H : MemberBy item c.counter None) {r : Says} (Z : Closing met c r) where
    pub group_ends : r ≡ Nothing → GroupWalk body c0 from (to at item)
    group_ends q = record { lies = (W.behind, W.near, W.cut); is = λ s g gs met0 G. ap (λ (x : Says). onward (past s gs) body (reached_by x at item)) (sym q) ∙ leaves (W.is s g gs met0 G) W.cut H Z }

    pub group_lacks : {f : Finding} → r ≡ Err f → GroupWalk body c0 from (Err f)
    group_lacks q = record { lies = tt; is = λ s g gs met0 G. ap (λ (x : Says). onward (past s gs) body (reached_by x at item)) (sym q) ∙ leaves (W.is s g gs met0 G) W.cut H Z }

  module _ {h : Head} (M : MemberAt item c.counter h) {r : Says} (K : OfMember met c (tag_at h.k.place) h.first (value_in body h.start h.end) r) where
    pub group_faults : {f : Finding} → r ≡ Err f → GroupWalk body c0 from (Err f)
    group_faults q = record { lies = tt; is = λ s g gs met0 G. faults W.cut M K (W.is s g gs met0 G) q }

    module _ (q : r ≡ Nothing) {c2 : OpenGroup} (b : c2 ≡ begun_of c) {met2 : List Bool} {w : Reached} (X : InstanceWalk body (set (replicate 128 false) h.k.place true) c2 h.next met2 w) where
      group_goes : (s : List ℕ) (g : Open) (gs : List Open) (met0 : List Bool) → Goes g met0 c0 → Along body s g gs from met2 c2 w
      group_goes s g gs met0 G = let A = subst (λ (x : OpenGroup). Along body s g gs from (set (replicate 128 false) h.k.place true) x (to h.next item)) (sym b) (begins_one W.cut M K (W.is s g gs met0 G) q W.turns item) in chains A (X.is s A.later gs A.goes)

      pub group_breaks : {f : Finding} → w ≡ Err f → GroupWalk body c0 from (Err f)
      group_breaks z = record { lies = tt; is = λ s g gs met0 G. let A = group_goes s g gs met0 G in ap (onward (past s (A.later ∷ gs)) body) (sym z) ∙ A.is }

      pub group_lies : {x : At.Part} → w ≡ Ok x → (h.next ≤ x.at) × (x.at ≤ length body + 1) × Cut body x.at x.item
      group_lies q2 = subst (Lies body h.next) q2 X.lies

      pub group_again : {x : At.Part} → w ≡ Ok x → InGroupWalk body c0 from met2 c2 x.at x.item
      group_again z =
          let l = member_lies W.cut M in
          let k = group_lies z in
          record {
            behind = omega (arith, W.behind, k.0, l.after, l.ordered, l.following);
            near = k.1;
            cut = k.2;
            few = omega (arith, W.few, ap (λ (x : OpenGroup). x.begun) b, k.0, l.after, l.ordered, l.following);
            long = X.long;
            turns = inr (subst (Turned c2.counter) z X.turns);
            is = λ s g gs met0 G. subst (λ (x : Reached). Along body s g gs from met2 c2 x) z (group_goes s g gs met0 G);
          }

-- the instance walk
module _ {body : Bytes} {met0 : List Bool} {c : OpenGroup} {from : ℕ} {met : List Bool} {at : ℕ} {item : Item} (W : InInstanceWalk body met0 c from met at item) where
  pub instance_ends : MemberBy item c.counter None → InstanceWalk body met0 c from met (to at item)
  instance_ends H = record { lies = (W.behind, W.near, W.cut); turns = λ g T e. ends_too g.members item (H g T e); long = W.long; is = W.is }
    where
      ends_too : (members : List Row) (i : Item) → ends_group members i ≡ true → ends_instance members i ≡ true
      ends_too members (Field t s e n) h = rw h
      ends_too members (Malformed s e n) h = refl
      ends_too members End h = refl
      ends_too members NoBody h = refl

  module _ {h : Head} (M : MemberAt item c.counter h) where
    pub instance_turns : h.first ≡ true → InstanceWalk body met0 c from met (to at item)
    instance_turns f = record {
      lies = (W.behind, W.near, W.cut);
      turns = λ g T c.
          let b : first_member g.members (tag_at h.k.place) ≡ true = (M.belongs g (one_of_three g T) c).1 ∙ f in
          rw (M.is, b) (or-true (not (listed g.members (tag_at h.k.place))));
      long = W.long;
      is = W.is;
    }

    module _ {r : Says} (K : OfMember met c (tag_at h.k.place) h.first (value_in body h.start h.end) r) where
      pub instance_faults : {f : Finding} → r ≡ Err f → InstanceWalk body met0 c from met (Err f)
      instance_faults q = record {
        lies = tt;
        turns = tt;
        long = W.long;
        is = λ s g gs G. let A = W.is s g gs G in record { later = A.later; goes = A.goes; is = faults W.cut M K A q };
      }

      module _ (q : r ≡ Nothing) (f : h.first ≡ false) {inner : Option OpenGroup} (P : Opened (tag_at h.k.place) (value_in body h.start h.end) inner) where
        pub instance_joins : {i : Item} → inner ≡ None → Cut body h.next i → InInstanceWalk body met0 c from (set met h.k.place true) h.next i
        instance_joins {i} z C =
            let l = member_lies W.cut M in
            record {
              behind = omega (arith, W.behind, l.after, l.ordered, l.following);
              near = omega (arith, l.within, l.following);
              cut = C;
              long = length-set met h.k.place true ∙ W.long;
              is = λ s g gs G. joins W.cut M K (W.is s g gs G) q f W.long P z i;
            }

        module _ {d : OpenGroup} (y : inner ≡ Some d) {w : Reached} (X : GroupWalk body d h.next w) where
          pub inner_lies : {x : At.Part} → w ≡ Ok x → (h.next ≤ x.at) × (x.at ≤ length body + 1) × Cut body x.at x.item
          inner_lies z = subst (Lies body h.next) z X.lies

          pub instance_breaks : {x : Finding} → w ≡ Err x → InstanceWalk body met0 c from (set met h.k.place true) (Err x)
          instance_breaks z = record {
            lies = tt;
            turns = tt;
            long = length-set met h.k.place true ∙ W.long;
            is = λ s g gs G. subst (λ (x : Reached). Along body s g gs from (set met h.k.place true) c x) z (nests W.cut M K (W.is s g gs G) q f W.long P y X);
          }

          pub instance_nests : {x : At.Part} → w ≡ Ok x → InInstanceWalk body met0 c from (set met h.k.place true) x.at x.item
          instance_nests z =
              let l = member_lies W.cut M in
              let k = inner_lies z in
              record {
                behind = omega (arith, W.behind, k.0, l.after, l.ordered, l.following);
                near = k.1;
                cut = k.2;
                long = length-set met h.k.place true ∙ W.long;
                is = λ s g gs G. subst (λ (x : Reached). Along body s g gs from (set met h.k.place true) c x) z (nests W.cut M K (W.is s g gs G) q f W.long P y X);
              }
