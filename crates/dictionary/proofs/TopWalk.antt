-- The report's walk outside groups: where it stands before each part, and one turn of it for each way that a part can go.
use Rattle.dictionary.specs.declared.Unclean.TheVariants.{Found}
use Rattle.dictionary.specs.declared.Finding.{Finding}
use Rattle.std.specs.Prelude.{Option, Some, None, Ok, Err}
use Prim.Native.Nat.{ℕ, ◌+◌, ◌-◌, ◌≤◌}
use native.Mathlib.Omega.{arith}
use mathlib.Core.Path.{◌≡◌, refl, ap, sym, ◌∙◌, subst}
use mathlib.Core.List.{List, [], ◌∷◌}
use mathlib.Core.Bool.{Bool, true, false}
use lib.ListN.{length, take, drop, set, replicate, length-set, length-replicate}
use Rattle.octets.specs.Bytes.{Bytes, has}
use Rattle.fields.specs.Field.{field, malformed, parts}
use Rattle.fields.specs.Item.{Span, Cut}
use Rattle.fields.specs.declared.Item.{Item}
use Rattle.fields.specs.declared.Item.TheVariants.{Field, Malformed, End, NoBody}
use Rattle.table.specs.Dictionary.{groups_of, administrative, code35}
use Rattle.table.specs.code.Held.{tags, tag_at, Marked}
use Rattle.dictionary.specs.Verdict.{Says, Nothing, reason◌tag◌, Verdict, Clean, found, Open, Past, rule1, left, said, opened, after, verdict_by, walk, nothing_yet}
use Rattle.dictionary.specs.code.Held.{away, past_header, Over, Opened, EndedBy, Ended}
use Rattle.dictionary.specs.code.Nested.{AE, past, OfOwn, Reached, to, Lies, onward, GroupWalk, Behind}
use Rattle.dictionary.specs.declared.groups.OpenGroup.{OpenGroup}
use Rattle.dictionary.specs.declared.nested.Part as At
use Rattle.table.specs.declared.known.Known.{Known}
use Rattle.dictionary.proofs.Saying.{known_tag, unknown_tag, unknown_says, rule6_silent}
use Rattle.dictionary.proofs.Walking.{mark_more, no_marks, walk_on, malformed-speaks, field_lies, field_step, malformed_step, end_row, never_none}
use Rattle.dictionary.proofs.Turns.{Silent, silent, after-taken, taken_outside}
use Rattle.dictionary.proofs.Reported.{opened-reported}
use Rattle.dictionary.proofs.Ending.{stood_none, stood_one}

-- where the walk stands before the part at a place of the body, outside groups
pub record Above (body : Bytes) (seen : List Bool) (over : Bool) (at : ℕ) (item : Item) : Type 0 where
  pub met : List ℕ
  pub marked : Marked seen met
  pub header : over ≡ past_header met
  pub rest : walk AE nothing_yet (parts body) ≡ walk AE (past met []) (parts (drop at body))
  pub near : at ≤ length body + 1
  pub cut : Cut body at item
  pub long : length seen ≡ 128

pub starts : {body : Bytes} {item : Item} → Cut body 0 item → Above body (replicate 128 false) false 0 item
starts C = record { met = []; marked = no_marks; header = refl; rest = refl; near = omega arith; cut = C; long = length-replicate 128 false }

-- WHAT IS NO FIELD of the dictionary: a tag that is not in it, ..
report-says : (met : List ℕ) (t : ℕ) (v : Bytes) → has tags t ≡ false → said AE (past met []) (field t v) ≡ reason 3 tag t
unfolding administrative code35 rule1
report-says met t v u = unknown_says AE (past met []) t v (unknown_tag t u)

pub unknown_stops : {body : Bytes} {seen : List Bool} {over : Bool} {at : ℕ} {item : Item} {t s e n : ℕ} → Above body seen over at item → item ≡ Field t s e n → has tags t ≡ false → found 3 t ≡ walk AE nothing_yet (parts body)
unknown_stops {body} {at = at} {t = t} {s} {e} {n} A h u =
    sym (A.rest ∙ walk_on AE (past A.met []) body _ _ at n (field_step A.cut h refl) ∙ rw (report-says A.met t (take (e - s) (drop s body)) u))

-- .. a malformed part, or the end of the body
pub ended_stops : {body : Bytes} {seen : List Bool} {over : Bool} {at : ℕ} {item : Item} {r : Verdict} → Above body seen over at item
    → ((t s e n : ℕ) → item ≡ Field t s e n → ⊥) → Ended AE seen seen None item r → r ≡ walk AE nothing_yet (parts body)
ended_stops {body} {at = at} {item = item} {r} A K E = go item refl K (E.is (past A.met []) A.marked (away refl)) ∙ sym A.rest
  where
    go : (i : Item) → item ≡ i → ((t s e n : ℕ) → i ≡ Field t s e n → ⊥) → EndedBy AE (past A.met []) i r → r ≡ walk AE (past A.met []) (parts (drop at body))
    go (Field t s e n) h k v = absurd (k t s e n refl)
    go (Malformed s e n) h k v = v ∙ malformed-speaks AE (past A.met []) Clean _ ∙ sym (walk_on AE (past A.met []) body _ malformed at _ (malformed_step A.cut h))
    go End h k v = v ∙ sym (ap (walk AE (past A.met [])) (end_row A.cut h))
    go NoBody h k v = absurd (never_none A.cut h)

-- A FIELD of the dictionary
pub the_field : {item : Item} (k : Known) {t start end next : ℕ} → item ≡ Field t start end next → tag_at k.place ≡ t → item ≡ Field (tag_at k.place) start end next
the_field k {start = start} {end} {next} h q = h ∙ ap (λ (x : ℕ). Field x start end next) (sym q)

module _ {body : Bytes} {seen : List Bool} {over : Bool} {at : ℕ} {item : Item} (A : Above body seen over at item) (k : Known) {start end next : ℕ} (F : item ≡ Field (tag_at k.place) start end next) where
  v : Bytes
  v = take (end - start) (drop start body)

  pub field_here : Span body at start end next
  field_here = field_lies A.cut F

  module _ {r : Says} (K : OfOwn seen over (tag_at k.place) (take (end - start) (drop start body)) r) where
    said_here : r ≡ said AE (past A.met []) (field (tag_at k.place) v)
    unfolding v
    said_here = K.is A.met A.marked A.header

    walked : walk AE nothing_yet (parts body) ≡ verdict_by r (walk AE (after AE (past A.met []) (field (tag_at k.place) v)) (parts (drop next body)))
    unfolding v
    walked = A.rest ∙ walk_on AE (past A.met []) body _ _ at next (field_step A.cut F refl) ∙ ap (λ (x : Says). verdict_by x (walk AE (after AE (past A.met []) (field (tag_at k.place) v)) (parts (drop next body)))) (sym said_here)

    pub top_faults : {f : Finding} → r ≡ Err f → Err (Found f) ≡ walk AE nothing_yet (parts body)
    top_faults q = sym (walked ∙ rw q)

    module _ (q : r ≡ Nothing) where
      heard : Silent AE (past A.met []) (tag_at k.place) v
      heard = silent AE (past A.met []) (tag_at k.place) v (known_tag k.place k.within) (sym q ∙ said_here)

      left_none : left [] (field (tag_at k.place) v) ≡ []
      unfolding left
      left_none = refl

      rest_taken : walk AE nothing_yet (parts body) ≡ walk AE (past ((tag_at k.place) ∷ A.met) (opened (groups_of AE) (tag_at k.place) v)) (parts (drop next body))
      rest_taken = walked ∙ ap (λ (x : Says). verdict_by x (walk AE (after AE (past A.met []) (field (tag_at k.place) v)) (parts (drop next body)))) q ∙ ap (λ (x : Past). walk AE x (parts (drop next body))) (after-taken AE (past A.met []) (tag_at k.place) v [] (known_tag k.place k.within) left_none ∙ taken_outside AE A.met (tag_at k.place) v)

      -- the walk goes on behind it, in the group that it opens or in none
      module _ {w : Reached} (B : Behind body (tag_at k.place) (take (end - start) (drop start body)) next w) where
        came : onward (past ((tag_at k.place) ∷ A.met) []) body w ≡ walk AE nothing_yet (parts body)
        unfolding v
        came = B.is ((tag_at k.place) ∷ A.met) (rule6_silent AE (tag_at k.place) (sym heard.silent6)) (heard.silent9, heard.silent10) ∙ sym rest_taken

        pub behind_faults : {f : Finding} → w ≡ Err f → Err (Found f) ≡ walk AE nothing_yet (parts body)
        behind_faults h = ap (onward (past ((tag_at k.place) ∷ A.met) []) body) (sym h) ∙ came

        pub behind_lies : {x : At.Part} → w ≡ Ok x → (next ≤ x.at) × (x.at ≤ length body + 1) × Cut body x.at x.item
        behind_lies h = subst (Lies body next) h B.lies

        pub behind_again : {over2 : Bool} {x : At.Part} → Over over (tag_at k.place) over2 → w ≡ Ok x → Above body (set seen k.place true) over2 x.at x.item
        behind_again O h = record {
          met = (tag_at k.place) ∷ A.met;
          marked = mark_more k.within A.long A.marked;
          header = O.is A.met A.header;
          rest = sym (ap (onward (past ((tag_at k.place) ∷ A.met) []) body) (sym h) ∙ came);
          near = (behind_lies h).1;
          cut = (behind_lies h).2;
          long = length-set seen k.place true ∙ A.long;
        }

-- BEHIND A FIELD outside groups: it opened none, ..
pub behind_none : {body : Bytes} {t next : ℕ} {v : Bytes} {group : Option OpenGroup} {i : Item} → next ≤ length body + 1 → Opened t v group → group ≡ None → Cut body next i → Behind body t v next (to next i)
behind_none {body} {next = next} l P z C = record {
  lies = (omega arith, l, C);
  is = λ s k q. ap (λ (x : List Open). walk AE (past s x) (parts (drop next body))) (sym (stood_none (P.opens AE [] k q) z));
}

-- .. or the group that it opened was gone through
pub behind-group : {body : Bytes} {t next : ℕ} {v : Bytes} {group : Option OpenGroup} {c : OpenGroup} {w r : Reached} → Opened t v group → group ≡ Some c → GroupWalk body c next w → w ≡ r → Behind body t v next r
behind-group {body} {t} {next} {v} P y W h = subst (Behind body t v next) h (record {
  lies = W.lies;
  is = λ s k q.
      let x = stood_one (P.opens AE [] k q) y in
      W.is s x.0 [] [] (record { group = x.1.1; reported = opened-reported t v x.0 x.1.0 })
      ∙ ap (λ (l : List Open). walk AE (past s l) (parts (drop next body))) (sym x.1.0);
})
