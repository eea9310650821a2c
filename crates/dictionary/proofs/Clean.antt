-- What a clean walk says: each part is a field that passed, so the first field of a tag of the dictionary is of its kind; and each required tag
-- is there.
use Rattle.std.specs.Prelude.{Ok, Err}
use Prim.Native.Nat.{ℕ, ◌≤◌}
use native.Mathlib.Omega.{arith}
use borrow.Author.Tests.{eqb-true}
use mathlib.Core.Path.{◌≡◌, refl, ap, sym, ◌∙◌, subst}
use mathlib.Core.List.{List, [], ◌∷◌, ◌++◌}
use mathlib.Core.Bool.{Bool, true, false, cond, not, ◌&&◌, ◌||◌, false≢true}
use mathlib.Core.Option.{Option, none, some}
use mathlib.Core.Logic.{◌⊎◌, inl, inr}
use lib.Dec.{eqb}
use lib.ListN.{length, drop}
use Rattle.octets.specs.Bytes.{Bytes, has, starts, within}
use Rattle.fields.specs.Field.{Part, field, malformed, part_of, parts, first_of_parts, first_field, is_body}
use Rattle.fields.proofs.Firsts.{tagged, starts-append, tag_part, part_split}
use Rattle.table.specs.Dictionary.{Row, header, fields, rows_of, listed, administrative, in_dictionary}
use Rattle.dictionary.specs.Verdict.{Says, Nothing, reason◌tag◌, Verdict, Clean, no_body, Open, Past, ◌when◌, first_of, missing, closing_all, left, rule1, rule2, rule4, rule6, rule9, rule10, said, skipped, taken, after, verdict_by, walk, nothing_yet, msg_type, judged_as, verdict}
use Rattle.table.specs.declared.MsgType.{MsgType}
use Rattle.dictionary.specs.Promise.{OfKind, Passed, PassedPart, AllPassed}
use Rattle.dictionary.specs.Groups.{required}
use Rattle.octets.proofs.Numerals.{within_is}
use Rattle.octets.proofs.Tests.{both}
use Rattle.dictionary.proofs.Turns.{silent, silent_at, unknown_skipped}

-- a field of a tag is a part that begins with the tag and `=`
pub part-starts : (t : ℕ) (p v : Bytes) → part_of p ≡ field t v → starts (tagged t) p ≡ true
part-starts t p v e = ap (starts (tagged t)) (part_split p v t e) ∙ starts-append (tagged t) v

-- a clean walk found no fault with the part that it began with, and goes on clean
pub by_clean : (s : Says) (x : Verdict) → verdict_by s x ≡ Clean → (s ≡ Nothing) × (x ≡ Clean)
by_clean (Ok _) x h = (refl, h)
by_clean (Err f) x h = let z : ◌≡◌ {A = ℕ} 0 1 = cc in absurd (omega arith)

-- the tags met behind a field: a member leaves none
pub seen-taken : (m : MsgType) (seen : List ℕ) (u : ℕ) (v : Bytes) → (taken m seen [] u v).seen ≡ u ∷ seen
unfolding taken
seen-taken m seen u v = refl

pub seen-member : (m : MsgType) (seen : List ℕ) (g : Open) (gs : List Open) (u : ℕ) (v : Bytes) → (taken m seen (g ∷ gs) u v).seen ≡ seen
unfolding taken
seen-member m seen g gs u v = refl

-- KINDS
when_not : (b : Bool) (a t : ℕ) → (reason a tag t when not b) ≡ Nothing → b ≡ true
when_not true a t h = refl
when_not false a t h = let z : ◌≡◌ {A = ℕ} 0 1 = cc in absurd (omega arith)

pub when_so : (b : Bool) (a t : ℕ) → (reason a tag t when b) ≡ Nothing → b ≡ false
when_so true a t h = let z : ◌≡◌ {A = ℕ} 0 1 = cc in absurd (omega arith)
when_so false a t h = refl

long_enough : (v : Bytes) → eqb (length v) 0 ≡ false → 1 ≤ length v
long_enough [] h = absurd (false≢true (sym h))
long_enough (x ∷ v) h = omega arith

-- A PART OF WHICH NO RULE SPOKE
passed-field : (m : MsgType) (w : Past) (t : ℕ) (v : Bytes) → said m w (field t v) ≡ Nothing → Passed m t v
unfolding skipped rule4 rule6 rule9 rule10
passed-field m w t v h =
    record {
      skipped = λ k. (both (administrative m) (not (in_dictionary t)) (unknown_skipped m w t v k (sym h))).0;
      own = λ k. when_not (listed (rows_of m) t) 2 t (silent m w t v k (sym h)).silent6;
      filled = λ k. long_enough v (when_so (eqb (length v) 0) 4 t (silent m w t v k (sym h)).silent4);
      of_kind = λ k. record { form = when_not _ 6 t (silent m w t v k (sym h)).silent9; value = when_not _ 5 t (silent m w t v k (sym h)).silent10 };
    }

passed-part : (m : MsgType) (w : Past) (q : Part) → said m w q ≡ Nothing → PassedPart m q
unfolding said rule2
passed-part m w malformed h =
    let n = silent_at (rule1 w.inside malformed ∷ reason 0 tag 0 ∷ []) (sym h) 1 (omega arith) in
    let z : ◌≡◌ {A = ℕ} 0 1 = cc in
    absurd (omega arith)
passed-part m w (field t v) h = passed-field m w t v h

walk-passed : (m : MsgType) (ps : List Bytes) (w : Past) → walk m w ps ≡ Clean → AllPassed m ps
walk-passed m [] w h = tt
walk-passed m (p ∷ ps) w h =
    let c = by_clean (said m w (part_of p)) (walk m (after m w (part_of p)) ps) h in
    (passed-part m w (part_of p) c.0, walk-passed m ps (after m w (part_of p)) c.1)

pub none_missing : (rows : List Row) (met : List ℕ) (t : ℕ) → required rows t ≡ true → missing rows met ≡ Nothing → has met t ≡ true
none_missing [] met t r h = absurd (false≢true r)
none_missing (x ∷ rows) met t r h = go x.required (eqb x.tag t) (has met x.tag) refl refl r h (none_missing rows met t)
  where
    go : (q b c : Bool) → eqb x.tag t ≡ b → has met x.tag ≡ c → ((b && q) || required rows t) ≡ true → cond (q && not c) (reason 1 tag x.tag) (missing rows met) ≡ Nothing
        → (required rows t ≡ true → missing rows met ≡ Nothing → has met t ≡ true) → has met t ≡ true
    go true b false p s k e ih = let z : ◌≡◌ {A = ℕ} 0 1 = cc in absurd (omega arith)
    go true true true p s k e ih = ap (has met) (sym (eqb-true x.tag t p)) ∙ s
    go true false true p s k e ih = ih k e
    go false true c p s k e ih = ih k e
    go false false c p s k e ih = ih k e

none_some : (v : Bytes) → ◌≡◌ {A = Option Bytes} none (some v) → ⊥
none_some v e = let z : ◌≡◌ {A = ℕ} 0 1 = cc in omega arith

module _ (m : MsgType) (t : ℕ) (low : 1 ≤ t) (high : t ≤ 99_999) where
  first_passed : (ps : List Bytes) (v : Bytes) → AllPassed m ps → first_of_parts (tagged t) ps ≡ some v → Passed m t v
  first_passed [] v h e = absurd (none_some v e)
  first_passed (p ∷ ps) v h e = go (starts (tagged t) p) refl e (first_passed ps v h.1)
    where
      go : (b : Bool) → starts (tagged t) p ≡ b → cond b (some (drop (length (tagged t)) p)) (first_of_parts (tagged t) ps) ≡ some v
          → (first_of_parts (tagged t) ps ≡ some v → Passed m t v) → Passed m t v
      go true s g ih =
          let x : drop (length (tagged t)) p ≡ v = cc in
          subst (PassedPart m) (tag_part t p low high s ∙ ap (field t) x) h.0
      go false s g ih = ih g

  -- REQUIRED TAGS
  Found : List Bytes → Type 0
  Found ps = (v : Bytes) × (first_of_parts (tagged t) ps ≡ some v)

  found_here : (p : Bytes) (ps : List Bytes) → starts (tagged t) p ≡ true → Found (p ∷ ps)
  unfolding Found
  found_here p ps h = (drop (length (tagged t)) p, rw h)

  found_later : (p : Bytes) (ps : List Bytes) → Found ps → Found (p ∷ ps)
  unfolding Found
  found_later p ps f = go (starts (tagged t) p)
    where
      go : (b : Bool) → (v : Bytes) × (cond b (some (drop (length (tagged t)) p)) (first_of_parts (tagged t) ps) ≡ some v)
      go true = (drop (length (tagged t)) p, refl)
      go false = f

  -- the tags met behind a part: those before, or its own
  seen_after : (w : Past) (p : Bytes) (q : Part) → part_of p ≡ q → has (after m w q).seen t ≡ true → (has w.seen t ≡ true) ⊎ (starts (tagged t) p ≡ true)
  unfolding after
  seen_after w p malformed e h = inl h
  seen_after w p (field u v) e h = go (skipped m u) (left w.inside (field u v)) h
    where
      own : (b : Bool) → eqb u t ≡ b → (b || has w.seen t) ≡ true → (has w.seen t ≡ true) ⊎ (starts (tagged t) p ≡ true)
      own true x y = inr (part-starts t p v (e ∙ ap (λ (n : ℕ). field n v) (eqb-true u t x)))
      own false x y = inl y

      go : (b : Bool) (gs : List Open) → has (cond b (record { seen = w.seen; inside = gs }) (taken m w.seen gs u v)).seen t ≡ true → (has w.seen t ≡ true) ⊎ (starts (tagged t) p ≡ true)
      go true gs h = inl h
      go false [] h = own (eqb u t) refl (rw (seen-taken m w.seen u v) at h)
      go false (g ∷ gs) h = inl (rw (seen-member m w.seen g gs u v) at h)

  walk_required : (ps : List Bytes) (w : Past) → required (header ++ fields m) t ≡ true → walk m w ps ≡ Clean → (has w.seen t ≡ true) ⊎ Found ps
  walk_required [] w r h =
      let l = closing_all w.inside ∷ missing (header ++ fields m) w.seen ∷ [] in
      inl (none_missing (header ++ fields m) w.seen t r (silent_at l (sym (by_clean (first_of l) Clean h).0) 1 (omega arith)))
  walk_required (p ∷ ps) w r h =
      let c = by_clean (said m w (part_of p)) (walk m (after m w (part_of p)) ps) h in
      go (walk_required ps (after m w (part_of p)) r c.1)
    where
      here : (has w.seen t ≡ true) ⊎ (starts (tagged t) p ≡ true) → (has w.seen t ≡ true) ⊎ Found (p ∷ ps)
      here (inl x) = inl x
      here (inr x) = inr (found_here p ps x)

      go : (has (after m w (part_of p)).seen t ≡ true) ⊎ Found ps → (has w.seen t ≡ true) ⊎ Found (p ∷ ps)
      go (inl x) = here (seen_after w p (part_of p) refl x)
      go (inr f) = inr (found_later p ps f)

-- behind a clean verdict
pub clean-walk : (m : MsgType) (body : Bytes) → verdict body ≡ Clean → msg_type body ≡ some m → walk m nothing_yet (parts body) ≡ Clean
unfolding verdict
clean-walk m body h t = go (is_body body) (rw t at h)
  where
    go : (b : Bool) → cond b (walk m nothing_yet (parts body)) no_body ≡ Clean → walk m nothing_yet (parts body) ≡ Clean
    go true e = e
    go false e = let z : ◌≡◌ {A = ℕ} 0 1 = cc in absurd (omega arith)

-- ITS TYPE IS ONE OF THE NINE
pub clean-type : (body : Bytes) → verdict body ≡ Clean → (m : MsgType) × (msg_type body ≡ some m)
unfolding verdict
clean-type body h = go (is_body body) (msg_type body) h
  where
    go : (b : Bool) (o : Option MsgType) → cond b (judged_as o body) no_body ≡ Clean → (m : MsgType) × (o ≡ some m)
    go true none e = let z : ◌≡◌ {A = ℕ} 0 1 = cc in absurd (omega arith)
    go true (some m) e = (m, refl)
    go false o e = let z : ◌≡◌ {A = ℕ} 0 1 = cc in absurd (omega arith)

-- EVERY PART IS A FIELD THAT PASSED
pub clean-passed : (m : MsgType) (body : Bytes) → verdict body ≡ Clean → msg_type body ≡ some m → AllPassed m (parts body)
clean-passed m body h y = walk-passed m (parts body) nothing_yet (clean-walk m body h y)

-- so THE FIRST FIELD OF A TAG OF THE DICTIONARY IS OF ITS KIND
pub clean_kind : (m : MsgType) (t : ℕ) (body v : Bytes) → verdict body ≡ Clean → msg_type body ≡ some m → within 1 99_999 t ≡ true → in_dictionary t ≡ true
    → first_field t body ≡ some v → OfKind m t v
unfolding first_field
clean_kind m t body v h y n k e = (first_passed m t (within_is 1 99_999 t n).0 (within_is 1 99_999 t n).1 (parts body) v (clean-passed m body h y) e).of_kind k

-- EACH REQUIRED TAG OF THE HEADER AND OF THE MESSAGE IS THERE
pub clean-required : (m : MsgType) (t : ℕ) (body : Bytes) → verdict body ≡ Clean → msg_type body ≡ some m → within 1 99_999 t ≡ true → required (header ++ fields m) t ≡ true
    → (v : Bytes) × (first_field t body ≡ some v)
unfolding first_field Found
clean-required m t body h y n r = go (walk_required m t (within_is 1 99_999 t n).0 (within_is 1 99_999 t n).1 (parts body) nothing_yet r (clean-walk m body h y))
  where
    go : (◌≡◌ {A = Bool} false true) ⊎ Found m t (within_is 1 99_999 t n).0 (within_is 1 99_999 t n).1 (parts body) → (v : Bytes) × (first_of_parts (tagged t) (parts body) ≡ some v)
    go (inl x) = absurd (false≢true x)
    go (inr f) = f
