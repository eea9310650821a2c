-- Every place of a tag, walked item by item.
use Prim.Native.Nat.{ℕ, ◌+◌, ◌-◌, ◌≤◌}
use native.Mathlib.Omega.{arith}
use mathlib.Core.Path.{◌≡◌, refl, sym, ap, ◌∙◌, subst}
use mathlib.Core.List.{List, [], ◌∷◌}
use mathlib.Core.Bool.{Bool, true, false, cond}
use lib.ListN.{length, take, drop, length-append}
use Rattle.octets.specs.Bytes.{Bytes, starts}
use Rattle.octets.proofs.Lists.{part_length}
use Rattle.fields.specs.Field.{Part, field, malformed, parts}
use Rattle.fields.specs.Item.{Cut}
use Rattle.fields.specs.declared.Item.TheVariants.{Field, Malformed, End}
use Rattle.fields.proofs.Firsts.{tagged, starts-append, tag_part, part_split}
use Rattle.fields.proofs.Rows.{Step, parts-step}
use Rattle.readback.specs.Back.{places_in, every_place}

abbrev pub places_from : ℕ → Bytes → ℕ → List (ℕ × ℕ)
places_from t body at = places_in (tagged t) at (parts (drop at body))

pub every_from : (t : ℕ) (body : Bytes) → every_place t body ≡ places_from t body 0
unfolding every_place
every_from t body = refl

same_pair : {s e r d : ℕ} {l : List (ℕ × ℕ)} → s ≡ r → e ≡ d → (s, e) ∷ l ≡ (r, d) ∷ l
same_pair p q = rw (p, q)

module _ (t : ℕ) (low : 1 ≤ t) (high : t ≤ 99_999) (body : Bytes) (at : ℕ) where
  pub every_found : (u s e n : ℕ) → Cut body at (Field u s e n) → u ≡ t → places_from t body at ≡ (s, e) ∷ places_from t body n
  every_found u s e n C d =
      let L = C.lies.2 in
      let k = part_length body at (e - at) (omega arith) in
      let l = part_length body s (e - s) (omega arith) in
      let p = part_split (take (e - at) (drop at body)) (take (e - s) (drop s body)) t ((parts-step C).part_is ∙ ap (λ (n : ℕ). field n (take (e - s) (drop s body))) d) in
      let m = length-append (tagged t) (take (e - s) (drop s body)) in
      let b : starts (tagged t) (take (e - at) (drop at body)) ≡ true = subst (λ (q : Bytes). starts (tagged t) q ≡ true) (sym p) (starts-append (tagged t) (take (e - s) (drop s body))) in
      let x : at + length (take (e - at) (drop at body)) + 1 ≡ n = omega arith in
      rw ((parts-step C).row, b, x) (same_pair (omega (arith, ap length p)) (omega arith))

  passed : (p : Bytes) (x : Part) (n : ℕ) → Step body at p x n → at + length p + 1 ≡ n → (x ≡ field t (drop (length (tagged t)) p) → ⊥) → places_from t body at ≡ places_from t body n
  passed p x n S l d = rw S.row (go (starts (tagged t) p) refl)
    where
      go : (b : Bool) → starts (tagged t) p ≡ b
          → cond b ((at + length (tagged t), at + length p) ∷ places_in (tagged t) (at + length p + 1) (parts (drop n body))) (places_in (tagged t) (at + length p + 1) (parts (drop n body))) ≡ places_from t body n
      go true e = absurd (d (sym S.part_is ∙ tag_part t p low high e))
      go false e = rw l

  pub every_passed : (u s e n : ℕ) → Cut body at (Field u s e n) → (u ≡ t → ⊥) → places_from t body at ≡ places_from t body n
  every_passed u s e n C d =
      let L = C.lies.2 in
      let k = part_length body at (e - at) (omega arith) in
      passed (take (e - at) (drop at body)) (field u (take (e - s) (drop s body))) n (parts-step C) (omega arith) (λ q. d (cc))

  pub every_malformed : (s e n : ℕ) → Cut body at (Malformed s e n) → places_from t body at ≡ places_from t body n
  every_malformed s e n C =
      let L = C.lies.1 in
      let k = part_length body at (e - at) (omega arith) in
      passed (take (e - at) (drop at body)) malformed n (parts-step C) (omega arith) (λ q. let z : ◌≡◌ {A = ℕ} 0 1 = cc in omega arith)

  pub every_end : Cut body at End → places_from t body at ≡ []
  every_end C = rw (parts-step C)
