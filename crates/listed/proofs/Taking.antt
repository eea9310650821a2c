-- A step of the walk, whatever it takes: nothing found; one step behind the other; and the same bytes said otherwise. Assumes nothing.
use mathlib.Core.Path.{◌≡◌, refl, sym, ap, ◌∙◌, subst}
use mathlib.Core.List.{◌++◌, append_assoc}
use mathlib.Core.Bool.{Bool, true}
use mathlib.Core.Option.{Option, none, some, some-injective, none-ne-some}
use Rattle.octets.specs.Bytes.{Bytes}
use Rattle.listed.specs.code.Taken.{Took}

module _ {G : Bytes → Type 0} {N : Bytes → Bool} {s : Bytes} where
  pub refused : ((m t : Bytes) → G m → N t ≡ true → s ≡ m ++ t → ⊥) → Took G N s none
  refused f = record { seen = λ t e. absurd (none-ne-some _ e); found = λ m t g n w. absurd (f m t g n w) }

  pub reworded : {H : Bytes → Type 0} {r : Option Bytes} → ((m : Bytes) → G m → H m) → ((m : Bytes) → H m → G m) → Took G N s r → Took H N s r
  reworded f b T =
      record {
        seen = λ t e. let w = T.seen t e in (w.0, (f w.0 w.1.0, w.1.1));
        found = λ m t h n w. T.found m t (b m h) n w;
      }

-- a step behind what another left, if it left something
pub record Onward (G : Bytes → Type 0) (N : Bytes → Bool) (q r : Option Bytes) : Type 0 where
  pub stays : q ≡ none → r ≡ none
  pub goes : (s : Bytes) → q ≡ some s → Took G N s r

module _ {G : Bytes → Type 0} {N : Bytes → Bool} where
  pub on : {s : Bytes} {r : Option Bytes} → Took G N s r → Onward G N (some s) r
  on {s} {r} T = record { stays = λ e. absurd (none-ne-some _ (sym e)); goes = λ x e. subst (λ (y : Bytes). Took G N y r) (some-injective s x e) T }

  pub off : {s : Bytes} {r : Option Bytes} → Onward G N (some s) r → Took G N s r
  off {s} T = T.goes s refl

  pub stop : Onward G N none none
  stop = record { stays = λ e. e; goes = λ s e. absurd (none-ne-some _ e) }

  pub onward_reworded : {H : Bytes → Type 0} {q r : Option Bytes} → ((m : Bytes) → G m → H m) → ((m : Bytes) → H m → G m) → Onward G N q r → Onward H N q r
  onward_reworded f b T = record { stays = T.stays; goes = λ s e. reworded f b (T.goes s e) }

-- ONE BEHIND THE OTHER: what G says of the first bytes, and H of those behind them
abbrev pub Both : (Bytes → Type 0) → (Bytes → Type 0) → Bytes → Type 0
Both G H m = (x : Bytes) × ((y : Bytes) × (G x × (H y × (m ≡ x ++ y))))

module _ {G H : Bytes → Type 0} {N M : Bytes → Bool} where
  pub joined : {s : Bytes} {q r : Option Bytes} → ((y t : Bytes) → H y → M t ≡ true → N (y ++ t) ≡ true) → Took G N s q → Onward H M q r → Took (Both G H) M s r
  joined {s} {q} {r} follows P Q = record { seen = seen q refl; found = found }
    where
      seen : (p : Option Bytes) → q ≡ p → (t : Bytes) → r ≡ some t → (m : Bytes) × (Both G H m × (s ≡ m ++ t))
      seen none z t e = absurd (none-ne-some _ (sym (Q.stays z) ∙ e))
      seen (some u) z t e =
          let p = P.seen u z in
          let k = (Q.goes u z).seen t e in
          (p.0 ++ k.0, ((p.0, (k.0, (p.1.0, (k.1.0, refl)))), p.1.1 ∙ ap (λ (x : Bytes). p.0 ++ x) k.1.1 ∙ sym (append_assoc p.0 k.0 t)))

      found : (m t : Bytes) → Both G H m → M t ≡ true → s ≡ m ++ t → r ≡ some t
      found m t (x, (y, (g, (k, e)))) n w =
          let d : s ≡ x ++ (y ++ t) = w ∙ ap (λ (z : Bytes). z ++ t) e ∙ append_assoc x y t in
          let p : q ≡ some (y ++ t) = P.found x (y ++ t) g (follows y t k n) d in
          (Q.goes (y ++ t) p).found y t k n refl

  pub onward_joined : {o q r : Option Bytes} → ((y t : Bytes) → H y → M t ≡ true → N (y ++ t) ≡ true) → Onward G N o q → Onward H M q r → Onward (Both G H) M o r
  onward_joined follows P Q = record { stays = λ e. Q.stays (P.stays e); goes = λ s e. joined follows (P.goes s e) Q }
