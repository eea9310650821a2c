-- A refusal of a call's has one outcome. Assumes nothing.
use Rattle.std.proofs.Common.{ℕ, ◌≡◌, ◌∙◌, sym, List}
use Rattle.session.specs.declared.Refusal.{Refusal}
use Rattle.border.specs.Numbers.{RefusedOut}

pub refused_one : (n : ℕ) (k : Refusal) {r s : ℕ} {x y : List ℕ} → RefusedOut n k r x → RefusedOut n k s y → (r ≡ s) × (x ≡ y)
refused_one n k A B = (A.0 ∙ sym B.0, A.1 ∙ sym B.1)
