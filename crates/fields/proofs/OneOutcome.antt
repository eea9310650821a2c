-- One outcome of each call that the crate hands out, where its contract is a relation: any two that it allows are equal in all that the call answers
-- and leaves. (The contracts of `is_body`, `field_at`, `behind` and `Reader::open` are equations.)
use Prim.Native.Nat.{ℕ}
use mathlib.Core.Path.{◌≡◌, sym, ap, ◌∙◌}
use Rattle.octets.specs.Bytes.{Bytes}
use Rattle.fields.specs.declared.Heads.{Heads}
use Rattle.fields.specs.declared.Item.{Item}
use Rattle.fields.specs.declared.Reader.{Reader}
use Rattle.fields.specs.First.{Place, First, Heading}
use Rattle.fields.specs.Item.{Cut}
use Rattle.fields.specs.Reading.{place_behind, HandsOut}

-- `item_at`
pub cut_one : {body : Bytes} {at : ℕ} {r r' : Item} → Cut body at r → Cut body at r' → r ≡ r'
cut_one C D = C.is ∙ sym D.is

-- `first_field` and `type_field`
pub first_one : {t : ℕ} {body : Bytes} {r r' : Place} → First t body r → First t body r' → r ≡ r'
first_one F G = F.is ∙ sym G.is

-- `heads_of`
pub heading_one : {body : Bytes} {h h' : Heads} → Heading body h → Heading body h' → h ≡ h'
heading_one F G i = record { number = first_one F.number G.number i; sender = first_one F.sender G.sender i; target = first_one F.target G.target i }

-- `Reader::next`: the item, and the reader that the call leaves
pub hands_out_one : {d e e' : Reader} {r r' : Item} → HandsOut d r e → HandsOut d r' e' → (r ≡ r') × (e ≡ e')
hands_out_one {d} P Q =
    let same = P.answer ∙ sym Q.answer in
    (same, P.moved ∙ ap (λ (x : Item). record { body = d.body; at = place_behind x d.at }) same ∙ sym Q.moved)
