-- Every call has one outcome: any two that its relation allows, for the same input, are equal in all that the call answers and leaves.
-- The relation is the call's whole contract. Assumes nothing.
use Prim.Native.Nat.{ℕ}
use mathlib.Core.Path.{◌≡◌, refl, sym, ap, ◌∙◌}
use mathlib.Core.List.{List, [], ◌∷◌}
use native.Mathlib.Omega.{arith}
use Rattle.octets.specs.Bytes.{Bytes}
use Rattle.frame.specs.Frame.{fixt}
use Rattle.line.specs.Line.{Line}
use Rattle.frame.proofs.Unique.{reads_one}
use Rattle.gateway.specs.Border.{read_number, read_words, ReadOut, PutOut, DropOut, BodyOut, its_body, no_frame, FieldOut, FirstOut, VerdictOut, ReportValuesOut}
use Rattle.gateway.specs.Calls.{Left, LeftWithStore, LeftByReconnect, LeftByNew, LeftByWrite, WriteOut, NewOut, ReconnectOut, StepOut, TickOut, LogoutOut, TestRequestOut, ReportOut, ReplayOut}
use Rattle.gateway.proofs.Bodies.{same_lengths}

-- two that are the same third
both : {A : Type 0} {x y z : A} → x ≡ z → y ≡ z → x ≡ y
both p q = p ∙ sym q

-- READING
pub read_one : (bytes : Bytes) {r r' : ℕ} {out out' : List ℕ} → ReadOut bytes r out → ReadOut bytes r' out' → (r ≡ r') × (out ≡ out')
read_one bytes A B =
    let e = reads_one fixt bytes A.answer B.answer A.reads B.reads in
    (A.number ∙ ap read_number e ∙ sym B.number, A.words ∙ ap read_words e ∙ sym B.words)

pub body_one : (frame : Bytes) {r r' : ℕ} {out out' : List ℕ} → BodyOut frame r out → BodyOut frame r' out' → (r ≡ r') × (out ≡ out')
body_one frame (its_body G) (its_body H) = (refl, ap (λ (n : ℕ × ℕ). n.0 ∷ n.1 ∷ []) (same_lengths frame G H))
body_one frame (its_body G) (no_frame h) = absurd (h G)
body_one frame (no_frame h) (its_body G) = absurd (h G)
body_one frame (no_frame h) (no_frame k) = (refl, refl)

pub field_one : (body : Bytes) (at : ℕ) {r r' : ℕ} {out out' : List ℕ} → FieldOut body at r out → FieldOut body at r' out' → (r ≡ r') × (out ≡ out')
field_one body at A B = (both A.number B.number, both A.words B.words)

pub first_one : (body : Bytes) (tag : ℕ) {r r' : ℕ} {out out' : List ℕ} → FirstOut body tag r out → FirstOut body tag r' out' → (r ≡ r') × (out ≡ out')
first_one body tag A B = (both A.number B.number, both A.words B.words)

pub verdict_one : (body : Bytes) {r r' : ℕ} {out out' : List ℕ} → VerdictOut body r out → VerdictOut body r' out' → (r ≡ r') × (out ≡ out')
verdict_one body A B = (both A.number B.number, both A.words B.words)

pub report-values_one : (body : Bytes) {r r' : ℕ} {values values' out out' : List ℕ} → ReportValuesOut body r values out → ReportValuesOut body r' values' out' → (r ≡ r') × ((values ≡ values') × (out ≡ out'))
report-values_one body A B = (both A.number B.number, (both A.values_are B.values_are, both A.words B.words))

-- THE LINE BUFFER: how many bytes were put or are held, and every byte of the buffer
pub put_one : (buf : Bytes) (held : ℕ) (piece : Bytes) {r r' : ℕ} {buf₁ buf₂ : Bytes} → PutOut buf held piece r buf₁ → PutOut buf held piece r' buf₂ → (r ≡ r') × (buf₁ ≡ buf₂)
put_one buf held piece A B =
    let e = both A B in
    let h = ap (λ (l : Line). l.held) e in
    (omega (arith, h), ap (λ (l : Line). l.buffer) e)

pub drop_one : (buf : Bytes) (held n : ℕ) {r r' : ℕ} {buf₁ buf₂ : Bytes} → DropOut buf held n r buf₁ → DropOut buf held n r' buf₂ → (r ≡ r') × (buf₁ ≡ buf₂)
drop_one buf held n A B = let e = both A B in (ap (λ (l : Line). l.held) e, ap (λ (l : Line). l.buffer) e)

-- WRITING
pub write_one : (type : Bytes) (values : List ℕ) (text buf : Bytes) {r r' : ℕ} {out out' : List ℕ} {buf₁ buf₂ : Bytes} → WriteOut type values text buf r out buf₁ → WriteOut type values text buf r' out' buf₂ → (r ≡ r') × ((out ≡ out') × (buf₁ ≡ buf₂))
write_one type values text buf A B =
    let e = both A B in
    (ap (λ (x : LeftByWrite). x.number) e, (ap (λ (x : LeftByWrite). x.out) e, ap (λ (x : LeftByWrite). x.buffer) e))

-- THE SESSION
pub new_one : (ids : Bytes) (words : List ℕ) (us them : Bytes) {r r' : ℕ} {ids₁ ids₂ : Bytes} {words₁ words₂ : List ℕ} → NewOut ids words us them r ids₁ words₁ → NewOut ids words us them r' ids₂ words₂ → (r ≡ r') × ((ids₁ ≡ ids₂) × (words₁ ≡ words₂))
new_one ids words us them A B =
    let e = both A B in
    (ap (λ (x : LeftByNew). x.number) e, (ap (λ (x : LeftByNew). x.ids) e, ap (λ (x : LeftByNew). x.words) e))

-- what a call on a record leaves
parts : {x y : Left} → x ≡ y → (x.number ≡ y.number) × ((x.words ≡ y.words) × ((x.out ≡ y.out) × (x.buffer ≡ y.buffer)))
parts e = (ap (λ (x : Left). x.number) e, (ap (λ (x : Left). x.words) e, (ap (λ (x : Left). x.out) e, ap (λ (x : Left). x.buffer) e)))

-- and of the store
parts-with : {x y : LeftWithStore} → x ≡ y → (x.left.number ≡ y.left.number) × ((x.left.words ≡ y.left.words) × ((x.left.out ≡ y.left.out) × ((x.left.buffer ≡ y.left.buffer) × (x.store ≡ y.store))))
parts-with e =
    let p = parts (ap (λ (x : LeftWithStore). x.left) e) in (p.0, (p.1.0, (p.1.1.0, (p.1.1.1, ap (λ (x : LeftWithStore). x.store) e))))

module _ (ids : Bytes) (words : List ℕ) {r r' : ℕ} {words₁ words₂ : List ℕ} where
  pub reconnect_one : ReconnectOut ids words r words₁ → ReconnectOut ids words r' words₂ → (r ≡ r') × (words₁ ≡ words₂)
  reconnect_one A B = let e = both A B in (ap (λ (x : LeftByReconnect). x.number) e, ap (λ (x : LeftByReconnect). x.words) e)

  module _ {out out' : List ℕ} {buf₁ buf₂ : Bytes} where
    pub step_one : (frame : Bytes) (time : ℕ) (buf store : Bytes) {store₁ store₂ : Bytes} → StepOut ids words frame time buf store r words₁ out buf₁ store₁ → StepOut ids words frame time buf store r' words₂ out' buf₂ store₂
        → (r ≡ r') × ((words₁ ≡ words₂) × ((out ≡ out') × ((buf₁ ≡ buf₂) × (store₁ ≡ store₂))))
    step_one frame time buf store A B = parts-with (both A B)

    pub tick_one : (time : ℕ) (buf : Bytes) → TickOut ids words time buf r words₁ out buf₁ → TickOut ids words time buf r' words₂ out' buf₂ → (r ≡ r') × ((words₁ ≡ words₂) × ((out ≡ out') × (buf₁ ≡ buf₂)))
    tick_one time buf A B = parts (both A B)

    pub logout_one : (time : ℕ) (buf : Bytes) → LogoutOut ids words time buf r words₁ out buf₁ → LogoutOut ids words time buf r' words₂ out' buf₂ → (r ≡ r') × ((words₁ ≡ words₂) × ((out ≡ out') × (buf₁ ≡ buf₂)))
    logout_one time buf A B = parts (both A B)

    pub test_request_one : (id : Bytes) (time : ℕ) (buf : Bytes) → TestRequestOut ids words id time buf r words₁ out buf₁ → TestRequestOut ids words id time buf r' words₂ out' buf₂ → (r ≡ r') × ((words₁ ≡ words₂) × ((out ≡ out') × (buf₁ ≡ buf₂)))
    test_request_one id time buf A B = parts (both A B)

    pub report_one : (values : List ℕ) (text : Bytes) (time : ℕ) (buf store : Bytes) {store₁ store₂ : Bytes} → ReportOut ids words values text time buf store r words₁ out buf₁ store₁ → ReportOut ids words values text time buf store r' words₂ out' buf₂ store₂
        → (r ≡ r') × ((words₁ ≡ words₂) × ((out ≡ out') × ((buf₁ ≡ buf₂) × (store₁ ≡ store₂))))
    report_one values text time buf store A B = parts-with (both A B)

    pub replay_one : (time : ℕ) (buf store : Bytes) → ReplayOut ids words time buf store r words₁ out buf₁ → ReplayOut ids words time buf store r' words₂ out' buf₂ → (r ≡ r') × ((words₁ ≡ words₂) × ((out ≡ out') × (buf₁ ≡ buf₂)))
    replay_one time buf store A B = parts (both A B)
