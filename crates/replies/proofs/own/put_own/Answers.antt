-- `put_own`: by the reply, its fields one behind the other.
use mathlib.Core.Path.{ap}
use mathlib.Core.Option.{Option}
use Rattle.octets.specs.Bytes.{Bytes}
use Rattle.message.specs.Message.{tagged}
use Rattle.message.proofs.Writes.{chain, nothing, reword}
use Rattle.replies.proofs.Replied.{flagged, counted, given_slice}
use Rattle.replies.proofs.own.put_own.Goals as goal

pub returns-in-Logon-clause-bytes : goal.returns-in-Logon-clause-bytes
returns-in-Logon-clause-bytes c =
    let l = c.in-Logon in
    let reset = ap (λ (o : Option Bytes). tagged 141 o) (flagged l.reset c.then_some.ensures) in
    rw l.is
    (chain c.put_field-a.ensures.bytes
    (chain c.put_field-b.ensures.bytes (chain c.put_field-c.ensures.bytes (chain (reword reset c.put_optional-in-Logon.ensures.bytes) nothing))))

pub returns-in-ResendRequest-clause-bytes : goal.returns-in-ResendRequest-clause-bytes
returns-in-ResendRequest-clause-bytes c =
    rw c.in-ResendRequest.is
    (chain c.put_field-a-in-ResendRequest.ensures.bytes (chain c.put_field-in-ResendRequest.ensures.bytes nothing))

pub returns-in-Reject-clause-bytes : goal.returns-in-Reject-clause-bytes
returns-in-Reject-clause-bytes c =
    let l = c.in-Reject in
    let tag = ap (λ (o : Option Bytes). tagged 371 o) (counted l.tag c.then_some-in-Reject.ensures) in
    let kind = ap (λ (o : Option Bytes). tagged 372 o) (given_slice l.kind) in
    rw l.is
    (chain c.put_field-a-in-Reject.ensures.bytes
    (chain (reword tag c.put_optional-b.ensures.bytes)
    (chain (reword kind c.put_optional-c.ensures.bytes) (chain c.put_field-in-Reject.ensures.bytes nothing))))

pub returns-in-GapFill-clause-bytes : goal.returns-in-GapFill-clause-bytes
returns-in-GapFill-clause-bytes c =
    rw c.in-GapFill.is
    (chain c.put_field-a-in-GapFill.ensures.bytes
    (chain c.put_field-b-in-GapFill.ensures.bytes (chain c.put_field-in-GapFill.ensures.bytes nothing)))
