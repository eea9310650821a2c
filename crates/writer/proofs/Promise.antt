-- The promise of the writer (specs/Promise.antt): its call, by the ways in which it ends.
use Prim.Native.Nat.{ℕ}
use mathlib.Core.Path.{◌≡◌, sym, ap, ◌∙◌, subst}
use mathlib.Core.List.{[], ◌∷◌}
use mathlib.Core.Option.{none}
use lib.ListN.{take}
use Rattle.octets.specs.Bytes.{Bytes, Byted}
use Rattle.fields.specs.Field.{first_field}
use Rattle.writer.specs.Call.{Values, Written, Outcome, Writes, numbers}
use Rattle.writer.specs.Promise.{Ends, CallPromise, SameGiven, Promise}
use Rattle.writer.proofs.Endings.{ends, refusal_8_or_9, refusal_keeps, message_promised, same-shown, same_read}

call : (type : Bytes) (vs : Values) (text buf : Bytes) (answer : Written) (after : Bytes) → Byted text → Writes type vs text buf answer after → CallPromise type vs text buf answer after
call type vs text buf answer after b W =
    let E = subst (λ (o : Outcome). Ends type vs text buf o) (sym W) (ends type vs text buf) in
    record {
      ending = E;
      a_length = message_promised type vs text buf b E;
      a_refusal = λ k e. (refusal_8_or_9 type vs text buf E k e, refusal_keeps type vs text buf E k e);
    }

told_apart : (type type' : Bytes) (vs vs' : Values) (text text' buf buf' : Bytes) (answer answer' : Written) (after after' : Bytes) (n n' : ℕ) → Byted text → Byted text'
    → Writes type vs text buf answer after → numbers answer ≡ (none, n ∷ []) → Writes type' vs' text' buf' answer' after' → numbers answer' ≡ (none, n' ∷ [])
    → take n after ≡ take n' after' → SameGiven type type' vs vs' text text'
told_apart type type' vs vs' text text' buf buf' answer answer' after after' n n' b b' W e W' e' q =
    let M = (call type vs text buf answer after b W).a_length n e in
    let M' = (call type' vs' text' buf' answer' after' b' W').a_length n' e' in
    let s = same_read M.reads_back M'.reads_back (sym M.front ∙ q ∙ M'.front) in
    record { types = M.coded ∙ s.0 ∙ sym M'.coded; values = λ t h. same-shown t vs vs' text text' (sym (M.values t h) ∙ ap (first_field t) s.1 ∙ M'.values t h) }

pub promise : Promise
promise = record { call = call; told_apart = told_apart }
