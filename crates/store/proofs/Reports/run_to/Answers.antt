-- `run_to`: what the places looked at have left of the run, and those behind make the rest of it.
use native.Mathlib.Omega.{arith}
use mathlib.Core.Path.{refl, sym, ap, ◌∙◌, subst}
use Prim.Native.Nat.{ℕ, ◌+◌}
use Rattle.octets.specs.Bytes.{Bytes}
use Rattle.kept.specs.Kept.{held, number_of}
use Rattle.kept.proofs.Numbers.{number_some, number_not, same_yes, same_no}
use Rattle.store.proofs.Running.{RunFrom, run_low, run_high, run_not, run_ends, run_all, run_past, run_kept}
use Rattle.store.proofs.Reports.run_to.Goals as goal
use Rattle.store.proofs.Reports.run_to.Goals.{then-at-n+then-n-e+then-eq, else-at-n, else-at-n-via-then-at-n+then-n-e+else-eq, else-at-n-via-then-at-n+else-n-e, else-at-n-via-else-at-n}

pub loop-i-preserved : goal.loop-i-preserved
loop-i-preserved c =
    let s = c.args.self.now in
    let a = c.args in
    let l = c.loop-i in
    let us = s.ids.us.now in
    let them = s.ids.them.now in
    let store = s.store.now in
    let P = c.requires.each l.i c.loop-i-test.true in
    let left = λ (e : ℕ). RunFrom us them store a.at a.end e (l.i + 1) in
    elim c.if-at-n.branch [
      | then-at-n+then-n-e+then-eq w ↦
          let K = w.kept_number.ensures ∙ ap (λ (p : Bytes). number_of (held us them p)) w.place.ensures.is in
          let N = number_some _ _ (sym (same_yes _ _ (sym w.eq.ensures ∙ w.if-eq.true)) ∙ K) in
          subst left (sym w.e-is) (run_past us them store a.at a.end l.e _ l.i c.loop-i-test.true l.invariant (run_ends us them _ a.at l.e _ _ refl N w.if-at-n.true w.if-n-e.true))
      | else-at-n w ↦
          subst left (sym w.e-is) (run_past us them store a.at a.end l.e _ l.i c.loop-i-test.true l.invariant (elim w.else-at-n.branch [
            | else-at-n-via-then-at-n+then-n-e+else-eq v ↦
                let K = v.kept_number.ensures ∙ ap (λ (p : Bytes). number_of (held us them p)) v.place.ensures.is in
                run_not us them _ a.at l.e _ _ P refl (number_not _ _ (omega arith) K (same_no _ _ (sym v.eq.ensures ∙ v.if-eq.false)))
            | else-at-n-via-then-at-n+else-n-e v ↦ run_high us them _ a.at l.e _ P v.if-n-e.false
            | else-at-n-via-else-at-n v ↦ run_low us them _ a.at l.e _ P v.if-at-n.false
          ]))
    ]

pub returns : goal.returns
returns c =
    let a = c.args in
    let s = c.args.self.now in
    let l = c.loop-i in
    sym (run_all s.ids.us.now s.ids.them.now s.store.now a.at l.e l.i (omega arith)) ∙ l.invariant ∙ run_kept s.ids.us.now s.ids.them.now s.store.now a.at a.end
