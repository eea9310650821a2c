-- `is_headed`: each piece of the heading in its turn.
use Rattle.frame.specs.Frame.{fixt}
use Rattle.kept.proofs.Behind.{seen, missed, stood, refuted}
use Rattle.kept.proofs.Headings.{pieces, whole_heading}
use Rattle.kept.proofs.is_headed.Goals as goal

pub returns-then-not-stands : goal.returns-then-not-stands
unfolding fixt
returns-then-not-stands c = refuted (λ H. missed _ c.stands.ensures c.if-not-stands.true H.mark)

pub returns-then-not-stands-2 : goal.returns-then-not-stands-2
returns-then-not-stands-2 c =
    let a = c.args in
    refuted (λ H. missed _ c.stands-2.ensures c.if-not-stands-2.true (pieces a.ids.now.us.now a.ids.now.them.now a.place.now H.head).label_49)

pub returns-then-not-stands_at : goal.returns-then-not-stands_at
returns-then-not-stands_at c =
    let a = c.args in
    refuted (λ H. missed _ c.stands_at.ensures c.if-not-stands_at.true (pieces a.ids.now.us.now a.ids.now.them.now a.place.now H.head).its_49)

pub returns-then-not-stands_at-2 : goal.returns-then-not-stands_at-2
returns-then-not-stands_at-2 c =
    let a = c.args in
    refuted (λ H. missed _ c.stands_at-2.ensures c.if-not-stands_at-2.true (pieces a.ids.now.us.now a.ids.now.them.now a.place.now H.head).label_56)

pub returns-then-not-stands_at-3 : goal.returns-then-not-stands_at-3
returns-then-not-stands_at-3 c =
    let a = c.args in
    refuted (λ H. missed _ c.stands_at-3.ensures c.if-not-stands_at-3.true (pieces a.ids.now.us.now a.ids.now.them.now a.place.now H.head).its_56)

pub returns : goal.returns
unfolding fixt
returns c =
    let a = c.args in
    record {
      yes = λ e.
          record {
            mark = seen _ c.stands.ensures c.if-not-stands.false;
            head = whole_heading a.ids.now.us.now a.ids.now.them.now a.place.now
                (record {
                  label_49 = seen _ c.stands-2.ensures c.if-not-stands-2.false;
                  its_49 = seen _ c.stands_at.ensures c.if-not-stands_at.false;
                  label_56 = seen _ c.stands_at-2.ensures c.if-not-stands_at-2.false;
                  its_56 = seen _ c.stands_at-3.ensures c.if-not-stands_at-3.false;
                  label_34 = c.stands_at-4.ensures.found e;
                });
          };
      no = λ H. stood _ c.stands_at-4.ensures (pieces a.ids.now.us.now a.ids.now.them.now a.place.now H.head).label_34;
    }
