use Rattle.std.proofs.Common.{◌↔◌, IsTrue, subst}
use Rattle.cx_graphs.specs.Reach.{SomeMarked}
use Rattle.cx_graphs.proofs.searching.Reach.leads_between.Goals as goal

pub returns-clause-value : goal.returns-clause-value
returns-clause-value c =
    let marks = c.mark_reached.new.self.marks.items in
    let is : IsTrue c.is_marked_between-found.result ↔ SomeMarked marks c.args.first c.args.last =
    subst (λ l. IsTrue c.is_marked_between-found.result ↔ SomeMarked l c.args.first c.args.last) c.as_slice.ensures.value c.is_marked_between-found.ensures.value in
    let reached = c.in_ok-mark_reached.ensures.reached in (
      λ e. let m = is.0 e in (m.0, m.1, m.2, reached.sound m.0 m.3),
      λ r. is.1 (r.0, r.1, r.2, reached.all r.0 r.3),
    )
