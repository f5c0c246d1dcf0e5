use Rattle.std.proofs.Common.{length}
use Rattle.cx_graphs.specs.Graphs.{edges_of}
use Rattle.cx_graphs.specs.Ways.{both}
use Rattle.cx_graphs.proofs.WalkLemmas.{no_circle_from}
use Rattle.std.proofs.lemmas.Bool.{true_from_ne_false}
use Rattle.cx_graphs.proofs.walking.Walk.meets_circle.Goals as goal

pub returns-clause-value : goal.returns-clause-value
returns-clause-value c =
    let e = c.in_ok-found.ensures in
    let walk = c.walk_all.new.self in (
      e.found,
      λ circle. true_from_ne_false c.in_ok-found.found
          (λ f. no_circle_from (both (edges_of c.args.graph.now) (edges_of c.args.more.now)) (length c.args.graph.now) walk.marks.items _ walk.order.items walk.entered.items c.args.starts.now (e.walked f) (e.begun f) circle),
    )
