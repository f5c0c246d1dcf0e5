use Rattle.std.proofs.Common.{◌<◌, [], length, sym, subst}
use Rattle.std.proofs.lemmas.List.{length-map}
use Rattle.cx_text.specs.Members.{In}
use Rattle.cx_graphs.specs.Graphs.{edges_of}
use Rattle.cx_graphs.specs.Ways.{IsOrder, both}
use Rattle.cx_graphs.proofs.WalkLemmas.{circle_alone, circle_from_all, is_order, no_circle_from}
use Rattle.cx_graphs.proofs.walking.order.Goals as goal

pub returns-then-branch-clause-value : goal.returns-then-branch-clause-value
returns-then-branch-clause-value c = circle_alone (edges_of c.args.graph.now) c.as_slice.result.now (c.in_ok-walk_all.ensures.found c.if-branch.true)

pub returns-clause-value : goal.returns-clause-value
returns-clause-value c =
    let g = edges_of c.args.graph.now in
    let walk = c.walk_all.new.self in
    let e = c.in_ok-walk_all.ensures in
    let f = c.if-branch.false in
    subst (IsOrder g) (sym c.into_order.ensures.value)
    (is_order g (length c.args.graph.now) walk.marks.items walk.order.items walk.entered.items (length-map c.args.graph.now _) (e.walked f)
    (λ n h. e.begun f n (subst (λ l. In l n) (sym c.as_slice.ensures.value) (c.in_ok-starts.ensures.all n h))))

pub returns-clause-no_circle : goal.returns-clause-no_circle
returns-clause-no_circle c = λ circle.
    let g = edges_of c.args.graph.now in
    let walk = c.walk_all.new.self in
    let e = c.in_ok-walk_all.ensures in
    let f = c.if-branch.false in
    no_circle_from (both g []) (length c.args.graph.now) walk.marks.items [] walk.order.items walk.entered.items c.as_slice.result.now (e.walked f) (e.begun f)
    (circle_from_all g c.as_slice.result.now
    (λ n h. subst (λ l. In l n) (sym c.as_slice.ensures.value) (c.in_ok-starts.ensures.all n (subst (λ k. n < k) (length-map c.args.graph.now _) h))) circle)
