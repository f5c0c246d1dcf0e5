use Rattle.std.proofs.Common.{rules, arith, ◌<◌, ◌+◌, ◌∷◌, length, drop, sym, ap, subst, ◌∙◌}
use Rattle.std.proofs.lemmas.List.{drop_more}
use Rattle.cx_graphs.specs.Graphs.{edges_of, targets_of}
use Rattle.cx_graphs.specs.Ways.{both}
use Rattle.cx_graphs.proofs.Marks.{appends_more}
use Rattle.cx_graphs.proofs.ReachWays.{queue_begins, queue_goes_on, queue_ends, next_within}
use Rattle.cx_graphs.proofs.searching.Reach.mark_reached.Goals as goal

pub loop-next-init : goal.loop-next-init
loop-next-init c =
    let s = c.args.self.now in
    queue_begins (both (edges_of c.args.graph.now) (edges_of c.args.more.now)) (length c.args.graph.now) c.args.start c.mark.new.marks.items c.mark.new.waiting.items s.marks.items s.touched.items
    c.requires.unmarked.size c.requires.unmarked.none c.requires.unmarked.none_touched c.in_ok-mark.ensures.appends

pub mark_targets-requires-clause-node : goal.mark_targets-requires-clause-node
mark_targets-requires-clause-node c =
    let s = c.loop-next.self in
    next_within (both (edges_of c.args.graph.now) (edges_of c.args.more.now)) (length c.args.graph.now) c.args.start s.marks.items s.touched.items c.loop-next.next c.index-node.result.now (search rules) c.index-node.ensures c.loop-next.invariant

pub mark_targets-requires-in-loop-next-clause-node : goal.mark_targets-requires-in-loop-next-clause-node
mark_targets-requires-in-loop-next-clause-node c =
    let s = c.loop-next.self in
    subst (λ n. c.index-node.result.now < n) (sym c.requires.same)
    (next_within (both (edges_of c.args.graph.now) (edges_of c.args.more.now)) (length c.args.graph.now) c.args.start s.marks.items s.touched.items c.loop-next.next c.index-node.result.now (search rules) c.index-node.ensures c.loop-next.invariant)

pub loop-next-preserved : goal.loop-next-preserved
loop-next-preserved c =
    let g = edges_of c.args.graph.now in
    let more = edges_of c.args.more.now in
    let s = c.loop-next.self in
    let mid = c.mark_targets.new.self in
    let last = c.mark_targets-in-loop-next.new.self in
    let next = c.loop-next.next in
    let node = c.index-node.result.now in
    queue_goes_on (both g more) (length c.args.graph.now) c.args.start s.marks.items s.touched.items next node last.marks.items last.touched.items (search rules)
    (drop_more s.touched.items next node (search rules) ∙ ap (λ x. x ∷ drop (next + 1) s.touched.items) (search rules)) c.loop-next.invariant
    (appends_more s.marks.items s.touched.items (targets_of g node) mid.marks.items mid.touched.items (targets_of more node) last.marks.items last.touched.items c.in_ok-mark_targets.ensures.appends c.in_ok-mark_targets-2.ensures.appends)

pub returns-clause-reached : goal.returns-clause-reached
returns-clause-reached c =
    let s = c.loop-next.self in
    queue_ends (both (edges_of c.args.graph.now) (edges_of c.args.more.now)) (length c.args.graph.now) c.args.start s.marks.items s.touched.items c.loop-next.next (omega arith) c.loop-next.invariant
