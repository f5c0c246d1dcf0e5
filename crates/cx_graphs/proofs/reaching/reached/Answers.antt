use Rattle.std.proofs.Common.{◌≡◌, ◌<◌, length, sym, subst, ◌∙◌}
use Rattle.std.proofs.lemmas.List.{length-map}
use Rattle.cx_text.specs.Members.{In}
use Rattle.cx_graphs.specs.Graphs.{Marked, Spread, edges_of, targets_of}
use Rattle.cx_graphs.specs.Search.{IsUnderWay}
use Rattle.cx_graphs.proofs.Ways.{begins, goes_on, ends, waits_within}
use Rattle.cx_graphs.proofs.Marks.{spread_whole}
use Rattle.cx_graphs.proofs.ReachWays.{no_mark}
use Rattle.cx_graphs.proofs.Members.{targets_are}
use Rattle.cx_graphs.proofs.reaching.reached.Goals as goal

pub loop-node-init : goal.loop-node-init
loop-node-init c =
    let g = edges_of c.args.graph.now in
    begins g c.args.starts.now c.mark_all.new.marks.items c.mark_all.new.waiting.items c.in_ok-marks.marks.items
    (c.in_ok-marks.ensures.len ∙ sym (length-map c.args.graph.now _))
    (λ n m. no_mark _ n (subst (λ l. Marked l n) c.in_ok-marks.ensures.value m))
    (subst (λ l. Spread c.in_ok-marks.marks.items l c.args.starts.now c.mark_all.new.marks.items c.mark_all.new.waiting.items) c.new-waiting.ensures.items
    (spread_whole c.in_ok-marks.marks.items c.new-waiting.result.items c.args.starts.now c.mark_all.new.marks.items c.mark_all.new.waiting.items c.in_ok-mark_all.ensures.appends))

pub bounds-graph-node : goal.bounds-graph-node
bounds-graph-node c =
    let g = edges_of c.args.graph.now in
    subst (λ n. c.in-Some.node < n) (length-map c.args.graph.now _) (waits_within g c.args.starts.now c.loop-node.marks.items c.loop-node.waiting.items c.last.new.waiting.items c.in-Some.node c.in-Some.ensures.some c.loop-node.invariant)

pub mark_all-requires-in-Some : goal.mark_all-requires-in-Some
mark_all-requires-in-Some c =
    let g = edges_of c.args.graph.now in
    let node = c.in-Some.node in
    let within : node < length c.args.graph.now =
    subst (λ n. node < n) (length-map c.args.graph.now _) (waits_within g c.args.starts.now c.loop-node.marks.items c.loop-node.waiting.items c.last.new.waiting.items node c.in-Some.ensures.some c.loop-node.invariant) in
    let same : targets_of g node ≡ c.as_slice.result.now = targets_are c.args.graph.now node c.index-graph-node.result within c.index-graph-node.is ∙ sym c.as_slice.ensures.value in
    record { within = λ n i. subst (λ l. n < l) (sym c.loop-node.invariant.same_length) (c.requires.graph node n (subst (λ l. In l n) (sym same) i)) }

pub loop-node-preserved : goal.loop-node-preserved
loop-node-preserved c =
    let g = edges_of c.args.graph.now in
    let node = c.in-Some.node in
    let within : node < length c.args.graph.now =
    subst (λ n. node < n) (length-map c.args.graph.now _) (waits_within g c.args.starts.now c.loop-node.marks.items c.loop-node.waiting.items c.last.new.waiting.items node c.in-Some.ensures.some c.loop-node.invariant) in
    let same : targets_of g node ≡ c.as_slice.result.now = targets_are c.args.graph.now node c.index-graph-node.result within c.index-graph-node.is ∙ sym c.as_slice.ensures.value in
    goes_on g c.args.starts.now c.loop-node.marks.items c.loop-node.waiting.items c.last.new.waiting.items node c.mark_all-in-Some.new.marks.items c.mark_all-in-Some.new.waiting.items
    c.in-Some.ensures.some c.loop-node.invariant
    (subst (λ l. Spread c.loop-node.marks.items c.last.new.waiting.items l c.mark_all-in-Some.new.marks.items c.mark_all-in-Some.new.waiting.items) (sym same)
    (spread_whole c.loop-node.marks.items c.last.new.waiting.items c.as_slice.result.now c.mark_all-in-Some.new.marks.items c.mark_all-in-Some.new.waiting.items c.in_ok-mark_all-2.ensures.appends))

pub returns-clause-all : goal.returns-clause-all
returns-clause-all c =
    let g = edges_of c.args.graph.now in
    ends g c.args.starts.now c.loop-node.marks.items (subst (λ l. IsUnderWay g c.args.starts.now c.loop-node.marks.items l) c.in_default.ensures.none c.loop-node.invariant)
