use Rattle.std.proofs.Common.{◌≡◌, ◌<◌, ◌≤◌, ◌∷◌, [], ◌∙◌, ap, subst, sym, Bool, Some, true, false, get_or, slice_get, slice_set, length, arith}
use Rattle.std.proofs.lemmas.List.{length-map, length-append}
use Rattle.cx_text.specs.Members.{In}
use Rattle.cx_graphs.specs.Graphs.{edges_of, targets_of, unmarked}
use Rattle.cx_graphs.specs.GroundSearch.{IsOnWay}
use Rattle.cx_graphs.proofs.EdgeLemmas.{targets_are}
use Rattle.cx_graphs.proofs.Takes.{in_at, marked_as, fewer}
use Rattle.cx_graphs.proofs.SearchLemmas.{settles_marked, settles_waiting, settles_marking}
use Rattle.cx_text.proofs.ListLaws.{get_same}
use Rattle.cx_graphs.proofs.grounding.settle.Goals as goal

pub first_unmarked-next-requires : goal.first_unmarked-next-requires
first_unmarked-next-requires c =
    let g = edges_of c.args.graph.now in
    let targets = c.as_slice-edges.ensures.value ∙ targets_are c.args.graph.now c.args.node c.index-graph-node.result c.requires.within c.index-graph-node.is in
    record {
      within = λ n i. subst (λ k. n < k) (sym (ap length c.as_slice-2.ensures.value ∙ c.requires.counts.mark_count))
          (c.requires.graph c.args.node n (subst (λ l. In l n) targets i));
    }

pub add_link-requires : goal.add_link-requires
add_link-requires c =
    let edges = c.as_slice-edges.result.now in
    let next = c.first_unmarked-next.result in
    let targets = c.as_slice-edges.ensures.value ∙ targets_are c.args.graph.now c.args.node c.index-graph-node.result c.requires.within c.index-graph-node.is in
    record {
      within = subst (λ k. get_or edges next 0 < k) (sym c.requires.counts.waiting_count)
          (c.requires.graph c.args.node (get_or edges next 0) (subst (λ l. In l (get_or edges next 0)) targets (in_at edges next c.if-next-edges.true)));
    }

pub returns-then-next-edges-clause-way : goal.returns-then-next-edges-clause-way
returns-then-next-edges-clause-way c = λ todo way.
    let g = edges_of c.args.graph.now in
    let search = c.args.search.now in
    let node = c.args.node in
    let edges = c.as_slice-edges.result.now in
    let next = c.first_unmarked-next.result in
    let need = get_or edges next 0 in
    let targets = c.as_slice-edges.ensures.value ∙ targets_are c.args.graph.now node c.index-graph-node.result c.requires.within c.index-graph-node.is in
    let within_known = subst (λ k. node < k) (sym (length-map c.args.graph.now _) ∙ sym c.requires.counts.known_count) c.requires.within in
    let edge : In (targets_of g node) need = subst (λ l. In l need) targets (in_at edges next c.if-next-edges.true) in
    let bare : slice_get search.marks.items need ≡ Some false = subst (λ m. slice_get m need ≡ Some false) c.as_slice-2.ensures.value (c.first_unmarked-next.ensures.stops c.if-next-edges.true) in
    subst (λ w. IsOnWay g search.marks.items (slice_set search.known.items node next) w search.fresh.items todo) (sym c.in_ok-add_link.ensures.value)
    (settles_waiting g search.marks.items search.known.items (edges_of search.waiting.items) search.fresh.items todo node way next need
    (marked_as c.as_slice-2.result.now search.marks.items edges (targets_of g node) c.index.result.now (get_or search.known.items node 0) next c.as_slice-2.ensures.value targets
    (c.index.ensures ∙ get_same search.known.items node _ 0 within_known) c.first_unmarked-next.ensures.met (way.met node))
    (c.requires.graph node need edge) edge bare)

pub returns-clause-way : goal.returns-clause-way
returns-clause-way c = λ todo way.
    let g = edges_of c.args.graph.now in
    let search = c.args.search.now in
    let node = c.args.node in
    let edges = c.as_slice-edges.result.now in
    let next = c.first_unmarked-next.result in
    let targets = c.as_slice-edges.ensures.value ∙ targets_are c.args.graph.now node c.index-graph-node.result c.requires.within c.index-graph-node.is in
    let within_known = subst (λ k. node < k) (sym (length-map c.args.graph.now _) ∙ sym c.requires.counts.known_count) c.requires.within in
    let marks = slice_set search.marks.items node true in
    let known = slice_set search.known.items node next in
    let waiting = edges_of search.waiting.items in
    subst (λ m. IsOnWay g m c.mark.new.search.known.items (edges_of c.mark.new.search.waiting.items) c.mark.new.search.fresh.items todo) (sym c.in_ok-mark.ensures.marks)
    (subst (λ k. IsOnWay g marks k (edges_of c.mark.new.search.waiting.items) c.mark.new.search.fresh.items todo) (sym c.in_ok-mark.ensures.known)
    (subst (λ w. IsOnWay g marks known w c.mark.new.search.fresh.items todo) (sym c.in_ok-mark.ensures.waiting)
    (subst (λ f. IsOnWay g marks known waiting f todo) (sym c.in_ok-mark.ensures.fresh)
    (settles_marking g search.marks.items search.known.items waiting search.fresh.items todo node way next
    (marked_as c.as_slice-2.result.now search.marks.items edges (targets_of g node) c.index.result.now (get_or search.known.items node 0) next c.as_slice-2.ensures.value targets
    (c.index.ensures ∙ get_same search.known.items node _ 0 within_known) c.first_unmarked-next.ensures.met (way.met node))
    (subst (λ l. length l ≤ next) targets c.if-next-edges.false)))))

pub returns-clause-less : goal.returns-clause-less
returns-clause-less c =
    let search = c.args.search.now in
    let node = c.args.node in
    let bare : slice_get search.marks.items node ≡ Some false = ap (λ m. slice_get m node) (sym c.as_slice.ensures.value) ∙ c.is_marked.ensures.value ∙ ap (λ (b : Bool). Some b) c.if-is_marked.false in
    let less = fewer search.marks.items node bare in
    let more = ap length c.in_ok-mark.ensures.fresh ∙ length-append search.fresh.items (node ∷ []) in
    let marks = ap unmarked c.in_ok-mark.ensures.marks in
    omega (arith, less, more, marks)

pub returns-then-is_marked-clause-way : goal.returns-then-is_marked-clause-way
returns-then-is_marked-clause-way c = λ todo way.
    let search = c.args.search.now in
    settles_marked (edges_of c.args.graph.now) search.marks.items search.known.items (edges_of search.waiting.items) search.fresh.items todo c.args.node way
    (ap (λ m. slice_get m c.args.node) (sym c.as_slice.ensures.value) ∙ c.is_marked.ensures.value ∙ ap (λ (b : Bool). Some b) c.if-is_marked.true)
