use Rattle.std.proofs.Common.{◌<◌, [], ◌∙◌, ap, subst, sym, slice_get}
use Rattle.std.proofs.lemmas.List.{length-map}
use Rattle.cx_text.specs.Members.{In}
use Rattle.cx_graphs.specs.Graphs.{edges_of}
use Rattle.cx_graphs.specs.Edges.{without_edges}
use Rattle.cx_graphs.specs.GroundSearch.{IsSearch, IsOnWay}
use Rattle.cx_graphs.proofs.EdgeLemmas.{in_end}
use Rattle.cx_graphs.proofs.SearchLemmas.{wakes, ends}
use Rattle.cx_graphs.proofs.grounding.grounded.Goals as goal

pub settle_all-requires-clause-way : goal.settle_all-requires-clause-way
settle_all-requires-clause-way c =
    let g = edges_of c.args.graph.now in
    subst (λ l. IsSearch g c.in_ok-search.search l) (sym c.as_slice.ensures.value)
    (c.in_ok-search.ensures.way g c.in_ok-all.all.items (length-map c.args.graph.now _) c.in_ok-all.ensures.few c.in_ok-all.ensures.all)

pub take_edges-woken-requires : goal.take_edges-woken-requires
take_edges-woken-requires c =
    let s = c.loop-node.search in
    let node = c.in-Some.node in
    let way = c.loop-node.invariant in
    record {
      within = subst (λ k. node < k) (sym way.waiting_count ∙ length-map s.waiting.items _)
          (way.few_fresh node (subst (λ l. In l node) (sym c.in-Some.ensures.some) (in_end c.last.new.list.items node)));
    }

pub settle_all-requires-in-Some-clause-way : goal.settle_all-requires-in-Some-clause-way
settle_all-requires-in-Some-clause-way c =
    let g = edges_of c.args.graph.now in
    let s = c.loop-node.search in
    let node = c.in-Some.node in
    subst (λ w. IsOnWay g s.marks.items s.known.items w c.last.new.list.items c.as_slice-in-Some.result.now) (sym c.take_edges-woken.ensures.left)
    (subst (λ l. IsOnWay g s.marks.items s.known.items (without_edges (edges_of s.waiting.items) node) c.last.new.list.items l) (sym (c.as_slice-in-Some.ensures.value ∙ c.take_edges-woken.ensures.taken))
    (wakes g s.marks.items s.known.items (edges_of s.waiting.items) s.fresh.items c.last.new.list.items node c.in-Some.ensures.some c.loop-node.invariant))

pub returns-clause-value : goal.returns-clause-value
returns-clause-value c = λ n within.
    let g = edges_of c.args.graph.now in
    let s = c.loop-node.search in
    ap (λ m. slice_get m n) c.found.ensures.value
    ∙ ends g s.marks.items s.known.items (edges_of s.waiting.items)
    (subst (λ f. IsOnWay g s.marks.items s.known.items (edges_of s.waiting.items) f []) c.in_default.ensures.none c.loop-node.invariant)
    n (subst (λ k. n < k) (sym (length-map c.args.graph.now _)) within)
