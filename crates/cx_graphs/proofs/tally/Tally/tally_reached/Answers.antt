use Rattle.std.proofs.Common.{rules, arith, ◌≡◌, ◌<◌, ◌+◌, ◌∷◌, length, drop, sym, ap, subst, ◌∙◌}
use Rattle.std.proofs.lemmas.List.{length-map, drop_more, get_or_read}
use Rattle.cx_text.specs.Members.{In}
use Rattle.cx_graphs.specs.Graphs.{edges_of, targets_of}
use Rattle.cx_graphs.specs.declared.owners.Owners.TheVariants.{Nobody}
use Rattle.cx_graphs.specs.Owners.{owners_at}
use Rattle.cx_graphs.specs.Tallies.{Added, starts_of}
use Rattle.cx_graphs.proofs.Members.{targets_are}
use Rattle.cx_graphs.proofs.Spreading.{spreads, spreads_more, spread, next_within}
use Rattle.cx_graphs.proofs.tally.Tally.tally_reached.Goals as goal

pub loop-next-init : goal.loop-next-init
loop-next-init c =
    let g = edges_of c.args.graph.now in
    let long : length g ≡ length c.args.graph.now = length-map c.args.graph.now _ in
    let new = c.tally_groups.new.self in
    spreads g (starts_of (edges_of c.args.members.now) (edges_of c.args.group_lists.now) (edges_of c.args.lists.now)) new.owners.items new.touched.items (c.in_ok-tally_groups.ensures.len ∙ c.requires.clear.size ∙ sym long) c.in_ok-tally_groups.ensures.told

pub index-owners-requires : goal.index-owners-requires
index-owners-requires c =
    let s = c.loop-next.self in
    let node : c.index-node.result.now < length s.owners.items =
    next_within s.owners.items s.touched.items c.loop-next.next c.index-node.result.now c.loop-next.invariant.kept (search rules) c.index-node.ensures in
    omega (arith, node, s.owners.ok.0)

pub bounds-graph-node : goal.bounds-graph-node
bounds-graph-node c =
    let s = c.loop-next.self in
    let long : length (edges_of c.args.graph.now) ≡ length c.args.graph.now = length-map c.args.graph.now _ in
    let node : c.index-node.result.now < length s.owners.items =
    next_within s.owners.items s.touched.items c.loop-next.next c.index-node.result.now c.loop-next.invariant.kept (search rules) c.index-node.ensures in
    omega (arith, node, long, c.loop-next.invariant.same_length)

pub add_all-requires : goal.add_all-requires
add_all-requires c =
    let s = c.loop-next.self in
    let g = edges_of c.args.graph.now in
    let node = c.index-node.result.now in
    let long : length g ≡ length c.args.graph.now = length-map c.args.graph.now _ in
    let within : node < length s.owners.items = next_within s.owners.items s.touched.items c.loop-next.next node c.loop-next.invariant.kept (search rules) c.index-node.ensures in
    let same : targets_of g node ≡ c.as_slice.result.now = targets_are c.args.graph.now node c.index-graph-node.result (omega (arith, within, long, c.loop-next.invariant.same_length)) c.index-graph-node.is ∙ sym c.as_slice.ensures.value in
    record { within = λ n i. subst (λ k. n < k) (sym c.loop-next.invariant.same_length) (c.requires.graph node n (subst (λ l. In l n) (sym same) i)) }

pub loop-next-preserved : goal.loop-next-preserved
loop-next-preserved c =
    let s = c.loop-next.self in
    let last = c.add_all.new.self in
    let g = edges_of c.args.graph.now in
    let node = c.index-node.result.now in
    let long : length g ≡ length c.args.graph.now = length-map c.args.graph.now _ in
    let within : node < length s.owners.items = next_within s.owners.items s.touched.items c.loop-next.next node c.loop-next.invariant.kept (search rules) c.index-node.ensures in
    let same : targets_of g node ≡ c.as_slice.result.now = targets_are c.args.graph.now node c.index-graph-node.result (omega (arith, within, long, c.loop-next.invariant.same_length)) c.index-graph-node.is ∙ sym c.as_slice.ensures.value in
    let here = get_or_read s.owners.items node c.index-owners.result.now within c.index-owners.ensures Nobody in
    spreads_more g (starts_of (edges_of c.args.members.now) (edges_of c.args.group_lists.now) (edges_of c.args.lists.now)) s.owners.items s.touched.items c.loop-next.next node last.owners.items last.touched.items c.requires.graph (search rules)
    (drop_more s.touched.items c.loop-next.next node (search rules) ∙ ap (λ x. x ∷ drop (c.loop-next.next + 1) s.touched.items) (search rules)) c.loop-next.invariant
    (subst (λ l. Added s.owners.items s.touched.items l (owners_at s.owners.items node) last.owners.items last.touched.items) (sym same)
    (subst (λ o. Added s.owners.items s.touched.items c.as_slice.result.now o last.owners.items last.touched.items) here c.in_ok-add_all.ensures.added))

pub returns-clause-told : goal.returns-clause-told
returns-clause-told c =
    let s = c.loop-next.self in
    spread (edges_of c.args.graph.now) (starts_of (edges_of c.args.members.now) (edges_of c.args.group_lists.now) (edges_of c.args.lists.now)) s.owners.items s.touched.items c.loop-next.next (λ lt. absurd (omega (arith, lt, s.touched.ok.0))) c.loop-next.invariant
