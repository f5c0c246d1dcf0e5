use Rattle.std.proofs.Common.{rules, ◌≤◌, [], get_or, length, take, sym, subst, arith}
use Rattle.std.proofs.lemmas.List.{take_more, take_all}
use Rattle.cx_graphs.proofs.Marks.{in_at}
use Rattle.cx_comb.specs.Pruning.{AreMarked}
use Rattle.cx_comb.proofs.TargetLemmas.{none_marked, more_marked}
use Rattle.cx_comb.proofs.pruning.marked.Goals as goal

pub loop-node-init : goal.loop-node-init
loop-node-init c = subst (AreMarked [] c.args.marks.now) (sym c.new-marked.ensures.items) (none_marked c.args.marks.now)

pub add_marked-requires : goal.add_marked-requires
add_marked-requires c =
    let ns = c.args.nodes.now in let k = c.loop-node.node-index in record { within = c.requires.within (get_or ns k 0) (in_at ns k (search rules)) }

pub loop-node-preserved : goal.loop-node-preserved
loop-node-preserved c =
    let ns = c.args.nodes.now in
    let k = c.loop-node.node-index in
    let after = c.add_marked.new.marked.items in
    let e = c.in_ok-add_marked.ensures in
    subst (λ l. AreMarked l c.args.marks.now after) (sym (take_more ns k 0 (search rules)))
    (more_marked c.args.marks.now (take k ns) c.loop-node.marked.items after (get_or ns k 0) c.loop-node.invariant e.kept e.known e.has)

pub returns : goal.returns
returns c =
    let ns = c.args.nodes.now in
    let past : length ns ≤ c.loop-node.node-index = omega arith in
    record { value = subst (λ l. AreMarked l c.args.marks.now c.loop-node.marked.items) (take_all c.loop-node.node-index ns past) c.loop-node.invariant }
