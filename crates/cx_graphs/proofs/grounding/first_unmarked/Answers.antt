use Rattle.std.proofs.Common.{rules, ◌∙◌, ap, Bool, Some}
use Rattle.cx_graphs.proofs.Takes.{in_at, one_more_marked}
use Rattle.cx_graphs.proofs.grounding.first_unmarked.Goals as goal

pub is_marked-requires : goal.is_marked-requires
is_marked-requires c = record { within = c.requires.within _ (in_at c.args.edges.now c.loop-edge.edge (search rules)) }

pub loop-edge-preserved : goal.loop-edge-preserved
loop-edge-preserved c = λ before. one_more_marked c.args.marks.now c.args.edges.now c.loop-edge.edge (c.loop-edge.invariant before)
    (c.is_marked.ensures.value ∙ ap (λ (b : Bool). Some b) c.if-not-is_marked.false)
