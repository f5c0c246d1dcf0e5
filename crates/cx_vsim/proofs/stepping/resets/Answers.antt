use Rattle.std.proofs.Common.{◌≡◌, length, subst, arith}
use Rattle.std.proofs.lemmas.List.{length-map}
use Rattle.cx_vtree.specs.Edges.{edge_at, acting_sets}
use Rattle.cx_velab.specs.Rows.{placed_of}
use Rattle.cx_vnets.specs.EdgesFlat.{SetStands}
use Rattle.cx_vsim.specs.Tables.{tree_of}
use Rattle.cx_vsim.specs.Passes.{StandBelow}
use Rattle.cx_vsim.proofs.PassLemmas.{stand_more, all_sets_stand}
use Rattle.cx_vsim.proofs.stepping.resets.Goals as goal

pub loop-i-preserved : goal.loop-i-preserved
loop-i-preserved c =
    let t = c.args.table.now in
    stand_more (λ i. acting_sets 1 (edge_at (tree_of t) i)) (SetStands (tree_of t) t.codes.items) c.loop-i.i c.loop-i.sets.items c.push_resets.new.sets.items c.loop-i.invariant c.in_ok-push_resets.ensures

pub returns : goal.returns
returns c =
    let t = c.args.table.now in
    let long = length-map t.rows.items placed_of in
    let end : c.loop-i.i ≡ length (tree_of t) = omega (arith, long, c.loop-i-test.false, c.loop-i.auto.i-end, c.len-i-end.ensures, t.rows.ok.0) in
    all_sets_stand (tree_of t) t.codes.items 1 c.loop-i.sets.items
    (subst (λ n. StandBelow (λ i. acting_sets 1 (edge_at (tree_of t) i)) (SetStands (tree_of t) t.codes.items) n c.loop-i.sets.items) end c.loop-i.invariant)
