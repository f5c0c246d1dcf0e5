use Rattle.std.proofs.Common.{◌≡◌, length, subst, arith}
use Rattle.std.proofs.lemmas.List.{length-map}
use Rattle.cx_vtree.specs.Edges.{edge_at, acting_sets, acting_stores}
use Rattle.cx_velab.specs.Rows.{placed_of}
use Rattle.cx_vnets.specs.EdgesFlat.{SetStands, StoreStands}
use Rattle.cx_vsim.specs.Tables.{tree_of}
use Rattle.cx_vsim.specs.Passes.{StandBelow}
use Rattle.cx_vsim.proofs.PassLemmas.{stand_more, all_sets_stand, all_stores_stand}
use Rattle.cx_vsim.proofs.stepping.all_steps.Goals as goal

pub loop-i-preserved : goal.loop-i-preserved
loop-i-preserved c =
    let t = c.args.table.now in
    record {
      sets = stand_more (λ i. acting_sets 0 (edge_at (tree_of t) i)) (SetStands (tree_of t) t.codes.items) c.loop-i.i c.loop-i.sets.items c.push_steps.new.sets.items c.loop-i.invariant.sets c.in_ok-push_steps.ensures.sets;
      stores = stand_more (λ i. acting_stores 0 (edge_at (tree_of t) i)) (StoreStands (tree_of t) t.codes.items) c.loop-i.i c.loop-i.stores.items c.push_steps.new.stores.items c.loop-i.invariant.stores
          c.in_ok-push_steps.ensures.stores;
    }

pub returns-clause-sets : goal.returns-clause-sets
returns-clause-sets c =
    let t = c.args.table.now in
    let long = length-map t.rows.items placed_of in
    let end : c.loop-i.i ≡ length (tree_of t) = omega (arith, long, c.loop-i-test.false, c.loop-i.auto.i-end, c.len-i-end.ensures, t.rows.ok.0) in
    all_sets_stand (tree_of t) t.codes.items 0 c.loop-i.sets.items
    (subst (λ n. StandBelow (λ i. acting_sets 0 (edge_at (tree_of t) i)) (SetStands (tree_of t) t.codes.items) n c.loop-i.sets.items) end c.loop-i.invariant.sets)

pub returns-clause-stores : goal.returns-clause-stores
returns-clause-stores c =
    let t = c.args.table.now in
    let long = length-map t.rows.items placed_of in
    let end : c.loop-i.i ≡ length (tree_of t) = omega (arith, long, c.loop-i-test.false, c.loop-i.auto.i-end, c.len-i-end.ensures, t.rows.ok.0) in
    all_stores_stand (tree_of t) t.codes.items 0 c.loop-i.stores.items
    (subst (λ n. StandBelow (λ i. acting_stores 0 (edge_at (tree_of t) i)) (StoreStands (tree_of t) t.codes.items) n c.loop-i.stores.items) end c.loop-i.invariant.stores)
