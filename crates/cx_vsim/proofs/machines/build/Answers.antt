use Rattle.std.proofs.Common.{◌≡◌, map, refl, ap, ◌∙◌, subst, length, arith}
use Rattle.cx_velab.specs.Rows.{placed_of}
use Rattle.cx_velab.specs.Tables.{all_zeros, all_zero_arrays}
use Rattle.cx_vnets.specs.Readers.{ReadersStand}
use Rattle.cx_vsim.specs.Tables.{tree_of}
use Rattle.cx_vsim.proofs.BuiltLemmas.{built_stands}
use Rattle.cx_vsim.proofs.machines.build.Goals as goal

pub returns : goal.returns
returns c =
    let t = c.args.table in
    let rows = ap (map placed_of) c.deref.ensures.value in
    let stored = c.in_ok-stored.stored in
    let writes : length c.in_ok-bench.bench.writes.items ≡ length c.in_ok-steps.steps.stores.items = omega (arith, c.in_ok-bench.ensures.writes, c.len-2.ensures, c.in_ok-steps.steps.stores.ok.0) in
    built_stands (tree_of t) c.requires.tree c.driven_nets_stand.ensures c.tables_fit.ensures.nets c.tables_fit.ensures.sets c.tables_fit.ensures.stores c.zeros_stand.ensures.fits c.zeros_stand.ensures.values
    (record {
      nets = record { drivers = c.in_ok-drivers.drivers; codes = t.codes };
      order = c.in_ok-order.order;
      readers = c.in_ok-readers.readers;
      resets = c.in_ok-resets.resets;
      sets = c.in_ok-steps.steps.sets;
      stores = c.in_ok-steps.steps.stores;
      reset = 1;
      go = 2;
      done = 3;
    })
    c.in_ok-bench.bench stored
    (c.in_ok-stored.ensures.nets ∙ ap all_zeros rows) (c.in_ok-stored.ensures.arrays ∙ ap all_zero_arrays rows)
    c.in_ok-drivers.ensures c.in_ok-resets.ensures c.in_ok-steps.ensures.sets c.in_ok-steps.ensures.stores refl refl refl
    c.in_ok-bench.ensures.marks c.in_ok-bench.ensures.stack writes c.in_ok-bench.ensures.values
    (subst (λ o. ReadersStand (record { drivers = c.in_ok-drivers.drivers; codes = t.codes }) o c.in_ok-readers.readers) c.deref-2.ensures.value c.in_ok-readers.ensures) c.in_ok-bench.ensures.stale
