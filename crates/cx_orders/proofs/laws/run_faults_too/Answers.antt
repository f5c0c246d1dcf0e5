use Rattle.std.proofs.Common.{◌≡◌, Some, subst, arith, ◌+◌, ◌≤◌}
use Rattle.cx_meaning.specs.Rows.{KeepsIdle}
use Rattle.cx_meaning.specs.Designs.{no_place}
use Rattle.cx_meaning.specs.Instances.{part_of, instance_at, start, tree_of}
use Rattle.cx_meaning.specs.Sights.{unheld}
use Rattle.cx_laws.proofs.VisitLemmas.{itself}
use Rattle.cx_orders.specs.Open.{open_control}
use Rattle.cx_orders.specs.Steps.{Now}
use Rattle.cx_orders.specs.Woven.{leaf_of, open_from}
use Rattle.cx_orders.proofs.Accepted.{design_sound}
use Rattle.cx_orders.proofs.Fits.{control_fits}
use Rattle.cx_orders.proofs.Lawful.{rows_at}
use Rattle.cx_orders.proofs.Halting.{faulted_so}
use Rattle.cx_orders.proofs.Runs.{AllLawful}
use Rattle.cx_orders.proofs.HaltRuns.{control_halts}
use Rattle.cx_orders.proofs.AloneRuns.{leaf_faulty}
use Rattle.cx_orders.proofs.laws.run_faults_too.Goals as goal

pub returns-clause-arm : goal.returns-clause-arm
returns-clause-arm c d words one n fault before design accepted e =
    let all = design_sound d design accepted (λ path v h t j. c.accepted_entries_are_acyclic.ensures d path v h t design accepted j) in
    let laws : AllLawful (tree_of d) =
    (λ path. record {
      rows = rows_at KeepsIdle (tree_of d) (c.designs_keep_idle.ensures d) path;
      suffices = λ held act listed s undriven settled. c.listed_cells_suffice.ensures d path held act listed s accepted undriven settled;
      own = λ held other s k same. c.own_inputs_suffice.ensures d path held other s k design accepted same;
      next = λ held v arms done later arm s cur next k o p there form split first second. c.next_arm.ensures.split d path held v arms done later arm s cur next k o p design accepted there form split first second;
      whole = λ held arms first rest s end k o list ran. c.whole_par.ensures.arms (instance_at (tree_of d) path) held arms no_place first rest s end k o list ran;
    }) in
    let r = faulted_so (tree_of d) all unheld (part_of (tree_of d)).control (itself (part_of (tree_of d)).control) one fault before n 0 0 (Some (open_control (tree_of d))) (control_fits (tree_of d) all) (start (tree_of d) words) e in
    let count : before ≡ 0 + r.turns = r.count in
    let turns : r.turns ≡ before = omega arith in
    let alone = control_halts (tree_of d) all laws unheld fault r.last (leaf_of (one before) r.last) r.turns (start (tree_of d) words) (c.loaded_start_is_settled.ensures d words) r.halts in
    let bound : alone.0 ≤ r.turns = alone.2 in (
      r.last,
      r.after,
      subst (λ m. open_from (tree_of d) unheld one m 0 (Some (open_control (tree_of d))) (start (tree_of d) words) ≡ Now (Some r.last) r.after) turns r.open_then,
      (alone.0, alone.1, omega arith),
    )

pub returns-clause-run : goal.returns-clause-run
returns-clause-run c d words one n fault before design accepted e =
    leaf_faulty d words one fault before (λ path held other s k same. c.own_inputs_suffice.ensures d path held other s k design accepted same) (returns-clause-arm c d words one n fault before design accepted e)
