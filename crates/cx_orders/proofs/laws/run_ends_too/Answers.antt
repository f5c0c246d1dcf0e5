use Rattle.std.proofs.Common.{◌≡◌, Some, refl, arith, ◌+◌, ◌≤◌}
use Rattle.cx_meaning.specs.Rows.{KeepsIdle}
use Rattle.cx_meaning.specs.Designs.{no_place}
use Rattle.cx_meaning.specs.Instances.{part_of, instance_at, start, tree_of}
use Rattle.cx_meaning.specs.Sights.{unheld}
use Rattle.cx_laws.proofs.VisitLemmas.{itself}
use Rattle.cx_orders.specs.Open.{open_control}
use Rattle.cx_orders.proofs.Accepted.{design_sound}
use Rattle.cx_orders.proofs.Fits.{control_fits}
use Rattle.cx_orders.proofs.Lawful.{rows_at}
use Rattle.cx_orders.proofs.Orders.{ended_so}
use Rattle.cx_orders.proofs.Runs.{AllLawful, control_runs}
use Rattle.cx_orders.proofs.laws.run_ends_too.Goals as goal

pub returns : goal.returns
returns c d words one n after made sum design accepted e =
    let all = design_sound d design accepted (λ path v h t j. c.accepted_entries_are_acyclic.ensures d path v h t design accepted j) in
    let laws : AllLawful (tree_of d) =
    (λ path. record {
      rows = rows_at KeepsIdle (tree_of d) (c.designs_keep_idle.ensures d) path;
      suffices = λ held act listed s undriven settled. c.listed_cells_suffice.ensures d path held act listed s accepted undriven settled;
      own = λ held other s k same. c.own_inputs_suffice.ensures d path held other s k design accepted same;
      next = λ held v arms done later arm s cur next k o p there form split first second. c.next_arm.ensures.split d path held v arms done later arm s cur next k o p design accepted there form split first second;
      whole = λ held arms first rest s end k o list ran. c.whole_par.ensures.arms (instance_at (tree_of d) path) held arms no_place first rest s end k o list ran;
    }) in
    let r = ended_so (tree_of d) all unheld (part_of (tree_of d)).control (itself (part_of (tree_of d)).control) after one n 0 0 made sum (Some (open_control (tree_of d))) (control_fits (tree_of d) all) (start (tree_of d) words) e in
    let count : made ≡ 0 + r.turns = r.count in
    let few : r.turns ≡ made = omega arith in
    let run = control_runs (tree_of d) all laws unheld unheld after r.turns (start (tree_of d) words) (c.loaded_start_is_settled.ensures d words) r.ends (λ input less. refl) in
    let turns = run.1 made (omega arith) in
    (turns.0, turns.1, (let h : turns.0 ≤ r.turns = turns.2 in omega arith))
