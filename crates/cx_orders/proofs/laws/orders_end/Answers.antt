use Rattle.std.proofs.Common.{◌≡◌, ℕ, ◌+◌, Some, refl, subst, arith}
use Rattle.cx_meaning.specs.Rows.{KeepsIdle}
use Rattle.cx_meaning.specs.Designs.{no_place}
use Rattle.cx_meaning.specs.Instances.{part_of, instance_at, start, tree_of}
use Rattle.cx_meaning.specs.Sights.{unheld}
use Rattle.cx_laws.proofs.VisitLemmas.{itself}
use Rattle.cx_orders.specs.Open.{open_control}
use Rattle.cx_orders.specs.Woven.{Ends, woven}
use Rattle.cx_orders.proofs.Accepted.{design_sound}
use Rattle.cx_orders.proofs.Fits.{control_fits}
use Rattle.cx_orders.proofs.Lawful.{rows_at}
use Rattle.cx_orders.proofs.Orders.{ends_so}
use Rattle.cx_orders.proofs.StatementEnds.{AllFair, control_ends}
use Rattle.cx_orders.proofs.Apart.{apart_alike}
use Rattle.cx_orders.proofs.laws.orders_end.Goals as goal

pub returns : goal.returns
returns c d words n after turns design accepted e =
    let all = design_sound d design accepted (λ path v h t j. c.accepted_entries_are_acyclic.ensures d path v h t design accepted j) in
    let laws : AllFair (tree_of d) =
    (λ path. record {
      lawful = record {
        rows = rows_at KeepsIdle (tree_of d) (c.designs_keep_idle.ensures d) path;
        suffices = λ held act listed s undriven settled. c.listed_cells_suffice.ensures d path held act listed s accepted undriven settled;
        own = λ held other s k same. c.own_inputs_suffice.ensures d path held other s k design accepted same;
        next = λ held v arms done later arm s cur next k o p there form split first second. c.next_arm.ensures.split d path held v arms done later arm s cur next k o p design accepted there form split first second;
        whole = λ held arms first rest s end k o list ran. c.whole_par.ensures.arms (instance_at (tree_of d) path) held arms no_place first rest s end k o list ran;
      };
      alike = λ held v arms done later arm s cur k there form split same. apart_alike d path held accepted (λ w a b m stands agree. c.runs_agree.ensures d path held w a b m design accepted stands agree) v there arms done later arm s cur k form split same;
    }) in
    let r = control_ends (tree_of d) all laws unheld unheld after n turns (start (tree_of d) words) (c.loaded_start_is_settled.ensures d words) (λ input less. refl) e in
    let ended = r.1 in
    let count : 0 + ended.0 ≡ ended.0 = omega arith in (
      ended.0,
      λ choice m enough. subst (λ k. (sum : ℕ) × (woven d words choice m ≡ Ends after k sum)) count
          (ends_so (tree_of d) all unheld (part_of (tree_of d)).control (itself (part_of (tree_of d)).control) after choice ended.0 (Some (open_control (tree_of d))) (control_fits (tree_of d) all) (start (tree_of d) words) ended.1 m 0 0 enough),
    )
