use Rattle.cx_meaning.specs.Instances.{part_of, start, tree_of}
use Rattle.cx_meaning.specs.Sights.{unheld}
use Rattle.std.proofs.Common.{Some}
use Rattle.cx_laws.proofs.VisitLemmas.{itself}
use Rattle.cx_orders.specs.Open.{open_control}
use Rattle.cx_orders.proofs.Accepted.{design_sound}
use Rattle.cx_orders.proofs.Fits.{control_fits}
use Rattle.cx_orders.proofs.Orders.{orders_end, orders_go_on, none_faults}
use Rattle.cx_orders.proofs.laws.orders_agree.Goals as goal

pub returns-clause-ends : goal.returns-clause-ends
returns-clause-ends c d words one other n m after made sum design accepted e less =
    let all = design_sound d design accepted (λ path v h t j. c.accepted_entries_are_acyclic.ensures d path v h t design accepted j) in
    orders_end (tree_of d) all unheld (part_of (tree_of d)).control (itself (part_of (tree_of d)).control) (Some (open_control (tree_of d))) (control_fits (tree_of d) all) (start (tree_of d) words) after one other n m made sum e less

pub returns-clause-goes_on : goal.returns-clause-goes_on
returns-clause-goes_on c d words one other n m after made sum design accepted e less =
    let all = design_sound d design accepted (λ path v h t j. c.accepted_entries_are_acyclic.ensures d path v h t design accepted j) in
    orders_go_on (tree_of d) all unheld (part_of (tree_of d)).control (itself (part_of (tree_of d)).control) (Some (open_control (tree_of d))) (control_fits (tree_of d) all) (start (tree_of d) words) after one other n m made sum e less

pub returns-clause-faults : goal.returns-clause-faults
returns-clause-faults c d words one other n m after made sum fault before design accepted e f =
    let all = design_sound d design accepted (λ path v h t j. c.accepted_entries_are_acyclic.ensures d path v h t design accepted j) in
    none_faults (tree_of d) all unheld (part_of (tree_of d)).control (itself (part_of (tree_of d)).control) (Some (open_control (tree_of d))) (control_fits (tree_of d) all) (start (tree_of d) words) after one other n m made sum e fault before f
