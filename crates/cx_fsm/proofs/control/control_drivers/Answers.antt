use Rattle.std.proofs.Common.{◌≡◌, ◌++◌, ◌∙◌, ap, append_assoc, zero-add}
use Rattle.cx_design.specs.PlainForms.{plain_statement}
use Rattle.cx_net.specs.PlainNets.{plain_net_drivers}
use Rattle.cx_wiring.specs.Control.{drivers_of, whole_stand}
use Rattle.cx_wiring.specs.Counts.{positions_of}
use Rattle.cx_wiring.specs.Stands.{Stand}
use Rattle.cx_fsm.specs.ControlPieces.{finished}
use Rattle.cx_fsm.specs.PlainStands.{islands_of}
use Rattle.cx_fsm.proofs.control.control_drivers.Goals as goal

pub returns-clause-driven : goal.returns-clause-driven
returns-clause-driven c =
    let plan = c.args.plan.now in
    let s = plain_statement c.args.control.now in
    let before = plain_net_drivers c.args.draft.now.drivers.items in
    let own = drivers_of plan.groups (islands_of plan) (whole_stand plan.control) s in
    let made = c.statement_drivers-behind.ensures in
    let last = c.finishing.ensures.driven in
    let count = c.statement_drivers-behind.result.position in
    record {
      whole = λ h. made.driven.whole (last.whole h);
      driven = λ h.
          last.driven h
          ∙ ap (λ l. l ++ finished plan.control count) (made.driven.driven (last.whole h))
          ∙ append_assoc before own (finished plan.control count)
          ∙ ap (λ n. before ++ (own ++ finished plan.control n)) (ap (λ (y : Stand). y.position) (made.behind (last.whole h)) ∙ zero-add (positions_of s));
    }
