use Rattle.std.proofs.Common.{◌≡◌, suc, ◌∷◌, ◌++◌, length, drop, map}
use Rattle.cx_design.specs.PlainForms.{plain_statements}
use Rattle.cx_meaning.specs.Designs.{Seq}
use Rattle.cx_net.specs.PlainNets.{plain_net_expr}
use Rattle.cx_wiring.specs.Control.{arms_over, form_drivers, arms_drivers}
use Rattle.cx_wiring.specs.Counts.{wires_in, arms_registers}
use Rattle.cx_wiring.specs.Stands.{at}
use Rattle.cx_fsm.specs.ControlPieces.{behind_form}
use Rattle.cx_fsm.specs.Drafts.{AddsRest, IfWhole}
use Rattle.cx_fsm.specs.PlainStands.{islands_of, past, plain_stand}
use Rattle.cx_fsm.proofs.ControlLemmas.{seq_left, seq_next}
use Rattle.cx_fsm.proofs.control.+control.Given as goal

-- what is left of the seq makes all of it
abbrev pub invariant-seq-loop-part : goal.invariant-seq-loop-part
invariant-seq-loop-part l =
    let rest = plain_statements (drop l.part-index l.parts) in
    let whole = Seq (plain_statements l.parts) in
    let islands = islands_of l.plan in
    let x = plain_stand l.stand in
    record {
      next : IfWhole l.draft (seq_next l.plan.groups islands x l.last (plain_stand l.next) rest ≡ behind_form islands whole x);
      driven : AddsRest l.initial.draft l.draft (seq_left l.plan.groups islands x l.last (plain_stand l.next) rest) (form_drivers l.plan.groups islands x whole);
    }

-- the arms so far, and those that are left, are all
abbrev pub invariant-par-loop-statement : goal.invariant-par-loop-statement
invariant-par-loop-statement l =
    let rest = plain_statements (drop l.statement-index l.arms) in
    let whole = plain_statements l.arms in
    let islands = islands_of l.plan in
    let x = plain_stand l.stand in
    record {
      next : IfWhole l.draft (past (plain_stand l.next) (wires_in rest) (length (arms_registers islands rest)) 0 ≡ past (past x 2 0 1) (wires_in whole) (length (arms_registers islands whole)) 0);
      over : IfWhole l.draft (map plain_net_expr l.over.items ++ arms_over l.plan.groups islands l.next.wire l.next.register rest ≡ at x ∷ arms_over l.plan.groups islands (suc (suc l.stand.wire)) l.stand.register whole);
      driven : AddsRest l.initial.draft l.draft (arms_drivers l.plan.groups islands x l.next.wire l.next.register rest) (arms_drivers l.plan.groups islands x (suc (suc l.stand.wire)) l.stand.register whole);
    }
