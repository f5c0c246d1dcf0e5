use Rattle.std.proofs.Common.{◌≡◌, ◌+◌, drop, map}
use Rattle.cx_meaning.specs.Designs.{guards_of}
use Rattle.cx_design.specs.PlainForms.{plain_guard}
use Rattle.cx_net.specs.PlainNets.{plain_net_expr}
use Rattle.cx_wiring.specs.Guards.{parts_wires, parts_exprs, parts_drivers}
use Rattle.cx_fsm.specs.Drafts.{AddsRest, IfWhole}
use Rattle.cx_fsm.specs.Offsets.{offset_of}
use Rattle.cx_fsm.proofs.PartLemmas.{joined}
use Rattle.cx_fsm.proofs.guards.+guard.Given as goal

-- the parts so far, and those that are left, are all
abbrev pub invariant-parts-loop-guard : goal.invariant-parts-loop-guard
invariant-parts-loop-guard l =
    let rest = guards_of (map plain_guard (drop l.guard-index l.guards)) in
    let whole = guards_of (map plain_guard l.guards) in
    record {
      exprs : IfWhole l.draft (joined (map plain_net_expr l.exprs.items) (parts_exprs l.wire rest) ≡ parts_exprs l.first whole);
      wires : IfWhole l.draft (l.wire + parts_wires rest ≡ l.first + parts_wires whole);
      driven : AddsRest l.initial.draft l.draft (parts_drivers (offset_of l.offset) l.wire rest) (parts_drivers (offset_of l.offset) l.first whole);
    }
