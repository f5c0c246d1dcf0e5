use Rattle.std.proofs.Common.{◌≡◌, drop, map}
use Rattle.cx_design.specs.PlainForms.{plain_component, plain_statement, plain_statements}
use Rattle.cx_static.specs.Lowering.{parts_after, lowered_parts}
use Rattle.cx_static.specs.PlainLowered.{plain_lowering}
use Rattle.cx_meaning.proofs.DesignsLemmas.{joined}
use Rattle.cx_static.proofs.control.+control.Given as goal

-- the statements so far, and those that are left, are all; so are the islands
abbrev pub invariant-lower_parts-loop-statement : goal.invariant-lower_parts-loop-statement
invariant-lower_parts-loop-statement l =
    let part = plain_component l.part in
    let rest = plain_statements (drop l.statement-index l.parts) in
    let whole = plain_statements l.parts in
    record {
      value : joined (map plain_statement l.all.items) (lowered_parts part rest (plain_lowering l.lowering)) ≡ lowered_parts part whole (plain_lowering l.initial.lowering);
      after : parts_after part rest (plain_lowering l.lowering) ≡ parts_after part whole (plain_lowering l.initial.lowering);
    }
