use Rattle.std.proofs.Common.{◌≡◌, drop}
use Rattle.cx_design.specs.PlainForms.{plain_component, plain_statements}
use Rattle.cx_static.specs.Lowering.{begin_at, parts_gathered, arms_gathered}
use Rattle.cx_static.specs.PlainLowered.{plain_gathering, plain_start}
use Rattle.cx_static.proofs.lists.+gather.Given as goal

-- what is gathered of the statements that are left makes all that is gathered
abbrev pub invariant-gather_parts-loop-statement : goal.invariant-gather_parts-loop-statement
invariant-gather_parts-loop-statement l =
    parts_gathered (plain_component l.part) (plain_statements (drop l.statement-index l.parts)) (begin_at l.start.timer l.at l.start.samples.now) (plain_gathering l.lists)
    ≡ parts_gathered (plain_component l.part) (plain_statements l.parts) (plain_start l.start) (plain_gathering l.initial.lists)

abbrev pub invariant-gather_arms-loop-statement : goal.invariant-gather_arms-loop-statement
invariant-gather_arms-loop-statement l =
    arms_gathered (plain_component l.part) (plain_statements (drop l.statement-index l.arms)) (plain_start l.start) (plain_gathering l.lists)
    ≡ arms_gathered (plain_component l.part) (plain_statements l.arms) (plain_start l.start) (plain_gathering l.initial.lists)
