use Rattle.std.proofs.Common.{◌≡◌, ◌++◌, drop, map}
use Rattle.cx_design.specs.PlainForms.{plain_statements}
use Rattle.cx_static.specs.PlainLowered.{plain_island}
use Rattle.cx_wiring.specs.Counts.{registers_in, arms_registers}
use Rattle.cx_fsm.proofs.registers.+registers.Given as goal

-- the registers so far, and those of the parts that are left, are all
abbrev pub invariant-parts_registers-loop-part : goal.invariant-parts_registers-loop-part
invariant-parts_registers-loop-part l =
    l.registers.items ++ registers_in (map plain_island l.islands) (plain_statements (drop l.part-index l.parts))
    ≡ l.initial.registers.items ++ registers_in (map plain_island l.islands) (plain_statements l.parts)

-- the same of arms
abbrev pub invariant-arms_registers-loop-arm : goal.invariant-arms_registers-loop-arm
invariant-arms_registers-loop-arm l =
    l.registers.items ++ arms_registers (map plain_island l.islands) (plain_statements (drop l.arm-index l.arms))
    ≡ l.initial.registers.items ++ arms_registers (map plain_island l.islands) (plain_statements l.arms)
