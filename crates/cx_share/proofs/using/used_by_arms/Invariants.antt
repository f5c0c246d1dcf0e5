use Rattle.std.proofs.Common.{◌≡◌, length, map, take}
use Rattle.cx_design.specs.PlainForms.{plain_component, plain_statement}
use Rattle.cx_sharing.specs.Uses.{uses}
use Rattle.cx_share.specs.Marks.{marks_by}
use Rattle.cx_share.proofs.using.used_by_arms.Given as goal

-- the sets of the arms so far
abbrev pub invariant-loop-arm : goal.invariant-loop-arm
invariant-loop-arm l = l.cells.items ≡ map (λ s. marks_by (length l.part.cells.items) (uses (plain_component l.part) (plain_statement s))) (take l.arm-index l.arms)
