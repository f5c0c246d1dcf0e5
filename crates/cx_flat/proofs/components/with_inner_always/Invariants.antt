use Rattle.std.proofs.Common.{◌≡◌, ◌++◌, drop}
use Rattle.cx_design.specs.PlainForms.{plain_assigns}
use Rattle.cx_flattening.specs.Flattened.{always_from}
use Rattle.cx_flat.specs.Callers.{kids_in, part_of}
use Rattle.cx_flat.proofs.components.with_inner_always.Given as goal

-- the assignments so far, and those of the cells that are left, are all
abbrev pub invariant-loop-number : goal.invariant-loop-number
invariant-loop-number l =
    plain_assigns l.all.items ++ always_from (kids_in l.caller) (part_of l.caller) l.number (drop l.number (kids_in l.caller))
    ≡ plain_assigns l.fn.front.items ++ always_from (kids_in l.caller) (part_of l.caller) 0 (kids_in l.caller)
