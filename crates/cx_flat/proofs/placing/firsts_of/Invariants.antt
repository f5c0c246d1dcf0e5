use Rattle.std.proofs.Common.{◌≡◌, ◌++◌, drop, map}
use Rattle.cx_design.specs.PlainForms.{plain_invoke}
use Rattle.cx_flattening.specs.Flattened.{first_copy}
use Rattle.cx_profiling.specs.FlatEntries.{invokes_of}
use Rattle.cx_flat.specs.Callers.{kids_in, part_of}
use Rattle.cx_flat.proofs.placing.firsts_of.Given as goal

-- the numbers so far, and those for the invokes that are left, are all
abbrev pub invariant-loop-invoke : goal.invariant-loop-invoke
invariant-loop-invoke l =
    l.all.items ++ map (first_copy (kids_in l.caller) (part_of l.caller)) (invokes_of l.cell l.number (map plain_invoke (drop l.invoke-index l.caller.part.now.invokes.items)))
    ≡ map (first_copy (kids_in l.caller) (part_of l.caller)) (invokes_of l.cell 0 (part_of l.caller).invokes)
