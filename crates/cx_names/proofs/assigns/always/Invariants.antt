use Rattle.std.proofs.Common.{◌≡◌, ◌++◌, drop, map}
use Rattle.cx_ast.specs.PlainTree.{plain_wire}
use Rattle.cx_design.specs.PlainForms.{plain_assigns}
use Rattle.cx_numbering.specs.Names.{always_in}
use Rattle.cx_numbering.specs.DesignOf.{assign_of}
use Rattle.cx_names.specs.Sites.{tree_at, part_at}
use Rattle.cx_names.proofs.assigns.always.Given as goal

-- the assignments so far, and those among what is left, are all
abbrev pub invariant-loop-wire : goal.invariant-loop-wire
invariant-loop-wire l =
    plain_assigns l.all.items ++ map (assign_of (tree_at l.site) (part_at l.site)) (always_in (map plain_wire (drop l.wire-index l.wires))) ≡ map (assign_of (tree_at l.site) (part_at l.site)) (always_in (map plain_wire l.wires))
