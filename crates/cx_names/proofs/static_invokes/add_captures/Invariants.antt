use Rattle.std.proofs.Common.{◌≡◌, ◌++◌, drop, flat_map}
use Rattle.cx_design.specs.PlainForms.{plain_assigns}
use Rattle.cx_numbering.specs.DesignOf.{static_capture}
use Rattle.cx_names.specs.Sites.{tree_at, part_at}
use Rattle.cx_names.specs.Calls.{invoke_of}
use Rattle.cx_names.proofs.static_invokes.add_captures.Given as goal

-- the assignments so far, and those of the binds that are left, are all
abbrev pub invariant-loop-bind : goal.invariant-loop-bind
invariant-loop-bind l =
    plain_assigns l.assigns.items ++ flat_map (static_capture (tree_at l.site) (part_at l.site) (invoke_of l.call)) (drop l.bind-index l.bind-items)
    ≡ plain_assigns l.initial.assigns.items ++ flat_map (static_capture (tree_at l.site) (part_at l.site) (invoke_of l.call)) l.bind-items
