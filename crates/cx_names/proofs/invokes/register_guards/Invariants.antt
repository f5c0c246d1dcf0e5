use Rattle.std.proofs.Common.{◌≡◌, ◌++◌, drop, map}
use Rattle.cx_meaning.specs.Designs.{Atom}
use Rattle.cx_design.specs.PlainForms.{plain_guard}
use Rattle.cx_numbering.specs.DesignOf.{register_done}
use Rattle.cx_names.specs.Sites.{tree_at, part_at}
use Rattle.cx_names.specs.Calls.{invoke_of}
use Rattle.cx_names.proofs.invokes.register_guards.Given as goal

-- the guards so far, and those of the binds that are left, are all
abbrev pub invariant-loop-bind : goal.invariant-loop-bind
invariant-loop-bind l =
    map plain_guard l.all.items ++ map (λ b. Atom (register_done (tree_at l.site) (part_at l.site) (invoke_of l.call) b)) (drop l.bind-index l.bind-items)
    ≡ map (λ b. Atom (register_done (tree_at l.site) (part_at l.site) (invoke_of l.call) b)) l.bind-items
