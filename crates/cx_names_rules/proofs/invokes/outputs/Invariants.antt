use Rattle.std.proofs.Common.{◌≡◌, drop, flat_map}
use Rattle.cx_numbering.specs.NameRules.{output_breaks}
use Rattle.cx_names_scopes.specs.Scopes.{tree_in, part_in, kind_of}
use Rattle.cx_names_rules.specs.Found.{first_of}
use Rattle.cx_names_rules.proofs.invokes.outputs.Given as goal

-- the first of the breaks so far and of those behind is the first of all
abbrev pub invariant-loop-bind : goal.invariant-loop-bind
invariant-loop-bind l = first_of l.found (flat_map (output_breaks (tree_in l.scope) (part_in l.scope) l.cell (kind_of l.kind)) (drop l.bind-index l.binds)) ≡ first_of l.initial.found (flat_map (output_breaks (tree_in l.scope) (part_in l.scope) l.cell (kind_of l.kind)) l.binds)
