use Rattle.std.proofs.Common.{◌≡◌, drop, flat_map}
use Rattle.cx_numbering.specs.NameRules.{import_breaks}
use Rattle.cx_names_rules.specs.Found.{first_of}
use Rattle.cx_names_parts.proofs.first.imports.Given as goal

-- the first of the breaks so far and of those behind is the first of all
abbrev pub invariant-loop-item : goal.invariant-loop-item
invariant-loop-item l = first_of l.found (flat_map import_breaks (drop l.item-index l.items)) ≡ first_of l.initial.found (flat_map import_breaks l.items)
