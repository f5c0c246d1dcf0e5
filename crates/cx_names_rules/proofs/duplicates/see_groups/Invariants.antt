use Rattle.std.proofs.Common.{ℕ, List, drop, map}
use Rattle.cx_ast.specs.PlainTree.{plain_wire}
use Rattle.cx_numbering.specs.Names.{groups_in}
use Rattle.cx_numbering.specs.NameRules.{named}
use Rattle.cx_names_rules.specs.Seen.{Sees, SeesUpTo}
use Rattle.cx_names_rules.proofs.duplicates.see_groups.Given as goal

-- those behind are not yet seen
abbrev pub invariant-loop-wire : goal.invariant-loop-wire
invariant-loop-wire l = (before : List (List ℕ)) → Sees before l.initial.seen → SeesUpTo before (map (λ g. named g.name g.place) (groups_in (map plain_wire l.wires))) (map (λ g. named g.name g.place) (groups_in (map plain_wire (drop l.wire-index l.wires)))) l.initial.found l.seen l.found
