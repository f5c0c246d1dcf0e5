use Rattle.std.proofs.Common.{ℕ, List, drop, map}
use Rattle.cx_ast.specs.PlainTree.{plain_port}
use Rattle.cx_numbering.specs.NameRules.{named}
use Rattle.cx_names_rules.specs.Seen.{Sees, SeesUpTo}
use Rattle.cx_names_rules.proofs.duplicates.see_ports.Given as goal

-- those behind are not yet seen
abbrev pub invariant-loop-port : goal.invariant-loop-port
invariant-loop-port l = (before : List (List ℕ)) → Sees before l.initial.seen → SeesUpTo before (map (λ p. named p.name p.place) (map plain_port l.ports)) (map (λ p. named p.name p.place) (map plain_port (drop l.port-index l.ports))) l.initial.found l.seen l.found
