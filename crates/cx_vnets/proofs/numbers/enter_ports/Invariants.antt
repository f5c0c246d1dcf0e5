use Rattle.std.proofs.Common.{◌≡◌, ℕ, List, map, drop}
use Rattle.std.specs.Option.{option_or}
use Rattle.cx_vtree.specs.PlainParts.{plain_port}
use Rattle.cx_vnets.specs.ModuleNumbers.{position_from}
use Rattle.cx_vtree.specs.NameNumbers.{number_by}
use Rattle.cx_vnets.proofs.numbers.enter_ports.Given as goal

abbrev pub invariant-loop-number : goal.invariant-loop-number
invariant-loop-number l =
    (q : List ℕ) → option_or (number_by l.nets q) (position_from l.number (map (λ p. p.name) (map plain_port (drop l.number l.ports))) q)
    ≡ option_or (number_by l.fn.nets q) (position_from 0 (map (λ p. p.name) (map plain_port l.ports)) q)
