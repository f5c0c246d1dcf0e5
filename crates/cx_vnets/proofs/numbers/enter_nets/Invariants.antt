use Rattle.std.proofs.Common.{◌≡◌, ℕ, ◌+◌, ◌≤◌, List, map, drop}
use Rattle.std.specs.Option.{option_or}
use Rattle.cx_vtree.specs.InstanceTree.{declared_nets}
use Rattle.cx_vtree.specs.PlainParts.{plain_decl}
use Rattle.cx_vnets.specs.ModuleNumbers.{position_from}
use Rattle.cx_vtree.specs.NameNumbers.{number_by}
use Rattle.cx_vnets.proofs.numbers.enter_nets.Given as goal

abbrev pub invariant-loop-decl : goal.invariant-loop-decl
invariant-loop-decl l = record {
  small : l.next ≤ l.first + l.decl-index;
  numbered : (q : List ℕ) → option_or (number_by l.nets q) (position_from l.next (declared_nets (map plain_decl (drop l.decl-index l.decls))) q)
      ≡ option_or (number_by l.fn.nets q) (position_from l.first (declared_nets (map plain_decl l.decls)) q);
}
