use Rattle.std.proofs.Common.{◌≡◌, ◌+◌, map, drop}
use Rattle.cx_vtree.specs.PlainParts.{plain_assign}
use Rattle.cx_vnets.specs.Numberings.{nets_by}
use Rattle.cx_velab.specs.Ties.{given_nets}
use Rattle.cx_velab.proofs.ties.give_nets.Given as goal

abbrev pub invariant-loop-assign : goal.invariant-loop-assign
invariant-loop-assign l = record {
  code : l.code ≡ l.first + l.assign-index;
  given : given_nets (nets_by l.numbers) l.place l.code (map plain_assign (drop l.assign-index l.assigns)) l.drivers
      ≡ given_nets (nets_by l.numbers) l.place l.first (map plain_assign l.assigns) l.fn.drivers;
}
