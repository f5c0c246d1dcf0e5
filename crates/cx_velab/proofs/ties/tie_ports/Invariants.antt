use Rattle.std.proofs.Common.{◌≡◌, map, drop}
use Rattle.cx_vtree.specs.PlainParts.{plain_port, plain_conn}
use Rattle.cx_vnets.specs.Numberings.{nets_by}
use Rattle.cx_velab.specs.Ties.{tied_ports}
use Rattle.cx_velab.proofs.ties.tie_ports.Given as goal

abbrev pub invariant-loop-k : goal.invariant-loop-k
invariant-loop-k l =
    tied_ports (nets_by l.numbers) l.inner l.outer l.k (map plain_port (drop l.k l.ports)) (map plain_conn (drop l.k l.conns)) l.drivers
    ≡ tied_ports (nets_by l.numbers) l.inner l.outer 0 (map plain_port l.ports) (map plain_conn l.conns) l.fn.drivers
