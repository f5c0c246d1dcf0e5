use Rattle.std.proofs.Common.{◌≡◌, map, take}
use Rattle.cx_vnets.specs.Stores.{write_of}
use Rattle.cx_vnets.proofs.stores.look_at_stores.Given as goal

abbrev pub invariant-loop-number : goal.invariant-loop-number
invariant-loop-number l = take l.number l.writes ≡ map (write_of l.codes l.values l.arrays) (take l.number l.stores)
