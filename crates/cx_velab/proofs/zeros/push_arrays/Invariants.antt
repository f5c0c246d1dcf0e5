use Rattle.std.proofs.Common.{◌≡◌, ◌++◌, map, drop}
use Rattle.cx_vtree.specs.PlainParts.{plain_decl}
use Rattle.cx_vnets.specs.Stores.{plain_words}
use Rattle.cx_velab.specs.Tables.{zero_arrays}
use Rattle.cx_velab.proofs.zeros.push_arrays.Given as goal

abbrev pub invariant-loop-decl : goal.invariant-loop-decl
invariant-loop-decl l =
    map plain_words l.arrays.items ++ zero_arrays (map plain_decl (drop l.decl-index l.decls)) ≡ map plain_words l.fn.arrays.items ++ zero_arrays (map plain_decl l.decls)
