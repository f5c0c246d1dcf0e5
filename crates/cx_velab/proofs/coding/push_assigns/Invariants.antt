use Rattle.std.proofs.Common.{map, drop}
use Rattle.cx_vtree.specs.PlainParts.{plain_assign}
use Rattle.cx_vnets.specs.ModuleCodes.{IsCode}
use Rattle.cx_vnets.specs.Numberings.{nets_by, arrays_by}
use Rattle.cx_velab.specs.Coded.{values_of}
use Rattle.cx_velab.proofs.AddedLemmas.{Done}
use Rattle.cx_velab.proofs.coding.push_assigns.Given as goal

abbrev pub invariant-loop-assign : goal.invariant-loop-assign
invariant-loop-assign l =
    Done (IsCode (nets_by l.numbers) (arrays_by l.numbers)) l.fn.codes.items l.codes.items (values_of (map plain_assign (drop l.assign-index l.assigns))) (values_of (map plain_assign l.assigns))
