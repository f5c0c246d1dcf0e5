use Rattle.std.proofs.Common.{◌≡◌, ◌+◌, map, drop}
use Rattle.cx_vtree.specs.PlainParts.{plain_assign}
use Rattle.cx_vnets.specs.Numberings.{nets_by}
use Rattle.cx_velab.specs.Changes.{numbered, IsSet}
use Rattle.cx_velab.proofs.AddedLemmas.{Done}
use Rattle.cx_velab.proofs.changes.push_sets.Given as goal

abbrev pub invariant-loop-assign : goal.invariant-loop-assign
invariant-loop-assign l = record {
  code : l.code ≡ l.first + l.assign-index;
  added : Done (IsSet (nets_by l.numbers) l.place) l.fn.sets.items l.sets.items (numbered l.code (map plain_assign (drop l.assign-index l.assigns))) (numbered l.first (map plain_assign l.assigns));
}
