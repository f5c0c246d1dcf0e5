-- The numbers of what a source has.
use Rattle.std.specs.Prelude.{◌≡◌, Some, length, map}
use Rattle.cx_vtree.specs.Plain.{PlainSource}
use Rattle.cx_vtree.specs.InstanceTree.{instances_of}
use Rattle.cx_velab.specs.Tables.{all_places}
use Rattle.cx_vsim.specs.Externals.{array_of}
use Rattle.cx_vsim.specs.declared.numbers.Numbers.{Numbers}

-- the numbers of the arrays of the external memories, and where each instance begins
pub record AreNumbersOf (s : PlainSource) (n : Numbers) : Type 0 where
  pub arrays : map Some n.arrays.items ≡ map (array_of (instances_of s)) s.externals
  pub places : n.places.items ≡ all_places (instances_of s) (length (instances_of s))
