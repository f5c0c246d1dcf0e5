-- What a source says of the arrays of its external memories.
use Rattle.std.specs.Prelude.{◌≡◌, ℕ, Some, slice_get}
use Rattle.cx_vtree.specs.Plain.{PlainExternal, PlainSource}
use Rattle.cx_vtree.specs.InstanceTree.{instances_of}
use Rattle.cx_vtree.specs.SimRun.{instance_named}
use Rattle.cx_vlaws.specs.Memories.{IsMemory}
use Rattle.cx_vnets.specs.EdgesFlat.{AreApart}

-- names are apart, each external memory is the array of an instance, and no two are in one instance
pub record HasMemories (s : PlainSource) : Type 0 where
  pub apart : AreApart (instances_of s)
  pub each : (k : ℕ) (e : PlainExternal) → slice_get s.externals k ≡ Some e → IsMemory (instances_of s) e
  pub once : (j k i : ℕ) (d e : PlainExternal) → slice_get s.externals j ≡ Some d → slice_get s.externals k ≡ Some e
      → instance_named (instances_of s) 0 d.instance ≡ Some i
      → instance_named (instances_of s) 0 e.instance ≡ Some i → j ≡ k
