-- What is stored with the inputs of a cycle.
use Rattle.std.specs.Prelude.{◌≡◌, Bool, slice_set}
use Rattle.cx_vnets.specs.declared.machines.Machine.{Machine}
use Rattle.cx_vnets.specs.declared.nets.Stored.{Stored}
use Rattle.cx_vnets.specs.Runs.{bit}

pub record HasInputs (m : Machine) (reset go : Bool) (before after : Stored) : Type 0 where
  pub nets : after.nets.items ≡ slice_set (slice_set before.nets.items m.reset (bit reset)) m.go (bit go)
  pub arrays : after.arrays.items ≡ before.arrays.items
