-- Instances that are still to be listed.
use Rattle.std.specs.Prelude.{ℕ, ◌+◌, List, [], ◌∷◌, ◌++◌, length, reverse, Option, Some, None, if◌then◌else◌}
use Rattle.cx_vtree.specs.Plain.{PlainInstance, PlainModule}
use Rattle.cx_vtree.specs.InstanceTree.{Placed, same_name, below, tree_from}

-- what stands in an instance, and the modules that ended before its own
pub record PlainPending : Type 0 where
  pub before : List PlainModule
  pub instances : List PlainInstance
  pub holder : ℕ

-- all instances that they stand for, from number `number` on
abbrev pub trees : List PlainPending → ℕ → List Placed
trees [] number = []
trees (p ∷ ps) number =
    let t = below (tree_from (reverse p.before)) p.holder number p.instances in
    t ++ trees ps (number + length t)

-- the module of a name and those before it, where the modules stand the last one first
abbrev pub found_from : List PlainModule → List ℕ → Option (PlainModule × List PlainModule)
found_from [] kind = None
found_from (m ∷ before) kind = if same_name m.name kind then Some (m, before) else found_from before kind

-- the steps that the instances take, each with those below it
abbrev pub costs : (PlainInstance → ℕ) → List PlainInstance → ℕ
costs cost [] = 0
costs cost (i ∷ rest) = cost i + costs cost rest

abbrev pub cost_from : List PlainModule → PlainInstance → ℕ
cost_from [] i = 1
cost_from (m ∷ before) i =
    if same_name m.name i.kind then 2 + costs (cost_from before) m.instances else cost_from before i

abbrev pub work : List PlainPending → ℕ
work [] = 0
work (p ∷ ps) = 1 + costs (cost_from (reverse p.before)) p.instances + work ps
