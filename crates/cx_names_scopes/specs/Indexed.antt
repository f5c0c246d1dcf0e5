-- When an index has the names of a tree.
use Rattle.std.specs.Prelude.{◌≡◌, List, [], ◌∷◌, map}
use Rattle.cx_ast.specs.PlainTree.{PlainComponent, PlainGroup, PlainTree}
use Rattle.cx_numbering.specs.Names.{port_names, cell_names, component_names, groups_in}
use Rattle.cx_names_scopes.specs.declared.index.Groups.{Groups}
use Rattle.cx_names_scopes.specs.declared.index.Index.{Index}
use Rattle.cx_names_scopes.specs.declared.index.PartIndex.{PartIndex}
use Rattle.cx_names_scopes.specs.Numbered.{AreNumbersOf}

-- the numbers of groups, and their words in order
pub record AreGroups (groups : List PlainGroup) (index : Groups) : Type 0 where
  pub numbers : AreNumbersOf (map (λ g. g.name) groups) index.numbers
  pub words : index.words.items ≡ map (λ g. g.kind) groups

pub record IsPartIndex (part : PlainComponent) (index : PartIndex) : Type 0 where
  pub inputs : AreNumbersOf (port_names part.inputs) index.inputs
  pub outputs : AreNumbersOf (port_names part.outputs) index.outputs
  pub cells : AreNumbersOf (cell_names part) index.cells
  pub groups : AreGroups (groups_in part.wires) index.groups

-- there is an index for each component, in their order
abbrev pub ArePartIndexes : List PlainComponent → List PartIndex → Type 0
ArePartIndexes [] [] = Unit {0}
ArePartIndexes [] (index ∷ indexes) = ⊥
ArePartIndexes (part ∷ parts) [] = ⊥
ArePartIndexes (part ∷ parts) (index ∷ indexes) = IsPartIndex part index × ArePartIndexes parts indexes

pub record IsIndex (tree : PlainTree) (index : Index) : Type 0 where
  pub components : AreNumbersOf (component_names tree) index.components
  pub parts : ArePartIndexes tree.components index.parts.items
