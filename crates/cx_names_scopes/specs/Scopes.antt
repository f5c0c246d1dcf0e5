-- A component of a tree with the names of both, and what a cell is of, as the definitions of names have it.
use Rattle.std.specs.Prelude.{◌≢◌, ℕ, List, slice_get, Option, Some, None}
use Rattle.cx_prim.specs.declared.names.PrimitiveName.TheVariants.{Timer}
use Rattle.cx_ast.specs.declared.components.CellItem.{CellItem}
use Rattle.cx_ast.specs.declared.wiring.GroupWord.{GroupWord}
use Rattle.cx_ast.specs.PlainTree.{PlainTree, PlainComponent, PlainCell, PlainGroup, plain_cell, plain_component, plain_tree}
use Rattle.cx_numbering.specs.Names.{CellOf, Neither, APrimitive, AComponent}
use Rattle.cx_names_scopes.specs.declared.kinds.CellKind.{CellKind}
use Rattle.cx_names_scopes.specs.declared.kinds.CellKind.TheVariants.{Unknown, Primitive, Component}
use Rattle.cx_names_scopes.specs.declared.scopes.Scope.{Scope}
use Rattle.cx_names_scopes.specs.Indexed.{IsIndex, IsPartIndex}
use denote.Bor.{Bor}

-- the names are those of the tree and of the component
pub record IsScope (scope : Scope) : Type 0 where
  pub index : IsIndex (plain_tree scope.tree.now) scope.index.now
  pub own : IsPartIndex (plain_component scope.part.now) scope.own.now

abbrev pub tree_in : Scope → PlainTree
tree_in scope = plain_tree scope.tree.now

abbrev pub part_in : Scope → PlainComponent
part_in scope = plain_component scope.part.now

abbrev pub kind_of : CellKind → CellOf
kind_of Unknown = Neither
kind_of (Primitive name numbers) = APrimitive (record { name = name; numbers = numbers.now })
kind_of (Component part index) = AComponent (plain_component part.now)

-- designs cannot name the timer, and the names are those of the component
abbrev pub IsKind : CellKind → Type 0
IsKind Unknown = Unit {0}
IsKind (Primitive name numbers) = name ≢ Timer
IsKind (Component part index) = IsPartIndex (plain_component part.now) index.now

abbrev pub copied_cell : Option (Bor CellItem) → Option PlainCell
copied_cell None = None
copied_cell (Some cell) = Some (plain_cell cell.now)

abbrev pub word_of : Option PlainGroup → Option GroupWord
word_of None = None
word_of (Some g) = Some g.kind

-- the part of a number, where there is one
abbrev pub at_number : {A : Type 0} → Option ℕ → List A → Option A
at_number None xs = None
at_number (Some n) xs = slice_get xs n
