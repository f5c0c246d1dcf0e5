-- A component of a tree with the names of both, and the numbers of the ports of components' cells.
use Rattle.std.specs.Prelude.{◌≡◌, ℕ, ◌+◌, List, [], ◌∷◌, length}
use Rattle.cx_ast.specs.PlainTree.{PlainTree, PlainComponent, plain_component, plain_tree}
use Rattle.cx_numbering.specs.Names.{AComponent, cell_port_names}
use Rattle.cx_names_scopes.specs.declared.numbers.Numbers.{Numbers}
use Rattle.cx_names_scopes.specs.Numbered.{number_in, or_else, number_from, AreNumbersOf}
use Rattle.cx_names_scopes.specs.Scopes.{IsScope}
use Rattle.cx_names.specs.declared.sites.Site.{Site}

abbrev pub tree_at : Site → PlainTree
tree_at site = plain_tree site.scope.tree.now

abbrev pub part_at : Site → PlainComponent
part_at site = plain_component site.scope.part.now

-- for each component, in order, the numbers of the ports of its cells
abbrev pub ArePortNumbers : List PlainComponent → List Numbers → Type 0
ArePortNumbers [] [] = Unit {0}
ArePortNumbers [] (numbers ∷ rest) = ⊥
ArePortNumbers (part ∷ parts) [] = ⊥
ArePortNumbers (part ∷ parts) (numbers ∷ rest) =
    AreNumbersOf (cell_port_names (AComponent part)) numbers × ArePortNumbers parts rest

pub record IsSite (site : Site) : Type 0 where
  pub scope : IsScope site.scope
  pub ports : ArePortNumbers (tree_at site).components site.ports.now.items

-- names are added behind others, the first with the number `next`; `behind` is the number behind the last
pub record AddsNames (next : ℕ) (old : Numbers) (names : List (List ℕ)) (behind : ℕ) (new : Numbers) : Type 0 where
  pub numbers : (n : List ℕ) → number_in new n ≡ or_else (number_in old n) (number_from next n names)
  pub behind_all : behind ≡ next + length names
