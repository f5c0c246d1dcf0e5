-- Steps of the walks over cells and imports.
use Rattle.std.proofs.Common.{◌≡◌, ℕ, ◌<◌, ◌&&◌, List, [], ◌∷◌, Some, option_map, map, take, length, nat_eq, get_or, refl, sym, ap, ◌∙◌}
use Rattle.std.proofs.lemmas.Option.{slice_get-get_or, slice_get-map}
use Rattle.std.specs.Cmp.Lexicographic.{pointwise}
use Rattle.cx_text.specs.declared.diagnostics.Diagnostic.{Diagnostic}
use Rattle.cx_text.specs.declared.rules.Rule.TheVariants.{Recursive}
use Rattle.cx_ast.specs.declared.components.CellItem.{CellItem}
use Rattle.cx_ast.specs.PlainTree.{PlainTree, PlainComponent, PlainCell, plain_cell}
use Rattle.cx_numbering.specs.Names.{CellOf, Neither, APrimitive, AComponent, cell_of}
use Rattle.cx_numbering.specs.NameRules.{tell_if, leads_back, recursive_breaks, begins_with}
use Rattle.cx_names_parts.specs.Leading.{is_recursive, StandsIn}

-- a text begins with another where they agree as far as the other goes
pub begins_is : (xs ys : List ℕ) → begins_with xs ys ≡ pointwise nat_eq xs (take (length xs) ys)
begins_is [] [] = refl
begins_is [] (y ∷ ys) = refl
begins_is (x ∷ xs) [] = refl
begins_is (x ∷ xs) (y ∷ ys) = ap (λ b. nat_eq x y && b) (begins_is xs ys)

-- the cell of a number stands in its component
pub stands_at : (items : List CellItem) (i : ℕ) (x : CellItem) → x ≡ get_or items i x → i < length items → StandsIn (map plain_cell items) (plain_cell x)
stands_at items i x at within = (i, slice_get-map plain_cell items i ∙ ap (λ o. option_map plain_cell o) (slice_get-get_or items i x within) ∙ ap (λ y. Some (plain_cell y)) (sym at))

-- what is told of a cell that leads back
abbrev told : PlainTree → PlainComponent → PlainCell → CellOf → List Diagnostic
told tree part cell Neither = []
told tree part cell (APrimitive primitive) = []
told tree part cell (AComponent component) = tell_if (leads_back tree part.name (length tree.components) component) Recursive cell.place cell.name

told_is : (tree : PlainTree) (part : PlainComponent) (cell : PlainCell) (kind : CellOf) → told tree part cell kind ≡ tell_if (is_recursive tree part.name kind) Recursive cell.place cell.name
told_is tree part cell Neither = refl
told_is tree part cell (APrimitive primitive) = refl
told_is tree part cell (AComponent component) = refl

pub recursive_told : (tree : PlainTree) (part : PlainComponent) (cell : PlainCell) → recursive_breaks tree part cell ≡ tell_if (is_recursive tree part.name (cell_of tree cell)) Recursive cell.place cell.name
recursive_told tree part cell = told_is tree part cell (cell_of tree cell)
