-- The codes of a module, one behind another.
use Rattle.std.specs.Prelude.{◌≡◌, ℕ, List, [], ◌∷◌, ◌++◌, Option, Some, None, map, slice_get}
use Rattle.cx_vtree.specs.Plain.{PlainExpr, PlainAssign, PlainItem, SetTo, StoreTo, PlainEdge, PlainModule}
use Rattle.cx_vnets.specs.declared.codes.Code.{Code}
use Rattle.cx_vnets.specs.ModuleCodes.{Numbering, IsCode, HasNumbers}
use Rattle.cx_velab.specs.Added.{Adds}

abbrev pub values_of : List PlainAssign → List PlainExpr
values_of assigns = map (λ a. a.value) assigns

-- a set has one expression, and a store three: guard, index and value
abbrev pub item_exprs : PlainItem → List PlainExpr
item_exprs (SetTo a) = a.value ∷ []
item_exprs (StoreTo s) = s.guard ∷ s.index ∷ s.value ∷ []

abbrev pub items_exprs : List PlainItem → List PlainExpr
items_exprs [] = []
items_exprs (x ∷ xs) = item_exprs x ++ items_exprs xs

abbrev pub edge_exprs : Option PlainEdge → List PlainExpr
edge_exprs None = []
edge_exprs (Some e) = values_of e.reset ++ items_exprs e.step

-- all expressions of a module: of its assigns, of the branch with reset, and of the other branch
abbrev pub module_exprs : PlainModule → List PlainExpr
module_exprs m = values_of m.assigns ++ edge_exprs m.edge

-- the codes of some expressions come behind others, in their order
abbrev pub AddsCodes : Numbering → Numbering → List Code → List Code → List PlainExpr → Type 0
AddsCodes nets arrays old new exprs = Adds (IsCode nets arrays) old new exprs

-- all names in an item have numbers
abbrev pub ItemHasNumbers : Numbering → Numbering → PlainItem → Type 0
ItemHasNumbers nets arrays (SetTo a) = HasNumbers nets arrays a.value
ItemHasNumbers nets arrays (StoreTo s) =
    HasNumbers nets arrays s.guard × HasNumbers nets arrays s.index × HasNumbers nets arrays s.value

abbrev pub AssignsHaveNumbers : Numbering → Numbering → List PlainAssign → Type 0
AssignsHaveNumbers nets arrays assigns =
    (j : ℕ) (a : PlainAssign) → slice_get assigns j ≡ Some a → HasNumbers nets arrays a.value

-- all names in the branches have numbers
abbrev pub EdgeHasNumbers : Numbering → Numbering → Option PlainEdge → Type 0
EdgeHasNumbers nets arrays None = Unit {0}
EdgeHasNumbers nets arrays (Some e) =
    AssignsHaveNumbers nets arrays e.reset
    × ((j : ℕ) (x : PlainItem) → slice_get e.step j ≡ Some x → ItemHasNumbers nets arrays x)
