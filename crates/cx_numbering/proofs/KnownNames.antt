-- Worked values of names and numbers, each from the sentence above it.
use Rattle.std.specs.Prelude.{◌≡◌, ℕ, List, [], ◌∷◌, Some, None, codes, map, refl}
use Rattle.cx_text.specs.declared.places.Place.{Place}
use Rattle.cx_text.specs.declared.rules.Rule.TheVariants.{UnknownName, NoMain, UnknownPrimitive, LeftOut}
use Rattle.cx_ast.specs.declared.operands.OperandForm.TheVariants as operands
use Rattle.cx_ast.specs.declared.statements.BindItem.{BindItem}
use Rattle.cx_ast.specs.PlainTree as ast
use Rattle.cx_ast.specs.PlainStatements as statements
use Rattle.cx_meaning.specs.declared.ports.PortRef.TheVariants.{Cell, Done, Literal}
use Rattle.cx_meaning.specs.Designs.{PlainAssign, PlainGroup, PlainDesign, PlainComponent, component_at, PlainForm, form_of}
use Rattle.cx_meaning.specs.Designs as plain
use Rattle.cx_numbering.specs.DesignOf.{design_of}
use Rattle.cx_numbering.specs.NameRules.{tell, names_break}

abbrev place : ℕ → ℕ → Place
place line column = record { line = line; column = column }

abbrev cell : List ℕ → List ℕ → List ℕ → ast.PlainCell
cell name kind numbers = record { attributes = []; name = name; marks = []; kind = kind; numbers = numbers; place = place 3 1 }

abbrev one_statement : statements.PlainForm → statements.PlainBlock
one_statement form = statements.Braces (statements.StatementThen (statements.Placed [] form (place 7 7)) statements.NoStatements) (place 6 11)

abbrev tree : List ℕ → List ast.PlainCell → statements.PlainForm → ast.PlainTree
tree name cells form = record {
  imports = [];
  components = record { attributes = []; length = None; name = name; marks = []; inputs = []; outputs = []; cells = cells; wires = []; control = Some (one_statement form); place = place 1 1 } ∷ [];
}

abbrev reg : ast.PlainCell
reg = cell (codes "r") (codes "std_reg") (32 ∷ [])

-- zz; with no groups
pub known_unknown_group : names_break (tree (codes "main") (reg ∷ []) (statements.Enable (codes "zz") [])) ≡ Some (tell UnknownName (place 7 7) (codes "zz"))
known_unknown_group = refl

-- no component is named main; nothing comes before 1:1
pub known_no_main : names_break (tree (codes "top") [] (statements.Enable (codes "zz") [])) ≡ Some (tell NoMain (place 1 1) [])
known_no_main = refl

-- a kind that is neither a primitive nor a component
pub known_unknown_kind : names_break (tree (codes "main") (cell (codes "r") (codes "std_regg") (32 ∷ []) ∷ []) (statements.Enable (codes "zz") [])) ≡ Some (tell UnknownPrimitive (place 3 1) (codes "std_regg"))
known_unknown_kind = refl

-- invoke r(in = 32'd3)(): the go port of a register may not be named, and `in` may
abbrev bind : List ℕ → BindItem
bind name = record { name = name; value = record { form = operands.Literal 32 3; place = place 7 18 }; place = place 7 13 }

abbrev invoking : List ℕ → ast.PlainTree
invoking name = tree (codes "main") (reg ∷ []) (statements.Invoke (codes "r") (bind name ∷ []) [])

pub known_invoke : names_break (invoking (codes "in")) ≡ None
known_invoke = refl

pub known_invoke_go : names_break (invoking (codes "write_en")) ≡ Some (tell LeftOut (place 7 13) (codes "write_en"))
known_invoke_go = refl

-- its group drives the input, the go and the done, in this order, and its enable names it
pub known_targets : map (λ g. map (λ a. a.target) g.assigns) (component_at (design_of (invoking (codes "in"))) 0).groups ≡ (Cell 0 0 ∷ Cell 0 1 ∷ Done 0 ∷ []) ∷ []
known_targets = refl

pub known_sources : map (λ g. map (λ a. a.source.port) g.assigns) (component_at (design_of (invoking (codes "in"))) 0).groups ≡ (Literal 32 3 ∷ Literal 1 1 ∷ Cell 0 3 ∷ []) ∷ []
known_sources = refl

pub known_enable : form_of (component_at (design_of (invoking (codes "in"))) 0).control ≡ plain.Enable 0
known_enable = refl
