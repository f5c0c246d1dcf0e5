-- What a design keeps in its type, as facts to use.
use Rattle.std.proofs.Common.{◌≡◌, ℕ, zero, suc, ◌<◌, ◌≤◌, Bool, true, false, List, [], ◌∷◌, length, map, get_or, All, refl, sym, ap, ◌∙◌, subst, inl, inr, arith}
use Rattle.std.proofs.Math.Logic.{∥∥₁_elim}
use denote.Struct.Props.{props}
use Rattle.std.proofs.lemmas.List.{length-map, get_or-map}
use Rattle.cx_prim.specs.Table.{PrimitiveRow}
use Rattle.cx_meaning.specs.Designs.{PlainKind, OfPrimitive, OfComponent, PlainCell, PlainDesign, component_at, no_component}
use Rattle.cx_text.specs.Members.{In}
use Rattle.cx_rules.specs.Wellformed.{IsDesign, IsExternal, first_number}
use Rattle.cx_rules.specs.Externals.{numbers_of}
use Rattle.cx_design.specs.declared.cells.Cell.{Cell}
use Rattle.cx_design.specs.declared.components.Component.{Component}
use Rattle.cx_design.specs.PlainForms.{plain_cell, plain_component, plain_parts}
use Rattle.cx_design.specs.Narrow.{IsNarrow}

pub main_there : (d : PlainDesign) → ∥ IsDesign d ∥₁ → d.main < length d.components
main_there d h = ∥∥₁_elim h (hlevel props) (λ k. k.main_there)

external_narrow : (d : PlainDesign) (k : ℕ) (kind : PlainKind) → IsExternal d k kind → first_number (numbers_of kind) ≤ 64
external_narrow d k (OfPrimitive primitive) h = h.2
external_narrow d k (OfComponent j) h = absurd h

-- an external cell of main has words of at most 64 bits
pub main_narrow : (d : PlainDesign) → ∥ IsDesign d ∥₁ → (cell : PlainCell) → In (component_at d d.main).cells cell → IsNarrow cell
main_narrow d h cell i e = ∥∥₁_elim h (hlevel props) (λ k. external_narrow d d.main cell.kind (((k.components d.main k.main_there).cells cell i).external e))

-- the component of a number, as it stands in the design
pub component_is : (components : List Component) (main : ℕ) (r : Component) → main < length components → r ≡ get_or components main r → plain_component r ≡ component_at (plain_parts components main) main
component_is components main r h e = ap plain_component e ∙ sym (get_or-map plain_component components main r no_component h)

in_map : (cells : List Cell) (k : ℕ) (d : Cell) → k < length cells → In (map plain_cell cells) (plain_cell (get_or cells k d))
in_map [] k d h = absurd (omega arith)
in_map (c ∷ cells) zero d h = inl refl
in_map (c ∷ cells) (suc k) d h = inr (in_map cells k d (let lt : suc k < suc (length cells) = h in omega arith))

pub cells_narrow : (components : List Component) (main : ℕ) (r : Component) → ∥ IsDesign (plain_parts components main) ∥₁ → main < length components → r ≡ get_or components main r
    → (k : ℕ) (d : Cell) → k < length r.cells.items → IsNarrow (plain_cell (get_or r.cells.items k d))
cells_narrow components main r keeps h e k d lt =
    let same : (plain_component r).cells ≡ (component_at (plain_parts components main) main).cells = ap (λ c. c.cells) (component_is components main r h e) in
    main_narrow (plain_parts components main) keeps (plain_cell (get_or r.cells.items k d)) (subst (λ cs. In cs (plain_cell (get_or r.cells.items k d))) same (in_map r.cells.items k d lt))

pub main_within : (components : List Component) (main : ℕ) → ∥ IsDesign (plain_parts components main) ∥₁ → main < length components
main_within components main keeps = subst (λ n. main < n) (length-map components plain_component) (main_there (plain_parts components main) keeps)
