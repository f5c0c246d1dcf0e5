-- What soundness of an expression gives its code.
use Rattle.std.specs.Prelude.{◌≡◌, ℕ, List, [], ◌∷◌, ◌++◌, false, Option, Some, map, slice_get}
use Rattle.cx_vtree.specs.Plain.{PlainExpr, PlainPort, PlainDecl, WireOf, RegisterOf, ArrayOf}
use Rattle.cx_vtree.specs.InstanceTree.{declared_nets, declared_arrays}
use Rattle.cx_vtree.specs.Sound.{meant_in, misnames, fitting_width}
use Rattle.cx_vnets.specs.declared.codes.Code.{Code}
use Rattle.cx_vnets.specs.Codes.{code_width}
use Rattle.cx_vtree.specs.NameNumbers.{position}
use Rattle.cx_vnets.specs.ModuleCodes.{Numbering, IsCode, HasNumbers}

-- the widths of the wires and registers, in the order of the text
abbrev pub declared_widths : List PlainDecl → List ℕ
declared_widths [] = []
declared_widths (WireOf n w ∷ ds) = w ∷ declared_widths ds
declared_widths (RegisterOf n w ∷ ds) = w ∷ declared_widths ds
declared_widths (ArrayOf n w k ∷ ds) = declared_widths ds

-- the widths of a module's nets, and of its arrays
abbrev pub net_widths : List PlainPort → List PlainDecl → List ℕ
net_widths ports decls = map (λ p. p.width) ports ++ declared_widths decls

abbrev pub array_widths : List PlainDecl → List ℕ
array_widths [] = []
array_widths (WireOf n w ∷ ds) = array_widths ds
array_widths (RegisterOf n w ∷ ds) = array_widths ds
array_widths (ArrayOf n w k ∷ ds) = w ∷ array_widths ds

-- the numbers of a module's nets, and of its arrays
abbrev pub net_numbering : List PlainPort → List PlainDecl → Numbering
net_numbering ports decls = position (map (λ p. p.name) ports ++ declared_nets decls)

abbrev pub array_numbering : List PlainDecl → Numbering
array_numbering decls = position (declared_arrays decls)

-- what is numbered from 0 has these widths
abbrev pub HasWidths : (ℕ → Option ℕ) → List ℕ → Type 0
HasWidths widths list = (k w : ℕ) → slice_get list k ≡ Some w → widths k ≡ Some w

-- where each name stands as it may, all have numbers
abbrev pub NamesHaveNumbers : Type 0
NamesHaveNumbers =
    (ports : List PlainPort) (decls : List PlainDecl) (e : PlainExpr)
    → misnames (meant_in ports decls) e ≡ false
    → HasNumbers (net_numbering ports decls) (array_numbering decls) e

-- a code has the width of its expression, where widths fit there
abbrev pub CodesHaveWidths : Type 0
CodesHaveWidths =
    (ports : List PlainPort) (decls : List PlainDecl) (nets arrays : ℕ → Option ℕ) (c : Code)
    (e : PlainExpr) (w : ℕ)
    → HasWidths nets (net_widths ports decls) → HasWidths arrays (array_widths decls)
    → misnames (meant_in ports decls) e ≡ false → fitting_width (meant_in ports decls) e ≡ Some w
    → IsCode (net_numbering ports decls) (array_numbering decls) c e → code_width nets arrays c ≡ Some w
