-- The parts of the net of `src/nets.rt`, as they are made.
use Rattle.std.proofs.Common.{◌≡◌, ℕ, false, List, [], ◌∷◌, Option, Some, Result, Ok, Err, IfOk, codes, sym, ap, ◌∙◌, subst}
use Rattle.std.specs.Result.{result_ok}
use Rattle.std.proofs.lemmas.Grind.{merely}
use Rattle.cx_prim.specs.declared.names.PrimitiveName.{PrimitiveName}
use Rattle.cx_prim.specs.declared.names.PrimitiveName.TheVariants.{Reg}
use Rattle.cx_prim.specs.Table.{PrimitiveRow}
use Rattle.cx_meaning.specs.declared.kinds.PortDecl.{PortDecl}
use Rattle.cx_meaning.specs.Designs.{OfPrimitive, PlainCell}
use Rattle.cx_net.specs.NetFits.{IsNet}
use Rattle.cx_net.specs.Nets.{PlainNetDriver, PlainNetComponent, PlainNet}
use Rattle.cx_emit.specs.Emitted.{CanBeEmitted}
use Rattle.cx_compile_tests.specs.HandNet.{hand_drivers, hand_cell, hand_part}
use Rattle.cx_compile_tests.proofs.HandNetLemmas.{hand_emitted}

-- what is found keeps what was said of it
pub found : {X F : Type 0} (P : X → Type 0) (r : Result X F) (o : Option X) (x : X) → IfOk r P → o ≡ result_ok r → o ≡ Some x → P x
found P (Ok y) o x h e f = let same : y ≡ x = cc in subst P same h
found P (Err fault) o x h e f = absurd (cc)

abbrev pub a_cell : List ℕ → PrimitiveRow → PlainCell
a_cell name row = record { name = name; kind = OfPrimitive row; external = false; place = record { line = 1; column = 1 } }

abbrev a_row : PrimitiveName → List ℕ → PrimitiveRow
a_row name numbers = record { name = name; numbers = numbers }

pub cell_is : (name : List ℕ) (row : PrimitiveRow) → name ≡ codes "r" → row.name ≡ Reg → row.numbers ≡ 8 ∷ [] → a_cell name row ≡ hand_cell
cell_is name row e f g = ap (λ n. a_cell n row) e ∙ ap (λ n. a_cell (codes "r") (a_row n row.numbers)) f ∙ ap (λ ns. a_cell (codes "r") (a_row Reg ns)) g

abbrev pub a_part : List ℕ → List PortDecl → List PortDecl → List PlainCell → List ℕ → List ℕ → List PlainNetDriver → PlainNetComponent
a_part name inputs outputs cells registers wires drivers = record { name = name; inputs = inputs; outputs = outputs; cells = cells; registers = registers; wires = wires; holes = 0; drivers = drivers }

pub part_is : (name : List ℕ) (inputs outputs : List PortDecl) (cells : List PlainCell) (registers wires : List ℕ) (drivers : List PlainNetDriver) → name ≡ codes "main" → inputs ≡ [] → outputs ≡ [] → cells ≡ hand_cell ∷ []
    → registers ≡ 32 ∷ [] → wires ≡ 1 ∷ 3 ∷ [] → drivers ≡ hand_drivers → a_part name inputs outputs cells registers wires drivers ≡ hand_part
part_is name inputs outputs cells registers wires drivers e1 e2 e3 e4 e5 e6 e7 =
    ap (λ x. a_part x inputs outputs cells registers wires drivers) e1
    ∙ ap (λ x. a_part (codes "main") x outputs cells registers wires drivers) e2
    ∙ ap (λ x. a_part (codes "main") [] x cells registers wires drivers) e3
    ∙ ap (λ x. a_part (codes "main") [] [] x registers wires drivers) e4
    ∙ ap (λ x. a_part (codes "main") [] [] (hand_cell ∷ []) x wires drivers) e5
    ∙ ap (λ x. a_part (codes "main") [] [] (hand_cell ∷ []) (32 ∷ []) x drivers) e6
    ∙ ap (λ x. a_part (codes "main") [] [] (hand_cell ∷ []) (32 ∷ []) (1 ∷ 3 ∷ []) x) e7

abbrev net_in : List PlainNetComponent → PlainNet
net_in parts = record { components = parts; main = 0 }

pub net_keeps : (parts : List PlainNetComponent) → parts ≡ hand_part ∷ [] → ∥ IsNet (net_in parts) ∥₁
net_keeps parts e =
    let own : IsNet (net_in (hand_part ∷ [])) = record { fits = hand_emitted.fits; targets = hand_emitted.targets } in
    merely (subst (λ x. IsNet (net_in x)) (sym e) own)

pub net_is : (made : PlainNet) (parts : List PlainNetComponent) → made ≡ net_in parts → parts ≡ hand_part ∷ [] → CanBeEmitted made
net_is made parts e f = subst CanBeEmitted (sym (e ∙ ap net_in f)) hand_emitted
