-- One instance of a module that stands alone: what gives a net its value from those that are known, and what an edge gives a register.
use Rattle.std.specs.Prelude.{◌≡◌, ℕ, List, [], ◌∷◌, Option, Some, None, option_and_then, if◌then◌else◌}
use Rattle.cx_bits.specs.BitVector.{BitVector, of_width}
use Rattle.cx_vtree.specs.Plain.{PlainExpr, PlainModule}
use Rattle.cx_vtree.specs.InstanceTree.{Placed, same_name, NetKind, Input, Driven, Stored, kind_in, assigned}
use Rattle.cx_vtree.specs.Meaning.{Moment, HasValue, word_in, expr_in}
use Rattle.cx_vtree.specs.Edges.{acting_sets}
use Rattle.cx_vmods.specs.Stands.{Kept}

-- a net, and its value
pub record Known : Type 0 where
  pub name : List ℕ
  pub bits : BitVector

abbrev pub known : List ℕ → ℕ → ℕ → Known
known name width value = record { name = name; bits = of_width width value }

-- the value of a net among those that are known
abbrev pub found : List Known → List ℕ → Option BitVector
found [] name = None
found (k ∷ ks) name = if same_name k.name name then Some k.bits else found ks name

-- the nets of the instance have these values
pub record AreKnown (tree : List Placed) (now : Moment) (j : ℕ) (ks : List Known) : Type 0 where
  pub each : (name : List ℕ) (v : BitVector) → found ks name ≡ Some v → HasValue tree now j name v

-- an expression over the known nets
abbrev pub value_of : PlainModule → Kept → List Known → PlainExpr → Option BitVector
value_of m kept ks e = expr_in (found ks) (word_in kept.word m.decls) e

-- a register has what is kept, and a net that is driven has the value of what is assigned to it
abbrev pub value_by : (PlainExpr → Option BitVector) → (List ℕ → ℕ) → List ℕ → Option PlainExpr
    → Option NetKind → Option BitVector
value_by value register name given None = None
value_by value register name given (Some Input) = None
value_by value register name given (Some Driven) = option_and_then value given
value_by value register name given (Some (Stored w)) = Some (record { width = w; value = register name })

-- the value of a net by one rule from the known ones
abbrev pub value_in : PlainModule → Kept → List Known → List ℕ → Option BitVector
value_in m kept ks name =
    value_by (value_of m kept ks) kept.register name (assigned m.assigns name)
    (kind_in m.ports m.decls name)

-- what an edge gives a register that it sets, where the reset is this number
abbrev pub set_in : ℕ → PlainModule → Kept → List Known → List ℕ → Option BitVector
set_in reset m kept ks name = option_and_then (value_of m kept ks) (assigned (acting_sets reset m.edge) name)
