-- That the edge with reset sets every register to 0, whatever the registers hold.
use Rattle.std.specs.Prelude.{◌≡◌, List, All, IsSome}
use Rattle.cx_bits.specs.BitVector.{BitVector}
use Rattle.cx_vtree.specs.Plain.{Number, PlainDecl, WireOf, RegisterOf, ArrayOf, PlainAssign, PlainModule, PlainSource}
use Rattle.cx_vtree.specs.InstanceTree.{assigned}
use Rattle.cx_vtree.specs.Edges.{acting_sets}
use Rattle.cx_net.specs.Nets.{PlainNet}
use Rattle.cx_emit.specs.Sources.{source_of}

-- what is set is a number of value 0
abbrev pub IsZero : PlainAssign → Type 0
IsZero a = (b : BitVector) × (a.value ≡ Number b) × (b.value ≡ 0)

-- a register is among what is set
abbrev pub IsSetAmong : List PlainAssign → PlainDecl → Type 0
IsSetAmong sets (RegisterOf name width) = IsSome (assigned sets name)
IsSetAmong sets (WireOf name width) = Unit {0}
IsSetAmong sets (ArrayOf name width size) = Unit {0}

-- THE RESET OF A MODULE: what it sets is 0, and it sets every register
pub record HasReset (m : PlainModule) : Type 0 where
  pub zeros : All IsZero (acting_sets 1 m.edge)
  pub registers : All (IsSetAmong (acting_sets 1 m.edge)) m.decls

-- of a source: that of each module
abbrev pub IsReset : PlainSource → Type 0
IsReset source = All HasReset source.modules

-- the source of each net has it
abbrev pub EachIsReset : Type 0
EachIsReset = (net : PlainNet) → IsReset (source_of net)
