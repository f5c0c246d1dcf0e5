-- A worked example, computed from the definitions; each value was worked by hand from the sentence above it.
use Rattle.std.specs.Prelude.{◌≡◌, true, false, List, [], ◌∷◌, Some, None, refl}
use Rattle.cx_prim.specs.declared.names.PrimitiveName.TheVariants as primitives
use Rattle.cx_meaning.specs.declared.ports.PortRef.TheVariants.{Cell}
use Rattle.cx_meaning.specs.Designs.{PlainComponent, StaticSeq, StaticIf, StaticRepeat, Timed, PlainStatement, statements_of}
use Rattle.cx_meaning.proofs.KnownDesigns.{placed, timed_group, plain_group, cell, reg, st, enable, seq, component}
use Rattle.cx_static.specs.Islands.{PlainIsland, PlainLowered}
use Rattle.cx_static.specs.Lowering.{lowered_component}

abbrev static_seq : List PlainStatement → PlainStatement
static_seq parts = st (StaticSeq None (statements_of parts))

-- groups 0 and 1 are static, of two cycles and of one; group 2 is not static; cell 0 is a register of one bit
abbrev example : PlainComponent
example = component (reg 1 ∷ []) (timed_group 2 [] ∷ timed_group 1 [] ∷ plain_group [] ∷ []) []
    (seq (enable 2
    ∷ static_seq (st (StaticRepeat None 3 (static_seq (enable 0 ∷ enable 1 ∷ []))) ∷ st (StaticIf None (placed (Cell 0 2)) (enable 0) (enable 1)) ∷ [])
    ∷ enable 1
    ∷ []))

abbrev made : PlainLowered
made = lowered_component example

-- the plain enable stays, and there are two islands
pub known_control : made.part.control ≡ seq (enable 2 ∷ st (Timed 0) ∷ st (Timed 1) ∷ [])
known_control = refl

-- behind the register: three rounds of 3 cycles and a branch of 2, which are 11; one round; the enable of one cycle
pub known_cells : made.part.cells ≡ reg 1 ∷ cell primitives.Timer (11 ∷ []) ∷ cell primitives.Timer (3 ∷ []) ∷ cell primitives.Timer (1 ∷ []) ∷ []
known_cells = refl

-- the rounds run in the first 9 cycles; the port is looked at in cycle 9; group 0 is first in each round and group 1 behind it,
-- and from cycle 9 on one of them is active by the sample
abbrev whole : PlainIsland
whole = record {
  length = 11;
  timers = record { cell = 1; outer = None; from = 0; to = 11 } ∷ record { cell = 2; outer = Some 0; from = 0; to = 9 } ∷ [];
  points = record { port = Cell 0 2; timer = 0; at = 9; samples = [] } ∷ [];
  occurrences =
      record { group = 0; timer = 1; from = 0; to = 2; samples = [] }
      ∷ record { group = 1; timer = 1; from = 2; to = 3; samples = [] }
      ∷ record { group = 0; timer = 0; from = 9; to = 11; samples = record { point = 0; wanted = true } ∷ [] }
      ∷ record { group = 1; timer = 0; from = 9; to = 10; samples = record { point = 0; wanted = false } ∷ [] }
      ∷ [];
}

-- the enable of a static group from dynamic control is an island of its own
abbrev single : PlainIsland
single = record {
  length = 1;
  timers = record { cell = 3; outer = None; from = 0; to = 1 } ∷ [];
  points = [];
  occurrences = record { group = 1; timer = 0; from = 0; to = 1; samples = [] } ∷ [];
}

pub known_islands : made.islands ≡ whole ∷ single ∷ []
known_islands = refl
