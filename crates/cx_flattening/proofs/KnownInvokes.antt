-- Worked examples of static invokes, by their meaning and by the flat design's.
use Rattle.std.specs.Prelude.{◌≡◌, ℕ, true, false, List, [], ◌∷◌, Some, None, refl}
use Rattle.cx_meaning.specs.declared.ports.PortRef.{PortRef}
use Rattle.cx_meaning.specs.declared.ports.PortRef.TheVariants.{Cell, Input, Output}
use Rattle.cx_meaning.specs.declared.sights.FaultKind.TheVariants as faults
use Rattle.cx_meaning.specs.Designs.{PlainInvoke, PlainComponent, PlainDesign, PlainStatement, PlainAssign, StaticSeq, Timed, statements_of}
use Rattle.cx_meaning.proofs.KnownDesigns.{assign, timed_group, child_cell, mem, reg, adder, st, enable, seq, component, number, one_bit, store}
use Rattle.cx_meaning.proofs.KnownRuns.{Told, Ends, Faults, GoesOn, told, run_told}
use Rattle.cx_flattening.specs.Whole.{whole_main}
use Rattle.cx_flattening.specs.FlatDesign.{flat_design}

abbrev five : List (List ℕ)
five = (5 ∷ []) ∷ []

-- sq: r takes x, and then r + r; its output is r; two cycles
abbrev sq : PlainComponent
sq = record (component (reg 32 ∷ adder ∷ [])
    (timed_group 1 (assign (Cell 0 0) (Input 0) 1 ∷ assign (Cell 0 1) (one_bit 1) 2 ∷ [])
    ∷ timed_group 1 (assign (Cell 1 0) (Cell 0 2) 3 ∷ assign (Cell 1 1) (Cell 0 2) 4 ∷ assign (Cell 0 0) (Cell 1 2) 5 ∷ assign (Cell 0 1) (one_bit 1) 6 ∷ []) ∷ [])
    (assign (Output 0) (Cell 0 2) 1 ∷ []) (st (StaticSeq None (statements_of (enable 0 ∷ enable 1 ∷ [])))))
    { latency = Some 2; inputs = record { name = []; width = 32 } ∷ []; outputs = record { name = []; width = 32 } ∷ [] }

abbrev feed : PortRef → List PlainAssign
feed source = assign (Cell 1 1) source 1 ∷ []

-- c(x = source)(), and c(x = source)(y = k.in), which group 0 captures
abbrev plain_invoke : PortRef → PlainInvoke
plain_invoke source = record { cell = 1; written = true; length = None; latency = Some 2; inputs = feed source; captures = None }

abbrev capturing : PortRef → PlainInvoke
capturing source = record { cell = 1; written = false; length = None; latency = Some 2; inputs = feed source; captures = Some 0 }

-- mem, c = sq(), k = std_reg(32); group 0 captures y in k; 1 stores c.y, 2 stores k.out
abbrev main_with : List PlainInvoke → PlainStatement → PlainDesign
main_with list control = record {
  components = record (component (mem ∷ child_cell 1 ∷ reg 32 ∷ [])
      (timed_group 1 (assign (Cell 2 0) (Cell 1 2) 9 ∷ assign (Cell 2 1) (one_bit 1) 9 ∷ []) ∷ store 1 (Cell 1 2) ∷ store 2 (Cell 2 2) ∷ []) [] control) { invokes = list } ∷ sq ∷ [];
  main = 0;
}

abbrev constants : List PlainInvoke
constants = plain_invoke (number 3) ∷ plain_invoke (number 5) ∷ []

abbrev captured : List PlainInvoke
captured = capturing (number 4) ∷ []

abbrev whole_told : PlainDesign → ℕ → Told
whole_told d n = told d (whole_main d five n)

abbrev flat_told : PlainDesign → ℕ → Told
flat_told d n = run_told (flat_design d) five n

-- static invoke c(x = 3)(); the store
pub known_invoke : whole_told (main_with constants (seq (st (Timed 0) ∷ enable 1 ∷ []))) 1000 ≡ Ends 5 ((6 ∷ []) ∷ [])
known_invoke = refl

pub known_flat_invoke : flat_told (main_with constants (seq (st (Timed 0) ∷ enable 1 ∷ []))) 1000 ≡ Ends 5 ((6 ∷ []) ∷ [])
known_flat_invoke = refl

pub known_four_turns : whole_told (main_with constants (seq (st (Timed 0) ∷ enable 1 ∷ []))) 4 ≡ GoesOn
known_four_turns = refl

-- two in a static seq: 4 cycles and the idle turn, and the store
abbrev two : PlainStatement
two = seq (st (StaticSeq None (statements_of (st (Timed 0) ∷ st (Timed 1) ∷ []))) ∷ enable 1 ∷ [])

pub known_two : whole_told (main_with constants two) 1000 ≡ Ends 7 ((10 ∷ []) ∷ [])
known_two = refl

pub known_flat_two : flat_told (main_with constants two) 1000 ≡ Ends 7 ((10 ∷ []) ∷ [])
known_flat_two = refl

-- a dynamic invoke that captures: 2 cycles, the capture, the idle turn, and the store
pub known_capture : whole_told (main_with captured (seq (st (Timed 0) ∷ enable 2 ∷ []))) 1000 ≡ Ends 6 ((8 ∷ []) ∷ [])
known_capture = refl

pub known_flat_capture : flat_told (main_with captured (seq (st (Timed 0) ∷ enable 2 ∷ []))) 1000 ≡ Ends 6 ((8 ∷ []) ∷ [])
known_flat_capture = refl

-- an input whose source is nothing: a fault of the child's register, in its first cycle
abbrev unfed : List PlainInvoke
unfed = plain_invoke (Cell 9 0) ∷ []

pub known_unfed : whole_told (main_with unfed (seq (enable 1 ∷ st (Timed 0) ∷ []))) 1000 ≡ Faults faults.Undefined (1 ∷ []) (Cell 0 0) 2
known_unfed = refl

-- the flat design has this register as cell 2: the memory, k, and the child's cells
pub known_flat_unfed : flat_told (main_with unfed (seq (enable 1 ∷ st (Timed 0) ∷ []))) 1000 ≡ Faults faults.Undefined [] (Cell 2 0) 2
known_flat_unfed = refl
