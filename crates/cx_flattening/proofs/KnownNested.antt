-- Worked examples: an input that falls, samples in a static repeat inside a static par, and a sampled input two levels down; by the
-- meaning and by the flat design's.
use Rattle.std.specs.Prelude.{◌≡◌, ℕ, true, List, [], ◌∷◌, Some, None, refl}
use Rattle.cx_prim.specs.declared.names.PrimitiveName.TheVariants as primitives
use Rattle.cx_meaning.specs.declared.ports.PortRef.TheVariants.{Cell, Input, Output}
use Rattle.cx_meaning.specs.declared.sights.FaultKind.TheVariants as faults
use Rattle.cx_meaning.specs.declared.kinds.PortDecl.{PortDecl}
use Rattle.cx_meaning.specs.Designs.{PlainInvoke, PlainComponent, PlainDesign, PlainAssign, Atom, Negation, Within, StaticSeq, StaticPar, StaticIf, StaticRepeat, Empty, Timed, statements_of}
use Rattle.cx_meaning.proofs.KnownDesigns.{placed, assign, guarded, timed_group, child_cell, mem, reg, cell, st, enable, seq, component, number, one_bit, store}
use Rattle.cx_meaning.proofs.KnownRuns.{Told, Ends, Faults, told, run_told}
use Rattle.cx_flattening.specs.Whole.{whole_main}
use Rattle.cx_flattening.specs.FlatDesign.{flat_design}

abbrev five : List (List ℕ)
five = (5 ∷ []) ∷ []

abbrev port : ℕ → PortDecl
port width = record { name = []; width = width }

abbrev invoke_of : ℕ → List PlainAssign → PlainInvoke
invoke_of c inputs = record { cell = c; written = true; length = None; latency = Some 2; inputs = inputs; captures = None }

abbrev whole_told : PlainDesign → Told
whole_told d = told d (whole_main d five 1000)

abbrev flat_told : PlainDesign → Told
flat_told d = run_told (flat_design d) five 1000

-- dn: r takes 1 where its input is 1 in its second cycle, else 2
abbrev dn : PlainComponent
dn = record (component (reg 32 ∷ [])
    (timed_group 2 (guarded (Cell 0 0) (Atom (placed (Input 0))) (number 1) 1 ∷ guarded (Cell 0 0) (Negation (Atom (placed (Input 0)))) (number 2) 2 ∷ guarded (Cell 0 1) (Within 1 2) (one_bit 1) 3 ∷ []) ∷ [])
    (assign (Output 0) (Cell 0 2) 1 ∷ []) (enable 0)) { latency = Some 2; inputs = port 1 ∷ []; outputs = port 32 ∷ [] }

abbrev done_of_r : PlainInvoke
done_of_r = invoke_of 1 (assign (Cell 1 1) (Cell 2 3) 1 ∷ [])

-- seq { static seq { g; static invoke c(w = r.done)(); } st; }: the done of r is 1 in the child's first cycle and 0 in its second
abbrev falling : PlainDesign
falling = record {
  components = record (component (mem ∷ child_cell 1 ∷ reg 32 ∷ [])
      (timed_group 1 (assign (Cell 2 0) (number 7) 1 ∷ assign (Cell 2 1) (one_bit 1) 2 ∷ []) ∷ store 1 (Cell 1 2) ∷ []) []
      (seq (st (StaticSeq None (statements_of (enable 0 ∷ st (Timed 0) ∷ []))) ∷ enable 1 ∷ []))) { invokes = done_of_r ∷ [] } ∷ dn ∷ [];
  main = 0;
}

pub known_falling : whole_told falling ≡ Ends 6 ((2 ∷ []) ∷ [])
known_falling = refl

pub known_flat_falling : flat_told falling ≡ Ends 6 ((2 ∷ []) ∷ [])
known_flat_falling = refl

-- si(w, x): static seq { static if b.out { p } else { o } f }: p takes x, o takes 9, f sets b
abbrev si : PlainComponent
si = record (component (reg 32 ∷ reg 1 ∷ [])
    (timed_group 1 (assign (Cell 0 0) (Input 1) 1 ∷ assign (Cell 0 1) (one_bit 1) 2 ∷ [])
    ∷ timed_group 1 (assign (Cell 1 0) (one_bit 1) 3 ∷ assign (Cell 1 1) (one_bit 1) 4 ∷ [])
    ∷ timed_group 1 (assign (Cell 0 0) (number 9) 5 ∷ assign (Cell 0 1) (one_bit 1) 6 ∷ []) ∷ [])
    (assign (Output 0) (Cell 0 2) 1 ∷ [])
    (st (StaticSeq None (statements_of (st (StaticIf None (placed (Cell 1 2)) (enable 0) (enable 2)) ∷ enable 1 ∷ [])))))
    { latency = Some 2; inputs = port 1 ∷ port 32 ∷ []; outputs = port 32 ∷ [] }

abbrev with_four : PlainInvoke
with_four = invoke_of 1 (assign (Cell 1 1) (one_bit 0) 1 ∷ assign (Cell 1 2) (number 4) 1 ∷ [])

-- seq { static par { static repeat 2 { static invoke c(w = 0, x = 4)(); } h; } st; }: the second round samples anew
abbrev beside : PlainDesign
beside = record {
  components = record (component (mem ∷ child_cell 1 ∷ reg 32 ∷ [])
      (timed_group 3 (guarded (Cell 2 0) (Within 0 1) (number 1) 1 ∷ guarded (Cell 2 0) (Within 1 2) (number 2) 2 ∷ guarded (Cell 2 0) (Within 2 3) (number 3) 3 ∷ assign (Cell 2 1) (one_bit 1) 4 ∷ []) ∷ store 1 (Cell 1 3) ∷ []) []
      (seq (st (StaticPar None (statements_of (st (StaticRepeat None 2 (st (Timed 0))) ∷ enable 0 ∷ []))) ∷ enable 1 ∷ []))) { invokes = with_four ∷ [] } ∷ si ∷ [];
  main = 0;
}

pub known_beside : whole_told beside ≡ Ends 7 ((4 ∷ []) ∷ [])
known_beside = refl

pub known_flat_beside : flat_told beside ≡ Ends 7 ((4 ∷ []) ∷ [])
known_flat_beside = refl

-- la(x): static seq { q; static if x { p } }, below ou(z), whose control invokes it with x = z
abbrev la : PlainComponent
la = record (component (reg 32 ∷ [])
    (timed_group 1 (assign (Cell 0 0) (number 1) 1 ∷ assign (Cell 0 1) (one_bit 1) 2 ∷ []) ∷ timed_group 1 (assign (Cell 0 0) (number 2) 3 ∷ assign (Cell 0 1) (one_bit 1) 4 ∷ []) ∷ [])
    [] (st (StaticSeq None (statements_of (enable 1 ∷ st (StaticIf None (placed (Input 0)) (enable 0) (st Empty)) ∷ [])))))
    { latency = Some 2; inputs = port 1 ∷ []; outputs = [] }

abbrev ou : PlainComponent
ou = record (component (child_cell 2 ∷ []) [] [] (st (Timed 0))) { invokes = invoke_of 0 (assign (Cell 0 1) (Input 0) 1 ∷ []) ∷ []; latency = Some 2; inputs = port 1 ∷ []; outputs = [] }

-- w is a wire that nothing drives: the fault is at it, in turn 1
abbrev nested : PlainDesign
nested = record { components = record (component (mem ∷ child_cell 1 ∷ cell primitives.Wire (1 ∷ []) ∷ []) [] [] (st (Timed 0))) { invokes = invoke_of 1 (assign (Cell 1 1) (Cell 2 1) 1 ∷ []) ∷ [] } ∷ ou ∷ la ∷ []; main = 0 }

pub known_nested : whole_told nested ≡ Faults faults.Undefined [] (Cell 2 1) 1
known_nested = refl

pub known_flat_nested : flat_told nested ≡ Faults faults.Undefined [] (Cell 1 1) 1
known_flat_nested = refl
