-- Worked profiles, computed from the definitions; each value was worked by hand from the sentence above it.
use Rattle.std.specs.Prelude.{◌≡◌, ℕ, List, [], ◌∷◌, Some, None, codes, map, refl}
use Rattle.std.specs.Fmt.{digits}
use Rattle.cx_prim.specs.declared.names.PrimitiveName.TheVariants as primitives
use Rattle.cx_meaning.specs.declared.ports.PortRef.TheVariants.{Cell, Input, Output, Done}
use Rattle.cx_meaning.specs.Designs.{PlainDesign, PlainComponent, PlainGroup, Empty, While, StaticSeq, StaticPar, StaticIf, StaticRepeat, statements_of, component_at}
use Rattle.cx_meaning.specs.Instances.{tree_of}
use Rattle.cx_meaning.proofs.KnownDesigns.{placed, assign, plain_group, comb_group, timed_group, cell, child_cell, mem, reg, adder, st, enable, seq, par, component, design, one_bit, number, write, store, add_to}
use Rattle.cx_meaning.proofs.KnownRuns.{Ends, GoesOn, run_told}
use Rattle.cx_profiling.specs.Counting.{tally_of}
use Rattle.cx_profiling.specs.Counters.{entries_of}
use Rattle.cx_profiling.specs.FreeNames.{free_names}
use Rattle.cx_profiling.specs.Instrumented.{address_width, instrumented}

abbrev named : List ℕ → PlainGroup → PlainGroup
named name g = record { name = name; kind = g.kind; assigns = g.assigns; place = g.place }

-- the tally of each entry
abbrev pub profile_of : PlainDesign → List (List ℕ) → ℕ → List ℕ
profile_of d words n = map (λ e. tally_of d words n e.path e.group) (entries_of (tree_of d))

abbrev five : List (List ℕ)
five = (5 ∷ []) ∷ []

-- r counts to 3 under a while, and is stored: a round takes three turns, the last test one, the store two
abbrev loop : PlainDesign
loop = design (mem ∷ reg 32 ∷ adder ∷ cell primitives.Lt (32 ∷ []) ∷ [])
    (named (codes "inc") (add_to 1 2 0 (number 1)) ∷ named (codes "st") (store 1 (Cell 1 2))
    ∷ named (codes "c") (comb_group (assign (Cell 3 0) (Cell 1 2) 1 ∷ assign (Cell 3 1) (number 3) 2 ∷ [])) ∷ [])
    [] (seq (st (While (placed (Cell 3 2)) (Some 2) (enable 0)) ∷ enable 1 ∷ []))

known_loop : run_told loop five 1000 ≡ Ends 12 ((3 ∷ []) ∷ [])
known_loop = refl

-- inc 3, st 1: of a round one cycle is made with inc
known_loop_profile : profile_of loop five 1000 ≡ (3 ∷ 1 ∷ [])
known_loop_profile = refl

-- 12 + 2 * 2 turns, and the counts in the new memory, whatever it held
known_loop_instrumented : run_told (instrumented loop) ((5 ∷ []) ∷ (7 ∷ 9 ∷ []) ∷ []) 1000 ≡ Ends 16 ((3 ∷ []) ∷ (3 ∷ 1 ∷ []) ∷ [])
known_loop_instrumented = refl

-- one turn less is not enough
known_loop_goes_on : run_told (instrumented loop) ((5 ∷ []) ∷ (0 ∷ 0 ∷ []) ∷ []) 15 ≡ GoesOn
known_loop_goes_on = refl

-- dbl is called twice; its groups p and q take two turns each, of which one is a cycle. The groups of the calls have no name
abbrev dbl : PlainComponent
dbl = record (component (reg 32 ∷ adder ∷ [])
    (named (codes "p") (write 0 0 (Input 0)) ∷ named (codes "q") (add_to 0 1 1 (Cell 0 2)) ∷ [])
    (assign (Output 0) (Cell 0 2) 1 ∷ []) (seq (enable 0 ∷ enable 1 ∷ []))) {
      inputs = record { name = codes "x"; width = 32 } ∷ [];
      outputs = record { name = codes "y"; width = 32 } ∷ [];
    }

abbrev call_with : ℕ → ℕ → PlainGroup
call_with g v = plain_group (assign (Cell 1 1) (number v) 1 ∷ assign (Cell 1 0) (one_bit 1) 1 ∷ assign (Done g) (Cell 1 3) 1 ∷ [])

abbrev calls : PlainDesign
calls = record {
  components = component (mem ∷ child_cell 1 ∷ reg 32 ∷ [])
      (named (codes "st") (store 0 (Cell 1 2)) ∷ named (codes "su") (store 1 (Cell 2 2)) ∷ call_with 2 3 ∷ call_with 3 5 ∷ []) [] (seq (enable 2 ∷ enable 3 ∷ enable 0 ∷ [])) ∷ dbl ∷ [];
  main = 0;
}

known_calls : run_told calls five 1000 ≡ Ends 12 ((10 ∷ []) ∷ [])
known_calls = refl

-- st 1, su 0, c.p 2, c.q 2: a group that control does not enable is counted too
known_calls_profile : profile_of calls five 1000 ≡ (1 ∷ 0 ∷ 2 ∷ 2 ∷ [])
known_calls_profile = refl

-- the done of the component's cell stands behind two new outputs; 12 + 2 * 4 turns
known_calls_instrumented : run_told (instrumented calls) ((5 ∷ []) ∷ (0 ∷ 0 ∷ 0 ∷ 0 ∷ []) ∷ []) 1000 ≡ Ends 20 ((10 ∷ []) ∷ (1 ∷ 0 ∷ 2 ∷ 2 ∷ []) ∷ [])
known_calls_instrumented = refl

-- a component that no instance has, with a cell of dbl, gains nothing, but the done of its cell is number 5 where it was 3
abbrev unused : PlainDesign
unused = record calls { components = component_at calls 0 ∷ dbl ∷ component (child_cell 1 ∷ []) (named (codes "g") (plain_group (assign (Done 0) (Cell 0 3) 1 ∷ [])) ∷ []) [] (enable 0) ∷ [] }

known_unused : component_at (instrumented unused) 2 ≡ component (child_cell 1 ∷ []) (named (codes "g") (plain_group (assign (Done 0) (Cell 0 5) 1 ∷ [])) ∷ []) [] (enable 0)
known_unused = refl

-- a static group of two cycles beside another in an island, and a static if that is not taken
abbrev isle : PlainDesign
isle = design (mem ∷ reg 32 ∷ reg 32 ∷ reg 1 ∷ [])
    (named (codes "s") (timed_group 2 (assign (Cell 1 0) (number 4) 1 ∷ assign (Cell 1 1) (one_bit 1) 2 ∷ []))
    ∷ named (codes "t") (timed_group 3 (assign (Cell 2 0) (number 5) 1 ∷ assign (Cell 2 1) (one_bit 1) 2 ∷ []))
    ∷ named (codes "u") (timed_group 1 (assign (Cell 3 0) (one_bit 1) 1 ∷ assign (Cell 3 1) (one_bit 1) 2 ∷ [])) ∷ []) []
    (st (StaticSeq None (statements_of (st (StaticPar None (statements_of (st (StaticRepeat None 2 (enable 0)) ∷ enable 1 ∷ []))) ∷ st (StaticIf None (placed (Cell 3 2)) (enable 2) (st Empty)) ∷ []))))

known_isle_profile : profile_of isle five 1000 ≡ (4 ∷ 3 ∷ 0 ∷ [])
known_isle_profile = refl

known_isle_instrumented : run_told (instrumented isle) ((5 ∷ []) ∷ (0 ∷ 0 ∷ 0 ∷ []) ∷ []) 1000 ≡ Ends 12 ((5 ∷ []) ∷ (4 ∷ 3 ∷ 0 ∷ []) ∷ [])
known_isle_instrumented = refl

-- two arms count both, p twice in the longer one, though the par takes the turns of that alone
abbrev arms : PlainDesign
arms = design (mem ∷ reg 32 ∷ reg 32 ∷ []) (named (codes "p") (write 1 0 (number 1)) ∷ named (codes "q") (write 1 1 (number 2)) ∷ named (codes "s") (write 2 2 (number 3)) ∷ []) []
    (par (seq (enable 0 ∷ enable 1 ∷ enable 0 ∷ []) ∷ enable 2 ∷ []))

known_arms_profile : profile_of arms five 1000 ≡ (2 ∷ 1 ∷ 1 ∷ [])
known_arms_profile = refl

-- profile_0 and profile_2 are taken
known_free_names : free_names (codes "profile_2" ∷ codes "x" ∷ codes "profile_0" ∷ []) 3 ≡ codes "profile_1" ∷ codes "profile_3" ∷ codes "profile_4" ∷ []
unfolding digits
known_free_names = refl

-- one word has an address of one bit, and so have two; three have two bits
known_address_widths : map address_width (1 ∷ 2 ∷ 3 ∷ 4 ∷ 5 ∷ []) ≡ (1 ∷ 1 ∷ 2 ∷ 2 ∷ 3 ∷ [])
known_address_widths = refl
