-- Worked profiles with static components, computed from the definitions; each value was worked by hand from the sentence above it.
use Rattle.std.specs.Prelude.{◌≡◌, ℕ, true, false, List, [], ◌∷◌, Some, None, codes, map, refl}
use Rattle.cx_meaning.specs.declared.ports.PortRef.TheVariants.{Cell, Input, Output}
use Rattle.cx_meaning.specs.Designs.{PlainInvoke, PlainComponent, PlainDesign, PlainStatement, PlainGroup, StaticSeq, Timed, statements_of}
use Rattle.cx_meaning.specs.Instances.{tree_of}
use Rattle.cx_meaning.proofs.KnownDesigns.{assign, timed_group, child_cell, mem, reg, st, enable, seq, component, number, one_bit, store}
use Rattle.cx_meaning.proofs.KnownRuns.{Ends, told}
use Rattle.cx_flattening.specs.Whole.{whole_main}
use Rattle.cx_flattening.specs.FlatDesign.{flat_design}
use Rattle.cx_profiling.specs.Counters.{entries_of}
use Rattle.cx_profiling.specs.Counting.{tally_of}
use Rattle.cx_profiling.specs.FlatEntries.{entry_at, flat_entries, count_at}
use Rattle.cx_profiling.specs.WholeCounting.{whole_tally_of}
use Rattle.cx_profiling.specs.Instrumented.{instrumented}

abbrev named : List ℕ → PlainGroup → PlainGroup
named name g = record { name = name; kind = g.kind; assigns = g.assigns; place = g.place }

-- keep<1>: group p takes x into r, which is its output
abbrev keep : PlainComponent
keep = record (component (reg 32 ∷ []) (named (codes "p") (timed_group 1 (assign (Cell 0 0) (Input 0) 1 ∷ assign (Cell 0 1) (one_bit 1) 2 ∷ [])) ∷ [])
    (assign (Output 0) (Cell 0 2) 1 ∷ []) (enable 0))
    { latency = Some 1; inputs = record { name = codes "x"; width = 32 } ∷ []; outputs = record { name = codes "y"; width = 32 } ∷ [] }

abbrev fed_with : ℕ → PlainInvoke
fed_with v = record { cell = 1; written = true; length = None; latency = Some 1; inputs = assign (Cell 1 1) (number v) 1 ∷ []; captures = None }

-- mem, c = keep(), k = std_reg(32); group 0 captures y in k and has no name; st stores k.out
abbrev capturing : PlainInvoke
capturing = record { cell = 1; written = false; length = None; latency = Some 1; inputs = assign (Cell 1 1) (number 7) 1 ∷ []; captures = Some 0 }

abbrev invokes : PlainStatement → PlainDesign
invokes control = record {
  components = record (component (mem ∷ child_cell 1 ∷ reg 32 ∷ [])
      (timed_group 1 (assign (Cell 2 0) (Cell 1 2) 9 ∷ assign (Cell 2 1) (one_bit 1) 9 ∷ []) ∷ named (codes "st") (store 1 (Cell 2 2)) ∷ []) [] control)
      { invokes = fed_with 3 ∷ fed_with 5 ∷ capturing ∷ [] } ∷ keep ∷ [];
  main = 0;
}

abbrev two_and_one : PlainDesign
two_and_one = invokes (seq (st (StaticSeq None (statements_of (st (Timed 0) ∷ st (Timed 1) ∷ []))) ∷ st (Timed 2) ∷ enable 1 ∷ []))

-- two static invokes in a static seq, and an invoke that captures: 2 cycles and an idle turn, 1 cycle, the capture and an idle turn, the store
known_two_and_one : told two_and_one (whole_main two_and_one ((5 ∷ []) ∷ []) 1000) ≡ Ends 8 ((7 ∷ []) ∷ [])
known_two_and_one = refl

-- the profile of main and of the one instance of keep, group by group
abbrev pub whole_profile_of : PlainDesign → List (List ℕ) → ℕ → List ℕ
whole_profile_of d words n = map (λ e. whole_tally_of d words n e.path e.group) (entries_of (tree_of d))

-- st 1, c.p 3: the capture is of a group without a name
known_two_and_one_profile : whole_profile_of two_and_one ((5 ∷ []) ∷ []) 1000 ≡ (1 ∷ 3 ∷ [])
known_two_and_one_profile = refl

-- within three turns only the two static invokes are made
known_two_of_three : whole_profile_of two_and_one ((5 ∷ []) ∷ []) 3 ≡ (0 ∷ 2 ∷ [])
known_two_of_three = refl

-- 8 + 2 * 2 turns, and the counts in the new memory
known_two_and_one_instrumented : told (instrumented two_and_one) (whole_main (instrumented two_and_one) ((5 ∷ []) ∷ (7 ∷ 9 ∷ []) ∷ []) 1000) ≡ Ends 12 ((7 ∷ []) ∷ (1 ∷ 3 ∷ []) ∷ [])
known_two_and_one_instrumented = refl

-- in the flat design st keeps its number, and p has a copy for each of the three invokes, behind the two groups of main
known_flat_entries : map (flat_entries two_and_one) (entries_of (tree_of two_and_one)) ≡ ((entry_at [] 1 ∷ []) ∷ (entry_at [] 2 ∷ entry_at [] 3 ∷ entry_at [] 4 ∷ []) ∷ [])
known_flat_entries = refl

-- each of which acts in one cycle; within three turns the third does not
known_flat_counts : map (count_at (tally_of (flat_design two_and_one) ((5 ∷ []) ∷ []) 1000)) (entry_at [] 1 ∷ entry_at [] 2 ∷ entry_at [] 3 ∷ entry_at [] 4 ∷ []) ≡ (1 ∷ 1 ∷ 1 ∷ 1 ∷ [])
known_flat_counts = refl

known_flat_three : map (count_at (tally_of (flat_design two_and_one) ((5 ∷ []) ∷ []) 3)) (entry_at [] 1 ∷ entry_at [] 2 ∷ entry_at [] 3 ∷ entry_at [] 4 ∷ []) ≡ (0 ∷ 1 ∷ 1 ∷ 0 ∷ [])
known_flat_three = refl
