-- Worked values: which groups are promotable, and how runs are cut. Each was worked by hand from the sentence above it.
use Rattle.std.specs.Prelude.{◌≡◌, ℕ, Bool, true, false, List, [], ◌∷◌, Option, Some, None, codes, refl}
use Rattle.cx_ast.specs.PlainStatements as written
use Rattle.cx_prim.specs.declared.names.PrimitiveName.TheVariants as primitives
use Rattle.cx_meaning.specs.declared.ports.PortRef.TheVariants.{Cell, Done}
use Rattle.cx_meaning.specs.Designs.{PlainGuard, Negation, Atom, All, Compared, a_guard, no_guards, PlainAssign, PlainGroup, PlainCell, no_place}
use Rattle.cx_meaning.specs.declared.ports.Comparison.TheVariants.{Equal}
use Rattle.cx_meaning.proofs.KnownDesigns.{placed, assign, guarded, plain_group, cell, mem, reg, adder, seq, design, one_bit, number, write, store, add_to}
use Rattle.cx_rules.specs.Ports.{component_of}
use Rattle.cx_promotion.specs.Promotable.{promotable, promoted_assigns}
use Rattle.cx_promotion.specs.Rewriting.{cut, promote_block}

-- the length of a group in a component with these cells and continuous assignments
abbrev length_in : List PlainCell → List PlainAssign → PlainGroup → Option ℕ
length_in cells always x = promotable (component_of (design cells [] always (seq [])) 0) x

abbrev not_done : ℕ → ℕ → PlainGuard
not_done c p = Negation (Atom (placed (Cell c p)))

-- the first worked example reads a word of the memory into r, adds 4 to r by a, and writes r back: each group takes 1 cycle
abbrev cells : List PlainCell
cells = mem ∷ reg 32 ∷ adder ∷ []

abbrev reads : PlainGroup
reads = plain_group (assign (Cell 0 0) (one_bit 0) 1 ∷ assign (Cell 1 0) (Cell 0 3) 2 ∷ assign (Cell 1 1) (one_bit 1) 3 ∷ assign (Done 0) (Cell 1 3) 4 ∷ [])

known_read : length_in cells [] reads ≡ Some 1
known_read = refl

known_add : length_in cells [] (add_to 1 2 1 (number 4)) ≡ Some 1
known_add = refl

known_store : length_in cells [] (store 2 (Cell 1 2)) ≡ Some 1
known_store = refl

-- a multiplier, cell 0, and a register, cell 1
abbrev pipe : List PlainCell
pipe = cell primitives.MultPipe (32 ∷ []) ∷ reg 32 ∷ []

-- the second: the group of a multiplier also writes the product into a register, when it is done; it drives enabling ports of two cells
known_two_cells : length_in pipe [] (plain_group (assign (Cell 0 1) (number 3) 1 ∷ assign (Cell 0 2) (number 5) 2 ∷ guarded (Cell 0 0) (not_done 0 4) (one_bit 1) 3
    ∷ assign (Cell 1 0) (Cell 0 3) 4 ∷ assign (Cell 1 1) (Cell 0 4) 5 ∷ assign (Done 0) (Cell 1 3) 6 ∷ [])) ≡ None
known_two_cells = refl

-- a multiplier by itself takes 3 cycles, and as a static group its go has no guard and its done is gone
abbrev multiplies : PlainGuard → PlainGroup
multiplies guard = plain_group (assign (Cell 0 1) (number 3) 1 ∷ assign (Cell 0 2) (number 5) 2 ∷ guarded (Cell 0 0) guard (one_bit 1) 3 ∷ assign (Done 0) (Cell 0 4) 4 ∷ [])

known_multiplier : length_in pipe [] (multiplies (not_done 0 4)) ≡ Some 3
known_multiplier = refl

known_bare : promoted_assigns (component_of (design pipe [] [] (seq [])) 0) (multiplies (not_done 0 4)).assigns
    ≡ assign (Cell 0 1) (number 3) 1 ∷ assign (Cell 0 2) (number 5) 2 ∷ assign (Cell 0 0) (one_bit 1) 3 ∷ []
known_bare = refl

-- under a longer guard it has no known length
known_longer_guard : length_in pipe [] (multiplies (All (a_guard (not_done 0 4) (a_guard (not_done 0 4) no_guards)))) ≡ None
known_longer_guard = refl

-- nor under the guard of another done; nor has a register under the guard of its own
known_other_guard : length_in pipe [] (multiplies (not_done 1 3)) ≡ None
known_other_guard = refl

known_register_guard : length_in cells [] (plain_group (assign (Cell 1 0) (number 4) 1 ∷ guarded (Cell 1 1) (not_done 1 3) (one_bit 1) 2 ∷ assign (Done 0) (Cell 1 3) 3 ∷ [])) ≡ None
known_register_guard = refl

-- a divider of eight bits takes 8 cycles
known_divider : length_in (cell primitives.DivPipe (8 ∷ []) ∷ []) []
    (plain_group (assign (Cell 0 1) (number 7) 1 ∷ assign (Cell 0 2) (number 2) 2 ∷ assign (Cell 0 0) (one_bit 1) 3 ∷ assign (Done 0) (Cell 0 5) 4 ∷ [])) ≡ Some 8
known_divider = refl

-- a done that is compared in the guard of a datum, in the group or in a continuous assignment
abbrev compares : PlainAssign
compares = guarded (Cell 2 0) (Compared Equal (placed (Cell 1 3)) (placed (one_bit 1))) (number 7) 9

known_compared : length_in cells [] (plain_group (compares ∷ (write 1 0 (number 4)).assigns)) ≡ None
known_compared = refl

known_continuous : length_in cells (compares ∷ []) (write 1 0 (number 4)) ≡ None
known_continuous = refl

-- an enabling port that is driven twice; two equal assignments of the done; a done under its own guard
known_driven_twice : length_in cells [] (plain_group (assign (Cell 1 1) (one_bit 1) 9 ∷ (write 1 0 (number 4)).assigns)) ≡ None
known_driven_twice = refl

known_two_dones : length_in cells [] (plain_group (assign (Done 0) (Cell 1 3) 9 ∷ (write 1 0 (number 4)).assigns)) ≡ None
known_two_dones = refl

known_guarded_done : length_in cells [] (plain_group (assign (Cell 1 0) (number 4) 1 ∷ assign (Cell 1 1) (one_bit 1) 2 ∷ guarded (Done 0) (Atom (placed (Cell 1 3))) (Cell 1 3) 3 ∷ [])) ≡ None
known_guarded_done = refl

-- a sequential memory, whether it reads or writes; with write_en alone it is not started
abbrev accesses : List PlainAssign → Option ℕ
accesses enables = length_in (cell primitives.SeqMemD1 (32 ∷ 1 ∷ 1 ∷ []) ∷ []) [] (plain_group (assign (Cell 0 0) (one_bit 0) 1 ∷ assign (Cell 0 3) (number 4) 2 ∷ assign (Done 0) (Cell 0 5) 3 ∷ enables))

known_reads : accesses (assign (Cell 0 1) (one_bit 1) 4 ∷ []) ≡ Some 1
known_reads = refl

known_writes : accesses (assign (Cell 0 1) (one_bit 1) 4 ∷ assign (Cell 0 2) (one_bit 1) 5 ∷ []) ≡ Some 1
known_writes = refl

known_not_started : accesses (assign (Cell 0 2) (one_bit 1) 5 ∷ []) ≡ None
known_not_started = refl

-- RUNS: groups whose names have one letter are promotable
abbrev is_short : List ℕ → Bool
is_short [] = false
is_short (a ∷ []) = true
is_short (a ∷ b ∷ rest) = false

abbrev stmt : written.PlainForm → written.PlainStatement
stmt form = written.Placed [] form no_place

abbrev g : written.PlainStatement
g = stmt (written.Enable (codes "g") [])

abbrev other : written.PlainStatement
other = stmt (written.Enable (codes "other") [])

abbrev block : List written.PlainStatement → written.PlainBlock
block list = written.Braces (written.statements_of list) no_place

abbrev run : List written.PlainStatement → written.PlainStatement
run list = stmt (written.StaticSeq None [] (block list))

-- two runs, the second of one enable, which stays
known_runs : promote_block is_short 63 true (block (g ∷ g ∷ g ∷ other ∷ g ∷ [])) ≡ block (run (g ∷ g ∷ g ∷ []) ∷ other ∷ g ∷ [])
known_runs = refl

-- a written seq ends a run, and is cut by itself
known_nested : promote_block is_short 63 true (block (g ∷ stmt (written.Seq [] (block (g ∷ g ∷ []))) ∷ g ∷ [])) ≡ block (g ∷ stmt (written.Seq [] (block (run (g ∷ g ∷ []) ∷ []))) ∷ g ∷ [])
known_nested = refl

-- arms are no run
known_arms : promote_block is_short 63 true (block (stmt (written.Par [] (block (g ∷ g ∷ []))) ∷ [])) ≡ block (stmt (written.Par [] (block (g ∷ g ∷ []))) ∷ [])
known_arms = refl

-- with one level below, the block is cut, and a seq in it is on the deepest level and is not
known_deepest : promote_block is_short 1 true (block (stmt (written.Seq [] (block (g ∷ g ∷ []))) ∷ g ∷ g ∷ [])) ≡ block (stmt (written.Seq [] (block (g ∷ g ∷ []))) ∷ run (g ∷ g ∷ []) ∷ [])
known_deepest = refl

-- a piece in which 4096 enables stand is closed before one more, and goes on before that
known_full : cut is_short (g ∷ g ∷ []) 4096 (written.statements_of (g ∷ [])) ≡ written.statements_of (run (g ∷ g ∷ []) ∷ g ∷ [])
known_full = refl

known_room : cut is_short (g ∷ g ∷ []) 4095 (written.statements_of (g ∷ [])) ≡ written.statements_of (run (g ∷ g ∷ g ∷ []) ∷ [])
known_room = refl
