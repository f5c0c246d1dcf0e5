-- Worked examples, computed from the definitions; each value was worked by hand from the sentence above it.
use Rattle.std.specs.Prelude.{◌≡◌, ℕ, List, [], ◌∷◌, ◌++◌, Some, None, refl}
use Rattle.cx_prim.specs.declared.names.PrimitiveName.TheVariants as primitives
use Rattle.cx_meaning.specs.declared.ports.PortRef.{PortRef}
use Rattle.cx_meaning.specs.declared.ports.PortRef.TheVariants.{Cell, Input, Done, Literal}
use Rattle.cx_meaning.specs.declared.ports.PortRef.TheVariants as ports
use Rattle.cx_meaning.specs.declared.sights.FaultKind.{FaultKind}
use Rattle.cx_meaning.specs.declared.sights.FaultKind.TheVariants as faults
use Rattle.cx_meaning.specs.Designs.{PlainDesign, PlainComponent, PlainCell, PlainGroup, PlainGuard, Negation, Atom, Any, Within, a_guard, no_guards, PlainForm, Seq, If, While, Repeat, Empty, StaticSeq, StaticIf, StaticRepeat, PlainStatement, statements_of}
use Rattle.cx_meaning.specs.Instances.{State, tree_of, words_of}
use Rattle.cx_meaning.specs.Cycles.{Fault}
use Rattle.cx_meaning.specs.Answers.{Answer, End, More}
use Rattle.cx_meaning.specs.Answers as answers
use Rattle.cx_meaning.specs.Running.{run_main}
use Rattle.cx_meaning.proofs.KnownDesigns.{placed, assign, guarded, plain_group, comb_group, timed_group, cell, child_cell, mem, reg, adder, st, enable, seq, par, component, design, one_bit, number, write, store, add_to}

-- what an answer tells without its state: the turns and the words of the external memories, the fault and its turn, or neither
pub data Told : Type 0 where
  Ends : (turns : ℕ) (words : List (List ℕ)) → Told
  Faults : (kind : FaultKind) (path : List ℕ) (port : PortRef) (turn : ℕ) → Told
  GoesOn : Told

abbrev pub told : PlainDesign → Answer State Fault → Told
told d (End s t) = Ends t (words_of (tree_of d) s)
told d (answers.Fault f t) = Faults f.kind f.path f.port t
told d More = GoesOn

abbrev pub run_told : PlainDesign → List (List ℕ) → ℕ → Told
run_told d words n = told d (run_main d words n)

abbrev five : List (List ℕ)
five = (5 ∷ []) ∷ []

-- the whole path: mem is read into r, 3 is added, r is stored; three groups of two turns each, and 5 + 3 = 8
abbrev path : PlainDesign
path = design (mem ∷ reg 32 ∷ adder ∷ [])
    (plain_group (assign (Cell 0 0) (one_bit 0) 1 ∷ assign (Cell 1 0) (Cell 0 3) 2 ∷ assign (Cell 1 1) (one_bit 1) 3 ∷ assign (Done 0) (Cell 1 3) 4 ∷ [])
    ∷ add_to 1 2 1 (number 3) ∷ store 2 (Cell 1 2) ∷ [])
    [] (seq (enable 0 ∷ enable 1 ∷ enable 2 ∷ []))

pub known_path : run_told path five 1000 ≡ Ends 6 ((8 ∷ []) ∷ [])
known_path = refl

-- within five turns it goes on, and within six it ends
pub known_five_turns : run_told path five 5 ≡ GoesOn
known_five_turns = refl

pub known_six_turns : run_told path five 6 ≡ Ends 6 ((8 ∷ []) ∷ [])
known_six_turns = refl

abbrev one_reg : List PlainCell
one_reg = mem ∷ reg 32 ∷ reg 32 ∷ []

-- the maximum of two arms: two writes in one and one in the other, 4 turns beside 2
pub known_maximum : run_told (design one_reg (write 1 0 (number 1) ∷ write 1 1 (number 2) ∷ write 2 2 (number 3) ∷ []) [] (par (seq (enable 0 ∷ enable 1 ∷ []) ∷ enable 2 ∷ []))) five 1000 ≡ Ends 4 five
known_maximum = refl

-- a par without arms takes one turn: 1 + 2
pub known_empty_par : run_told (design one_reg (write 1 0 (number 1) ∷ []) [] (seq (par [] ∷ enable 0 ∷ []))) five 1000 ≡ Ends 3 five
known_empty_par = refl

-- inc, with the register 1 and the adder 2, and a store of the register; lt compares it with 3
abbrev counting : PlainForm → PlainDesign
counting control = design (mem ∷ reg 32 ∷ adder ∷ cell primitives.Lt (32 ∷ []) ∷ reg 1 ∷ [])
    (add_to 1 2 0 (number 1) ∷ store 1 (Cell 1 2) ∷ comb_group (assign (Cell 3 0) (Cell 1 2) 1 ∷ assign (Cell 3 1) (number 3) 2 ∷ []) ∷ [])
    [] (seq (st control ∷ enable 1 ∷ []))

-- the last test counts: four tests, three bodies of 2 and a store of 2
pub known_while : run_told (counting (While (placed (Cell 3 2)) (Some 2) (enable 0))) five 1000 ≡ Ends 12 ((3 ∷ []) ∷ [])
known_while = refl

-- a done that stands from the run before does not end the group at once: twice inc adds 2
pub known_stale_done : run_told (counting (Seq (statements_of (enable 0 ∷ enable 0 ∷ [])))) five 1000 ≡ Ends 6 ((2 ∷ []) ∷ [])
known_stale_done = refl

-- repeats: none takes 1 turn, three take 6, and the store 2
pub known_repeats : run_told (counting (Seq (statements_of (st (Repeat 0 (enable 0)) ∷ st (Repeat 3 (enable 0)) ∷ [])))) five 1000 ≡ Ends 9 ((3 ∷ []) ∷ [])
known_repeats = refl

-- an absent branch is the empty statement: a test, an idle turn, and the store
pub known_absent_branch : run_told (counting (If (placed (Cell 4 2)) None (enable 0) (st Empty))) five 1000 ≡ Ends 4 ((0 ∷ []) ∷ [])
known_absent_branch = refl

-- four active cycles of a multiplier and its store, and an idle turn; 65536 * 65537 = 65536 modulo 2^32
abbrev multiplying : PlainDesign
multiplying = design (mem ∷ cell primitives.MultPipe (32 ∷ []) ∷ [])
    (plain_group (assign (Cell 1 1) (number 65536) 1 ∷ assign (Cell 1 2) (number 65537) 2 ∷ guarded (Cell 1 0) (Negation (Atom (placed (Cell 1 4)))) (one_bit 1) 3
    ∷ assign (Cell 0 0) (one_bit 0) 4 ∷ assign (Cell 0 1) (Cell 1 3) 5 ∷ assign (Cell 0 2) (Cell 1 4) 6 ∷ assign (Done 0) (Cell 0 4) 7 ∷ []) ∷ [])
    [] (enable 0)

pub known_latency : run_told multiplying five 1000 ≡ Ends 5 ((65536 ∷ []) ∷ [])
known_latency = refl

-- a static group of two cycles writes 4 and then 9: 3 turns, and the store 2; three rounds of it 7 turns
abbrev static_group : PlainGroup
static_group = timed_group 2 (guarded (Cell 1 0) (Within 0 1) (number 4) 1 ∷ guarded (Cell 1 0) (Within 1 2) (number 9) 2 ∷ assign (Cell 1 1) (one_bit 1) 3 ∷ [])

pub known_island : run_told (design one_reg (static_group ∷ store 1 (Cell 1 2) ∷ []) [] (seq (enable 0 ∷ enable 1 ∷ []))) five 1000 ≡ Ends 5 ((9 ∷ []) ∷ [])
known_island = refl

pub known_static_repeat : run_told (design one_reg (static_group ∷ store 1 (Cell 1 2) ∷ []) [] (seq (st (StaticRepeat None 3 (enable 0)) ∷ enable 1 ∷ []))) five 1000 ≡ Ends 9 ((9 ∷ []) ∷ [])
known_static_repeat = refl

-- a static if whose port is 0 takes its cycles idly; after a write of the port it acts
abbrev sampling : List PlainStatement → PlainDesign
sampling before = design (mem ∷ reg 32 ∷ reg 1 ∷ [])
    (timed_group 1 (assign (Cell 1 0) (number 7) 1 ∷ assign (Cell 1 1) (one_bit 1) 2 ∷ []) ∷ write 2 1 (one_bit 1) ∷ store 2 (Cell 1 2) ∷ [])
    [] (seq (before ++ st (StaticIf None (placed (Cell 2 2)) (enable 0) (st Empty)) ∷ enable 2 ∷ []))

pub known_static_if_not_taken : run_told (sampling []) five 1000 ≡ Ends 4 ((0 ∷ []) ∷ [])
known_static_if_not_taken = refl

pub known_static_if_taken : run_told (sampling (enable 1 ∷ [])) five 1000 ≡ Ends 6 ((7 ∷ []) ∷ [])
known_static_if_taken = refl

-- two drivers that differ are a conflict at turn 0, and two equal ones drive
abbrev driven_twice : ℕ → ℕ → PlainDesign
driven_twice a b = design (mem ∷ reg 32 ∷ [])
    (plain_group (assign (Cell 1 0) (number a) 1 ∷ assign (Cell 1 0) (number b) 2 ∷ assign (Cell 1 1) (one_bit 1) 3 ∷ assign (Done 0) (Cell 1 3) 4 ∷ []) ∷ []) [] (enable 0)

pub known_conflict : run_told (driven_twice 1 2) five 1000 ≡ Faults faults.Conflict [] (Cell 1 0) 0
known_conflict = refl

pub known_equal_drivers : run_told (driven_twice 1 1) five 1000 ≡ Ends 2 five
known_equal_drivers = refl

-- a demanded port that nothing drives
pub known_undefined : run_told (design (mem ∷ reg 32 ∷ []) (plain_group (assign (Cell 1 1) (one_bit 1) 1 ∷ assign (Done 0) (Cell 1 3) 2 ∷ []) ∷ []) [] (enable 0)) five 1000 ≡ Faults faults.Undefined [] (Cell 1 0) 0
known_undefined = refl

-- an address of 12 in a memory of 10 words
pub known_out_of_range : run_told (design (cell primitives.StdMemD1 (32 ∷ 10 ∷ 4 ∷ []) ∷ [])
    (plain_group (assign (Cell 0 0) (Literal 4 12) 1 ∷ assign (Cell 0 1) (number 1) 2 ∷ assign (Cell 0 2) (one_bit 1) 3 ∷ assign (Done 0) (Cell 0 4) 4 ∷ []) ∷ []) [] (enable 0)) [] 1000
    ≡ Faults faults.Range [] (Cell 0 0) 0
known_out_of_range = refl

-- groups that cross and are never active together: the first reads what nothing drives
pub known_crossing : run_told (design (reg 32 ∷ adder ∷ cell primitives.Sub (32 ∷ []) ∷ [])
    (plain_group (assign (Cell 1 0) (Cell 2 2) 1 ∷ assign (Cell 1 1) (number 1) 2 ∷ assign (Cell 0 0) (Cell 1 2) 3 ∷ assign (Cell 0 1) (one_bit 1) 4 ∷ assign (Done 0) (Cell 0 3) 5 ∷ [])
    ∷ plain_group (assign (Cell 2 0) (Cell 1 2) 1 ∷ assign (Cell 2 1) (number 1) 2 ∷ assign (Cell 0 0) (Cell 2 2) 3 ∷ assign (Cell 0 1) (one_bit 1) 4 ∷ assign (Done 1) (Cell 0 3) 5 ∷ []) ∷ [])
    [] (seq (enable 0 ∷ enable 1 ∷ []))) [] 1000 ≡ Faults faults.Undefined [] (Cell 0 0) 0
known_crossing = refl

-- dbl, whose control takes 4 turns: r takes x, and then r + r; its output is r
abbrev dbl : PlainComponent
dbl = record (component (reg 32 ∷ adder ∷ [])
    (plain_group (assign (Cell 0 0) (Input 0) 1 ∷ assign (Cell 0 1) (one_bit 1) 2 ∷ assign (Done 0) (Cell 0 3) 3 ∷ [])
    ∷ plain_group (assign (Cell 1 0) (Cell 0 2) 1 ∷ assign (Cell 1 1) (Cell 0 2) 2 ∷ assign (Cell 0 0) (Cell 1 2) 3 ∷ assign (Cell 0 1) (one_bit 1) 4 ∷ assign (Done 1) (Cell 0 3) 5 ∷ []) ∷ [])
    (assign (ports.Output 0) (Cell 0 2) 1 ∷ []) (seq (enable 0 ∷ enable 1 ∷ [])))
    { inputs = record { name = []; width = 32 } ∷ []; outputs = record { name = []; width = 32 } ∷ [] }

abbrev calling : List PlainGroup → PlainStatement → PlainDesign
calling groups control = record { components = dbl ∷ component (mem ∷ child_cell 0 ∷ reg 32 ∷ []) groups [] control ∷ []; main = 1 }

-- the group of invoke c(x = v)(): the ports of c are go, x, y, done
abbrev call_with : ℕ → ℕ → PlainGroup
call_with g v = plain_group (assign (Cell 1 1) (number v) 1 ∷ assign (Cell 1 0) (one_bit 1) 1 ∷ assign (Done g) (Cell 1 3) 1 ∷ [])

-- two calls of 4 turns and an idle one, and a store of the output: 5 + 5 + 2, and 5 doubled
pub known_calls : run_told (calling (call_with 0 3 ∷ call_with 1 5 ∷ store 2 (Cell 1 2) ∷ []) (seq (enable 0 ∷ enable 1 ∷ enable 2 ∷ []))) five 1000 ≡ Ends 12 ((10 ∷ []) ∷ [])
known_calls = refl

-- a call that captures its output in register 2: 4 turns, the capture cycle, an idle turn, and the store
abbrev capturing : PlainGroup
capturing = plain_group (assign (Cell 1 1) (number 3) 1 ∷ guarded (Cell 1 0) (Negation (Atom (placed (Cell 1 3)))) (one_bit 1) 1
    ∷ assign (Cell 2 0) (Cell 1 2) 1 ∷ assign (Cell 2 1) (Cell 1 3) 1 ∷ assign (Done 0) (Cell 2 3) 1 ∷ [])

pub known_capture : run_told (calling (capturing ∷ store 1 (Cell 2 2) ∷ []) (seq (enable 0 ∷ enable 1 ∷ []))) five 1000 ≡ Ends 8 ((6 ∷ []) ∷ [])
known_capture = refl

-- an input that is not bound is a fault of the child, in the turn in which the child looks at it
pub known_unbound : run_told (calling (plain_group (assign (Cell 1 0) (one_bit 1) 1 ∷ assign (Done 0) (Cell 1 3) 1 ∷ []) ∷ []) (enable 0)) five 1000 ≡ Faults faults.Undefined (1 ∷ []) (Cell 0 0) 0
known_unbound = refl

-- wire 2 is driven by nothing; a register takes 1 without a guard, and 1 where a guard is 1
abbrev nothing_out : PlainGuard
nothing_out = Atom (placed (Cell 2 1))

abbrev guarded_by : PlainGuard → PlainDesign
guarded_by guard = design (mem ∷ reg 32 ∷ cell primitives.Wire (1 ∷ []) ∷ [])
    (plain_group (assign (Cell 1 0) (number 1) 1 ∷ guarded (Cell 1 0) guard (number 1) 2 ∷ assign (Cell 1 1) (one_bit 1) 3 ∷ assign (Done 0) (Cell 1 3) 4 ∷ []) ∷ [])
    [] (enable 0)

-- nothing | 1 is 1
pub known_nothing_or_one : run_told (guarded_by (Any (a_guard nothing_out (a_guard (Atom (placed (one_bit 1))) no_guards)))) five 1000 ≡ Ends 2 five
known_nothing_or_one = refl

-- a guard that is nothing is looked at behind one that is 1
pub known_guard_of_nothing : run_told (guarded_by nothing_out) five 1000 ≡ Faults faults.Undefined [] (Cell 1 0) 0
known_guard_of_nothing = refl

-- a static group of one cycle, and a static if of what nothing drives: a fault in the second turn
pub known_sample_of_nothing : run_told (design (mem ∷ reg 32 ∷ cell primitives.Wire (1 ∷ []) ∷ []) (timed_group 1 [] ∷ [])
    [] (st (StaticSeq None (statements_of (enable 0 ∷ st (StaticIf None (placed (Cell 2 1)) (enable 0) (st Empty)) ∷ []))))) five 1000 ≡ Faults faults.Undefined [] (Cell 2 1) 1
known_sample_of_nothing = refl
