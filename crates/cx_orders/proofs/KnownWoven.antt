-- Worked examples, computed from the definitions; each value was worked by hand from the sentence above it.
use Rattle.std.proofs.Common.{◌≡◌, ◌≤◌, ◌<◌, ℕ, inl, inr, List, [], ◌∷◌, None, refl, arith}
use Rattle.cx_meaning.specs.declared.ports.PortRef.{PortRef}
use Rattle.cx_meaning.specs.declared.ports.PortRef.TheVariants.{Cell, Input, Done}
use Rattle.cx_meaning.specs.declared.ports.PortRef.TheVariants as ports
use Rattle.cx_meaning.specs.declared.sights.FaultKind.{FaultKind}
use Rattle.cx_meaning.specs.declared.sights.FaultKind.TheVariants as faults
use Rattle.cx_meaning.specs.Designs.{PlainDesign, PlainComponent, PlainGroup, Negation, Atom, Within, While, Repeat}
use Rattle.cx_meaning.specs.Answers as answers
use Rattle.cx_meaning.specs.Cycles.{fault_at}
use Rattle.cx_meaning.specs.Instances.{start, tree_of, words_of}
use Rattle.cx_meaning.specs.Running.{run_main}
use Rattle.cx_meaning.proofs.KnownDesigns.{placed, assign, guarded, plain_group, timed_group, child_cell, mem, reg, adder, st, enable, seq, par, component, design, one_bit, number, write, store}
use Rattle.cx_orders.specs.Alone.{LeafHasAlone, own, of_arm}
use Rattle.cx_orders.specs.Open.{InGroup, InPar, no_arms, an_arm, open_control}
use Rattle.cx_orders.specs.Woven.{Woven, Ends, More, woven, by_list}
use Rattle.cx_orders.specs.Woven as weaving

-- what a woven run tells without its state: the words of the external memories, the choices and the sum of their leaves;
-- the fault and the choices before it; or neither
pub data Told : Type 0 where
  Left : (words : List (List ℕ)) (choices numbers : ℕ) → Told
  Fault_of : (kind : FaultKind) (path : List ℕ) (port : PortRef) (choices : ℕ) → Told
  GoesOn : Told

abbrev pub told : PlainDesign → Woven → Told
told d (Ends s made sum) = Left (words_of (tree_of d) s) made sum
told d (weaving.Faults f made) = Fault_of f.kind f.path f.port made
told d More = GoesOn

-- over a memory of one word, 5
abbrev pub weave_told : PlainDesign → List ℕ → ℕ → Told
weave_told d list steps = told d (woven d ((5 ∷ []) ∷ []) (by_list list) steps)

abbrev five : List (List ℕ)
five = (5 ∷ []) ∷ []

-- par { g; h; }, where g enables the register x and h the register y and nothing drives their inputs: the leaf that is
-- advanced first is the one that faults
abbrev bare_write : ℕ → ℕ → PlainGroup
bare_write r g = plain_group (assign (Cell r 1) (one_bit 1) 1 ∷ assign (Done g) (Cell r 3) 2 ∷ [])

abbrev two_bare : PlainDesign
two_bare = design (reg 32 ∷ reg 32 ∷ []) (bare_write 0 0 ∷ bare_write 1 1 ∷ []) [] (par (enable 0 ∷ enable 1 ∷ []))

pub known_first_leaf : weave_told two_bare (0 ∷ []) 9 ≡ Fault_of faults.Undefined [] (Cell 0 0) 0
known_first_leaf = refl

pub known_second_leaf : weave_told two_bare (1 ∷ []) 9 ≡ Fault_of faults.Undefined [] (Cell 1 0) 0
known_second_leaf = refl

pub known_no_choice : weave_told two_bare (0 ∷ []) 0 ≡ GoesOn
known_no_choice = refl

-- by the list 1 the leaf is in the second arm, which alone has its fault in its first turn; the run of main never tells that one,
-- but that of the first arm
pub known_arm_alone : LeafHasAlone two_bare five (by_list (1 ∷ [])) (fault_at faults.Undefined (Cell 1 0)) 0
known_arm_alone =
    let behind : 1 ≤ 1 = omega arith in
    let there : 0 < 1 = omega arith in
    let at_most : 0 ≤ 0 = omega arith in
    (open_control (tree_of two_bare), start (tree_of two_bare) five, refl, (0, of_arm (enable 1) (InGroup 1) 0 (inr (inl refl)) (inr (behind, inl (there, refl, refl, refl))) (own 1 tt refl), at_most))

pub known_run_of_two : run_main two_bare five 9 ≡ answers.Fault (fault_at faults.Undefined (Cell 0 0)) 0
known_run_of_two = refl

-- leaf 2 of two leaves is leaf 0, and leaf 5 is leaf 1
pub known_modulo : weave_told two_bare (2 ∷ []) 9 ≡ Fault_of faults.Undefined [] (Cell 0 0) 0
known_modulo = refl

pub known_modulo_odd : weave_told two_bare (5 ∷ []) 9 ≡ Fault_of faults.Undefined [] (Cell 1 0) 0
known_modulo_odd = refl

-- two writes of 2 turns each beside one: 6 choices in any order. By the list 0 the first arm ends before the second begins;
-- by 1, 0 the first and the third choice end the second arm, and after that one leaf is left
abbrev maximum : PlainDesign
maximum = design (mem ∷ reg 32 ∷ reg 32 ∷ []) (write 1 0 (number 1) ∷ write 1 1 (number 2) ∷ write 2 2 (number 3) ∷ [])
    [] (par (seq (enable 0 ∷ enable 1 ∷ []) ∷ enable 2 ∷ []))

pub known_in_order : weave_told maximum (0 ∷ []) 100 ≡ Left five 6 0
known_in_order = refl

pub known_by_turns : weave_told maximum (1 ∷ 0 ∷ []) 100 ≡ Left five 6 2
known_by_turns = refl

pub known_five_choices : weave_told maximum (1 ∷ 0 ∷ []) 5 ≡ GoesOn
known_five_choices = refl

pub known_six_choices : weave_told maximum (0 ∷ []) 6 ≡ Left five 6 0
known_six_choices = refl

-- a par without arms is a leaf of one idle turn, and a par ends without a turn of its own: 1 + 2 beside 2, and then 2
pub known_ends_of_pars : weave_told (design (mem ∷ reg 32 ∷ reg 32 ∷ []) (write 1 0 (number 1) ∷ write 2 1 (number 3) ∷ store 2 (Cell 1 2) ∷ [])
    [] (seq (par (seq (par [] ∷ enable 0 ∷ []) ∷ enable 1 ∷ []) ∷ enable 2 ∷ []))) (1 ∷ 0 ∷ []) 100 ≡ Left ((1 ∷ []) ∷ []) 7 2
known_ends_of_pars = refl

-- an arm that has ended is no leaf: of three arms the second takes its two turns, and leaf 1 is then the third
abbrev three_arms : PlainDesign
three_arms = design (mem ∷ reg 32 ∷ reg 32 ∷ reg 32 ∷ []) (write 1 0 (number 1) ∷ write 2 1 (number 3) ∷ bare_write 3 2 ∷ [])
    [] (par (enable 0 ∷ enable 1 ∷ enable 2 ∷ []))

pub known_ended_arm : weave_told three_arms (1 ∷ []) 100 ≡ Fault_of faults.Undefined [] (Cell 3 0) 2
known_ended_arm = refl

-- and it is the third arm that is told to have the fault alone
pub known_third_alone : LeafHasAlone three_arms five (by_list (1 ∷ [])) (fault_at faults.Undefined (Cell 3 0)) 2
known_third_alone =
    let behind : 1 ≤ 1 = omega arith in
    let there : 0 < 1 = omega arith in
    let at_most : 0 ≤ 2 = omega arith in
    (InPar (an_arm (enable 0) (InGroup 0) (an_arm (enable 2) (InGroup 2) no_arms)), _, refl, (0, of_arm (enable 2) (InGroup 2) 0 (inr (inr (inl refl))) (inr (behind, inl (there, refl, refl, refl))) (own 1 tt refl), at_most))

-- a repeat of two rounds of 2 turns beside a while whose test fails at once
pub known_rounds : weave_told (design (mem ∷ reg 32 ∷ reg 1 ∷ []) (write 1 0 (number 1) ∷ write 2 1 (one_bit 1) ∷ [])
    [] (par (st (Repeat 2 (enable 0)) ∷ st (While (placed (Cell 2 2)) None (enable 1)) ∷ []))) (1 ∷ 0 ∷ []) 100 ≡ Left five 5 1
known_rounds = refl

-- a static group of two cycles and its idle turn beside a write
pub known_island : weave_told (design (mem ∷ reg 32 ∷ reg 32 ∷ [])
    (timed_group 2 (guarded (Cell 1 0) (Within 0 1) (number 4) 1 ∷ guarded (Cell 1 0) (Within 1 2) (number 9) 2 ∷ assign (Cell 1 1) (one_bit 1) 3 ∷ []) ∷ write 2 1 (number 3) ∷ store 2 (Cell 1 2) ∷ [])
    [] (seq (par (enable 0 ∷ enable 1 ∷ []) ∷ enable 2 ∷ []))) (0 ∷ 1 ∷ []) 100 ≡ Left ((9 ∷ []) ∷ []) 7 2
known_island = refl

-- dbl, whose control takes 4 turns: r takes x, and then r + r; its output is r
abbrev dbl : PlainComponent
dbl = record (component (reg 32 ∷ adder ∷ [])
    (plain_group (assign (Cell 0 0) (Input 0) 1 ∷ assign (Cell 0 1) (one_bit 1) 2 ∷ assign (Done 0) (Cell 0 3) 3 ∷ [])
    ∷ plain_group (assign (Cell 1 0) (Cell 0 2) 1 ∷ assign (Cell 1 1) (Cell 0 2) 2 ∷ assign (Cell 0 0) (Cell 1 2) 3 ∷ assign (Cell 0 1) (one_bit 1) 4 ∷ assign (Done 1) (Cell 0 3) 5 ∷ []) ∷ [])
    (assign (ports.Output 0) (Cell 0 2) 1 ∷ []) (seq (enable 0 ∷ enable 1 ∷ [])))
    { inputs = record { name = []; width = 32 } ∷ []; outputs = record { name = []; width = 32 } ∷ [] }

-- a call of it that captures its output in register 2: 4 turns of the child, the capture cycle and an idle turn, beside a
-- write of 2; and then a store of 2. Leaf 0 is in the child
abbrev calling : PlainDesign
calling = record {
  components = component (mem ∷ child_cell 1 ∷ reg 32 ∷ reg 32 ∷ [])
      (plain_group (assign (Cell 1 1) (number 3) 1 ∷ guarded (Cell 1 0) (Negation (Atom (placed (Cell 1 3)))) (one_bit 1) 1
      ∷ assign (Cell 2 0) (Cell 1 2) 1 ∷ assign (Cell 2 1) (Cell 1 3) 1 ∷ assign (Done 0) (Cell 2 3) 1 ∷ [])
      ∷ write 3 1 (number 7) ∷ store 2 (Cell 2 2) ∷ []) [] (seq (par (enable 0 ∷ enable 1 ∷ []) ∷ enable 2 ∷ [])) ∷ dbl ∷ [];
  main = 0;
}

pub known_call : weave_told calling (0 ∷ []) 100 ≡ Left ((6 ∷ []) ∷ []) 10 0
known_call = refl

pub known_call_by_turns : weave_told calling (0 ∷ 1 ∷ []) 100 ≡ Left ((6 ∷ []) ∷ []) 10 2
known_call_by_turns = refl

-- a fault of the child, in its first turn, which is the third choice
pub known_fault_below : weave_told (record {
  components = component (mem ∷ child_cell 1 ∷ reg 32 ∷ [])
      (plain_group (assign (Cell 1 0) (one_bit 1) 1 ∷ assign (Done 0) (Cell 1 3) 1 ∷ []) ∷ write 2 1 (number 7) ∷ []) [] (par (enable 0 ∷ enable 1 ∷ [])) ∷ dbl ∷ [];
  main = 0;
}) (1 ∷ []) 100 ≡ Fault_of faults.Undefined (1 ∷ []) (Cell 0 0) 2
known_fault_below = refl
