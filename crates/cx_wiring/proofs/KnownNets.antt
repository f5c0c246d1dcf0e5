-- Worked examples, computed from the definitions; each value was worked by hand from the sentence above it.
use Rattle.std.specs.Prelude.{◌≡◌, ℕ, true, List, [], ◌∷◌, ◌++◌, replicate, Some, None, refl}
use Rattle.cx_meaning.specs.declared.ports.PortRef.TheVariants.{Cell, Done, Literal}
use Rattle.cx_meaning.specs.declared.ports.Comparison.TheVariants.{NotEqual, Less, AtLeast}
use Rattle.cx_meaning.specs.Designs.{Atom, Negation, All, Within, guards_of, PlainCell, PlainComponent, If, While, Repeat, Timed, PlainStatement}
use Rattle.cx_meaning.proofs.KnownDesigns.{placed, assign, guarded, plain_group, child_cell, reg, st, enable, seq, par, component}
use Rattle.cx_net.specs.Nets.{PlainNetExpr, OfPort, OfRegister, OfWire, OfHole, OfGo, Inverse, AllOf, Sum, Compares, exprs_of, ToPort, ToRegister, ToWire, ToHole, ToDone, PlainNetDriver, PlainNetComponent}
use Rattle.cx_static.specs.Islands.{PlainIsland, PlainLowered, PlainLowereds}
use Rattle.cx_wiring.specs.Parts.{word, literal, one, both, either, equals, drive, connect}
use Rattle.cx_wiring.specs.Counts.{wires_of, registers_of}
use Rattle.cx_wiring.specs.Control.{drivers_of, whole_stand, control_drivers}
use Rattle.cx_wiring.specs.Assignments.{assign_drivers}
use Rattle.cx_wiring.specs.Trees.{trees}
use Rattle.cx_wiring.specs.Reached.{order}
use Rattle.cx_wiring.specs.Wiring.{net_of}

abbrev lowered : PlainComponent → PlainLowered
lowered part = record { part = part; islands = [] }

-- ONE GROUP, which writes 1 to a register of one bit, enabled once: ports 0 to 3 of the cell are in, write_en, out and done
abbrev one_group : PlainLowereds
one_group = record {
  components = lowered (component (reg 1 ∷ []) (plain_group (assign (Cell 0 0) (Literal 1 1) 1 ∷ assign (Cell 0 1) (Literal 1 1) 2 ∷ assign (Done 0) (Cell 0 3) 3 ∷ []) ∷ []) [] (enable 0)) ∷ [];
  main = 0;
}

-- wire 0 is the offset of the group, wires 1 and 2 say that control stands at the enable and that it is in its last turn; hole 0
-- says that the group is done and hole 1 that it goes; register 0 is 0 at the enable and 1 behind it
abbrev net_of_one_group : PlainNetComponent
net_of_one_group = record {
  name = [];
  inputs = [];
  outputs = [];
  cells = reg 1 ∷ [];
  registers = 32 ∷ [];
  wires = 32 ∷ 1 ∷ 1 ∷ [];
  holes = 2;
  drivers =
      drive (ToPort (Cell 0 0)) (OfHole 1) (OfPort (Literal 1 1))
      ∷ drive (ToPort (Cell 0 1)) (OfHole 1) (OfPort (Literal 1 1))
      ∷ drive (ToRegister 0) (OfWire 2) (word 1)
      ∷ drive (ToRegister 0) (equals (OfRegister 0) 1) (word 0)
      ∷ connect 1 (both OfGo (equals (OfRegister 0) 0))
      ∷ connect 2 (both (OfWire 1) (OfHole 0))
      ∷ drive (ToHole 0) one (OfPort (Cell 0 3))
      ∷ drive (ToHole 1) (OfWire 1) (Inverse (OfWire 2))
      ∷ drive ToDone one (equals (OfRegister 0) 1)
      ∷ [];
}

pub known_group : net_of one_group ≡ record { components = net_of_one_group ∷ []; main = 0 }
known_group = refl

-- A PAR of two groups, whose wires begin at 2: the par has wires 2 and 3, the arms 4 to 7 and the registers 1 and 2. The par ends
-- where each arm stands at its last position, which is 1, or is in its last turn
abbrev two_arms : PlainStatement
two_arms = par (enable 0 ∷ enable 1 ∷ [])

abbrev control_of_par : List PlainNetDriver
control_of_par =
    connect 2 (both OfGo (equals (OfRegister 0) 0))
    ∷ drive (ToRegister 1) (OfWire 3) (word 0)
    ∷ connect 4 (both (OfWire 2) (equals (OfRegister 1) 0))
    ∷ connect 5 (both (OfWire 4) (OfHole 0))
    ∷ drive (ToHole 2) (OfWire 4) (Inverse (OfWire 5))
    ∷ drive (ToRegister 1) (OfWire 5) (word 1)
    ∷ drive (ToRegister 2) (OfWire 3) (word 0)
    ∷ connect 6 (both (OfWire 2) (equals (OfRegister 2) 0))
    ∷ connect 7 (both (OfWire 6) (OfHole 1))
    ∷ drive (ToHole 3) (OfWire 6) (Inverse (OfWire 7))
    ∷ drive (ToRegister 2) (OfWire 7) (word 1)
    ∷ connect 3 (AllOf (exprs_of (OfWire 2 ∷ either (equals (OfRegister 1) 1) (OfWire 5) ∷ either (equals (OfRegister 2) 1) (OfWire 7) ∷ [])))
    ∷ drive (ToRegister 0) (OfWire 3) (word 1)
    ∷ drive (ToRegister 0) (equals (OfRegister 0) 1) (word 0)
    ∷ drive ToDone one (equals (OfRegister 0) 1)
    ∷ []

pub known_par : control_drivers 2 [] 2 two_arms ≡ control_of_par
known_par = refl

pub known_par_registers : registers_of [] two_arms ≡ 32 ∷ 32 ∷ []
known_par_registers = refl

pub known_par_wires : wires_of two_arms ≡ 6
known_par_wires = refl

-- A SEQ of a repeat of two rounds and an enable, in a region of two positions: the seq has wires 1 and 2, the repeat 3 and 4, its
-- body 5 and 6, the enable 7 and 8. Register 1 counts; the last round is that of number 1
abbrev two_rounds : PlainStatement
two_rounds = seq (st (Repeat 2 (enable 0)) ∷ enable 0 ∷ [])

abbrev drivers_of_rounds : List PlainNetDriver
drivers_of_rounds =
    connect 5 (both OfGo (equals (OfRegister 0) 0))
    ∷ connect 6 (both (OfWire 5) (OfHole 0))
    ∷ drive (ToHole 1) (OfWire 5) (Inverse (OfWire 6))
    ∷ connect 4 (both (OfWire 6) (equals (OfRegister 1) 1))
    ∷ drive (ToRegister 0) (both (OfWire 6) (Compares NotEqual (OfRegister 1) (word 1))) (word 0)
    ∷ drive (ToRegister 1) (OfWire 4) (word 0)
    ∷ drive (ToRegister 1) (OfWire 6) (Sum (OfRegister 1) (word 1))
    ∷ drive (ToRegister 0) (OfWire 4) (word 1)
    ∷ connect 7 (both OfGo (equals (OfRegister 0) 1))
    ∷ connect 8 (both (OfWire 7) (OfHole 0))
    ∷ drive (ToHole 1) (OfWire 7) (Inverse (OfWire 8))
    ∷ connect 2 (OfWire 8)
    ∷ []

pub known_rounds : drivers_of 1 [] (whole_stand 1) two_rounds ≡ drivers_of_rounds
known_rounds = refl

-- A TEST: an if of an enable, whose other branch is an idle turn, below a while; port 2 of cell 0 is tested. The while has wires 1
-- and 2 and position 0, the if 3 and 4 and position 1, its branches 5 to 8 and positions 2 and 3
abbrev tests : PlainStatement
tests = st (While (placed (Cell 0 2)) None (st (If (placed (Cell 0 2)) None (enable 0) (seq []))))

abbrev drivers_of_tests : List PlainNetDriver
drivers_of_tests =
    connect 1 (both OfGo (equals (OfRegister 0) 0))
    ∷ connect 2 (both (OfWire 1) (Inverse (OfPort (Cell 0 2))))
    ∷ drive (ToRegister 0) (both (OfWire 1) (OfPort (Cell 0 2))) (word 1)
    ∷ connect 3 (both OfGo (equals (OfRegister 0) 1))
    ∷ drive (ToRegister 0) (both (OfWire 3) (OfPort (Cell 0 2))) (word 2)
    ∷ connect 5 (both OfGo (equals (OfRegister 0) 2))
    ∷ connect 6 (both (OfWire 5) (OfHole 0))
    ∷ drive (ToHole 1) (OfWire 5) (Inverse (OfWire 6))
    ∷ drive (ToRegister 0) (both (OfWire 3) (Inverse (OfPort (Cell 0 2)))) (word 3)
    ∷ connect 7 (both OfGo (equals (OfRegister 0) 3))
    ∷ connect 8 (OfWire 7)
    ∷ connect 4 (either (OfWire 6) (OfWire 8))
    ∷ drive (ToRegister 0) (OfWire 4) (word 0)
    ∷ []

pub known_tests : drivers_of 1 [] (whole_stand 1) tests ≡ drivers_of_tests
known_tests = refl

-- AN ISLAND of two cycles, with a timer at cell 1: a static if on port 2 of cell 0 in cycle 1, and group 0 there where it is 1.
-- Wire 0 is the offset of the group, wires 1 to 3 are those of the island and 4 and 5 those of its statement
abbrev island : PlainIsland
island = record {
  length = 2;
  timers = record { cell = 1; outer = None; from = 0; to = 2 } ∷ [];
  points = record { port = Cell 0 2; timer = 0; at = 1; samples = [] } ∷ [];
  occurrences = record { group = 0; timer = 0; from = 1; to = 2; samples = record { point = 0; wanted = true } ∷ [] } ∷ [];
}

abbrev drivers_of_island : List PlainNetDriver
drivers_of_island =
    connect 4 (both OfGo (equals (OfRegister 0) 0))
    ∷ connect 5 (both (OfWire 4) (OfPort (Cell 1 2)))
    ∷ connect 1 (both (OfWire 4) (Inverse (OfPort (Cell 1 2))))
    ∷ drive (ToPort (Cell 1 0)) (OfWire 1) one
    ∷ drive (ToWire 2) (both (OfWire 1) (equals (OfPort (Cell 1 1)) 1)) (OfPort (Cell 0 2))
    ∷ connect 2 (OfRegister 1)
    ∷ drive (ToRegister 1) (both (OfWire 4) (equals (OfPort (Cell 1 1)) 1)) (literal 1 0)
    ∷ drive (ToRegister 1) (both (OfWire 1) (equals (OfPort (Cell 1 1)) 1)) (OfPort (Cell 0 2))
    ∷ connect 3 (AllOf (exprs_of (OfWire 1 ∷ Compares AtLeast (OfPort (Cell 1 1)) (word 1) ∷ Compares Less (OfPort (Cell 1 1)) (word 2) ∷ OfWire 2 ∷ [])))
    ∷ drive (ToHole 1) (OfWire 3) one
    ∷ drive (ToWire 0) (OfWire 3) (Sum (OfPort (Cell 1 1)) (word 4294967295))
    ∷ []

pub known_island : drivers_of 1 (island ∷ []) (whole_stand 4) (st (Timed 0)) ≡ drivers_of_island
known_island = refl

-- A GUARD in group 0 of one: !(r.out & %[1:2]). Its gate is wire 5, and its parts that are no ports are wires 6 and 7
abbrev inner_guard : PlainNetExpr
inner_guard = AllOf (exprs_of (OfPort (Cell 0 2) ∷ OfWire 7 ∷ []))

pub known_guard : assign_drivers 1 5 (record { owner = Some 0; assign = guarded (Cell 0 0) (Negation (All (guards_of (Atom (placed (Cell 0 2)) ∷ Within 1 2 ∷ [])))) (Literal 1 1) 1 })
    ≡ connect 7 (both (Compares AtLeast (OfWire 0) (word 1)) (Compares Less (OfWire 0) (word 2)))
    ∷ connect 6 inner_guard
    ∷ drive (ToWire 5) (OfHole 1) (Inverse (OfWire 6))
    ∷ drive (ToPort (Cell 0 0)) (OfWire 5) (OfPort (Literal 1 1))
    ∷ []
known_guard = refl

-- A TREE: 17 drivers of a register are two bundles, of 16 and of one; the wires of each are whether one of its drivers is on, and what
-- the first that is on gives
abbrev first_driver : PlainNetDriver
first_driver = drive (ToRegister 3) OfGo (word 1)

pub known_tree : trees 9 (record { target = ToRegister 3; drivers = replicate 17 first_driver } ∷ [])
    ≡ replicate 16 (drive (ToWire 9) OfGo one) ++ replicate 16 (drive (ToWire 10) OfGo (word 1))
    ++ drive (ToWire 11) OfGo one ∷ drive (ToWire 12) OfGo (word 1)
    ∷ drive (ToRegister 3) (OfWire 9) (OfWire 10) ∷ drive (ToRegister 3) (OfWire 11) (OfWire 12) ∷ []
known_tree = refl

-- THE ORDER: main is component 0 and has a cell of component 2, which has one of component 3; nothing reaches component 1
abbrev cells_of_components : List ℕ → List PlainCell
cells_of_components [] = []
cells_of_components (k ∷ rest) = child_cell k ∷ cells_of_components rest

abbrev above : List ℕ → PlainLowered
above ks = lowered (component (cells_of_components ks) [] [] (seq []))

pub known_order : order (record { components = above (2 ∷ []) ∷ above (3 ∷ []) ∷ above (3 ∷ []) ∷ above [] ∷ []; main = 0 }) ≡ 3 ∷ 2 ∷ 0 ∷ []
known_order = refl
