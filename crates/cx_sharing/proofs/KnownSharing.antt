-- Worked values of sharing: which cell stands for a cell, and its new number.
use Rattle.std.proofs.Common.{◌≡◌, ℕ, ◌+◌, List, [], ◌∷◌, None, refl}
use Rattle.cx_meaning.specs.declared.ports.PortRef.TheVariants.{Cell, Done, Literal}
use Rattle.cx_meaning.specs.Designs.{PlainGroup, PlainStatement, PlainComponent, no_place}
use Rattle.cx_meaning.proofs.KnownDesigns.{assign, plain_group, reg, adder, enable, seq, par}
use Rattle.cx_sharing.specs.Giving.{keeper, new_cell}

-- cell 0 is a register; the adders are cells 1, 2, 3; cell 4 is a register
abbrev adds : ℕ → ℕ → ℕ → ℕ → PlainGroup
adds g a r column =
    plain_group (assign (Cell a 0) (Cell r 2) column ∷ assign (Cell a 1) (Literal 32 1) (column + 1) ∷ assign (Cell r 0) (Cell a 2) (column + 2) ∷ assign (Cell r 1) (Literal 1 1) (column + 3) ∷ assign (Done g) (Cell r 3) (column + 4) ∷ [])

abbrev chained : ℕ → ℕ → ℕ → ℕ → PlainGroup
chained g a b column = plain_group (assign (Cell a 0) (Cell 0 2) column ∷ assign (Cell b 0) (Cell a 2) (column + 1) ∷ assign (Done g) (Cell 0 3) (column + 2) ∷ [])

abbrev part_of : List PlainGroup → PlainStatement → PlainComponent
part_of groups control =
    record { name = []; latency = None; inputs = []; outputs = []; cells = reg 32 ∷ adder ∷ adder ∷ adder ∷ reg 32 ∷ []; groups = groups; invokes = []; always = []; control = control; place = no_place }

abbrev in_turn : PlainComponent
in_turn = part_of (adds 0 1 0 0 ∷ adds 1 2 0 10 ∷ adds 2 3 0 20 ∷ []) (seq (enable 0 ∷ enable 1 ∷ enable 2 ∷ []))

-- in a seq both others are given to the first, and the register behind them has number 2
known_in_a_seq : keeper in_turn 3 ≡ 1
known_in_a_seq = refl

known_number_behind : new_cell in_turn 4 ≡ 2
known_number_behind = refl

-- in two arms they are kept
known_in_two_arms : keeper (part_of (adds 0 1 0 0 ∷ adds 1 2 4 10 ∷ []) (par (enable 0 ∷ enable 1 ∷ []))) 2 ≡ 2
known_in_two_arms = refl

-- a group that nothing enables keeps two apart; the third is given to the first
abbrev beside_a_dead_group : PlainComponent
beside_a_dead_group = part_of (adds 0 1 0 0 ∷ adds 1 2 0 10 ∷ chained 2 1 2 20 ∷ adds 3 3 0 30 ∷ []) (seq (enable 0 ∷ enable 1 ∷ enable 3 ∷ []))

known_dead_group : keeper beside_a_dead_group 2 ≡ 2
known_dead_group = refl

known_third_beside_it : keeper beside_a_dead_group 3 ≡ 1
known_third_beside_it = refl

-- the third meets what was given to the first, not the first
known_meets_a_given_one : keeper (part_of (adds 0 1 0 0 ∷ chained 1 2 3 10 ∷ []) (seq (enable 0 ∷ enable 1 ∷ []))) 3 ≡ 3
known_meets_a_given_one = refl
