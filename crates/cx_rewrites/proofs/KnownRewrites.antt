-- Worked values of what is counted, moved and unwrapped; each was worked by hand from the sentence above it.
use Rattle.std.specs.Prelude.{◌≡◌, ℕ, ◌+◌, nat_eq, nat_lt, Bool, true, [], ◌∷◌, None, refl, if◌then◌else◌}
use Rattle.cx_meaning.specs.declared.ports.PortRef.{PortRef}
use Rattle.cx_meaning.specs.declared.ports.PortRef.TheVariants.{Cell, Input}
use Rattle.cx_meaning.specs.Designs.{Negation, Atom, If, While, Repeat}
use Rattle.cx_meaning.specs.Answers.{End, More, Holds, Fails}
use Rattle.cx_meaning.specs.Control.{Leaves}
use Rattle.cx_meaning.proofs.KnownDesigns.{placed, st, enable, seq, par}
use Rattle.cx_rewrites.specs.Moving.{moved_guard, moved_statement}
use Rattle.cx_rewrites.specs.Renaming.{renamed}
use Rattle.cx_rewrites.specs.Tallies.{Counting, count}
use Rattle.cx_rewrites.specs.LoneParts.{unwrapped}

-- a state is a number. An enable takes two turns and adds 1; a test holds below 3; arms leave what the first leaves
abbrev toy : Leaves ℕ Bool
toy = record {
  rest = λ s. s;
  merged = λ set a b. a;
  driven = λ arm c. true;
  enable = λ g s n. if nat_lt n 2 then More else End (s + 1) 2;
  test = λ p comb s. if nat_lt s 3 then Holds else Fails;
  island = λ form s n. More;
  timed = λ k s n. More;
}

-- each enable that ends counts its group
abbrev enables : Counting ℕ
enables = record { enable = λ g s n path h. if nat_lt n 2 then 0 else (if nat_eq g h then 1 else 0); island = λ form s n path h. 0 }

-- all arms count: group 0 in both, group 1 in one
known_par : count toy enables (par (seq (enable 0 ∷ enable 1 ∷ []) ∷ enable 0 ∷ [])) 0 10 [] 0 ≡ 2
known_par = refl

-- what comes after a part counts from where the part ended, within what is left: of three enables a budget of five lets two end
known_seq : count toy enables (seq (enable 0 ∷ enable 0 ∷ enable 0 ∷ [])) 0 5 [] 0 ≡ 2
known_seq = refl

-- a loop counts its rounds: from 1 on the test holds twice
known_while : count toy enables (st (While (placed (Input 0)) None (enable 0))) 1 20 [] 0 ≡ 2
known_while = refl

-- and a repeat its times
known_repeat : count toy enables (st (Repeat 4 (enable 2))) 0 20 [] 2 ≡ 4
known_repeat = refl

-- the branch that is taken counts, and the other does not
known_if : count toy enables (st (If (placed (Input 0)) None (enable 0) (enable 1))) 5 20 [] 0 ≡ 0
known_if = refl

abbrev later_cells : PortRef → PortRef
later_cells = renamed (λ c. c + 10)

-- cells are renamed in guards, and inputs and literals stay
known_guard : moved_guard later_cells (Negation (Atom (placed (Cell 2 1)))) ≡ Negation (Atom (placed (Cell 12 1)))
known_guard = refl

-- a statement keeps its groups, and its test is of the renamed cell
known_test : moved_statement later_cells (st (While (placed (Cell 3 0)) None (enable 0))) ≡ st (While (placed (Cell 13 0)) None (enable 0))
known_test = refl

-- seq { seq { seq { g; } } h; } is seq { g; h; }
known_unwrapped : unwrapped (seq (seq (seq (enable 0 ∷ []) ∷ []) ∷ enable 1 ∷ [])) ≡ seq (enable 0 ∷ enable 1 ∷ [])
known_unwrapped = refl

-- a seq of one part that is a par is the par, and its arms are unwrapped
known_arms : unwrapped (seq (par (seq (enable 0 ∷ []) ∷ enable 1 ∷ []) ∷ [])) ≡ par (enable 0 ∷ enable 1 ∷ [])
known_arms = refl
