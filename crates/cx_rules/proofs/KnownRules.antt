-- Worked values of what rules speak of, each from the sentence above it.
use Rattle.std.proofs.Common.{◌≡◌, true, false, inl, inr, [], ◌∷◌, Some, None, refl}
use Rattle.cx_meaning.specs.declared.ports.PortRef.TheVariants.{Cell, Literal}
use Rattle.cx_meaning.specs.Designs.{PlainComponent, PlainDesign, Within, StaticSeq, StaticRepeat, StaticIf, Empty, component_at, statements_of}
use Rattle.cx_meaning.specs.Islands.{form_length}
use Rattle.cx_meaning.proofs.KnownDesigns.{placed, child_cell, component, assign, guarded, timed_group, mem, reg, st, enable, seq, design, one_bit, number, write, store}
use Rattle.cx_rules.specs.Ports.{component_of, keeps_literal}
use Rattle.cx_rules.specs.WidthRules.{first_unequal, pairs_of}
use Rattle.cx_rules.specs.StaticControl.{form_has_length, form_occurrences}
use Rattle.cx_rules.specs.Items.{Dynamic}
use Rattle.cx_rules.specs.Invokes.{named}
use Rattle.cx_rules.specs.RaceRule.{IsShared}
use Rattle.cx_rules.specs.LimitRule.{is_too_many}
use Rattle.cx_rules.specs.Sizes.{design_size, weight_of, instances_below, depth_below, words_below}
use Rattle.cx_meaning.specs.Instances.{tree_of}
use Rattle.cx_rules.specs.Accepted.{comes_before}

-- a static group of two cycles in a static repeat of ten thousand, and a store
abbrev repeated : PlainDesign
repeated = design (mem ∷ reg 32 ∷ [])
    (timed_group 2 (guarded (Cell 1 0) (Within 0 1) (number 4) 1 ∷ guarded (Cell 1 0) (Within 1 2) (number 9) 2 ∷ assign (Cell 1 1) (one_bit 1) 3 ∷ []) ∷ store 1 (Cell 1 2) ∷ [])
    [] (seq (st (StaticRepeat None 10000 (enable 0)) ∷ enable 1 ∷ []))

-- 2 cells, 2 groups, 7 assignments, 2 guard nodes, 4 statements and 1 occurrence before repetition, and 1 for the component
pub known_weight : weight_of repeated ≡ 19
known_weight = refl

pub known_size : design_size repeated ≡ 19
known_size = refl

-- 20,000 cycles, and still one occurrence
pub known_length : form_length (component_at repeated 0) (StaticRepeat None 10000 (enable 0)) ≡ 20000
known_length = refl

pub known_occurrences : form_occurrences (component_at repeated 0) (StaticRepeat None 10000 (enable 0)) ≡ 1
known_occurrences = refl

-- the longer branch; an empty branch has length 0
pub known_longer_branch : form_length (component_at repeated 0) (StaticIf None (placed (Cell 1 3)) (enable 0) (st Empty)) ≡ 2
known_longer_branch = refl

-- an empty statement may be a branch, and may not stand in a static seq
pub known_empty_branch : form_has_length (component_at repeated 0) Dynamic (StaticIf None (placed (Cell 1 3)) (enable 0) (st Empty)) ≡ true
known_empty_branch = refl

pub known_empty_child : form_has_length (component_at repeated 0) Dynamic (StaticSeq None (statements_of (st Empty ∷ []))) ≡ false
known_empty_child = refl

-- one instance, one level, one word
pub known_tree : (instances_below (tree_of repeated) ≡ 1) × (depth_below (tree_of repeated) ≡ 1) × (words_below (tree_of repeated) ≡ 1)
known_tree = (refl, refl, refl)

-- main holds two instances of one component, which has a memory of one word: three instances on two levels, and two words
abbrev twice : PlainDesign
twice = record { components = component (mem ∷ []) [] [] (st Empty) ∷ component (child_cell 0 ∷ child_cell 0 ∷ []) [] [] (st Empty) ∷ []; main = 1 }

pub known_two_instances : (instances_below (tree_of twice) ≡ 3) × (depth_below (tree_of twice) ≡ 2) × (words_below (tree_of twice) ≡ 2)
known_two_instances = (refl, refl, refl)

-- the inner component has a cell and a statement, main two cells and a statement, and each counts 1 for itself; the inner one
-- counts once in the size, and in the weight for each of its two instances
pub known_two_sizes : (design_size twice ≡ 7) × (weight_of twice ≡ 10)
known_two_sizes = (refl, refl)

-- 2^32 turns are too many, and one less are not
pub known_repeat : (is_too_many (Some 4294967296) ≡ true) × (is_too_many (Some 4294967295) ≡ false)
known_repeat = (refl, refl)

-- 8'd1 on a port of 32 bits: the target is named
pub known_width : first_unequal (component_of repeated 0) (pairs_of (assign (Cell 1 0) (Literal 8 1) 1)) ≡ Some (Cell 1 0)
known_width = refl

pub known_equal_widths : first_unequal (component_of repeated 0) (pairs_of (assign (Cell 1 0) (number 1) 1)) ≡ None
known_equal_widths = refl

-- 129'd0 has too many bits, 4'd16 does not fit, and 128 bits are the most
pub known_literals : (keeps_literal 129 0 ≡ false) × (keeps_literal 4 16 ≡ false) × (keeps_literal 128 1 ≡ true)
known_literals = (refl, refl, refl)

-- one arm writes register 1, and another stores it: the register is driven and read
abbrev racing : PlainComponent
racing = component (mem ∷ reg 32 ∷ []) (write 1 0 (number 1) ∷ store 1 (Cell 1 2) ∷ []) [] (st Empty)

pub known_race : IsShared racing (enable 0 ∷ enable 1 ∷ []) 1
known_race = (
  record { one = 0; other = 1; differ = λ e. absurd (cc); first = enable 0; second = enable 1; first_stands = refl; second_stands = refl },
  refl,
  named 2 1 (assign (Cell 0 1) (Cell 1 2) 2) (inl refl) (inr (inl refl)) (inr refl),
)

-- line 5 column 11 with rule 14 comes before line 5 column 18 with rule 16
pub known_order : comes_before (5 ∷ 11 ∷ 14 ∷ []) (5 ∷ 18 ∷ 16 ∷ []) ≡ true
known_order = refl
