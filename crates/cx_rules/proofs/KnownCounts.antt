-- Worked values of what is counted of static components and of how long their invokes last, each from the sentence above it.
use Rattle.std.proofs.Common.{◌≡◌, true, false, [], ◌∷◌, Some, None, codes, refl}
use Rattle.cx_meaning.specs.declared.ports.PortRef.TheVariants.{Cell, Input, Output}
use Rattle.cx_meaning.specs.Designs.{PlainInvoke, PlainComponent, PlainDesign, StaticSeq, Timed, statements_of}
use Rattle.cx_meaning.specs.Instances.{tree_of}
use Rattle.cx_meaning.proofs.KnownDesigns.{child_cell, assign, timed_group, mem, reg, adder, st, enable, seq, one_bit, number}
use Rattle.cx_rules.specs.Items.{InStatic}
use Rattle.cx_rules.specs.Ports.{component_of}
use Rattle.cx_rules.specs.StaticControl.{may_stand}
use Rattle.cx_rules.specs.Invokes.{form_lasts, drives_all}
use Rattle.cx_rules.specs.Counts.{inner, counted_cells, counted_groups, counted_size, occurrences_at, counted_weight, counted_instances, counted_depth, counted_design_size}

-- static<2> sq(x: 32) -> (y: 32): p takes x into r, q doubles it, and y is r
abbrev sq : PlainComponent
sq = record {
  name = codes "sq";
  latency = Some 2;
  inputs = record { name = codes "x"; width = 32 } ∷ [];
  outputs = record { name = codes "y"; width = 32 } ∷ [];
  cells = reg 32 ∷ adder ∷ [];
  groups = timed_group 1 (assign (Cell 0 0) (Input 0) 1 ∷ assign (Cell 0 1) (one_bit 1) 2 ∷ [])
      ∷ timed_group 1 (assign (Cell 1 0) (Cell 0 2) 3 ∷ assign (Cell 1 1) (Cell 0 2) 4 ∷ assign (Cell 0 0) (Cell 1 2) 5 ∷ assign (Cell 0 1) (one_bit 1) 6 ∷ []) ∷ [];
  invokes = [];
  always = assign (Output 0) (Cell 0 2) 7 ∷ [];
  control = st (StaticSeq None (statements_of (enable 0 ∷ enable 1 ∷ [])));
  place = record { line = 9; column = 1 };
}

-- invoke c(x = 32'd3)(y = k.in), without the word static
abbrev invoking : PlainInvoke
invoking = record { cell = 1; written = false; length = None; latency = Some 2; inputs = assign (Cell 1 1) (number 3) 1 ∷ []; captures = Some 0 }

-- k.in = c.y; k.write_en = 1'd1
abbrev main : PlainComponent
main = record {
  name = codes "main";
  latency = None;
  inputs = [];
  outputs = [];
  cells = mem ∷ child_cell 1 ∷ reg 32 ∷ [];
  groups = timed_group 1 (assign (Cell 2 0) (Cell 1 2) 1 ∷ assign (Cell 2 1) (one_bit 1) 1 ∷ []) ∷ [];
  invokes = invoking ∷ [];
  always = [];
  control = seq (st (Timed 0) ∷ []);
  place = record { line = 1; column = 1 };
}

abbrev caller : PlainDesign
caller = record { components = main ∷ sq ∷ []; main = 0 }

-- two cycles, and one in which k takes y
pub known_invoke_lasts : form_lasts main (Timed 0) ≡ 3
known_invoke_lasts = refl

-- it drives the cell that it invokes and the register that takes y, and not the memory
pub known_invoke_drives : (drives_all main (st (Timed 0)) 1 ≡ true) × (drives_all main (st (Timed 0)) 2 ≡ true) × (drives_all main (st (Timed 0)) 0 ≡ false)
known_invoke_drives = (refl, refl, refl)

-- it has to be written static to stand in static control
pub known_may_not_stand : may_stand main InStatic (Timed 0) ≡ false
known_may_not_stand = refl

-- a caller counts of sq its two cells and a wire, its one continuous assignment, copies of two groups with six assignments, three
-- statements and two occurrences
pub known_inner : inner sq [] ≡ record { cells = 3; always = 1; groups = 2; copies = 8; statements = 3; occurrences = 2 }
known_inner = refl

-- the memory, the register, and for c three cells; the group that captures, and two copies
pub known_counted : (counted_cells (component_of caller 0) ≡ 5) × (counted_groups (component_of caller 0) ≡ 3)
known_counted = (refl, refl)

-- the invoke has the two occurrences of sq and one that captures
pub known_invoke_occurrences : occurrences_at (component_of caller 0) (Timed 0) ≡ 3
known_invoke_occurrences = refl

-- five cells, three groups, eight assignments in them and one beside them, six statements (the seq, a static seq of sq's three and an
-- enable) and three occurrences
pub known_counted_size : counted_size (component_of caller 0) ≡ 26
known_counted_size = refl

-- and 1 for main, which alone is an instance, and alone is compiled
pub known_counted_tree : (counted_weight (tree_of caller) ≡ 27) × (counted_instances (tree_of caller) ≡ 1) × (counted_depth (tree_of caller) ≡ 1) × (counted_design_size caller ≡ 27)
known_counted_tree = (refl, refl, refl, refl)
