-- The wires of a trial are groups of assignments of two forms: a port of a cell is driven, or the hole `done` of the group.
use Rattle.std.proofs.Common.{◌≡◌, ℕ, zero, suc, ◌+◌, ◌*◌, ◌%◌, List, [], ◌∷◌, ◌++◌, refl, codes}
use Rattle.cx_text.specs.Members.{Each}
use Rattle.cx_text.proofs.MemberLaws.{each_append}
use Rattle.cx_ast.specs.PlainTree as ast
use Rattle.cx_ast.specs.PlainTree.{PlainAssign, PlainGroup, PlainWire}
use Rattle.cx_ast.specs.declared.operands.OperandItem.{OperandItem}
use Rattle.cx_numbering.specs.Names.{groups_in, always_in}
use Rattle.cx_trial.specs.TrialParts.{up_to, indexed, step_name, port_of, literal, drive, finish, sum_group, step_group, store_group}
use Rattle.cx_trial.specs.TrialTree.{step_groups, arm_groups, all_groups}

pub each_up_to : {A : Type 0} (P : A → Type 0) (f : ℕ → List A) → ((n : ℕ) → Each P (f n)) → (n : ℕ) → Each P (up_to f n)
unfolding up_to
each_up_to P f one zero = tt
each_up_to P f one (suc n) = each_append P (up_to f n) (f n) (each_up_to P f one n) (one n)

-- a group, of each of whose assignments this holds
abbrev pub OfGroup : (PlainAssign → Type 0) → PlainWire → Type 0
OfGroup P (ast.Group g) = Each P g.assigns
OfGroup P (ast.Assign a) = ⊥

pub groups_each : (P : PlainAssign → Type 0) (wires : List PlainWire) → Each (OfGroup P) wires → Each (λ (g : PlainGroup). Each P g.assigns) (groups_in wires)
groups_each P [] h = tt
groups_each P (ast.Group g ∷ wires) h = (h.0, groups_each P wires h.1)
groups_each P (ast.Assign a ∷ wires) h = absurd h.0

pub none_always : (P : PlainAssign → Type 0) (wires : List PlainWire) → Each (OfGroup P) wires → always_in wires ≡ []
none_always P [] h = refl
none_always P (ast.Group g ∷ wires) h = none_always P wires h.1
none_always P (ast.Assign a ∷ wires) h = absurd h.0

-- WHAT HOLDS OF BOTH FORMS holds of each assignment
module _ (P : PlainAssign → Type 0) (drives : (cell port : List ℕ) (source : OperandItem) → P (drive cell port source)) (ends : (group cell : List ℕ) → P (finish group cell)) where
  sum_holds : (name adder register : List ℕ) (number : ℕ) → OfGroup P (sum_group name adder register number)
  sum_holds name adder register number = (
    drives adder (codes "left") (port_of register (codes "out")),
    (drives adder (codes "right") (literal 32 number), (drives register (codes "in") (port_of adder (codes "out")), (drives register (codes "write_en") (literal 1 1), (ends name register, tt)))),
  )

  store_holds : (arm : ℕ) → OfGroup P (store_group arm)
  store_holds arm = (
    drives (indexed (codes "a") arm) (codes "left") (port_of (indexed (codes "r") arm) (codes "out")),
    (
      drives (indexed (codes "a") arm) (codes "right") (port_of (indexed (codes "s") arm) (codes "out")),
      (drives (codes "mem") (codes "addr0") (literal 4 arm), (drives (codes "mem") (codes "write_data") (port_of (indexed (codes "a") arm) (codes "out")), (drives (codes "mem") (codes "write_en") (literal 1 1), (ends (indexed (codes "t") arm) (codes "mem"), tt)))),
    ),
  )

  arm_holds : (seed arm : ℕ) → Each (OfGroup P) (arm_groups seed arm)
  arm_holds seed arm =
      each_append (OfGroup P) (step_groups seed arm) (sum_group (indexed (codes "h") arm) (indexed (codes "b") arm) (indexed (codes "s") arm) 1 ∷ store_group arm ∷ [])
      (each_up_to (OfGroup P) (λ step. step_group seed arm step ∷ []) (λ step. (sum_holds (step_name arm step) (indexed (codes "a") arm) (indexed (codes "r") arm) ((seed + (5 * arm + 3 * step)) % 1000), tt)) 8)
      (sum_holds (indexed (codes "h") arm) (indexed (codes "b") arm) (indexed (codes "s") arm) 1, (store_holds arm, tt))

  pub all_hold : (seed : ℕ) → Each (OfGroup P) (all_groups seed)
  all_hold seed = each_up_to (OfGroup P) (arm_groups seed) (arm_holds seed) 16
