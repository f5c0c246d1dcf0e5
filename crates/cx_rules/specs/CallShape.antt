-- RULE call-shape: the only form of a group that drives ports of a component cell.
use Rattle.std.specs.Prelude.{◌≡◌, ◌≢◌, ℕ, suc, ◌+◌, nat_eq, ◌⊎◌, Bool, true, false, ◌&&◌, ◌||◌, List, [], ◌∷◌, ◌++◌, Option, Some, None, length, map, filter, slice_get}
use Rattle.std.specs.List.{list_all, list_any}
use Rattle.cx_prim.specs.declared.names.PrimitiveName.{PrimitiveName}
use Rattle.cx_prim.specs.declared.names.PrimitiveName.TheVariants as primitives
use Rattle.cx_meaning.specs.declared.ports.PortRef.{PortRef}
use Rattle.cx_meaning.specs.declared.ports.PortRef.TheVariants as ports
use Rattle.cx_meaning.specs.Designs.{PlainGuard, Always, Atom, Negation, All, Any, Compared, Within, PlainGuards, no_guards, a_guard, PlainAssign, PlainKind, OfPrimitive, OfComponent, PlainCell, PlainComponent, group_at}
use Rattle.cx_meaning.specs.Instances.{Instance, OfInstance, part_of, cells_of, cell_at}
use Rattle.cx_meaning.specs.Active.{group, Owned, same_port}
use Rattle.cx_meaning.specs.Sights.{AnInput, AnOutput, ItsDone, part_port}
use Rattle.cx_rules.specs.Ports.{is_primitive_enable, is_part_port, path_of}
use Rattle.cx_rules.specs.Items.{is_plain}
use Rattle.cx_rules.specs.Footprints.{Depends}
use Rattle.cx_rules.specs.ShapeRules.{is_hole_of, some_target}
use Rattle.cx_rules.specs.Spots.{Tells, AssignRule, GroupRule}

-- cell c is a component's that is not static, and one of the assignments drives a port of it
abbrev pub is_port_of : ℕ → PortRef → Bool
is_port_of c (ports.Cell d p) = nat_eq d c
is_port_of c (ports.Input n) = false
is_port_of c (ports.Output n) = false
is_port_of c (ports.Done g) = false
is_port_of c (ports.Literal w v) = false

pub record Calls (i : Instance) (assigns : List PlainAssign) (c : ℕ) : Type 0 where
  pub child : Instance
  pub is_component : cell_at (cells_of i) c ≡ OfInstance child
  pub dynamic : (part_of child).latency ≡ None
  pub driven : some_target (is_port_of c) assigns ≡ true

-- the go of a component cell is its port 0, and its done the last one, after its inputs and outputs
abbrev pub go_port : ℕ → PortRef
go_port c = ports.Cell c 0

abbrev pub done_port : ℕ → Instance → PortRef
done_port c child = ports.Cell c (suc (length (part_of child).inputs + length (part_of child).outputs))

-- the ports of a std_reg are in, write_en, out, done
abbrev pub write_en_of : ℕ → PortRef
write_en_of r = ports.Cell r 1

abbrev pub register_done : ℕ → PortRef
register_done r = ports.Cell r 3

abbrev pub is_reg_name : PrimitiveName → Bool
is_reg_name primitives.Reg = true
is_reg_name _ = false

abbrev pub is_reg_kind : PlainKind → Bool
is_reg_kind (OfPrimitive primitive) = is_reg_name primitive.name
is_reg_kind (OfComponent k) = false

abbrev pub is_register_cell : Option PlainCell → Bool
is_register_cell None = false
is_register_cell (Some cell) = is_reg_kind cell.kind

-- cell r is a std_reg
abbrev pub is_register : PlainComponent → ℕ → Bool
is_register part r = is_register_cell (slice_get part.cells r)

abbrev pub one : PortRef
one = ports.Literal 1 1

-- the assignments of one target
abbrev pub with_target : PortRef → List PlainAssign → List PlainAssign
with_target port assigns = filter (λ a. same_port a.target port) assigns

abbrev pub is_atom : PortRef → PlainGuard → Bool
is_atom port Always = false
is_atom port (Atom p) = same_port p.port port
is_atom port (Negation g) = false
is_atom port (All gs) = false
is_atom port (Any gs) = false
is_atom port (Compared c a b) = false
is_atom port (Within from to) = false

abbrev pub is_always : PlainGuard → Bool
is_always Always = true
is_always (Atom p) = false
is_always (Negation g) = false
is_always (All gs) = false
is_always (Any gs) = false
is_always (Compared c a b) = false
is_always (Within from to) = false

abbrev pub is_negated : PortRef → PlainGuard → Bool
is_negated port Always = false
is_negated port (Atom p) = false
is_negated port (Negation g) = is_atom port g
is_negated port (All gs) = false
is_negated port (Any gs) = false
is_negated port (Compared c a b) = false
is_negated port (Within from to) = false

-- the go: exactly one assignment, 1'd1 without a guard or with the guard !c.done
abbrev pub is_right_go : PortRef → List PlainAssign → Bool
is_right_go done [] = false
is_right_go done (a ∷ []) = same_port a.source.port one && (is_always a.guard || is_negated done a.guard)
is_right_go done (a ∷ b ∷ rest) = false

-- an enable of a captured register: exactly one assignment, c.done without a guard or 1'd1 with the guard c.done
abbrev pub is_right_enable : PortRef → List PlainAssign → Bool
is_right_enable done [] = false
is_right_enable done (a ∷ []) =
    (same_port a.source.port done && is_always a.guard)
    || (same_port a.source.port one && is_atom done a.guard)
is_right_enable done (a ∷ b ∷ rest) = false

abbrev pub is_register_enable : PlainComponent → PortRef → Bool
is_register_enable part (ports.Cell r p) = is_register part r && nat_eq p 1
is_register_enable part (ports.Input n) = false
is_register_enable part (ports.Output n) = false
is_register_enable part (ports.Done g) = false
is_register_enable part (ports.Literal w v) = false

-- the captured registers: every std_reg whose write_en the assignments drive, in cell order
abbrev pub added : ℕ → Bool → List ℕ → List ℕ
added r true rest = r ∷ rest
added r false rest = rest

abbrev pub captured_from : List PlainAssign → ℕ → List PlainCell → List ℕ
captured_from assigns r [] = []
captured_from assigns r (cell ∷ cells) =
    added r (is_reg_kind cell.kind && some_target (same_port (write_en_of r)) assigns)
    (captured_from assigns (suc r) cells)

abbrev pub captured : PlainComponent → List PlainAssign → List ℕ
captured part assigns = captured_from assigns 0 part.cells

-- the ports whose conjunction the done has to be: c.done where nothing is captured, else the dones of the captured registers
abbrev pub wanted_dones : PortRef → List ℕ → List PortRef
wanted_dones done [] = done ∷ []
wanted_dones done (r ∷ rs) = register_done r ∷ map register_done rs

-- the ports of which a guard is the conjunction, in any nesting
abbrev pub joined : Option (List PortRef) → Option (List PortRef) → Option (List PortRef)
joined None b = None
joined (Some ps) None = None
joined (Some ps) (Some qs) = Some (ps ++ qs)

abbrev mutual
  pub conjuncts : PlainGuard → Option (List PortRef)
  conjuncts Always = None
  conjuncts (Atom p) = Some (p.port ∷ [])
  conjuncts (Negation g) = None
  conjuncts (All gs) = conjuncts_in gs
  conjuncts (Any gs) = None
  conjuncts (Compared c a b) = None
  conjuncts (Within from to) = None

  pub conjuncts_in : PlainGuards → Option (List PortRef)
  conjuncts_in no_guards = Some []
  conjuncts_in (a_guard g gs) = joined (conjuncts g) (conjuncts_in gs)

-- the same ports, each once, in any order
abbrev pub are_dones : List PortRef → Option (List PortRef) → Bool
are_dones wanted None = false
are_dones wanted (Some ps) = nat_eq (length ps) (length wanted) && list_all (λ w. list_any (same_port w) ps) wanted

abbrev pub is_right_done_assign : List PortRef → PlainAssign → Bool
is_right_done_assign wanted a =
    (is_always a.guard && are_dones wanted (Some (a.source.port ∷ [])))
    || (same_port a.source.port one && are_dones wanted (conjuncts a.guard))

-- the done: exactly one assignment, a port without a guard, or 1'd1 with a port or a conjunction of ports as its guard
abbrev pub is_right_done : List PortRef → List PlainAssign → Bool
is_right_done wanted [] = false
is_right_done wanted (a ∷ []) = is_right_done_assign wanted a
is_right_done wanted (a ∷ b ∷ rest) = false

abbrev pub assigns_of : Instance → ℕ → List PlainAssign
assigns_of i g = (group_at (part_of i) g).assigns

abbrev pub IsInput : Instance → ℕ → Type 0
IsInput child p = (n : ℕ) × (part_port (part_of child) p ≡ AnInput n)

abbrev pub IsOutputOrDone : Instance → ℕ → Type 0
IsOutputOrDone child q =
    ((m : ℕ) × (part_port (part_of child) q ≡ AnOutput m)) ⊎ (part_port (part_of child) q ≡ ItsDone)

-- THE FIVE CONDITIONS on a plain group g, asked for a component cell c that it drives, which is an instance child.
-- First, it drives ports of no other component cell. Here it does, and each of its targets on a component cell breaks it
abbrev pub CallsAnother : Instance → ℕ → ℕ → PortRef → Type 0
CallsAnother i g c target = ((e : ℕ) × Calls i (assigns_of i g) e × (e ≢ c)) × (is_part_port i target ≡ true)

-- second, it drives the go as said
abbrev pub has_right_go : Instance → ℕ → ℕ → Instance → Bool
has_right_go i g c child = is_right_go (done_port c child) (with_target (go_port c) (assigns_of i g))

-- third, no input of c depends on an output or the done of c. Here input p does
abbrev pub IsFedBack : Instance → ℕ → ℕ → Instance → ℕ → Type 0
IsFedBack i g c child p =
    IsInput child p
    × ((q : ℕ) × IsOutputOrDone child q × Depends i (group g) (ports.Cell c p) (ports.Cell c q))

-- fourth, each enabling port of a primitive cell that it drives is the write_en of a std_reg, driven as said
abbrev pub has_right_enable : Instance → ℕ → ℕ → Instance → PortRef → Bool
has_right_enable i g c child port =
    is_register_enable (part_of i) port
    && is_right_enable (done_port c child) (with_target port (assigns_of i g))

-- fifth, it drives its done as said, by the registers that it captures
abbrev pub has_right_done : Instance → ℕ → ℕ → Instance → Bool
has_right_done i g c child =
    is_right_done (wanted_dones (done_port c child) (captured (part_of i) (assigns_of i g)))
    (with_target (ports.Done g) (assigns_of i g))

-- a broken condition, and a port whose assignments break it
pub data CallBreak (i : Instance) (g : ℕ) (c : ℕ) (child : Instance) : PortRef → Type 0 where
  another_cell : {target : PortRef} → CallsAnother i g c target → CallBreak i g c child target
  wrong_go : has_right_go i g c child ≡ false → CallBreak i g c child (go_port c)
  input_by_output : (p : ℕ) → IsFedBack i g c child p → CallBreak i g c child (ports.Cell c p)
  wrong_enable : {target : PortRef} → is_primitive_enable i target ≡ true
      → has_right_enable i g c child target ≡ false → CallBreak i g c child target
  wrong_done : has_right_done i g c child ≡ false → CallBreak i g c child (ports.Done g)

-- an assignment that drives a port of a component cell and stands in no plain group
abbrev pub IsOutside : Instance → Owned → Type 0
IsOutside i a =
    (is_part_port i a.assign.target ≡ true)
    × ((a.owner ≡ None) ⊎ ((g : ℕ) × (a.owner ≡ Some g) × (is_plain (group_at (part_of i) g).kind ≡ false)))

-- an assignment of a plain group that breaks a condition
pub record IsMisshapen (i : Instance) (a : Owned) : Type 0 where
  pub group : ℕ
  pub owner : a.owner ≡ Some group
  pub plain : is_plain (group_at (part_of i) group).kind ≡ true
  pub cell : ℕ
  pub calls : Calls i (assigns_of i group) cell
  pub breaks : CallBreak i group cell calls.child a.assign.target

abbrev pub BreaksCallShape : AssignRule
BreaksCallShape i a place name =
    (IsOutside i a ⊎ IsMisshapen i a) × Tells place name a.assign.place (path_of i a.assign.target)

-- a plain group that drives a port of a component cell, and its go or the group's done not at all
abbrev pub GroupBreaksCallShape : GroupRule
GroupBreaksCallShape i g place name =
    (is_plain (group_at (part_of i) g).kind ≡ true)
    × ((c : ℕ) × Calls i (assigns_of i g) c
    × ((some_target (same_port (go_port c)) (assigns_of i g) && some_target (is_hole_of g) (assigns_of i g)) ≡ false))
    × Tells place name (group_at (part_of i) g).place (group_at (part_of i) g).name
