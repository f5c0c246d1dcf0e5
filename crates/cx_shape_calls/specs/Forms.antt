-- The forms of a group's assignments, by the cells that they call.
use Rattle.std.specs.Prelude.{◌≡◌, ℕ, nat_eq, Bool, true, false, ◌&&◌, not, List, [], ◌∷◌, Option, Some, None, length, map, filter, unwrap_or, if◌then◌else◌}
use Rattle.std.specs.List.{list_any}
use Rattle.std.specs.HashMap.{get, HashMap}
use Rattle.std.specs.BTreeSet.{insert_key}
use Rattle.std.specs.Ordering.{nat_cmp}
use Rattle.cx_meaning.specs.declared.ports.PortRef.{PortRef}
use Rattle.cx_meaning.specs.declared.ports.PortRef.TheVariants as ports
use Rattle.cx_meaning.specs.Designs.{PlainGuard, Always, Atom, Negation, All, Any, Compared, Within, PlainGuards, no_guards, a_guard, PlainAssign, PlainComponent, PlainGroup}
use Rattle.cx_meaning.specs.Instances.{Instance, part_of}
use Rattle.cx_meaning.specs.Active.{same_port}
use Rattle.cx_rules.specs.Items.{is_plain}
use Rattle.cx_rules.specs.ShapeRules.{is_hole_of, some_target}
use Rattle.cx_rules.specs.CallShape.{go_port, is_register, captured, with_target, wanted_dones, is_right_done}
use Rattle.cx_shape_calls.specs.declared.forms.CallForm.{CallForm}
use Rattle.cx_callees.specs.Callees.{PlainCallee, plain_callee, done_of, called_of}

-- a guard that is a port or a conjunction of such, in any nesting
abbrev mutual
  pub is_conjunction : PlainGuard → Bool
  is_conjunction Always = false
  is_conjunction (Atom p) = true
  is_conjunction (Negation g) = false
  is_conjunction (All gs) = are_conjunctions gs
  is_conjunction (Any gs) = false
  is_conjunction (Compared c a b) = false
  is_conjunction (Within from to) = false

  pub are_conjunctions : PlainGuards → Bool
  are_conjunctions no_guards = true
  are_conjunctions (a_guard g gs) = is_conjunction g && are_conjunctions gs

-- how often a map counts a port of a cell
abbrev pub pair_eq : ℕ × ℕ → ℕ × ℕ → Bool
pair_eq a b = nat_eq a.0 b.0 && nat_eq a.1 b.1

abbrev pub times : {S : Type 0} → HashMap (ℕ × ℕ) ℕ S → ℕ → ℕ → ℕ
times tally c p = unwrap_or (get pair_eq tally (c, p)) 0

-- how often a port stands in a list
abbrev pub count_of : PortRef → List PortRef → ℕ
count_of port ports = length (filter (λ q. same_port q port) ports)

-- the std_reg whose write_en a port is
abbrev pub register_of : PlainComponent → PortRef → Option ℕ
register_of part (ports.Cell r p) = if is_register part r && nat_eq p 1 then Some r else None
register_of part (ports.Input n) = None
register_of part (ports.Output n) = None
register_of part (ports.Done g) = None
register_of part (ports.Literal w v) = None

-- the registers of the targets of assignments, ascending, each once
abbrev pub with_register : List ℕ → Option ℕ → List ℕ
with_register found None = found
with_register found (Some r) = insert_key nat_cmp found r

abbrev pub registers_in : PlainComponent → List ℕ → List PlainAssign → List ℕ
registers_in part found [] = found
registers_in part found (a ∷ rest) = registers_in part (with_register found (register_of part a.target)) rest

-- the done is not as said for one of the called cells
abbrev pub is_wrong_done : List PlainCallee → List ℕ → List PlainAssign → Bool
is_wrong_done called registers dones =
    list_any (λ k. not (is_right_done (wanted_dones (done_of k) registers) dones)) called

-- the go of a called cell, or the done of the group, is not driven
abbrev pub lacks_go_or_done : List PlainCallee → ℕ → List PlainAssign → Bool
lacks_go_or_done called g assigns =
    list_any (λ k.
    not (some_target (same_port (go_port k.cell)) assigns && some_target (is_hole_of g) assigns)) called

abbrev pub is_none : List PlainCallee → Bool
is_none [] = true
is_none (k ∷ ks) = false

-- a plain group that drives a port of a component cell
abbrev pub is_calling : Instance → PlainGroup → Bool
is_calling i group = is_plain group.kind && not (is_none (called_of i group.assigns))

-- WHAT IS KEPT of a group that calls
pub record IsFormOf (i : Instance) (g : ℕ) (group : PlainGroup) (form : CallForm) : Type 0 where
  pub calling : is_calling i group ≡ true
  pub called : map plain_callee form.called.items ≡ called_of i group.assigns
  pub driven : (c p : ℕ) → times form.driven c p ≡ length (with_target (ports.Cell c p) group.assigns)
  pub wrong_done : form.wrong_done ≡ is_wrong_done (called_of i group.assigns)
      (captured (part_of i) group.assigns) (with_target (ports.Done g) group.assigns)
  pub lacks : form.lacks ≡ lacks_go_or_done (called_of i group.assigns) g group.assigns

abbrev pub IsForm : Instance → ℕ → PlainGroup → Option CallForm → Type 0
IsForm i g group None = is_calling i group ≡ false
IsForm i g group (Some form) = IsFormOf i g group form
