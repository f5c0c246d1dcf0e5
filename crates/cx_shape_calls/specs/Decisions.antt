-- Whether an assignment or a group breaks the rule, by what is kept of the groups of its component.
use Rattle.std.specs.Prelude.{◌≡◌, ℕ, ◌<◌, nat_eq, Bool, false, ◌&&◌, ◌||◌, not, List, [], ◌∷◌, ◌++◌, Option, Some, None, map, slice_get, if◌then◌else◌}
use Rattle.std.specs.List.{list_any}
use Rattle.cx_text.specs.declared.places.Place.{Place}
use Rattle.cx_text.specs.declared.rules.Rule.TheVariants as rules
use Rattle.cx_meaning.specs.declared.ports.PortRef.{PortRef}
use Rattle.cx_meaning.specs.declared.ports.PortRef.TheVariants as ports
use Rattle.cx_meaning.specs.Designs.{PlainAssign, PlainGroup, PlainComponent, PlainDesign, component_at, group_at}
use Rattle.cx_meaning.specs.Instances.{Instance, part_of}
use Rattle.cx_meaning.specs.Active.{Owned, source_order, port_number, cell_number}
use Rattle.cx_meaning.specs.Sights.{PartPort, Go, AnInput, AnOutput, ItsDone, part_port}
use Rattle.cx_rules.specs.Ports.{component_of, is_part_port, is_primitive_enable, path_of}
use Rattle.cx_rules.specs.ShapeRules.{is_hole_of}
use Rattle.cx_rules.specs.CallShape.{is_register_enable, is_right_enable, is_right_go}
use Rattle.cx_rules.specs.InvokeShape.{is_static_port}
use Rattle.cx_rules.specs.Spots.{AnAssign, AGroup, Spot}
use Rattle.cx_design_parts.specs.Breaks.{Broken}
use Rattle.cx_design_parts.specs.Numbered.{numbered}
use Rattle.cx_callees.specs.Callees.{PlainCallee, plain_callee, done_of, callee_of}
use Rattle.cx_shape_calls.specs.Forms.{times, is_calling, IsFormOf}
use Rattle.cx_shape_calls.specs.Inputs.{AreDependent}
use Rattle.cx_shape_calls.specs.declared.groups.GroupShape.{GroupShape}

abbrev pub calls_other : List PlainCallee → ℕ → Bool
calls_other called c = list_any (λ k. not (nat_eq k.cell c)) called

-- the assignment does not enable a captured register for each of the called cells
abbrev pub wrong_enable_of : PlainComponent → List PlainCallee → (ℕ → ℕ → ℕ) → PlainAssign → PortRef → Bool
wrong_enable_of part called driven a t =
    list_any (λ k. not ((is_register_enable part t && nat_eq (driven (cell_number t) (port_number t)) 1)
    && is_right_enable (done_of k) (a ∷ []))) called

-- by what is kept of the group: the called cells, how often ports are driven, which inputs depend on an output, and whether the
-- done is wrong
abbrev pub wrong_port : (ℕ → ℕ → ℕ) → (ℕ → ℕ → ℕ) → PlainAssign → PlainCallee → ℕ → PartPort → Bool
wrong_port driven dependent a k p Go = not (nat_eq (driven k.cell 0) 1 && is_right_go (done_of k) (a ∷ []))
wrong_port driven dependent a k p (AnInput n) = not (nat_eq (dependent k.cell p) 0)
wrong_port driven dependent a k p (AnOutput n) = false
wrong_port driven dependent a k p ItsDone = false

abbrev pub wrong_bare : Instance → ℕ → List PlainCallee → (ℕ → ℕ → ℕ) → Bool → PlainAssign → PortRef → Bool
wrong_bare i g called driven wrong_done a t =
    if is_primitive_enable i t then wrong_enable_of (part_of i) called driven a t
    else (is_hole_of g t && wrong_done)

module _ (i : Instance) (g : ℕ) (called : List PlainCallee) (driven dependent : ℕ → ℕ → ℕ)
    (wrong_done : Bool) (a : PlainAssign) where
  abbrev pub wrong_for : Option PlainCallee → PortRef → Bool
  wrong_for None t = wrong_bare i g called driven wrong_done a t
  wrong_for (Some k) t =
      calls_other called k.cell
      || wrong_port driven dependent a k (port_number t) (part_port k.part (port_number t))

  -- the assignment, whose target is this port, breaks a condition
  abbrev pub is_wrong : PortRef → Bool
  is_wrong t = wrong_for (callee_of i t) t

abbrev pub is_wrong_by : Instance → ℕ → PlainAssign → Option GroupShape → Bool
is_wrong_by i g a None = is_part_port i a.target
is_wrong_by i g a (Some s) =
    is_wrong i g (map plain_callee s.form.called.items) (times s.form.driven)
    (times s.dependent) s.form.wrong_done a a.target

abbrev pub or_none : Option (Option GroupShape) → Option GroupShape
or_none None = None
or_none (Some s) = s

abbrev pub shape_at : List (Option GroupShape) → ℕ → Option GroupShape
shape_at shapes g = or_none (slice_get shapes g)

abbrev pub is_wrong_in : Instance → List (Option GroupShape) → Option ℕ → PlainAssign → Bool
is_wrong_in i shapes None a = is_part_port i a.target
is_wrong_in i shapes (Some g) a = is_wrong_by i g a (shape_at shapes g)

abbrev pub lacks_by : Option GroupShape → Bool
lacks_by None = false
lacks_by (Some s) = s.form.lacks

-- THE BREAKS of a component
abbrev pub told_if : Bool → Spot → Place → List ℕ → List Broken
told_if b spot place name =
    if b then record { rule = rules.CallShape; spot = spot; place = place; name = name } ∷ [] else []

-- an assignment drives a port of a cell of a static component, or is wrong where it stands
abbrev pub is_refused : Instance → List (Option GroupShape) → Owned → Bool
is_refused i shapes a = is_static_port i a.assign.target || is_wrong_in i shapes a.owner a.assign

abbrev pub assign_breaks : Instance → List (Option GroupShape) → Spot → Owned → List Broken
assign_breaks i shapes spot a = told_if (is_refused i shapes a) spot a.assign.place (path_of i a.assign.target)

abbrev pub assign_breaks_at : PlainDesign → ℕ → List (Option GroupShape) → ℕ → Owned → List Broken
assign_breaks_at d k shapes n a =
    assign_breaks (component_of d k) shapes (record { component = k; part = AnAssign n }) a

abbrev pub group_breaks_at : ℕ → List (Option GroupShape) → ℕ → PlainGroup → List Broken
group_breaks_at k shapes g group =
    told_if (lacks_by (shape_at shapes g))
    (record { component = k; part = AGroup g }) group.place group.name

abbrev pub component_breaks : PlainDesign → ℕ → List (Option GroupShape) → List Broken
component_breaks d k shapes =
    numbered (assign_breaks_at d k shapes) 0 (source_order (component_at d k))
    ++ numbered (group_breaks_at k shapes) 0 (component_at d k).groups

-- WHAT IS KEPT of a group, and of the groups before a number
abbrev pub IsShapeOf : Instance → ℕ → PlainGroup → Option GroupShape → Type 0
IsShapeOf i g group None = is_calling i group ≡ false
IsShapeOf i g group (Some s) = IsFormOf i g group s.form × AreDependent i g group.assigns (times s.dependent)

abbrev pub AreShapesOf : Instance → ℕ → List (Option GroupShape) → Type 0
AreShapesOf i count shapes =
    (g : ℕ) → g < count
    → (s : Option GroupShape) × (slice_get shapes g ≡ Some s) × IsShapeOf i g (group_at (part_of i) g) s
