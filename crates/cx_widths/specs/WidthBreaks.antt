-- The breaks of the rules on widths, literals, targets and sources, as a list.
use Rattle.std.specs.Prelude.{ℕ, zero, suc, Bool, false, not, List, [], ◌∷◌, ◌++◌, Option, Some, None, flat_map, length, if◌then◌else◌}
use Rattle.cx_text.specs.declared.places.Place.{Place}
use Rattle.cx_text.specs.declared.rules.Rule.{Rule}
use Rattle.cx_text.specs.declared.rules.Rule.TheVariants as rule
use Rattle.cx_meaning.specs.declared.ports.PortRef.{PortRef}
use Rattle.cx_meaning.specs.declared.ports.PortRef.TheVariants as ports
use Rattle.cx_meaning.specs.declared.ports.PlacedPort.{PlacedPort}
use Rattle.cx_meaning.specs.Designs.{PlainAssign, PlainDesign, component_at}
use Rattle.cx_meaning.specs.Instances.{Instance}
use Rattle.cx_meaning.specs.Active.{Owned, source_order}
use Rattle.cx_rules.specs.Ports.{component_of, keeps_literal, is_source_only, is_target_only, path_of}
use Rattle.cx_rules.specs.Items.{operands_of, atoms_of, Visited, statements_in, test_in}
use Rattle.cx_rules.specs.Spots.{ABind, AnAssign, AStatement, Spot, binds_in}
use Rattle.cx_rules.specs.WidthRules.{pairs_of, first_unequal, first_wide, is_wide}
use Rattle.cx_design_parts.specs.Breaks.{Broken}
use Rattle.cx_design_parts.specs.Numbered.{numbered, counted}

-- a break that is told of a port, where there is one
abbrev pub told_port : Rule → Instance → Spot → Place → Option PortRef → List Broken
told_port r i spot place None = []
told_port r i spot place (Some port) = record { rule = r; spot = spot; place = place; name = path_of i port } ∷ []

abbrev pub port_if : Bool → PortRef → Option PortRef
port_if b port = if b then Some port else None

-- a literal that is none of 1 to 128 bits which its value fits
abbrev pub is_bad : PortRef → Bool
is_bad (ports.Cell c p) = false
is_bad (ports.Input n) = false
is_bad (ports.Output n) = false
is_bad (ports.Done g) = false
is_bad (ports.Literal w v) = not (keeps_literal w v)

abbrev pub literal_break : Spot → PlacedPort → List Broken
literal_break spot p =
    if is_bad p.port then record { rule = rule.Literal; spot = spot; place = p.place; name = [] } ∷ []
    else []

abbrev pub source_break : Instance → Spot → PlacedPort → List Broken
source_break i spot p = told_port rule.NotASource i spot p.place (port_if (is_target_only i p.port) p.port)

abbrev pub target_break : Instance → Spot → PlainAssign → List Broken
target_break i spot a = told_port rule.NotATarget i spot a.place (port_if (is_source_only i a.target) a.target)

-- of a source, an operand of a guard, or a condition
abbrev pub operand_breaks : Instance → Spot → PlacedPort → List Broken
operand_breaks i spot p = literal_break spot p ++ source_break i spot p

-- of an assignment, or of an input that a static invoke binds
abbrev pub assign_breaks : Instance → Spot → PlainAssign → List Broken
assign_breaks i spot a =
    told_port rule.Width i spot a.place (first_unequal i (pairs_of a))
    ++ told_port rule.GuardWidth i spot a.place (first_wide i (atoms_of a.guard))
    ++ target_break i spot a
    ++ operand_breaks i spot a.source
    ++ flat_map (operand_breaks i spot) (operands_of a.guard)

-- of the condition of a statement
abbrev pub condition_breaks : Instance → Spot → Place → PlacedPort → List Broken
condition_breaks i spot place p =
    told_port rule.GuardWidth i spot place (port_if (is_wide i p.port) p.port) ++ operand_breaks i spot p

abbrev pub test_breaks : Instance → Spot → Place → Option PlacedPort → List Broken
test_breaks i spot place None = []
test_breaks i spot place (Some p) = condition_breaks i spot place p

-- by the numbers of the parts of component k
abbrev pub assign_breaks_at : PlainDesign → ℕ → ℕ → Owned → List Broken
assign_breaks_at d k n a = assign_breaks (component_of d k) (record { component = k; part = AnAssign n }) a.assign

abbrev pub condition_breaks_at : PlainDesign → ℕ → ℕ → Visited → List Broken
condition_breaks_at d k n v =
    test_breaks (component_of d k) (record { component = k; part = AStatement n }) v.place (test_in v.form)

abbrev pub bind_breaks_at : PlainDesign → ℕ → ℕ → PlainAssign → List Broken
bind_breaks_at d k n a = assign_breaks (component_of d k) (record { component = k; part = ABind n }) a

abbrev pub assigns_breaks : PlainDesign → ℕ → List Broken
assigns_breaks d k = numbered (assign_breaks_at d k) 0 (source_order (component_at d k))

abbrev pub conditions_breaks : PlainDesign → ℕ → List Broken
conditions_breaks d k = numbered (condition_breaks_at d k) 0 (statements_in (component_at d k))

abbrev pub binds_breaks : PlainDesign → ℕ → List Broken
binds_breaks d k = numbered (bind_breaks_at d k) 0 (binds_in (component_at d k))

abbrev pub component_breaks : PlainDesign → ℕ → List Broken
component_breaks d k = assigns_breaks d k ++ conditions_breaks d k ++ binds_breaks d k

-- THE BREAKS of a design
abbrev pub width_breaks : PlainDesign → List Broken
width_breaks d = counted (component_breaks d) 0 (length d.components)
