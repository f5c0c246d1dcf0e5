-- The breaks of the rules that speak of what rests on state, as a list.
use Rattle.std.specs.Prelude.{ℕ, zero, suc, Bool, true, false, not, ◌⊎◌, List, [], ◌∷◌, ◌++◌, Option, Some, None, length, if◌then◌else◌}
use Rattle.std.specs.List.{list_all}
use Rattle.cx_text.specs.declared.places.Place.{Place}
use Rattle.cx_text.specs.declared.rules.Rule.{Rule}
use Rattle.cx_text.specs.declared.rules.Rule.TheVariants as rule
use Rattle.cx_meaning.specs.declared.ports.PortRef.{PortRef}
use Rattle.cx_meaning.specs.declared.ports.PortRef.TheVariants as ports
use Rattle.cx_meaning.specs.declared.ports.PlacedPort.{PlacedPort}
use Rattle.cx_meaning.specs.Designs.{PlainAssign, PlainDesign, component_at, group_at, PlainForm, Empty, Enable, Seq, Par, If, While, Repeat, StaticSeq, StaticPar, StaticIf, StaticRepeat, Timed}
use Rattle.cx_meaning.specs.Instances.{Instance, part_of}
use Rattle.cx_meaning.specs.Active.{Owned, source_order}
use Rattle.cx_rules.specs.Ports.{component_of, path_of}
use Rattle.cx_rules.specs.Items.{sources_of, Visited, statements_in}
use Rattle.cx_rules.specs.Spots.{AnAssign, AStatement, Spot, OnAssign, OnStatement}
use Rattle.cx_rules.specs.ShapeRules.{BreaksDoneNotState, BreaksStaticTest, BreaksOutputNotState, BreaksKept}
use Rattle.cx_design_parts.specs.Breaks.{Broken}
use Rattle.cx_design_parts.specs.Numbered.{numbered, counted}
use Rattle.cx_shape_state.specs.Resting.{rests_at}

-- THE FAMILY: the breaks of done-not-state and of output-not-state, and those of static-shape at the port of a static if
abbrev pub StateBreaks : PlainDesign → Rule → Spot → Place → List ℕ → Type 0
StateBreaks d rule.DoneNotState spot place name = OnAssign BreaksDoneNotState d spot place name
StateBreaks d rule.StaticShape spot place name = OnStatement BreaksStaticTest d spot place name
StateBreaks d rule.OutputNotState spot place name =
    OnAssign BreaksOutputNotState d spot place name ⊎ OnAssign BreaksKept d spot place name
StateBreaks d _ spot place name = ⊥

abbrev pub break_unless : Bool → Rule → Spot → Place → List ℕ → List Broken
break_unless b r spot place name = if b then [] else record { rule = r; spot = spot; place = place; name = name } ∷ []

-- whether all that an assignment names rests on state; where inputs do not, whether it also leads back to no signature input
abbrev pub all_rest : Instance → Bool → List PlacedPort → Bool
all_rest i inputs ps = list_all (λ p. rests_at i inputs p.port) ps

-- of an assignment of a group's done, and of one of a signature output
abbrev pub done_break : Instance → Spot → PlainAssign → ℕ → List Broken
done_break i spot a g =
    break_unless (all_rest i true (sources_of a)) rule.DoneNotState spot a.place
    (group_at (part_of i) g).name

abbrev pub output_break : Instance → Spot → PlainAssign → ℕ → List Broken
output_break i spot a n =
    break_unless (all_rest i false (sources_of a)) rule.OutputNotState spot a.place
    (path_of i (ports.Output n))

abbrev pub target_breaks : Instance → Spot → PlainAssign → PortRef → List Broken
target_breaks i spot a (ports.Cell c p) = []
target_breaks i spot a (ports.Input n) = []
target_breaks i spot a (ports.Output n) = output_break i spot a n
target_breaks i spot a (ports.Done g) = done_break i spot a g
target_breaks i spot a (ports.Literal w v) = []

-- a port that is a signature input
abbrev pub is_input : PortRef → Bool
is_input (ports.Cell c p) = false
is_input (ports.Input n) = true
is_input (ports.Output n) = false
is_input (ports.Done g) = false
is_input (ports.Literal w v) = false

-- none of a list of ports is a signature input
abbrev pub none_input : List PlacedPort → Bool
none_input ps = list_all (λ p. not (is_input p.port)) ps

-- by the latency of the component, the group in which an assignment stands, and what it names: a continuous assignment of a static
-- component names no signature input
abbrev pub is_kept : Option ℕ → Option ℕ → List PlacedPort → Bool
is_kept None owner ps = true
is_kept (Some latency) None ps = none_input ps
is_kept (Some latency) (Some g) ps = true

abbrev pub kept_breaks : Instance → Spot → Owned → List Broken
kept_breaks i spot a =
    break_unless
    (is_kept (part_of i).latency a.owner (sources_of a.assign)) rule.OutputNotState spot a.assign.place
    (path_of i a.assign.target)

abbrev pub assign_breaks : Instance → Spot → Owned → List Broken
assign_breaks i spot a = target_breaks i spot a.assign a.assign.target ++ kept_breaks i spot a

-- the port of a static if
abbrev pub static_test : PlainForm → Option PlacedPort
static_test Empty = None
static_test (Enable g) = None
static_test (Seq parts) = None
static_test (Par arms) = None
static_test (If test comb a b) = None
static_test (While test comb a) = None
static_test (Repeat count a) = None
static_test (StaticSeq length parts) = None
static_test (StaticPar length arms) = None
static_test (StaticIf length test a b) = Some test
static_test (StaticRepeat length count a) = None
static_test (Timed k) = None

abbrev pub test_breaks : Instance → Spot → Place → Option PlacedPort → List Broken
test_breaks i spot place None = []
test_breaks i spot place (Some p) = break_unless (rests_at i true p.port) rule.StaticShape spot place []

-- by the numbers of the parts of component k
abbrev pub assign_breaks_at : PlainDesign → ℕ → ℕ → Owned → List Broken
assign_breaks_at d k n a = assign_breaks (component_of d k) (record { component = k; part = AnAssign n }) a

abbrev pub test_breaks_at : PlainDesign → ℕ → ℕ → Visited → List Broken
test_breaks_at d k n v =
    test_breaks (component_of d k) (record { component = k; part = AStatement n }) v.place
    (static_test v.form)

abbrev pub component_breaks : PlainDesign → ℕ → List Broken
component_breaks d k =
    numbered (assign_breaks_at d k) 0 (source_order (component_at d k))
    ++ numbered (test_breaks_at d k) 0 (statements_in (component_at d k))

-- THE BREAKS of a design
abbrev pub state_breaks : PlainDesign → List Broken
state_breaks d = counted (component_breaks d) 0 (length d.components)
