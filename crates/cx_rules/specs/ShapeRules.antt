-- Stage 4: shapes of groups, guards, static control and outputs. Calls stand in CallShape.
use Rattle.std.specs.Prelude.{◌≡◌, ◌≢◌, ℕ, ◌<◌, nat_eq, nat_lt, ◌⊎◌, Bool, true, false, ◌||◌, not, List, [], ◌∷◌, Option, Some, None, length}
use Rattle.cx_text.specs.declared.places.Place.{Place}
use Rattle.cx_meaning.specs.declared.ports.PortRef.{PortRef}
use Rattle.cx_meaning.specs.declared.ports.PortRef.TheVariants as ports
use Rattle.cx_meaning.specs.declared.ports.PlacedPort.{PlacedPort}
use Rattle.cx_meaning.specs.Designs.{PlainAssign, PlainInvoke, PlainComponent, PlainDesign, component_at, form_of, group_at, PlainForm, Empty, Enable, Seq, Par, If, While, Repeat, StaticSeq, StaticPar, StaticIf, StaticRepeat, Timed, PlainStatement}
use Rattle.cx_meaning.specs.Instances.{Instance, part_of}
use Rattle.cx_meaning.specs.Active.{nothing}
use Rattle.cx_text.specs.Members.{In}
use Rattle.cx_meaning.specs.Islands.{group_length}
use Rattle.cx_rules.specs.Ports.{is_primitive_enable, is_part_port, path_of}
use Rattle.cx_rules.specs.Items.{Range, ranges_of, is_plain, is_comb, InStatic}
use Rattle.cx_rules.specs.Footprints.{AssignNames, Rests, Depends}
use Rattle.cx_rules.specs.StaticControl.{is_static, is_in_static, may_stand, is_timed, form_has_length, has_length, written_length}
use Rattle.cx_rules.specs.Invokes.{invoke_at, invoke_length, form_lasts, lasts}
use Rattle.cx_rules.specs.Spots.{Itself, Spot, Tells, AssignRule, StatementRule, GroupRule}

abbrev pub is_hole : PortRef → Bool
is_hole (ports.Cell c p) = false
is_hole (ports.Input n) = false
is_hole (ports.Output n) = false
is_hole (ports.Done g) = true
is_hole (ports.Literal w v) = false

abbrev pub is_hole_of : ℕ → PortRef → Bool
is_hole_of g (ports.Cell c p) = false
is_hole_of g (ports.Input n) = false
is_hole_of g (ports.Output n) = false
is_hole_of g (ports.Done h) = nat_eq h g
is_hole_of g (ports.Literal w v) = false

abbrev pub some_target : (PortRef → Bool) → List PlainAssign → Bool
some_target test [] = false
some_target test (a ∷ rest) = test a.target || some_target test rest

-- RULE no-done: a plain group has no assignment of its done
abbrev pub BreaksNoDone : GroupRule
BreaksNoDone i g place name =
    (is_plain (group_at (part_of i) g).kind ≡ true)
    × (some_target (is_hole_of g) (group_at (part_of i) g).assigns ≡ false)
    × Tells place name (group_at (part_of i) g).place (group_at (part_of i) g).name

-- RULE done-not-state: a port that a done assignment names does not rest on state, in a group of any kind
abbrev pub BreaksDoneNotState : AssignRule
BreaksDoneNotState i a place name =
    (g : ℕ) × (a.assign.target ≡ ports.Done g) × ((q : PortRef) × AssignNames a.assign q × (Rests i q → ⊥))
    × Tells place name a.assign.place (group_at (part_of i) g).name

-- RULE always-enable: a continuous assignment drives an enabling port of a primitive cell
abbrev pub BreaksAlwaysEnable : AssignRule
BreaksAlwaysEnable i a place name =
    (a.owner ≡ None) × (is_primitive_enable i a.assign.target ≡ true)
    × Tells place name a.assign.place (path_of i a.assign.target)

-- RULE comb-enable: a comb group drives an enabling port, a port of a component cell, or a done
abbrev pub BreaksCombEnable : AssignRule
BreaksCombEnable i a place name =
    (g : ℕ) × (a.owner ≡ Some g) × (is_comb (group_at (part_of i) g).kind ≡ true)
    × ((is_primitive_enable i a.assign.target || is_part_port i a.assign.target || is_hole a.assign.target) ≡ true)
    × Tells place name a.assign.place (path_of i a.assign.target)

-- the length of the static group in which an assignment stands, if it stands in one
abbrev pub owner_length : PlainComponent → Option ℕ → Option ℕ
owner_length part None = None
owner_length part (Some g) = group_length part g

abbrev pub is_bad_range : Option ℕ → Range → Bool
is_bad_range None r = true
is_bad_range (Some n) r = not (nat_lt r.from r.to) || nat_lt n r.to

-- RULE static-guard: % stands outside a static group, or its range is empty or goes past the group's length
abbrev pub BreaksStaticGuard : AssignRule
BreaksStaticGuard i a place name =
    (r : Range) × In (ranges_of a.assign.guard) r × (is_bad_range (owner_length (part_of i) a.owner) r ≡ true)
    × Tells place name a.assign.place (path_of i a.assign.target)

-- RULE static-shape: a static group that drives a done, or one of length 0
abbrev pub GroupBreaksStaticShape : GroupRule
GroupBreaksStaticShape i g place name =
    (n : ℕ) × (group_length (part_of i) g ≡ Some n)
    × ((some_target is_hole (group_at (part_of i) g).assigns || nat_eq n 0) ≡ true)
    × Tells place name (group_at (part_of i) g).place (group_at (part_of i) g).name

-- the name of the group that a statement enables, or none
abbrev pub enabled_name : PlainComponent → PlainForm → List ℕ
enabled_name part Empty = []
enabled_name part (Enable g) = (group_at part g).name
enabled_name part (Seq parts) = []
enabled_name part (Par arms) = []
enabled_name part (If test comb a b) = []
enabled_name part (While test comb a) = []
enabled_name part (Repeat count a) = []
enabled_name part (StaticSeq length parts) = []
enabled_name part (StaticPar length arms) = []
enabled_name part (StaticIf length test a b) = []
enabled_name part (StaticRepeat length count a) = []
enabled_name part (Timed k) = []

-- a statement in static control that may not stand there
abbrev pub BreaksStaticControl : StatementRule
BreaksStaticControl i v place name =
    (is_in_static v.context ≡ true) × (may_stand (part_of i) v.context v.form ≡ false)
    × Tells place name v.place (enabled_name (part_of i) v.form)

-- a static statement whose written length is not its length, or whose length is 0. One that holds what may not stand in
-- static control has no length
abbrev pub BreaksLength : StatementRule
BreaksLength i v place name =
    (is_static v.form ≡ true) × (form_has_length (part_of i) v.context v.form ≡ true)
    × (((n : ℕ) × (written_length v.form ≡ Some n) × (n ≢ form_lasts (part_of i) v.form)) ⊎
    (form_lasts (part_of i) v.form ≡ 0))
    × Tells place name v.place []

-- a static invoke of a static component, at which the word static stands: its written length is not its length, or its length is 0
abbrev pub BreaksInvokeLength : StatementRule
BreaksInvokeLength i v place name =
    (k : ℕ) × (w : PlainInvoke) × (v.form ≡ Timed k) × (invoke_at (part_of i) k ≡ Some w) × (is_timed (Some w) ≡ true)
    × (((n : ℕ) × (w.length ≡ Some n) × (n ≢ invoke_length (Some w))) ⊎ (invoke_length (Some w) ≡ 0))
    × Tells place name v.place []

-- the control of a static component: not one static statement or enable of a static group; or one of another length than the component's
abbrev pub IsWrongControl : PlainComponent → ℕ → Type 0
IsWrongControl part latency =
    (may_stand part InStatic (form_of part.control) ≡ false)
    ⊎ ((has_length part InStatic part.control ≡ true) × (lasts part part.control ≢ latency))

pub record BreaksPartLength (d : PlainDesign) (spot : Spot) (place : Place) (name : List ℕ) : Type 0 where
  pub within : spot.component < length d.components
  pub is : spot.part ≡ Itself 0
  pub latency : ℕ
  pub static : (component_at d spot.component).latency ≡ Some latency
  pub control : IsWrongControl (component_at d spot.component) latency
  pub tells : Tells place name (component_at d spot.component).place (component_at d spot.component).name

-- a static if whose port does not rest on state
abbrev pub BreaksStaticTest : StatementRule
BreaksStaticTest i v place name =
    (length : Option ℕ) × (test : PlacedPort) × (a b : PlainStatement)
    × (v.form ≡ StaticIf length test a b) × (Rests i test.port → ⊥)
    × Tells place name v.place []

-- RULE output-not-state: a port that an assignment of a signature output names does not rest on state, or leads back to
-- a signature input
abbrev pub LeadsToInput : Instance → PortRef → Type 0
LeadsToInput i q = (n : ℕ) × ((q ≡ ports.Input n) ⊎ Depends i nothing q (ports.Input n))

abbrev pub BreaksOutputNotState : AssignRule
BreaksOutputNotState i a place name =
    (n : ℕ) × (a.assign.target ≡ ports.Output n)
    × ((q : PortRef) × AssignNames a.assign q × ((Rests i q → ⊥) ⊎ LeadsToInput i q))
    × Tells place name a.assign.place (path_of i a.assign.target)

-- and in a static component, whose continuous assignments make the same of its state whoever runs it: a continuous assignment names
-- a signature input
abbrev pub BreaksKept : AssignRule
BreaksKept i a place name =
    (latency : ℕ) × ((part_of i).latency ≡ Some latency) × (a.owner ≡ None)
    × ((n : ℕ) × AssignNames a.assign (ports.Input n))
    × Tells place name a.assign.place (path_of i a.assign.target)
