-- The breaks of the rules on shapes of groups, guards and static control, as a list.
use Rattle.std.specs.Prelude.{◌≡◌, ℕ, zero, suc, nat_eq, ◌⊎◌, Bool, true, false, ◌&&◌, ◌||◌, not, is_none, List, [], ◌∷◌, ◌++◌, Option, Some, None, length}
use Rattle.cx_text.specs.declared.places.Place.{Place}
use Rattle.cx_text.specs.declared.rules.Rule.{Rule}
use Rattle.cx_text.specs.declared.rules.Rule.TheVariants as rules
use Rattle.cx_meaning.specs.Designs.{PlainGroup, PlainInvoke, PlainComponent, PlainDesign, PlainForm, Empty, Enable, Seq, Par, If, While, Repeat, StaticSeq, StaticPar, StaticIf, StaticRepeat, Timed, component_at, form_of, group_at}
use Rattle.cx_meaning.specs.Instances.{Instance, part_of}
use Rattle.cx_meaning.specs.Active.{Owned, source_order}
use Rattle.cx_meaning.specs.Islands.{kind_length}
use Rattle.cx_rules.specs.Ports.{component_of, is_primitive_enable, is_part_port, path_of}
use Rattle.cx_rules.specs.Items.{Range, ranges_of, InStatic, Visited, statements_in, is_plain, is_comb}
use Rattle.cx_rules.specs.StaticControl.{is_static, is_in_static, may_stand, is_timed, form_has_length, written_length}
use Rattle.cx_rules.specs.Invokes.{invoke_at, invoke_length, form_lasts}
use Rattle.cx_rules.specs.Spots.{Itself, AnAssign, AStatement, AGroup, Spot, OnAssign, OnStatement, OnGroup}
use Rattle.cx_rules.specs.ShapeRules.{is_hole, is_hole_of, some_target, owner_length, is_bad_range, enabled_name, BreaksNoDone, BreaksAlwaysEnable, BreaksCombEnable, BreaksStaticGuard, GroupBreaksStaticShape, BreaksStaticControl, BreaksLength, BreaksInvokeLength, BreaksPartLength}
use Rattle.cx_design_parts.specs.Breaks.{Broken}
use Rattle.cx_design_parts.specs.Numbered.{numbered, counted}

-- THE RULES that this list is of
abbrev pub ShapeFamily : PlainDesign → Rule → Spot → Place → List ℕ → Type 0
ShapeFamily d rule spot place name =
    ((rule ≡ rules.NoDone) × OnGroup BreaksNoDone d spot place name)
    ⊎ ((rule ≡ rules.StaticShape) × OnGroup GroupBreaksStaticShape d spot place name)
    ⊎ ((rule ≡ rules.AlwaysEnable) × OnAssign BreaksAlwaysEnable d spot place name)
    ⊎ ((rule ≡ rules.CombEnable) × OnAssign BreaksCombEnable d spot place name)
    ⊎ ((rule ≡ rules.StaticGuard) × OnAssign BreaksStaticGuard d spot place name)
    ⊎ ((rule ≡ rules.StaticShape) × OnStatement BreaksStaticControl d spot place name)
    ⊎ ((rule ≡ rules.StaticShape) × OnStatement BreaksLength d spot place name)
    ⊎ ((rule ≡ rules.StaticShape) × OnStatement BreaksInvokeLength d spot place name)
    ⊎ ((rule ≡ rules.StaticShape) × BreaksPartLength d spot place name)

-- one break, where it is one
abbrev pub told_if : Bool → Rule → Spot → Place → List ℕ → List Broken
told_if true rule spot place name = record { rule = rule; spot = spot; place = place; name = name } ∷ []
told_if false rule spot place name = []

-- GROUPS
abbrev pub lacks_done : ℕ → PlainGroup → Bool
lacks_done n g = is_plain g.kind && not (some_target (is_hole_of n) g.assigns)

abbrev pub is_bad_length : Option ℕ → Bool → Bool
is_bad_length None drives = false
is_bad_length (Some n) drives = drives || nat_eq n 0

abbrev pub is_bad_static : PlainGroup → Bool
is_bad_static g = is_bad_length (kind_length g.kind) (some_target is_hole g.assigns)

abbrev pub group_breaks : Spot → ℕ → PlainGroup → List Broken
group_breaks spot n g =
    told_if (lacks_done n g) rules.NoDone spot g.place g.name
    ++ told_if (is_bad_static g) rules.StaticShape spot g.place g.name

-- ASSIGNMENTS
abbrev pub is_always_enable : Instance → Owned → Bool
is_always_enable i a = is_none a.owner && is_primitive_enable i a.assign.target

abbrev pub is_owned_by_comb : PlainComponent → Option ℕ → Bool
is_owned_by_comb part None = false
is_owned_by_comb part (Some g) = is_comb (group_at part g).kind

abbrev pub is_comb_enable : Instance → Owned → Bool
is_comb_enable i a =
    is_owned_by_comb (part_of i) a.owner
    && (is_primitive_enable i a.assign.target || is_part_port i a.assign.target || is_hole a.assign.target)

abbrev pub some_bad : Option ℕ → List Range → Bool
some_bad length [] = false
some_bad length (r ∷ rs) = is_bad_range length r || some_bad length rs

abbrev pub is_bad_guard : Instance → Owned → Bool
is_bad_guard i a = some_bad (owner_length (part_of i) a.owner) (ranges_of a.assign.guard)

abbrev pub assign_break : Bool → Rule → Instance → Spot → Owned → List Broken
assign_break found rule i spot a = told_if found rule spot a.assign.place (path_of i a.assign.target)

abbrev pub assign_breaks : Instance → Spot → Owned → List Broken
assign_breaks i spot a =
    assign_break (is_always_enable i a) rules.AlwaysEnable i spot a
    ++ assign_break (is_comb_enable i a) rules.CombEnable i spot a
    ++ assign_break (is_bad_guard i a) rules.StaticGuard i spot a

-- STATEMENTS
abbrev pub is_amiss : PlainComponent → Visited → Bool
is_amiss part v = is_in_static v.context && not (may_stand part v.context v.form)

abbrev pub is_other : Option ℕ → ℕ → Bool
is_other None cycles = false
is_other (Some n) cycles = not (nat_eq n cycles)

-- of a length that is written, where it is, and the length
abbrev pub is_wrong : Option ℕ → ℕ → Bool
is_wrong written cycles = is_other written cycles || nat_eq cycles 0

abbrev pub has_wrong_length : PlainComponent → Visited → Bool
has_wrong_length part v =
    is_static v.form && form_has_length part v.context v.form
    && is_wrong (written_length v.form) (form_lasts part v.form)

-- of a static invoke
abbrev pub is_wrong_invoke : Option PlainInvoke → Bool
is_wrong_invoke None = false
is_wrong_invoke (Some w) = is_timed (Some w) && is_wrong w.length (invoke_length (Some w))

abbrev pub has_wrong_invoke : PlainComponent → PlainForm → Bool
has_wrong_invoke part Empty = false
has_wrong_invoke part (Enable g) = false
has_wrong_invoke part (Seq parts) = false
has_wrong_invoke part (Par arms) = false
has_wrong_invoke part (If test comb a b) = false
has_wrong_invoke part (While test comb a) = false
has_wrong_invoke part (Repeat count a) = false
has_wrong_invoke part (StaticSeq length parts) = false
has_wrong_invoke part (StaticPar length arms) = false
has_wrong_invoke part (StaticIf length test a b) = false
has_wrong_invoke part (StaticRepeat length count a) = false
has_wrong_invoke part (Timed k) = is_wrong_invoke (invoke_at part k)

abbrev pub statement_breaks : PlainComponent → Spot → Visited → List Broken
statement_breaks part spot v =
    told_if (is_amiss part v) rules.StaticShape spot v.place (enabled_name part v.form)
    ++ told_if (has_wrong_length part v) rules.StaticShape spot v.place []
    ++ told_if (has_wrong_invoke part v.form) rules.StaticShape spot v.place []

-- COMPONENTS
abbrev pub is_wrong_control : PlainComponent → Option ℕ → Bool
is_wrong_control part None = false
is_wrong_control part (Some latency) =
    not (may_stand part InStatic (form_of part.control))
    || (form_has_length part InStatic (form_of part.control) &&
    is_other (Some latency) (form_lasts part (form_of part.control)))

abbrev pub has_wrong_control : PlainComponent → Bool
has_wrong_control part = is_wrong_control part part.latency

abbrev pub control_breaks : Spot → PlainComponent → List Broken
control_breaks spot part = told_if (has_wrong_control part) rules.StaticShape spot part.place part.name

-- by the numbers of the parts of component k
abbrev pub group_breaks_at : ℕ → ℕ → PlainGroup → List Broken
group_breaks_at k n g = group_breaks (record { component = k; part = AGroup n }) n g

abbrev pub assign_breaks_at : PlainDesign → ℕ → ℕ → Owned → List Broken
assign_breaks_at d k n a = assign_breaks (component_of d k) (record { component = k; part = AnAssign n }) a

abbrev pub statement_breaks_at : PlainDesign → ℕ → ℕ → Visited → List Broken
statement_breaks_at d k n v = statement_breaks (component_at d k) (record { component = k; part = AStatement n }) v

abbrev pub groups_breaks : PlainDesign → ℕ → List Broken
groups_breaks d k = numbered (group_breaks_at k) 0 (component_at d k).groups

abbrev pub assigns_breaks : PlainDesign → ℕ → List Broken
assigns_breaks d k = numbered (assign_breaks_at d k) 0 (source_order (component_at d k))

abbrev pub statements_breaks : PlainDesign → ℕ → List Broken
statements_breaks d k = numbered (statement_breaks_at d k) 0 (statements_in (component_at d k))

abbrev pub parts_breaks : PlainDesign → ℕ → List Broken
parts_breaks d k = groups_breaks d k ++ assigns_breaks d k ++ statements_breaks d k

abbrev pub control_breaks_at : PlainDesign → ℕ → List Broken
control_breaks_at d k = control_breaks (record { component = k; part = Itself 0 }) (component_at d k)

abbrev pub component_breaks : PlainDesign → ℕ → List Broken
component_breaks d k = parts_breaks d k ++ control_breaks_at d k

-- THE BREAKS of a design
abbrev pub shape_breaks : PlainDesign → List Broken
shape_breaks d = counted (component_breaks d) 0 (length d.components)
