-- THE CONTROL OF EVERY INSTANCE does what it means, by the tree of instances, where its islands do.
use Rattle.std.proofs.Common.{◌≡◌, ℕ, zero, suc, inl, Bool, true, [], ◌∷◌, Option, Some, None, length, if◌then◌else◌, refl, sym, ap, ◌∙◌, subst}
use Rattle.std.specs.Prelude.{◌++◌, is_some}
use Rattle.cx_text.specs.Members.{In}
use Rattle.cx_text.specs.declared.places.Place.{Place}
use Rattle.cx_meaning.specs.declared.ports.PlacedPort.{PlacedPort}
use Rattle.cx_meaning.specs.declared.kinds.GroupKind.{GroupKind}
use Rattle.cx_meaning.specs.declared.kinds.GroupKind.TheVariants as kinds
use Rattle.cx_meaning.specs.Designs.{PlainComponent, PlainForm, Empty, Enable, Seq, Par, If, While, Repeat, StaticSeq, StaticPar, StaticIf, StaticRepeat, Timed, PlainStatement, Placed, group_at, list_of}
use Rattle.cx_meaning.specs.Instances.{Instance, Node, Cells, no_cells, a_primitive, an_instance, OfInstance, cell_at, part_of, Path, State, instance_at, child_at}
use Rattle.cx_meaning.specs.Sights.{Held}
use Rattle.cx_meaning.specs.Control.{drives, groups_of, run}
use Rattle.cx_meaning.specs.Islands.{island, kind_length}
use Rattle.cx_meaning.specs.Calls.{called, captures, call_or_turns, enable_kind, test}
use Rattle.cx_meaning.specs.Running.{leaves, control_below, run_control}
use Rattle.cx_rules.specs.Items.{Dynamic, visit, test_in}
use Rattle.cx_rules.specs.Footprints.{Reads}
use Rattle.cx_rules.specs.StaticControl.{is_static, is_island_form}
use Rattle.cx_frames.proofs.LeafFrames.{test_alike}
use Rattle.cx_frames.proofs.StatementFrames.{through, good, IsReady, ready}
use Rattle.cx_lockstep.specs.Worlds.{Agree}
use Rattle.cx_lockstep.specs.Doing.{Does}
use Rattle.cx_lockstep.specs.Statements.{machine_of}
use Rattle.cx_lockstep.specs.Lawful.{IsLeaf, enable, static_seq, static_par, static_if, static_repeat, AreLawful}
use Rattle.cx_lockstep.proofs.PartLaws.{does_within}
use Rattle.cx_lockstep.proofs.StatementLaws.{statement_does}
use Rattle.cx_control.specs.StatementCodingLaws.{IsRegion, AreCoded, statement_coded}
use Rattle.cx_control.specs.Spots.{Spot, Kept, cells_in, held_in, shown, spots_of, reads_spot}
use Rattle.cx_control.specs.Numbers.{number_idle_at, world_of, Rests}
use Rattle.cx_control.specs.Leaves.{Coded, island_machine, called_machine, kind_machine, leaf_machines}
use Rattle.cx_control.specs.Controls.{leaf_codings, coded_control, coded_below, end_of}
use Rattle.cx_control.specs.InstanceRules.{InstanceRules, Stands}
use Rattle.cx_control.specs.ControlRules.{ControlRules}
use Rattle.cx_control.proofs.ControlCodes.{island_coded, kind_coded}
use Rattle.cx_control.proofs.RestLaws.{rest_is_kept}
use Rattle.cx_control.proofs.StandLaws.{parts_stand, part_drives, part_reads, spots_wider, reads_wider, are_apart, merge_is_shown}
use Rattle.cx_control.proofs.GroupLaws.{spots_within, near_inputs, near_cells, group_leaf}
use Rattle.cx_control.proofs.CallLaws.{ChildLaws, call_leaf}
use Rattle.cx_meaning.proofs.InstancesLemmas.{here as itself_at, nothing_instance, row_instance}
use Rattle.cx_text.proofs.NumberLaws.{end_is, false_true}
use Rattle.cx_rules.proofs.CirclesLemmas.{cells_below, own_acyclic}
use Rattle.cx_meaning.proofs.ControlLemmas.{called_child}
use Rattle.cx_meaning.proofs.SightsLaws.{in_comb}
use Rattle.cx_laws.proofs.VisitLemmas.{as_visited}

-- the islands of an instance do what they mean
abbrev pub IslandsDo : Instance → Type 1
IslandsDo i = (form : PlainForm) (place : Place) → Stands i (Placed form place) → is_island_form (part_of i) form ≡ true
    → Does (world_of i) (Rests i) (island_machine i form) (spots_of (drives (part_of i) (Placed form place))) (reads_spot (Reads (part_of i) (Placed form place))) (λ held. island i held form)

pub stands_at : (i : Instance) (s : PlainStatement) → PlainComponent.control (part_of i) ≡ s → Stands i s
stands_at i (Placed form place) e = subst (λ s. In (visit Dynamic s) (record { context = Dynamic; form = form; place = place })) (sym e) (inl refl)

-- a static statement is an island, and so is the enable of a static group
static_island : (part : PlainComponent) (form : PlainForm) → is_static form ≡ true → is_island_form part form ≡ true
static_island part Empty e = e
static_island part (Enable g) e = absurd (false_true e)
static_island part (Seq parts) e = e
static_island part (Par arms) e = e
static_island part (If test comb a b) e = e
static_island part (While test comb a) e = e
static_island part (Repeat count a) e = e
static_island part (StaticSeq length parts) e = refl
static_island part (StaticPar length arms) e = refl
static_island part (StaticIf length test a b) e = refl
static_island part (StaticRepeat length count a) e = refl
static_island part (Timed k) e = e

timed_island : (part : PlainComponent) (g n : ℕ) → (group_at part g).kind ≡ kinds.Timed n → is_island_form part (Enable g) ≡ true
timed_island part g n is = ap (λ k. is_some (kind_length k)) is

-- THE PLACES of an instance's control are numbers, as those of its leaves are
pub leaves_coded : (part : PlainComponent) (cells : Cells) → ControlRules (Node part cells)
    → AreCoded (leaf_machines (Node part cells) (coded_below cells)) (leaf_codings (Node part cells) (coded_below cells)) (Stands (Node part cells))
leaves_coded part cells control = record {
  parts_stand = parts_stand (Node part cells);
  is_untimed = control.is_untimed;
  enable = λ g place stands. kind_coded (Node part cells) (coded_below cells) g (group_at part g).kind (λ n is. control.lasts (Enable g) place stands (timed_island part g n is));
  island = λ form place is_one stands. island_coded (Node part cells) form (control.lasts form place stands (static_island part form is_one));
}

pub control_coded : (i : Instance) → ControlRules i → IsRegion (Coded.machine (coded_control i)) (Coded.coding (coded_control i))
control_coded (Node part cells) control =
    statement_coded (leaf_machines (Node part cells) (coded_below cells)) (leaf_codings (Node part cells) (coded_below cells)) (Stands (Node part cells))
    (leaves_coded part cells control) part.control (stands_at (Node part cells) part.control refl)

pub leaves_end : (i : Instance) → number_idle_at i [] 0 (end_of i) ≡ 0
leaves_end (Node part cells) = ap (λ b. if b then 0 else end_of (Node part cells)) (end_is (end_of (Node part cells)))

-- a child as its caller knows it
all_spots : (set : ℕ → Bool) (x : Spot) → spots_of set x ≡ true → spots_of (λ c. true) x ≡ true
all_spots set = spots_wider set (λ c. true) (λ c e. refl)

as_child : (child : Instance) (rest : Cells) → ((path : Path) → ControlRules (instance_at child path))
    → Does (world_of child) (Rests child) (Coded.machine (coded_control child)) (spots_of (drives (part_of child) (PlainComponent.control (part_of child)))) (reads_spot (Reads (part_of child) (PlainComponent.control (part_of child)))) (λ held. run_control child held)
    → ChildLaws (an_instance child rest) 0 (coded_control child)
as_child child rest rules does = record {
  does = does_within (world_of child) (Rests child) (Coded.machine (coded_control child)) _ (spots_of (λ c. true)) _ (reads_spot (λ c. Unit {0})) (λ held. run_control child held)
      (all_spots (drives (part_of child) (PlainComponent.control (part_of child)))) (reads_wider _ (λ c. Unit {0}) (λ c r. tt)) (spots_within (λ c. true) (λ c. Unit {0}) (λ c e. tt)) does;
  region = control_coded child here;
  leaves_end = leaves_end child;
  own_inputs = here.own_inputs;
}
  where
    here : ControlRules child
    here = subst ControlRules (itself_at child) (rules [])

-- THE LEAVES of an instance, over the control of its children
module _ (part : PlainComponent) (cells : Cells) (control : ControlRules (Node part cells)) (islands : IslandsDo (Node part cells))
    (below : (c : ℕ) (child : Instance) → cell_at cells c ≡ OfInstance child → ChildLaws cells c (coded_below cells c)) where
  abbrev i : Instance
  i = Node part cells

  rules : InstanceRules i
  rules = control.rules

  module _ (g : ℕ) (place : Place) (stands : Stands i (Placed (Enable g) place)) where
    abbrev spots : Spot → Bool
    spots = spots_of (drives part (Placed (Enable g) place))

    abbrev seen_spots : Spot → Type 0
    seen_spots = reads_spot (Reads part (Placed (Enable g) place))

    called_does : (o : Option ℕ) → called i g ≡ o
        → Does (world_of i) (Rests i) (called_machine i (coded_below cells) g o) spots seen_spots (λ held. call_or_turns i (control_below cells) held g o)
    called_does None is = group_leaf i rules g place stands
    called_does (Some c) is =
        let child = called_child cells (group_at part g).assigns c is in
        call_leaf part cells rules g place stands c (control.calls g place c stands is) (coded_below cells c) (below c child.0 child.1) (captures i g) refl

    kind_does : (kind : GroupKind) → (group_at part g).kind ≡ kind → Does (world_of i) (Rests i) (kind_machine i (coded_below cells) g kind) spots seen_spots (λ held. enable_kind i (control_below cells) held g kind)
    kind_does kinds.Plain is = called_does (called i g) refl
    kind_does kinds.Comb is = called_does (called i g) refl
    kind_does (kinds.Timed n) is = islands (Enable g) place stands (timed_island part g n is)

  leaf_does : (form : PlainForm) (place : Place) → IsLeaf form → Stands i (Placed form place)
      → Does (world_of i) (Rests i) (machine_of (leaf_machines i (coded_below cells)) (Placed form place)) (spots_of (drives part (Placed form place))) (reads_spot (Reads part (Placed form place)))
      (λ held. run (leaves i (control_below cells) held) (Placed form place))
  leaf_does _ place (enable g) stands = kind_does g place stands (group_at part g).kind refl
  leaf_does _ place (static_seq length parts) stands = islands (StaticSeq length parts) place stands refl
  leaf_does _ place (static_par length arms) stands = islands (StaticPar length arms) place stands refl
  leaf_does _ place (static_if length test a b) stands = islands (StaticIf length test a b) place stands refl
  leaf_does _ place (static_repeat length count a) stands = islands (StaticRepeat length count a) place stands refl

  -- a test hangs on what its statement reads
  test_does : (form : PlainForm) (place : Place) → Stands i (Placed form place) → (p : PlacedPort) (comb : Option ℕ) → test_in form ≡ Some p → ((g : ℕ) → comb ≡ Some g → In (groups_of (Placed form place)) g)
      → (held : Held) (s : State) (w : Kept) → Agree (reads_spot (Reads part (Placed form place))) w (shown held s) → test i (held_in w) p.port comb (cells_in w) ≡ test i held p.port comb s
  test_does form place stands p comb tested groups held s w near =
      let v = as_visited (Placed form place) in
      let closed = rules.closed (Placed form place) in
      ap (λ h. test i h p.port comb (cells_in w)) (near_inputs (Reads part (Placed form place)) held s w near)
      ∙ sym (test_alike i held (Reads part (Placed form place)) rules.kept (through i held rules.kept rules.circles rules.groups rules.islands v stands (Reads part (Placed form place)) closed) (cells_below i rules.circles)
      (own_acyclic i rules.circles) p.port
      (IsReady.tests (ready i held rules.kept rules.circles rules.groups rules.islands v stands (Reads part (Placed form place)) closed v (inl refl)) p tested) comb
      (λ g is. good i held rules.kept rules.circles rules.groups rules.islands v stands (Reads part (Placed form place)) closed g (groups g is))
      s (cells_in w) (near_cells (Reads part (Placed form place)) held s w near))

  pub leaves_are_lawful : AreLawful (world_of i) (Rests i) (leaves i (control_below cells)) (leaf_machines i (coded_below cells)) (λ s. spots_of (drives part s)) (λ s. reads_spot (Reads part s)) (Stands i)
  leaves_are_lawful = record {
    parts_stand = parts_stand i;
    is_untimed = control.is_untimed;
    arms_apart = λ arms place stands. are_apart part (list_of arms) (control.unshared (as_visited (Placed (Par arms) place)) stands);
    sees = λ s stands. spots_within (drives part s) (Reads part s) (λ c e. (rules.closed s).driven c e);
    part_drives = λ s whole is_part. spots_wider (drives part s) (drives part whole) (part_drives part s whole is_part);
    part_reads = λ s whole is_part. reads_wider (Reads part s) (Reads part whole) (λ c r. part_reads part s whole is_part r);
    keeps_rest = rest_is_kept i;
    merges = λ held arm s t x. merge_is_shown part held arm s t x;
    if_tests = λ test comb a b place stands held s w near. test_does (If test comb a b) place stands test comb refl (λ g e. in_comb comb (groups_of a ++ groups_of b) g e) held s w near;
    while_tests = λ test comb a place stands held s w near. test_does (While test comb a) place stands test comb refl (λ g e. in_comb comb (groups_of a) g e) held s w near;
    leaf_does = leaf_does;
  }

  pub node_does : Does (world_of i) (Rests i) (Coded.machine (coded_control i)) (spots_of (drives part part.control)) (reads_spot (Reads part part.control)) (λ held. run_control i held)
  node_does =
      statement_does (world_of i) (Rests i) (leaves i (control_below cells)) (leaf_machines i (coded_below cells)) (λ s. spots_of (drives part s)) (λ s. reads_spot (Reads part s)) (Stands i)
      leaves_are_lawful part.control (stands_at i part.control refl)

mutual
  -- THE LAW, by the tree
  pub control_does : (i : Instance) → ((path : Path) → ControlRules (instance_at i path)) → ((path : Path) → IslandsDo (instance_at i path))
      → Does (world_of i) (Rests i) (Coded.machine (coded_control i)) (spots_of (drives (part_of i) (PlainComponent.control (part_of i)))) (reads_spot (Reads (part_of i) (PlainComponent.control (part_of i)))) (λ held. run_control i held)
  control_does (Node part cells) all_rules all_islands = node_does part cells (all_rules []) (all_islands []) (λ c child at. child_does cells c (λ path. all_rules (c ∷ path)) (λ path. all_islands (c ∷ path)) child at)

  -- and what a caller knows of a child
  pub child_does : (cells : Cells) (c : ℕ) → ((path : Path) → ControlRules (child_at cells c path)) → ((path : Path) → IslandsDo (child_at cells c path)) → (child : Instance) → cell_at cells c ≡ OfInstance child
      → ChildLaws cells c (coded_below cells c)
  child_does no_cells c all_rules all_islands child at = absurd (nothing_instance child at)
  child_does (a_primitive row rest) zero all_rules all_islands child at = absurd (row_instance row child at)
  child_does (a_primitive row rest) (suc c) all_rules all_islands child at =
      let it = child_does rest c all_rules all_islands child at in
      record { does = it.does; region = it.region; leaves_end = it.leaves_end; own_inputs = it.own_inputs }
  child_does (an_instance other rest) zero all_rules all_islands child at = as_child other rest all_rules (control_does other all_rules all_islands)
  child_does (an_instance other rest) (suc c) all_rules all_islands child at =
      let it = child_does rest c all_rules all_islands child at in
      record { does = it.does; region = it.region; leaves_end = it.leaves_end; own_inputs = it.own_inputs }
