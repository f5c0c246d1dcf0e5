-- In a cycle without a fault a node's net has what its machine sees: the holes of the groups that run, and the ports of tests. What is said of
-- groups that call is a premise here.
use Rattle.std.proofs.Common.{◌≡◌, ◌⊎◌, inl, inr, ⊎_elim, ℕ, ◌+◌, ◌<◌, ◌==◌, Bool, true, false, ◌&&◌, ◌||◌, not, if◌then◌else◌, List, [], ◌∷◌, length, Option, Some, None, unwrap_or, refl, sym, ap, ap₂, ◌∙◌, subst}
use Rattle.std.specs.Prelude.{is_some, nat_eq, option_map, flat_map}
use Rattle.std.proofs.lemmas.Bool.{eq-eqb, eqb-true}
use Rattle.std.proofs.lemmas.Option.{slice_get-get_or}
use Rattle.cx_text.proofs.MemberLaws.{in_left}
use Rattle.cx_text.specs.Members.{In}
use Rattle.cx_text.specs.declared.places.Place.{Place}
use Rattle.cx_bits.specs.BitVector.{BitVector, zero_of as zero_wide}
use Rattle.cx_prim.specs.Rows.{Row}
use Rattle.cx_meaning.specs.declared.ports.PortRef.{PortRef}
use Rattle.cx_meaning.specs.declared.ports.PortRef.TheVariants as ports
use Rattle.cx_meaning.specs.declared.ports.PlacedPort.{PlacedPort}
use Rattle.cx_meaning.specs.declared.sights.Seen.{Seen}
use Rattle.cx_meaning.specs.declared.sights.Seen.TheVariants.{Value, Conflict, Undefined}
use Rattle.cx_meaning.specs.declared.kinds.GroupKind.{GroupKind}
use Rattle.cx_meaning.specs.declared.kinds.GroupKind.TheVariants as kinds
use Rattle.cx_meaning.specs.Designs.{PlainComponent, PlainDesign, PlainForm, Enable, PlainStatement, Placed, group_at, no_group}
use Rattle.cx_meaning.specs.Instances.{Instance, Node, Cells, OfRow, OfInstance, cell_at, part_of, Path, under}
use Rattle.cx_meaning.specs.Active.{Active, Entry, nothing, group, comb, only_at, entries, offset_in}
use Rattle.cx_meaning.specs.Truths.{Truth, One, Zero, truth_of}
use Rattle.cx_meaning.specs.Truths as truths
use Rattle.cx_meaning.specs.Sights.{unheld, Sees, seen, AnOutput, part_port}
use Rattle.cx_meaning.specs.Cycles.{Ended, Goes, Faults, Fault, cycle}
use Rattle.cx_meaning.specs.Islands.{kind_length, group_length, turn_of}
use Rattle.cx_meaning.specs.Control.{groups_in, groups_of, group_drives, drives}
use Rattle.cx_meaning.specs.Calls.{hole_turn, test, test_of, called}
use Rattle.cx_rules.specs.Items.{Dynamic, visit, visit_parts, test_in, option_list, tests_of, is_comb}
use Rattle.cx_rules.specs.Footprints.{Reads, tested}
use Rattle.cx_rules.specs.Wellformed.{IsForm, IsWith}
use Rattle.cx_rules.specs.Circles.{IsAcyclic}
use Rattle.cx_rules.proofs.FoundLemmas.{seen_found}
use Rattle.cx_control.specs.Apart.{IsApart}
use Rattle.cx_control.specs.Flows.{zero_of, is_set}
use Rattle.cx_lockstep.specs.Worlds.{At, Machine, is_done}
use Rattle.cx_lockstep.specs.Machines.{unclear}
use Rattle.cx_lockstep.specs.Statements.{LeafMachines, machine_of}
use Rattle.cx_lockstep.specs.Running.{Running, AGroup, AnIsland, leaf_of, running}
use Rattle.cx_control.specs.Spots.{Spot, Cell, Number, Holds, Kept, cells_in, held_in}
use Rattle.cx_control.specs.Leaves.{Coded, InIsland, Cycle, LastTurn, sampled_now, turn_next, turn_faults, called_machine, kind_machine, leaf_machines}
use Rattle.cx_control.specs.Controls.{coded_control, coded_below, leaf_codings}
use Rattle.cx_control.specs.Standing.{RestsAt, good_control, bare}
use Rattle.cx_control.specs.InstanceRules.{Stands}
use Rattle.cx_control.proofs.StandLaws.{parts_stand}
use Rattle.cx_control.specs.ControlRules.{ControlRules}
use Rattle.cx_control.proofs.ShapeLemmas.{called_driving}
use Rattle.cx_rules.proofs.ForeignLemmas.{assigns_drive_in}
use Rattle.cx_net.specs.Nets.{OfPort}
use Rattle.cx_net.specs.NetMeaning.{NetState, below_cell, APort, AHole, TheDone, NetLook, NetAround, around_child, is_true, truth_bit, registers_of}
use Rattle.cx_static.specs.Lowering.{lowered_component}
use Rattle.cx_wiring.specs.Assignments.{kind_drives, occurs_in, owner_drives}
use Rattle.cx_wiring.specs.PartNets.{wired_in, timers_of, net_of_cells}
use Rattle.cx_wiring.specs.Takings.{value}
use Rattle.cx_wiring.proofs.TakingLemmas.{true_bit}
use Rattle.cx_wiring_cycles.specs.Shown.{wide, Going, told, leads, comb_going, enable_going, going, enable_agrees, StatementAgrees}
use Rattle.cx_wiring_runs.proofs.SeamRules.{SeamRules}
use Rattle.cx_wiring_runs.specs.BlockNumbers.{component_numbers}
use Rattle.cx_wiring_runs.specs.Blocks.{block, Shows, Solves, FitsInputs}
use Rattle.cx_wiring_runs.specs.PortValues.{own_offset, port_value, goes_now, offset_now, active_now}
use Rattle.cx_wiring_runs.proofs.ChildLooks.{child_solves}
use Rattle.cx_wiring_runs.proofs.NodePorts.{named_value, bit_says}
use Rattle.cx_wiring_runs.proofs.TreeRules.{CellsNodes}
use Rattle.cx_wiring_runs.proofs.SeamFlows.{Nearby, tested_seen, hole_seen, hole_stands}
use Rattle.cx_wiring_runs.proofs.OutputFlows.{SeamAt, row_cell, done_below, child_outputs}
use Rattle.cx_wiring_runs.proofs.GoingLaws.{Source, of_group, of_timed, of_static, of_comb, going_source, comb_is}
use Rattle.cx_wiring_runs.proofs.NodeSeam.{NodeRest, NodeSeam, entries_at, KindGoes, LeafGoes, SaysActive, KindSays, LeafSays}
use Rattle.cx_wiring_runs.proofs.IslandSets.{active_own}
use Rattle.cx_wiring_runs.proofs.GoingApart.{enable_named, IsGoing, GoesFor, LeafStands, leaf_stands, agrees}
use Rattle.cx_text.proofs.BoolLaws.{and_left}
use Rattle.cx_laws.proofs.TreeLemmas.{output_there}
use Rattle.cx_meaning.proofs.DesignsLemmas.{driver_there}
use Rattle.cx_bits.proofs.BitVectorLemmas.{some_is}
use Rattle.cx_meaning.proofs.ControlLaws.{groups_drive_in}
use Rattle.cx_text.proofs.NumberLaws.{true_false}

-- a bit that is one of two truths
bit_truth : (b : Bool) (x : BitVector) → truth_bit b ≡ x → truth_of (Value x) ≡ One → b ≡ true
bit_truth true x e t = refl
bit_truth false x e t = let no = ap (λ (y : BitVector). truth_of (Value y)) e ∙ t in absurd cc

bit_untruth : (b : Bool) (x : BitVector) → truth_bit b ≡ x → truth_of (Value x) ≡ Zero → b ≡ false
bit_untruth false x e t = refl
bit_untruth true x e t = let no = ap (λ (y : BitVector). truth_of (Value y)) e ∙ t in absurd cc

-- what is 0 or 1 is a value
one_is_value : (x : Seen) → truth_of x ≡ One → (b : BitVector) × (x ≡ Value b)
one_is_value (Value b) e = (b, refl)
one_is_value Conflict e = absurd cc
one_is_value Undefined e = absurd cc

zero_is_value : (x : Seen) → truth_of x ≡ Zero → (b : BitVector) × (x ≡ Value b)
zero_is_value (Value b) e = (b, refl)
zero_is_value Conflict e = absurd cc
zero_is_value Undefined e = absurd cc

-- a group that is told to go is named
pub told_named : (g : ℕ) (z : BitVector) (xs : List Going) → is_true (unwrap_or (told g (Some (truth_bit false)) xs) z) ≡ true → IsGoing g xs
told_named g z [] e = absurd cc
told_named g z (x ∷ xs) e = by (told_named g z xs) (x.group == g) refl e
  where
    by : (is_true (unwrap_or (told g (Some (truth_bit false)) xs) z) ≡ true → IsGoing g xs) → (b : Bool) → (x.group == g) ≡ b
        → is_true (unwrap_or (if b then Some (truth_bit x.goes) else told g (Some (truth_bit false)) xs) z) ≡ true → IsGoing g (x ∷ xs)
    by later true is f = record { one = x; is_in = inl refl; named = eqb-true x.group g is }
    by later false is f = let k = later f in record { one = k.one; is_in = inr k.is_in; named = k.named }

-- the statement of a test names its port
test_among : (form : PlainForm) (place : Place) (test : PlacedPort) → test_in form ≡ Some test → In (tests_of (Placed form place)) test
test_among form place test e =
    in_left (option_list (test_in form)) (flat_map (λ v. option_list (test_in v.form)) (visit_parts Dynamic form)) test (subst (λ o. In (option_list o) test) (sym e) (inl refl))

-- the statement of a component stands in it
control_stands : (i : Instance) (t : PlainStatement) → (part_of i).control ≡ t → Stands i t
control_stands i (Placed form place) e = subst (λ u. In (visit Dynamic u) (record { context = Dynamic; form = form; place = place })) (sym e) (inl refl)

module _ (d : PlainDesign) (of_island : PlainComponent → NetState → ℕ → ℕ → ℕ → ℕ) (part : PlainComponent) (cells : Cells) (rules : SeamRules d (Node part cells)) (below : CellsNodes (SeamAt d) cells) (control : ControlRules (Node part cells))
    (around : NetAround) (v : NetState) (look : NetLook) (solves : Solves (block (wired_in d) timers_of (component_numbers of_island) (Node part cells)) around v look)
    (s : Kept) (p : Machine.Place (Coded.machine (coded_control (Node part cells)))) (shows : Shows (block (wired_in d) timers_of (component_numbers of_island) (Node part cells)) (At p) s v)
    (good : good_control (Node part cells) (At p) (bare s)) (fits : FitsInputs (block (wired_in d) timers_of (component_numbers of_island) (Node part cells)) s around)
    (of_enable : (g : ℕ) → Machine.Place (LeafMachines.enable (leaf_machines (Node part cells) (coded_below cells)) g) → List Going)
    (of_form : (form : PlainForm) → Machine.Place (LeafMachines.island (leaf_machines (Node part cells) (coded_below cells)) form) → List Going)
    (names_enable : (g : ℕ) (q : Machine.Place (LeafMachines.enable (leaf_machines (Node part cells) (coded_below cells)) g)) (x : Going) → In (of_enable g q) x → x.group ≡ g)
    (names_form : (form : PlainForm) (q : Machine.Place (LeafMachines.island (leaf_machines (Node part cells) (coded_below cells)) form)) (x : Going) → In (of_form form q) x → In (groups_in form) x.group) where
  abbrev P : LeafMachines Spot Holds Fault
  P = leaf_machines (Node part cells) (coded_below cells)

  abbrev R : ℕ → Option BitVector
  R = registers_of (wired_in d part) (net_of_cells (wired_in d) timers_of (component_numbers of_island) cells (timers_of part)) around v (look []) (λ c. look (c ∷ []))

  abbrev hole : ℕ → Bool
  hole g = is_true (unwrap_or (look [] (AHole g)) (zero_wide 1))

  abbrev root : List Going
  root = going (leaf_machines (Node part cells) (coded_below cells)) (leaf_codings (Node part cells) (coded_below cells)) part (lowered_component part).islands hole of_enable of_form part.control p

  abbrev acts : ℕ → Type 0
  acts g = IsGoing g root

  abbrev says : ℕ → Option BitVector
  says g = told g (Some (truth_bit false)) root

  abbrev For : PlainStatement → List Going → Type 0
  For t xs = GoesFor (Node part cells) (coded_below cells) (leaf_codings (Node part cells) (coded_below cells)) control (lowered_component part).islands hole of_enable of_form names_enable names_form acts says t xs

  root_goes : For part.control root
  root_goes = record { inside = λ g k. k; actors = λ g k. inl k; told_so = λ g c drives_it k. refl }

  -- each leaf that runs
  abbrev Stood : Running (leaf_machines (Node part cells) (coded_below cells)) → Type 0
  Stood r = LeafStands (Node part cells) (coded_below cells) (leaf_codings (Node part cells) (coded_below cells)) control (lowered_component part).islands hole of_enable of_form names_enable names_form acts says r

  pub stood : (r : Running (leaf_machines (Node part cells) (coded_below cells))) → In (running (leaf_machines (Node part cells) (coded_below cells)) part.control p) r → Stood r
  stood r j =
      leaf_stands (Node part cells) (coded_below cells) (leaf_codings (Node part cells) (coded_below cells)) control (lowered_component part).islands hole of_enable of_form names_enable names_form acts says r
      part.control (control_stands (Node part cells) part.control refl) p root_goes j

  -- WHAT RESTS: a component cell that no group drives which runs
  plain_drives : (g : ℕ) (place : Place) (stand : Machine.Place (LeafMachines.enable (leaf_machines (Node part cells) (coded_below cells)) g)) (c : ℕ) (child : Instance) → Stood (AGroup g place stand) → cell_at cells c ≡ OfInstance child
      → drives part (Placed (Enable g) place) c ≡ true → ((group_at part g).kind ≡ kinds.Plain) × (called (Node part cells) g ≡ Some c)
  plain_drives g place stand c child stands at drives_it =
      let calls = control.calls_it g place c child stands.stands at drives_it in ((control.calls g place c stands.stands calls).plain, calls)

  group_goes : (g : ℕ) (place : Place) (stand : Machine.Place (LeafMachines.enable (leaf_machines (Node part cells) (coded_below cells)) g)) → (group_at part g).kind ≡ kinds.Plain → Stood (AGroup g place stand) → acts g
  group_goes g place stand plain stands =
      stands.goes_for.inside g
      (subst (λ o. IsGoing g (enable_going (leaf_machines (Node part cells) (coded_below cells)) (leaf_codings (Node part cells) (coded_below cells)) part (lowered_component part).islands hole of_enable of_form g o stand)) (sym (ap kind_length plain))
      (record { one = record { group = g; goes = not (hole g) }; is_in = inl refl; named = refl }))

  one_drives : (c : ℕ) (b : Bool) → (b || false) ≡ true → b ≡ true
  one_drives c true e = refl
  one_drives c false e = absurd cc

  pub rests_apart : (t : PlainStatement) (xs : List Going) → For t xs → (c : ℕ) (child : Instance) → Reads part t c → cell_at cells c ≡ OfInstance child
      → ((g : ℕ) → IsGoing g xs → (group_at part g).kind ≡ kinds.Plain → called (Node part cells) g ≡ Some c → ⊥) → RestsAt cells c (bare s)
  rests_apart t xs for c child reads at free = good.rests c (λ r j. none r (stood r j) (drives part (leaf_of (leaf_machines (Node part cells) (coded_below cells)) r) c) refl)
    where
      none : (r : Running (leaf_machines (Node part cells) (coded_below cells))) → Stood r → (b : Bool) → drives part (leaf_of (leaf_machines (Node part cells) (coded_below cells)) r) c ≡ b → b ≡ false
      none r stands false e = refl
      none (AnIsland form place stand) stands true e = absurd (control.no_island_calls form place c child stands.stands stands.static at e)
      none (AGroup g place stand) stands true e =
          let k = plain_drives g place stand c child stands at e in
          let drives_it = one_drives c (group_drives part g c) e in
          absurd (⊎_elim (λ named. free g named k.0 k.1) (λ never. never c reads drives_it) (for.actors g (group_goes g place stand k.0 stands)))

  -- WHAT IS NEAR a leaf that calls nothing, or a test
  child_seen : (c : ℕ) → ((e : ℕ) (path : Path) (n : ℕ) → s (Number (c ∷ e ∷ path) n) ≡ 0) → (q n : ℕ) (child : Instance) (b : BitVector) → cell_at cells c ≡ OfInstance child → part_port (part_of child) q ≡ AnOutput n
      → Sees child unheld nothing (under c (cells_in s)) (ports.Output n) (Value b) → look (c ∷ []) (APort (ports.Output n)) ≡ Some b
  child_seen c zeros q n child b at port sees =
      child_outputs d of_island cells (timers_of part) below c child at (below_cell c v) (around_child c (look [])) (λ path. look (c ∷ path))
      (child_solves (wired_in d) timers_of (component_numbers of_island) part cells around v look solves c child at) (under c (cells_in s)) (λ path there. shows.cells (c ∷ path) there)
      (λ e path k. shows.below c (e ∷ path) k ∙ zeros e path k) n b (output_there (part_of child) q n port) sees

  rests_done : (c : ℕ) (child : Instance) → RestsAt cells c (bare s) → cell_at cells c ≡ OfInstance child → look (c ∷ []) TheDone ≡ Some (truth_bit false)
  rests_done c child rests at =
      done_below d of_island cells (timers_of part) below c child at (below_cell c v) (around_child c (look [])) (λ path. look (c ∷ path))
      (child_solves (wired_in d) timers_of (component_numbers of_island) part cells around v look solves c child at) (shows.below c [] 0 ∙ rests.numbers_rest [] 0)

  pub same_cells : (c : ℕ) (row : Row) → cell_at cells c ≡ OfRow row → v.cell (c ∷ []) ≡ s (Cell (c ∷ []))
  same_cells c row at = shows.cells (c ∷ []) (row_cell cells c row at)

  abbrev Near : Active → (ℕ → ℕ → Type 0) → Type 0
  Near act near = Nearby d (component_numbers of_island) part cells rules around v look solves (cells_in s) same_cells (held_in s) act near

  pub near_rests : (o : ℕ → Option ℕ) (t : PlainStatement) → ((c : ℕ) (child : Instance) → Reads part t c → cell_at cells c ≡ OfInstance child → RestsAt cells c (bare s)) → Near (record { offset = o; done_cell = None }) (λ c q. Reads part t c)
  near_rests o t rests = record {
    inputs = fits;
    outputs = λ c q n child b reads at port sees. child_seen c (λ e path k. (rests c child reads at).numbers_rest (e ∷ path) k) q n child b at port sees;
    dones = λ c q child reads at port. rests_done c child (rests c child reads at) at;
  }

  -- of a group that runs it alone goes
  its_going : (g : ℕ) (q : Machine.Place (LeafMachines.enable (leaf_machines (Node part cells) (coded_below cells)) g)) (h : ℕ)
      → IsGoing h (enable_going (leaf_machines (Node part cells) (coded_below cells)) (leaf_codings (Node part cells) (coded_below cells)) part (lowered_component part).islands hole of_enable of_form g (group_length part g) q) → h ≡ g
  its_going g q h k =
      among (enable_named (Node part cells) (coded_below cells) (leaf_codings (Node part cells) (coded_below cells)) control (lowered_component part).islands hole of_enable of_form names_enable names_form g (group_length part g) q k.one k.is_in)
    where
      among : In (g ∷ []) k.one.group → h ≡ g
      among (inl f) = sym k.named ∙ sym f
      among (inr never) = absurd never

  called_drives_it : (h c : ℕ) → called (Node part cells) h ≡ Some c → group_drives part h c ≡ true
  called_drives_it h c calls = let it = called_driving cells (group_at part h).assigns c calls in assigns_drive_in (group_at part h).assigns it.assign c it.port it.is_in it.target

  island_rest : (form : PlainForm) (place : Place) (stand : Machine.Place (LeafMachines.island (leaf_machines (Node part cells) (coded_below cells)) form))
      → In (running (leaf_machines (Node part cells) (coded_below cells)) part.control p) (AnIsland form place stand) → (c : ℕ) (child : Instance) → Reads part (Placed form place) c → cell_at cells c ≡ OfInstance child → RestsAt cells c (bare s)
  island_rest form place stand j c child reads at =
      rests_apart (Placed form place) (of_form form stand) (stood (AnIsland form place stand) j).goes_for c child reads at
      (λ h k plain calls. control.no_island_calls form place c child (stood (AnIsland form place stand) j).stands (stood (AnIsland form place stand) j).static at
      (groups_drive_in part (groups_in form) h c (subst (In (groups_in form)) k.named (names_form form stand k.one k.is_in)) (called_drives_it h c calls)))

  -- WHAT RESTS, whatever goes
  pub node_rest : NodeRest part cells around v look s p
  node_rest = record {
    stands = λ r j. (stood r j).stands;
    island_rests = island_rest;
    child_seen = λ c zeros q n child b at port sees. child_seen c zeros q n child b at port sees;
    rests_done = λ c child rests at. rests_done c child rests at;
  }

  module _ (goes : (g : ℕ) → g < length part.groups → look [] (AHole (length part.groups + g)) ≡ told g (Some (truth_bit false)) root) where
    -- WHAT GOES
    abbrev Now : Active
    Now = active_now (Node part cells) around v look

    now_acts : (g : ℕ) → g < length part.groups → goes_now (Node part cells) around v look g ≡ true → acts g
    now_acts g there e =
        told_named g (zero_of (Some 1)) root
        (ap (λ o. is_true (unwrap_or o (zero_of (Some 1)))) (sym (goes g there))
        ∙ and_left (is_true (unwrap_or (look [] (AHole (length part.groups + g))) (zero_of (Some 1)))) (owner_drives (lowered_component part) (Some g)) e)

    none_at : (g c : ℕ) → group_drives part g c ≡ true → (acts g → ⊥) → Now.offset g ≡ None
    none_at g c drives_it never = by (goes_now (Node part cells) around v look g) refl
      where
        by : (b : Bool) → goes_now (Node part cells) around v look g ≡ b → (if b then Some (own_offset (group_length part g) (offset_now (Node part cells) around v look g)) else None) ≡ None
        by true e = absurd (never (now_acts g (driver_there part g c drives_it) e))
        by false e = refl

    -- a test without a group
    pub no_apart : (t : PlainStatement) → For t [] → IsApart part t nothing Now
    no_apart t for = record {
      its_own = λ g o e. absurd (none_some o e);
      same = λ g c reads drives_it. sym (none_at g c drives_it (λ k. ⊎_elim (λ named. absurd named.is_in) (λ never. never c reads drives_it) (for.actors g k)));
    }
      where
        none_some : (o : ℕ) → ◌≡◌ {A = Option ℕ} None (Some o) → ⊥
        none_some o e = cc

    kind_stands : (occurs : Bool) (k : GroupKind) → kind_length k ≡ None → kind_drives occurs (Some k) ≡ true
    kind_stands occurs kinds.Plain e = refl
    kind_stands occurs kinds.Comb e = refl
    kind_stands occurs (kinds.Timed n) e = absurd cc

    pub owner_plain : (g : ℕ) → g < length part.groups → kind_length (group_at part g).kind ≡ None → owner_drives (lowered_component part) (Some g) ≡ true
    owner_plain g there plain =
        ap (λ o. kind_drives (occurs_in g (lowered_component part).islands) (option_map (λ group. group.kind) o)) (slice_get-get_or part.groups g no_group there)
        ∙ kind_stands (occurs_in g (lowered_component part).islands) (group_at part g).kind plain

    abbrev one_going : ℕ → Bool → List Going
    one_going g b = record { group = g; goes = b } ∷ []

    at_zero : (t : PlainStatement) (g : ℕ) → g < length part.groups → kind_length (group_at part g).kind ≡ None → For t (record { group = g; goes = true } ∷ []) → (c : ℕ) → group_drives part g c ≡ true → Some 0 ≡ Now.offset g
    at_zero t g there plain for c drives_it =
        let says_so : look [] (AHole (length part.groups + g)) ≡ Some (truth_bit true) =
        goes g there ∙ for.told_so g c drives_it (record { one = record { group = g; goes = true }; is_in = inl refl; named = refl }) ∙ ap (λ (b : Bool). if b then Some (truth_bit true) else Some (truth_bit false)) (eq-eqb g g refl) in
        sym
        (ap₂ (λ (x : Option BitVector) (y : Bool). if is_true (unwrap_or x (zero_of (Some 1))) && y then Some (own_offset (group_length part g) (offset_now (Node part cells) around v look g)) else None) says_so (owner_plain g there plain)
        ∙ ap (λ o. Some (own_offset o (offset_now (Node part cells) around v look g))) plain)

    -- one group that is not timed goes
    pub one_apart : (t : PlainStatement) (g : ℕ) → In (groups_of t) g → g < length part.groups → kind_length (group_at part g).kind ≡ None → For t (record { group = g; goes = true } ∷ []) → IsApart part t (group g) Now
    one_apart t g its there plain for = record { its_own = λ h o e. own h o (nat_eq g h) refl e; same = λ h c reads drives_it. by h c reads drives_it (nat_eq g h) refl }
      where
        own : (h o : ℕ) (q : Bool) → nat_eq g h ≡ q → (if q then Some 0 else None) ≡ Some o → In (groups_of t) h
        own h o true f k = subst (In (groups_of t)) (eqb-true g h f) its
        own h o false f k = absurd cc

        differ : (h : ℕ) → nat_eq g h ≡ false → IsGoing h (record { group = g; goes = true } ∷ []) → ⊥
        differ h f k = among k.is_in
          where
            among : In (record { group = g; goes = true } ∷ []) k.one → ⊥
            among (inl e) = true_false (sym (eq-eqb g h (ap (λ (x : Going). x.group) e ∙ k.named)) ∙ f)
            among (inr never) = never

        by : (h c : ℕ) → Reads part t c → group_drives part h c ≡ true → (q : Bool) → nat_eq g h ≡ q → (if q then Some 0 else None) ≡ Now.offset h
        by h c reads drives_it true e = subst (λ x. Some 0 ≡ Now.offset x) (eqb-true g h e) (at_zero t g there plain for c (subst (λ x. group_drives part x c ≡ true) (sym (eqb-true g h e)) drives_it))
        by h c reads drives_it false e = sym (none_at h c drives_it (λ k. ⊎_elim (λ named. differ h e named) (λ never. never c reads drives_it) (for.actors h k)))

    -- the entries of an island go
    says_some : (o : Option ℕ) (k : ℕ) → o ≡ Some k → is_some o ≡ true
    says_some o k e = ap is_some e

    says_none : (o : Option ℕ) → o ≡ None → is_some o ≡ false
    says_none o e = ap is_some e

    static_offset : (o : Option ℕ) (k : ℕ) → is_some o ≡ true → own_offset o (unwrap_or (Some (wide k)) (zero_of (Some 32))) ≡ k
    static_offset None k e = absurd (true_false (sym e))
    static_offset (Some n) k e = refl

    set_apart : (t : PlainStatement) (xs : List Going) → For t xs → (os : List Entry) → ((g o : ℕ) → offset_in os g ≡ Some o → In (groups_of t) g) → ((g o : ℕ) → offset_in os g ≡ Some o → is_some (group_length part g) ≡ true) → SaysActive part cells around v look s p xs os → IsApart part t (entries os) Now
    set_apart t xs for os own static says_so = record { its_own = own; same = λ g c reads drives_it. by g c reads drives_it (offset_in os g) refl }
      where
        told_is : (g c : ℕ) → group_drives part g c ≡ true → IsGoing g xs → look [] (AHole (length part.groups + g)) ≡ Some (truth_bit (is_some (offset_in os g)))
        told_is g c drives_it k = goes g (driver_there part g c drives_it) ∙ for.told_so g c drives_it k ∙ says_so.goes g

        by : (g c : ℕ) → Reads part t c → group_drives part g c ≡ true → (o : Option ℕ) → offset_in os g ≡ o → o ≡ Now.offset g
        by g c reads drives_it (Some k) e =
            let told_on = says_so.goes g ∙ ap (λ b. Some (truth_bit b)) (says_some (offset_in os g) k e) in
            let named : IsGoing g xs = told_named g (zero_of (Some 1)) xs (ap (λ o. is_true (unwrap_or o (zero_of (Some 1)))) told_on) in
            let on : look [] (AHole (length part.groups + g)) ≡ Some (truth_bit true) = told_is g c drives_it named ∙ ap (λ b. Some (truth_bit b)) (says_some (offset_in os g) k e) in
            sym
            (ap₂ (λ (x : Option BitVector) (y : Bool). if is_true (unwrap_or x (zero_of (Some 1))) && y then Some (own_offset (group_length part g) (offset_now (Node part cells) around v look g)) else None) on (says_so.stands g c k drives_it e)
            ∙ ap Some (ap (λ o. own_offset (group_length part g) (unwrap_or o (zero_of (Some 32)))) (says_so.wire g c k drives_it e) ∙ static_offset (group_length part g) k (static g k e)))
        by g c reads drives_it None e = sym (by_goes (goes_now (Node part cells) around v look g) refl)
          where
            off : IsGoing g xs → goes_now (Node part cells) around v look g ≡ false
            off k = ap (λ (x : Option BitVector). is_true (unwrap_or x (zero_of (Some 1))) && owner_drives (lowered_component part) (Some g)) (told_is g c drives_it k ∙ ap (λ b. Some (truth_bit b)) (says_none (offset_in os g) e))

            by_goes : (b : Bool) → goes_now (Node part cells) around v look g ≡ b → (if b then Some (own_offset (group_length part g) (offset_now (Node part cells) around v look g)) else None) ≡ None
            by_goes false f = refl
            by_goes true f = absurd (⊎_elim (λ named. true_false (sym f ∙ off named)) (λ never. never c reads drives_it) (for.actors g (now_acts g (driver_there part g c drives_it) f)))

    -- of a leaf of an island that runs
    form_own : (form : PlainForm) (place : Place) (stand : InIsland) (g o : ℕ) → offset_in (entries_at part cells around v look s p form stand) g ≡ Some o → In (groups_of (Placed form place)) g
    form_own form place (Cycle t kept) g o e = active_own part (sampled_now (Node part cells) form t kept s) form place t g o e
    form_own form place LastTurn g o e = absurd (none_has e)
      where
        none_has : ◌≡◌ {A = Option ℕ} None (Some o) → ⊥
        none_has f = cc

    pub leaf_says : (r : Running (leaf_machines (Node part cells) (coded_below cells))) → In (running (leaf_machines (Node part cells) (coded_below cells)) part.control p) r → LeafSays part cells around v look s p of_enable of_form r → LeafGoes part cells around v look s p r
    leaf_says (AnIsland form place stand) j says_so =
        set_apart (Placed form place) (of_form form stand) (stood (AnIsland form place stand) j).goes_for (entries_at part cells around v look s p form stand) (form_own form place stand)
        (λ g o e. rules.rests.statics form place (stood (AnIsland form place stand) j).stands (stood (AnIsland form place stand) j).static g (form_own form place stand g o e)) says_so
    leaf_says (AGroup g place stand) j says_so = of_kind (group_at part g).kind refl stand (of_enable g stand) (λ n e. timed n e (stood (AGroup g place stand) j).goes_for) says_so
      where
        timed : (n : ℕ) → group_length part g ≡ Some n
            → For (Placed (Enable g) place) (enable_going (leaf_machines (Node part cells) (coded_below cells)) (leaf_codings (Node part cells) (coded_below cells)) part (lowered_component part).islands hole of_enable of_form g (group_length part g) stand)
            → For (Placed (Enable g) place) (of_enable g stand)
        timed n e for =
            subst
            (λ o. For (Placed (Enable g) place) (enable_going (leaf_machines (Node part cells) (coded_below cells)) (leaf_codings (Node part cells) (coded_below cells)) part (lowered_component part).islands hole of_enable of_form g o stand)) e for

        its_length : (h n : ℕ) → (group_at part g).kind ≡ kinds.Timed n → In (g ∷ []) h → is_some (group_length part h) ≡ true
        its_length h n e (inl f) = ap (λ x. is_some (group_length part x)) (sym f) ∙ ap (λ k. is_some (kind_length k)) e
        its_length h n e (inr never) = absurd never

        of_kind : (k : GroupKind) → (group_at part g).kind ≡ k → (q : Machine.Place (kind_machine (Node part cells) (coded_below cells) g k)) (xs : List Going) → ((n : ℕ) → group_length part g ≡ Some n → For (Placed (Enable g) place) xs)
            → KindSays part cells around v look s p of_enable of_form g xs k q → KindGoes part cells around v look s p g place k q
        of_kind kinds.Plain e q xs for says_now = tt
        of_kind kinds.Comb e q xs for says_now = tt
        of_kind (kinds.Timed n) e q xs for says_now =
            set_apart (Placed (Enable g) place) xs (for n (ap kind_length e)) (entries_at part cells around v look s p (Enable g) q) (form_own (Enable g) place q) (λ h o f. its_length h n e (form_own (Enable g) place q h o f)) says_now

    -- the hole of a group in the net
    hole_is_bit : (g : ℕ) → g < length part.groups → port_value (Node part cells) around v look (ports.Done g) ≡ truth_bit (is_true (unwrap_or (look [] (AHole g)) (zero_wide 1)))
    hole_is_bit = hole_stands d (component_numbers of_island) part cells rules around v look solves (cells_in s) same_cells

    -- THE SEAM of the node
    runs_apart : (g : ℕ) (place : Place) (stand : Machine.Place (LeafMachines.enable (leaf_machines (Node part cells) (coded_below cells)) g)) → Stood (AGroup g place stand) → kind_length (group_at part g).kind ≡ None → hole g ≡ false
        → IsApart part (Placed (Enable g) place) (group g) Now
    runs_apart g place stand it plain is_open =
        one_apart (Placed (Enable g) place) g (inl refl) (rules.node.ports.forms (record { context = Dynamic; form = Enable g; place = place }) it.stands).0 plain
        (subst (λ b. For (Placed (Enable g) place) (record { group = g; goes = b } ∷ [])) (ap not is_open)
        (subst
        (λ o. For (Placed (Enable g) place) (enable_going (leaf_machines (Node part cells) (coded_below cells)) (leaf_codings (Node part cells) (coded_below cells)) part (lowered_component part).islands hole of_enable of_form g o stand)) plain
        it.goes_for))

    -- where it ends, nothing goes that drives what it reads
    at_rest : (g : ℕ) (place : Place) (stand : Machine.Place (LeafMachines.enable (leaf_machines (Node part cells) (coded_below cells)) g)) → Stood (AGroup g place stand) → kind_length (group_at part g).kind ≡ None → hole g ≡ true
        → (c : ℕ) → group_drives part g c ≡ true → Now.offset g ≡ None
    at_rest g place stand it plain shut c drives_it =
        let for : For (Placed (Enable g) place) (record { group = g; goes = false } ∷ []) =
        subst (λ b. For (Placed (Enable g) place) (record { group = g; goes = b } ∷ [])) (ap not shut)
        (subst
        (λ o. For (Placed (Enable g) place) (enable_going (leaf_machines (Node part cells) (coded_below cells)) (leaf_codings (Node part cells) (coded_below cells)) part (lowered_component part).islands hole of_enable of_form g o stand)) plain
        it.goes_for) in
        let says_so : look [] (AHole (length part.groups + g)) ≡ Some (truth_bit false) =
        goes g (rules.node.ports.forms (record { context = Dynamic; form = Enable g; place = place }) it.stands).0
        ∙ for.told_so g c drives_it (record { one = record { group = g; goes = false }; is_in = inl refl; named = refl }) ∙ ap (λ (b : Bool). if b then Some (truth_bit false) else Some (truth_bit false)) (eq-eqb g g refl) in
        ap
        (λ (x : Option BitVector). if is_true (unwrap_or x (zero_of (Some 1))) && owner_drives (lowered_component part) (Some g) then Some (own_offset (group_length part g) (offset_now (Node part cells) around v look g)) else None)
        says_so

    ended_goes : (g : ℕ) (place : Place) (stand : Machine.Place (LeafMachines.enable (leaf_machines (Node part cells) (coded_below cells)) g)) → Stood (AGroup g place stand) → kind_length (group_at part g).kind ≡ None → hole g ≡ true
        → (c h : ℕ) → Reads part (Placed (Enable g) place) c → group_drives part h c ≡ true → (q : Bool) → nat_eq g h ≡ q → Now.offset h ≡ None
    ended_goes g place stand it plain shut c h reads drives_it true e =
        subst (λ x. Now.offset x ≡ None) (eqb-true g h e) (at_rest g place stand it plain shut c (subst (λ x. group_drives part x c ≡ true) (sym (eqb-true g h e)) drives_it))
    ended_goes g place stand it plain shut c h reads drives_it false e =
        none_at h c drives_it
        (λ k. ⊎_elim (λ named. true_false (sym (eq-eqb g h (sym (its_going g stand h named))) ∙ e)) (λ never. never c reads drives_it) (it.goes_for.actors h k))

    -- of a cell that no leaf drives that runs
    free_goes : (c : ℕ) → ((r : Running (leaf_machines (Node part cells) (coded_below cells))) → In (running (leaf_machines (Node part cells) (coded_below cells)) part.control p) r → drives part (leaf_of (leaf_machines (Node part cells) (coded_below cells)) r) c ≡ false)
        → (h : ℕ) → group_drives part h c ≡ true → (Now.offset h ≡ None) ⊎ (is_comb (group_at part h).kind ≡ true)
    free_goes c free h drives_it = by (goes_now (Node part cells) around v look h) refl
      where
        driven_by : (g : ℕ) → g ≡ h → (group_drives part g c || false) ≡ true
        driven_by g e = ap (λ k. group_drives part k c || false) e ∙ ap (λ b. b || false) drives_it

        of_source : (x : Going) → x.group ≡ h → Source (leaf_machines (Node part cells) (coded_below cells)) (leaf_codings (Node part cells) (coded_below cells)) part (lowered_component part).islands hole of_enable of_form
            (Stands (Node part cells)) (parts_stand (Node part cells)) x (running (leaf_machines (Node part cells) (coded_below cells)) part.control p) → is_comb (group_at part h).kind ≡ true
        of_source x named (of_group g place stand m plain is) = absurd (true_false (sym (driven_by g (sym (ap (λ (y : Going). y.group) is) ∙ named)) ∙ free (AGroup g place stand) m))
        of_source x named (of_timed g place stand m cycles is k) = absurd (true_false (sym (driven_by g (sym (names_enable g stand x k) ∙ named)) ∙ free (AGroup g place stand) m))
        of_source x named (of_static form place stand m k) =
            absurd (true_false (sym (groups_drive_in part (groups_in form) h c (subst (In (groups_in form)) named (names_form form stand x k)) drives_it) ∙ free (AnIsland form place stand) m))
        of_source x named (of_comb g t stands has is) = subst (λ k. is_comb (group_at part k).kind ≡ true) (sym (ap (λ (y : Going). y.group) is) ∙ named) (comb_is (leaf_machines (Node part cells) (coded_below cells)) (leaf_codings (Node part cells) (coded_below cells)) part (lowered_component part).islands hole of_enable of_form
            (Stands (Node part cells)) (λ form place u. rules.node.ports.forms (record { context = Dynamic; form = form; place = place }) u) t g stands has)

        by : (b : Bool) → goes_now (Node part cells) around v look h ≡ b
            → ((if b then Some (own_offset (group_length part h) (offset_now (Node part cells) around v look h)) else None) ≡ None) ⊎ (is_comb (group_at part h).kind ≡ true)
        by false e = inl refl
        by true e =
            let k = now_acts h (driver_there part h c drives_it) e in
            inr (of_source k.one k.named
            (going_source (leaf_machines (Node part cells) (coded_below cells)) (leaf_codings (Node part cells) (coded_below cells)) part (lowered_component part).islands hole of_enable of_form (Stands (Node part cells)) (parts_stand (Node part cells)) k.one
            part.control (control_stands (Node part cells) part.control refl) p k.is_in))

    pub node_seam : NodeSeam part cells around v look s p
    node_seam = record {
      stands = λ r j. (stood r j).stands;
      group_apart = λ g place stand j plain is_open. runs_apart g place stand (stood (AGroup g place stand) j) plain is_open;
      group_rests = λ g place stand j c child reads at none.
          rests_apart (Placed (Enable g) place)
          (enable_going (leaf_machines (Node part cells) (coded_below cells)) (leaf_codings (Node part cells) (coded_below cells)) part (lowered_component part).islands hole of_enable of_form g (group_length part g) stand)
          (stood (AGroup g place stand) j).goes_for c child reads at (λ h k plain calls. none (ap (called (Node part cells)) (sym (its_going g stand h k)) ∙ calls));
      island_rests = island_rest;
      child_seen = λ c zeros q n child b at port sees. child_seen c zeros q n child b at port sees;
      rests_done = λ c child rests at. rests_done c child rests at;
      ended_group = λ g place stand j plain shut c h reads drives_it. ended_goes g place stand (stood (AGroup g place stand) j) plain shut c h reads drives_it (nat_eq g h) refl;
      free_cell = λ c free h drives_it. free_goes c free h drives_it;
    }

    -- A GROUP THAT CALLS NOTHING
    module _ (g : ℕ) (place : Place) (stands : Stands (Node part cells) (Placed (Enable g) place)) (xs : List Going) (for : For (Placed (Enable g) place) xs) (only : (h : ℕ) → IsGoing h xs → h ≡ g) (none : called (Node part cells) g ≡ None) where
      there : g < length part.groups
      there = (rules.node.ports.forms (record { context = Dynamic; form = Enable g; place = place }) stands).0

      rests_here : (c : ℕ) (child : Instance) → Reads part (Placed (Enable g) place) c → cell_at cells c ≡ OfInstance child → RestsAt cells c (bare s)
      rests_here c child reads at = rests_apart (Placed (Enable g) place) xs for c child reads at (λ h k plain calls. calls_none c (sym none ∙ ap (called (Node part cells)) (sym (only h k)) ∙ calls))
        where
          calls_none : (c : ℕ) → ◌≡◌ {A = Option ℕ} None (Some c) → ⊥
          calls_none c e = cc

      pub hole_is : (b : BitVector) → Sees (Node part cells) (held_in s) (group g) (cells_in s) (ports.Done g) (Value b) → port_value (Node part cells) around v look (ports.Done g) ≡ b
      hole_is b sees =
          hole_seen d (component_numbers of_island) part cells rules around v look solves (cells_in s) same_cells (held_in s) (Placed (Enable g) place) g (inl refl)
          (near_rests (only_at g) (Placed (Enable g) place) rests_here) b sees

      sees_hole : Sees (Node part cells) (held_in s) (group g) (cells_in s) (ports.Done g) (seen (Node part cells) (held_in s) (group g) (cells_in s) (ports.Done g))
      sees_hole = seen_found (Node part cells) (held_in s) (group g) (cells_in s) (control.rules.groups g there) (control.rules.circles).1 (ports.Done g)

      never_ends : (e : Ended) → is_done (turn_next (turn_of e)) ≡ false
      never_ends (Goes after) = refl
      never_ends (Faults fault) = refl

      turn_agrees : (o : Truth) → truth_of (seen (Node part cells) (held_in s) (group g) (cells_in s) (ports.Done g)) ≡ o → turn_faults (hole_turn g (cycle (Node part cells) (held_in s) (group g) (cells_in s)) o) ≡ false
          → hole g ≡ is_done (turn_next (hole_turn g (cycle (Node part cells) (held_in s) (group g) (cells_in s)) o))
      turn_agrees One e clean =
          let w = one_is_value (seen (Node part cells) (held_in s) (group g) (cells_in s) (ports.Done g)) e in
          bit_truth (hole g) w.0 (sym (hole_is_bit g there) ∙ hole_is w.0 (subst (Sees (Node part cells) (held_in s) (group g) (cells_in s) (ports.Done g)) w.1 sees_hole)) (sym (ap truth_of w.1) ∙ e)
      turn_agrees Zero e clean =
          let w = zero_is_value (seen (Node part cells) (held_in s) (group g) (cells_in s) (ports.Done g)) e in
          bit_untruth (hole g) w.0 (sym (hole_is_bit g there) ∙ hole_is w.0 (subst (Sees (Node part cells) (held_in s) (group g) (cells_in s) (ports.Done g)) w.1 sees_hole)) (sym (ap truth_of w.1) ∙ e)
          ∙ sym (never_ends (cycle (Node part cells) (held_in s) (group g) (cells_in s)))
      turn_agrees truths.Conflict e clean = absurd (true_false clean)
      turn_agrees truths.Undefined e clean = absurd (true_false clean)

      of_called : (o : Option ℕ) → o ≡ None → (q : Machine.Place (called_machine (Node part cells) (coded_below cells) g o)) → Machine.faults (called_machine (Node part cells) (coded_below cells) g o) q s ≡ false
          → hole g ≡ is_done (Machine.step (called_machine (Node part cells) (coded_below cells) g o) q s)
      of_called None e q clean = turn_agrees (truth_of (seen (Node part cells) (held_in s) (group g) (cells_in s) (ports.Done g))) refl clean
      of_called (Some c) e q clean = absurd cc

      of_kind : (k : GroupKind) → kind_length k ≡ None → (q : Machine.Place (kind_machine (Node part cells) (coded_below cells) g k)) → Machine.faults (kind_machine (Node part cells) (coded_below cells) g k) q s ≡ false
          → hole g ≡ is_done (Machine.step (kind_machine (Node part cells) (coded_below cells) g k) q s)
      of_kind kinds.Plain e q clean = of_called (called (Node part cells) g) none q clean
      of_kind kinds.Comb e q clean = of_called (called (Node part cells) g) none q clean
      of_kind (kinds.Timed n) e q clean = absurd cc

      pub plain_hole : kind_length (group_at part g).kind ≡ None → (q : Machine.Place (LeafMachines.enable (leaf_machines (Node part cells) (coded_below cells)) g)) → Machine.faults (LeafMachines.enable (leaf_machines (Node part cells) (coded_below cells)) g) q s ≡ false
          → hole g ≡ is_done (Machine.step (LeafMachines.enable (leaf_machines (Node part cells) (coded_below cells)) g) q s)
      plain_hole plain q clean = of_kind (group_at part g).kind plain q clean

    -- A TEST
    module _ (form : PlainForm) (place : Place) (test_port : PlacedPort) (comb_of : Option ℕ) (stands : Stands (Node part cells) (Placed form place)) (has : test_in form ≡ Some test_port) (among : (g : ℕ) → comb_of ≡ Some g → In (groups_in form) g)
        (is_with : IsForm part form → IsWith part comb_of) (for : For (Placed form place) (comb_going comb_of)) where
      comb_there : (o : Option ℕ) → comb_of ≡ o → IsWith part o
      comb_there o e = subst (IsWith part) e (is_with (rules.node.ports.forms (record { context = Dynamic; form = form; place = place }) stands))

      comb_plain : (k : GroupKind) → is_comb k ≡ true → k ≡ kinds.Plain → ⊥
      comb_plain k e f = true_false (sym e ∙ ap is_comb f)

      untimed : (k : GroupKind) → is_comb k ≡ true → kind_length k ≡ None
      untimed kinds.Plain e = refl
      untimed kinds.Comb e = refl
      untimed (kinds.Timed n) e = absurd (true_false (sym e))

      comb_only : (o : Option ℕ) (h : ℕ) → IsGoing h (comb_going o) → o ≡ Some h
      comb_only None h k = absurd k.is_in
      comb_only (Some g) h k = by k.is_in
        where
          by : In (comb_going (Some g)) k.one → Some g ≡ Some h
          by (inl e) = ap Some (ap (λ (x : Going). x.group) e ∙ k.named)
          by (inr never) = absurd never

      rests_test : (c : ℕ) (child : Instance) → Reads part (Placed form place) c → cell_at cells c ≡ OfInstance child → RestsAt cells c (bare s)
      rests_test c child reads at =
          rests_apart (Placed form place) (comb_going comb_of) for c child reads at
          (λ h k plain calls. comb_plain (group_at part h).kind (comb_there (Some h) (comb_only comb_of h k)).1 plain)

      -- its set of groups that go
      test_apart : (o : Option ℕ) → comb_of ≡ o → IsApart part (Placed form place) (comb o) Now
      test_apart None e = no_apart (Placed form place) (subst (λ o. For (Placed form place) (comb_going o)) e for)
      test_apart (Some g) e =
          let its = comb_there (Some g) e in
          one_apart (Placed form place) g (among g e) its.0 (untimed (group_at part g).kind its.1) (subst (λ o. For (Placed form place) (comb_going o)) e for)

      test_near : (o : Option ℕ) → Near (comb o) (λ c q. Reads part (Placed form place) c)
      test_near None = near_rests (λ g. None) (Placed form place) rests_test
      test_near (Some g) = near_rests (only_at g) (Placed form place) rests_test

      test_acyclic : (o : Option ℕ) → comb_of ≡ o → IsAcyclic (Node part cells) (comb o)
      test_acyclic None e = (control.rules.circles).0
      test_acyclic (Some g) e = control.rules.groups g (comb_there (Some g) e).0

      abbrev tested_now : Seen
      tested_now = seen (Node part cells) (held_in s) (comb comb_of) (cells_in s) test_port.port

      test_value : (b : BitVector) → seen (Node part cells) (held_in s) (comb comb_of) (cells_in s) test_port.port ≡ Value b → port_value (Node part cells) around v look test_port.port ≡ b
      test_value b e =
          let kept = rules.node.ports.tests (record { context = Dynamic; form = form; place = place }) test_port stands has in
          tested_seen d (component_numbers of_island) part cells rules around v look solves (cells_in s) same_cells (held_in s) (Placed form place) (comb comb_of) (test_apart comb_of refl) (test_near comb_of) test_port.port kept.named.no_hole
          (λ n f. rules.kept.tests (record { context = Dynamic; form = form; place = place }) test_port n stands has f) (λ c m f. tested m test_port (test_among form place test_port has) f) b
          (subst (Sees (Node part cells) (held_in s) (comb comb_of) (cells_in s) test_port.port) e
          (seen_found (Node part cells) (held_in s) (comb comb_of) (cells_in s) (test_acyclic comb_of refl) (control.rules.circles).1 test_port.port))

      abbrev test_bit : Bool
      test_bit = is_set (port_value (Node part cells) around v look test_port.port)

      -- its port in the net
      test_says : value around R (look []) (OfPort test_port.port) ≡ Some (truth_bit (is_set (port_value (Node part cells) around v look test_port.port)))
      test_says =
          let kept = rules.node.ports.tests (record { context = Dynamic; form = form; place = place }) test_port stands has in
          bit_says d (component_numbers of_island) part cells rules.node.ports around v look solves test_port.port kept.named kept.one_bit

      test_known : port_value (Node part cells) around v look test_port.port ≡ truth_bit (is_set (port_value (Node part cells) around v look test_port.port))
      test_known =
          let kept = rules.node.ports.tests (record { context = Dynamic; form = form; place = place }) test_port stands has in
          some_is (port_value (Node part cells) around v look test_port.port) (truth_bit (is_set (port_value (Node part cells) around v look test_port.port)))
          (sym (named_value d (component_numbers of_island) part cells rules.node.ports around v look solves test_port.port kept.named) ∙ test_says)

      test_leads : (o : Truth) → truth_of (seen (Node part cells) (held_in s) (comb comb_of) (cells_in s) test_port.port) ≡ o → unclear (test_of test_port.port o) ≡ false
          → is_set (port_value (Node part cells) around v look test_port.port) ≡ leads (test_of test_port.port o)
      test_leads One e clean =
          let w = one_is_value (seen (Node part cells) (held_in s) (comb comb_of) (cells_in s) test_port.port) e in
          bit_truth (is_set (port_value (Node part cells) around v look test_port.port)) w.0 (sym test_known ∙ test_value w.0 w.1) (sym (ap truth_of w.1) ∙ e)
      test_leads Zero e clean =
          let w = zero_is_value (seen (Node part cells) (held_in s) (comb comb_of) (cells_in s) test_port.port) e in
          bit_untruth (is_set (port_value (Node part cells) around v look test_port.port)) w.0 (sym test_known ∙ test_value w.0 w.1) (sym (ap truth_of w.1) ∙ e)
      test_leads truths.Conflict e clean = absurd (true_false clean)
      test_leads truths.Undefined e clean = absurd (true_false clean)

      pub test_agrees : unclear (test (Node part cells) (held_in s) test_port.port comb_of (cells_in s)) ≡ false
          → is_true (unwrap_or (value around R (look []) (OfPort test_port.port)) (zero_wide 1)) ≡ leads (test (Node part cells) (held_in s) test_port.port comb_of (cells_in s))
      test_agrees clean =
          ap (λ o. is_true (unwrap_or o (zero_wide 1))) test_says ∙ true_bit (is_set (port_value (Node part cells) around v look test_port.port))
          ∙ test_leads (truth_of (seen (Node part cells) (held_in s) (comb comb_of) (cells_in s) test_port.port)) refl clean

    -- ALL OF THEM, where calls agree
    abbrev port : PortRef → Bool
    port q = is_true (unwrap_or (value around R (look []) (OfPort q)) (zero_wide 1))

    module _ (calls : (g : ℕ) (place : Place) (stand : Machine.Place (LeafMachines.enable (leaf_machines (Node part cells) (coded_below cells)) g)) (c : ℕ) → In (running (leaf_machines (Node part cells) (coded_below cells)) part.control p) (AGroup g place stand)
        → called (Node part cells) g ≡ Some c → Machine.faults (LeafMachines.enable (leaf_machines (Node part cells) (coded_below cells)) g) stand s ≡ false
        → hole g ≡ is_done (Machine.step (LeafMachines.enable (leaf_machines (Node part cells) (coded_below cells)) g) stand s)) where
      enable_owes : (g : ℕ) (place : Place) → Stands (Node part cells) (Placed (Enable g) place) → (q : Machine.Place (LeafMachines.enable (leaf_machines (Node part cells) (coded_below cells)) g))
          → In (running (leaf_machines (Node part cells) (coded_below cells)) part.control p) (AGroup g place q)
          → For (Placed (Enable g) place) (enable_going (leaf_machines (Node part cells) (coded_below cells)) (leaf_codings (Node part cells) (coded_below cells)) part (lowered_component part).islands hole of_enable of_form g (group_length part g) q)
          → Machine.faults (LeafMachines.enable (leaf_machines (Node part cells) (coded_below cells)) g) q s ≡ false → (o : Option ℕ) → group_length part g ≡ o
          → enable_agrees (leaf_machines (Node part cells) (coded_below cells)) (leaf_codings (Node part cells) (coded_below cells)) part (lowered_component part).islands s hole port g o q
      enable_owes g place stands q run for clean (Some cycles) e = tt
      enable_owes g place stands q run for clean None e = by (called (Node part cells) g) refl
        where
          by : (o : Option ℕ) → called (Node part cells) g ≡ o → hole g ≡ is_done (Machine.step (LeafMachines.enable (leaf_machines (Node part cells) (coded_below cells)) g) q s)
          by (Some c) f = calls g place q c run f clean
          by None f =
              plain_hole g place stands
              (enable_going (leaf_machines (Node part cells) (coded_below cells)) (leaf_codings (Node part cells) (coded_below cells)) part (lowered_component part).islands hole of_enable of_form g (group_length part g) q)
              for (its_going g q) f e q clean

      pub node_agrees : Machine.faults (machine_of (leaf_machines (Node part cells) (coded_below cells)) part.control) p s ≡ false
          → StatementAgrees (leaf_machines (Node part cells) (coded_below cells)) (leaf_codings (Node part cells) (coded_below cells)) part (lowered_component part).islands s hole port part.control p
      node_agrees clean =
          agrees (Node part cells) (coded_below cells) (leaf_codings (Node part cells) (coded_below cells)) control (lowered_component part).islands hole of_enable of_form names_enable names_form acts says s port
          (λ r. In (running (leaf_machines (Node part cells) (coded_below cells)) part.control p) r) enable_owes
          (λ form place t c stands has among is_with for clear. test_agrees form place t c stands has among is_with for clear) part.control (control_stands (Node part cells) part.control refl) p (λ r j. j) root_goes clean
