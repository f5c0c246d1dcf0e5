-- In a cycle with go each child of a node makes its own step, where a group that runs and goes on calls it, or waits: none drives it, or
-- a call that ends, or it is at its own end while its caller captures.
use Rattle.std.proofs.Common.{◌≡◌, ℕ, suc, ◌+◌, ◌<◌, ◌⊎◌, inl, inr, Bool, true, false, ◌||◌, not, List, [], ◌∷◌, length, Option, Some, None, unwrap_or, if◌then◌else◌, refl, sym, ap, ◌∙◌, subst}
use Rattle.cx_text.specs.declared.places.Place.{Place}
use Rattle.cx_bits.specs.BitVector.{BitVector}
use Rattle.cx_meaning.specs.declared.ports.PortRef.{PortRef}
use Rattle.cx_meaning.specs.declared.ports.PortRef.TheVariants as ports
use Rattle.cx_meaning.specs.declared.sights.Seen.TheVariants.{Value}
use Rattle.cx_meaning.specs.declared.kinds.GroupKind.{GroupKind}
use Rattle.cx_meaning.specs.declared.kinds.GroupKind.TheVariants as kinds
use Rattle.cx_meaning.specs.Designs.{PlainComponent, PlainDesign, PlainForm, Enable, Placed, group_at}
use Rattle.cx_meaning.specs.Instances as instances
use Rattle.cx_meaning.specs.Instances.{Instance, Cells, OfInstance, cell_at, Path, State, idle_below}
use Rattle.cx_meaning.specs.Active.{capture}
use Rattle.cx_text.specs.Members.{In}
use Rattle.cx_meaning.specs.Cycles.{Fault, Ended, Goes, Faults, cycle}
use Rattle.cx_meaning.specs.Control.{form_drives, group_drives, drives, groups_in, groups_drive}
use Rattle.cx_meaning.specs.Islands.{group_length, kind_length, is_one, turn_of}
use Rattle.cx_meaning.specs.Calls.{called, captures}
use Rattle.cx_meaning.specs.Running.{leaves, control_below}
use Rattle.cx_rules.specs.Items.{is_plain, is_comb}
use Rattle.cx_rules.specs.Footprints.{Reads}
use Rattle.cx_frames.specs.Rests.{IsUndriven}
use Rattle.cx_lockstep.specs.Worlds.{Control, At, Done, Machine, edge_of, is_done}
use Rattle.cx_lockstep.specs.Statements.{LeafMachines}
use Rattle.cx_lockstep.specs.Running.{Running, AGroup, AnIsland, leaf_of, leaf_writes, running}
use Rattle.cx_lockstep.proofs.WriteLaws.{Alone, alone}
use Rattle.cx_control.specs.Codings.{Coding}
use Rattle.cx_control.specs.Spots.{Spot, Cell, Number, Holds, Kept, cells_in, held_in, spots_of, reads_spot}
use Rattle.cx_control.specs.Numbers.{world_of, Rests}
use Rattle.cx_control.specs.Leaves.{Coded, code_of, child_at, written, turn_writes, turn_faults, inputs_now, captured_now, hole_now, capture_now, child_writes, child_faults, leaf_machines}
use Rattle.cx_control.specs.Controls.{coded_control, coded_below, leaf_codings}
use Rattle.cx_control.specs.Standing.{bare, bare_under, Calling, runs, at_end, captured, GoodAt, good_below}
use Rattle.cx_control.specs.InstanceRules.{Stands}
use Rattle.cx_control.specs.CallRules.{CallRules}
use Rattle.cx_control.specs.ControlRules.{ControlRules}
use Rattle.cx_control.proofs.CallLaws.{ChildLaws}
use Rattle.cx_control.proofs.LeafLaws.{true_false, ActsAs, IsQuietEnd, turn_number, kind_ends, island_number, kind_number}
use Rattle.cx_control.proofs.ControlLaws.{IslandsDo}
use Rattle.cx_control.proofs.StandLaws.{parts_stand}
use Rattle.cx_control.proofs.KeepLaws as keeps
use Rattle.cx_control.proofs.KeepLaws.{KeepsBelow}
use Rattle.cx_net.specs.NetMeaning.{NetState, NetLook, NetAround, APort, AHole, is_true, truth_bit, around_child}
use Rattle.cx_control.specs.Flows.{zero_of}
use Rattle.cx_static.specs.Lowering.{lowered_component}
use Rattle.cx_wiring.specs.Assignments.{owner_drives}
use Rattle.cx_wiring.specs.PartNets.{wired_in, timers_of}
use Rattle.cx_wiring.proofs.TakingLemmas.{true_bit}
use Rattle.cx_wiring_cycles.specs.Shown.{Going, told, going}
use Rattle.cx_wiring_runs.proofs.NodeRules.{NodeRules}
use Rattle.cx_wiring_runs.specs.Blocks.{block, block_below, Shows, Solves, HasGo}
use Rattle.cx_wiring_runs.specs.PortValues.{own_offset, goes_now, offset_now, active_now}
use Rattle.cx_wiring_runs.proofs.NodeCells.{CellRules, child_waits}
use Rattle.cx_wiring_runs.proofs.NodeRuns.{ChildMoves, ChildSteps, moves, waits}
use Rattle.cx_wiring_runs.proofs.GoingLaws.{told_in, HoleAgrees, Source, of_group, of_timed, of_static, of_comb, going_source, comb_is}
use Rattle.cx_text.proofs.BoolLaws.{and_left}
use Rattle.cx_meaning.proofs.InstancesLemmas.{not_just}
use Rattle.cx_meaning.proofs.DesignsLemmas.{driver_there}
use Rattle.cx_meaning.proofs.ControlLemmas.{called_child}

-- a group is not both plain and comb
plain_comb : {A : Type 0} (kind : GroupKind) → is_plain kind ≡ true → is_comb kind ≡ true → A
plain_comb kinds.Plain e f = true_false false f refl
plain_comb kinds.Comb e f = true_false false e refl
plain_comb (kinds.Timed n) e f = true_false false e refl

module _ (d : PlainDesign) (numbers : Instance → NetState → ℕ → ℕ) (part : PlainComponent) (cells : Cells) (rules : NodeRules d (instances.Node part cells)) (own : CellRules (instances.Node part cells))
    (control : ControlRules (instances.Node part cells)) (islands : IslandsDo (instances.Node part cells)) (below : (c : ℕ) (child : Instance) → cell_at cells c ≡ OfInstance child → ChildLaws cells c (coded_below cells c))
    (kept : (c : ℕ) (child : Instance) → cell_at cells c ≡ OfInstance child → KeepsBelow cells c) where
  abbrev i : Instance
  i = instances.Node part cells

  abbrev P : LeafMachines Spot Holds Fault
  P = leaf_machines (instances.Node part cells) (coded_below cells)

  abbrev M : Machine Spot Holds
  M = Coded.machine (coded_control (instances.Node part cells))

  abbrev kid : ℕ → Coded
  kid c = coded_below cells c

  module _ (p : Machine.Place (Coded.machine (coded_control (instances.Node part cells)))) (s : Kept) (v : NetState) (around : NetAround) (look : NetLook)
      (good : GoodAt (instances.Node part cells) (coded_below cells) (good_below cells) (running (leaf_machines (instances.Node part cells) (coded_below cells)) part.control p) (bare s))
      (ok : Machine.faults (Coded.machine (coded_control (instances.Node part cells))) p s ≡ false)
      (shows : Shows (block (wired_in d) timers_of numbers (instances.Node part cells)) (At p) s v) (solves : Solves (block (wired_in d) timers_of numbers (instances.Node part cells)) around v look)
      (hole : ℕ → Bool) (port : PortRef → Bool)
      (of_enable : (g : ℕ) → Machine.Place (LeafMachines.enable (leaf_machines (instances.Node part cells) (coded_below cells)) g) → List Going)
      (of_island : (form : PlainForm) → Machine.Place (LeafMachines.island (leaf_machines (instances.Node part cells) (coded_below cells)) form) → List Going)
      (static_own : (form : PlainForm) (stand : Machine.Place (LeafMachines.island (leaf_machines (instances.Node part cells) (coded_below cells)) form)) (x : Going) → In (of_island form stand) x → In (groups_in form) x.group)
      (timed_own : (g : ℕ) (stand : Machine.Place (LeafMachines.enable (leaf_machines (instances.Node part cells) (coded_below cells)) g)) (x : Going) → In (of_enable g stand) x → x.group ≡ g)
      (goes : (g : ℕ) → g < length part.groups → look [] (AHole (length part.groups + g))
      ≡ told g (Some (truth_bit false)) (going (leaf_machines (instances.Node part cells) (coded_below cells)) (leaf_codings (instances.Node part cells) (coded_below cells)) part (lowered_component part).islands hole of_enable of_island part.control p))
      (agrees : (r : Running (leaf_machines (instances.Node part cells) (coded_below cells))) → In (running (leaf_machines (instances.Node part cells) (coded_below cells)) part.control p) r
      → HoleAgrees (leaf_machines (instances.Node part cells) (coded_below cells)) (leaf_codings (instances.Node part cells) (coded_below cells)) part (lowered_component part).islands s hole port r) where
    abbrev R : List (Running P)
    R = running (leaf_machines (instances.Node part cells) (coded_below cells)) part.control p

    -- a group that goes, and why
    record GoesBy (h : ℕ) : Type 0 where
      going_it : Going
      group_is : going_it.group ≡ h
      goes_on : going_it.goes ≡ true
      source : Source (leaf_machines (instances.Node part cells) (coded_below cells)) (leaf_codings (instances.Node part cells) (coded_below cells)) part (lowered_component part).islands hole of_enable of_island
          (Stands (instances.Node part cells)) (parts_stand (instances.Node part cells)) going_it (running (leaf_machines (instances.Node part cells) (coded_below cells)) part.control p)

    goes_by : (h : ℕ) → h < length part.groups → goes_now (instances.Node part cells) around v look h ≡ true → GoesBy h
    goes_by h there on =
        by (told_in h (Some (truth_bit false)) _)
      where
        it_goes : is_true (unwrap_or (look [] (AHole (length part.groups + h))) (zero_of (Some 1))) ≡ true
        it_goes = and_left _ (owner_drives (lowered_component part) (Some h)) on

        by : (told h (Some (truth_bit false)) (going (leaf_machines (instances.Node part cells) (coded_below cells)) (leaf_codings (instances.Node part cells) (coded_below cells)) part (lowered_component part).islands hole of_enable of_island part.control p) ≡ Some (truth_bit false))
            ⊎ ((x : Going) × In (going (leaf_machines (instances.Node part cells) (coded_below cells)) (leaf_codings (instances.Node part cells) (coded_below cells)) part (lowered_component part).islands hole of_enable of_island part.control p) x × (x.group ≡ h)
            × (told h (Some (truth_bit false)) (going (leaf_machines (instances.Node part cells) (coded_below cells)) (leaf_codings (instances.Node part cells) (coded_below cells)) part (lowered_component part).islands hole of_enable of_island part.control p) ≡ Some (truth_bit x.goes)))
            → GoesBy h
        by (inl off) = true_false false (sym (ap (λ o. is_true (unwrap_or o (zero_of (Some 1)))) (goes h there ∙ off)) ∙ it_goes) refl
        by (inr (x, m, is, so)) = record {
          going_it = x;
          group_is = is;
          goes_on = sym (true_bit x.goes) ∙ sym (ap (λ o. is_true (unwrap_or o (zero_of (Some 1)))) (goes h there ∙ so)) ∙ it_goes;
          source = going_source (leaf_machines (instances.Node part cells) (coded_below cells)) (leaf_codings (instances.Node part cells) (coded_below cells)) part (lowered_component part).islands hole of_enable of_island
              (Stands (instances.Node part cells)) (parts_stand (instances.Node part cells)) x part.control (keeps.root part cells control islands below kept) p m;
        }

    -- a leaf that ends in this cycle
    abbrev EndsNow : Running P → Type 0
    EndsNow (AGroup g place stand) = is_done (Machine.step (LeafMachines.enable (leaf_machines (instances.Node part cells) (coded_below cells)) g) stand s) ≡ true
    EndsNow (AnIsland form place stand) = Unit {0}

    stands_of : (r : Running P) → In R r → Stands (instances.Node part cells) (leaf_of P r)
    stands_of r m = keeps.run_stands part cells control islands below kept (At p) r m

    one_group : (g c : ℕ) → group_drives part g c ≡ true → (group_drives part g c || false) ≡ true
    one_group g c e = ap (λ b. b || false) e

    group_among : (gs : List ℕ) (g c : ℕ) → In gs g → group_drives part g c ≡ true → groups_drive part gs c ≡ true
    group_among [] g c m e = absurd m
    group_among (x ∷ xs) g c (inl same) e = ap (λ b. b || groups_drive part xs c) (ap (λ y. group_drives part y c) same ∙ e)
    group_among (x ∷ xs) g c (inr m) e = or_later (group_drives part x c) (groups_drive part xs c) (group_among xs g c m e)
      where
        or_later : (a b : Bool) → b ≡ true → (a || b) ≡ true
        or_later true b f = refl
        or_later false b f = f

    -- A COMPONENT CELL that only leaves drive which end has no group that goes
    module _ (c : ℕ) (child : Instance) (at : cell_at cells c ≡ OfInstance child) (ended : (r : Running P) → In R r → drives part (leaf_of P r) c ≡ true → EndsNow r) where
      never : (h : ℕ) → group_drives part h c ≡ true → GoesBy h → ⊥
      never h driven by = of_source by.source
        where
          driven_by : (g : ℕ) → g ≡ h → group_drives part g c ≡ true
          driven_by g e = ap (λ k. group_drives part k c) e ∙ driven

          of_source : Source (leaf_machines (instances.Node part cells) (coded_below cells)) (leaf_codings (instances.Node part cells) (coded_below cells)) part (lowered_component part).islands hole of_enable of_island
              (Stands (instances.Node part cells)) (parts_stand (instances.Node part cells)) by.going_it (running (leaf_machines (instances.Node part cells) (coded_below cells)) part.control p) → ⊥
          of_source (of_group g place stand m plain is) =
              let group_so : g ≡ h = sym (ap (λ (x : Going). x.group) is) ∙ by.group_is in
              let ends = ended (AGroup g place stand) m (one_group g c (driven_by g group_so)) in
              true_false (not (hole g)) (sym (ap (λ (x : Going). x.goes) is) ∙ by.goes_on) (ap not (agrees (AGroup g place stand) m plain ∙ ends))
          of_source (of_timed g place stand m cycles is k) =
              let group_so : g ≡ h = sym (timed_own g stand by.going_it k) ∙ by.group_is in
              let e = control.calls_it g place c child (stands_of (AGroup g place stand) m) at (one_group g c (driven_by g group_so)) in
              let plain = CallRules.plain (control.calls g place c (stands_of (AGroup g place stand) m) e) in
              some_none cycles (sym is ∙ ap kind_length plain)
            where
              some_none : (n : ℕ) → ◌≡◌ {A = Option ℕ} (Some n) None → ⊥
              some_none n e = cc
          of_source (of_static form place stand m k) =
              control.no_island_calls form place c child (stands_of (AnIsland form place stand) m) (keeps.run_leaf part cells control islands below kept (At p) (AnIsland form place stand) m) at
              (group_among (groups_in form) by.going_it.group c (static_own form stand by.going_it k) (driven_by by.going_it.group by.group_is))
          of_source (of_comb g t stands has is) =
              let group_so : g ≡ h = sym (ap (λ (x : Going). x.group) is) ∙ by.group_is in
              plain_comb (group_at part g).kind (own.plain_part g c child at (driven_by g group_so)) (comb_is (leaf_machines (instances.Node part cells) (coded_below cells)) (leaf_codings (instances.Node part cells) (coded_below cells)) part (lowered_component part).islands hole of_enable of_island
              (Stands (instances.Node part cells)) (λ form place u. own.forms _ u) t g stands has)

      pub undriven : IsUndriven part (active_now (instances.Node part cells) around v look) c
      undriven h driven = by (goes_now (instances.Node part cells) around v look h) refl
        where
          by : (b : Bool) → goes_now (instances.Node part cells) around v look h ≡ b → (active_now (instances.Node part cells) around v look).offset h ≡ None
          by false e = ap (λ b. if b then Some (own_offset (group_length part h) (offset_now (instances.Node part cells) around v look h)) else None) e
          by true e = absurd (never h driven (goes_by h (driver_there part h c driven) e))

    -- A CALL that goes on: what its child's go and inputs are
    module _ (calls_go : (g : ℕ) (place : Place) (stand : Machine.Place (LeafMachines.enable (leaf_machines (instances.Node part cells) (coded_below cells)) g)) (c : ℕ) → In (running (leaf_machines (instances.Node part cells) (coded_below cells)) part.control p) (AGroup g place stand)
        → called (instances.Node part cells) g ≡ Some c → is_done (Machine.step (LeafMachines.enable (leaf_machines (instances.Node part cells) (coded_below cells)) g) stand s) ≡ false
        → (q : Machine.Place (Coded.machine (coded_below cells c))) → child_at (coded_below cells c) c s ≡ At q
        → HasGo (block_below (wired_in d) timers_of numbers cells (timers_of part) c) (around_child c (look [])) true
        × ((n : ℕ) (x : BitVector) → inputs_now (instances.Node part cells) (coded_below cells c) g c (captures (instances.Node part cells) g) s n ≡ Value x → look [] (APort (ports.Cell c (suc n))) ≡ Some x)) where
      abbrev StepsAt : ℕ → Type 0
      StepsAt c = ChildSteps (wired_in d) timers_of numbers part cells p s v look c

      -- where nothing is written there and no group drives it that goes
      quiet : (c : ℕ) (child : Instance) → cell_at cells c ≡ OfInstance child → ((r : Running P) → In R r → drives part (leaf_of P r) c ≡ true → EndsNow r)
          → ((x : Spot) → ((r : Running P) → spots_of (drives part (leaf_of P r)) x ≡ drives part (leaf_of P r) c) → M.writes p s x ≡ None) → StepsAt c
      quiet c child at ended none = waits (record {
        idle = inl (child_waits d numbers part cells rules own v around look solves c child at (undriven c child at ended));
        cells_stay = λ path. ap (λ o. edge_of o (idle_below cells c path (s (Cell (c ∷ path))))) (none (Cell (c ∷ path)) (λ r. refl));
        numbers_stay = λ path n. none (Number (c ∷ path) n) (λ r. refl);
      })

      module _ (g : ℕ) (place : Place) (stand : Machine.Place (LeafMachines.enable (leaf_machines (instances.Node part cells) (coded_below cells)) g)) (c : ℕ) (child : Instance) (at : cell_at cells c ≡ OfInstance child)
          (m : In (running (leaf_machines (instances.Node part cells) (coded_below cells)) part.control p) (AGroup g place stand)) (e : called (instances.Node part cells) g ≡ Some c) where
        its_stands : Stands (instances.Node part cells) (Placed (Enable g) place)
        its_stands = stands_of (AGroup g place stand) m

        drives_it : drives part (Placed (Enable g) place) c ≡ true
        drives_it = keeps.drives_it part cells control islands below kept g place c its_stands e

        abbrev Hole : Bool
        Hole = hole_now (instances.Node part cells) (coded_below cells c) g c (captures (instances.Node part cells) g) (child_at (coded_below cells c) c s) s

        ends_is : is_done (Machine.step (LeafMachines.enable (leaf_machines (instances.Node part cells) (coded_below cells)) g) stand s) ≡ Hole
        ends_is = ActsAs.ends (keeps.acts part cells control islands below kept p s good ok g place stand c m e)

        -- it ends
        ends_quiet : is_done (Machine.step (LeafMachines.enable (leaf_machines (instances.Node part cells) (coded_below cells)) g) stand s) ≡ true → StepsAt c
        ends_quiet over = quiet c child at only (λ x at_c. keeps.written_by part cells control islands below kept p s good ok x (AGroup g place stand) m (at_c (AGroup g place stand) ∙ drives_it)
            ∙ IsQuietEnd.nothing (kind_ends (instances.Node part cells) (coded_below cells) s g (group_at part g).kind stand) over x)
          where
            only : (r : Running P) → In R r → drives part (leaf_of P r) c ≡ true → EndsNow r
            only r n f = subst EndsNow
                (Alone.is_only (alone (world_of (instances.Node part cells)) (Rests (instances.Node part cells)) (leaves (instances.Node part cells) (control_below cells)) (leaf_machines (instances.Node part cells) (coded_below cells))
                (λ t. spots_of (drives part t)) (λ t. reads_spot (Reads part t)) (Stands (instances.Node part cells)) (keeps.law part cells control islands below kept) s (Cell (c ∷ [])) (AGroup g place stand) drives_it part.control
                (keeps.root part cells control islands below kept) p m) r n f) over

        -- it goes on
        module _ (goes_on : is_done (Machine.step (LeafMachines.enable (leaf_machines (instances.Node part cells) (coded_below cells)) g) stand s) ≡ false) where
          hole_off : Hole ≡ false
          hole_off = sym ends_is ∙ goes_on

          clean : child_faults (instances.Node part cells) (coded_below cells c) g c (captures (instances.Node part cells) g) (child_at (coded_below cells c) c s) s ≡ false
          clean = keeps.no_fault part cells control islands below kept p s good ok g place stand c m e hole_off

          write_of : (k : Control (Machine.Place (Coded.machine (coded_below cells c)))) → child_at (coded_below cells c) c s ≡ k → (x : Spot) → spots_of (drives part (Placed (Enable g) place)) x ≡ true
              → M.writes p s x ≡ child_writes (instances.Node part cells) (coded_below cells c) g c (captures (instances.Node part cells) g) k s x
          write_of k is x f =
              keeps.writes_so part cells control islands below kept p s good ok g place stand c m e hole_off x f
              ∙ ap (λ q. child_writes (instances.Node part cells) (coded_below cells c) g c (captures (instances.Node part cells) g) q s x) is

          here : {A : Type 0} (o : Option A) → (if instances.just c c then o else None) ≡ o
          here = keeps.here part cells control islands below kept p s good ok g place stand c m e hole_off

          moves_on : (q : Machine.Place (Coded.machine (coded_below cells c))) → Coding.IsFine (Coded.coding (coded_below cells c)) q → ((n : ℕ) → s (Number (c ∷ []) n) ≡ code_of (coded_below cells c) (At q) n)
              → good_below cells c (At q) (bare_under c (bare s)) → ChildMoves (wired_in d) timers_of numbers part cells p s v look c
          moves_on q fine code gd =
              let at_q : child_at (coded_below cells c) c s ≡ At q = keeps.decoded part cells control islands below kept g place c its_stands e s (At q) fine code in
              let go = calls_go g place stand c m e goes_on q at_q in
              record {
                inputs = inputs_now (instances.Node part cells) (coded_below cells c) g c (captures (instances.Node part cells) g) s;
                stand = q;
                fine = fine;
                code = code;
                good = gd;
                clean = sym (ap (λ k. child_faults (instances.Node part cells) (coded_below cells c) g c (captures (instances.Node part cells) g) k s) at_q) ∙ clean;
                go = go.0;
                inputs_fit = go.1;
                cells_written = λ path. write_of (At q) at_q (Cell (c ∷ path)) drives_it ∙ here _;
                own_written = λ n. write_of (At q) at_q (Number (c ∷ []) n) drives_it ∙ here _;
                below_written = λ f path n. write_of (At q) at_q (Number (c ∷ f ∷ path) n) drives_it ∙ here _;
              }

          hole_at : (k : Control (Machine.Place (Coded.machine (coded_below cells c)))) (b : Bool) → child_at (coded_below cells c) c s ≡ k → captures (instances.Node part cells) g ≡ b
              → Hole ≡ (if b then captured_now (instances.Node part cells) (coded_below cells c) g c (captures (instances.Node part cells) g) s else is_done k)
          hole_at = keeps.hole_at part cells control islands below kept p s good ok g place stand c m e

          -- the child is at its end, and the caller captures
          captures_now : ((n : ℕ) → s (Number (c ∷ []) n) ≡ code_of (coded_below cells c) Done n) → good_below cells c Done (bare_under c (bare s)) → captures (instances.Node part cells) g ≡ true → StepsAt c
          captures_now code gd caps = waits (record {
            idle = inr (shows.below c [] 0 ∙ code 0);
            cells_stay = λ path. cell_stays path (cycle (instances.Node part cells) (held_in s) (capture g c) (cells_in s)) refl;
            numbers_stay = λ path n. captured_write (Number (c ∷ path) n) drives_it
                ∙ turn_number (instances.Node part cells) (coded_below cells) s (form_drives part (Enable g)) (capture_now (instances.Node part cells) (coded_below cells c) g c (captures (instances.Node part cells) g) s) (c ∷ path) n;
          })
            where
              at_its_end : child_at (coded_below cells c) c s ≡ Done
              at_its_end = keeps.decoded part cells control islands below kept g place c its_stands e s Done tt code

              captured_write : (x : Spot) → spots_of (drives part (Placed (Enable g) place)) x ≡ true
                  → M.writes p s x ≡ turn_writes (form_drives part (Enable g)) (capture_now (instances.Node part cells) (coded_below cells c) g c (captures (instances.Node part cells) g) s) x
              captured_write x f =
                  write_of Done at_its_end x f
                  ∙ ap (λ b. if b then turn_writes (form_drives part (Enable g)) (capture_now (instances.Node part cells) (coded_below cells c) g c (captures (instances.Node part cells) g) s) x else None) caps

              turn_clean : turn_faults (capture_now (instances.Node part cells) (coded_below cells c) g c (captures (instances.Node part cells) g) s) ≡ false
              turn_clean =
                  sym (ap (λ b. if b then turn_faults (capture_now (instances.Node part cells) (coded_below cells c) g c (captures (instances.Node part cells) g) s) else false) caps)
                  ∙ sym (ap (λ k. child_faults (instances.Node part cells) (coded_below cells c) g c (captures (instances.Node part cells) g) k s) at_its_end) ∙ clean

              cell_stays : (path : Path) (t : Ended) → cycle (instances.Node part cells) (held_in s) (capture g c) (cells_in s) ≡ t
                  → edge_of (M.writes p s (Cell (c ∷ path))) (idle_below cells c path (s (Cell (c ∷ path)))) ≡ idle_below cells c path (s (Cell (c ∷ path)))
              cell_stays path (Faults fault) is = true_false true refl (ap (λ t. turn_faults (turn_of t)) (sym is) ∙ turn_clean)
              cell_stays path (Goes left) is =
                  ap (λ o. edge_of o (idle_below cells c path (s (Cell (c ∷ path)))))
                  (captured_write (Cell (c ∷ path)) drives_it ∙ ap (λ t. turn_writes (form_drives part (Enable g)) (turn_of t) (Cell (c ∷ path))) is ∙ ap (λ b. written b left (Cell (c ∷ path))) drives_it)
                  ∙ control.rules.children child (held_in s) (capture g c) (cells_in s) left c at is path
                  ∙ sym (keeps.end_rests part cells control islands below kept g place c its_stands e (bare s) code gd path)

          going_on : Calling (instances.Node part cells) (coded_below cells) (good_below cells) g c (bare s) → StepsAt c
          going_on (runs q fine code gd is_open) = moves (moves_on q fine code gd)
          going_on (at_end code gd is_open) = by (captures (instances.Node part cells) g) refl
            where
              by : (b : Bool) → captures (instances.Node part cells) g ≡ b → StepsAt c
              by true caps = captures_now code gd caps
              by false caps = true_false Hole (hole_at Done false (keeps.decoded part cells control islands below kept g place c its_stands e s Done tt code) caps) hole_off
          going_on (captured rests caps is_set) =
              true_false Hole
              (ap (λ b. if b then captured_now (instances.Node part cells) (coded_below cells c) g c (captures (instances.Node part cells) g) s else is_done (child_at (coded_below cells c) c s)) caps ∙ ap is_one (is_set (held_in s))) hole_off

        called_steps : StepsAt c
        called_steps = by (is_done (Machine.step (LeafMachines.enable (leaf_machines (instances.Node part cells) (coded_below cells)) g) stand s)) refl
          where
            by : (b : Bool) → is_done (Machine.step (LeafMachines.enable (leaf_machines (instances.Node part cells) (coded_below cells)) g) stand s) ≡ b → StepsAt c
            by true over = ends_quiet over
            by false goes_on = going_on goes_on (good.calls g place stand c m e)

      -- EACH CHILD
      pub child_steps : (c : ℕ) (child : Instance) → cell_at cells c ≡ OfInstance child → ChildSteps (wired_in d) timers_of numbers part cells p s v look c
      child_steps c child at = by (keeps.driver_of part cells control islands below kept p s good ok c R)
        where
          by : ((r : Running P) × In R r × (drives part (leaf_of P r) c ≡ true)) ⊎ ((r : Running P) → In R r → drives part (leaf_of P r) c ≡ false) → StepsAt c
          by (inl (AGroup g place stand, m, f)) = called_steps g place stand c child at m (control.calls_it g place c child (stands_of (AGroup g place stand) m) at f)
          by (inl (AnIsland form place stand, m, f)) =
              absurd (control.no_island_calls form place c child (stands_of (AnIsland form place stand) m) (keeps.run_leaf part cells control islands below kept (At p) (AnIsland form place stand) m) at f)
          by (inr free) = quiet c child at (λ r m f. true_false (drives part (leaf_of P r) c) f (free r m)) (λ x at_c. keeps.none_written part cells control islands below kept p s good ok x (λ r m. at_c r ∙ free r m))

    -- BELOW WHAT IS NO COMPONENT nothing is written
    pub nothing_written : (c : ℕ) → ((child : Instance) → cell_at cells c ≡ OfInstance child → ⊥) → (path : Path) (n : ℕ) → Machine.writes (Coded.machine (coded_control (instances.Node part cells))) p s (Number (c ∷ path) n) ≡ None
    nothing_written c none path n = by (keeps.driver_of part cells control islands below kept p s good ok c R)
      where
        away : (g k : ℕ) → called (instances.Node part cells) g ≡ Some k → instances.just k c ≡ false
        away g k e = let child = called_child cells (group_at part g).assigns k e in not_just k c (λ same. none child.0 (ap (cell_at cells) same ∙ child.1))

        of_leaf : (r : Running P) → leaf_writes P r s (Number (c ∷ path) n) ≡ None
        of_leaf (AGroup g place stand) = kind_number (instances.Node part cells) (coded_below cells) s c path n g (group_at part g).kind (away g) stand
        of_leaf (AnIsland form place stand) = island_number (instances.Node part cells) (coded_below cells) s c path n form stand

        by : ((r : Running P) × In R r × (drives part (leaf_of P r) c ≡ true)) ⊎ ((r : Running P) → In R r → drives part (leaf_of P r) c ≡ false) → M.writes p s (Number (c ∷ path) n) ≡ None
        by (inl (r, m, f)) = keeps.written_by part cells control islands below kept p s good ok (Number (c ∷ path) n) r m f ∙ of_leaf r
        by (inr free) = keeps.none_written part cells control islands below kept p s good ok (Number (c ∷ path) n) (λ r m. free r m)
