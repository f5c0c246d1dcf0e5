-- Every driver of a component's net drives a register, a wire or a hole that is there; those of a statement drive what is its own.
use Rattle.std.proofs.Common.{◌≡◌, ℕ, suc, ◌+◌, ◌≤◌, ◌<◌, ◌⊎◌, inl, inr, List, length, replicate, refl, ap₂, ◌∙◌, arith, length-append, ◌-◌, ◌++◌, Some, slice_get}
use Rattle.std.proofs.lemmas.List.{length-replicate}
use Rattle.cx_meaning.specs.Designs.{PlainStatement}
use Rattle.cx_net.specs.Nets.{PlainNetTarget, ToPort, ToRegister, ToWire, ToHole, ToDone}
use Rattle.cx_static.specs.Islands.{PlainIsland, PlainLowered, PlainLowereds}
use Rattle.cx_wiring.specs.Counts.{wires_of, registers_of}
use Rattle.cx_wiring.specs.Stands.{Stand}
use Rattle.cx_wiring.specs.IslandDrivers.{island_wires}
use Rattle.cx_wiring.specs.Control.{drivers_of}
use Rattle.cx_wiring.specs.Assignments.{driven_assigns, assigns_wires}
use Rattle.cx_wiring.specs.Trees.{by_target, tree_widths}
use Rattle.cx_wiring.specs.Wiring.{groups, first_of_control, first_of_assigns, bits, plain_wires, plain_drivers, component_driven, target_width, net_component}
use Rattle.cx_wiring.specs.Bounds.{Bounds, IsThere, AllDrive, AreThere, IslandsName, StatementNames, AssignsName, bounds_of}
use Rattle.cx_wiring.proofs.RoomLemmas.{drive_both, Room, Wires}
use Rattle.cx_wiring.proofs.ControlTargets.{drivers_drive, control_drives}
use Rattle.cx_wiring.proofs.AssignTargets.{assigns_drive}
use Rattle.cx_wiring.proofs.TreeTargets.{by_target_drive, all_driven, trees_drive}
use Rattle.cx_wiring.proofs.FitLemmas.{slice_replicate}
use Rattle.cx_text.proofs.ListLaws.{behind}

-- a target is a statement's own: a wire or a register of it, the register of its region, or it is none of control: a port, a go of
-- a group, a wire before those of control
abbrev pub IsOwn : ℕ → List PlainIsland → Stand → PlainStatement → PlainNetTarget → Type 0
IsOwn count islands x s (ToPort p) = Unit {0}
IsOwn count islands x s (ToRegister n) = (n ≡ x.region) ⊎ ((x.register ≤ n) × (n < x.register + length (registers_of islands s)))
IsOwn count islands x s (ToWire n) = (n < count + island_wires islands) ⊎ ((x.wire ≤ n) × (n < x.wire + wires_of s))
IsOwn count islands x s (ToHole n) = count ≤ n
IsOwn count islands x s ToDone = ⊥

pub drivers_own : (count : ℕ) (islands : List PlainIsland) → IslandsName count islands → (s : PlainStatement) (x : Stand) → StatementNames count s
    → AllDrive (IsOwn count islands x s) (drivers_of count islands x s)
drivers_own count islands named s x names =
    let own : Room (IsOwn count islands x s) x.wire x.register (wires_of s) (length (registers_of islands s)) = record {
      wire_in = λ n low high. inr (low, high);
      register_in = λ n low high. inr (low, high);
    } in
    drivers_drive (IsOwn count islands x s) (λ p. tt) count islands (λ n is. inl is) (λ g is. (omega arith)) named s x names own (inl refl)

-- how many wires there are beside those of trees
pub plain_wires_count : (lowered : PlainLowered) → length (plain_wires lowered) ≡ groups lowered + bits lowered
plain_wires_count lowered =
    length-append (replicate (groups lowered) 32) (replicate (bits lowered) 1)
    ∙ ap₂ (λ (a : ℕ) (b : ℕ). a + b) (length-replicate (groups lowered) 32) (length-replicate (bits lowered) 1)

-- the wires behind those of 32 bits
pub bit_wire : (wide_ones narrow n : ℕ) → wide_ones ≤ n → n < wide_ones + narrow → slice_get {X = ℕ} (replicate wide_ones 32 ++ replicate narrow 1) n ≡ Some 1
bit_wire wide_ones narrow n low high =
    let count : length (replicate {A = ℕ} wide_ones 32) ≡ wide_ones = length-replicate wide_ones 32 in
    let at : n ≡ length (replicate {A = ℕ} wide_ones 32) + (n - wide_ones) = omega (arith, count) in
    behind (replicate wide_ones 32) (replicate narrow 1) n (n - wide_ones) at ∙ slice_replicate 1 narrow (n - wide_ones) (omega arith)

module _ (d : PlainLowereds) (lowered : PlainLowered) where
  abbrev pub bounds : Bounds
  bounds = bounds_of (net_component d lowered)

  abbrev pub widths : List ℕ
  widths = tree_widths (target_width d lowered) (component_driven lowered)

  -- all wires: of groups, islands, control, assignments, trees
  pub wires_there : bounds.wires ≡ length (plain_wires lowered) + length widths
  wires_there = length-append (plain_wires lowered) widths

  pub component_there : IslandsName (groups lowered) lowered.islands → StatementNames (groups lowered) lowered.part.control → AssignsName (groups lowered) (driven_assigns lowered)
      → AreThere bounds (net_component d lowered).drivers
  component_there islands control assigns =
      let all : bounds.wires ≡ length (plain_wires lowered) + length widths = wires_there in
      let plain : length (plain_wires lowered) ≡ groups lowered + (island_wires lowered.islands + wires_of lowered.part.control + assigns_wires (driven_assigns lowered)) = plain_wires_count lowered in
      let registers : bounds.registers ≡ suc (length (registers_of lowered.islands lowered.part.control)) = refl in
      let holes : bounds.holes ≡ groups lowered + groups lowered = refl in
      let of_control : Room (IsThere bounds) (first_of_control lowered) 0 (wires_of lowered.part.control) (suc (length (registers_of lowered.islands lowered.part.control))) = record {
        wire_in = λ n low high. let there : n < bounds.wires = omega arith in there;
        register_in = λ n low high. let there : n < bounds.registers = omega arith in there;
      } in
      let of_assigns : Wires (IsThere bounds) (first_of_assigns lowered) (assigns_wires (driven_assigns lowered)) = record { among = λ n low high. let there : n < bounds.wires = omega arith in there } in
      let of_trees : Wires (IsThere bounds) (length (plain_wires lowered)) (length widths) = record { among = λ n low high. let there : n < bounds.wires = omega arith in there } in
      let before : (n : ℕ) → n < groups lowered + island_wires lowered.islands → n < bounds.wires = λ n is. omega arith in
      let go : (g : ℕ) → g < groups lowered → groups lowered + g < bounds.holes = λ g is. omega arith in
      let hole : (g : ℕ) → g < groups lowered → g < bounds.holes = λ g is. omega arith in
      let drivers : AreThere bounds (plain_drivers lowered) = drive_both (IsThere bounds) _ _
      (control_drives (IsThere bounds) (λ p. tt) (groups lowered) lowered.islands before go islands tt (first_of_control lowered) lowered.part.control control of_control)
      (assigns_drive (IsThere bounds) (λ p. tt) (groups lowered) hole (driven_assigns lowered) (first_of_assigns lowered) assigns of_assigns) in
      trees_drive (IsThere bounds) (target_width d lowered) (component_driven lowered) (length (plain_wires lowered))
      (all_driven (IsThere bounds) (by_target (plain_drivers lowered)) (by_target_drive (IsThere bounds) (plain_drivers lowered) drivers)) of_trees
