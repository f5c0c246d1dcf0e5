-- The outputs of an instance are safe wherever its flat component stands and whatever acts there, and so are their wires.
use Rattle.std.proofs.Common.{◌≡◌, ℕ, zero, suc, ◌+◌, ◌<◌, true, false, [], length, map, Some, refl, sym, ap, ◌∙◌, subst, arith}
use Rattle.std.proofs.lemmas.Bool.{ltb-true}
use Rattle.cx_prim.specs.Rows.{Row}
use Rattle.cx_meaning.specs.declared.ports.PortRef.{PortRef}
use Rattle.cx_meaning.specs.declared.ports.PortRef.TheVariants as ports
use Rattle.cx_meaning.specs.Designs.{PlainComponent}
use Rattle.cx_meaning.specs.Instances.{Instance, Node, Cells, no_cells, a_primitive, an_instance, OfRow, OfInstance, part_of, cells_of, cell_at}
use Rattle.cx_meaning.specs.Active.{Active, nothing, drivers}
use Rattle.cx_meaning.specs.Sights.{part_port}
use Rattle.cx_rules.specs.Footprints.{Mentions, CellLeads, Leads}
use Rattle.cx_rules.specs.Circles.{AreAcyclic, AcyclicBelow}
use Rattle.cx_rules.proofs.CirclesLemmas.{own_acyclic}
use Rattle.cx_rewrites.specs.Moving.{moved_acting}
use Rattle.cx_flattening.specs.Whole.{is_static}
use Rattle.cx_flattening.specs.Flattened.{Kids, kid_at, kept_at, start_of, wire_at, flat_part, flat_kids, own_port, child_port}
use Rattle.cx_flattening.specs.Targets.{BlockTarget}
use Rattle.cx_flattening.specs.Embedded.{wire_row, HasWires, IsEmbedded}
use Rattle.cx_flattening.specs.Levels.{IsStill, OutputsSeen}
use Rattle.cx_flattening.specs.Fair.{IsFair, AllFair, AllFairBelow}
use Rattle.cx_flattening.proofs.MovedTwice.{moved_twice}
use Rattle.cx_flattening.proofs.Standing.{in_flat_cells, within_child, TwinAt, embedded_row, embedded_static, embedded_dynamic, wire_there}
use Rattle.cx_flattening.proofs.FlatDrivers.{own_drivers, idle_drivers}
use Rattle.cx_flattening.proofs.StillPorts.{own_still, block_still}
use Rattle.cx_flattening.proofs.RestingPorts.{Resting, an_output, none_drives, resting_closed}
use Rattle.cx_flattening.proofs.LevelSights.{kid-static, flat-inputs, flat-outputs}
use Rattle.cx_flattening.proofs.FlatOutputs.{ports_like, resting_known, no_input, no_hole, an_output_there, block_target, kids_seen}
use Rattle.cx_flattening.proofs.Safe.{Safe, safe, acyclic_safe}
use Rattle.cx_flattening.proofs.SafeLevels.{IsSafeLevel, level_safe}

-- THE FLAT COMPONENT STANDS IN A HOST, whatever acts there
pub record IsSeat (host : Instance) (more : Active) (i : Instance) (first : ℕ) (f : PortRef → PortRef) : Type 0 where
  pub cells : (e p : ℕ) → f (ports.Cell e p) ≡ ports.Cell (first + e) p
  pub literals : (w v : ℕ) → f (ports.Literal w v) ≡ ports.Literal w v
  pub drives : (q : PortRef) → BlockTarget (flat_part i) q → IsStill (flat_part i) q → drivers (part_of host) more (f q) ≡ map (moved_acting f) (drivers (flat_part i) nothing q)
  pub embedded : IsEmbedded i first (cells_of host)

-- an output leads on by what drives it
abbrev pub OutputLeads : Instance → Active → (PortRef → PortRef) → ℕ → Type 0
OutputLeads host more f n = (q : PortRef) → Leads host more (f (ports.Output n)) q → Mentions (drivers (part_of host) more (f (ports.Output n))) q

abbrev pub OutputsSafe : Instance → Type 0
OutputsSafe i = (host : Instance) (more : Active) (first : ℕ) (f : PortRef → PortRef) → IsSeat host more i first f → ((n : ℕ) → n < length (part_of i).outputs → OutputLeads host more f n)
    → (n : ℕ) → n < length (part_of i).outputs → Safe host more (f (ports.Output n))

-- a wire leads on by what drives its input, and its output leads there alone
wire_leads : (host : Instance) (more : Active) (w width : ℕ) (q : PortRef) → cell_at (cells_of host) w ≡ OfRow (wire_row width) → Leads host more (ports.Cell w 0) q → Mentions (drivers (part_of host) more (ports.Cell w 0)) q
wire_leads host more w width q at lead = subst (λ x. CellLeads (part_of host) more w 0 x q) at lead

wire_output : (host : Instance) (more : Active) (w width : ℕ) → cell_at (cells_of host) w ≡ OfRow (wire_row width) → Safe host more (ports.Cell w 0) → Safe host more (ports.Cell w 1)
wire_output host more w width at inside = safe (λ q lead. only q (subst (λ x. CellLeads (part_of host) more w 1 x q) at lead))
  where
    first_port : (m : ℕ) → m < 1 → m ≡ 0
    first_port zero less = refl
    first_port (suc m) less = absurd (omega (arith, less))

    only : (q : PortRef) → CellLeads (part_of host) more w 1 (OfRow (wire_row width)) q → Safe host more q
    only q (m, reads, e) = subst (Safe host more) (ap (ports.Cell w) (sym (first_port m (ltb-true m 1 reads))) ∙ e) inside

-- what stands past the ports of a wire leads nowhere
pub wire_beyond : (host : Instance) (more : Active) (w width m : ℕ) → cell_at (cells_of host) w ≡ OfRow (wire_row width) → Safe host more (ports.Cell w 0) → Safe host more (ports.Cell w m)
wire_beyond host more w width zero at inside = inside
wire_beyond host more w width (suc zero) at inside = wire_output host more w width at inside
wire_beyond host more w width (suc (suc m)) at inside = safe (λ q lead. absurd (subst (λ x. CellLeads (part_of host) more w (suc (suc m)) x q) at lead))

module _ (part : PlainComponent) (cells : Cells) (fair : IsFair (Node part cells)) (below : (c : ℕ) (child : Instance) → cell_at cells c ≡ OfInstance child → OutputsSafe child)
    (host : Instance) (more : Active) (first : ℕ) (f : PortRef → PortRef) (base : IsSeat host more (Node part cells) first f) where
  abbrev kids : Kids
  kids = flat_kids cells

  zero_plus : (a : ℕ) → 0 + a ≡ a
  zero_plus a = omega arith

  sum : (a b c : ℕ) → a + (b + c) ≡ a + b + c
  sum a b c = omega arith

  pub seat_row : (c : ℕ) (row : Row) → cell_at cells c ≡ OfRow row → cell_at (cells_of host) (first + kept_at kids c) ≡ OfRow row
  seat_row c row at = ap (λ k. cell_at (cells_of host) (first + kept_at kids k)) (sym (zero_plus c)) ∙ embedded_row kids part first (cells_of host) cells 0 c row base.embedded at

  pub seat_twin : (c : ℕ) (child : Instance) → cell_at cells c ≡ OfInstance child → is_static child ≡ false
      → (twin : Instance) × (cell_at (cells_of host) (first + kept_at kids c) ≡ OfInstance twin) × ((p : ℕ) → part_port (part_of child) p ≡ part_port (part_of twin) p)
  seat_twin c child at dynamic =
      let r = subst (TwinAt kids part first (cells_of host) child) (zero_plus c) (embedded_dynamic kids part first (cells_of host) cells 0 c child base.embedded at dynamic) in
      (r.0, r.1, λ p. ports_like (part_of child) (part_of r.0) (sym (r.2.inputs ∙ flat-inputs child)) (sym (r.2.outputs ∙ flat-outputs child)) p)

  module _ (c : ℕ) (child : Instance) (at : cell_at cells c ≡ OfInstance child) (static : is_static child ≡ true) where
    abbrev kid : PlainComponent
    kid = flat_part child

    abbrev move : PortRef → PortRef
    move = child_port kids part kid c (λ n. ports.Input n)

    there : c < length part.cells
    there = within_child (Node part cells) fair c child at

    its : kid_at kids c ≡ Some kid
    its = kid-static cells c child at static

    stood : IsEmbedded child (first + start_of kids part c) (cells_of host) × HasWires (part_of child).outputs (first + wire_at kids part kid c 0) (cells_of host)
    stood = subst (λ k. IsEmbedded child (first + start_of kids part k) (cells_of host) × HasWires (part_of child).outputs (first + wire_at kids part kid k 0) (cells_of host)) (zero_plus c) (embedded_static kids part first (cells_of host) cells 0 c child base.embedded at static)

    pub seat_wire : (n : ℕ) → n < length (part_of child).outputs → (width : ℕ) × (cell_at (cells_of host) (first + wire_at kids part kid c n) ≡ OfRow (wire_row width))
    seat_wire n less =
        let r = wire_there (part_of child).outputs (first + wire_at kids part kid c 0) n (cells_of host) stood.1 less in
        (r.0, ap (cell_at (cells_of host)) (shifted (start_of kids part c + length kid.cells)) ∙ r.1)
      where
        shifted : (a : ℕ) → first + (a + n) ≡ first + (a + 0) + n
        shifted a = omega arith

    inside : (q : PortRef) → BlockTarget kid q → BlockTarget (flat_part (Node part cells)) (move q)
    inside (ports.Cell e p) less = in_flat_cells kids part c e kid there its (omega (arith, less))
    inside (ports.Input n) less = absurd less
    inside (ports.Output n) less =
        let all = in_flat_cells kids part c (length kid.cells + n) kid there its (omega (arith, less)) in
        omega (arith, all)
    inside (ports.Done g) less = absurd less
    inside (ports.Literal w v) less = absurd less

    -- the child stands there too
    pub child_seat : IsSeat host more child (first + start_of kids part c) (λ q. f (move q))
    child_seat = record {
      cells = λ e p. base.cells (start_of kids part c + e) p ∙ ap (λ k. ports.Cell k p) (sum first (start_of kids part c) e);
      literals = base.literals;
      drives = λ q target still.
          base.drives (move q) (inside q target) (block_still kids part fair.targets (flat_part (Node part cells)) refl c kid its (λ n. ports.Input n) q target still)
          ∙ ap (map (moved_acting f)) (idle_drivers kids part fair.targets nothing (flat_part (Node part cells)) refl refl c kid its [] nothing
          (record { unfed = refl; none_below = refl; still = λ g. refl; copies = λ j g is u. refl }) (λ n. ports.Input n) q target)
          ∙ moved_twice f move (drivers kid nothing q);
      embedded = stood.0;
    }

    pub child_leads : (n : ℕ) → n < length (part_of child).outputs → OutputLeads host more (λ q. f (move q)) n
    child_leads n less q lead =
        let w = seat_wire n less in
        subst (λ x. Mentions (drivers (part_of host) more x) q) (sym (base.cells (wire_at kids part kid c n) 0))
        (wire_leads host more (first + wire_at kids part kid c n) w.0 q w.1 (subst (λ x. Leads host more x q) (base.cells (wire_at kids part kid c n) 0) lead))

    -- its wires are safe
    pub wire_input_safe : (n : ℕ) → n < length (part_of child).outputs → Safe host more (ports.Cell (first + wire_at kids part kid c n) 0)
    wire_input_safe n less =
        subst (Safe host more) (base.cells (wire_at kids part kid c n) 0)
        (below c child at host more (first + start_of kids part c) (λ q. f (move q)) child_seat child_leads n less)

    pub wire_safe : (n : ℕ) → n < length (part_of child).outputs → Safe host more (ports.Cell (first + wire_at kids part kid c n) 1)
    wire_safe n less = let w = seat_wire n less in wire_output host more (first + wire_at kids part kid c n) w.0 w.1 (wire_input_safe n less)

  module _ (seen_below : (c : ℕ) (child : Instance) → cell_at cells c ≡ OfInstance child → OutputsSeen child) (leads : (n : ℕ) → n < length part.outputs → OutputLeads host more f n) where
    resting_level : IsSafeLevel host more (Node part cells) first f nothing (Resting (Node part cells))
    resting_level = record {
      counts = fair.counts;
      known = resting_known part cells fair seen_below;
      closed = resting_closed (Node part cells) fair nothing;
      cells = base.cells;
      literals = base.literals;
      drives = λ p rest own.
          base.drives (own_port kids part p) (block_target part cells fair seen_below p rest own) (own_still kids part fair.targets (flat_part (Node part cells)) refl p own (none_drives (Node part cells) fair p rest own))
          ∙ ap (map (moved_acting f)) (own_drivers kids part fair.targets nothing (flat_part (Node part cells)) refl refl nothing p own (λ g less. refl));
      inputs = λ n rest. absurd (no_input part cells fair seen_below n rest);
      outputs = λ n q rest lead. leads n (an_output_there part cells fair seen_below n rest) q lead;
      holes = λ g q rest lead. absurd (no_hole part cells fair seen_below g rest);
      rows = seat_row;
      children = seat_twin;
      wires = λ c n child at static less. wire_safe c child at static n less;
    }

    pub outputs_safe_there : AreAcyclic (Node part cells) → (n : ℕ) → n < length part.outputs → Safe host more (f (ports.Output n))
    outputs_safe_there calm n less =
        level_safe host more (Node part cells) first f nothing (Resting (Node part cells)) resting_level (ports.Output n) (an_output less)
        (acyclic_safe (Node part cells) nothing (own_acyclic (Node part cells) calm) (ports.Output n))

mutual
  -- EACH OUTPUT IS SAFE
  pub outputs_safe : (i : Instance) → AllFair i → AreAcyclic i → OutputsSafe i
  outputs_safe (Node part cells) fair calm host more first f seat leads n less =
      outputs_safe_there part cells fair.0 (kids_safe cells fair.1 calm.1) host more first f seat (kids_seen cells fair.1) leads calm n less

  pub kids_safe : (cells : Cells) → AllFairBelow cells → AcyclicBelow cells → (c : ℕ) (child : Instance) → cell_at cells c ≡ OfInstance child → OutputsSafe child
  kids_safe no_cells fair calm c child e = absurd (cc)
  kids_safe (a_primitive row rest) fair calm zero child e = absurd (cc)
  kids_safe (a_primitive row rest) fair calm (suc c) child e = kids_safe rest fair calm c child e
  kids_safe (an_instance other rest) fair calm zero child e = let same : other ≡ child = cc in subst OutputsSafe same (outputs_safe other fair.0 calm.0)
  kids_safe (an_instance other rest) fair calm (suc c) child e = kids_safe rest fair.1 calm.1 c child e
