-- What a look that solves the rules of a node gives the ports that its assignments name: each has its value, is a bit where it stands
-- alone in a guard, and of each group it is known whether it goes and at which offset.
use Rattle.std.proofs.Common.{◌≡◌, inl, inr, ℕ, zero, suc, ◌+◌, ◌<◌, ◌==◌, Bool, true, false, ◌&&◌, ◌||◌, not, cond, if◌then◌else◌, List, [], ◌∷◌, length, Option, Some, None, unwrap_or, refl, sym, ap, ap₂, ◌∙◌, arith, length-append}
use Rattle.std.specs.Prelude.{filter}
use Rattle.std.proofs.lemmas.Bool.{lt-ltb, ltb-true}
use Rattle.cx_text.proofs.MemberLaws.{in_left, in_right}
use Rattle.cx_text.specs.Members.{In}
use Rattle.cx_bits.specs.BitVector.{BitVector}
use Rattle.cx_meaning.specs.declared.ports.PortRef.{PortRef}
use Rattle.cx_meaning.specs.declared.ports.PortRef.TheVariants as ports
use Rattle.cx_meaning.specs.declared.ports.PlacedPort.{PlacedPort}
use Rattle.cx_meaning.specs.Designs.{PlainGuard, Always, Atom, Negation, All, Any, Compared, Within, PlainGuards, no_guards, a_guard, PlainComponent, PlainDesign}
use Rattle.cx_meaning.specs.Instances.{Instance, Node, Cells, At, Nothing, OfRow, OfInstance, cell_at, part_of}
use Rattle.cx_meaning.specs.Active.{Owned, source_order}
use Rattle.cx_meaning.specs.Sights.{PartPort, Go, AnInput, AnOutput, ItsDone, part_port}
use Rattle.cx_rules.specs.Ports.{keeps_literal, declared_width, part_width, cell_width, written_width}
use Rattle.cx_rules.specs.Items.{atoms_of, atoms_in, operands_of, operands_in, Range, ranges_of, ranges_in}
use Rattle.cx_rules.specs.ShapeRules.{is_hole}
use Rattle.cx_rules.specs.WidthRules.{IsBadLiteral}
use Rattle.cx_rules.specs.Wellformed.{port_count}
use Rattle.cx_control.specs.Flows.{Values, is_set, guard_on, all_on, any_on, zero_of}
use Rattle.cx_net.specs.Nets.{OfPort}
use Rattle.cx_net.specs.NetTree.{NetCells, AChild, net_cell_at}
use Rattle.cx_net.specs.NetMeaning.{NetState, APort, AWire, AHole, NetLook, NetAround, is_true, truth_bit, child_port_width, net_at_width, is_port_of, registers_of}
use Rattle.cx_static.specs.Lowering.{lowered_component, lowered_of}
use Rattle.cx_wiring.specs.Assignments.{owner_drives, is_driven, driven_assigns}
use Rattle.cx_wiring.specs.Trees.{tree_widths}
use Rattle.cx_wiring.specs.Wiring.{groups, bits, plain_wires, component_driven, target_width}
use Rattle.cx_wiring.specs.PartNets.{wired_in, timers_of, net_of_instance, net_of_cells}
use Rattle.cx_wiring.specs.Takings.{value, Says}
use Rattle.cx_wiring.specs.NetBits.{IsBitPort}
use Rattle.cx_wiring.proofs.TakingLemmas.{true_bit}
use Rattle.cx_wiring.proofs.NetTargets.{plain_wires_count}
use Rattle.cx_wiring.proofs.DesignNames.{in_filter}
use Rattle.cx_wiring_cycles.specs.GuardPorts.{GuardPorts, PartsPorts, GroupSays, OwnerSays, AssignHolds, AssignsHold}
use Rattle.cx_wiring_cycles.proofs.HoleLaws.{HoleFits, HolesFit}
use Rattle.cx_wiring_runs.proofs.InstancePorts.{IsNamed, PortRules}
use Rattle.cx_wiring_runs.proofs.PortsKnown.{child_stands, row_stands, part_port_same}
use Rattle.cx_wiring_runs.specs.Blocks.{block, Solves}
use Rattle.cx_wiring_runs.specs.PortValues.{has_port, value_beyond, port_value, goes_now, offset_now}
use Rattle.cx_bits.proofs.BitVectorLemmas.{some_is}
use Rattle.cx_text.proofs.BoolLaws.{and_true_also}
use Rattle.cx_laws.proofs.TreeLemmas.{declared_there}

pub known : (o : Option BitVector) (z x : BitVector) → o ≡ Some x → o ≡ Some (unwrap_or o z)
known o z x e = e ∙ ap Some (sym (ap (λ k. unwrap_or k z) e))

pub set_bit : (b : Bool) → is_set (truth_bit b) ≡ b
set_bit true = refl
set_bit false = refl

pub has_there : (at : At) (p : ℕ) → p < port_count at → has_port at p ≡ true
has_there Nothing p less = absurd (omega arith)
has_there (OfRow row) p less = lt-ltb p (length row.ports) less
has_there (OfInstance child) p less = lt-ltb p (2 + length (part_of child).inputs + length (part_of child).outputs) less

-- a literal of one bit is a bit
literal_bit : (w v : ℕ) → (IsBadLiteral (ports.Literal w v) → ⊥) → ◌≡◌ {A = Option ℕ} (Some w) (Some 1) → (b : Bool) × (◌≡◌ {A = BitVector} (record { width = w; value = v }) (truth_bit b))
literal_bit w v fits e = by_keeps (keeps_literal w v) refl
  where
    one : w ≡ 1
    one = cc

    by_value : (n : ℕ) → n ≡ v → n < 2 → (b : Bool) × (◌≡◌ {A = BitVector} (record { width = w; value = v }) (truth_bit b))
    by_value zero f less = (false, ap₂ (λ a c. record { width = a; value = c }) one (sym f))
    by_value (suc zero) f less = (true, ap₂ (λ a c. record { width = a; value = c }) one (sym f))
    by_value (suc (suc n)) f less = absurd (omega arith)

    by_keeps : (b : Bool) → keeps_literal w v ≡ b → (b : Bool) × (◌≡◌ {A = BitVector} (record { width = w; value = v }) (truth_bit b))
    by_keeps false f = absurd (fits (w, v, refl, f))
    by_keeps true f = by_value v refl (ltb-true v 2 (sym (ap (λ x. keeps_literal x v) one) ∙ f))

-- a guard without ranges looks at no offset
module _ (v : Values) (m n : ℕ) where
  mutual
    pub any_offset : (g : PlainGuard) → ((r : Range) → In (ranges_of g) r → ⊥) → guard_on v m g ≡ guard_on v n g
    any_offset Always none = refl
    any_offset (Atom p) none = refl
    any_offset (Negation g) none = ap not (any_offset g none)
    any_offset (All gs) none = all_offset gs none
    any_offset (Any gs) none = some_offset gs none
    any_offset (Compared c a b) none = refl
    any_offset (Within from to) none = absurd (none (record { from = from; to = to }) (inl refl))

    all_offset : (gs : PlainGuards) → ((r : Range) → In (ranges_in gs) r → ⊥) → all_on v m gs ≡ all_on v n gs
    all_offset no_guards none = refl
    all_offset (a_guard g gs) none = ap₂ (λ a b. a && b) (any_offset g (λ r i. none r (in_left (ranges_of g) (ranges_in gs) r i))) (all_offset gs (λ r i. none r (in_right (ranges_of g) (ranges_in gs) r i)))

    some_offset : (gs : PlainGuards) → ((r : Range) → In (ranges_in gs) r → ⊥) → any_on v m gs ≡ any_on v n gs
    some_offset no_guards none = refl
    some_offset (a_guard g gs) none = ap₂ (λ a b. a || b) (any_offset g (λ r i. none r (in_left (ranges_of g) (ranges_in gs) r i))) (some_offset gs (λ r i. none r (in_right (ranges_of g) (ranges_in gs) r i)))

module _ {A : Type 0} (p : A → Bool) where
  filter_one : (x : A) (xs ys : List A) (y : A) (b : Bool) → p x ≡ b → (In ys y → p y ≡ true) → In (cond b (x ∷ ys) ys) y → p y ≡ true
  filter_one x xs ys y true e later (inl f) = ap p (sym f) ∙ e
  filter_one x xs ys y true e later (inr i) = later i
  filter_one x xs ys y false e later i = later i

  -- what is among those that pass a test passes it
  filter_passes : (xs : List A) (y : A) → In (filter p xs) y → p y ≡ true
  filter_passes [] y i = absurd i
  filter_passes (x ∷ xs) y i = filter_one x xs (filter p xs) y (p x) refl (filter_passes xs y) i

module _ (d : PlainDesign) (numbers : Instance → NetState → ℕ → ℕ) where
  part_port_width : (q : PlainComponent) (port : PartPort) → child_port_width (wired_in d q) port ≡ unwrap_or (part_width q port) 1
  part_port_width q Go = refl
  part_port_width q (AnInput n) = refl
  part_port_width q (AnOutput n) = refl
  part_port_width q ItsDone = refl

  -- a port of a component cell is as wide in the net
  pub child_wide : (child : Instance) (p : ℕ) → net_at_width (AChild (net_of_instance (wired_in d) timers_of numbers child)) p ≡ unwrap_or (part_width (part_of child) (part_port (part_of child) p)) 1
  child_wide (Node q kids) p = ap (child_port_width (wired_in d q)) (part_port_same d numbers (Node q kids) p) ∙ part_port_width q (part_port q p)

  module _ (part : PlainComponent) (cells : Cells) where
    abbrev CN : NetCells
    CN = net_of_cells (wired_in d) timers_of numbers cells (timers_of part)

    pub child_here : (c : ℕ) (child : Instance) → cell_at cells c ≡ OfInstance child → net_cell_at (net_of_cells (wired_in d) timers_of numbers cells (timers_of part)) c ≡ AChild (net_of_instance (wired_in d) timers_of numbers child)
    child_here c child e = child_stands (wired_in d) timers_of numbers cells (timers_of part) c child e

    child_port : (child : Instance) (p : ℕ) → p < 2 + length (part_of child).inputs + length (part_of child).outputs → is_port_of (AChild (net_of_instance (wired_in d) timers_of numbers child)) p ≡ true
    child_port (Node q kids) p less = lt-ltb p (2 + length q.inputs + length q.outputs) less

    -- a port of a cell of the instance is one of the net
    pub port_stands : (c p : ℕ) (at : At) → cell_at cells c ≡ at → p < port_count at → is_port_of (net_cell_at (net_of_cells (wired_in d) timers_of numbers cells (timers_of part)) c) p ≡ true
    port_stands c p Nothing e less = absurd (omega arith)
    port_stands c p (OfRow row) e less = ap (λ x. is_port_of x p) (row_stands (wired_in d) timers_of numbers cells (timers_of part) c row e) ∙ lt-ltb p (length row.ports) less
    port_stands c p (OfInstance child) e less = ap (λ x. is_port_of x p) (child_here c child e) ∙ child_port child p less

    port_narrow : (c p : ℕ) (at : At) → cell_at cells c ≡ at → cell_width at p ≡ Some 1 → (net_at_width (net_cell_at (net_of_cells (wired_in d) timers_of numbers cells (timers_of part)) c) p == 1) ≡ true
    port_narrow c p Nothing e one = absurd cc
    port_narrow c p (OfRow row) e one = ap (λ x. net_at_width x p == 1) (row_stands (wired_in d) timers_of numbers cells (timers_of part) c row e) ∙ ap (λ o. unwrap_or o 1 == 1) one
    port_narrow c p (OfInstance child) e one = ap (λ x. net_at_width x p == 1) (child_here c child e) ∙ ap (λ w. w == 1) (child_wide child p) ∙ ap (λ o. unwrap_or o 1 == 1) one

    -- A PORT OF ONE BIT is one of the net
    pub bit_port : (p : PortRef) → IsNamed (Node part cells) p → written_width (Node part cells) p ≡ Some 1 → IsBitPort (wired_in d part) (net_of_cells (wired_in d) timers_of numbers cells (timers_of part)) p
    bit_port (ports.Cell c p) named one = ap₂ (λ a b. a && b) (port_stands c p (cell_at cells c) refl named.there.1) (port_narrow c p (cell_at cells c) refl one)
    bit_port (ports.Input n) named one = one
    bit_port (ports.Output n) named one = ap₂ (λ a b. a && b) (lt-ltb n (length part.outputs) named.there) (ap (λ o. unwrap_or o 1 == 1) one)
    bit_port (ports.Done g) named one = let no = named.no_hole in absurd cc
    bit_port (ports.Literal w v) named one = literal_bit w v named.literal one

    module _ (rules : PortRules d (Node part cells)) (around : NetAround) (s : NetState) (look : NetLook) (solves : Solves (block (wired_in d) timers_of numbers (Node part cells)) around s look) where
      abbrev R : ℕ → Option BitVector
      R = registers_of (wired_in d part) (net_of_cells (wired_in d) timers_of numbers cells (timers_of part)) around s (look []) (λ c. look (c ∷ []))

      abbrev V : Values
      V = port_value (Node part cells) around s look

      -- WHAT IS NAMED HAS ITS VALUE
      pub named_value : (p : PortRef) → IsNamed (Node part cells) p → value around R (look []) (OfPort p) ≡ Some (V p)
      named_value (ports.Cell c p) named =
          let x = solves.whole [] (APort (ports.Cell c p)) (port_stands c p (cell_at cells c) refl named.there.1) in
          known (look [] (APort (ports.Cell c p))) (zero_of None) x.0 x.1
          ∙ ap (λ b. Some (if b then unwrap_or (look [] (APort (ports.Cell c p))) (zero_of None) else value_beyond (Node part cells) around s look c p (cell_at cells c))) (sym (has_there (cell_at cells c) p named.there.1))
      named_value (ports.Input n) named =
          let w = declared_there part.inputs n named.there in let x = solves.inputs n w.0 w.1 in
          known (around.input n) (zero_of (declared_width part.inputs n)) x.0 x.1
      named_value (ports.Output n) named =
          let x = solves.whole [] (APort (ports.Output n)) (lt-ltb n (length part.outputs) named.there) in
          known (look [] (APort (ports.Output n))) (zero_of None) x.0 x.1
          ∙ ap (λ b. Some (if b then unwrap_or (look [] (APort (ports.Output n))) (zero_of None) else zero_of (declared_width part.outputs n))) (sym (lt-ltb n (length part.outputs) named.there))
      named_value (ports.Done g) named = let no = named.no_hole in absurd cc
      named_value (ports.Literal w v) named = refl

      bit_value : (p : PortRef) → IsBitPort (wired_in d part) (net_of_cells (wired_in d) timers_of numbers cells (timers_of part)) p → (b : Bool) × (value around R (look []) (OfPort p) ≡ Some (truth_bit b))
      bit_value (ports.Cell c p) is = solves.bits [] (APort (ports.Cell c p)) is
      bit_value (ports.Input n) is = solves.bit_inputs n is
      bit_value (ports.Output n) is = solves.bits [] (APort (ports.Output n)) is
      bit_value (ports.Done g) is = absurd is
      bit_value (ports.Literal w v) is = (is.0, ap Some is.1)

      -- and says what it is where it is of one bit
      pub bit_says : (p : PortRef) → IsNamed (Node part cells) p → written_width (Node part cells) p ≡ Some 1 → Says around R (look []) (OfPort p) (is_set (V p))
      bit_says p named one =
          let b = bit_value p (bit_port p named one) in
          b.1 ∙ ap (λ x. Some (truth_bit x)) (sym (ap is_set (some_is (V p) (truth_bit b.0) (sym (named_value p named) ∙ b.1)) ∙ set_bit b.0))

      mutual
        guard_ports : (g : PlainGuard) → ((p : PlacedPort) → In (operands_of g) p → IsNamed (Node part cells) p.port) → ((p : PlacedPort) → In (atoms_of g) p → written_width (Node part cells) p.port ≡ Some 1)
            → GuardPorts around R (look []) V g
        guard_ports Always named one = tt
        guard_ports (Atom p) named one = bit_says p.port (named p (inl refl)) (one p (inl refl))
        guard_ports (Negation g) named one = guard_ports g named one
        guard_ports (All gs) named one = parts_ports gs named one
        guard_ports (Any gs) named one = parts_ports gs named one
        guard_ports (Compared c a b) named one = (named_value a.port (named a (inl refl)), named_value b.port (named b (inr (inl refl))))
        guard_ports (Within from to) named one = tt

        parts_ports : (gs : PlainGuards) → ((p : PlacedPort) → In (operands_in gs) p → IsNamed (Node part cells) p.port) → ((p : PlacedPort) → In (atoms_in gs) p → written_width (Node part cells) p.port ≡ Some 1)
            → PartsPorts around R (look []) V gs
        parts_ports no_guards named one = tt
        parts_ports (a_guard g gs) named one = (
          guard_ports g (λ p i. named p (in_left (operands_of g) (operands_in gs) p i)) (λ p i. one p (in_left (atoms_of g) (atoms_in gs) p i)),
          parts_ports gs (λ p i. named p (in_right (operands_of g) (operands_in gs) p i)) (λ p i. one p (in_right (atoms_of g) (atoms_in gs) p i)),
        )

      -- GROUPS
      group_says : (g : ℕ) → g < length part.groups → owner_drives (lowered_component part) (Some g) ≡ true → GroupSays around R (look []) (length part.groups) (goes_now (Node part cells) around s look) (offset_now (Node part cells) around s look) g
      group_says g there drives =
          let holes : length part.groups + g < length part.groups + length part.groups = omega arith in
          let b = solves.bits [] (AHole (length part.groups + g)) (lt-ltb (length part.groups + g) (length part.groups + length part.groups) holes) in
          let count : length (plain_wires (lowered_component part)) ≡ groups (lowered_component part) + bits (lowered_component part) = plain_wires_count (lowered_component part) in
          let all : length (wired_in d part).wires ≡ length (plain_wires (lowered_component part)) + length (tree_widths (target_width (lowered_of d) (lowered_component part)) (component_driven (lowered_component part))) =
          length-append (plain_wires (lowered_component part)) (tree_widths (target_width (lowered_of d) (lowered_component part)) (component_driven (lowered_component part))) in
          let wires : g < length (wired_in d part).wires = omega (arith, count, all, there) in
          let x = solves.whole [] (AWire g) (lt-ltb g (length (wired_in d part).wires) wires) in (
            b.1 ∙ ap (λ c. Some (truth_bit c)) (sym (ap₂ (λ x y. x && y) (ap (λ o. is_true (unwrap_or o (zero_of (Some 1)))) b.1 ∙ true_bit b.0) drives ∙ and_true_also b.0)),
            known (look [] (AWire g)) (zero_of (Some 32)) x.0 x.1,
          )

      owner_says : (o : Option ℕ) → ((g : ℕ) → o ≡ Some g → g < length part.groups) → owner_drives (lowered_component part) o ≡ true
          → OwnerSays around R (look []) (length part.groups) (goes_now (Node part cells) around s look) (offset_now (Node part cells) around s look) o
      owner_says None there drives = tt
      owner_says (Some g) there drives = group_says g (there g refl) drives

      assign_holds : (a : Owned) → In (source_order part) a → is_driven (lowered_component part) a ≡ true
          → AssignHolds around R (look []) (length part.groups) (goes_now (Node part cells) around s look) (offset_now (Node part cells) around s look) V a
      assign_holds a i drives =
          let keeps = rules.assigns a i in
          record {
            owner = owner_says a.owner keeps.owner drives;
            guard = guard_ports a.assign.guard (λ p j. keeps.source p (inr j)) keeps.atom;
            source = named_value a.assign.source.port (keeps.source a.assign.source (inl refl));
          }

      all_hold : (list : List Owned) → ((a : Owned) → In list a → AssignHolds around R (look []) (length part.groups) (goes_now (Node part cells) around s look) (offset_now (Node part cells) around s look) V a)
          → AssignsHold around R (look []) (length part.groups) (goes_now (Node part cells) around s look) (offset_now (Node part cells) around s look) V list
      all_hold [] each = tt
      all_hold (a ∷ rest) each = (each a (inl refl), all_hold rest (λ b i. each b (inr i)))

      -- ASSIGNMENTS that stand in the net
      pub assigns_hold : AssignsHold around R (look []) (length part.groups) (goes_now (Node part cells) around s look) (offset_now (Node part cells) around s look) V (driven_assigns (lowered_component part))
      assigns_hold =
          all_hold (driven_assigns (lowered_component part))
          (λ a i. assign_holds a (in_filter (is_driven (lowered_component part)) (source_order part) a i) (filter_passes (is_driven (lowered_component part)) (source_order part) a i))

      hole_fits : (g : ℕ) (a : Owned) → In (source_order part) a → HoleFits V (offset_now (Node part cells) around s look) g a
      hole_fits g a i =
          let keeps = rules.assigns a i in
          record {
            own = keeps.own_hole g;
            no_offset = λ e. any_offset V (offset_now (Node part cells) around s look g).value 0 a.assign.guard (λ r j. keeps.static_hole (keeps.range r j) (ap is_hole e));
          }

      holes_fit_in : (g : ℕ) (list : List Owned) → ((a : Owned) → In list a → HoleFits V (offset_now (Node part cells) around s look) g a) → HolesFit V (offset_now (Node part cells) around s look) g list
      holes_fit_in g [] each = tt
      holes_fit_in g (a ∷ rest) each = (each a (inl refl), holes_fit_in g rest (λ b i. each b (inr i)))

      pub holes_fit : (g : ℕ) → HolesFit V (offset_now (Node part cells) around s look) g (driven_assigns (lowered_component part))
      holes_fit g = holes_fit_in g (driven_assigns (lowered_component part)) (λ a i. hole_fits g a (in_filter (is_driven (lowered_component part)) (source_order part) a i))
