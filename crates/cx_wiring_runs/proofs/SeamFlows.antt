-- THE SEAM: a port that a leaf looks at has in the net the value that the leaf sees there, where what else goes drives no cell that the leaf
-- reads. The hole of a group has it whatever goes, and so has an output, since they hang on what rests on state.
use Rattle.std.proofs.Common.{◌≡◌, ◌⊎◌, inl, inr, ℕ, ◌+◌, ◌<◌, Bool, true, false, [], ◌∷◌, length, arith, Option, Some, None, option_map, unwrap_or, refl, sym, ap, ◌∙◌, subst}
use Rattle.std.specs.Prelude.{nat_eq, if◌then◌else◌}
use Rattle.std.proofs.lemmas.Bool.{eqb-true, lt-ltb}
use Rattle.cx_text.specs.Members.{In}
use Rattle.cx_text.proofs.OptionLaws.{none_some}
use Rattle.cx_bits.specs.BitVector.{BitVector, zero_of as zero_wide}
use Rattle.cx_prim.specs.declared.ports.Side.{Side}
use Rattle.cx_prim.specs.declared.ports.Side.TheVariants as sides
use Rattle.cx_prim.specs.CellStates.{CellState}
use Rattle.cx_prim.specs.Rows.{Row}
use Rattle.cx_meaning.specs.declared.ports.PortRef.{PortRef}
use Rattle.cx_meaning.specs.declared.ports.PortRef.TheVariants as ports
use Rattle.cx_meaning.specs.declared.sights.Seen.TheVariants.{Value}
use Rattle.cx_meaning.specs.Rows.{side_of}
use Rattle.cx_meaning.specs.Designs.{PlainComponent, PlainDesign, PlainStatement, group_at}
use Rattle.cx_meaning.specs.Instances.{Instance, Node, Cells, At, Nothing, OfRow, OfInstance, cell_at, part_of, State, under}
use Rattle.cx_meaning.specs.Active.{Active, nothing, group, only_at, Owned, source_order, offset_of}
use Rattle.cx_meaning.specs.Sights.{Held, unheld, Sees, by_step, seen, bit_of, is_done_cell, PartPort, Go, AnInput, AnOutput, ItsDone, part_port}
use Rattle.cx_meaning.specs.Cycles.{Next, cell_outcome}
use Rattle.cx_meaning.specs.Control.{groups_of}
use Rattle.cx_rules.specs.Ports.{declared_width, cell_width, width_of, is_source_only}
use Rattle.cx_rules.specs.ShapeRules.{is_hole}
use Rattle.cx_rules.specs.Circles.{IsAcyclic, AcyclicBelow}
use Rattle.cx_rules.proofs.FoundLemmas.{seen_found, source_in}
use Rattle.cx_rules.specs.Footprints.{AssignNames, Reads, named, Rests, Leads, Depends, at_once, by_way_of}
use Rattle.cx_control.specs.Apart.{IsApart, of_cell}
use Rattle.cx_control.specs.Flows.{Values, zero_of, given, side_flow, part_flow, cell_flow, flow, Solves as FlowSolves, Reaches, Undisturbed}
use Rattle.cx_control.proofs.InstanceLemmas.{go_narrow}
use Rattle.cx_control.proofs.CellLemmas.{cell_step}
use Rattle.cx_control.proofs.LeadsLemmas.{Stands, acting_stands, Inside, leads_inside, apart_assigns, apart_holes}
use Rattle.cx_control.proofs.PortFlows.{seen_flows}
use Rattle.cx_net.specs.NetMeaning.{NetState, APort, AHole, TheDone, NetLook, NetAround, is_true, truth_bit}
use Rattle.cx_wiring.specs.PartNets.{wired_in, timers_of}
use Rattle.cx_wiring.proofs.TakingLemmas.{true_bit}
use Rattle.cx_wiring_runs.proofs.RowPorts.{enable_width}
use Rattle.cx_wiring_runs.proofs.SeamRules.{SeamRules, row_lawful, row_has_ports}
use Rattle.cx_wiring_runs.specs.Blocks.{block, Solves}
use Rattle.cx_wiring_runs.specs.PortValues.{around_of, port_value, active_now}
use Rattle.cx_wiring_runs.proofs.StillPorts.{Still, resting, depends_still, hole_moves, still_continuous}
use Rattle.cx_wiring_runs.proofs.WireSolves.{wires_solve}
use Rattle.cx_meaning.proofs.ActiveLemmas.{only_self}
use Rattle.cx_rules.proofs.ForeignLemmas.{OwnerOf, continuous, of_group, owner_of}

done_bit : (b : Bool) → Value (truth_bit b) ≡ bit_of b
done_bit true = refl
done_bit false = refl

module _ (d : PlainDesign) (numbers : Instance → NetState → ℕ → ℕ) (part : PlainComponent) (cells : Cells) (rules : SeamRules d (Node part cells)) (around : NetAround) (v : NetState) (look : NetLook)
    (solves : Solves (block (wired_in d) timers_of numbers (Node part cells)) around v look) (st : State) (same : (c : ℕ) (row : Row) → cell_at cells c ≡ OfRow row → v.cell (c ∷ []) ≡ st (c ∷ [])) where
  abbrev V : Values
  V = port_value (Node part cells) around v look

  abbrev now : Active
  now = active_now (Node part cells) around v look

  -- THE EQUATIONS over the cells of the store
  side_same : (c p : ℕ) (row : Row) → cell_at cells c ≡ OfRow row → (side : Side)
      → side_flow (Node part cells) now (λ path. v.cell path) (around_of (Node part cells) around v look) V row c p side ≡ side_flow (Node part cells) now st (around_of (Node part cells) around v look) V row c p side
  side_same c p row at sides.Enable = refl
  side_same c p row at sides.Plain = refl
  side_same c p row at sides.Output = ap (λ state. unwrap_or (row.output state (given V c 0 row.ports) p) (zero_of (width_of (Node part cells) (ports.Cell c p)))) (same c row at)
  side_same c p row at sides.Registered = ap (λ state. unwrap_or (row.output state [] p) (zero_of (width_of (Node part cells) (ports.Cell c p)))) (same c row at)

  part_same : (c p : ℕ) (port : PartPort) → part_flow (Node part cells) now (λ path. v.cell path) (around_of (Node part cells) around v look) V c p port ≡ part_flow (Node part cells) now st (around_of (Node part cells) around v look) V c p port
  part_same c p Go = refl
  part_same c p (AnInput n) = refl
  part_same c p (AnOutput n) = refl
  part_same c p ItsDone = refl

  cell_same : (c p : ℕ) (at : At) → cell_at cells c ≡ at → cell_flow (Node part cells) now (λ path. v.cell path) (around_of (Node part cells) around v look) V c p at ≡ cell_flow (Node part cells) now st (around_of (Node part cells) around v look) V c p at
  cell_same c p Nothing e = refl
  cell_same c p (OfRow row) e = side_same c p row e (side_of row p)
  cell_same c p (OfInstance child) e = part_same c p (part_port (part_of child) p)

  flow_same : (p : PortRef) → flow (Node part cells) now (λ path. v.cell path) (around_of (Node part cells) around v look) V p ≡ flow (Node part cells) now st (around_of (Node part cells) around v look) V p
  flow_same (ports.Cell c p) = cell_same c p (cell_at cells c) refl
  flow_same (ports.Input n) = refl
  flow_same (ports.Output n) = refl
  flow_same (ports.Done g) = refl
  flow_same (ports.Literal w n) = refl

  pub st_solves : FlowSolves (Node part cells) (active_now (Node part cells) around v look) st (around_of (Node part cells) around v look) (port_value (Node part cells) around v look)
  st_solves p = wires_solve d numbers part cells rules.node around v look solves p ∙ flow_same p

  -- the hole of a group is a bit
  pub hole_stands : (g : ℕ) → g < length part.groups → port_value (Node part cells) around v look (ports.Done g) ≡ truth_bit (is_true (unwrap_or (look [] (AHole g)) (zero_wide 1)))
  hole_stands g there =
      let holes : g < length part.groups + length part.groups = omega arith in
      let b = solves.bits [] (AHole g) (lt-ltb g (length part.groups + length part.groups) holes) in
      ap (λ (t : Bool). if t then unwrap_or (look [] (AHole g)) (zero_of (Some 1)) else zero_of (Some 1)) (lt-ltb g (length part.groups) there)
      ∙ ap (λ o. unwrap_or o (zero_of (Some 1))) b.1
      ∙ ap truth_bit (sym (ap (λ o. is_true (unwrap_or o (zero_wide 1))) b.1 ∙ true_bit b.0))

  -- WHAT IS SEEN AS A VALUE is the value in the net, where nothing disturbs the port
  pub seen_value : (held : Held) (act : Active) (p : PortRef) (b : BitVector) → Undisturbed (Node part cells) held act (active_now (Node part cells) around v look) st (around_of (Node part cells) around v look) p
      → Sees (Node part cells) held act st p (Value b) → port_value (Node part cells) around v look p ≡ b
  seen_value held act p b undisturbed sees =
      seen_flows (Node part cells) held act now st (around_of (Node part cells) around v look) V st_solves narrow (go_narrow (Node part cells)) (λ o g j. (rules.keeps o j).own_done g) (λ o n j. (rules.keeps o j).output_outside n)
      (λ c row at. (row_lawful d (Node part cells) rules c row at).reads_only) sees undisturbed b refl
    where
      narrow : (c p : ℕ) (row : Row) → cell_at cells c ≡ OfRow row → side_of row p ≡ sides.Enable → width_of (Node part cells) (ports.Cell c p) ≡ Some 1
      narrow c p row at side =
          let w = enable_width row (row_has_ports d (Node part cells) rules c row at) p side in
          ap (λ x. cell_width x p) at ∙ ap (option_map (λ port. port.width)) w.1 ∙ ap Some w.2

  -- what stands around the node is what a set takes it for, at cells that are near
  pub record Nearby (held : Held) (act : Active) (Near : ℕ → ℕ → Type 0) : Type 0 where
    pub inputs : (n : ℕ) (b : BitVector) → held n ≡ Value b → around.input n ≡ Some b
    pub outputs : (c q n : ℕ) (child : Instance) (b : BitVector) → Near c q → cell_at cells c ≡ OfInstance child → part_port (part_of child) q ≡ AnOutput n → Sees child unheld nothing (under c st) (ports.Output n) (Value b) → look (c ∷ []) (APort (ports.Output n)) ≡ Some b
    pub dones : (c q : ℕ) (child : Instance) → Near c q → cell_at cells c ≡ OfInstance child → part_port (part_of child) q ≡ ItsDone → look (c ∷ []) TheDone ≡ Some (truth_bit (is_done_cell act.done_cell c))

  module _ (held : Held) (act : Active) (Near : ℕ → ℕ → Type 0) (near : Nearby held act Near) (p : PortRef) (near_of : (c q : ℕ) → Reaches (Node part cells) act p (ports.Cell c q) → Near c q) where
    around_is : ((c q : ℕ) (o : Owned) → Reaches (Node part cells) act p (ports.Cell c q) → In (source_order part) o → o.assign.target ≡ ports.Cell c q → offset_of act o.owner ≡ offset_of now o.owner)
        → ((g : ℕ) → Reaches (Node part cells) act p (ports.Done g) → act.offset g ≡ Some 0) → Undisturbed (Node part cells) held act now st (around_of (Node part cells) around v look) p
    around_is assigns holes = record {
      assigns = assigns;
      holes = holes;
      inputs = λ n b reach e. ap (λ o. unwrap_or o (zero_of (declared_width part.inputs n))) (near.inputs n b e);
      outputs = λ c q n child b reach at port sees. ap (λ o. unwrap_or o (zero_of None)) (near.outputs c q n child b (near_of c q reach) at port sees);
      dones = λ c q child reach at port. ap (λ o. Value (unwrap_or o (zero_of (Some 1)))) (near.dones c q child (near_of c q reach) at port) ∙ done_bit (is_done_cell act.done_cell c);
    }

    after_first : {x : PortRef} → Depends (Node part cells) act p x → (r : PortRef) × Leads (Node part cells) act p r × ((r ≡ x) ⊎ Depends (Node part cells) act r x)
    after_first {x} (at_once l) = (x, l, inl refl)
    after_first {x} (by_way_of r l deeper) = (r, l, inr deeper)

    source : (o : Owned) → In (source_order part) o → is_source_only (Node part cells) o.assign.target ≡ false
    source o j = (rules.node.ports.assigns o j).no_source

    plain : (c : ℕ) (row : Row) → cell_at cells c ≡ OfRow row → (n m : ℕ) → row.reads n m ≡ true → side_of row m ≡ sides.Plain
    plain c row at n m w = (row_has_ports d (Node part cells) rules c row at).reads_plain n m w

    -- A PORT THAT IS STILL hangs on no group
    still_port : ((Still (Node part cells) p → ⊥) → ⊥) → Undisturbed (Node part cells) held act now st (around_of (Node part cells) around v look) p
    still_port still =
        around_is (λ c q o reach j target. assigns c q o (reached (ports.Cell c q) reach) j target) (λ g reach. absurd (reached (ports.Done g) reach (λ it. hole_moves (Node part cells) source plain g it)))
      where
        further : (x : PortRef) → Reaches (Node part cells) act p x → Still (Node part cells) p → Still (Node part cells) x
        further x (inl e) it = subst (Still (Node part cells)) e it
        further x (inr dep) it = depends_still (Node part cells) source plain act it dep

        reached : (x : PortRef) → Reaches (Node part cells) act p x → (Still (Node part cells) x → ⊥) → ⊥
        reached x reach never = still (λ it. never (further x reach it))

        assigns : (c q : ℕ) (o : Owned) → ((Still (Node part cells) (ports.Cell c q) → ⊥) → ⊥) → In (source_order part) o → o.assign.target ≡ ports.Cell c q → offset_of act o.owner ≡ offset_of now o.owner
        assigns c q o it j target = by o.owner refl
          where
            by : (w : Option ℕ) → o.owner ≡ w → offset_of act w ≡ offset_of now w
            by None e = refl
            by (Some h) e = absurd (it (λ is_still. none_some h (sym (still_continuous (Node part cells) source plain c q is_still o j target) ∙ e)))

    -- A PORT WHOSE NAMES REST hangs on no group
    module _ (no_cell : (c q : ℕ) → p ≡ ports.Cell c q → ⊥) (first : (r : PortRef) → Leads (Node part cells) act p r → (Rests (Node part cells) r → ⊥) → ⊥) (own : (g : ℕ) → p ≡ ports.Done g → act.offset g ≡ Some 0) where
      still_behind : (r x : PortRef) → Rests (Node part cells) r → (r ≡ x) ⊎ Depends (Node part cells) act r x → Still (Node part cells) x
      still_behind r x rests (inl e) = subst (Still (Node part cells)) e (resting rests)
      still_behind r x rests (inr dep) = depends_still (Node part cells) source plain act (resting rests) dep

      against : (x : PortRef) → Depends (Node part cells) act p x → (Still (Node part cells) x → ⊥) → ⊥
      against x dep never = let f = after_first dep in first f.0 f.1 (λ rests. never (still_behind f.0 x rests f.2))

      assigns : (c q : ℕ) (o : Owned) → Reaches (Node part cells) act p (ports.Cell c q) → In (source_order part) o → o.assign.target ≡ ports.Cell c q → offset_of act o.owner ≡ offset_of now o.owner
      assigns c q o reach j target = by o.owner refl reach
        where
          by : (w : Option ℕ) → o.owner ≡ w → Reaches (Node part cells) act p (ports.Cell c q) → offset_of act w ≡ offset_of now w
          by None e r = refl
          by (Some h) e (inl f) = absurd (no_cell c q f)
          by (Some h) e (inr dep) = absurd (against (ports.Cell c q) dep (λ still. none_some h (sym (still_continuous (Node part cells) source plain c q still o j target) ∙ e)))

      holes : (g : ℕ) → Reaches (Node part cells) act p (ports.Done g) → act.offset g ≡ Some 0
      holes g (inl e) = own g e
      holes g (inr dep) = absurd (against (ports.Done g) dep (λ still. hole_moves (Node part cells) source plain g still))

      still_undisturbed : Undisturbed (Node part cells) held act now st (around_of (Node part cells) around v look) p
      still_undisturbed = around_is assigns holes

  no_output : (o : Owned) → In (source_order part) o → (n : ℕ) → AssignNames o.assign (ports.Output n) → ⊥
  no_output o j n names = rules.kept.sources o n j names

  -- WITHIN WHAT A STATEMENT READS
  module _ (s : PlainStatement) (act : Active) (its_own : (g o : ℕ) → act.offset g ≡ Some o → In (groups_of s) g) where
    alone : IsApart part s act act
    alone = record { its_own = its_own; same = λ g c r e. refl }

    abbrev Inner : PortRef → Type 0
    Inner = Inside (Node part cells) s act act alone rules.keeps no_output

    depends_inner : {p q : PortRef} → Inner p → Depends (Node part cells) act p q → Inner q
    depends_inner {p} {q} h (at_once l) = leads_inside (Node part cells) s act act alone rules.keeps no_output p q h l
    depends_inner {p} {q} h (by_way_of r l deeper) = depends_inner {p = r} {q = q} (leads_inside (Node part cells) s act act alone rules.keeps no_output p r h l) deeper

    cell_is : (c m e q : ℕ) → ports.Cell c m ≡ ports.Cell e q → c ≡ e
    cell_is c m e q f = cc

    pub reach_reads : (c m : ℕ) → Reads part s c → (e q : ℕ) → Reaches (Node part cells) act (ports.Cell c m) (ports.Cell e q) → Reads part s e
    reach_reads c m read e q (inl f) = subst (Reads part s) (cell_is c m e q f) read
    reach_reads c m read e q (inr dep) = depends_inner {p = ports.Cell c m} {q = ports.Cell e q} read dep

    -- what an assignment of its group names
    named_inner : (o : Owned) → In (source_order part) o → (g : ℕ) → In (groups_of s) g → In (group_at part g).assigns o.assign → (q : PortRef) → AssignNames o.assign q → Inner q
    named_inner o j g i stands (ports.Cell c p) names = named p g o.assign i stands names
    named_inner o j g i stands (ports.Input n) names = tt
    named_inner o j g i stands (ports.Output n) names = no_output o j n names
    named_inner o j g i stands (ports.Done h) names = let p = source_in o.assign (ports.Done h) names in hole_named p.0.port p.2 ((rules.keeps o j).no_hole p.0 p.1)
      where
        hole_named : (x : PortRef) → x ≡ ports.Done h → is_hole x ≡ false → ⊥
        hole_named x e f = let no = sym (ap is_hole e) ∙ f in cc
    named_inner o j g i stands (ports.Literal w n) names = tt

  -- A PORT that a leaf reads and whatever it reaches, with what is near those alone
  pub reached_seen : (held : Held) (s : PlainStatement) (act : Active) → IsApart part s act (active_now (Node part cells) around v look) → (c m : ℕ) → Reads part s c
      → Nearby held act (λ e q. Reaches (Node part cells) act (ports.Cell c m) (ports.Cell e q)) → (b : BitVector) → Sees (Node part cells) held act st (ports.Cell c m) (Value b)
      → port_value (Node part cells) around v look (ports.Cell c m) ≡ b
  reached_seen held s act apart c m read near b sees =
      seen_value held act (ports.Cell c m) b
      (around_is held act (λ e q. Reaches (Node part cells) act (ports.Cell c m) (ports.Cell e q)) near (ports.Cell c m) (λ e q reach. reach)
      (apart_assigns (Node part cells) s act now apart rules.keeps no_output (ports.Cell c m) (of_cell read)) (apart_holes (Node part cells) s act now apart rules.keeps no_output (ports.Cell c m) (of_cell read)))
      sees

  -- A PORT OF A CELL that a leaf reads
  module _ (held : Held) (s : PlainStatement) (act : Active) (apart : IsApart part s act (active_now (Node part cells) around v look)) (near : Nearby held act (λ c q. Reads part s c)) where
    pub cell_undisturbed : (c m : ℕ) → Reads part s c → Undisturbed (Node part cells) held act (active_now (Node part cells) around v look) st (around_of (Node part cells) around v look) (ports.Cell c m)
    cell_undisturbed c m read =
        around_is held act (λ e q. Reads part s e) near (ports.Cell c m) (λ e q reach. reach_reads s act apart.its_own c m read e q reach)
        (apart_assigns (Node part cells) s act now apart rules.keeps no_output (ports.Cell c m) (of_cell read)) (apart_holes (Node part cells) s act now apart rules.keeps no_output (ports.Cell c m) (of_cell read))

    pub cell_seen : (c m : ℕ) → Reads part s c → (b : BitVector) → Sees (Node part cells) held act st (ports.Cell c m) (Value b) → port_value (Node part cells) around v look (ports.Cell c m) ≡ b
    cell_seen c m read b sees = seen_value held act (ports.Cell c m) b (cell_undisturbed c m read) sees

    input_undisturbed : (n : ℕ) → Undisturbed (Node part cells) held act now st (around_of (Node part cells) around v look) (ports.Input n)
    input_undisturbed n = around_is held act (λ e q. Reads part s e) near (ports.Input n) (λ e q reach. absurd (nowhere (ports.Cell e q) (λ f. cell_apart e q f) reach)) (λ c q o reach j target. absurd (nowhere (ports.Cell c q) (λ f. cell_apart c q f) reach))
        (λ g reach. absurd (nowhere (ports.Done g) (λ f. done_apart g f) reach))
      where
        cell_apart : (e q : ℕ) → ports.Input n ≡ ports.Cell e q → ⊥
        cell_apart e q f = cc

        done_apart : (g : ℕ) → ports.Input n ≡ ports.Done g → ⊥
        done_apart g f = cc

        nowhere : (x : PortRef) → (ports.Input n ≡ x → ⊥) → Reaches (Node part cells) act (ports.Input n) x → ⊥
        nowhere x apart_so (inl e) = apart_so e
        nowhere x apart_so (inr (at_once l)) = l
        nowhere x apart_so (inr (by_way_of r l deeper)) = l

    -- a port that a test looks at
    pub tested_seen : (p : PortRef) → is_hole p ≡ false → ((n : ℕ) → p ≡ ports.Output n → ⊥) → ((c m : ℕ) → p ≡ ports.Cell c m → Reads part s c) → (b : BitVector)
        → Sees (Node part cells) held act st p (Value b) → port_value (Node part cells) around v look p ≡ b
    tested_seen (ports.Cell c m) hole output reads b sees = cell_seen c m (reads c m refl) b sees
    tested_seen (ports.Input n) hole output reads b sees = seen_value held act (ports.Input n) b (input_undisturbed n) sees
    tested_seen (ports.Output n) hole output reads b sees = absurd (output n refl)
    tested_seen (ports.Done g) hole output reads b sees = absurd cc
    tested_seen (ports.Literal w n) hole output reads b (by_step look2 below needs children e) = value_same (record { width = w; value = n }) b e
      where
        value_same : (x y : BitVector) → Value x ≡ Value y → x ≡ y
        value_same x y f = cc

    -- THE EDGE of a cell is its cycle
    pub cell_steps : IsAcyclic (Node part cells) act → AcyclicBelow cells → (c : ℕ) (row : Row) (after : CellState) → Reads part s c → cell_at cells c ≡ OfRow row
        → cell_outcome (seen (Node part cells) held act st) c row (st (c ∷ [])) ≡ Next after → row.next (st (c ∷ [])) (given (port_value (Node part cells) around v look) c 0 row.ports) ≡ after
    cell_steps acyclic deeper c row after read at outcome =
        cell_step (seen (Node part cells) held act st) V c row (st (c ∷ [])) (row_lawful d (Node part cells) rules c row at)
        (λ q b e. cell_seen c q read b (subst (Sees (Node part cells) held act st (ports.Cell c q)) e (seen_found (Node part cells) held act st acyclic deeper (ports.Cell c q))))
        after outcome

  -- THE HOLE of a group, whatever goes
  module _ (held : Held) (s : PlainStatement) (g : ℕ) (its : In (groups_of s) g) (near : Nearby held (group g) (λ c q. Reads part s c)) where
    group_own : (h o : ℕ) → (group g).offset h ≡ Some o → In (groups_of s) h
    group_own h o e = by (nat_eq g h) refl e
      where
        by : (b : Bool) → nat_eq g h ≡ b → (if b then Some 0 else None) ≡ Some o → In (groups_of s) h
        by true f k = subst (In (groups_of s)) (eqb-true g h f) its
        by false f k = absurd cc

    pub record OfHole (r : PortRef) : Type 0 where
      pub of : Owned
      pub is_in : In (source_order part) of
      pub target : of.assign.target ≡ ports.Done g
      pub stands : In (group_at part g).assigns of.assign
      pub names : AssignNames of.assign r

    hole_leads : (r : PortRef) → Leads (Node part cells) (group g) (ports.Done g) r → OfHole r
    hole_leads r (a, j, names) = by (acting_stands (group g) (ports.Done g) (source_order part) a j)
      where
        some_is : (x y : ℕ) → ◌≡◌ {A = Option ℕ} (Some x) (Some y) → x ≡ y
        some_is x y e = cc

        none_is : (y : ℕ) → ◌≡◌ {A = Option ℕ} None (Some y) → ⊥
        none_is y e = cc

        by : Stands (group g) (ports.Done g) (source_order part) a → OfHole r
        by it = by_owner (owner_of part it.of it.is_in)
          where
            by_owner : OwnerOf part it.of → OfHole r
            by_owner (continuous owner stands) = absurd (none_is g (sym owner ∙ (rules.keeps it.of it.is_in).own_done g it.target))
            by_owner (of_group h owner stands) = record {
              of = it.of;
              is_in = it.is_in;
              target = it.target;
              stands = subst (λ k. In (group_at part k).assigns it.of.assign) (some_is h g (sym owner ∙ (rules.keeps it.of it.is_in).own_done g it.target)) stands;
              names = subst (λ x. AssignNames x r) it.assign names;
            }

    near_of_hole : (c q : ℕ) → Reaches (Node part cells) (group g) (ports.Done g) (ports.Cell c q) → Reads part s c
    near_of_hole c q (inl e) = absurd (apart e)
      where
        apart : ports.Done g ≡ ports.Cell c q → ⊥
        apart f = cc
    near_of_hole c q (inr (at_once l)) = let h = hole_leads (ports.Cell c q) l in named_inner s (group g) group_own h.of h.is_in g its h.stands (ports.Cell c q) h.names
    near_of_hole c q (inr (by_way_of r l deeper)) =
        let h = hole_leads r l in depends_inner s (group g) group_own {p = r} {q = ports.Cell c q} (named_inner s (group g) group_own h.of h.is_in g its h.stands r h.names) deeper

    pub hole_seen : (b : BitVector) → Sees (Node part cells) held (group g) st (ports.Done g) (Value b) → port_value (Node part cells) around v look (ports.Done g) ≡ b
    hole_seen b sees =
        seen_value held (group g) (ports.Done g) b
        (still_undisturbed held (group g) (λ c q. Reads part s c) near (ports.Done g) near_of_hole (λ c q e. no_cell c q e) (λ r l none. let h = hole_leads r l in rules.rests.dones h.of g r h.is_in h.target h.names none)
        (λ h e. ap (only_at g) (sym (same_group h e)) ∙ only_self g))
        sees
      where
        no_cell : (c q : ℕ) → ports.Done g ≡ ports.Cell c q → ⊥
        no_cell c q e = cc

        same_group : (h : ℕ) → ports.Done g ≡ ports.Done h → g ≡ h
        same_group h e = cc

  -- A PORT THAT RESTS ON STATE, whatever goes
  pub rested_seen : (held : Held) (act : Active) (p : PortRef) → ((Rests (Node part cells) p → ⊥) → ⊥) → Nearby held act (λ c q. Reaches (Node part cells) act p (ports.Cell c q)) → (b : BitVector)
      → Sees (Node part cells) held act st p (Value b) → port_value (Node part cells) around v look p ≡ b
  rested_seen held act p rests near b sees =
      seen_value held act p b (still_port held act (λ c q. Reaches (Node part cells) act p (ports.Cell c q)) near p (λ c q reach. reach) (λ never. rests (λ it. never (resting it)))) sees

  -- AN OUTPUT of the instance, whatever goes
  pub output_seen : (n : ℕ) (b : BitVector) → Nearby unheld nothing (λ c q. Unit {0}) → Sees (Node part cells) unheld nothing st (ports.Output n) (Value b) → port_value (Node part cells) around v look (ports.Output n) ≡ b
  output_seen n b near sees =
      seen_value unheld nothing (ports.Output n) b
      (still_undisturbed unheld nothing (λ c q. Unit {0}) near (ports.Output n) (λ c q reach. tt) no_cell rest (λ g e. absurd (no_done g e))) sees
    where
      no_cell : (c q : ℕ) → ports.Output n ≡ ports.Cell c q → ⊥
      no_cell c q e = cc

      no_done : (g : ℕ) → ports.Output n ≡ ports.Done g → ⊥
      no_done g e = cc

      rest : (r : PortRef) → Leads (Node part cells) nothing (ports.Output n) r → (Rests (Node part cells) r → ⊥) → ⊥
      rest r (a, j, names) none =
          let it = acting_stands nothing (ports.Output n) (source_order part) a j in
          rules.rests.outputs it.of n r it.is_in it.target (subst (λ x. AssignNames x r) it.assign names) none
