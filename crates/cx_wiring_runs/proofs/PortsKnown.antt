-- The ports of an instance have values where what they hang on has: those that rest on state by how they rest, and all of them under what
-- goes, since nothing leads in a circle under it.
use Rattle.std.proofs.Common.{◌≡◌, ℕ, zero, suc, ◌+◌, ◌<◌, ◌≤◌, ◌⊎◌, inl, inr, Bool, true, false, if◌then◌else◌, List, [], ◌∷◌, ◌++◌, length, Option, Some, None, option_map, option_and_then, unwrap_or, slice_get, refl, sym, ap, ◌∙◌, subst, arith, ⊎_elim}
use Rattle.std.proofs.lemmas.Bool.{lt-ltb, ltb-true}
use Rattle.std.proofs.lemmas.Bool.Decides.{nat_tests}
use Rattle.cx_text.proofs.MemberLaws.{in_left, in_right}
use Rattle.cx_text.specs.Members.{In}
use Rattle.cx_text.proofs.OptionLaws.{none_is_some}
use Rattle.cx_text.proofs.NumberLaws.{before_more}
use Rattle.cx_bits.specs.BitVector.{BitVector, zero_of}
use Rattle.cx_prim.specs.declared.ports.PortRow.{PortRow}
use Rattle.cx_prim.specs.declared.ports.Side.{Side}
use Rattle.cx_prim.specs.declared.ports.Side.TheVariants as sides
use Rattle.cx_prim.specs.Rows.{Inputs, Row}
use Rattle.cx_meaning.specs.declared.ports.PortRef.{PortRef}
use Rattle.cx_meaning.specs.declared.ports.PortRef.TheVariants as ports
use Rattle.cx_meaning.specs.Rows.{side_of}
use Rattle.cx_meaning.specs.Designs.{PlainComponent, PlainDesign}
use Rattle.cx_meaning.specs.Instances as instances
use Rattle.cx_meaning.specs.Instances.{Instance, Cells, no_cells, a_primitive, an_instance, At, Nothing, OfRow, OfInstance, part_of, cell_at}
use Rattle.cx_meaning.specs.Active.{Active, nothing, Owned, source_order, offset_of, same_port, drivers}
use Rattle.cx_meaning.specs.Sights.{PartPort, Go, AnInput, AnOutput, ItsDone, part_port, numbered}
use Rattle.cx_rules.specs.Footprints.{AssignNames, Mentions, Rests, literal_rests, input_rests, registered_rests, output_rests, done_rests, combinational_rests, SideLeads, PartLeads, CellLeads, Leads, Depends, at_once, by_way_of}
use Rattle.cx_rules.specs.Circles.{IsAcyclic}
use Rattle.cx_rules.specs.Wellformed.{IsThere, port_count}
use Rattle.cx_rules.proofs.FoundLemmas.{same_is, source_in}
use Rattle.cx_control.proofs.UnionLemmas.{stands_acting}
use Rattle.cx_net.specs.Nets.{PlainNetExpr, OfPort, OfWire, ToPort, PlainNetDriver, PlainNetComponent}
use Rattle.cx_net.specs.NetTree.{NetCells, ARow, AChild, net_part, net_cell_at}
use Rattle.cx_net.specs.NetMeaning.{NetState, Node, APort, AHole, TheDone, NetLook, NetAround, is_true, same_target, gather_known, registers_of, driven_node, row_node, child_node, cell_node, own_step, is_port_of, is_own_node, net_part_port, net_at_width}
use Rattle.cx_static.specs.Islands.{PlainIsland}
use Rattle.cx_static.specs.Lowering.{lowered, lowered_component, lowered_of, unlowered}
use Rattle.cx_wiring.specs.Control.{control_drivers}
use Rattle.cx_wiring.specs.Assignments.{target_of, looks_of, is_driven, driven_assigns, assigns_drivers}
use Rattle.cx_wiring.specs.Wiring.{groups, first_of_control, first_of_assigns, plain_drivers}
use Rattle.cx_wiring.specs.PartNets.{timers_of, wired_in, net_of_instance, net_of_cells}
use Rattle.cx_wiring.proofs.DrivenLemmas.{IsProper}
use Rattle.cx_wiring.proofs.DesignNames.{in_filter}
use Rattle.cx_wiring_cycles.proofs.ControlPorts.{OfTimers, control_free}
use Rattle.cx_wiring_cycles.proofs.AssignLaws.{same_cell, same_output}
use Rattle.cx_wiring_cycles.proofs.NodeTakes.{assign_reads}
use Rattle.cx_wiring_runs.proofs.TimerPlaces.{cell_no_timer, output_no_timer}
use Rattle.cx_wiring_runs.proofs.WholeLooks.{part_output}
use Rattle.cx_wiring_runs.proofs.InstancePorts.{IsNamed, AssignRules, PortRules}
use Rattle.cx_wiring_runs.proofs.NodeRules.{NodeRules}
use Rattle.cx_wiring_runs.proofs.KnownLemmas.{Known, known_as, KnownExpr, Fed, AllTo, all_to_append, all_to_other}
use Rattle.cx_wiring_runs.proofs.CircleInduction.{acyclic_induction}
use Rattle.cx_wiring_runs.proofs.RowPorts.{HasRowPorts}
use Rattle.cx_wiring_runs.proofs.NodeReads.{target_known}
use Rattle.cx_wiring_runs.proofs.AssignsKnown.{AssignsRead, assigns_read, LookFed, GoesKnown, NamesKnown, assigns_fed}
use Rattle.cx_rules.proofs.ForeignLemmas.{OwnerOf, continuous, of_group, owner_of}
use Rattle.cx_laws.proofs.SeenLemmas.{side_there}

-- CELLS OF THE NET are those of the instance, and timers behind them
module _ (W : PlainComponent → PlainNetComponent) (T : PlainComponent → List Row) (N : Instance → NetState → ℕ → ℕ) where
  pub row_stands : (cells : Cells) (more : List Row) (c : ℕ) (row : Row) → cell_at cells c ≡ OfRow row → net_cell_at (net_of_cells W T N cells more) c ≡ ARow row
  row_stands no_cells more c row is = absurd cc
  row_stands (a_primitive r rest) more zero row is = let f : r ≡ row = cc in ap ARow f
  row_stands (a_primitive r rest) more (suc c) row is = row_stands rest more c row is
  row_stands (an_instance kid rest) more zero row is = absurd cc
  row_stands (an_instance kid rest) more (suc c) row is = row_stands rest more c row is

  pub child_stands : (cells : Cells) (more : List Row) (c : ℕ) (child : Instance) → cell_at cells c ≡ OfInstance child → net_cell_at (net_of_cells W T N cells more) c ≡ AChild (net_of_instance W T N child)
  child_stands no_cells more c child is = absurd cc
  child_stands (a_primitive row rest) more zero child is = absurd cc
  child_stands (a_primitive row rest) more (suc c) child is = child_stands rest more c child is
  child_stands (an_instance kid rest) more zero child is = let f : kid ≡ child = cc in ap (λ z. AChild (net_of_instance W T N z)) f
  child_stands (an_instance kid rest) more (suc c) child is = child_stands rest more c child is

pub part_port_same : (d : PlainDesign) (numbers : Instance → NetState → ℕ → ℕ) (child : Instance) (p : ℕ) → net_part_port (net_part (net_of_instance (wired_in d) timers_of numbers child)) p ≡ part_port (part_of child) p
part_port_same d numbers (instances.Node q qs) zero = refl
part_port_same d numbers (instances.Node q qs) (suc p) = refl

-- the inputs that are wanted
pub gathered : (look : ℕ → Option BitVector) (wanted : ℕ → Bool) (p : ℕ) (rows : List PortRow) → ((q : ℕ) → p ≤ q → q < p + length rows → wanted q ≡ true → Known (look q)) → (inputs : Inputs) × (gather_known look wanted p rows ≡ Some inputs)
gathered look wanted p [] h = ([], refl)
gathered look wanted p (row ∷ rest) h = choice (wanted p) refl (gathered look wanted (suc p) rest (λ q low high. h q (omega arith) (omega arith))) (h p (omega arith) (omega arith))
  where
    choice : (b : Bool) → wanted p ≡ b → ((inputs : Inputs) × (gather_known look wanted (suc p) rest ≡ Some inputs)) → (wanted p ≡ true → Known (look p)) → (inputs : Inputs) × (gather_known look wanted p (row ∷ rest) ≡ Some inputs)
    choice true e later own = let k = own e in (
      Some k.0 ∷ later.0,
      ap (λ b. if b then option_and_then (λ x. option_map (λ more. Some x ∷ more) (gather_known look wanted (suc p) rest)) (look p) else option_map (λ more. None ∷ more) (gather_known look wanted (suc p) rest)) e
          ∙ ap (λ o. option_and_then (λ x. option_map (λ more. Some x ∷ more) (gather_known look wanted (suc p) rest)) o) k.1 ∙ ap (option_map (λ more. Some k.0 ∷ more)) later.1,
    )
    choice false e later own = (
      None ∷ later.0,
      ap (λ b. if b then option_and_then (λ x. option_map (λ more. Some x ∷ more) (gather_known look wanted (suc p) rest)) (look p) else option_map (λ more. None ∷ more) (gather_known look wanted (suc p) rest)) e
          ∙ ap (option_map (λ more. None ∷ more)) later.1,
    )

-- what is not unknown is known
pub known_stable : (o : Option BitVector) → ((Known o → ⊥) → ⊥) → Known o
known_stable (Some b) h = (b, refl)
known_stable None h = absurd (h (λ k. none_is_some k.0 k.1))

abbrev cell_ports : (ℕ → ℕ) → ℕ → List PortRef
cell_ports count zero = []
cell_ports count (suc c) = numbered c (count c) ++ cell_ports count c

first_port_in : (c n p : ℕ) → p < n → In (numbered c n) (ports.Cell c p)
first_port_in c zero p h = absurd (omega arith)
first_port_in c (suc n) p h = ⊎_elim (λ l. inr (first_port_in c n p l)) (λ e. inl (ap (ports.Cell c) (sym e))) (before_more n p (omega (arith, h)))

cell_port_in : (count : ℕ → ℕ) (n c p : ℕ) → c < n → p < count c → In (cell_ports count n) (ports.Cell c p)
cell_port_in count zero c p less there = absurd (omega arith)
cell_port_in count (suc n) c p less there =
    ⊎_elim
    (λ l. in_right (numbered n (count n)) (cell_ports count n) _ (cell_port_in count n c p l there))
    (λ e. in_left (numbered n (count n)) (cell_ports count n) _ (subst (λ m. In (numbered m (count m)) (ports.Cell c p)) e (first_port_in c (count c) p there)))
    (before_more n c (omega (arith, less)))

-- WHAT LEADS from ports of cells
module _ (part : PlainComponent) (cells : Cells) (act : Active) where
  abbrev I : Instance
  I = instances.Node part cells

  row_leads : (c p : ℕ) (row : Row) (side : Side) (q : PortRef) → cell_at cells c ≡ OfRow row → side_of row p ≡ side → SideLeads part act row c p side q → Leads (instances.Node part cells) act (ports.Cell c p) q
  row_leads c p row side q is e h = subst (λ x. CellLeads part act c p x q) (sym is) (subst (λ x. SideLeads part act row c p x q) (sym e) h)

  child_leads : (c p : ℕ) (child : Instance) (port : PartPort) (q : PortRef) → cell_at cells c ≡ OfInstance child → part_port (part_of child) p ≡ port → PartLeads part act c p port q → Leads (instances.Node part cells) act (ports.Cell c p) q
  child_leads c p child port q is e h = subst (λ x. CellLeads part act c p x q) (sym is) (subst (λ x. PartLeads part act c p x q) (sym e) h)

-- THE NODE of an instance, whose look solves the rules of its nodes
module _ (d : PlainDesign) (part : PlainComponent) (cells : Cells) (numbers : Instance → NetState → ℕ → ℕ) (rules : NodeRules d (instances.Node part cells)) (around : NetAround) (s : NetState) (look : NetLook)
    (solves : (n : Node) → is_own_node (wired_in d part) (net_of_cells (wired_in d) timers_of numbers cells (timers_of part)) n ≡ true
    → look [] n ≡ own_step (wired_in d part) (net_of_cells (wired_in d) timers_of numbers cells (timers_of part)) around s (look []) (λ c. look (c ∷ [])) n) where
  abbrev Inst : Instance
  Inst = instances.Node part cells

  abbrev NC : NetCells
  NC = net_of_cells (wired_in d) timers_of numbers cells (timers_of part)

  abbrev pub R : ℕ → Option BitVector
  R = registers_of (wired_in d part) (net_of_cells (wired_in d) timers_of numbers cells (timers_of part)) around s (look []) (λ c. look (c ∷ []))

  abbrev K : PlainNetExpr → Type 0
  K = KnownExpr around R (look [])

  abbrev G : ℕ
  G = groups (lowered_component part)

  abbrev CD : List PlainNetDriver
  CD = control_drivers (groups (lowered_component part)) (lowered_component part).islands (first_of_control (lowered_component part)) (lowered part part.control (unlowered part))

  abbrev AD : List PlainNetDriver
  AD = assigns_drivers (groups (lowered_component part)) (first_of_assigns (lowered_component part)) (driven_assigns (lowered_component part))

  -- ASSIGNMENTS: their wires
  pub all_read : AssignsRead (groups (lowered_component part)) (lowered_component part).islands (NodeRules.islands_named rules) around R (look []) (first_of_assigns (lowered_component part)) (driven_assigns (lowered_component part))
  all_read = assigns_read (groups (lowered_component part)) (lowered_component part).islands (NodeRules.islands_named rules) around R (look []) (driven_assigns (lowered_component part)) (first_of_assigns (lowered_component part)) (NodeRules.assigns_named rules)
      (assign_reads (lowered_of d) part NC around s look solves (NodeRules.plain rules) (NodeRules.islands_named rules) (NodeRules.control_named rules))

  abbrev pub IsFed : Owned → Type 0
  IsFed a = LookFed (groups (lowered_component part)) (lowered_component part).islands (NodeRules.islands_named rules) around R (look []) (looks_of a.owner a.assign.target) a.assign

  -- A PORT whose assignments are fed has a value, whatever stands where none drives
  module _ (p : PortRef) (proper : IsProper (ToPort p)) (no_timer : (k : ℕ) (island : PlainIsland) → slice_get (lowered_component part).islands k ≡ Some island → OfTimers (λ u. same_target u (ToPort p) ≡ false) island.timers)
      (same : (q : PortRef) → same_target (target_of q) (ToPort p) ≡ same_port q p) (fed : (a : Owned) → In (driven_assigns (lowered_component part)) a → a.assign.target ≡ p → IsFed a) where
    all_fed : AllTo (Fed around R (look [])) (ToPort p) (plain_drivers (lowered_component part))
    all_fed =
        all_to_append (Fed around R (look [])) (ToPort p) CD AD
        (all_to_other (Fed around R (look [])) (ToPort p) CD
        (control_free (λ u. same_target u (ToPort p) ≡ false) (λ n. refl) (λ n. refl) (λ n. refl) refl (groups (lowered_component part)) (lowered_component part).islands no_timer (first_of_control (lowered_component part)) (lowered part part.control (unlowered part))))
        (assigns_fed (groups (lowered_component part)) (lowered_component part).islands (NodeRules.islands_named rules) around R (look []) (ToPort p) tt (driven_assigns (lowered_component part)) (first_of_assigns (lowered_component part)) (omega arith) all_read
        (λ a i e. fed a i (same_is a.assign.target p (sym (same a.assign.target) ∙ e))))

    driven_known : (w : ℕ) → Known (driven_node (wired_in d part) NC around s (look []) (λ c. look (c ∷ [])) w (ToPort p))
    driven_known w = target_known (lowered_of d) part NC around s look solves (NodeRules.plain rules) (ToPort p) proper (λ m from. refl) all_fed (zero_of w)

  pub cell_driven : (c q : ℕ) → c < length part.cells → ((a : Owned) → In (driven_assigns (lowered_component part)) a → a.assign.target ≡ ports.Cell c q → IsFed a) → (w : ℕ)
      → Known (driven_node (wired_in d part) NC around s (look []) (λ e. look (e ∷ [])) w (ToPort (ports.Cell c q)))
  cell_driven c q less fed w = driven_known (ports.Cell c q) tt (cell_no_timer part c q less) (same_cell c q) fed w

  pub output_driven : (n : ℕ) → ((a : Owned) → In (driven_assigns (lowered_component part)) a → a.assign.target ≡ ports.Output n → IsFed a) → (w : ℕ)
      → Known (driven_node (wired_in d part) NC around s (look []) (λ e. look (e ∷ [])) w (ToPort (ports.Output n)))
  output_driven n fed w = driven_known (ports.Output n) tt (λ k island e. output_no_timer n island.timers) (same_output n) fed w

  -- WHAT STANDS AT CELLS
  row_has : (c p : ℕ) (row : Row) (side : Side) → cell_at cells c ≡ OfRow row → side_of row p ≡ side → p < length row.ports → look [] (APort (ports.Cell c p)) ≡ row_node (wired_in d part) NC around s (look []) (λ e. look (e ∷ [])) row c p side
  row_has c p row side is e less =
      let stands = row_stands (wired_in d) timers_of numbers cells (timers_of part) c row is in
      solves (APort (ports.Cell c p)) (ap (λ x. is_port_of x p) stands ∙ lt-ltb p (length row.ports) less)
      ∙ ap (λ x. cell_node (wired_in d part) NC around s (look []) (λ e. look (e ∷ [])) c p x) stands
      ∙ ap (row_node (wired_in d part) NC around s (look []) (λ e. look (e ∷ [])) row c p) e

  child_count : (child : Instance) → 2 + length (net_part (net_of_instance (wired_in d) timers_of numbers child)).inputs + length (net_part (net_of_instance (wired_in d) timers_of numbers child)).outputs
      ≡ 2 + length (part_of child).inputs + length (part_of child).outputs
  child_count (instances.Node q qs) = refl

  child_has : (c p : ℕ) (child : Instance) (port : PartPort) → cell_at cells c ≡ OfInstance child → part_port (part_of child) p ≡ port → p < 2 + length (part_of child).inputs + length (part_of child).outputs
      → look [] (APort (ports.Cell c p)) ≡ child_node (wired_in d part) NC around s (look []) (λ e. look (e ∷ [])) (net_of_instance (wired_in d) timers_of numbers child) c p port
  child_has c p child port is e less =
      let stands = child_stands (wired_in d) timers_of numbers cells (timers_of part) c child is in
      let count = child_count child in
      solves (APort (ports.Cell c p))
      (ap (λ x. is_port_of x p) stands
      ∙ lt-ltb p (2 + length (net_part (net_of_instance (wired_in d) timers_of numbers child)).inputs + length (net_part (net_of_instance (wired_in d) timers_of numbers child)).outputs) (subst (λ n. p < n) (sym count) less))
      ∙ ap (λ x. cell_node (wired_in d part) NC around s (look []) (λ e. look (e ∷ [])) c p x) stands
      ∙ ap (child_node (wired_in d part) NC around s (look []) (λ e. look (e ∷ [])) (net_of_instance (wired_in d) timers_of numbers child) c p) (part_port_same d numbers child p ∙ e)

  row_there : (c p : ℕ) (row : Row) → cell_at cells c ≡ OfRow row → IsThere (instances.Node part cells) (ports.Cell c p) → p < length row.ports
  row_there c p row is there = subst (λ x. p < port_count x) is there.1

  child_there : (c p : ℕ) (child : Instance) → cell_at cells c ≡ OfInstance child → IsThere (instances.Node part cells) (ports.Cell c p) → p < 2 + length (part_of child).inputs + length (part_of child).outputs
  child_there c p child is there = subst (λ x. p < port_count x) is there.1

  -- what the cells show: registered outputs, and the outputs and dones of children
  pub record CellsShow : Type 0 where
    pub rows : (c : ℕ) (row : Row) → cell_at cells c ≡ OfRow row → HasRowPorts row
    pub registered : (c : ℕ) (row : Row) (n : ℕ) (port : PortRow) → cell_at cells c ≡ OfRow row → slice_get row.ports n ≡ Some port → port.side ≡ sides.Registered → Known (row.output (s.cell (c ∷ [])) [] n)
    pub outputs : (c : ℕ) (child : Instance) (n : ℕ) → cell_at cells c ≡ OfInstance child → n < length (part_of child).outputs → Known (look (c ∷ []) (APort (ports.Output n)))
    pub dones : (c : ℕ) (child : Instance) → cell_at cells c ≡ OfInstance child → Known (look (c ∷ []) TheDone)

  module _ (shows : CellsShow) where
    registered_known : (c p : ℕ) (row : Row) → cell_at cells c ≡ OfRow row → side_of row p ≡ sides.Registered → p < length row.ports → Known (look [] (APort (ports.Cell c p)))
    registered_known c p row is side less =
        let r = side_there row.ports p less in
        known_as _ _ (row_has c p row sides.Registered is side less) (CellsShow.registered shows c row p r.0 is r.1 (sym r.2 ∙ side))

    -- an output whose inputs have values
    output_known : (c p : ℕ) (row : Row) → cell_at cells c ≡ OfRow row → side_of row p ≡ sides.Output → p < length row.ports → ((m : ℕ) → m < length row.ports → row.reads p m ≡ true → Known (look [] (APort (ports.Cell c m)))) → Known (look [] (APort (ports.Cell c p)))
    output_known c p row is side less inputs =
        let g = gathered (λ q. look [] (APort (ports.Cell c q))) (row.reads p) 0 row.ports (λ q low high wanted. inputs q (omega arith) wanted) in
        known_as _ _ (row_has c p row sides.Output is side less)
        (_, ap (option_map (λ ins. unwrap_or (row.output (s.cell (c ∷ [])) ins p) (zero_of (net_at_width (ARow row) p)))) g.1)

    child_output : (c p n : ℕ) (child : Instance) → cell_at cells c ≡ OfInstance child → part_port (part_of child) p ≡ AnOutput n → p < 2 + length (part_of child).inputs + length (part_of child).outputs → Known (look [] (APort (ports.Cell c p)))
    child_output c p n child is port less =
        known_as _ _ (child_has c p child (AnOutput n) is port less) (CellsShow.outputs shows c child n is (of_child child port))
      where
        of_child : (child : Instance) → part_port (part_of child) p ≡ AnOutput n → n < length (part_of child).outputs
        of_child (instances.Node q qs) e = ltb-true n (length q.outputs) (part_output (wired_in d q) p n (part_port_same d numbers (instances.Node q qs) p ∙ e))

    child_done : (c p : ℕ) (child : Instance) → cell_at cells c ≡ OfInstance child → part_port (part_of child) p ≡ ItsDone → p < 2 + length (part_of child).inputs + length (part_of child).outputs → Known (look [] (APort (ports.Cell c p)))
    child_done c p child is port less = known_as _ _ (child_has c p child ItsDone is port less) (CellsShow.dones shows c child is)

    pub named_there : (a : Owned) → In (source_order part) a → (q : PortRef) → AssignNames a.assign q → IsNamed (instances.Node part cells) q
    named_there a i q n = let r = source_in a.assign q n in subst (IsNamed (instances.Node part cells)) r.2 (AssignRules.source (PortRules.assigns (NodeRules.ports rules) a i) r.0 r.1)

    pub stands : (a : Owned) → In (driven_assigns (lowered_component part)) a → In (source_order part) a
    stands a i = in_filter (is_driven (lowered_component part)) (source_order part) a i

    pub always_fed : (a : Owned) → a.owner ≡ None → NamesKnown (groups (lowered_component part)) (lowered_component part).islands (NodeRules.islands_named rules) around R (look []) a.assign → IsFed a
    always_fed a none names =
        subst (λ o. LookFed (groups (lowered_component part)) (lowered_component part).islands (NodeRules.islands_named rules) around R (look []) (looks_of o a.assign.target) a.assign) (sym none) ((_, refl), names)

    -- PORTS THAT REST, where the inputs to which they lead have values
    abbrev Leading : PortRef → Type 0
    Leading q = (n : ℕ) → n < length part.inputs → (q ≡ ports.Input n) ⊎ Depends (instances.Node part cells) nothing q (ports.Input n) → Known (around.input n)

    pub rests_known : (q : PortRef) → Rests (instances.Node part cells) q → IsThere (instances.Node part cells) q → Leading q → KnownExpr around R (look []) (OfPort q)
    rests_known q literal_rests there free = (_, refl)
    rests_known q (input_rests {n}) there free = free n there (inl refl)
    rests_known q (registered_rests {c} {p} row is side) there free = registered_known c p row is side (row_there c p row is there)
    rests_known q (output_rests {c} {p} n child is port) there free = child_output c p n child is port (child_there c p child is there)
    rests_known q (done_rests {c} {p} child is port) there free = child_done c p child is port (child_there c p child is there)
    rests_known q (combinational_rests {c} {p} row is side none always) there free =
        output_known c p row is side (row_there c p row is there)
        (λ m less reads.
        let plain = HasRowPorts.reads_plain (CellsShow.rows shows c row is) p m reads in
        known_as _ _ (row_has c m row sides.Plain is plain less)
        (cell_driven c m there.0 (λ a i target. by_owner m reads plain a target (stands a i) (owner_of part a (stands a i)) (λ q in_always n.
        rests_known q (always m a.assign q reads in_always target n) (IsNamed.there (named_there a (stands a i) q n)) (λ k small e. free k small (inr (further m reads plain a target (stands a i) q n k e)))))
        (net_at_width (ARow row) m)))
      where
        further : (m : ℕ) → row.reads p m ≡ true → side_of row m ≡ sides.Plain → (a : Owned) → a.assign.target ≡ ports.Cell c m → In (source_order part) a → (q : PortRef) → AssignNames a.assign q → (k : ℕ)
            → (q ≡ ports.Input k) ⊎ Depends (instances.Node part cells) nothing q (ports.Input k) → Depends (instances.Node part cells) nothing (ports.Cell c p) (ports.Input k)
        further m reads plain a target i q n k e =
            by_way_of (ports.Cell c m) (row_leads part cells nothing c p row sides.Output (ports.Cell c m) is side (m, reads, refl)) (onwards e)
          where
            once : (r : PortRef) → AssignNames a.assign r → a.owner ≡ None → Leads (instances.Node part cells) nothing (ports.Cell c m) r
            once r names none =
                row_leads part cells nothing c m row sides.Plain r is plain
                (_, stands_acting nothing (ports.Cell c m) (source_order part) a i (ap (λ t. same_port t (ports.Cell c m)) target ∙ self c m) 0 (ap (offset_of nothing) none), names)
              where
                self : (x y : ℕ) → same_port (ports.Cell x y) (ports.Cell x y) ≡ true
                self x y = grind (arith, nat_tests)

            owned : a.owner ≡ None
            owned = by (owner_of part a i)
              where
                by : OwnerOf part a → a.owner ≡ None
                by (continuous none j) = none
                by (of_group g is_of j) = absurd (none m g a.assign reads j target)

            onwards : (q ≡ ports.Input k) ⊎ Depends (instances.Node part cells) nothing q (ports.Input k) → Depends (instances.Node part cells) nothing (ports.Cell c m) (ports.Input k)
            onwards (inl e) = at_once (once (ports.Input k) (subst (AssignNames a.assign) e n) owned)
            onwards (inr dep) = by_way_of q (once q n owned) dep

        by_owner : (m : ℕ) → row.reads p m ≡ true → side_of row m ≡ sides.Plain → (a : Owned) → a.assign.target ≡ ports.Cell c m → In (source_order part) a → OwnerOf part a
            → ((q : PortRef) → In part.always a.assign → AssignNames a.assign q → KnownExpr around R (look []) (OfPort q)) → IsFed a
        by_owner m reads plain a target i (continuous owner j) known = always_fed a owner (λ q n. known q j n)
        by_owner m reads plain a target i (of_group g owner j) known = absurd (none m g a.assign reads j target)

    -- ALL PORTS, where nothing leads in a circle under what goes
    module _ (act : Active) (acyclic : IsAcyclic (instances.Node part cells) act)
        (goes : (g : ℕ) → g < groups (lowered_component part) → (b : BitVector) × (look [] (AHole (groups (lowered_component part) + g)) ≡ Some b) × (is_true b ≡ true → (u : ℕ) × (act.offset g ≡ Some u)))
        (offsets : (g : ℕ) → g < groups (lowered_component part) → KnownExpr around R (look []) (OfWire g))
        (inputs : (n : ℕ) → n < length part.inputs → Known (around.input n)) (outputs : (n : ℕ) → n < length part.outputs → Known (look [] (APort (ports.Output n)))) where
      abbrev Goal : PortRef → Type 0
      Goal (ports.Cell c q) = IsThere (instances.Node part cells) (ports.Cell c q) → Known (look [] (APort (ports.Cell c q)))
      Goal (ports.Input n) = Unit {0}
      Goal (ports.Output n) = Unit {0}
      Goal (ports.Done g) = Unit {0}
      Goal (ports.Literal w v) = Unit {0}

      abbrev all_ports : List PortRef
      all_ports = cell_ports (λ c. port_count (cell_at cells c)) (length part.cells)

      abbrev Follows : PortRef → Type 0
      Follows p = (q : PortRef) → In all_ports q → Leads (instances.Node part cells) act p q → Goal q

      port_in : (c q : ℕ) → IsThere (instances.Node part cells) (ports.Cell c q) → In all_ports (ports.Cell c q)
      port_in c q there = cell_port_in (λ e. port_count (cell_at cells e)) (length part.cells) c q there.0 there.1

      named_known : (p q : PortRef) → Follows p → Leads (instances.Node part cells) act p q → IsNamed (instances.Node part cells) q → KnownExpr around R (look []) (OfPort q)
      named_known p (ports.Cell c q) ih leads named = ih (ports.Cell c q) (port_in c q (IsNamed.there named)) leads (IsNamed.there named)
      named_known p (ports.Input n) ih leads named = inputs n (IsNamed.there named)
      named_known p (ports.Output n) ih leads named = outputs n (IsNamed.there named)
      named_known p (ports.Done g) ih leads named = absurd (let e = IsNamed.no_hole named in cc)
      named_known p (ports.Literal w v) ih leads named = (_, refl)

      -- an assignment of a port, where what it mentions leads from there
      going_fed : (c q : ℕ) → ((r : PortRef) (a : Owned) (u : ℕ) → In (source_order part) a → a.assign.target ≡ ports.Cell c q → offset_of act a.owner ≡ Some u → AssignNames a.assign r → Leads (instances.Node part cells) act (ports.Cell c q) r)
          → Follows (ports.Cell c q) → (a : Owned) → In (driven_assigns (lowered_component part)) a → a.assign.target ≡ ports.Cell c q → IsFed a
      going_fed c q leads ih a i target = by_owner a.owner refl
        where
          names : (u : ℕ) → offset_of act a.owner ≡ Some u → NamesKnown (groups (lowered_component part)) (lowered_component part).islands (NodeRules.islands_named rules) around R (look []) a.assign
          names u e r n = named_known (ports.Cell c q) r ih (leads r a u (stands a i) target e n) (named_there a (stands a i) r n)

          by_owner : (o : Option ℕ) → a.owner ≡ o → IsFed a
          by_owner None e = always_fed a e (names 0 (ap (offset_of act) e))
          by_owner (Some g) e =
              let less = AssignRules.owner (PortRules.assigns (NodeRules.ports rules) a (stands a i)) g e in
              let known : GoesKnown (groups (lowered_component part)) (lowered_component part).islands (NodeRules.islands_named rules) around R (look []) g a.assign = record {
                hole = (goes g less).0;
                is = (goes g less).1;
                names = λ on. let k = (goes g less).2 on in names k.0 (ap (offset_of act) e ∙ k.1);
              } in
              subst (λ t. LookFed (groups (lowered_component part)) (lowered_component part).islands (NodeRules.islands_named rules) around R (look []) (looks_of a.owner t) a.assign) (sym target)
              (subst (λ o. LookFed (groups (lowered_component part)) (lowered_component part).islands (NodeRules.islands_named rules) around R (look []) (looks_of o (ports.Cell c q)) a.assign) (sym e) (offsets g less, known))

      mentions : (c q : ℕ) (r : PortRef) (a : Owned) (u : ℕ) → In (source_order part) a → a.assign.target ≡ ports.Cell c q → offset_of act a.owner ≡ Some u → AssignNames a.assign r → Mentions (drivers part act (ports.Cell c q)) r
      mentions c q r a u i target e n = (_, stands_acting act (ports.Cell c q) (source_order part) a i (ap (λ t. same_port t (ports.Cell c q)) target ∙ self c q) u e, n)
        where
          self : (x y : ℕ) → same_port (ports.Cell x y) (ports.Cell x y) ≡ true
          self x y = grind (arith, nat_tests)

      one_step : (p : PortRef) → In all_ports p → Follows p → Goal p
      one_step (ports.Input n) here ih = tt
      one_step (ports.Output n) here ih = tt
      one_step (ports.Done g) here ih = tt
      one_step (ports.Literal w v) here ih = tt
      one_step (ports.Cell c q) here ih = λ there. by_cell there (cell_at cells c) refl
        where
          by_cell : IsThere (instances.Node part cells) (ports.Cell c q) → (x : At) → cell_at cells c ≡ x → Known (look [] (APort (ports.Cell c q)))
          by_cell there Nothing is = absurd (let less = subst (λ x. q < port_count x) is there.1 in omega (arith, less))
          by_cell there (OfRow row) is = by_side (side_of row q) refl
            where
              by_side : (side : Side) → side_of row q ≡ side → Known (look [] (APort (ports.Cell c q)))
              by_side sides.Enable e =
                  known_as _ _ (row_has c q row sides.Enable is e (row_there c q row is there))
                  (cell_driven c q there.0 (going_fed c q (λ r a u i target off n. row_leads part cells act c q row sides.Enable r is e (mentions c q r a u i target off n)) ih) (net_at_width (ARow row) q))
              by_side sides.Plain e =
                  known_as _ _ (row_has c q row sides.Plain is e (row_there c q row is there))
                  (cell_driven c q there.0 (going_fed c q (λ r a u i target off n. row_leads part cells act c q row sides.Plain r is e (mentions c q r a u i target off n)) ih) (net_at_width (ARow row) q))
              by_side sides.Output e =
                  output_known c q row is e (row_there c q row is there)
                  (λ m less reads. let other : IsThere (instances.Node part cells) (ports.Cell c m) = (there.0, subst (λ x. m < port_count x) (sym is) less) in
                  ih (ports.Cell c m) (port_in c m other) (row_leads part cells act c q row sides.Output (ports.Cell c m) is e (m, reads, refl)) other)
              by_side sides.Registered e = registered_known c q row is e (row_there c q row is there)
          by_cell there (OfInstance child) is = by_port (part_port (part_of child) q) refl
            where
              by_port : (port : PartPort) → part_port (part_of child) q ≡ port → Known (look [] (APort (ports.Cell c q)))
              by_port Go e =
                  known_as _ _ (child_has c q child Go is e (child_there c q child is there))
                  (cell_driven c q there.0 (going_fed c q (λ r a u i target off n. child_leads part cells act c q child Go r is e (mentions c q r a u i target off n)) ih) 1)
              by_port (AnInput n) e =
                  known_as _ _ (child_has c q child (AnInput n) is e (child_there c q child is there))
                  (cell_driven c q there.0 (going_fed c q (λ r a u i target off k. child_leads part cells act c q child (AnInput n) r is e (mentions c q r a u i target off k)) ih)
                  (net_at_width (AChild (net_of_instance (wired_in d) timers_of numbers child)) q))
              by_port (AnOutput n) e = child_output c q n child is e (child_there c q child is there)
              by_port ItsDone e = child_done c q child is e (child_there c q child is there)

      pub ports_known : (q : PortRef) → IsNamed (instances.Node part cells) q → KnownExpr around R (look []) (OfPort q)
      ports_known (ports.Cell c q) named = acyclic_induction (instances.Node part cells) act acyclic all_ports Goal one_step (ports.Cell c q) (port_in c q (IsNamed.there named)) (IsNamed.there named)
      ports_known (ports.Input n) named = inputs n (IsNamed.there named)
      ports_known (ports.Output n) named = outputs n (IsNamed.there named)
      ports_known (ports.Done g) named = absurd (let e = IsNamed.no_hole named in cc)
      ports_known (ports.Literal w v) named = (_, refl)
