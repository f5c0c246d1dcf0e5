-- The nodes of an accepted design's tree are fine. Where the control of all that is below an instance rests, its outputs have in the net the
-- values that they are seen as.
use Rattle.std.proofs.Common.{◌≡◌, ℕ, zero, suc, ◌<◌, Bool, true, false, List, [], ◌∷◌, ◌++◌, length, Option, Some, None, unwrap_or, refl, sym, ap, ◌∙◌, subst, arith, if◌then◌else◌}
use Rattle.std.proofs.lemmas.Bool.{lt-ltb}
use Rattle.cx_bits.specs.BitVector.{BitVector}
use Rattle.cx_prim.specs.Rows.{Row}
use Rattle.cx_meaning.specs.declared.ports.PortRef.TheVariants as ports
use Rattle.cx_meaning.specs.declared.sights.Seen.TheVariants.{Value}
use Rattle.cx_meaning.specs.Designs.{PlainComponent, PlainDesign}
use Rattle.cx_meaning.specs.Instances.{Instance, Node, Cells, no_cells, a_primitive, an_instance, OfRow, OfInstance, cell_at, part_of, Path, State, under, tree_of, instance_at}
use Rattle.cx_meaning.specs.Active.{nothing}
use Rattle.cx_meaning.specs.Sights.{unheld, Sees}
use Rattle.cx_rules.specs.Flat.{IsFlat}
use Rattle.cx_rules.specs.Accepted.{IsAccepted}
use Rattle.cx_rules.specs.Wellformed.{IsDesign}
use Rattle.cx_rules.specs.Ports.{declared_width}
use Rattle.cx_control.specs.Flows.{zero_of}
use Rattle.cx_meaning.proofs.InstancesLemmas.{instance_along}
use Rattle.cx_net.specs.NetMeaning.{NetState, below_cell, APort, TheDone, NetLook, NetAround, around_child, is_true, truth_bit}
use Rattle.cx_static.specs.Lowering.{lowered, unlowered}
use Rattle.cx_wiring.specs.Counts.{positions_of}
use Rattle.cx_wiring.specs.PartNets.{wired_in, timers_of, net_of_cells}
use Rattle.cx_wiring.specs.NetBits.{IsBitPort}
use Rattle.cx_wiring.proofs.TakingLemmas.{true_bit}
use Rattle.cx_wiring.proofs.CountLaws.{positions_of_some}
use Rattle.cx_wiring_runs.proofs.NodeRules.{NodeRules, control_tests}
use Rattle.cx_wiring_runs.proofs.SeamRules.{SeamRules, seam_rules}
use Rattle.cx_wiring_runs.specs.BlockNumbers.{component_numbers}
use Rattle.cx_wiring_runs.specs.Blocks.{block, block_below, numbers_at, numbers_below, has_cell, has_cell_below, Solves}
use Rattle.cx_wiring_runs.proofs.BlockTells.{IsFineNode, end_is, block_tells}
use Rattle.cx_wiring_runs.proofs.ChildLooks.{child_solves}
use Rattle.cx_wiring_runs.proofs.NodePorts.{known, bit_port}
use Rattle.cx_wiring_runs.proofs.TreeRules.{AllNodes, CellsNodes, FineAt, all_nodes}
use Rattle.cx_wiring_runs.proofs.SeamFlows.{output_seen}
use Rattle.cx_meaning.proofs.SightsLaws.{undefined_value}
use Rattle.cx_laws.proofs.TreeLemmas.{output_there}

-- A NODE of an accepted design is fine
pub fine_node : (d : PlainDesign) (of_island : PlainComponent → NetState → ℕ → ℕ → ℕ → ℕ) (part : PlainComponent) (cells : Cells) → NodeRules d (Node part cells) → IsFineNode d of_island part cells
fine_node d of_island part cells rules = record {
  islands_named = rules.islands_named;
  control_named = rules.control_named;
  assigns_named = rules.assigns_named;
  plain = rules.plain;
  untimed = rules.timers.untimed;
  cell_count = rules.timers.count;
  timers_fit = rules.timers.fit;
  targets = rules.timers.targets;
  tests = control_tests part (IsBitPort (wired_in d part) (net_of_cells (wired_in d) timers_of (component_numbers of_island) cells (timers_of part)))
      (λ v p i e. let t = rules.ports.tests v p i e in bit_port d (component_numbers of_island) part cells p.port t.named t.one_bit);
}

abbrev pub SeamAt : PlainDesign → PlainComponent → Cells → Type 0
SeamAt d part cells = SeamRules d (Node part cells)

at_node : (d : PlainDesign) (i : Instance) → SeamRules d i → FineAt (SeamAt d) i
at_node d (Node part cells) rules = rules

-- ALL NODES of its tree keep the rules
pub all_seams : (d : PlainDesign) → IsDesign d → IsFlat d → IsAccepted d → AllNodes (SeamAt d) (tree_of d)
all_seams d design flat accepted = all_nodes (SeamAt d) (tree_of d) (λ path. at_node d (instance_at (tree_of d) path) (seam_rules d design flat accepted path))

-- and all at and below an instance of it
pub seams_at : (d : PlainDesign) → IsDesign d → IsFlat d → IsAccepted d → (path : Path) → AllNodes (SeamAt d) (instance_at (tree_of d) path)
seams_at d design flat accepted path =
    all_nodes (SeamAt d) (instance_at (tree_of d) path)
    (λ more. at_node d (instance_at (instance_at (tree_of d) path) more) (subst (SeamRules d) (sym (instance_along (tree_of d) path more)) (seam_rules d design flat accepted (path ++ more))))

-- a primitive's cell is one of the design
pub row_cell : (cells : Cells) (c : ℕ) (row : Row) → cell_at cells c ≡ OfRow row → has_cell_below cells c [] ≡ true
row_cell no_cells c row e = absurd cc
row_cell (a_primitive r rest) zero row e = refl
row_cell (a_primitive r rest) (suc c) row e = row_cell rest c row e
row_cell (an_instance kid rest) zero row e = absurd cc
row_cell (an_instance kid rest) (suc c) row e = row_cell rest c row e

bit_is : (o : Option BitVector) (b : Bool) (x : BitVector) → o ≡ Some (truth_bit b) → o ≡ Some x → is_true x ≡ false → o ≡ Some (truth_bit false)
bit_is o b x e f off = e ∙ ap (λ c. Some (truth_bit c)) (sym (true_bit b) ∙ ap is_true (some_is (truth_bit b) x (sym e ∙ f)) ∙ off)
  where
    some_is : (a c : BitVector) → ◌≡◌ {A = Option BitVector} (Some a) (Some c) → a ≡ c
    some_is a c g = cc

module _ (d : PlainDesign) (of_island : PlainComponent → NetState → ℕ → ℕ → ℕ → ℕ) where
  abbrev N : Instance → NetState → ℕ → ℕ
  N = component_numbers of_island

  -- THE DONE of an instance that is at its front is 0
  pub done_at_rest : (i : Instance) → AllNodes (SeamAt d) i → (v : NetState) (around : NetAround) (look : NetLook) → Solves (block (wired_in d) timers_of (component_numbers of_island) i) around v look
      → numbers_at (wired_in d) timers_of (component_numbers of_island) i v [] 0 ≡ 0 → look [] TheDone ≡ Some (truth_bit false)
  done_at_rest (Node part cells) fine v around look solves zero_there =
      let t = (block_tells d of_island part cells (fine_node d of_island part cells fine.0.node)).told v around look solves in
      let b = solves.bits [] TheDone refl in
      bit_is (look [] TheDone) b.0 t.0 b.1 t.1 (t.3 (λ e. never (positions_of (lowered part part.control (unlowered part))) (positions_of_some (lowered part part.control (unlowered part))) (sym zero_there ∙ e ∙ end_is d of_island part cells)))
    where
      never : (n : ℕ) → 0 < n → 0 ≡ n → ⊥
      never n less e = omega (arith, less, e)

  pub done_below : (cells : Cells) (more : List Row) → CellsNodes (SeamAt d) cells → (c : ℕ) (child : Instance) → cell_at cells c ≡ OfInstance child → (v : NetState) (around : NetAround) (look : NetLook)
      → Solves (block_below (wired_in d) timers_of (component_numbers of_island) cells more c) around v look → numbers_below (wired_in d) timers_of (component_numbers of_island) cells c v [] 0 ≡ 0 → look [] TheDone ≡ Some (truth_bit false)
  done_below no_cells more fine c child e v around look solves zero_there = absurd cc
  done_below (a_primitive row rest) more fine zero child e v around look solves zero_there = absurd cc
  done_below (a_primitive row rest) more fine (suc c) child e v around look solves zero_there = done_below rest more fine c child e v around look solves zero_there
  done_below (an_instance kid rest) more fine zero child e v around look solves zero_there = done_at_rest kid fine.0 v around look solves zero_there
  done_below (an_instance kid rest) more fine (suc c) child e v around look solves zero_there = done_below rest more fine.1 c child e v around look solves zero_there

  -- OUTPUTS, where the numbers at its cells are 0
  mutual
    pub outputs_flow : (i : Instance) → AllNodes (SeamAt d) i → (v : NetState) (around : NetAround) (look : NetLook) → Solves (block (wired_in d) timers_of (component_numbers of_island) i) around v look
        → (st : State) → ((path : Path) → has_cell i path ≡ true → v.cell path ≡ st path) → ((c : ℕ) (path : Path) (n : ℕ) → numbers_at (wired_in d) timers_of (component_numbers of_island) i v (c ∷ path) n ≡ 0)
        → (n : ℕ) (b : BitVector) → n < length (part_of i).outputs → Sees i unheld nothing st (ports.Output n) (Value b) → look [] (APort (ports.Output n)) ≡ Some b
    outputs_flow (Node part cells) fine v around look solves st same zeros n b less sees =
        let x = solves.whole [] (APort (ports.Output n)) (lt-ltb n (length part.outputs) less) in
        known (look [] (APort (ports.Output n))) (zero_of None) x.0 x.1
        ∙ ap (λ t. Some (if t then unwrap_or (look [] (APort (ports.Output n))) (zero_of None) else zero_of (declared_width part.outputs n))) (sym (lt-ltb n (length part.outputs) less))
        ∙ ap Some (output_seen d (component_numbers of_island) part cells fine.0 around v look solves st (λ c row e. same (c ∷ []) (row_cell cells c row e)) n b
        (record {
          inputs = λ m y e. absurd (undefined_value y e);
          outputs = λ c q m child y near at port seen_so. child_outputs cells (timers_of part) fine.1 c child at (below_cell c v) (around_child c (look [])) (λ q. look (c ∷ q))
              (child_solves (wired_in d) timers_of (component_numbers of_island) part cells around v look solves c child at) (under c st) (λ path there. same (c ∷ path) there) (λ e path k. zeros c (e ∷ path) k) m y (output_there (part_of child) q m port) seen_so;
          dones = λ c q child near at port. done_below cells (timers_of part) fine.1 c child at (below_cell c v) (around_child c (look [])) (λ q. look (c ∷ q))
              (child_solves (wired_in d) timers_of (component_numbers of_island) part cells around v look solves c child at) (zeros c [] 0);
        }) sees)

    pub child_outputs : (cells : Cells) (more : List Row) → CellsNodes (SeamAt d) cells → (c : ℕ) (child : Instance) → cell_at cells c ≡ OfInstance child → (v : NetState) (around : NetAround) (look : NetLook)
        → Solves (block_below (wired_in d) timers_of (component_numbers of_island) cells more c) around v look → (st : State) → ((path : Path) → has_cell_below cells c path ≡ true → v.cell path ≡ st path)
        → ((e : ℕ) (path : Path) (n : ℕ) → numbers_below (wired_in d) timers_of (component_numbers of_island) cells c v (e ∷ path) n ≡ 0)
        → (n : ℕ) (b : BitVector) → n < length (part_of child).outputs → Sees child unheld nothing st (ports.Output n) (Value b) → look [] (APort (ports.Output n)) ≡ Some b
    child_outputs no_cells more fine c child e v around look solves st same zeros n b less sees = absurd cc
    child_outputs (a_primitive row rest) more fine zero child e v around look solves st same zeros n b less sees = absurd cc
    child_outputs (a_primitive row rest) more fine (suc c) child e v around look solves st same zeros n b less sees = child_outputs rest more fine c child e v around look solves st same zeros n b less sees
    child_outputs (an_instance kid rest) more fine zero child e v around look solves st same zeros n b less sees =
        outputs_flow kid fine.0 v around look solves st same zeros n b (subst (λ (x : Instance). n < length (part_of x).outputs) (sym (same_child e)) less) (subst (λ x. Sees x unheld nothing st (ports.Output n) (Value b)) (sym (same_child e)) sees)
      where
        same_child : OfInstance kid ≡ OfInstance child → kid ≡ child
        same_child f = cc
    child_outputs (an_instance kid rest) more fine (suc c) child e v around look solves st same zeros n b less sees = child_outputs rest more fine.1 c child e v around look solves st same zeros n b less sees
