-- In a look that solves the rules of a design's net every node of the tree has a value: first dones and outputs, from the leaves up, and
-- then all nodes, from the root down.
use Rattle.std.proofs.Common.{◌≡◌, ℕ, zero, suc, ◌+◌, ◌<◌, ◌≤◌, Bool, true, Some, List, [], ◌∷◌, length, Option, refl, sym, ap, ◌∙◌, subst, arith}
use Rattle.std.proofs.lemmas.Bool.{lt-ltb}
use Rattle.cx_bits.specs.BitVector.{BitVector}
use Rattle.cx_prim.specs.Rows.{Row}
use Rattle.cx_meaning.specs.declared.ports.PortRef.TheVariants as ports
use Rattle.cx_meaning.specs.Designs.{PlainComponent, PlainDesign}
use Rattle.cx_meaning.specs.Instances as instances
use Rattle.cx_meaning.specs.Instances.{Instance, Cells, no_cells, a_primitive, an_instance, OfInstance, part_of, cells_of, cell_at, Path, instance_at, child_at, tree_of}
use Rattle.cx_meaning.specs.Active.{Active}
use Rattle.cx_rules.specs.Circles.{IsAcyclic}
use Rattle.cx_control.specs.Together.{IsTogether}
use Rattle.cx_net.specs.Nets.{PlainNetComponent}
use Rattle.cx_net.specs.NetTree.{NetInstance, NetNode, NetCells, no_net_cells, a_row, a_child, AChild, net_part, net_cell_at}
use Rattle.cx_net.specs.NetMeaning.{NetState, below_cell, Node, APort, AWire, TheDone, NetLook, NetAround, around_child, net_step, child_step, is_port_of, is_own_node, is_node, is_node_below, truth_bit}
use Rattle.cx_static.specs.Lowering.{lowered_component}
use Rattle.cx_wiring.specs.Wiring.{groups, first_of_control}
use Rattle.cx_wiring.specs.PartNets.{timers_of, wired_in, rows_alone, net_of_instance, net_of_cells}
use Rattle.cx_wiring_runs.proofs.RowPorts.{HasRowPorts, row_ports}
use Rattle.cx_wiring_runs.proofs.SeamRules.{SeamRules}
use Rattle.cx_wiring_runs.proofs.FreeOutputs.{OutputsFree}
use Rattle.cx_wiring_runs.proofs.KnownLemmas.{Known}
use Rattle.cx_wiring_runs.proofs.StateForms.{KeepsForm, row_of_forms}
use Rattle.cx_wiring_runs.proofs.CellForms.{AreForms, row_forms, child_forms}
use Rattle.cx_wiring_runs.proofs.NodeKnown.{NetShows, done_known, outputs_known, node_known}
use Rattle.cx_wiring_runs.proofs.NodeIslands.{islands_owe}
use Rattle.cx_net.proofs.NetTreeLemmas.{at_child}

step_child : (cells : NetCells) (c : ℕ) (child : NetInstance) → net_cell_at cells c ≡ AChild child → (a : NetAround) (s : NetState) (look : NetLook) (q : Path) (n : Node) → child_step cells c a s look q n ≡ net_step child a s look q n
step_child no_net_cells c child is a s look q n = absurd cc
step_child (a_row row rest) zero child is a s look q n = absurd cc
step_child (a_row row rest) (suc c) child is a s look q n = step_child rest c child is a s look q n
step_child (a_child kid rest) zero child is a s look q n = let f : kid ≡ child = cc in ap (λ z. net_step z a s look q n) f
step_child (a_child kid rest) (suc c) child is a s look q n = step_child rest c child is a s look q n

-- a node behind a cell is one of a child that stands there
some_child : (cells : NetCells) (c : ℕ) (q : Path) (n : Node) → is_node_below cells c q n ≡ true → (child : NetInstance) × (net_cell_at cells c ≡ AChild child)
some_child no_net_cells c q n e = absurd cc
some_child (a_row row rest) zero q n e = absurd cc
some_child (a_row row rest) (suc c) q n e = some_child rest c q n e
some_child (a_child kid rest) zero q n e = (kid, refl)
some_child (a_child kid rest) (suc c) q n e = some_child rest c q n e

abbrev pub SolvesTree : NetInstance → NetAround → NetState → NetLook → Type 0
SolvesTree tree around s look = (path : Path) (n : Node) → is_node tree path n ≡ true → look path n ≡ net_step tree around s look path n

child_solves : (part : PlainNetComponent) (cells : NetCells) (around : NetAround) (s : NetState) (look : NetLook) → SolvesTree (NetNode part cells) around s look → (c : ℕ) (child : NetInstance) → net_cell_at cells c ≡ AChild child
    → SolvesTree child (around_child c (look [])) (below_cell c s) (λ q. look (c ∷ q))
child_solves part cells around s look solves c child is path n there =
    solves (c ∷ path) n (at_child cells c child is path n ∙ there) ∙ step_child cells c child is (around_child c (look [])) (below_cell c s) (λ q. look (c ∷ q)) path n

module _ (d : PlainDesign) (numbers : Instance → NetState → ℕ → ℕ) where
  abbrev T : Instance → NetInstance
  T i = net_of_instance (wired_in d) timers_of numbers i

  no_child : (rows : List Row) (c : ℕ) (child : NetInstance) → net_cell_at (rows_alone (wired_in d) timers_of numbers rows) c ≡ AChild child → ⊥
  no_child [] c child is = absurd cc
  no_child (row ∷ rest) zero child is = absurd cc
  no_child (row ∷ rest) (suc c) child is = no_child rest c child is

  -- a child of the net is the net of a child
  child_of : (cells : Cells) (more : List Row) (c : ℕ) (child : NetInstance) → net_cell_at (net_of_cells (wired_in d) timers_of numbers cells more) c ≡ AChild child → (kid : Instance) × (cell_at cells c ≡ OfInstance kid) × (T kid ≡ child)
  child_of no_cells more c child is = absurd (no_child more c child is)
  child_of (a_primitive row rest) more zero child is = absurd cc
  child_of (a_primitive row rest) more (suc c) child is = child_of rest more c child is
  child_of (an_instance kid rest) more zero child is = (kid, refl, cc)
  child_of (an_instance kid rest) more (suc c) child is = child_of rest more c child is

  -- WHAT THE RULES GIVE each instance
  pub record GroundRules (i : Instance) : Type 0 where
    pub seam : SeamRules d i
    pub free : OutputsFree i
    pub acyclic : (act : Active) → IsTogether (part_of i).control act → IsAcyclic i act

  abbrev pub Ruled : Instance → Type 0
  Ruled i = (path : Path) → GroundRules (instance_at i path)

  child_path : (cells : Cells) (c : ℕ) (kid : Instance) → cell_at cells c ≡ OfInstance kid → (path : Path) → child_at cells c path ≡ instance_at kid path
  child_path no_cells c kid is path = absurd cc
  child_path (a_primitive row rest) zero kid is path = absurd cc
  child_path (a_primitive row rest) (suc c) kid is path = child_path rest c kid is path
  child_path (an_instance k rest) zero kid is path = let f : k ≡ kid = cc in ap (λ z. instance_at z path) f
  child_path (an_instance k rest) (suc c) kid is path = child_path rest c kid is path

  child_ruled : (part : PlainComponent) (cells : Cells) → Ruled (instances.Node part cells) → (c : ℕ) (kid : Instance) → cell_at cells c ≡ OfInstance kid → Ruled kid
  child_ruled part cells ruled c kid is path = subst GroundRules (child_path cells c kid is path) (ruled (c ∷ path))

  -- OUTPUTS AND DONES, whatever is around
  record Tells (i : Instance) (look : NetLook) : Type 0 where
    outputs : (n : ℕ) → n < length (net_part (T i)).outputs → Known (look [] (APort (ports.Output n)))
    done : Known (look [] TheDone)

  abbrev ToldAt : Instance → Type 0
  ToldAt i = Ruled i → (around : NetAround) (s : NetState) (look : NetLook) → SolvesTree (T i) around s look → AreForms (T i) s.cell → Tells i look

  -- what the cells of a node show
  node_shows : (part : PlainComponent) (cells : Cells) → ((c : ℕ) (kid : Instance) → cell_at cells c ≡ OfInstance kid → ToldAt kid) → Ruled (instances.Node part cells) → (around : NetAround) (s : NetState) (look : NetLook)
      → SolvesTree (T (instances.Node part cells)) around s look → AreForms (T (instances.Node part cells)) s.cell → NetShows (net_of_cells (wired_in d) timers_of numbers cells (timers_of part)) s look
  node_shows part cells told ruled around s look solves forms = record {
    rows = λ c row is. let r = row_forms NC (λ e path. s.cell (e ∷ path)) forms c row is in subst HasRowPorts (r.0.1) (row_ports r.0.0);
    registered = λ c row n port is at side. let r = row_forms NC (λ e path. s.cell (e ∷ path)) forms c row is in KeepsForm.shows (subst KeepsForm r.0.1 (row_of_forms r.0.0)) (s.cell (c ∷ [])) n port r.1 at side;
    outputs = λ c child n is less. let k = child_of cells (timers_of part) c child is in Tells.outputs (of_child c child is k.0 k.1 k.2) n (subst (λ z. n < length (net_part z).outputs) (sym k.2) less);
    dones = λ c child is. let k = child_of cells (timers_of part) c child is in Tells.done (of_child c child is k.0 k.1 k.2);
  }
    where
      NC : NetCells
      NC = net_of_cells (wired_in d) timers_of numbers cells (timers_of part)

      of_child : (c : ℕ) (child : NetInstance) → net_cell_at (net_of_cells (wired_in d) timers_of numbers cells (timers_of part)) c ≡ AChild child → (kid : Instance) → cell_at cells c ≡ OfInstance kid → T kid ≡ child → Tells kid (λ q. look (c ∷ q))
      of_child c child is kid stands same =
          told c kid stands (child_ruled part cells ruled c kid stands) (around_child c (look [])) (below_cell c s) (λ q. look (c ∷ q))
          (child_solves (wired_in d part) (net_of_cells (wired_in d) timers_of numbers cells (timers_of part)) around s look solves c (T kid) (is ∙ ap AChild (sym same)))
          (child_forms (net_of_cells (wired_in d) timers_of numbers cells (timers_of part)) (λ e path. s.cell (e ∷ path)) forms c (T kid) (is ∙ ap AChild (sym same)))

  mutual
    told : (i : Instance) → ToldAt i
    told (instances.Node part cells) ruled around s look solves forms =
        let shown = node_shows part cells (told_below cells) ruled around s look solves forms in
        record {
          outputs = λ n less. outputs_known d part cells numbers (GroundRules.seam (ruled [])) around s look (solves []) shown (GroundRules.free (ruled [])) n less;
          done = done_known d part cells numbers (GroundRules.seam (ruled [])) around s look (solves []) shown;
        }

    told_below : (cells : Cells) (c : ℕ) (kid : Instance) → cell_at cells c ≡ OfInstance kid → ToldAt kid
    told_below no_cells c kid is = absurd cc
    told_below (a_primitive row rest) zero kid is = absurd cc
    told_below (a_primitive row rest) (suc c) kid is = told_below rest c kid is
    told_below (an_instance k rest) zero kid is = let f : k ≡ kid = cc in subst ToldAt f (told k)
    told_below (an_instance k rest) (suc c) kid is = told_below rest c kid is

  -- ALL NODES, where the go and the inputs have values, and the wires of islands have bits
  abbrev pub Narrow : PlainComponent → (Node → Option BitVector) → Type 0
  Narrow part look = (n : ℕ) (v : BitVector) → groups (lowered_component part) ≤ n → n < first_of_control (lowered_component part) → look (AWire n) ≡ Some v → (b : Bool) × (v ≡ truth_bit b)

  -- an instance stands below another one
  abbrev pub Down : Instance → Path → Instance → Type 0
  Down i [] j = i ≡ j
  Down i (c ∷ path) j = (kid : Instance) × (cell_at (cells_of i) c ≡ OfInstance kid) × Down kid path j

  abbrev pub NarrowTree : Instance → NetLook → Type 0
  NarrowTree i look = (path : Path) (part : PlainComponent) (cells : Cells) → Down i path (instances.Node part cells) → Narrow part (look path)

  abbrev KnownAt : Instance → Type 0
  KnownAt i = Ruled i → (around : NetAround) (s : NetState) (look : NetLook) → SolvesTree (T i) around s look → AreForms (T i) s.cell → Known around.go → ((n : ℕ) → n < length (net_part (T i)).inputs → Known (around.input n))
      → NarrowTree i look → (path : Path) (n : Node) → is_node (T i) path n ≡ true → Known (look path n)

  mutual
    pub tree_known : (i : Instance) → KnownAt i
    tree_known (instances.Node part cells) ruled around s look solves forms go inputs narrow [] n there =
        let shown = node_shows part cells (told_below cells) ruled around s look solves forms in
        node_known d part cells numbers (GroundRules.seam (ruled [])) around s look (solves []) shown go inputs (GroundRules.free (ruled [])) (GroundRules.acyclic (ruled []))
        (islands_owe d part cells numbers (GroundRules.seam (ruled [])) around s look (solves []) shown go inputs (narrow [] part cells refl)) n there
    tree_known (instances.Node part cells) ruled around s look solves forms go inputs narrow (c ∷ path) n there =
        let k = some_child NC c path n there in
        let kid = child_of cells (timers_of part) c k.0 k.1 in
        let is : net_cell_at NC c ≡ AChild (T kid.0) = k.1 ∙ ap AChild (sym kid.2) in
        known_below cells c kid.0 kid.1 (child_ruled part cells ruled c kid.0 kid.1) (around_child c (look [])) (below_cell c s) (λ q. look (c ∷ q))
        (child_solves (wired_in d part) NC around s look solves c (T kid.0) is)
        (child_forms NC (λ e p. s.cell (e ∷ p)) forms c (T kid.0) is)
        (own (APort (ports.Cell c 0)) (ap (λ x. is_port_of x 0) is ∙ lt-ltb 0 (2 + length (net_part (T kid.0)).inputs + length (net_part (T kid.0)).outputs) (omega arith)))
        (λ m less. own (APort (ports.Cell c (suc m))) (ap (λ x. is_port_of x (suc m)) is ∙ lt-ltb (suc m) (2 + length (net_part (T kid.0)).inputs + length (net_part (T kid.0)).outputs) (omega arith)))
        (λ q p cs down. narrow (c ∷ q) p cs (kid.0, kid.1, down)) path n (sym (at_child NC c (T kid.0) is path n) ∙ there)
      where
        NC : NetCells
        NC = net_of_cells (wired_in d) timers_of numbers cells (timers_of part)

        own : (m : Node) → is_own_node (wired_in d part) (net_of_cells (wired_in d) timers_of numbers cells (timers_of part)) m ≡ true → Known (look [] m)
        own m here =
            let shown = node_shows part cells (told_below cells) ruled around s look solves forms in
            node_known d part cells numbers (GroundRules.seam (ruled [])) around s look (solves []) shown go inputs (GroundRules.free (ruled [])) (GroundRules.acyclic (ruled []))
            (islands_owe d part cells numbers (GroundRules.seam (ruled [])) around s look (solves []) shown go inputs (narrow [] part cells refl)) m here

    known_below : (cells : Cells) (c : ℕ) (kid : Instance) → cell_at cells c ≡ OfInstance kid → KnownAt kid
    known_below no_cells c kid is = absurd cc
    known_below (a_primitive row rest) zero kid is = absurd cc
    known_below (a_primitive row rest) (suc c) kid is = known_below rest c kid is
    known_below (an_instance k rest) zero kid is = let f : k ≡ kid = cc in subst KnownAt f (tree_known k)
    known_below (an_instance k rest) (suc c) kid is = known_below rest c kid is
