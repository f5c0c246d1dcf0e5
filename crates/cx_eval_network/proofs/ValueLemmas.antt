-- The value of a node by one step from what marks show.
use Rattle.std.proofs.Common.{◌≡◌, ℕ, ◌+◌, ◌<◌, ◌≤◌, ◌⊎◌, inl, inr, ⊎_elim, Bool, true, false, nat_le, Option, Some, None, List, [], ◌∷◌, ◌++◌, length, map, slice_get, refl, sym, ap, ◌∙◌, subst, append_assoc, arith}
use Rattle.std.proofs.Math.Path.{fun_ext}
use Rattle.std.specs.Prelude.{option_map, option_to_list, if◌then◌else◌}
use Rattle.cx_text.proofs.MemberLaws.{in_left, in_right}
use Rattle.cx_text.specs.Members.{In}
use Rattle.cx_prim.specs.declared.ports.Side.{Side}
use Rattle.cx_prim.specs.declared.ports.Side.TheVariants as sides
use Rattle.cx_prim.specs.Rows.{Row}
use Rattle.cx_meaning.specs.declared.ports.PortRef.{PortRef}
use Rattle.cx_meaning.specs.declared.ports.PortRef.TheVariants as ports
use Rattle.cx_meaning.specs.declared.ports.PlacedPort.{PlacedPort}
use Rattle.cx_meaning.specs.declared.sights.Seen.TheVariants.{Undefined, Value}
use Rattle.cx_meaning.specs.Designs.{PlainAssign, PlainComponent, PlainDesign, component_at, group_at}
use Rattle.cx_meaning.specs.Instances.{Instance, At, Nothing, OfRow, OfInstance, Path, State, cell_at, cells_of, instance_at, part_of, tree_of, under}
use Rattle.cx_meaning.specs.Active.{Active, nothing}
use Rattle.cx_meaning.specs.Sights.{Below, Held, Look, PartPort, Go, AnInput, AnOutput, ItsDone, part_port, side_step, part_step, cell_step, step, seen, unheld, outputs_below}
use Rattle.cx_rules.specs.Footprints.{AssignNames, Leads}
use Rattle.cx_rules.specs.Items.{sources_of}
use Rattle.cx_rules.specs.Ports.{component_of}
use Rattle.cx_rules.specs.Wellformed.{IsDesign, IsThere, StandsIn, port_count}
use Rattle.cx_design_parts.specs.Outputs.{read_count}
use Rattle.cx_state.specs.Tables.{IsNumber, child_of, row_at}
use Rattle.cx_state.proofs.TableLemmas.{further}
use Rattle.cx_state.specs.States.{inputs_held, under_path}
use Rattle.cx_state.specs.ReadStates.{state_in}
use Rattle.cx_eval_drives.proofs.StepLemmas.{decided}
use Rattle.cx_eval_network.specs.declared.marks.NodeMark.{NodeMark}
use Rattle.cx_eval_network.specs.declared.marks.NodeMark.TheVariants.{Known}
use Rattle.cx_eval_network.specs.Demands.{AreKnown}
use Rattle.cx_design_leads.specs.Nodes as part
use Rattle.cx_design_leads.specs.Edges.{ReadsInRow}
use Rattle.cx_design_leads.proofs.DriverLemmas.{driver_of, of_owner, leads_either}
use Rattle.cx_design_leads.proofs.NodeLemmas.{below_is, has_node}
use Rattle.cx_eval_network.specs.declared.numbering.NodePort.{NodePort}
use Rattle.cx_eval_network.specs.declared.numbering.Nodes.{Nodes}
use Rattle.cx_eval_network.specs.Nodes.{IsAt, IsPortOf, first_node, found_at, node_at, part_at}
use Rattle.cx_eval_network.proofs.FoundLemmas.{found_is}
use Rattle.cx_eval_network.proofs.NodeLemmas.{nodes_apart, nodes_within}
use Rattle.cx_eval_network.specs.LeadPorts.{lead_ports}
use Rattle.cx_eval_network.specs.Networks.{Asked, path_at, instance_of, active_at, held_at, seen_at, nodes_of, output_node, child_node, below_nodes, if_asked, asked_port, value_of, value_at, leads_of, leads_at, shown, node_shown, look_at, below_at, IsNetwork}
use Rattle.cx_design_parts.proofs.ReadLemmas.{AllRead, all_read}
use Rattle.cx_eval_network.proofs.LeadLemmas.{assign_named, lead_ports_are}
use Rattle.cx_eval_network.proofs.NetworkLemmas.{at_is, child_later, number_at, same_instance}
use Rattle.cx_eval_network.proofs.OutputLemmas.{few_read}
use Rattle.cx_meaning.proofs.DesignsLemmas.{group_there}
use Rattle.cx_text.proofs.NumberLaws.{apart_above, true_lt}
use Rattle.cx_laws.proofs.TreeLemmas.{output_there}
use Rattle.cx_meaning.proofs.InstancesLemmas.{literal_is}
use Rattle.cx_rules.proofs.PortsLemmas.{part_is}
use Rattle.cx_meaning.proofs.SightsLemmas.{outputs_at}

-- WHAT IS LED TO is a literal, or has a node
pub record IsLiteral (q : PortRef) : Type 0 where
  pub width : ℕ
  pub value : ℕ
  pub is : q ≡ ports.Literal width value

pub mapped_in : (xs : List PlacedPort) (q : PortRef) → In (map (λ p. p.port) xs) q → (p : PlacedPort) × In xs p × (p.port ≡ q)
mapped_in [] q i = absurd i
mapped_in (x ∷ xs) q (inl e) = (x, inl refl, e)
mapped_in (x ∷ xs) q (inr i) = let r = mapped_in xs q i in (r.0, inr r.1, r.2)

there_node : (i : Instance) (q : PortRef) → IsThere i q → IsLiteral q ⊎ ((m : ℕ) × (part.node_of i q ≡ Some m))
there_node i (ports.Cell c p) there = inr (has_node i (ports.Cell c p) there (λ w v e. cc))
there_node i (ports.Input n) there = inr (has_node i (ports.Input n) there (λ w v e. cc))
there_node i (ports.Output n) there = inr (has_node i (ports.Output n) there (λ w v e. cc))
there_node i (ports.Done g) there = inr (has_node i (ports.Done g) there (λ w v e. cc))
there_node i (ports.Literal w v) there = inl (record { width = w; value = v; is = refl })

read_node : (i : Instance) (p q : PortRef) → AllRead (cells_of i) → ReadsInRow i p q → (m : ℕ) × (part.node_of i q ≡ Some m)
read_node i p q read r =
    let first = read r.cell r.row r.stands in
    let wanted = r.wanted in
    let lt = true_lt wanted.0 (read_count r.row.ports) (sym (first.first r.port wanted.0 r.side) ∙ wanted.1) in
    let few = few_read r.row.ports in
    let below : wanted.0 < length r.row.ports = omega (arith, lt, few) in
    let count : wanted.0 < port_count (cell_at (cells_of i) r.cell) = subst (λ (at : At). wanted.0 < port_count at) (sym r.stands) below in
    (_, ap (part.node_of i) (sym wanted.2) ∙ below_is (port_count (cell_at (cells_of i) r.cell)) (part.ports_before (cells_of i) r.cell) wanted.0 count)

module _ (d : PlainDesign) (k : ℕ) (design : IsDesign d) (within : k < length d.components) where
  named_node : (owner : Option ℕ) (a : PlainAssign) (q : PortRef) → StandsIn (component_at d k) owner a → AssignNames a q → IsLiteral q ⊎ ((m : ℕ) × (part.node_of (component_of d k) q ≡ Some m))
  named_node owner a q stands names =
      let is = (design.components k within).assigns owner a stands in
      let named = mapped_in (sources_of a) q (assign_named a q names) in
      there_node (component_of d k) q (subst (IsThere (component_of d k)) named.2 (is.sources named.0 named.1))

  pub led_node : (act : Active) (p q : PortRef) → Leads (component_of d k) act p q → IsLiteral q ⊎ ((m : ℕ) × (part.node_of (component_of d k) q ≡ Some m))
  led_node act p q l =
      let i = component_of d k in
      ⊎_elim
      (λ e. ⊎_elim
      (λ o. let a = o.1 in
      named_node None a.assign q (subst (λ (own : PlainComponent). In own.always a.assign) (part_is d k) a.stands) a.names)
      (λ o. let a = o.2 in
      let s : In (group_at (component_at d k) o.0).assigns a.assign = subst (λ (own : PlainComponent). In (group_at own o.0).assigns a.assign) (part_is d k) a.stands in
      named_node (Some o.0) a.assign q (group_there (component_at d k) o.0 a.assign s, s) a.names)
      (of_owner (part_of i) p q act (driver_of (part_of i) act p q e.1)))
      (λ r. inr (read_node i p q (all_read d (length d.components) k) r))
      (leads_either i act p q l)

-- STEPS with other outputs below
module _ (own : PlainComponent) (act : Active) (s : State) (look : Look) (one other : Below) where
  same_side : (row : Row) (c p : ℕ) (side : Side) → side_step own act s look one row c p side ≡ side_step own act s look other row c p side
  same_side row c p sides.Enable = refl
  same_side row c p sides.Plain = refl
  same_side row c p sides.Output = refl
  same_side row c p sides.Registered = refl

  same_part : (c p : ℕ) (x : PartPort) → ((n : ℕ) → x ≡ AnOutput n → one c n ≡ other c n) → part_step own act s look one c p x ≡ part_step own act s look other c p x
  same_part c p Go h = refl
  same_part c p (AnInput n) h = refl
  same_part c p (AnOutput n) h = h n refl
  same_part c p ItsDone h = refl

  same_cell : (c p : ℕ) (at : At) → ((n : ℕ) (child : Instance) → at ≡ OfInstance child → part_port (part_of child) p ≡ AnOutput n → one c n ≡ other c n)
      → cell_step own act s look one c p at ≡ cell_step own act s look other c p at
  same_cell c p Nothing h = refl
  same_cell c p (OfRow row) h = same_side row c p _
  same_cell c p (OfInstance child) h = same_part c p (part_port (part_of child) p) (λ n e. h n child refl e)

pub same_step : (i : Instance) (held : Held) (act : Active) (s : State) (look : Look) (one other : Below) (p : PortRef)
    → ((c port n : ℕ) (child : Instance) → p ≡ ports.Cell c port → cell_at (cells_of i) c ≡ OfInstance child → part_port (part_of child) port ≡ AnOutput n → one c n ≡ other c n)
    → step i held act s look one p ≡ step i held act s look other p
same_step i held act s look one other (ports.Cell c p) h = same_cell (part_of i) act s look one other c p (cell_at (cells_of i) c) (λ n child e f. h c p n child refl e f)
same_step i held act s look one other (ports.Input n) h = refl
same_step i held act s look one other (ports.Output n) h = refl
same_step i held act s look one other (ports.Done g) h = refl
same_step i held act s look one other (ports.Literal w v) h = refl

in_nodes : (a : Asked) (n m : ℕ) (qs : List PortRef) (q : PortRef) → In qs q → node_at a.design a.rows n q ≡ Some m → In (nodes_of a n qs) m
in_nodes a n m [] q i e = absurd i
in_nodes a n m (x ∷ qs) q (inl f) e =
    in_left (option_to_list (node_at a.design a.rows n x)) (nodes_of a n qs) m (subst (λ o. In (option_to_list o) m) (sym (ap (node_at a.design a.rows n) f ∙ e)) (inl refl))
in_nodes a n m (x ∷ qs) q (inr i) e = in_right (option_to_list (node_at a.design a.rows n x)) (nodes_of a n qs) m (in_nodes a n m qs q i e)

le_true : (m n : ℕ) → m ≤ n → nat_le m n ≡ true
le_true m n h = grind arith

true_le : (m n : ℕ) → nat_le m n ≡ true → m ≤ n
true_le m n e = grind arith

record WasAsked (a : Asked) (o : Option NodePort) (found : NodePort) : Type 0 where
  is : o ≡ Some found
  from : a.instance ≤ found.instance

was_asked : (a : Asked) (o : Option NodePort) (found : NodePort) → asked_port a o ≡ Some found → WasAsked a o found
was_asked a None found e = absurd (cc)
was_asked a (Some x) found e = choice (nat_le a.instance x.instance) refl e
  where
    choice : (b : Bool) → nat_le a.instance x.instance ≡ b → if_asked a b x ≡ Some found → WasAsked a (Some x) found
    choice true f g = record { is = g; from = let same : x ≡ found = same_found g in let le = true_le a.instance x.instance f in subst (λ y. a.instance ≤ y.instance) same le }
      where
        same_found : Some x ≡ Some found → x ≡ found
        same_found e = cc
    choice false f g = absurd (cc)

module _ (a : Asked) (nodes : Nodes) (h : IsNetwork a nodes) (marks : List NodeMark) where
  abbrev whole : State
  whole = state_in (tree_of a.design) a.state

  pub value_there : (k m : ℕ) (q : PortRef) → a.instance ≤ k → k < length a.rows → node_at a.design a.rows k q ≡ Some m → value_at a nodes m ≡ seen_at a k q
  value_there k m q from lt e = choice (found_at nodes m) (found_is a.design a.rows nodes h.numbered m)
    where
      choice : (o : Option NodePort) → IsPortOf a.design a.rows m o → value_of a (asked_port a o) ≡ seen_at a k q
      choice None past = let below = nodes_within a.design a.rows k q m lt e in absurd (omega (arith, past, below))
      choice (Some found) at =
          let same = nodes_apart a.design a.rows found.instance k found.port q m (at_is a nodes h m found at) e in
          ap (λ n. value_of a (if_asked a (nat_le a.instance n) found)) same.0
          ∙ ap (λ b. value_of a (if_asked a b found)) (le_true a.instance k from)
          ∙ ap (λ n. seen_at a n found.port) same.0 ∙ ap (seen_at a k) same.1

  pub known_shown : (k m : ℕ) (q : PortRef) → a.instance ≤ k → k < length a.rows → node_at a.design a.rows k q ≡ Some m → slice_get marks m ≡ Some (Known (value_at a nodes m)) → look_at a marks k q ≡ seen_at a k q
  known_shown k m q from lt e known = ap (node_shown marks q) e ∙ ap shown known ∙ value_there k m q from lt e

  -- what a port of an asked instance leads to is shown as it is seen
  pub lead_shown : (found : NodePort) (q : PortRef) → a.instance ≤ found.instance → found.instance < length a.rows → AreKnown (value_at a nodes) marks (leads_of a (Some found))
      → Leads (instance_of a found.instance) (active_at a found.instance) found.port q → look_at a marks found.instance q ≡ seen_at a found.instance q
  lead_shown found q from lt known l =
      let k = found.instance in
      let same = same_instance a nodes h k lt in
      let leads : Leads (part_at a.design a.rows k) (active_at a k) found.port q = subst (λ i. Leads i (active_at a k) found.port q) same l in
      let listed : In (lead_ports (instance_of a k) (active_at a k) found.port) q =
      subst (λ i. In (lead_ports i (active_at a k) found.port) q) (sym same) ((lead_ports_are a.design (row_at a.rows k).component (active_at a k) found.port q).1 leads) in
      ⊎_elim
      (λ (x : IsLiteral q). ap (look_at a marks k) x.is
      ∙ ap (λ b. if b then Value (record { width = x.width; value = x.value }) else Undefined) (h.literals k x.width x.value found.port lt (subst (Leads (instance_of a k) (active_at a k) found.port) x.is l)) ∙ sym (literal_is (instance_of a k) (held_at a k) (active_at a k) (under_path (path_at a.design k) whole) x.width x.value) ∙ ap (seen_at a k) (sym x.is))
      (λ (x : (m : ℕ) × (part.node_of (part_at a.design a.rows k) q ≡ Some m)).
      let m = first_node a.design a.rows k + x.0 in
      let at : node_at a.design a.rows k q ≡ Some m = ap (option_map (λ j. first_node a.design a.rows k + j)) x.1 in
      known_shown k m q from lt at
      (known m (in_left (nodes_of a k (lead_ports (instance_of a k) (active_at a k) found.port)) (below_nodes a k found.port) m (in_nodes a k m (lead_ports (instance_of a k) (active_at a k) found.port) q listed at))))
      (led_node a.design (row_at a.rows k).component h.design (h.table.there k lt) (active_at a k) found.port q leads)

  -- and so is the output of the instance at a cell
  pub child_path : (k c : ℕ) (child : Instance) → k < length a.rows → cell_at (cells_of (instance_of a k)) c ≡ OfInstance child → path_at a.design (child_of a.rows a.children k c) ≡ path_at a.design k ++ c ∷ []
  child_path k c child lt e =
      let later = child_later a nodes h k c child lt e in
      let at : IsNumber a.design (child_of a.rows a.children k c) (path_at a.design k ++ c ∷ []) = h.table.child k c (path_at a.design k) child (number_at a nodes h k lt) e in
      same_path (sym (number_at a nodes h (child_of a.rows a.children k c) later.1) ∙ at)
    where
      same_path : {x y : Path} → Some x ≡ Some y → x ≡ y
      same_path e = cc

  pub child_seen : (k c n : ℕ) (child : Instance) → a.instance ≤ k → k < length a.rows → cell_at (cells_of (instance_of a k)) c ≡ OfInstance child
      → seen_at a (child_of a.rows a.children k c) (ports.Output n) ≡ seen child unheld nothing (under c (under_path (path_at a.design k) whole)) (ports.Output n)
  child_seen k c n child from lt e =
      let j = child_of a.rows a.children k c in
      let later = child_later a nodes h k c child lt e in
      let after : a.instance < j = let l = later.0 in omega (arith, l, from) in
      let other = apart_above j a.instance after in
      let path = child_path k c child lt e in
      let is : instance_of a j ≡ child = ap (instance_at (tree_of a.design)) path ∙ further (tree_of a.design) (path_at a.design k) c child e in
      let below : under_path (path_at a.design j) whole ≡ under c (under_path (path_at a.design k) whole) =
      ap (λ p. under_path p whole) path ∙ fun_ext (λ q. ap whole (append_assoc (path_at a.design k) (c ∷ []) q)) in
      ap (λ i. seen i (held_at a j) (active_at a j) (under_path (path_at a.design j) whole) (ports.Output n)) is
      ∙ ap (λ b. seen child (if b then inputs_held a.state j else unheld) (if b then a.active else nothing) (under_path (path_at a.design j) whole) (ports.Output n)) other
      ∙ ap (λ s. seen child unheld nothing s (ports.Output n)) below

  output_shown : (found : NodePort) (c port n : ℕ) (child : Instance) → a.instance ≤ found.instance → found.instance < length a.rows → AreKnown (value_at a nodes) marks (leads_of a (Some found))
      → found.port ≡ ports.Cell c port → cell_at (cells_of (instance_of a found.instance)) c ≡ OfInstance child → part_port (part_of child) port ≡ AnOutput n
      → below_at a marks found.instance c n ≡ seen child unheld nothing (under c (under_path (path_at a.design found.instance) whole)) (ports.Output n)
  output_shown found c port n child from lt known p e x =
      let k = found.instance in
      let j = child_of a.rows a.children k c in
      let later = child_later a nodes h k c child lt e in
      let is : instance_of a j ≡ child = ap (instance_at (tree_of a.design)) (child_path k c child lt e) ∙ further (tree_of a.design) (path_at a.design k) c child e in
      let there : n < length (part_of (part_at a.design a.rows j)).outputs = subst (λ i. n < length (part_of i).outputs) (sym is ∙ same_instance a nodes h j later.1) (output_there (part_of child) port n x) in
      let m = first_node a.design a.rows j + (part.first_output (part_at a.design a.rows j) + n) in
      let at : node_at a.design a.rows j (ports.Output n) ≡ Some m =
      ap (option_map (λ i. first_node a.design a.rows j + i)) (below_is (length (part_of (part_at a.design a.rows j)).outputs) (part.first_output (part_at a.design a.rows j)) n there) in
      let cell : In (child_node a k c port (cell_at (cells_of (instance_of a k)) c)) m =
      subst (λ y. In (child_node a k c port y) m) (sym e) (subst (λ y. In (output_node a k c y) m) (sym x) (subst (λ o. In (option_to_list o) m) (sym at) (inl refl))) in
      let listed : In (below_nodes a k found.port) m = subst (λ y. In (below_nodes a k y) m) (sym p) cell in
      let l = later.0 in
      known_shown j m (ports.Output n) (omega (arith, l, from)) later.1 at
      (known m (in_right (nodes_of a k (lead_ports (instance_of a k) (active_at a k) found.port)) (below_nodes a k found.port) m listed))
      ∙ child_seen k c n child from lt e

  -- one step from what marks show
  pub found_value : (found : NodePort) → a.instance ≤ found.instance → found.instance < length a.rows → AreKnown (value_at a nodes) marks (leads_of a (Some found))
      → step (instance_of a found.instance) (held_at a found.instance) (active_at a found.instance) (under_path (path_at a.design found.instance) whole) (look_at a marks found.instance) (below_at a marks found.instance) found.port
      ≡ seen_at a found.instance found.port
  found_value found from lt known =
      let k = found.instance in
      let i = instance_of a k in
      let s = under_path (path_at a.design k) whole in
      same_step i (held_at a k) (active_at a k) s (look_at a marks k) (below_at a marks k) (outputs_below (cells_of i) (λ c. under c s)) found.port
      (λ c port n child p e x. output_shown found c port n child from lt known p e x ∙ sym (outputs_at (cells_of i) (λ c. under c s) c n child e))
      ∙ decided i (held_at a k) (active_at a k) s (look_at a marks k) (outputs_below (cells_of i) (λ c. under c s)) found.port (h.acyclic k) (h.below k)
      (λ q l. lead_shown found q from lt known l)
      (λ c port n child p e. outputs_at (cells_of i) (λ c. under c s) c n child e)

  pub node_value : (node : ℕ) (found : NodePort) → asked_port a (found_at nodes node) ≡ Some found → AreKnown (value_at a nodes) marks (leads_at a nodes node)
      → step (instance_of a found.instance) (held_at a found.instance) (active_at a found.instance) (under_path (path_at a.design found.instance) whole) (look_at a marks found.instance) (below_at a marks found.instance) found.port
      ≡ value_at a nodes node
  node_value node found e known =
      let asked = was_asked a (found_at nodes node) found e in
      let at : IsAt a.design a.rows node found = subst (IsPortOf a.design a.rows node) asked.is (found_is a.design a.rows nodes h.numbered node) in
      found_value found asked.from at.within (subst (λ o. AreKnown (value_at a nodes) marks (leads_of a o)) e known) ∙ ap (value_of a) (sym e)
