-- What the numbering finds is what stands there.
use Rattle.std.proofs.Common.{◌≡◌, ℕ, zero, suc, ◌+◌, ◌^◌, ◌≤◌, ◌<◌, Option, Some, None, List, [], ◌∷◌, length, get_or, slice_get, refl, sym, ap, ◌∙◌, subst, arith}
use Rattle.std.specs.Prelude.{option_map, SomeIff}
use Rattle.cx_meaning.specs.declared.ports.PortRef.{PortRef}
use Rattle.cx_meaning.specs.Designs.{PlainDesign}
use Rattle.cx_meaning.specs.Instances.{Instance}
use Rattle.cx_rules.specs.Ports.{component_of}
use Rattle.cx_state.specs.declared.tables.InstanceRow.{InstanceRow}
use Rattle.cx_state.specs.Tables.{row_at}
use Rattle.cx_design_leads.specs.Nodes as part
use Rattle.cx_eval_network.specs.declared.parts.PartNodes.{PartNodes}
use Rattle.cx_eval_network.specs.declared.numbering.InstanceNodes.{InstanceNodes}
use Rattle.cx_eval_network.specs.declared.numbering.NodePort.{NodePort}
use Rattle.cx_eval_network.specs.declared.instance_ports.InstancePorts.{InstancePorts}
use Rattle.cx_eval_network.specs.declared.numbering.Nodes.{Nodes}
use Rattle.cx_eval_network.specs.Parts.{ArePorts}
use Rattle.cx_eval_network.specs.Nodes.{part_at, first_node, node_at, ArePortsOf, HaveParts, IsNodesOf, IsPortOf, found_at}
use Rattle.cx_design_leads.proofs.NodeLemmas.{within}
use Rattle.cx_eval_network.proofs.NodeLemmas.{rises}

module _ {A : Type 0} where
  pub get_none : (xs : List A) (n : ℕ) → slice_get xs n ≡ None → length xs ≤ n
  get_none [] n e = omega arith
  get_none (x ∷ xs) zero e = absurd (cc)
  get_none (x ∷ xs) (suc n) e = let le = get_none xs n e in omega (arith, le)

  pub get_some : (xs : List A) (n : ℕ) (x : A) → n < length xs → x ≡ get_or xs n x → slice_get xs n ≡ Some x
  get_some [] n x h e = absurd (omega (arith, h))
  get_some (y ∷ xs) zero x h e = ap Some (sym e)
  get_some (y ∷ xs) (suc n) x h e = get_some xs n x (omega (arith, h)) e

  pub get_same : (xs : List A) (n : ℕ) (x y : A) → n < length xs → get_or xs n x ≡ get_or xs n y
  get_same [] n x y h = absurd (omega (arith, h))
  get_same (z ∷ xs) zero x y h = refl
  get_same (z ∷ xs) (suc n) x y h = get_same xs n x y (omega (arith, h))

module _ (d : PlainDesign) (rows : List InstanceRow) (nodes : Nodes) (h : IsNodesOf d rows nodes) where
  component_there : (n : ℕ) (place : InstanceNodes) → n < length rows → slice_get nodes.instances.items n ≡ Some place → place.component < length nodes.parts.items
  component_there n place lt e =
      let there = h.there n lt in
      let same = h.placed.components n place e in
      let sized = h.parts.count in
      omega (arith, there, same, sized)

  pub no_instance : (n : ℕ) → n < length rows → slice_get nodes.instances.items n ≡ None → ⊥
  no_instance n lt e = let past = get_none nodes.instances.items n e in let sized = h.placed.sized in omega (arith, lt, past, sized)

  pub no_part : (n : ℕ) (place : InstanceNodes) → n < length rows → slice_get nodes.instances.items n ≡ Some place → slice_get nodes.parts.items place.component ≡ None → ⊥
  no_part n place lt e f = let past = get_none nodes.parts.items place.component f in let there = component_there n place lt e in omega (arith, past, there)

  -- the ports of an instance that have the numbers of its component and its first node
  pub ports_are : (n : ℕ) (place : InstanceNodes) (nodes_of : PartNodes) (ports : InstancePorts) → n < length rows → slice_get nodes.instances.items n ≡ Some place
      → slice_get nodes.parts.items (row_at rows n).component ≡ Some nodes_of → ports.numbers.now ≡ nodes_of.numbers → ports.first ≡ place.first → ArePortsOf d rows n ports
  ports_are n place nodes_of ports lt e f numbers first = record {
    numbers = subst (part.IsNodesOf (part_at d rows n)) (sym numbers) (let own = h.parts.each (row_at rows n).component nodes_of f in own.numbers);
    first = first ∙ h.placed.firsts n place e;
    fits = let up = rises d rows (suc n) (length rows) (omega (arith, lt)) in let fits = h.fits in omega (arith, up, fits);
  }

  pub ports_by_place : (n : ℕ) (place : InstanceNodes) (nodes_of : PartNodes) (ports : InstancePorts) → n < length rows → slice_get nodes.instances.items n ≡ Some place
      → slice_get nodes.parts.items place.component ≡ Some nodes_of → ports.numbers.now ≡ nodes_of.numbers → ports.first ≡ place.first → ArePortsOf d rows n ports
  ports_by_place n place nodes_of ports lt e f numbers first =
      ports_are n place nodes_of ports lt e (ap (slice_get nodes.parts.items) (sym (h.placed.components n place e)) ∙ f) numbers first

  pub row_part : (n : ℕ) → n < length rows → (row_at rows n).component < length nodes.parts.items
  row_part n lt = let there = h.there n lt in let sized = h.parts.count in omega (arith, there, sized)

  -- what stands at a node
  at_node : (node : ℕ) (o : Option NodePort) → slice_get nodes.ports.items node ≡ o → IsPortOf d rows node o
  at_node node None e = let past = get_none nodes.ports.items node e in let long = h.placed.nodes in omega (arith, past, long)
  at_node node (Some found) e = h.placed.each node found e

  pub found_is : (node : ℕ) → IsPortOf d rows node (found_at nodes node)
  found_is node = at_node node (slice_get nodes.ports.items node) refl

-- the node of a port by the number of it in the component
module _ (d : PlainDesign) (rows : List InstanceRow) (n : ℕ) (ports : InstancePorts) (h : ArePortsOf d rows n ports) (p : PortRef) where
  pub number_is : (number : Option ℕ) → ((i : Instance) → part.IsNodesOf i ports.numbers.now → number ≡ part.node_of i p) → node_at d rows n p ≡ option_map (λ m. ports.first + m) number
  number_is number is =
      ap (option_map (λ m. first_node d rows n + m)) (sym (is (part_at d rows n) h.numbers)) ∙ ap (λ k. option_map (λ m. k + m) number) (sym h.first)

  pub node_sum : (number : ℕ) (sum : Option ℕ) → ((i : Instance) → part.IsNodesOf i ports.numbers.now → Some number ≡ part.node_of i p)
      → SomeIff sum (ports.first + number < 2 ^ 64) (ports.first + number) → sum ≡ node_at d rows n p
  node_sum number sum is s =
      let below = within (part_at d rows n) p number (sym (is (part_at d rows n) h.numbers)) in
      let fits = h.fits in
      let first = h.first in
      choice sum s (omega (arith, below, fits, first)) ∙ sym (number_is (Some number) is)
    where
      choice : (sum : Option ℕ) → SomeIff sum (ports.first + number < 2 ^ 64) (ports.first + number) → ports.first + number < 2 ^ 64 → sum ≡ Some (ports.first + number)
      choice None s fits = absurd (s fits)
      choice (Some x) s fits = ap Some s.1

-- the ports of a component that a list of them has
pub part_ports : (d : PlainDesign) (parts : List PartNodes) (k j : ℕ) (x : PartNodes) → HaveParts d parts → k ≡ j → j < length parts → x ≡ get_or parts k x → ArePorts (component_of d j) (part.node_count (component_of d j)) x.ports.items
part_ports d parts k j x h same lt e =
    let own = h.each j x (get_some parts j x lt (e ∙ ap (λ m. get_or parts m x) same)) in own.ports
