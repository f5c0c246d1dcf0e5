-- Where the nodes of a network lead.
use Rattle.std.proofs.Common.{◌≡◌, ℕ, zero, suc, ◌+◌, ◌<◌, ◌⊎◌, inl, inr, ⊎_elim, Bool, true, false, nat_le, Option, Some, None, List, [], ◌∷◌, ◌++◌, get_or, length, slice_get, refl, sym, ap, ◌∙◌, subst, arith}
use Rattle.std.specs.Prelude.{option_map, option_to_list}
use Rattle.cx_text.proofs.MemberLaws.{in_either}
use Rattle.cx_text.specs.Members.{In}
use Rattle.cx_meaning.specs.declared.ports.PortRef.{PortRef}
use Rattle.cx_meaning.specs.declared.ports.PortRef.TheVariants as ports
use Rattle.cx_meaning.specs.Instances.{Instance, At, Nothing, OfRow, OfInstance, Path, cell_at, cells_of, part_of, paths_of, tree_of}
use Rattle.cx_meaning.specs.Sights.{PartPort, Go, AnInput, AnOutput, ItsDone, part_port}
use Rattle.cx_rules.specs.Footprints.{Leads}
use Rattle.cx_state.specs.Tables.{IsNumber, child_of, row_at}
use Rattle.cx_state.proofs.PreOrder.{stands}
use Rattle.cx_state.proofs.ChangeLemmas.{one_number}
use Rattle.cx_eval_network.specs.Demands.{IsGrounded, StaysWithin}
use Rattle.cx_eval_network.specs.declared.numbering.NodePort.{NodePort}
use Rattle.cx_eval_network.specs.declared.numbering.Nodes.{Nodes}
use Rattle.cx_eval_network.specs.Nodes.{IsAt, IsPortOf, first_node, found_at, node_at, node_count, part_at}
use Rattle.cx_eval_network.proofs.FoundLemmas.{found_is}
use Rattle.cx_eval_network.proofs.NodeLemmas.{nodes_apart, nodes_within}
use Rattle.cx_eval_network.specs.Ports.{PortNodes, LeadOn}
use Rattle.cx_eval_network.proofs.GroundLemmas.{grounded}
use Rattle.cx_eval_network.specs.LeadPorts.{lead_ports}
use Rattle.cx_eval_network.specs.Networks.{Asked, path_at, instance_of, active_at, nodes_of, output_node, child_node, below_nodes, if_asked, asked_port, leads_of, leads_at, IsNetwork}
use Rattle.cx_eval_network.proofs.LeadLemmas.{lead_ports_are}
use Rattle.cx_text.proofs.ListLaws.{there_below}

listed : {A : Type 0} (o : Option A) (x : A) → In (option_to_list o) x → o ≡ Some x
listed None x i = absurd i
listed (Some y) x (inl e) = ap Some e
listed (Some y) x (inr i) = absurd i

pub get_there : (xs : List Path) (n : ℕ) → n < length xs → slice_get xs n ≡ Some (get_or xs n [])
get_there [] n h = absurd (omega (arith, h))
get_there (x ∷ xs) zero h = refl
get_there (x ∷ xs) (suc n) h = get_there xs n (omega (arith, h))

-- what stands at a node by its port
abbrev number_in : Option NodePort → ℕ
number_in None = 0
number_in (Some found) = found.instance

abbrev port_in : Option NodePort → PortRef
port_in None = ports.Literal 0 0
port_in (Some found) = found.port

-- a node that stands for a port of an instance
record ToPort (a : Asked) (n m : ℕ) (qs : List PortRef) : Type 0 where
  port : PortRef
  listed : In qs port
  node : node_at a.design a.rows n port ≡ Some m

record ToChild (a : Asked) (n m : ℕ) : Type 0 where
  child : ℕ
  port : PortRef
  later : n < child
  there : child < length a.rows
  node : node_at a.design a.rows child port ≡ Some m

nodes_in : (a : Asked) (n m : ℕ) (qs : List PortRef) → In (nodes_of a n qs) m → ToPort a n m qs
nodes_in a n m [] i = absurd i
nodes_in a n m (q ∷ qs) i =
    ⊎_elim
    (λ j. record { port = q; listed = inl refl; node = listed (node_at a.design a.rows n q) m j })
    (λ j. let r = nodes_in a n m qs j in record { port = r.port; listed = inr r.listed; node = r.node })
    (in_either (option_to_list (node_at a.design a.rows n q)) (nodes_of a n qs) m i)

module _ (a : Asked) (nodes : Nodes) (h : IsNetwork a nodes) where
  pub number_at : (n : ℕ) → n < length a.rows → IsNumber a.design n (path_at a.design n)
  number_at n lt = get_there (paths_of (tree_of a.design)) n (let many = h.table.count in omega (arith, lt, many))

  pub same_instance : (n : ℕ) → n < length a.rows → instance_of a n ≡ part_at a.design a.rows n
  same_instance n lt = h.table.component n (path_at a.design n) (number_at n lt)

  -- instances at cells are later
  pub child_later : (n c : ℕ) (child : Instance) → n < length a.rows → cell_at (cells_of (instance_of a n)) c ≡ OfInstance child → (n < child_of a.rows a.children n c) × (child_of a.rows a.children n c < length a.rows)
  child_later n c child lt e =
      let path = path_at a.design n in
      let number = number_at n lt in
      let at : IsNumber a.design (child_of a.rows a.children n c) (path ++ c ∷ []) = h.table.child n c path child number e in
      let same = one_number (tree_of a.design) (child_of a.rows a.children n c) _ (path ++ c ∷ []) at ((stands (tree_of a.design) n path number).child c child e) in
      let below = there_below (paths_of (tree_of a.design)) (child_of a.rows a.children n c) (path ++ c ∷ []) at in
      let many = h.table.count in
      (omega (arith, same), omega (arith, below, many))

  in_output : (n c m : ℕ) (child : Instance) (x : PartPort) → n < length a.rows → cell_at (cells_of (instance_of a n)) c ≡ OfInstance child → In (output_node a n c x) m → ToChild a n m
  in_output n c m child Go lt e i = absurd i
  in_output n c m child (AnInput k) lt e i = absurd i
  in_output n c m child (AnOutput k) lt e i =
      let later = child_later n c child lt e in
      record { child = child_of a.rows a.children n c; port = ports.Output k; later = later.0; there = later.1; node = listed (node_at a.design a.rows (child_of a.rows a.children n c) (ports.Output k)) m i }
  in_output n c m child ItsDone lt e i = absurd i

  in_child : (n c p m : ℕ) (at : At) → n < length a.rows → cell_at (cells_of (instance_of a n)) c ≡ at → In (child_node a n c p at) m → ToChild a n m
  in_child n c p m Nothing lt e i = absurd i
  in_child n c p m (OfRow row) lt e i = absurd i
  in_child n c p m (OfInstance child) lt e i = in_output n c m child (part_port (part_of child) p) lt e i

  in_below : (n m : ℕ) (p : PortRef) → n < length a.rows → In (below_nodes a n p) m → ToChild a n m
  in_below n m (ports.Cell c p) lt i = in_child n c p m (cell_at (cells_of (instance_of a n)) c) lt refl i
  in_below n m (ports.Input k) lt i = absurd i
  in_below n m (ports.Output k) lt i = absurd i
  in_below n m (ports.Done g) lt i = absurd i
  in_below n m (ports.Literal w v) lt i = absurd i

  -- where a node leads
  led : (found : NodePort) (m : ℕ) → found.instance < length a.rows → In (leads_of a (Some found)) m
      → ToPort a found.instance m (lead_ports (instance_of a found.instance) (active_at a found.instance) found.port) ⊎ ToChild a found.instance m
  led found m lt i =
      ⊎_elim
      (λ j. inl (nodes_in a found.instance m (lead_ports (instance_of a found.instance) (active_at a found.instance) found.port) j))
      (λ j. inr (in_below found.instance m found.port lt j))
      (in_either (nodes_of a found.instance (lead_ports (instance_of a found.instance) (active_at a found.instance) found.port)) (below_nodes a found.instance found.port) m i)

  -- the node that is asked for a port is found
  pub at_is : (m : ℕ) (found : NodePort) → IsAt a.design a.rows m found → node_at a.design a.rows found.instance found.port ≡ Some m
  at_is m found at = ap (option_map (λ k. first_node a.design a.rows found.instance + k)) at.number ∙ ap Some at.is

  found_there : (k m : ℕ) (q : PortRef) → k < length a.rows → node_at a.design a.rows k q ≡ Some m → (number_in (found_at nodes m) ≡ k) × (port_in (found_at nodes m) ≡ q)
  found_there k m q lt e = choice (found_at nodes m) (found_is a.design a.rows nodes h.numbered m)
    where
      choice : (o : Option NodePort) → IsPortOf a.design a.rows m o → (number_in o ≡ k) × (port_in o ≡ q)
      choice None past = let below = nodes_within a.design a.rows k q m lt e in absurd (omega (arith, past, below))
      choice (Some found) at = nodes_apart a.design a.rows found.instance k found.port q m (at_is m found at) e

  asked_is : (o : Option NodePort) (m : ℕ) → In (leads_of a (asked_port a o)) m → (found : NodePort) × (o ≡ Some found) × In (leads_of a (Some found)) m
  asked_is None m i = absurd i
  asked_is (Some found) m i = (found, refl, choice (nat_le a.instance found.instance) i)
    where
      choice : (b : Bool) → In (leads_of a (if_asked a b found)) m → In (leads_of a (Some found)) m
      choice true i = i
      choice false i = absurd i

  found_within : (n : ℕ) (found : NodePort) → found_at nodes n ≡ Some found → found.instance < length a.rows
  found_within n found e = choice (subst (IsPortOf a.design a.rows n) e (found_is a.design a.rows nodes h.numbered n))
    where
      choice : IsAt a.design a.rows n found → found.instance < length a.rows
      choice at = at.within

  pub stays_within : StaysWithin (leads_at a nodes) (node_count a.design a.rows)
  stays_within n m lt i =
      let r = asked_is (found_at nodes n) m i in
      let within = found_within n r.0 r.1 in
      ⊎_elim
      (λ (t : ToPort a (r.0).instance m (lead_ports (instance_of a (r.0).instance) (active_at a (r.0).instance) (r.0).port)). nodes_within a.design a.rows (r.0).instance t.port m within t.node)
      (λ (t : ToChild a (r.0).instance m). nodes_within a.design a.rows t.child t.port m t.there t.node)
      (led r.0 m within r.2)

  abbrev port_nodes : PortNodes
  port_nodes = record { instance = instance_of a; active = active_at a; number = λ n. number_in (found_at nodes n); port = λ n. port_in (found_at nodes n) }

  lead_on : LeadOn port_nodes (leads_at a nodes)
  lead_on n m i =
      let r = asked_is (found_at nodes n) m i in
      let found = r.0 in
      let k = found.instance in
      let within = found_within n found r.1 in
      let own : number_in (found_at nodes n) ≡ k = ap number_in r.1 in
      ⊎_elim
      (λ (t : ToPort a k m (lead_ports (instance_of a k) (active_at a k) found.port)).
      let there = found_there k m t.port within t.node in
      let leads : Leads (instance_of a k) (active_at a k) found.port t.port =
      subst (λ x. Leads x (active_at a k) found.port t.port) (sym (same_instance k within))
      ((lead_ports_are a.design (row_at a.rows k).component (active_at a k) found.port t.port).0 (subst (λ x. In (lead_ports x (active_at a k) found.port) t.port) (same_instance k within) t.listed)) in
      inl (record {
        same = there.0 ∙ sym own;
        leads = subst (λ o. Leads (instance_of a (number_in o)) (active_at a (number_in o)) (port_in o) (port_in (found_at nodes m))) (sym r.1) (subst (Leads (instance_of a k) (active_at a k) found.port) (sym there.1) leads);
      }))
      (λ (t : ToChild a k m).
      let there = found_there t.child m t.port t.there t.node in
      let is = there.0 in
      let later = t.later in
      inr (omega (arith, own, is, later)))
      (led found m within r.2)

  pub network_grounded : IsGrounded (leads_at a nodes)
  network_grounded = grounded port_nodes (leads_at a nodes) lead_on h.acyclic
