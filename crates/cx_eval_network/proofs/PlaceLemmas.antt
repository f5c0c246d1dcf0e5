-- Instances placed one behind the other.
use Rattle.std.proofs.Common.{◌≡◌, ℕ, suc, ◌+◌, ◌<◌, ⊎_elim, List, [], ◌∷◌, ◌++◌, length, sym, ap, ◌∙◌, subst, arith}
use Rattle.std.proofs.lemmas.List.{length-append}
use Rattle.cx_meaning.specs.declared.ports.PortRef.{PortRef}
use Rattle.cx_meaning.specs.Designs.{PlainDesign}
use Rattle.cx_state.specs.declared.tables.InstanceRow.{InstanceRow}
use Rattle.cx_state.specs.Tables.{row_at}
use Rattle.cx_graphs.proofs.Lists.{get_last}
use Rattle.cx_design_leads.specs.Nodes as part
use Rattle.cx_eval_network.specs.Parts.{ArePorts}
use Rattle.cx_eval_network.specs.declared.numbering.InstanceNodes.{InstanceNodes}
use Rattle.cx_eval_network.specs.declared.numbering.NodePort.{NodePort}
use Rattle.cx_eval_network.specs.Nodes.{part_at, first_node, IsAt, StandsBehind, StandBehind, ArePlaced}

module _ (d : PlainDesign) (rows : List InstanceRow) where
  -- what stands at a node of the next instance
  stands_there : (n component : ℕ) (list : List PortRef) (before : List NodePort) (node : ℕ) (found : NodePort) → n < length rows
      → component ≡ (row_at rows n).component → ArePorts (part_at d rows n) (part.node_count (part_at d rows n)) list → length before ≡ first_node d rows n
      → StandsBehind n component list (length before) node found → IsAt d rows node found
  stands_there n component list before node found lt same ports long s = record {
    within = let is = s.instance_is in omega (arith, is, lt);
    component = s.component_is ∙ same ∙ ap (λ k. (row_at rows k).component) (sym s.instance_is);
    number = ap (λ k. part.node_of (part_at d rows k) found.port) s.instance_is ∙ ports.each found.number found.port s.port;
    is = ap (λ k. first_node d rows k + found.number) s.instance_is ∙ ap (λ k. k + found.number) (sym long) ∙ s.is;
  }

  placed_more : (n : ℕ) (instances : List InstanceNodes) (before after : List NodePort) (i : InstanceNodes) (list : List PortRef) → n < length rows → ArePlaced d rows n instances before
      → i.component ≡ (row_at rows n).component → i.first ≡ length before → ArePorts (part_at d rows n) (part.node_count (part_at d rows n)) list
      → StandBehind n i.component list (length list) before after → ArePlaced d rows (suc n) (instances ++ i ∷ []) after
  placed_more n instances before after i list lt h component first ports s = record {
    sized = length-append instances (i ∷ []) ∙ (let e = h.sized in omega (arith, e));
    components = λ m j g. ⊎_elim (λ k. h.components m j k)
        (λ (b : (m ≡ length instances) × (i ≡ j)). ap (λ (x : InstanceNodes). x.component) (sym b.1) ∙ component ∙ ap (λ k. (row_at rows k).component) (sym (b.0 ∙ h.sized))) (get_last instances i j m g);
    firsts = λ m j g. ⊎_elim (λ k. h.firsts m j k)
        (λ (b : (m ≡ length instances) × (i ≡ j)). ap (λ (x : InstanceNodes). x.first) (sym b.1) ∙ first ∙ h.nodes ∙ ap (first_node d rows) (sym (b.0 ∙ h.sized))) (get_last instances i j m g);
    nodes = let e = s.sized in let f = h.nodes in let k = ports.sized in omega (arith, e, f, k);
    each = λ node found g. ⊎_elim (λ k. h.each node found k) (stands_there n i.component list before node found lt component ports h.nodes) (s.each node found g);
  }

  pub place_next : (n : ℕ) (instances more : List InstanceNodes) (before after : List NodePort) (i : InstanceNodes) (list : List PortRef) → n < length rows → ArePlaced d rows n instances before
      → i.component ≡ (row_at rows n).component → i.first ≡ length before → ArePorts (part_at d rows n) (part.node_count (part_at d rows n)) list
      → more ≡ instances ++ i ∷ [] → StandBehind n i.component list (length list) before after → ArePlaced d rows (n + 1) more after
  place_next n instances more before after i list lt h component first ports e s =
      let one : suc n ≡ n + 1 = omega arith in
      subst (λ k. ArePlaced d rows k more after) one
      (subst (λ xs. ArePlaced d rows (suc n) xs after) (sym e) (placed_more n instances before after i list lt h component first ports s))
