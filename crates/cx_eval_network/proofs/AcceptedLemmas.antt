-- The numbered ports of an accepted design are a network.
use Rattle.std.proofs.Common.{◌≡◌, ℕ, ◌<◌, inl, ⊎_elim, Bool, true, false, nat_eq, [], length, refl, sym, subst}
use Rattle.std.specs.Prelude.{if◌then◌else◌}
use Rattle.std.proofs.lemmas.Bool.{eqb-true}
use Rattle.cx_text.specs.declared.rules.Rule.TheVariants.{Literal}
use Rattle.cx_meaning.specs.declared.ports.PortRef.{PortRef}
use Rattle.cx_meaning.specs.declared.ports.PortRef.TheVariants as ports
use Rattle.cx_meaning.specs.declared.ports.PlacedPort.{PlacedPort}
use Rattle.cx_meaning.specs.Designs.{PlainDesign, PlainComponent, component_at}
use Rattle.cx_meaning.specs.Instances.{Path, instance_at, part_of, tree_of}
use Rattle.cx_meaning.specs.Active as plain
use Rattle.cx_meaning.specs.Active.{Owned, source_order, nothing}
use Rattle.cx_text.specs.Members.{In}
use Rattle.cx_rules.specs.Accepted.{IsAccepted}
use Rattle.cx_rules.specs.Circles.{IsAcyclic}
use Rattle.cx_rules.specs.Footprints.{Leads}
use Rattle.cx_rules.specs.Items.{sources_of}
use Rattle.cx_rules.specs.Ports.{component_of, keeps_literal}
use Rattle.cx_rules.specs.Spots.{AnAssign, OnAssign}
use Rattle.cx_rules.specs.WidthRules.{BreaksLiteral}
use Rattle.cx_rules.specs.Wellformed.{IsDesign}
use Rattle.cx_rules.proofs.CircleLemmas.{instance_acyclic}
use Rattle.cx_design.specs.declared.actives.Active as declared
use Rattle.cx_design.specs.declared.actives.Active.TheVariants as actives
use Rattle.cx_design.specs.PlainActives.{plain_active}
use Rattle.cx_state.specs.Tables.{IsTable, row_at}
use Rattle.cx_graphs.proofs.Lists.{in_get}
use Rattle.cx_design_leads.specs.Edges.{ReadsInRow}
use Rattle.cx_design_leads.proofs.DriverLemmas.{Driver, driver_of, leads_either}
use Rattle.cx_eval_drives.specs.Actives.{CanBeActive}
use Rattle.cx_eval_network.specs.declared.numbering.Nodes.{Nodes}
use Rattle.cx_eval_network.specs.Nodes.{IsNodesOf, part_at}
use Rattle.cx_eval_network.specs.Networks.{Asked, path_at, instance_of, active_at, IsNetwork}
use Rattle.cx_eval_network.proofs.LeadLemmas.{assign_named}
use Rattle.cx_eval_network.proofs.NetworkLemmas.{get_there}
use Rattle.cx_eval_network.proofs.ValueLemmas.{mapped_in}
use Rattle.cx_rules.proofs.CirclesLemmas.{cells_below}
use Rattle.cx_rules.proofs.PortsLemmas.{part_is}

-- an assignment of an accepted design names no bad literal
module _ (d : PlainDesign) (accepted : IsAccepted d) (k : ℕ) (within : k < length d.components) where
  owned_literal : (o : Owned) (p : PlacedPort) (w v : ℕ) → In (source_order (component_at d k)) o → In (sources_of o.assign) p → p.port ≡ ports.Literal w v → keeps_literal w v ≡ true
  owned_literal o p w v stands listed is = choice (keeps_literal w v) refl
    where
      choice : (b : Bool) → keeps_literal w v ≡ b → keeps_literal w v ≡ true
      choice true e = e
      choice false e =
          let at = in_get (source_order (component_at d k)) o stands in
          let breaks : OnAssign BreaksLiteral d (record { component = k; part = AnAssign at.0 }) p.place [] =
          record { within = within; number = at.0; is = refl; assign = o; stands = at.2; breaks = (p, listed, (w, v, is, e), (refl, refl)) } in
          absurd (accepted.widths Literal (record { component = k; part = AnAssign at.0 }) p.place [] refl (inl breaks))

  led_literal : (act : plain.Active) (p : PortRef) (w v : ℕ) → Leads (component_of d k) act p (ports.Literal w v) → keeps_literal w v ≡ true
  led_literal act p w v l =
      ⊎_elim
      (λ e. let r : Driver (part_of (component_of d k)) act p (ports.Literal w v) = driver_of (part_of (component_of d k)) act p (ports.Literal w v) e.1 in
      let named = mapped_in (sources_of r.owned.assign) (ports.Literal w v) (assign_named r.owned.assign (ports.Literal w v) r.names) in
      owned_literal r.owned named.0 w v (subst (λ (own : PlainComponent). In (source_order own) r.owned) (part_is d k) r.stands) named.1 named.2)
      (λ (r : ReadsInRow (component_of d k) p (ports.Literal w v)). absurd (no_literal r.cell r.wanted.0 r.wanted.2))
      (leads_either (component_of d k) act p (ports.Literal w v) l)
    where
      no_literal : (c m : ℕ) → ports.Cell c m ≡ ports.Literal w v → ⊥
      no_literal c m e = cc

module _ (a : Asked) (nodes : Nodes) (active : declared.Active) (design : IsDesign a.design) (accepted : IsAccepted a.design) (table : IsTable a.design a.rows a.children) (numbered : IsNodesOf a.design a.rows nodes)
    (is : a.active ≡ plain_active (instance_of a a.instance) active) (can : CanBeActive (instance_of a a.instance) active)
    (law : (d : PlainDesign) (path : Path) (act : declared.Active) → IsDesign d → IsAccepted d → CanBeActive (instance_at (tree_of d) path) act → IsAcyclic (instance_at (tree_of d) path) (plain_active (instance_at (tree_of d) path) act)) where
  acyclic_at : (n : ℕ) (b : Bool) → nat_eq n a.instance ≡ b → IsAcyclic (instance_of a n) (if b then a.active else nothing)
  acyclic_at n true e =
      subst (λ k. IsAcyclic (instance_of a k) a.active) (sym (eqb-true n a.instance e))
      (subst (IsAcyclic (instance_of a a.instance)) (sym is) (law a.design (path_at a.design a.instance) active design accepted can))
  acyclic_at n false e = law a.design (path_at a.design n) actives.Nothing design accepted tt

  same_instance : (n : ℕ) → n < length a.rows → instance_of a n ≡ part_at a.design a.rows n
  same_instance n lt = table.component n (path_at a.design n) (get_there _ n (subst (λ k. n < k) table.count lt))

  pub accepted_network : IsNetwork a nodes
  accepted_network = record {
    table = table;
    numbered = numbered;
    acyclic = λ n. acyclic_at n (nat_eq n a.instance) refl;
    below = λ n. cells_below (instance_of a n) (instance_acyclic a.design accepted (path_at a.design n));
    literals = λ n w v p lt l. led_literal a.design accepted (row_at a.rows n).component (table.there n lt) (active_at a n) p w v (subst (λ i. Leads i (active_at a n) p (ports.Literal w v)) (same_instance n lt) l);
    design = design;
  }
