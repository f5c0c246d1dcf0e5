-- A port by one step from what the ports of its instance are seen as, and where its nodes lead.
use Rattle.std.proofs.Common.{◌≡◌, ℕ, zero, suc, ◌+◌, ◌≤◌, ◌<◌, inl, inr, ⊎_elim, Option, Some, None, List, [], ◌∷◌, ◌++◌, drop, length, map, refl, sym, ap, ◌∙◌, subst, arith}
use Rattle.std.specs.Prelude.{option_map, slice_get, if◌then◌else◌}
use Rattle.cx_text.proofs.MemberLaws.{in_left}
use Rattle.cx_text.specs.Members.{In}
use Rattle.cx_prim.specs.Rows.{Row}
use Rattle.cx_prim.specs.declared.ports.Side.{Side}
use Rattle.cx_prim.specs.declared.ports.Side.TheVariants as sides
use Rattle.cx_meaning.specs.declared.ports.PortRef.{PortRef}
use Rattle.cx_meaning.specs.declared.ports.PortRef.TheVariants as ports
use Rattle.cx_meaning.specs.declared.sights.Seen.{Seen}
use Rattle.cx_meaning.specs.declared.sights.Seen.TheVariants.{Undefined, Value}
use Rattle.cx_meaning.specs.Active as plain
use Rattle.cx_meaning.specs.Active.{Owned, drivers, source_order}
use Rattle.cx_meaning.specs.Instances.{Instance, At, Nothing, OfRow, OfInstance, State, cell_at, cells_of, part_of, tree_of, under}
use Rattle.cx_meaning.specs.Rows.{side_of}
use Rattle.cx_meaning.specs.Sights.{Below, Held, Look, PartPort, Go, AnInput, AnOutput, ItsDone, cell_step, outputs_below, part_port, part_step, side_step, step, target_seen}
use Rattle.cx_meaning.proofs.InstancesLemmas.{literal_is}
use Rattle.cx_meaning.proofs.SightsLemmas.{outputs_at}
use Rattle.cx_rules.specs.Footprints.{Leads}
use Rattle.cx_design.specs.declared.actives.Active.{Active}
use Rattle.cx_design.specs.PlainActives.{plain_active}
use Rattle.cx_state.specs.Tables.{row_at}
use Rattle.cx_state.specs.States.{under_path}
use Rattle.cx_state.specs.ReadStates.{state_in}
use Rattle.cx_design_leads.specs.Nodes as part
use Rattle.cx_eval_drives.specs.Drives.{acting_of, offset_by, owned_for}
use Rattle.cx_eval_drives.proofs.DriveLemmas.{acting_is, offset_is}
use Rattle.cx_eval_drives.proofs.StepLemmas.{decided}
use Rattle.cx_eval_network.specs.declared.asking.Asking.{Asking}
use Rattle.cx_eval_network.specs.declared.marks.NodeMark.{NodeMark}
use Rattle.cx_eval_network.specs.declared.marks.NodeMark.TheVariants.{Known}
use Rattle.cx_eval_network.specs.declared.network.Found.{Found}
use Rattle.cx_eval_network.specs.declared.network.Found.TheVariants.{Worth, Waits}
use Rattle.cx_eval_network.specs.declared.numbering.NodePort.{NodePort}
use Rattle.cx_eval_network.specs.declared.numbering.Nodes.{Nodes}
use Rattle.cx_eval_network.specs.declared.planned.DrivenPlan.{DrivenPlan}
use Rattle.cx_eval_network.specs.declared.planned.PortPlan.TheVariants as plans
use Rattle.cx_eval_network.specs.Asked.{CanAsk, active_in}
use Rattle.cx_eval_network.specs.Askings.{IsFound, LookedOwn, asked_of, decided_by}
use Rattle.cx_eval_network.specs.Demands.{IsRight, Looked, is_known, known_at}
use Rattle.cx_eval_network.specs.Evaluated.{Agree, placed}
use Rattle.cx_eval_network.specs.LeadPorts.{cell_leads, lead_ports, named_by, part_leads, side_leads}
use Rattle.cx_eval_network.specs.Literals.{literal_seen}
use Rattle.cx_eval_network.specs.Networks.{Asked, IsNetwork, active_at, held_at, instance_of, nodes_of, path_at, seen_at, value_at}
use Rattle.cx_eval_network.specs.Nodes.{first_node, part_at}
use Rattle.cx_eval_network.specs.Planned.{NumberedAssign, StandFor, assign_plan, numbered_assign, numbers_of}
use Rattle.cx_eval_network.specs.Plans.{Assigns, cell_decides, decides, part_decides, planned, side_decides}
use Rattle.cx_eval_network.proofs.AskLemmas.{active_there, there}
use Rattle.cx_eval_network.proofs.NetworkLemmas.{same_instance}
use Rattle.cx_eval_network.proofs.PlanLemmas.{nodes_are}
use Rattle.cx_eval_network.proofs.ValueLemmas.{IsLiteral, led_node, value_there}

-- A PORT THAT ITS ASSIGNMENTS DECIDE
pub record IsDriven (i : Instance) (p : PortRef) (x : Seen) (assigns : List NumberedAssign) (leads : plain.Active → List PortRef) (steps : plain.Active → State → Look → Below → Seen) : Type 0 where
  pub list : assigns ≡ map (assign_plan i) (owned_for p (source_order (part_of i)))
  pub leads_are : (act : plain.Active) → leads act ≡ named_by (drivers (part_of i) act p)
  pub steps_are : (act : plain.Active) (s : State) (look : Look) (below : Below) → steps act s look below ≡ target_seen x look (drivers (part_of i) act p)

module _ (i : Instance) (x : Seen) (assigns : List NumberedAssign) where
  by_assigns : (p : PortRef) (undriven : Seen) → Assigns undriven (map (assign_plan i) (owned_for p (source_order (part_of i)))) ≡ Assigns x assigns
      → IsDriven i p x assigns (λ act. named_by (drivers (part_of i) act p)) (λ act s look below. target_seen undriven look (drivers (part_of i) act p))
  by_assigns p undriven e = record {
    list = sym (second e);
    leads_are = λ act. refl;
    steps_are = λ act s look below. ap (λ y. target_seen y look (drivers (part_of i) act p)) (first e);
  }
    where
      first : {y z : Seen} {xs ys : List NumberedAssign} → Assigns y xs ≡ Assigns z ys → y ≡ z
      first f = cc

      second : {y z : Seen} {xs ys : List NumberedAssign} → Assigns y xs ≡ Assigns z ys → xs ≡ ys
      second f = cc

  by_side : (c p : ℕ) (row : Row) (side : Side) → side_decides i (ports.Cell c p) row side ≡ Assigns x assigns
      → IsDriven i (ports.Cell c p) x assigns (λ act. side_leads (part_of i) act row c p side) (λ act s look below. side_step (part_of i) act s look below row c p side)
  by_side c p row sides.Enable e = by_assigns (ports.Cell c p) _ e
  by_side c p row sides.Plain e = by_assigns (ports.Cell c p) _ e
  by_side c p row sides.Output e = absurd (cc)
  by_side c p row sides.Registered e = absurd (cc)

  by_part : (c p : ℕ) (port : PartPort) → part_decides i (ports.Cell c p) port ≡ Assigns x assigns
      → IsDriven i (ports.Cell c p) x assigns (λ act. part_leads (part_of i) act c p port) (λ act s look below. part_step (part_of i) act s look below c p port)
  by_part c p Go e = by_assigns (ports.Cell c p) _ e
  by_part c p (AnInput n) e = by_assigns (ports.Cell c p) _ e
  by_part c p (AnOutput n) e = absurd (cc)
  by_part c p ItsDone e = absurd (cc)

  by_cell : (c p : ℕ) (at : At) → cell_decides i (ports.Cell c p) p at ≡ Assigns x assigns
      → IsDriven i (ports.Cell c p) x assigns (λ act. cell_leads (part_of i) act c p at) (λ act s look below. cell_step (part_of i) act s look below c p at)
  by_cell c p Nothing e = absurd (cc)
  by_cell c p (OfRow row) e = by_side c p row (side_of row p) e
  by_cell c p (OfInstance child) e = by_part c p (part_port (part_of child) p) e

  driven_port : (held : Held) (p : PortRef) → decides i p ≡ Assigns x assigns → IsDriven i p x assigns (λ act. lead_ports i act p) (λ act s look below. step i held act s look below p)
  driven_port held (ports.Cell c p) e = by_cell c p (cell_at (cells_of i) c) e
  driven_port held (ports.Input n) e = absurd (cc)
  driven_port held (ports.Output n) e = by_assigns (ports.Output n) _ e
  driven_port held (ports.Done g) e = by_assigns (ports.Done g) _ e
  driven_port held (ports.Literal w v) e = absurd (cc)

-- WHAT THE PORTS of an instance are seen as, and those that have no number as the literals that they are
abbrev pub own_look : (PortRef → Seen) → PortRef → Option ℕ → Seen
own_look seen q None = literal_seen q
own_look seen q (Some n) = seen q

module _ (a : Asked) (nodes : Nodes) (h : IsNetwork a nodes) (k : ℕ) (from : a.instance ≤ k) (lt : k < length a.rows) where
  abbrev pub look_of : Look
  look_of q = own_look (seen_at a k) q (part.node_of (part_at a.design a.rows k) q)

  abbrev here : Instance
  here = instance_of a k

  abbrev pub state_of : State
  state_of = under_path (path_at a.design k) (state_in (tree_of a.design) a.state)

  abbrev pub below_of : Below
  below_of = outputs_below (cells_of here) (λ c. under c state_of)

  lead_looks : (p q : PortRef) → Leads here (active_at a k) p q → look_of q ≡ seen_at a k q
  lead_looks p q l =
      let same = same_instance a nodes h k lt in
      ⊎_elim
      (λ (x : IsLiteral q). ap look_of x.is
      ∙ ap (λ b. if b then Value (record { width = x.width; value = x.value }) else Undefined) (h.literals k x.width x.value p lt (subst (Leads here (active_at a k) p) x.is l))
      ∙ sym (literal_is here (held_at a k) (active_at a k) state_of x.width x.value) ∙ ap (seen_at a k) (sym x.is))
      (λ (x : (m : ℕ) × (part.node_of (part_at a.design a.rows k) q ≡ Some m)). ap (own_look (seen_at a k) q) x.1)
      (led_node a.design (row_at a.rows k).component h.design (h.table.there k lt) (active_at a k) p q (subst (λ j. Leads j (active_at a k) p q) same l))

  -- one step from what all ports are seen as
  step_looks : (p : PortRef) → step here (held_at a k) (active_at a k) state_of look_of below_of p ≡ seen_at a k p
  step_looks p = decided here (held_at a k) (active_at a k) state_of look_of below_of p (h.acyclic k) (h.below k) (λ q l. lead_looks p q l) (λ c port n child f at. outputs_at (cells_of here) (λ c. under c state_of) c n child at)

  pub step_seen : (p : PortRef) → step here (held_at a k) (active_at a k) state_of (seen_at a k) below_of p ≡ seen_at a k p
  step_seen p = decided here (held_at a k) (active_at a k) state_of (seen_at a k) below_of p (h.acyclic k) (h.below k) (λ q l. refl) (λ c port n child f at. outputs_at (cells_of here) (λ c. under c state_of) c n child at)

  -- what marks know of the ports of the instance
  module _ (marks : List NodeMark) (right : IsRight (value_at a nodes) marks) (own : List NodeMark) (is : own ≡ drop (first_node a.design a.rows k) marks) where
    dropped : {A : Type 0} (xs : List A) (m n : ℕ) → slice_get (drop m xs) n ≡ slice_get xs (m + n)
    dropped xs zero n = let z : n ≡ 0 + n = omega arith in ap (slice_get xs) z
    dropped [] (suc m) n = refl
    dropped (x ∷ xs) (suc m) n = dropped xs m n ∙ (let s : suc (m + n) ≡ suc m + n = omega arith in ap (slice_get (x ∷ xs)) s)

    pub own_seen : (q : PortRef) (n : ℕ) (x : Seen) → part.node_of (part_at a.design a.rows k) q ≡ Some n → slice_get own n ≡ Some (Known x) → x ≡ seen_at a k q
    own_seen q n x e known =
        let first = first_node a.design a.rows k in
        right (first + n) x (sym (dropped marks first n) ∙ ap (λ ms. slice_get ms n) (sym is) ∙ known)
        ∙ value_there a nodes h marks k (first + n) q from lt (ap (option_map (λ j. first + j)) e)

    pub own_agree : Agree (part_at a.design a.rows k) look_of own
    own_agree = record {
      known = λ q n x e known. own_seen q n x e known ∙ sym (ap (own_look (seen_at a k) q) e);
      fixed = λ q e. sym (ap (own_look (seen_at a k) q) e);
    }

    own_known : (n : ℕ) → known_at own n ≡ known_at marks (first_node a.design a.rows k + n)
    own_known n = ap is_known (ap (λ ms. slice_get ms n) is ∙ dropped marks (first_node a.design a.rows k) n)

    -- what is found by the numbers of ports is found by their nodes
    pub placed_looked : (first : ℕ) (qs : List PortRef) (below : List ℕ) (value : Seen) (result : Found) → first ≡ first_node a.design a.rows k
        → Looked (numbers_of (part_at a.design a.rows k) qs) value own result → Looked (nodes_of a k qs ++ below) value marks (placed first result)
    placed_looked first qs below value (Worth x) f l = l
    placed_looked first qs below value (Waits n) f l = (
      in_left (nodes_of a k qs) below (first + n) (subst (λ ms. In ms (first + n)) (sym (nodes_are a k qs)) (subst (λ m. In (map (λ j. m + j) (numbers_of (part_at a.design a.rows k) qs)) (first + n)) f (mapped (numbers_of (part_at a.design a.rows k) qs) l.0))),
      ap (λ m. known_at marks (m + n)) f ∙ sym (own_known n) ∙ l.1,
    )
      where
        mapped : (ns : List ℕ) → In ns n → In (map (λ j. first + j) ns) (first + n)
        mapped [] h = absurd h
        mapped (m ∷ ns) (inl e) = inl (ap (λ j. first + j) e)
        mapped (m ∷ ns) (inr h) = inr (mapped ns h)

-- WHAT A LOOK FINDS at a driven port
module _ (asking : Asking) (can : CanAsk (asked_of asking) asking.nodes.now) (found : NodePort) (f : IsFound (asked_of asking) found) where
  abbrev a : Asked
  a = asked_of asking

  abbrev k : ℕ
  k = found.instance

  abbrev i : Instance
  i = part_at a.design a.rows k

  driven_looked : (plan : DrivenPlan) (active : Active) (own : List NodeMark) (result : Found) → planned (plans.Driven plan) ≡ decided_by a found → active ≡ active_in a.instance asking.active.now k
      → ((owned : List Owned) → StandFor i plan.assigns.items owned
      → Looked (numbers_of i (named_by (acting_of (offset_by active) owned))) (target_seen plan.undriven (look_of a asking.nodes.now can.network k f.from f.within) (acting_of (offset_by active) owned)) own result)
      → LookedOwn a found own result
  driven_looked plan active own result is act looked =
      let net = can.network in
      let look = look_of a asking.nodes.now net k f.from f.within in
      let s = state_of a asking.nodes.now net k f.from f.within in
      let below = below_of a asking.nodes.now net k f.from f.within in
      let driven = driven_port i plan.undriven (map numbered_assign plan.assigns.items) (held_at a k) found.port (sym is) in
      let same = there asking can found f in
      let here : plain_active i active ≡ active_at a k = ap (plain_active i) act ∙ active_there a asking.active.now k refl i (sym same) in
      let acts : acting_of (offset_by active) (owned_for found.port (source_order (part_of i))) ≡ drivers (part_of i) (active_at a k) found.port =
      sym (acting_is (plain_active i active) (offset_by active) found.port (source_order (part_of i)) (offset_is i active)) ∙ ap (λ x. drivers (part_of i) x found.port) here in
      let leads : named_by (acting_of (offset_by active) (owned_for found.port (source_order (part_of i)))) ≡ lead_ports (instance_of a k) (active_at a k) found.port =
      ap named_by acts ∙ sym (driven.leads_are (active_at a k)) ∙ ap (λ j. lead_ports j (active_at a k) found.port) (sym same) in
      let value : target_seen plan.undriven look (acting_of (offset_by active) (owned_for found.port (source_order (part_of i)))) ≡ seen_at a k found.port =
      ap (target_seen plan.undriven look) acts ∙ sym (driven.steps_are (active_at a k) s look below)
      ∙ ap (λ j. step j (held_at a k) (active_at a k) s look below found.port) (sym same)
      ∙ step_looks a asking.nodes.now net k f.from f.within found.port in
      subst (λ x. Looked (numbers_of i (lead_ports (instance_of a k) (active_at a k) found.port)) x own result) value
      (subst (λ qs. Looked (numbers_of i qs) (target_seen plan.undriven look (acting_of (offset_by active) (owned_for found.port (source_order (part_of i))))) own result) leads
      (looked (owned_for found.port (source_order (part_of i))) driven.list))

  pub driven_known : (plan : DrivenPlan) (active : Active) (marks own : List NodeMark) (result : Found) → planned (plans.Driven plan) ≡ decided_by a found → active ≡ active_in a.instance asking.active.now k
      → IsRight (value_at a asking.nodes.now) marks → own ≡ drop (first_node a.design a.rows k) marks
      → ((x : Instance) (owned : List Owned) (look : Look) → StandFor x plan.assigns.items owned → Agree x look own
      → Looked (numbers_of x (named_by (acting_of (offset_by active) owned))) (target_seen plan.undriven look (acting_of (offset_by active) owned)) own result)
      → LookedOwn a found own result
  driven_known plan active marks own result is act right drops looked =
      driven_looked plan active own result is act
      (λ owned stand. looked i owned (look_of a asking.nodes.now can.network k f.from f.within) stand (own_agree a asking.nodes.now can.network k f.from f.within marks right own drops))
