-- Ports that are found in a listed order are found as they are seen.
use Rattle.std.proofs.Common.{◌≡◌, ℕ, ◌+◌, ◌^◌, ◌<◌, ◌≤◌, Option, Some, None, List, [], drop, length, slice_get, set, ⊎_elim, refl, sym, ap, ◌∙◌, subst, arith}
use Rattle.std.specs.Prelude.{option_map, if◌then◌else◌}
use Rattle.std.proofs.lemmas.List.{length-set}
use Rattle.cx_text.proofs.ListLaws.{set_other, set_same, there_at, there_below}
use Rattle.cx_text.proofs.NumberLaws.{equal, same_or}
use Rattle.cx_meaning.specs.declared.ports.PortRef.{PortRef}
use Rattle.cx_meaning.specs.declared.ports.PortRef.TheVariants.{Cell}
use Rattle.cx_meaning.specs.declared.sights.Seen.{Seen}
use Rattle.cx_meaning.specs.Designs.{PlainDesign}
use Rattle.cx_meaning.specs.Sights.{target_seen}
use Rattle.cx_design.specs.declared.actives.Active.{Active}
use Rattle.cx_design.specs.declared.actives.Active.TheVariants as actives
use Rattle.cx_state.specs.declared.tables.InstanceRow.{InstanceRow}
use Rattle.cx_state.specs.Tables.{row_at}
use Rattle.cx_design_leads.specs.Nodes as part
use Rattle.cx_eval_drives.specs.Drives.{acting_of, offset_by}
use Rattle.cx_eval_network.specs.declared.asking.Asking.{Asking}
use Rattle.cx_eval_network.specs.declared.listed.InstanceList.{InstanceList}
use Rattle.cx_eval_network.specs.declared.listed.ListedPort.{ListedPort}
use Rattle.cx_eval_network.specs.declared.marks.NodeMark.{NodeMark}
use Rattle.cx_eval_network.specs.declared.marks.NodeMark.TheVariants.{Unseen, Open, Known}
use Rattle.cx_eval_network.specs.declared.network.Found.{Found}
use Rattle.cx_eval_network.specs.declared.network.Found.TheVariants.{Worth, Waits}
use Rattle.cx_eval_network.specs.declared.numbering.InstanceNodes.{InstanceNodes}
use Rattle.cx_eval_network.specs.declared.numbering.NodePort.{NodePort}
use Rattle.cx_eval_network.specs.declared.numbering.Nodes.{Nodes}
use Rattle.cx_eval_network.specs.declared.parts.PartNodes.{PartNodes}
use Rattle.cx_eval_network.specs.declared.planned.PartPlans.{PartPlans}
use Rattle.cx_eval_network.specs.declared.planned.PlannedPort.{PlannedPort}
use Rattle.cx_eval_network.specs.declared.planned.PlannedPort.TheVariants.{Numbered, Fixed}
use Rattle.cx_eval_network.specs.declared.listed.FoundBy.{FoundBy}
use Rattle.cx_eval_network.specs.declared.listed.FoundBy.TheVariants as by
use Rattle.cx_eval_network.specs.declared.planned.PortPlan.{PortPlan}
use Rattle.cx_eval_network.specs.declared.planned.PortPlan.TheVariants as plans
use Rattle.cx_eval_network.specs.Asked.{CanAsk, active_in}
use Rattle.cx_eval_network.specs.Askings.{IsCellPort, IsFound, asked_of}
use Rattle.cx_eval_network.specs.Demands.{IsRight, Keeps, Ready}
use Rattle.cx_eval_network.specs.Evaluated.{Gives, by_mark, port_found}
use Rattle.cx_eval_network.specs.Lists.{ActsAs, AreListed, IsFoundBy, IsSource}
use Rattle.cx_eval_network.specs.Networks.{Asked, seen_at, value_at}
use Rattle.cx_eval_network.specs.Nodes.{IsInList, IsListOf, IsNodesOf, first_node, node_at, part_at}
use Rattle.cx_eval_network.specs.Plans.{Inputs, IsPlanOf, decides, planned}
use Rattle.cx_eval_network.specs.Stamps.{followed}
use Rattle.cx_eval_network.proofs.LookLemmas.{driven_known}
use Rattle.cx_eval_network.proofs.NodeLemmas.{nodes_within}
use Rattle.cx_eval_network.proofs.ValueLemmas.{value_there}

-- WHAT A STEP OF A LIST LEAVES: what is known is right, and what was known still is
pub record Filled (value : ℕ → Seen) (old marks : List NodeMark) : Type 0 where
  pub ready : Ready value marks
  pub kept : Keeps old marks
  pub count : length marks ≡ length old

pub still_filled : (value : ℕ → Seen) (marks : List NodeMark) → Ready value marks → Filled value marks marks
still_filled value marks ready = record { ready = ready; kept = λ n x h. h; count = refl }

-- a node is known with its value
module _ (value : ℕ → Seen) (marks : List NodeMark) (node : ℕ) (x : Seen) (ready : Ready value marks) (is : x ≡ value node) where
  abbrev after : List NodeMark
  after = set marks node (Known x)

  put_is : (m y : NodeMark) → slice_get marks node ≡ Some y → slice_get after node ≡ Some m → m ≡ Known x
  put_is m y there h = let f : Some (Known x) ≡ Some m = sym (set_same marks node (Known x) (there_below marks node y there)) ∙ h in cc

  was_there : (m : NodeMark) → slice_get after node ≡ Some m → (y : NodeMark) × (slice_get marks node ≡ Some y)
  was_there m h = there_at marks node (subst (λ n. node < n) (length-set marks node (Known x)) (there_below after node m h))

  put_known : (n : ℕ) (m : NodeMark) → n ≡ node → slice_get after n ≡ Some m → m ≡ Known x
  put_known n m s h =
      let at : slice_get after node ≡ Some m = ap (slice_get after) (sym s) ∙ h in
      let was = was_there m at in
      put_is m was.0 was.1 at

  pub known_filled : Filled value marks after
  known_filled = record {
    ready = record {
      right = λ n y h. ⊎_elim
          (λ s. let f : Known y ≡ Known x = put_known n (Known y) s h in let same : y ≡ x = cc in same ∙ is ∙ ap value (sym s))
          (λ ne. ready.right n y (sym (set_other marks node n (Known x) ne) ∙ h)) (same_or n node);
      closed = λ n h. ⊎_elim
          (λ s. absurd (let f : Open ≡ Known x = put_known n Open s h in cc))
          (λ ne. ready.closed n (sym (set_other marks node n (Known x) ne) ∙ h)) (same_or n node);
    };
    kept = λ n y h. ⊎_elim
        (λ s.
        let at : slice_get marks node ≡ Some (Known y) = ap (slice_get marks) (sym s) ∙ h in
        let same : x ≡ y = is ∙ sym (ready.right node y at) in
        ap (slice_get after) s ∙ set_same marks node (Known x) (there_below marks node (Known y) at) ∙ ap (λ z. Some (Known z)) same)
        (λ ne. set_other marks node n (Known x) ne ∙ h) (same_or n node);
    count = length-set marks node (Known x);
  }

-- or as another one
pub followed_filled : (value : ℕ → Seen) (marks : List NodeMark) (node number : ℕ) (o : Option NodeMark) → Ready value marks → Gives (value node) (by_mark number o) → Filled value marks (followed marks node o)
followed_filled value marks node number None ready g = still_filled value marks ready
followed_filled value marks node number (Some Unseen) ready g = still_filled value marks ready
followed_filled value marks node number (Some Open) ready g = still_filled value marks ready
followed_filled value marks node number (Some (Known x)) ready g = known_filled value marks node x ready g

-- THE LIST OF AN INSTANCE, by that of its component
module _ (d : PlainDesign) (rows : List InstanceRow) (nodes : Nodes) (h : IsNodesOf d rows nodes) (n : ℕ) (lt : n < length rows) where
  abbrev k : ℕ
  k = (row_at rows n).component

  pub list_there : (active : Active) (place : InstanceNodes) (list : InstanceList) → slice_get nodes.instances.items n ≡ Some place → list.place ≡ place
      → ((part : PartNodes) (planned : PartPlans) → slice_get nodes.parts.items place.component ≡ Some part → slice_get nodes.plans.items place.component ≡ Some planned → AreListed part.ports.items planned.ports.items active list.ports.now)
      → IsListOf d rows n active list
  list_there active place list at is listed =
      let there = h.there n lt in
      let its_plans : (part : PartPlans) × (slice_get nodes.plans.items k ≡ Some part) = there_at nodes.plans.items k (let many = h.plans.count in omega (arith, there, many)) in
      let numbered = there_at nodes.parts.items k (let many = h.parts.count in omega (arith, there, many)) in
      let plan_of = h.plans.each k its_plans.0 its_plans.1 in
      let ports = (h.parts.each k numbered.0 numbered.1).ports in
      let component = h.placed.components n place at in
      let all = listed numbered.0 its_plans.0 (ap (slice_get nodes.parts.items) component ∙ numbered.1) (ap (slice_get nodes.plans.items) component ∙ its_plans.1) in
      record {
        place = record { component = ap (λ (p : InstanceNodes). p.component) is ∙ component; first = ap (λ (p : InstanceNodes). p.first) is ∙ h.placed.firsts n place at };
        each = λ j own e.
            let listed_port = all j own e in
            let number = ports.each own.number listed_port.port listed_port.stands in
            record {
              port = listed_port.port;
              number = number;
              plan = listed_port.plan;
              plans = plan_of.each own.number listed_port.port listed_port.plan listed_port.there number;
              found_by = listed_port.found_by;
            };
      }

-- THE LIST of an active set is one of what acts as that
module _ (active other : Active) (same : ActsAs active other) where
  source_as : (plan : PortPlan) (source : PlannedPort) → IsSource active plan source → IsSource other plan source
  source_as (plans.Driven plan) source seen = λ further acts. seen further (λ owner. acts owner ∙ same owner)
  source_as (plans.Output reads) source h = h
  source_as plans.Apart source h = h

  found_as : (port : PortRef) (plan : PortPlan) (found : FoundBy) → IsFoundBy active port plan found → IsFoundBy other port plan found
  found_as port plan (by.Port number) h = source_as plan (Numbered number) h
  found_as port plan (by.Fixed seen) h = source_as plan (Fixed seen) h
  found_as port plan (by.State cell output) h = h
  found_as port plan (by.Inputs cell output reads) h = h
  found_as port plan by.Look h = h

  pub list_as : (d : PlainDesign) (rows : List InstanceRow) (n : ℕ) (list : InstanceList) → IsListOf d rows n active list → IsListOf d rows n other list
  list_as d rows n list h = record {
    place = h.place;
    each = λ j listed at. let l = h.each j listed at in record { port = l.port; number = l.number; plan = l.plan; plans = l.plans; found_by = found_as l.port l.plan listed.found_by l.found_by };
  }

-- A LISTED PORT of the asked instance
module _ (asking : Asking) (can : CanAsk (asked_of asking) asking.nodes.now) (listed : ListedPort)
    (l : IsInList (part_at (asked_of asking).design (asked_of asking).rows asking.instance) asking.active.now listed) where
  abbrev a : Asked
  a = asked_of asking

  abbrev node : ℕ
  node = first_node a.design a.rows a.instance + listed.number

  node_is : node_at a.design a.rows a.instance l.port ≡ Some node
  node_is = ap (option_map (λ m. first_node a.design a.rows a.instance + m)) l.number

  pub node_fits : node < 2 ^ 64
  node_fits =
      let below = nodes_within a.design a.rows a.instance l.port node can.within node_is in
      let fits = can.network.numbered.fits in
      omega (arith, below, fits)

  value_is : value_at a asking.nodes.now node ≡ seen_at a a.instance l.port
  value_is = value_there a asking.nodes.now can.network [] a.instance node l.port (omega arith) can.within node_is

  abbrev found : NodePort
  found = record { instance = a.instance; component = (row_at a.rows a.instance).component; port = l.port; number = listed.number }

  from_there : a.instance ≤ a.instance
  from_there = omega arith

  is_found : IsFound a found
  is_found = record { from = from_there; within = can.within; component = refl; number = l.number }

  here_active : asking.active.now ≡ active_in a.instance asking.active.now a.instance
  here_active = sym (ap (λ b. if b then asking.active.now else actives.Nothing) (equal a.instance))

  module _ (marks : List NodeMark) (right : IsRight (value_at a asking.nodes.now) marks) where
    abbrev own : List NodeMark
    own = drop (first_node a.design a.rows a.instance) marks

    by_plan : (plan : PortPlan) → IsPlanOf (part_at a.design a.rows a.instance) l.port plan → (source : PlannedPort) → IsSource asking.active.now plan source → (r : Found) → port_found own source ≡ r
        → Gives (seen_at a a.instance l.port) r
    by_plan (plans.Output reads) e source h r f = absurd h
    by_plan plans.Apart e source h r f = absurd h
    by_plan (plans.Driven plan) e source seen (Waits m) f = tt
    by_plan (plans.Driven plan) e source seen (Worth x) f =
        driven_known asking can found is_found plan asking.active.now marks own (Worth x) e here_active right refl
        (λ i owned look stand agree. subst (Gives (target_seen plan.undriven look (acting_of (offset_by asking.active.now) owned))) f (seen asking.active.now (λ owner. refl) i owned look own stand agree))

    pub source_known : (source : PlannedPort) → IsSource asking.active.now l.plan source → Gives (value_at a asking.nodes.now node) (port_found own source)
    source_known source s = subst (λ x. Gives x (port_found own source)) (sym value_is) (by_plan l.plan l.plans source s (port_found own source) refl)

  -- an output of a cell
  module _ (cell output : ℕ) (is : l.port ≡ Cell cell output) where
    abbrev port : PortRef
    port = Cell cell output

    pub state_found : IsCellPort a a.instance cell output
    state_found = record { number = listed.number; from = from_there; within = can.within; at = ap (part.node_of (part_at a.design a.rows a.instance)) (sym is) ∙ l.number }

    pub state_reads : (reads : ℕ) → l.plan ≡ plans.Output reads → decides (part_at a.design a.rows a.instance) port ≡ Inputs reads
    state_reads reads e = ap (decides (part_at a.design a.rows a.instance)) (sym is) ∙ sym l.plans ∙ ap planned e

    pub output_found : IsFound a (record { instance = a.instance; component = (row_at a.rows a.instance).component; port = port; number = listed.number })
    output_found = record { from = from_there; within = can.within; component = refl; number = ap (part.node_of (part_at a.design a.rows a.instance)) (sym is) ∙ l.number }

    pub state_known : seen_at a a.instance port ≡ value_at a asking.nodes.now node
    state_known = ap (seen_at a a.instance) (sym is) ∙ sym value_is
