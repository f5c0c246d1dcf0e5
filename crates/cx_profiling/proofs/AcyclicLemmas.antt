-- The ports of new parts lead nowhere in three steps, so nothing leads in a circle under groups of the design.
use Rattle.std.proofs.Common.{◌≡◌, ℕ, zero, suc, ◌+◌, ◌-◌, ◌*◌, ◌<◌, ◌≤◌, inl, inr, ◌⊎◌, ⊎_elim, Bool, true, false, if◌then◌else◌, List, [], ◌∷◌, ◌++◌, length, Option, Some, None, refl, sym, ap, ◌∙◌, subst, arith}
use Rattle.std.proofs.lemmas.Bool.{cases_lt, ltb-true}
use Rattle.std.proofs.lemmas.Option.{slice_get_past}
use Rattle.std.proofs.lemmas.List.{length-append}
use Rattle.cx_text.proofs.MemberLaws.{in_at, in_left, in_right}
use Rattle.cx_text.specs.Members.{In}
use Rattle.cx_text.specs.declared.places.Place.{Place}
use Rattle.cx_text.proofs.ListLaws.{there_at}
use Rattle.cx_prim.specs.declared.ports.Side.TheVariants as sides
use Rattle.cx_prim.specs.declared.names.PrimitiveName.TheVariants as primitives
use Rattle.cx_meaning.specs.declared.ports.PortRef.{PortRef}
use Rattle.cx_meaning.specs.declared.ports.PortRef.TheVariants as ports
use Rattle.cx_meaning.specs.Rows.{side_of}
use Rattle.cx_meaning.specs.Designs.{PlainCell, PlainGroup, PlainComponent, PlainDesign, component_at}
use Rattle.cx_meaning.specs.Instances.{Instance, Cells, OfRow, OfInstance, cell_at, cells_of, cells_for, part_of, tree_within}
use Rattle.cx_meaning.specs.Active.{Active, Acting, Owned, owned, owned_by_groups, if_acting, drivers}
use Rattle.cx_meaning.specs.Sights.{GuardNames, PartPort, part_port}
use Rattle.cx_meaning.proofs.DesignsLemmas.{same_part}
use Rattle.cx_meaning.proofs.InstancesLemmas.{instance_is, row_instance, nothing_instance}
use Rattle.cx_rules.specs.Footprints.{Mentions, SideLeads, PartLeads, CellLeads, Leads}
use Rattle.cx_rules.specs.Circles.{IsAcyclic}
use Rattle.cx_rules.specs.Ports.{component_of}
use Rattle.cx_rules.specs.Wellformed.{IsDesign}
use Rattle.cx_rewrites.specs.Driving.{assigns_of}
use Rattle.cx_profiling.specs.Counters.{is_counted, Counter, counters_from, counters, Shown, shown_in, first_gained}
use Rattle.cx_profiling.specs.Instrumented.{drive, moved_assigns, counted_groups, output_assigns, store_groups, counter_cells, main_component, child_component, with_counts}
use Rattle.cx_profiling.proofs.ListedCells.{at_row, at_none}
use Rattle.cx_profiling.proofs.PortLemmas.{IsInside, IsNew}
use Rattle.cx_profiling.proofs.LoneDrivers.{AllSilent, silent_joined, silent_drives}
use Rattle.cx_profiling.proofs.WalkLemmas.{owned_joined, groups_joined}
use Rattle.cx_profiling.proofs.CounterLemmas.{counter_cells-length}
use Rattle.cx_profiling.proofs.GainedLemmas.{grown_at, counted_groups-length}
use Rattle.cx_profiling.proofs.RoleLemmas.{own_counters, register_there, adder_there}
use Rattle.cx_profiling.proofs.CellPorts.{IsGiven, given_output, given_done, part_given}
use Rattle.cx_profiling.proofs.CounterDrives.{Wire, to_left, to_right, to_in, to_enable, wire_target, wire_source, wire, Away, old_silent, counted_silent, counter_driven}
use Rattle.cx_profiling.proofs.InsideLemmas.{targets_inside}
use Rattle.cx_profiling.proofs.GrownTrees.{InTree, in_reach, is_whole}
use Rattle.cx_profiling.proofs.PairLemmas.{stored, CellPair, row_pair, child_pair, pair_at}
use Rattle.cx_profiling.proofs.ShownLemmas.{WhereShown, own_count, child_count, where_shown}
use Rattle.cx_profiling.proofs.OutputDrives.{output_driven, no_output_driven}
use Rattle.cx_profiling.proofs.CircleLemmas.{Ends, IsKnown, ending, old_known, plain_known, acyclic_grown}
use Rattle.cx_profiling.proofs.RestLemmas.{counter_row}
use Rattle.cx_profiling.proofs.RowLemmas.{adder_row}

-- COUNTERS by their numbers
pub counter_at : (cells : Cells) (c g : ℕ) (groups : List PlainGroup) (i : ℕ) → i < length (counters_from cells c g groups) → (x : Counter) × In (counters_from cells c g groups) x × (x.register ≡ c + 2 * i)
counter_at cells c g [] i few = absurd (omega (arith, few))
counter_at cells c g (y ∷ ys) i few = by (is_counted cells y) i few (counter_at cells (suc (suc c)) (suc g) ys) (counter_at cells c (suc g) ys)
  where
    by : (t : Bool) (n : ℕ) → n < length (if t then record { group = g; register = c } ∷ counters_from cells (suc (suc c)) (suc g) ys else counters_from cells c (suc g) ys)
        → ((n : ℕ) → n < length (counters_from cells (suc (suc c)) (suc g) ys) → (x : Counter) × In (counters_from cells (suc (suc c)) (suc g) ys) x × (x.register ≡ suc (suc c) + 2 * n))
        → ((n : ℕ) → n < length (counters_from cells c (suc g) ys) → (x : Counter) × In (counters_from cells c (suc g) ys) x × (x.register ≡ c + 2 * n))
        → (x : Counter) × In (if t then record { group = g; register = c } ∷ counters_from cells (suc (suc c)) (suc g) ys else counters_from cells c (suc g) ys) x × (x.register ≡ c + 2 * n)
    by true zero few next same = (record { group = g; register = c }, inl refl, omega arith)
    by true (suc n) few next same = let r = next n (omega (arith, few)) in let e : r.0.register ≡ suc (suc c) + 2 * n = r.2 in (r.0, inr r.1, omega (arith, e))
    by false n few next same = same n few

pub child_few : (f : ℕ → Instance) (cells : List PlainCell) (c : ℕ) (child : Instance) → cell_at (cells_for f cells) c ≡ OfInstance child → c < length cells
child_few f cells c child e = ⊎_elim (λ less. less) (λ past. absurd (nothing_instance child (sym (at_none f cells c (slice_get_past cells c past)) ∙ e))) (cases_lt c (length cells))

half : (n own : ℕ) → n < 2 * own → (i : ℕ) × (i < own) × ((n ≡ 2 * i) ⊎ (n ≡ suc (2 * i)))
half n zero few = absurd (omega (arith, few))
half zero (suc own) few = (0, omega arith, inl (omega arith))
half (suc zero) (suc own) few = (0, omega arith, inr (omega arith))
half (suc (suc n)) (suc own) few =
    let r = half n own (omega (arith, few)) in
    let less : r.0 < own = r.1 in
    (suc r.0, omega (arith, less), ⊎_elim (λ (e : n ≡ 2 * r.0). inl (omega (arith, e))) (λ (e : n ≡ suc (2 * r.0)). inr (omega (arith, e))) r.2)

-- only groups of the component act
abbrev pub ActsWithin : PlainComponent → Active → Type 0
ActsWithin part act = (g : ℕ) → length part.groups ≤ g → act.offset g ≡ None

mentions_wire : (o : Option ℕ) (place : Place) (w : Wire) (r : ℕ) (q : PortRef) → Mentions (if_acting o (wire place w r) []) q → wire_source w r ≡ q
mentions_wire None place w r q (a, i, n) = absurd i
mentions_wire (Some k) place w r q (a, inr i, n) = absurd i
mentions_wire (Some k) place w r q (a, inl e, inl g) = absurd (subst (λ (x : Acting). GuardNames x.assign.guard q) (sym e) g)
mentions_wire (Some k) place w r q (a, inl e, inr s) = ap (λ (x : Acting). x.assign.source.port) e ∙ s

stores_within : (act : Active) (p : PortRef) (place : Place) (names : List (List ℕ)) (memory width n g j : ℕ) (list : List Shown) → ((h : ℕ) → g ≤ h → act.offset h ≡ None)
    → AllSilent act p (owned_by_groups g (store_groups place names memory width n g j list))
stores_within act p place names memory width n g j [] none = tt
stores_within act p place names memory width n g j (x ∷ xs) none =
    let here : act.offset g ≡ None = none g (omega arith) in
    (inl here, (inl here, (inl here, (inl here, stores_within act p place names memory width (suc n) (suc g) (suc j) xs (λ h past. none h (omega (arith, past)))))))

abbrev IsNoOutput : PortRef → Type 0
IsNoOutput (ports.Cell c p) = Unit {0}
IsNoOutput (ports.Input n) = Unit {0}
IsNoOutput (ports.Output n) = ⊥
IsNoOutput (ports.Done g) = Unit {0}
IsNoOutput (ports.Literal w v) = Unit {0}

no_outputs : (act : Active) (p : PortRef) → IsNoOutput p → (place : Place) (n : ℕ) (list : List Shown) → AllSilent act p (owned None (output_assigns place n list))
no_outputs act p other place n [] = tt
no_outputs act (ports.Cell c q) other place n (x ∷ xs) = (inr refl, no_outputs act (ports.Cell c q) other place (suc n) xs)
no_outputs act (ports.Input m) other place n (x ∷ xs) = (inr refl, no_outputs act (ports.Input m) other place (suc n) xs)
no_outputs act (ports.Output m) other place n (x ∷ xs) = absurd other
no_outputs act (ports.Done g) other place n (x ∷ xs) = (inr refl, no_outputs act (ports.Done g) other place (suc n) xs)
no_outputs act (ports.Literal w v) other place n (x ∷ xs) = (inr refl, no_outputs act (ports.Literal w v) other place (suc n) xs)

module _ (d : PlainDesign) (design : IsDesign d) (k : ℕ) (within : k < length d.components) (act : Active) where
  abbrev part : PlainComponent
  part = component_at d k

  abbrev counted : List PlainGroup
  counted = counted_groups d part (cells_of (component_of d k)) (length part.cells) part.groups

  always_silent : (p : PortRef) → IsNew d part p → AllSilent act p (owned None (moved_assigns d part part.always))
  always_silent p new = old_silent d part act p new None part.always (λ o i. targets_inside d design k within o (in_left (owned None part.always) (owned_by_groups 0 part.groups) o i))

  groups_silent : (p : PortRef) → IsNew d part p → Away (length part.cells) (length (counters (component_of d k))) p → AllSilent act p (owned_by_groups 0 counted)
  groups_silent p new away =
      counted_silent d part act (cells_of (component_of d k)) p new (length part.cells) 0 part.groups
      (λ o i. targets_inside d design k within o (in_right (owned None part.always) (owned_by_groups 0 part.groups) o i))
      (subst (λ list. Away (length part.cells) (length list) p) (own_counters d k) away)

  -- what no group of the component drives
  pub main_silent : (names : List (List ℕ)) → component_at (with_counts d) k ≡ main_component d k names → ActsWithin part act → (p : PortRef) → IsNew d part p
      → Away (length part.cells) (length (counters (component_of d k))) p → drivers (component_at (with_counts d) k) act p ≡ []
  main_silent names is acts p new away =
      let count : 0 + length counted ≡ length part.groups = (let same : length counted ≡ length part.groups = counted_groups-length d part (cells_of (component_of d k)) (length part.cells) part.groups in omega (arith, same)) in
      ap (λ other. drivers other act p) is
      ∙ silent_drives act p (main_component d k names)
      (silent_joined act p (owned None (moved_assigns d part part.always)) (owned_by_groups 0 (counted ++ stored d design k within names)) (always_silent p new)
      (subst (AllSilent act p) (sym (groups_joined 0 (length part.groups) counted (stored d design k within names) count))
      (silent_joined act p (owned_by_groups 0 counted) (owned_by_groups (length part.groups) (stored d design k within names)) (groups_silent p new away)
      (stores_within act p part.place names _ _ _ (length part.groups) 0 (shown_in (component_of d k)) acts))))

  pub child_silent : (names : List (List ℕ)) → component_at (with_counts d) k ≡ child_component d k names → (p : PortRef) → IsNew d part p → IsNoOutput p
      → Away (length part.cells) (length (counters (component_of d k))) p → drivers (component_at (with_counts d) k) act p ≡ []
  child_silent names is p new other away =
      ap (λ x. drivers x act p) is
      ∙ silent_drives act p (child_component d k names)
      (silent_joined act p (owned None (moved_assigns d part part.always ++ output_assigns part.place (length part.outputs) (shown_in (component_of d k)))) (owned_by_groups 0 counted)
      (subst (AllSilent act p) (sym (owned_joined None (moved_assigns d part part.always) (output_assigns part.place (length part.outputs) (shown_in (component_of d k)))))
      (silent_joined act p (owned None (moved_assigns d part part.always)) (owned None (output_assigns part.place (length part.outputs) (shown_in (component_of d k)))) (always_silent p new)
      (no_outputs act p other part.place (length part.outputs) (shown_in (component_of d k)))))
      (groups_silent p new away))

module _ (d : PlainDesign) (design : IsDesign d) (m k : ℕ) (at : InTree d (suc m) k) (act : Active) where
  abbrev node : PlainComponent
  node = component_at d k

  abbrev other : PlainComponent
  other = component_at (with_counts d) k

  abbrev j : Instance
  j = tree_within (with_counts d) (suc m) k

  inside : (o : Owned) → In (assigns_of node) o → IsInside d node o.assign.target
  inside o i = targets_inside d design k at.within o i

  -- A COUNTER'S PORTS
  module _ (x : Counter) (i : In (counters (component_of d k)) x) where
    abbrev r : ℕ
    r = x.register

    at_register : cell_at (cells_of j) r ≡ OfRow counter_row
    at_register = let c = register_there d k at.within (in_reach d at) x i in at_row (tree_within (with_counts d) m) other.cells r c.0 (record { name = primitives.Reg; numbers = 64 ∷ [] }) c.1 c.2

    at_adder : cell_at (cells_of j) (suc r) ≡ OfRow adder_row
    at_adder = let c = adder_there d k at.within (in_reach d at) x i in at_row (tree_within (with_counts d) m) other.cells (suc r) c.0 (record { name = primitives.Add; numbers = 64 ∷ [] }) c.1 c.2

    wired : (w : Wire) (q : PortRef) → Mentions (drivers other act (wire_target w r)) q → wire_source w r ≡ q
    wired w q l = mentions_wire (act.offset x.group) node.place w r q (subst (λ acts. Mentions acts q) (counter_driven d k at.within (in_reach d at) inside act w x i) l)

    of_register : (p : ℕ) (q : PortRef) → Leads j act (ports.Cell r p) q → SideLeads other act counter_row r p (side_of counter_row p) q
    of_register p q l = subst (λ x. CellLeads other act r p x q) at_register l

    of_adder : (p : ℕ) (q : PortRef) → Leads j act (ports.Cell (suc r) p) q → SideLeads other act adder_row (suc r) p (side_of adder_row p) q
    of_adder p q l = subst (λ x. CellLeads other act (suc r) p x q) at_adder l

    literal_ends : (w v : ℕ) → Ends j act 0 (ports.Literal w v)
    literal_ends w v q l = l

    out_ends : Ends j act 0 (ports.Cell r 2)
    out_ends q l = of_register 2 q l

    left_ends : Ends j act 1 (ports.Cell (suc r) 0)
    left_ends q l = subst (Ends j act 0) (wired to_left q (of_adder 0 q l)) out_ends

    right_ends : Ends j act 1 (ports.Cell (suc r) 1)
    right_ends q l = subst (Ends j act 0) (wired to_right q (of_adder 1 q l)) (literal_ends 64 1)

    sum_ends : Ends j act 2 (ports.Cell (suc r) 2)
    sum_ends q l = by (of_adder 2 q l)
      where
        by : SideLeads other act adder_row (suc r) 2 sides.Output q → Ends j act 1 q
        by (zero, reads, e) = subst (Ends j act 1) e left_ends
        by (suc zero, reads, e) = subst (Ends j act 1) e right_ends
        by (suc (suc p), reads, e) = absurd (let few : suc (suc p) < 2 = ltb-true (suc (suc p)) 2 reads in omega (arith, few))

    in_ends : Ends j act 3 (ports.Cell r 0)
    in_ends q l = subst (Ends j act 2) (wired to_in q (of_register 0 q l)) sum_ends

    enable_ends : Ends j act 1 (ports.Cell r 1)
    enable_ends q l = subst (Ends j act 0) (wired to_enable q (of_register 1 q l)) (literal_ends 1 1)

    register_known : (p : ℕ) → IsKnown d design m k at.within act (ports.Cell r p)
    register_known zero = ending 3 in_ends
    register_known (suc zero) = ending 1 enable_ends
    register_known (suc (suc zero)) = ending 0 out_ends
    register_known (suc (suc (suc zero))) = ending 0 (λ q l. of_register 3 q l)
    register_known (suc (suc (suc (suc p)))) = ending 0 (λ q l. of_register (suc (suc (suc (suc p)))) q l)

    adder_known : (p : ℕ) → IsKnown d design m k at.within act (ports.Cell (suc r) p)
    adder_known zero = ending 1 left_ends
    adder_known (suc zero) = ending 1 right_ends
    adder_known (suc (suc zero)) = ending 2 sum_ends
    adder_known (suc (suc (suc p))) = ending 0 (λ q l. of_adder (suc (suc (suc p))) q l)

  -- where a count shows nothing leads on
  pub shown_ends : (x : Shown) → In (shown_in (component_of d k)) x → Ends j act 0 x.port
  shown_ends x i = by (where_shown (component_of d k) x i)
    where
      none_leads : (c p : ℕ) (port : PartPort) (q : PortRef) → IsGiven port → PartLeads other act c p port q → ⊥
      none_leads c p port q (given_output n) l = l
      none_leads c p port q given_done l = l

      of_pair : (c p : ℕ) (child : Instance) → cell_at (cells_of (tree_within d (suc m) k)) c ≡ OfInstance child → first_gained (part_of child) ≤ p → CellPair d design m k at.within c → Ends j act 0 (ports.Cell c p)
      of_pair c p child stands past (row_pair row first second moved) = absurd (row_instance row child (sym first ∙ stands))
      of_pair c p child stands past (child_pair cell e there is below first second moved) = λ q l.
          let same : tree_within d m e ≡ child = instance_is (tree_within d m e) child (sym first ∙ stands) in
          let part_is : part_of child ≡ component_at d e = ap part_of (sym same) ∙ same_part d m e in
          let inputs : length (part_of (tree_within (with_counts d) m e)).inputs ≡ length (part_of child).inputs =
          ap (λ (x : PlainComponent). length x.inputs) (same_part (with_counts d) m e) ∙ ap length ((grown_at d e below).inputs) ∙ ap (λ (x : PlainComponent). length x.inputs) (sym part_is) in
          let far : suc (length (part_of (tree_within (with_counts d) m e)).inputs) ≤ p = omega (arith, past, inputs) in
          none_leads c p (part_port (part_of (tree_within (with_counts d) m e)) p) q (part_given (part_of (tree_within (with_counts d) m e)) p far) (subst (λ x. CellLeads other act c p x q) second l)

      by : WhereShown (component_of d k) x → Ends j act 0 x.port
      by (own_count counter i e) = subst (λ (y : Shown). Ends j act 0 y.port) e (out_ends counter i)
      by (child_count b) =
          let whole : cell_at (cells_of (tree_within d (suc m) k)) b.cell ≡ OfInstance b.child = ap (λ tree. cell_at (cells_of tree) b.cell) (is_whole d at) ∙ b.stands in
          let few : b.cell < length node.cells = child_few (tree_within d m) node.cells b.cell b.child whole in
          let zero_first : 0 + b.cell ≡ b.cell = omega arith in
          subst (Ends j act 0) (ap (λ c. ports.Cell c (first_gained (part_of b.child) + b.number)) (sym zero_first) ∙ sym b.port)
          (of_pair b.cell (first_gained (part_of b.child) + b.number) b.child whole (omega arith) (pair_at d design m k at.within b.cell few))

  -- A CELL BEHIND THOSE OF THE COMPONENT is a counter's, or stands behind all counters
  pub data NewCell (c : ℕ) : Type 0 where
    a_register : (x : Counter) → In (counters (component_of d k)) x → x.register ≡ c → NewCell c
    an_adder : (x : Counter) → In (counters (component_of d k)) x → suc x.register ≡ c → NewCell c
    further_on : length node.cells + 2 * length (counters (component_of d k)) ≤ c → NewCell c

  pub new_cell_is : (c : ℕ) → length node.cells ≤ c → NewCell c
  new_cell_is c past =
      ⊎_elim
      (λ (few : c - length node.cells < 2 * length (counters (component_of d k))). of_half few (half (c - length node.cells) (length (counters (component_of d k))) few))
      (λ (far : 2 * length (counters (component_of d k)) ≤ c - length node.cells). further_on (omega (arith, past, far)))
      (cases_lt (c - length node.cells) (2 * length (counters (component_of d k))))
    where
      listed : List Counter
      listed = counters_from (cells_of (component_of d k)) (length node.cells) 0 node.groups

      of_half : c - length node.cells < 2 * length (counters (component_of d k))
          → (i : ℕ) × (i < length (counters (component_of d k))) × ((c - length node.cells ≡ 2 * i) ⊎ (c - length node.cells ≡ suc (2 * i))) → NewCell c
      of_half few (n, less, side) =
          let r = counter_at (cells_of (component_of d k)) (length node.cells) 0 node.groups n (subst (λ list. n < length list) (own_counters d k) less) in
          let number : r.0.register ≡ length node.cells + 2 * n = r.2 in
          let there : In (counters (component_of d k)) r.0 = subst (λ list. In list r.0) (sym (own_counters d k)) r.1 in
          ⊎_elim
          (λ (e : c - length node.cells ≡ 2 * n). a_register r.0 there (omega (arith, past, number, e)))
          (λ (e : c - length node.cells ≡ suc (2 * n)). an_adder r.0 there (omega (arith, past, number, e))) side

  counter_known : (c p : ℕ) → NewCell c → (length node.cells + 2 * length (counters (component_of d k)) ≤ c → IsKnown d design m k at.within act (ports.Cell c p)) → IsKnown d design m k at.within act (ports.Cell c p)
  counter_known c p (a_register x i e) far = subst (λ n. IsKnown d design m k at.within act (ports.Cell n p)) e (register_known x i p)
  counter_known c p (an_adder x i e) far = subst (λ n. IsKnown d design m k at.within act (ports.Cell n p)) e (adder_known x i p)
  counter_known c p (further_on past) far = far past

  none_mentions : (p q : PortRef) → drivers other act p ≡ [] → Mentions (drivers other act p) q → ⊥
  none_mentions p q e l = let r : Mentions [] q = subst (λ acts. Mentions acts q) e l in r.1

  -- ALL PORTS, where those of further cells, of new outputs and of new holes are known
  pub all_known : ((c p : ℕ) → length node.cells + 2 * length (counters (component_of d k)) ≤ c → IsKnown d design m k at.within act (ports.Cell c p))
      → ((n : ℕ) → length node.outputs ≤ n → IsKnown d design m k at.within act (ports.Output n))
      → ((g : ℕ) → length node.groups ≤ g → IsKnown d design m k at.within act (ports.Done g)) → (p : PortRef) → IsKnown d design m k at.within act p
  all_known cells outs dones (ports.Cell c p) =
      ⊎_elim (λ less. old_known d design m k at.within act c p less) (λ past. counter_known c p (new_cell_is c past) (cells c p)) (cases_lt c (length node.cells))
  all_known cells outs dones (ports.Input n) = ending 0 (λ q l. l)
  all_known cells outs dones (ports.Output n) = ⊎_elim (λ less. plain_known d design m k at.within act (ports.Output n) less refl) (λ past. outs n past) (cases_lt n (length node.outputs))
  all_known cells outs dones (ports.Done g) = ⊎_elim (λ less. plain_known d design m k at.within act (ports.Done g) less refl) (λ past. dones g past) (cases_lt g (length node.groups))
  all_known cells outs dones (ports.Literal w v) = ending 0 (λ q l. l)

  -- OF A CHILD
  cells_end : (names : List (List ℕ)) → other ≡ child_component d k names → (c p : ℕ) → length node.cells + 2 * length (counters (component_of d k)) ≤ c → IsKnown d design m k at.within act (ports.Cell c p)
  cells_end names is c p past =
      let count : length other.cells ≡ length node.cells + 2 * length (counters (component_of d k)) =
      ap (λ x. length x.cells) is ∙ length-append node.cells (counter_cells node.place names 0 (length (counters (component_of d k)))) ∙ ap (λ n. length node.cells + n) (counter_cells-length node.place names 0 (length (counters (component_of d k)))) in
      let far : length other.cells ≤ c = omega (arith, past, count) in
      ending 0 (λ q l. subst (λ x. CellLeads other act c p x q) (at_none (tree_within (with_counts d) m) other.cells c (slice_get_past other.cells c far)) l)

  outputs_end : (names : List (List ℕ)) → other ≡ child_component d k names → (n : ℕ) → length node.outputs ≤ n → IsKnown d design m k at.within act (ports.Output n)
  outputs_end names is n past =
      ⊎_elim
      (λ (less : n - length node.outputs < length (shown_in (component_of d k))).
      let x = there_at (shown_in (component_of d k)) (n - length node.outputs) less in
      let number : length node.outputs + (n - length node.outputs) ≡ n = omega (arith, past) in
      subst (λ q. IsKnown d design m k at.within act (ports.Output q)) number
      (ending 1 (λ q l. subst (Ends j act 0) (one_source x.0 q (subst (λ acts. Mentions acts q) (output_driven d k names is inside act (n - length node.outputs) x.0 x.1) l))
      (shown_ends x.0 (in_at (shown_in (component_of d k)) (n - length node.outputs) x.0 x.1)))))
      (λ (far : length (shown_in (component_of d k)) ≤ n - length node.outputs).
      ending 0 (λ q l. none_mentions (ports.Output n) q (no_output_driven d k names is inside act n (omega (arith, past, far))) l))
      (cases_lt (n - length node.outputs) (length (shown_in (component_of d k))))
    where
      one_source : (x : Shown) (q : PortRef) → Mentions (record { offset = 0; assign = drive node.place (ports.Output (length node.outputs + (n - length node.outputs))) x.port } ∷ []) q → x.port ≡ q
      one_source x q (a, inl e, inl g) = absurd (subst (λ (y : Acting). GuardNames y.assign.guard q) (sym e) g)
      one_source x q (a, inl e, inr s) = ap (λ (y : Acting). y.assign.source.port) e ∙ s
      one_source x q (a, inr i, names) = absurd i

  pub child_acyclic : (names : List (List ℕ)) → other ≡ child_component d k names → IsAcyclic (tree_within d (suc m) k) act → IsAcyclic j act
  child_acyclic names is acyclic =
      acyclic_grown d design m k at.within act acyclic
      (all_known (cells_end names is) (outputs_end names is) (λ g past. ending 0 (λ q l. none_mentions (ports.Done g) q (child_silent d design k at.within act names is (ports.Done g) past tt tt) l)))
