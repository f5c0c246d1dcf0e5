-- Where nothing leads in a circle each port is seen as what `seen` finds.
use Rattle.std.proofs.Common.{◌≡◌, ℕ, zero, suc, ◌+◌, ◌≤◌, ◌<◌, Bool, true, false, inl, inr, ◌⊎◌, ⊎_elim, List, [], ◌∷◌, length, map, Option, Some, None, nat_eq, refl, sym, ap, ◌∙◌, subst, arith}
use Rattle.std.proofs.lemmas.Bool.{eqb-true}
use Rattle.cx_text.proofs.MemberLaws.{in_either, in_left, in_right}
use Rattle.cx_text.specs.Members.{In}
use Rattle.cx_prim.specs.declared.ports.Side.{Side}
use Rattle.cx_prim.specs.declared.ports.Side.TheVariants as sides
use Rattle.cx_prim.specs.Rows.{Row}
use Rattle.cx_meaning.specs.declared.ports.PortRef.{PortRef}
use Rattle.cx_meaning.specs.declared.ports.PortRef.TheVariants as ports
use Rattle.cx_meaning.specs.Rows.{side_of}
use Rattle.cx_meaning.specs.Designs.{PlainAssign, PlainComponent, All, Always, Any, Atom, Compared, Negation, PlainGuard, PlainGuards, Within, a_guard, no_guards}
use Rattle.cx_meaning.specs.Instances.{Instance, Node, Cells, no_cells, a_primitive, an_instance, At, Nothing, OfRow, OfInstance, part_of, cells_of, cell_at, State, under}
use Rattle.cx_meaning.specs.Active.{Active, nothing, Acting, Owned, source_order, offset_of, if_acting, if_target, acting, same_port, drivers}
use Rattle.cx_meaning.specs.Truths.{Truth, One, Zero}
use Rattle.cx_meaning.specs.Truths as truths
use Rattle.cx_meaning.specs.Sights.{Look, Below, Held, unheld, guard_truth, Taken, Sources, Stopped, take_guard, taken, PartPort, Go, AnInput, AnOutput, ItsDone, part_port, step, IsTaken, TargetNeeds, SideNeeds, PartNeeds, CellNeeds, Needs, Sees, by_step, approach, steps_enough, numbered, ports_of_cells, ports_of, seen, outputs_below, AnyNames, GuardNames}
use Rattle.cx_meaning.proofs.SightsLemmas.{one_sight}
use Rattle.cx_rules.specs.Footprints.{Mentions, SideLeads, PartLeads, CellLeads, Leads, Depends, at_once, AssignNames}
use Rattle.cx_rules.specs.Circles.{IsAcyclic, AreAcyclic, AcyclicBelow}
use Rattle.cx_rules.proofs.Finite.{Distinct, distinct_few}
use Rattle.cx_rules.proofs.CircleLemmas.{depends_then}
use Rattle.cx_text.proofs.BoolLaws.{and_both}
use Rattle.cx_meaning.proofs.InstancesLemmas.{instance_is, row_is, instance_row, row_instance, nothing_instance, nothing_row}
use Rattle.cx_meaning.proofs.RowsLemmas.{side_below}
use Rattle.cx_meaning.specs.declared.ports.PlacedPort.{PlacedPort}
use Rattle.cx_rules.specs.Items.{sources_of, operands_in, operands_of}

-- what a step needs leads to the port
abbrev IsSource : List Acting → PortRef → Type 0
IsSource acts q = (a : Acting) × In acts a × (a.assign.source.port ≡ q)

later_source : (a : Acting) (acts : List Acting) (q : PortRef) → IsSource acts q → IsSource (a ∷ acts) q
later_source a acts q (b, i, e) = (b, inr i, e)

one_source : (x : Truth) (t : Taken) (a : Acting) (acts : List Acting) (q : PortRef) → (IsTaken t q → IsSource acts q) → IsTaken (take_guard x a.assign.source.port t) q → IsSource (a ∷ acts) q
one_source Zero t a acts q h i = later_source a acts q (h i)
one_source One (Sources ss) a acts q h (inl e) = (a, inl refl, e)
one_source One (Sources ss) a acts q h (inr i) = later_source a acts q (h i)
one_source One (Stopped y) a acts q h i = absurd i
one_source truths.Conflict t a acts q h i = absurd i
one_source truths.Undefined t a acts q h i = absurd i

source_of : (look : Look) (acts : List Acting) (q : PortRef) → IsTaken (taken look acts) q → IsSource acts q
source_of look [] q i = absurd i
source_of look (a ∷ acts) q i = one_source (guard_truth look a.offset a.assign.guard) (taken look acts) a acts q (source_of look acts q) i

target_mentions : (look : Look) (acts : List Acting) (q : PortRef) → TargetNeeds look acts q → Mentions acts q
target_mentions look acts q (inl (a, i, n)) = (a, i, inl n)
target_mentions look acts q (inr n) = let r = source_of look acts q n in (r.0, r.1, inr r.2)

module _ (part : PlainComponent) (act : Active) (look : Look) where
  side_leads : (row : Row) (c p : ℕ) (side : Side) (q : PortRef) → SideNeeds part act look row c p side q → SideLeads part act row c p side q
  side_leads row c p sides.Enable q n = target_mentions look (drivers part act (ports.Cell c p)) q n
  side_leads row c p sides.Plain q n = target_mentions look (drivers part act (ports.Cell c p)) q n
  side_leads row c p sides.Output q n = n
  side_leads row c p sides.Registered q n = n

  part_leads : (c p : ℕ) (port : PartPort) (q : PortRef) → PartNeeds part act look c p port q → PartLeads part act c p port q
  part_leads c p Go q n = target_mentions look (drivers part act (ports.Cell c p)) q n
  part_leads c p (AnInput m) q n = target_mentions look (drivers part act (ports.Cell c p)) q n
  part_leads c p (AnOutput m) q n = n
  part_leads c p ItsDone q n = n

  cell_leads : (c p : ℕ) (at : At) (q : PortRef) → CellNeeds part act look c p at q → CellLeads part act c p at q
  cell_leads c p Nothing q n = n
  cell_leads c p (OfRow row) q n = side_leads row c p (side_of row p) q n
  cell_leads c p (OfInstance child) q n = part_leads c p (part_port (part_of child) p) q n

pub needs_leads : (i : Instance) (act : Active) (look : Look) (p q : PortRef) → Needs i act look p q → Leads i act p q
needs_leads i act look (ports.Cell c p) q n = cell_leads (part_of i) act look c p (cell_at (cells_of i) c) q n
needs_leads i act look (ports.Input m) q n = n
needs_leads i act look (ports.Output m) q n = target_mentions look (drivers (part_of i) act (ports.Output m)) q n
needs_leads i act look (ports.Done g) q n = target_mentions look (drivers (part_of i) act (ports.Done g)) q n
needs_leads i act look (ports.Literal w v) q n = n

pub same_is : (p q : PortRef) → same_port p q ≡ true → p ≡ q
same_is (ports.Cell c p) (ports.Cell d q) e =
    let b = and_both (nat_eq c d) (nat_eq p q) e in
    ap (λ k. ports.Cell k p) (eqb-true c d b.0) ∙ ap (ports.Cell d) (eqb-true p q b.1)
same_is (ports.Input i) (ports.Input j) e = ap ports.Input (eqb-true i j e)
same_is (ports.Output i) (ports.Output j) e = ap ports.Output (eqb-true i j e)
same_is (ports.Done g) (ports.Done h) e = ap ports.Done (eqb-true g h e)
same_is (ports.Literal w v) (ports.Literal x u) e =
    let b = and_both (nat_eq w x) (nat_eq v u) e in
    ap (λ k. ports.Literal k v) (eqb-true w x b.0) ∙ ap (ports.Literal x) (eqb-true v u b.1)
same_is _ _ e = absurd (cc)

if_acting_in : (o : Option ℕ) (assign : PlainAssign) (rest : List Acting) (a : Acting) → In (if_acting o assign rest) a → (a.assign ≡ assign) ⊎ In rest a
if_acting_in None assign rest a i = inr i
if_acting_in (Some k) assign rest a (inl e) = inl (ap (λ x. x.assign) (sym e))
if_acting_in (Some k) assign rest a (inr i) = inr i

if_target_in : (b : Bool) (act : Active) (o : Owned) (rest : List Acting) (a : Acting) → In (if_target b act o rest) a → ((b ≡ true) × (a.assign ≡ o.assign)) ⊎ In rest a
if_target_in true act o rest a i = ⊎_elim (λ e. inl (refl, e)) inr (if_acting_in (offset_of act o.owner) o.assign rest a i)
if_target_in false act o rest a i = inr i

-- an active assignment of a port is one of the component's, and its target is the port
pub acting_in : (act : Active) (p : PortRef) (list : List Owned) (a : Acting) → In (acting act p list) a → (o : Owned) × In list o × (a.assign ≡ o.assign) × (o.assign.target ≡ p)
acting_in act p [] a i = absurd i
acting_in act p (o ∷ rest) a i =
    ⊎_elim
    (λ h. (o, inl refl, h.1, same_is o.assign.target p h.0))
    (λ j. let r = acting_in act p rest a j in (r.0, inr r.1, r.2, r.3))
    (if_target_in (same_port o.assign.target p) act o (acting act p rest) a i)

pub target_in : (list : List Owned) (o : Owned) (p : PortRef) → In list o → o.assign.target ≡ p → In (map (λ x. x.assign.target) list) p
target_in [] o p i e = absurd i
target_in (x ∷ rest) o p (inl f) e = inl (ap (λ y. y.assign.target) f ∙ e)
target_in (x ∷ rest) o p (inr i) e = inr (target_in rest o p i e)

mentioned_real : (i : Instance) (act : Active) (p q : PortRef) → Mentions (drivers (part_of i) act p) q → In (ports_of i) p
mentioned_real i act p q (a, j, n) =
    let r = acting_in act p (source_order (part_of i)) a j in
    in_right (ports_of_cells (cells_of i) 0) _ p (target_in (source_order (part_of i)) r.0 p r.1 r.3)

numbered_in : (c n p : ℕ) → p < n → In (numbered c n) (ports.Cell c p)
numbered_in c zero p h = absurd (omega arith)
numbered_in c (suc n) p h = ⊎_elim (λ e. inl (ap (ports.Cell c) (sym e))) (λ lt. inr (numbered_in c n p lt)) (split p n h)
  where
    split : (p n : ℕ) → p < suc n → (p ≡ n) ⊎ (p < n)
    split zero zero h = inl refl
    split zero (suc n) h = inr (omega arith)
    split (suc p) zero h = absurd (omega arith)
    split (suc p) (suc n) h = ⊎_elim (λ e. inl (ap suc e)) (λ lt. inr (omega arith)) (split p n (omega arith))

cells_in : (cells : Cells) (k c p : ℕ) (row : Row) → cell_at cells c ≡ OfRow row → p < length row.ports → In (ports_of_cells cells k) (ports.Cell (k + c) p)
cells_in no_cells k c p row e h = absurd (nothing_row row e)
cells_in (a_primitive r rest) k zero p row e h =
    let same : k ≡ k + 0 = omega arith in
    in_left (numbered k (length r.ports)) (ports_of_cells rest (suc k)) _
    (subst (λ j. In (numbered k (length r.ports)) (ports.Cell j p)) same (numbered_in k (length r.ports) p (subst (λ x. p < length x.ports) (sym (row_is r row e)) h)))
cells_in (a_primitive r rest) k (suc c) p row e h =
    let same : suc k + c ≡ k + suc c = omega arith in
    in_right (numbered k (length r.ports)) (ports_of_cells rest (suc k)) _ (subst (λ j. In (ports_of_cells rest (suc k)) (ports.Cell j p)) same (cells_in rest (suc k) c p row e h))
cells_in (an_instance child rest) k zero p row e h = absurd (instance_row child row e)
cells_in (an_instance child rest) k (suc c) p row e h =
    let same : suc k + c ≡ k + suc c = omega arith in
    subst (λ j. In (ports_of_cells rest (suc k)) (ports.Cell j p)) same (cells_in rest (suc k) c p row e h)

module _ (i : Instance) (act : Active) where
  side_real : (row : Row) (c p : ℕ) (side : Side) (q : PortRef) → cell_at (cells_of i) c ≡ OfRow row → side_of row p ≡ side → SideLeads (part_of i) act row c p side q → In (ports_of i) (ports.Cell c p)
  side_real row c p sides.Enable q e f l = mentioned_real i act (ports.Cell c p) q l
  side_real row c p sides.Plain q e f l = mentioned_real i act (ports.Cell c p) q l
  side_real row c p sides.Output q e f l =
      let same : 0 + c ≡ c = omega arith in
      in_left (ports_of_cells (cells_of i) 0) _ _ (subst (λ j. In (ports_of_cells (cells_of i) 0) (ports.Cell j p)) same (cells_in (cells_of i) 0 c p row e (side_below row.ports p f)))
  side_real row c p sides.Registered q e f l = absurd l

  part_real : (c p : ℕ) (port : PartPort) (q : PortRef) → PartLeads (part_of i) act c p port q → In (ports_of i) (ports.Cell c p)
  part_real c p Go q l = mentioned_real i act (ports.Cell c p) q l
  part_real c p (AnInput n) q l = mentioned_real i act (ports.Cell c p) q l
  part_real c p (AnOutput n) q l = absurd l
  part_real c p ItsDone q l = absurd l

  cell_real : (c p : ℕ) (at : At) (q : PortRef) → cell_at (cells_of i) c ≡ at → CellLeads (part_of i) act c p at q → In (ports_of i) (ports.Cell c p)
  cell_real c p Nothing q e l = absurd l
  cell_real c p (OfRow row) q e l = side_real row c p (side_of row p) q e refl l
  cell_real c p (OfInstance child) q e l = part_real c p (part_port (part_of child) p) q l

  -- a port that leads on is one of those of the instance
  pub leads_real : (p q : PortRef) → Leads i act p q → In (ports_of i) p
  leads_real (ports.Cell c p) q l = cell_real c p (cell_at (cells_of i) c) q refl l
  leads_real (ports.Input n) q l = absurd l
  leads_real (ports.Output n) q l = mentioned_real i act (ports.Output n) q l
  leads_real (ports.Done g) q l = mentioned_real i act (ports.Done g) q l
  leads_real (ports.Literal w v) q l = absurd l

  -- steps that are enough: with the ports that depend on this one, all different, there are more than all
  module _ (acyclic : IsAcyclic i act) (held : Held) (s : State) (below : Below)
      (children : (c n : ℕ) (child : Instance) → cell_at (cells_of i) c ≡ OfInstance child → Sees child unheld nothing (under c s) (ports.Output n) (below c n)) where
    enough : (n : ℕ) (p : PortRef) (above : List PortRef) → Distinct above → ((v : PortRef) → In above v → In (ports_of i) v) → ((v : PortRef) → In above v → Depends i act v p)
        → length (ports_of i) < n + length above → Sees i held act s p (approach i held act s below n p)
    enough zero p above distinct real depends h = absurd (let few : length above ≤ length (ports_of i) = distinct_few above (ports_of i) distinct real in omega arith)
    enough (suc n) p above distinct real depends h =
        by_step (approach i held act s below n) below
        (λ q need. let l : Leads i act p q = needs_leads i act (approach i held act s below n) p q need in
        enough n q (p ∷ above)
        ((λ j. acyclic (p, depends p j)), distinct)
        (λ v j. ⊎_elim (λ e. subst (λ x. In (ports_of i) x) e (leads_real p q l)) (λ k. real v k) j)
        (λ v j. ⊎_elim (λ e. subst (λ x. Depends i act x q) e (at_once l)) (λ k. depends_then (depends v k) l) j)
        (longer n (length above) h))
        (λ c port m child e at. children c m child at)
        refl
      where
        longer : (n k : ℕ) → length (ports_of i) < suc n + k → length (ports_of i) < n + suc k
        longer n k h = omega arith

    pub found : (p : PortRef) → Sees i held act s p (approach i held act s below (steps_enough i) p)
    found p = enough (steps_enough i) p [] tt (λ v j. absurd j) (λ v j. absurd j) (omega arith)

    -- and so is every look that is right
    pub solved : (look : Look) → ((q : PortRef) → Sees i held act s q (look q)) → (p : PortRef) → look p ≡ step i held act s look below p
    solved look right p = one_sight (right p) (by_step look below (λ q need. right q) (λ c port m child e at. children c m child at) refl)

-- in an instance tree in which nothing leads in a circle
mutual
  pub seen_found : (i : Instance) (held : Held) (act : Active) (s : State) → IsAcyclic i act → AcyclicBelow (cells_of i) → (p : PortRef) → Sees i held act s p (seen i held act s p)
  seen_found (Node part cells) held act s acyclic deeper p = found (Node part cells) act acyclic held s (outputs_below cells (λ c. under c s)) (below_found cells (λ c. under c s) deeper) p

  pub below_found : (cells : Cells) (states : ℕ → State) → AcyclicBelow cells → (c n : ℕ) (child : Instance) → cell_at cells c ≡ OfInstance child → Sees child unheld nothing (states c) (ports.Output n) (outputs_below cells states c n)
  below_found no_cells states deeper c n child e = absurd (nothing_instance child e)
  below_found (a_primitive row rest) states deeper zero n child e = absurd (row_instance row child e)
  below_found (a_primitive row rest) states deeper (suc c) n child e = below_found rest (λ k. states (suc k)) deeper c n child e
  below_found (an_instance i rest) states (acyclic, deeper) zero n child e =
      subst (λ x. Sees x unheld nothing (states 0) (ports.Output n) (seen i unheld nothing (states 0) (ports.Output n))) (instance_is i child e) (seen_whole i acyclic unheld (states 0) (ports.Output n))
  below_found (an_instance i rest) states (acyclic, deeper) (suc c) n child e = below_found rest (λ k. states (suc k)) deeper c n child e

  seen_whole : (i : Instance) → AreAcyclic i → (held : Held) (s : State) (p : PortRef) → Sees i held nothing s p (seen i held nothing s p)
  seen_whole (Node part cells) (acyclic, deeper) held s p = found (Node part cells) nothing acyclic held s (outputs_below cells (λ c. under c s)) (below_found cells (λ c. under c s) deeper) p

-- what is found solves the steps
pub seen_solves : (i : Instance) (held : Held) (act : Active) (s : State) → IsAcyclic i act → AcyclicBelow (cells_of i) → (p : PortRef) → seen i held act s p ≡ step i held act s (seen i held act s) (outputs_below (cells_of i) (λ c. under c s)) p
seen_solves (Node part cells) held act s acyclic deeper p =
    solved (Node part cells) act acyclic held s (outputs_below cells (λ c. under c s)) (below_found cells (λ c. under c s) deeper) (seen (Node part cells) held act s) (seen_found (Node part cells) held act s acyclic deeper) p

-- what a guard names is among its operands
mutual
  pub guard_operand : (g : PlainGuard) (q : PortRef) → GuardNames g q → (p : PlacedPort) × In (operands_of g) p × (p.port ≡ q)
  guard_operand Always q n = absurd n
  guard_operand (Atom p) q n = (p, inl refl, n)
  guard_operand (Negation g) q n = guard_operand g q n
  guard_operand (All gs) q n = guards_operand gs q n
  guard_operand (Any gs) q n = guards_operand gs q n
  guard_operand (Compared c a b) q (inl e) = (a, inl refl, e)
  guard_operand (Compared c a b) q (inr e) = (b, inr (inl refl), e)
  guard_operand (Within from to) q n = absurd n

  guards_operand : (gs : PlainGuards) (q : PortRef) → AnyNames gs q → (p : PlacedPort) × In (operands_in gs) p × (p.port ≡ q)
  guards_operand no_guards q n = absurd n
  guards_operand (a_guard g gs) q (inl n) = let r = guard_operand g q n in (r.0, in_left (operands_of g) (operands_in gs) r.0 r.1, r.2)
  guards_operand (a_guard g gs) q (inr n) = let r = guards_operand gs q n in (r.0, in_right (operands_of g) (operands_in gs) r.0 r.1, r.2)

-- and each operand is named
mutual
  pub operand_named : (g : PlainGuard) (p : PlacedPort) → In (operands_of g) p → GuardNames g p.port
  operand_named Always p i = absurd i
  operand_named (Atom x) p (inl e) = ap (λ (y : PlacedPort). y.port) e
  operand_named (Atom x) p (inr i) = absurd i
  operand_named (Negation g) p i = operand_named g p i
  operand_named (All gs) p i = operands_named gs p i
  operand_named (Any gs) p i = operands_named gs p i
  operand_named (Compared c a b) p (inl e) = inl (ap (λ (y : PlacedPort). y.port) e)
  operand_named (Compared c a b) p (inr (inl e)) = inr (ap (λ (y : PlacedPort). y.port) e)
  operand_named (Compared c a b) p (inr (inr i)) = absurd i
  operand_named (Within from to) p i = absurd i

  operands_named : (gs : PlainGuards) (p : PlacedPort) → In (operands_in gs) p → AnyNames gs p.port
  operands_named no_guards p i = absurd i
  operands_named (a_guard g gs) p i = ⊎_elim (λ j. inl (operand_named g p j)) (λ j. inr (operands_named gs p j)) (in_either (operands_of g) (operands_in gs) p i)

pub source_in : (a : PlainAssign) (q : PortRef) → AssignNames a q → (p : PlacedPort) × In (sources_of a) p × (p.port ≡ q)
source_in a q (inl n) = let r = guard_operand a.guard q n in (r.0, inr r.1, r.2)
source_in a q (inr e) = (a.source, inl refl, e)

pub source_named : (a : PlainAssign) (p : PlacedPort) → In (sources_of a) p → AssignNames a p.port
source_named a p (inl e) = inr (ap (λ (x : PlacedPort). x.port) e)
source_named a p (inr i) = inl (operand_named a.guard p i)
