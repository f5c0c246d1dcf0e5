-- WHAT STAYS: where no promoted group is active, ports are seen alike in both designs and cycles are the same.
use Rattle.std.proofs.Common.{◌≡◌, ℕ, zero, suc, [], ◌∷◌, length, None, refl, sym, ap, ◌∙◌, subst}
use Rattle.std.proofs.Math.Path.{fun_ext}
use Rattle.cx_prim.specs.declared.ports.Side.{Side}
use Rattle.cx_prim.specs.declared.ports.Side.TheVariants as sides
use Rattle.cx_prim.specs.Rows.{Row}
use Rattle.cx_meaning.specs.declared.ports.PortRef.{PortRef}
use Rattle.cx_meaning.specs.declared.ports.PortRef.TheVariants as ports
use Rattle.cx_meaning.specs.declared.sights.Seen.{Seen}
use Rattle.cx_meaning.specs.Rows.{side_of}
use Rattle.cx_meaning.specs.Designs.{PlainComponent}
use Rattle.cx_meaning.specs.Instances.{Instance, Node, Cells, no_cells, a_primitive, an_instance, At, Nothing, OfRow, OfInstance, part_of, cells_of, cell_at, cell_count, State, under}
use Rattle.cx_meaning.specs.Active.{Active, nothing, drivers}
use Rattle.cx_meaning.specs.Sights.{Look, Held, unheld, Sees, PartPort, Go, AnInput, AnOutput, ItsDone, later_port, part_port, target_seen, seen, outputs_below}
use Rattle.cx_meaning.specs.Cycles.{Outcome, outcome_at, outcome_of, ended, every_cell, cycle_by, cycle}
use Rattle.cx_meaning.proofs.InstancesLemmas.{instance_is}
use Rattle.cx_meaning.proofs.SightsLemmas.{one_sight}
use Rattle.cx_rules.specs.Circles.{IsAcyclic, AreAcyclic, AcyclicBelow}
use Rattle.cx_rules.specs.Footprints.{Mentions, SideLeads, PartLeads, CellLeads, Leads, Depends, at_once, by_way_of}
use Rattle.cx_rules.proofs.CirclesLemmas.{cells_below, own_acyclic}
use Rattle.cx_rules.proofs.FoundLemmas.{seen_found}
use Rattle.cx_promotion.specs.Made.{IsPromoted, PartMade}
use Rattle.cx_promotion.proofs.Orders.{acting_stays}
use Rattle.cx_promotion.proofs.SeenAlike.{SameCell, seen_inside}
use Rattle.cx_promotion.proofs.Twins.{Twins, TwinCells, beside_each, twin_cells, TwinAt, none_there, a_row_there, a_child_there, twins_at, cell_count-twin}
use Rattle.cx_promotion.proofs.MadeBeside.{MadeBeside}

-- no promoted group is active
abbrev pub IsIdle : (i j : Instance) → MadeBeside i j → Active → Type 0
IsIdle i j h act = (g : ℕ) → IsPromoted h.whole (part_of i) (part_of j) g → act.offset g ≡ None

-- ports of children are numbered alike
pub part_port-made : (whole : Instance) (part other : PlainComponent) → PartMade whole part other → (p : ℕ) → part_port part p ≡ part_port other p
part_port-made whole part other made zero = refl
part_port-made whole part other made (suc n) = ap (λ list. later_port (length list) (length part.outputs) n) made.inputs ∙ ap (λ list. later_port (length other.inputs) (length list) n) made.outputs

pub child_ports : (i j : Instance) → Twins MadeBeside i j → (p : ℕ) → part_port (part_of i) p ≡ part_port (part_of j) p
child_ports i j t p = let h = beside_each MadeBeside i j t in part_port-made h.whole (part_of i) (part_of j) h.made p

same_cell : (at twin : At) → TwinAt MadeBeside at twin → SameCell at twin
same_cell at twin none_there = tt
same_cell at twin a_row_there = refl
same_cell at twin (a_child_there {child = child} {twin = other} t) = child_ports child other t

pub same_cells : (i j : Instance) → Twins MadeBeside i j → (c : ℕ) → SameCell (cell_at (cells_of i) c) (cell_at (cells_of j) c)
same_cells i j t c = same_cell (cell_at (cells_of i) c) (cell_at (cells_of j) c) (twins_at MadeBeside (cells_of i) (cells_of j) (twin_cells MadeBeside i j t) c)

-- A CIRCLE COMES BACK, where what leads on does so in the old instance
module _ (i j : Instance) (act more : Active) (back : (p q : PortRef) → Leads j more p q → Leads i act p q) where
  pub depends_back : {p q : PortRef} → Depends j more p q → Depends i act p q
  depends_back {p} {q} (at_once l) = at_once (back p q l)
  depends_back {p} {q} (by_way_of r l d) = by_way_of r (back p r l) (depends_back d)

  pub circle_back : IsAcyclic i act → IsAcyclic j more
  circle_back acyclic (p, circle) = acyclic (p, depends_back circle)

module _ (i j : Instance) (act more : Active) (cells : (c : ℕ) → SameCell (cell_at (cells_of i) c) (cell_at (cells_of j) c))
    (mentions : (p q : PortRef) → Mentions (drivers (part_of j) more p) q → Mentions (drivers (part_of i) act p) q) where
  side_back : (row : Row) (c p : ℕ) (q : PortRef) (side : Side) → SideLeads (part_of j) more row c p side q → SideLeads (part_of i) act row c p side q
  side_back row c p q sides.Enable l = mentions (ports.Cell c p) q l
  side_back row c p q sides.Plain l = mentions (ports.Cell c p) q l
  side_back row c p q sides.Output l = l
  side_back row c p q sides.Registered l = l

  part_back : (c p : ℕ) (q : PortRef) (port : PartPort) → PartLeads (part_of j) more c p port q → PartLeads (part_of i) act c p port q
  part_back c p q Go l = mentions (ports.Cell c p) q l
  part_back c p q (AnInput n) l = mentions (ports.Cell c p) q l
  part_back c p q (AnOutput n) l = l
  part_back c p q ItsDone l = l

  cell_back : (c p : ℕ) (q : PortRef) (at twin : At) → SameCell at twin → CellLeads (part_of j) more c p twin q → CellLeads (part_of i) act c p at q
  cell_back c p q Nothing Nothing same l = l
  cell_back c p q (OfRow row) (OfRow twin) same l = subst (λ (r : Row). SideLeads (part_of i) act r c p (side_of r p) q) (sym same) (side_back twin c p q (side_of twin p) l)
  cell_back c p q (OfInstance child) (OfInstance twin) same l =
      subst (λ port. PartLeads (part_of i) act c p port q) (sym (same p)) (part_back c p q (part_port (part_of twin) p) l)
  cell_back c p q _ _ same l = absurd same

  pub leads_back : (p q : PortRef) → Leads j more p q → Leads i act p q
  leads_back (ports.Cell c p) q l = cell_back c p q (cell_at (cells_of i) c) (cell_at (cells_of j) c) (cells c) l
  leads_back (ports.Input n) q l = l
  leads_back (ports.Output n) q l = mentions (ports.Output n) q l
  leads_back (ports.Done g) q l = mentions (ports.Done g) q l
  leads_back (ports.Literal w v) q l = l

module _ (i j : Instance) (t : Twins MadeBeside i j) (act : Active) (idle : IsIdle i j (beside_each MadeBeside i j t) act) where
  abbrev h : MadeBeside i j
  h = beside_each MadeBeside i j t

  -- the drivers of a port are the same
  pub drivers_stay : (p : PortRef) → drivers (part_of j) act p ≡ drivers (part_of i) act p
  drivers_stay p = acting_stays h.whole (IsPromoted h.whole (part_of i) (part_of j)) act p idle h.made.order

  pub acyclic_stays : IsAcyclic i act → IsAcyclic j act
  acyclic_stays acyclic = circle_back i j act act (leads_back i j act act (same_cells i j t) (λ p q m. subst (λ acts. Mentions acts q) (drivers_stay p) m)) acyclic

mutual
  pub still_acyclic : (i j : Instance) → Twins MadeBeside i j → AreAcyclic j
  still_acyclic (Node part cells) (Node other more) (h, hs) =
      (acyclic_stays (Node part cells) (Node other more) (h, hs) nothing (λ g is. refl) (own_acyclic (Node part cells) h.acyclic), still_below cells more hs)

  still_below : (cells more : Cells) → TwinCells MadeBeside cells more → AcyclicBelow more
  still_below no_cells no_cells h = tt
  still_below no_cells (a_primitive twin more) h = absurd h
  still_below no_cells (an_instance twin more) h = absurd h
  still_below (a_primitive row rest) no_cells h = absurd h
  still_below (a_primitive row rest) (a_primitive twin more) (e, h) = still_below rest more h
  still_below (a_primitive row rest) (an_instance twin more) h = absurd h
  still_below (an_instance child rest) no_cells h = absurd h
  still_below (an_instance child rest) (a_primitive twin more) h = absurd h
  still_below (an_instance child rest) (an_instance twin more) (t, h) = (still_acyclic child twin t, still_below rest more h)

pub deeper : (i j : Instance) → Twins MadeBeside i j → AcyclicBelow (cells_of i)
deeper i j t = cells_below i (beside_each MadeBeside i j t).acyclic

pub still_deeper : (i j : Instance) → Twins MadeBeside i j → AcyclicBelow (cells_of j)
still_deeper i j t = cells_below j (still_acyclic i j t)

-- WHAT IS SEEN stays
mutual
  pub seen_stays : (i j : Instance) (t : Twins MadeBeside i j) (held : Held) (act : Active) (s : State) → IsIdle i j (beside_each MadeBeside i j t) act → IsAcyclic i act
      → (p : PortRef) → seen j held act s p ≡ seen i held act s p
  seen_stays (Node part cells) (Node other more) (h, hs) held act s idle acyclic p =
      seen_inside (Node part cells) (Node other more) held act act s s (λ q. Unit {0}) (λ q r here leads. tt)
      (λ q here. record {
        target = λ undriven. ap (target_seen undriven (seen (Node other more) held act s)) (sym (drivers_stay (Node part cells) (Node other more) (h, hs) act idle q));
        cells = λ c n is. same_cells (Node part cells) (Node other more) (h, hs) c;
        output = λ c n row inputs is at out. refl;
        dones = λ c n is. refl;
      })
      (children_stay cells more hs (cells_below (Node part cells) h.acyclic) (λ c. under c s))
      acyclic (cells_below (Node part cells) h.acyclic)
      (acyclic_stays (Node part cells) (Node other more) (h, hs) act idle acyclic) (still_below cells more hs) p tt

  pub children_stay : (cells more : Cells) → TwinCells MadeBeside cells more → AcyclicBelow cells → (states : ℕ → State) (c n : ℕ) (child : Instance) (x : Seen) → cell_at cells c ≡ OfInstance child
      → Sees child unheld nothing (states c) (ports.Output n) x → outputs_below more states c n ≡ x
  children_stay no_cells no_cells h below states c n child x at sees = absurd (cc)
  children_stay no_cells (a_primitive twin more) h below states c n child x at sees = absurd h
  children_stay no_cells (an_instance twin more) h below states c n child x at sees = absurd h
  children_stay (a_primitive row rest) no_cells h below states c n child x at sees = absurd h
  children_stay (a_primitive row rest) (a_primitive twin more) (e, h) below states zero n child x at sees = absurd (cc)
  children_stay (a_primitive row rest) (a_primitive twin more) (e, h) below states (suc c) n child x at sees = children_stay rest more h below (λ k. states (suc k)) c n child x at sees
  children_stay (a_primitive row rest) (an_instance twin more) h below states c n child x at sees = absurd h
  children_stay (an_instance kid rest) no_cells h below states c n child x at sees = absurd h
  children_stay (an_instance kid rest) (a_primitive twin more) h below states c n child x at sees = absurd h
  children_stay (an_instance kid rest) (an_instance twin more) (t, h) below states zero n child x at sees =
      seen_stays kid twin t unheld nothing (states 0) (λ g is. refl) (own_acyclic kid below.0) (ports.Output n)
      ∙ one_sight (seen_found kid unheld nothing (states 0) (own_acyclic kid below.0) (cells_below kid below.0) (ports.Output n))
      (subst (λ k. Sees k unheld nothing (states 0) (ports.Output n) x) (sym (instance_is kid child at)) sees)
  children_stay (an_instance kid rest) (an_instance twin more) (t, h) below states (suc c) n child x at sees = children_stay rest more h below.1 (λ k. states (suc k)) c n child x at sees

-- A CYCLE stays
outcome_stays : (look : Look) (c : ℕ) (at twin : At) (s : State) → TwinAt MadeBeside at twin → outcome_at look c twin (s (c ∷ [])) ≡ outcome_at look c at (s (c ∷ []))
outcome_stays look c at twin s none_there = refl
outcome_stays look c at twin s a_row_there = refl
outcome_stays look c at twin s (a_child_there t) = refl

pub cycle_stays : (i j : Instance) (t : Twins MadeBeside i j) (held : Held) (act : Active) (s : State) → IsIdle i j (beside_each MadeBeside i j t) act → IsAcyclic i act
    → cycle j held act s ≡ cycle i held act s
cycle_stays i j t held act s idle acyclic =
    ap (λ look. cycle_by every_cell look (cells_of j) s) (fun_ext (λ p. seen_stays i j t held act s idle acyclic p))
    ∙ ap (λ (outcome : ℕ → Outcome). ended outcome (cell_count (cells_of j)) s)
    (fun_ext (λ c. outcome_stays (seen i held act s) c (cell_at (cells_of i) c) (cell_at (cells_of j) c) s (twins_at MadeBeside (cells_of i) (cells_of j) (twin_cells MadeBeside i j t) c)))
    ∙ ap (λ n. ended (outcome_of every_cell (seen i held act s) (cells_of i) s) n s) (sym (cell_count-twin MadeBeside (cells_of i) (cells_of j) (twin_cells MadeBeside i j t)))
