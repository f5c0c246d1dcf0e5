-- WHAT A COUNTER'S PORTS ARE SEEN AS: the register shows what it holds, and where its group acts it is enabled with one more at its input.
use Rattle.std.proofs.Common.{◌≡◌, ℕ, suc, ◌+◌, ◌^◌, ◌%◌, Bool, true, false, [], ◌∷◌, Some, None, ap, ◌∙◌}
use Rattle.cx_text.specs.Members.{In}
use Rattle.cx_prim.specs.declared.names.PrimitiveName.TheVariants as primitives
use Rattle.cx_prim.specs.CellStates.{Register}
use Rattle.cx_meaning.specs.declared.ports.PortRef.TheVariants as ports
use Rattle.cx_meaning.specs.declared.sights.Seen.{Seen}
use Rattle.cx_meaning.specs.declared.sights.Seen.TheVariants.{Undefined}
use Rattle.cx_meaning.specs.Designs.{PlainComponent, PlainDesign, component_at}
use Rattle.cx_meaning.specs.Instances.{Instance, OfRow, cell_at, cells_of, State, under, tree_within}
use Rattle.cx_meaning.specs.Active.{Active, if_acting, drivers}
use Rattle.cx_meaning.specs.Sights.{Look, Held, bit_of, of_option, target_seen, cell_step, seen, outputs_below}
use Rattle.cx_meaning.specs.Cycles.{Next, outcome_at, cell_outcome}
use Rattle.cx_meaning.proofs.InstancesLemmas.{literal_is}
use Rattle.cx_rules.specs.Circles.{IsAcyclic, AcyclicBelow}
use Rattle.cx_rules.specs.Ports.{component_of}
use Rattle.cx_rules.specs.Wellformed.{IsDesign}
use Rattle.cx_rules.proofs.FoundLemmas.{seen_solves}
use Rattle.cx_rewrites.specs.Cells.{comes_to}
use Rattle.cx_profiling.specs.Counters.{Counter, counters}
use Rattle.cx_profiling.specs.Instrumented.{with_counts}
use Rattle.cx_profiling.proofs.ListedCells.{at_row}
use Rattle.cx_profiling.proofs.RoleLemmas.{register_there, adder_there}
use Rattle.cx_profiling.proofs.CounterDrives.{Wire, to_left, to_right, to_in, to_enable, wire_target, wire_source, wire, counter_driven}
use Rattle.cx_profiling.proofs.InsideLemmas.{targets_inside}
use Rattle.cx_profiling.proofs.GrownTrees.{InTree, in_reach}
use Rattle.cx_profiling.proofs.RestLemmas.{counter_row}
use Rattle.cx_profiling.proofs.RowLemmas.{number, adder_row, register_counts, register_rests, adder_goes, adder_shows}

module _ (d : PlainDesign) (design : IsDesign d) (m k : ℕ) (at : InTree d (suc m) k) (act : Active) (twin : Held) (t : State)
    (acyclic : IsAcyclic (tree_within (with_counts d) (suc m) k) act) (deeper : AcyclicBelow (cells_of (tree_within (with_counts d) (suc m) k)))
    (x : Counter) (i : In (counters (component_of d k)) x) where
  abbrev other : PlainComponent
  other = component_at (with_counts d) k

  abbrev j : Instance
  j = tree_within (with_counts d) (suc m) k

  abbrev r : ℕ
  r = x.register

  abbrev look : Look
  look = seen j twin act t

  pub at_register : cell_at (cells_of j) r ≡ OfRow counter_row
  at_register = let c = register_there d k at.within (in_reach d at) x i in at_row (tree_within (with_counts d) m) other.cells r c.0 (record { name = primitives.Reg; numbers = 64 ∷ [] }) c.1 c.2

  pub at_adder : cell_at (cells_of j) (suc r) ≡ OfRow adder_row
  at_adder = let c = adder_there d k at.within (in_reach d at) x i in at_row (tree_within (with_counts d) m) other.cells (suc r) c.0 (record { name = primitives.Add; numbers = 64 ∷ [] }) c.1 c.2

  solved : (c p : ℕ) → look (ports.Cell c p) ≡ cell_step other act t look (outputs_below (cells_of j) (λ e. under e t)) c p (cell_at (cells_of j) c)
  solved c p = seen_solves j twin act t acyclic deeper (ports.Cell c p)

  driven : (w : Wire) → drivers other act (wire_target w r) ≡ if_acting (act.offset x.group) (wire (component_at d k).place w r) []
  driven w = counter_driven d k at.within (in_reach d at) (λ o y. targets_inside d design k at.within o y) act w x i

  -- the one assignment, where the group acts, and none where it does not
  acting_target : (undriven : Seen) (o : ℕ) (w : Wire) → act.offset x.group ≡ Some o → target_seen undriven look (drivers other act (wire_target w r)) ≡ look (wire_source w r)
  acting_target undriven o w e = ap (target_seen undriven look) (driven w ∙ ap (λ n. if_acting n (wire (component_at d k).place w r) []) e)

  silent_target : (undriven : Seen) (w : Wire) → act.offset x.group ≡ None → target_seen undriven look (drivers other act (wire_target w r)) ≡ undriven
  silent_target undriven w e = ap (target_seen undriven look) (driven w ∙ ap (λ n. if_acting n (wire (component_at d k).place w r) []) e)

  module _ (value : ℕ) (done : Bool) (holds : t (r ∷ []) ≡ Register value done) where
    pub register_shows : look (ports.Cell r 2) ≡ number 64 value
    register_shows =
        solved r 2 ∙ ap (cell_step other act t look (outputs_below (cells_of j) (λ e. under e t)) r 2) at_register ∙ ap (λ state. of_option (counter_row.output state [] 2)) holds

    left_shows : (o : ℕ) → act.offset x.group ≡ Some o → look (ports.Cell (suc r) 0) ≡ number 64 value
    left_shows o e = solved (suc r) 0 ∙ ap (cell_step other act t look (outputs_below (cells_of j) (λ e. under e t)) (suc r) 0) at_adder ∙ acting_target Undefined o to_left e ∙ register_shows

    right_shows : (o : ℕ) → act.offset x.group ≡ Some o → look (ports.Cell (suc r) 1) ≡ number 64 1
    right_shows o e = solved (suc r) 1 ∙ ap (cell_step other act t look (outputs_below (cells_of j) (λ e. under e t)) (suc r) 1) at_adder ∙ acting_target Undefined o to_right e ∙ literal_is j twin act t 64 1

    sum_shows : (o : ℕ) → act.offset x.group ≡ Some o → look (ports.Cell (suc r) 2) ≡ number 64 ((value + 1) % 2 ^ 64)
    sum_shows o e =
        solved (suc r) 2 ∙ ap (cell_step other act t look (outputs_below (cells_of j) (λ e. under e t)) (suc r) 2) at_adder
        ∙ adder_shows (λ q. look (ports.Cell (suc r) q)) (t (suc r ∷ [])) value 1 (left_shows o e) (right_shows o e)

    in_shows : (o : ℕ) → act.offset x.group ≡ Some o → look (ports.Cell r 0) ≡ number 64 ((value + 1) % 2 ^ 64)
    in_shows o e = solved r 0 ∙ ap (cell_step other act t look (outputs_below (cells_of j) (λ e. under e t)) r 0) at_register ∙ acting_target Undefined o to_in e ∙ sum_shows o e

    enable_shows : (o : ℕ) → act.offset x.group ≡ Some o → look (ports.Cell r 1) ≡ number 1 1
    enable_shows o e = solved r 1 ∙ ap (cell_step other act t look (outputs_below (cells_of j) (λ e. under e t)) r 1) at_register ∙ acting_target (bit_of false) o to_enable e ∙ literal_is j twin act t 1 1

    enable_rests : act.offset x.group ≡ None → look (ports.Cell r 1) ≡ bit_of false
    enable_rests e = solved r 1 ∙ ap (cell_step other act t look (outputs_below (cells_of j) (λ e. under e t)) r 1) at_register ∙ silent_target (bit_of false) to_enable e

    -- WHAT THE REGISTER COMES TO
    pub register_acts : (o : ℕ) → act.offset x.group ≡ Some o → comes_to j twin act t r ≡ Next (Register ((value + 1) % 2 ^ 64) true)
    register_acts o e =
        ap (λ c. outcome_at look r c (t (r ∷ []))) at_register ∙ ap (cell_outcome look r counter_row) holds
        ∙ register_counts look r value ((value + 1) % 2 ^ 64) done (enable_shows o e) (in_shows o e)

    pub register_idles : act.offset x.group ≡ None → comes_to j twin act t r ≡ Next (Register value false)
    register_idles e = ap (λ c. outcome_at look r c (t (r ∷ []))) at_register ∙ ap (cell_outcome look r counter_row) holds ∙ register_rests look r value done (enable_rests e)

  pub adder_next : comes_to j twin act t (suc r) ≡ Next (t (suc r ∷ []))
  adder_next = ap (λ c. outcome_at look (suc r) c (t (suc r ∷ []))) at_adder ∙ adder_goes look (suc r) (t (suc r ∷ []))
