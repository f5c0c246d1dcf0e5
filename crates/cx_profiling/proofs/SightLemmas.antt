-- WHAT A PORT IS SEEN AS in an instance, its moved port is seen as in the instrumented one.
use Rattle.std.proofs.Common.{◌≡◌, ℕ, suc, false, ◌<◌, [], ◌∷◌, length, Some, slice_get, refl, sym, ap, ◌∙◌, subst}
use Rattle.std.proofs.Math.Path.{fun_ext}
use Rattle.cx_prim.specs.declared.ports.Side.{Side}
use Rattle.cx_prim.specs.declared.ports.Side.TheVariants as sides
use Rattle.cx_prim.specs.Rows.{Row}
use Rattle.cx_meaning.specs.declared.ports.PortRef.{PortRef}
use Rattle.cx_meaning.specs.declared.ports.PortRef.TheVariants as ports
use Rattle.cx_meaning.specs.declared.sights.Seen.{Seen}
use Rattle.cx_meaning.specs.declared.sights.Seen.TheVariants.{Undefined}
use Rattle.cx_meaning.specs.Rows.{side_of}
use Rattle.cx_meaning.specs.Designs.{PlainCell, PlainComponent, PlainDesign, OfComponent, component_at}
use Rattle.cx_meaning.specs.Instances.{Instance, OfRow, cell_at, cells_of, part_of, State, under, tree_within}
use Rattle.cx_meaning.specs.Active.{Active, nothing, drivers}
use Rattle.cx_meaning.specs.Sights.{Look, Below, Held, unheld, bit_of, target_seen, gather, output_seen, of_option, PartPort, Go, AnInput, AnOutput, ItsDone, part_port, side_step, part_step, cell_step, step, Sees, seen, outputs_below}
use Rattle.cx_meaning.proofs.DesignsLemmas.{same_part}
use Rattle.cx_rules.specs.Circles.{IsAcyclic, AcyclicBelow}
use Rattle.cx_rules.specs.Wellformed.{IsDesign}
use Rattle.cx_rules.proofs.FoundLemmas.{seen_solves}
use Rattle.cx_rewrites.specs.Solving.{IsSeenBelow, Solves}
use Rattle.cx_rewrites.proofs.SolvedLemmas.{solved_is_seen, solved_is_found}
use Rattle.cx_rewrites.proofs.MoveLemmas.{driven_alike}
use Rattle.cx_profiling.specs.Counters.{first_gained}
use Rattle.cx_profiling.specs.Instrumented.{moved_in, gained, with_counts}
use Rattle.cx_profiling.proofs.PortLemmas.{IsInside, grown_number}
use Rattle.cx_profiling.proofs.InsideLemmas.{inside_closed}
use Rattle.cx_profiling.proofs.GrownTrees.{InTree}
use Rattle.cx_profiling.proofs.PairLemmas.{drives_moved, CellPair, row_pair, child_pair, pair_at, child_ports}
use Rattle.cx_laws.proofs.TreeLemmas.{output_there}
use Rattle.cx_meaning.proofs.SightsLemmas.{outputs_at}

module _ (d : PlainDesign) (design : IsDesign d) (m k : ℕ) (at : InTree d (suc m) k) where
  -- the outputs that the children had are seen alike
  abbrev pub KidsAlike : State → State → Type 0
  KidsAlike s t = (c : ℕ) (cell : PlainCell) (e : ℕ) → slice_get (component_at d k).cells c ≡ Some cell → cell.kind ≡ OfComponent e → (n : ℕ) (x : Seen) → n < length (component_at d e).outputs
      → Sees (tree_within d m e) unheld nothing (under c s) (ports.Output n) x → seen (tree_within (with_counts d) m e) unheld nothing (under c t) (ports.Output n) ≡ x

  abbrev pub RowsAlike : State → State → Type 0
  RowsAlike s t = (c : ℕ) (row : Row) → cell_at (cells_of (tree_within d (suc m) k)) c ≡ OfRow row → t (c ∷ []) ≡ s (c ∷ [])

  module _ (act : Active) (held twin : Held) (same : (n : ℕ) → n < length (component_at d k).inputs → twin n ≡ held n) (s t : State) (rows : RowsAlike s t) (kids : KidsAlike s t)
      (acyclic : IsAcyclic (tree_within (with_counts d) (suc m) k) act) (deeper : AcyclicBelow (cells_of (tree_within (with_counts d) (suc m) k))) where
    abbrev part : PlainComponent
    part = component_at d k

    abbrev other : PlainComponent
    other = component_at (with_counts d) k

    abbrev mv : PortRef → PortRef
    mv p = moved_in d part p

    abbrev i : Instance
    i = tree_within d (suc m) k

    abbrev j : Instance
    j = tree_within (with_counts d) (suc m) k

    abbrev look : Look
    look = seen j twin act t

    abbrev there : Below
    there = outputs_below (cells_of j) (λ c. under c t)

    abbrev back : Look
    back q = look (mv q)

    driven : (p r : PortRef) (undriven : Seen) → IsInside d part p → mv p ≡ r → target_seen undriven look (drivers other act r) ≡ target_seen undriven back (drivers part act p)
    driven p r undriven here e =
        ap (λ x. target_seen undriven look (drivers other act x)) (sym e) ∙ driven_alike mv i j act act look p undriven (drives_moved d design k at.within act p here)

    side_steps : (below : Below) (row : Row) (c p : ℕ) (side : Side) → ((q : ℕ) → mv (ports.Cell c q) ≡ ports.Cell c q) → IsInside d part (ports.Cell c p) → t (c ∷ []) ≡ s (c ∷ [])
        → side_step other act t look there row c p side ≡ side_step part act s back below row c p side
    side_steps below row c p sides.Enable moved here state = driven (ports.Cell c p) (ports.Cell c p) (bit_of false) here (moved p)
    side_steps below row c p sides.Plain moved here state = driven (ports.Cell c p) (ports.Cell c p) Undefined here (moved p)
    side_steps below row c p sides.Output moved here state =
        ap (λ x. output_seen (λ inputs. row.output x inputs p) (gather (λ q. look (ports.Cell c q)) (row.reads p) 0 row.ports)) state
        ∙ ap (λ f. output_seen (λ inputs. row.output (s (c ∷ [])) inputs p) (gather f (row.reads p) 0 row.ports)) (fun_ext (λ q. ap look (sym (moved q))))
    side_steps below row c p sides.Registered moved here state = ap (λ x. of_option (row.output x [] p)) state

    part_steps : (below : Below) (c p r : ℕ) (port : PartPort) → mv (ports.Cell c p) ≡ ports.Cell c r → IsInside d part (ports.Cell c p) → ((n : ℕ) → port ≡ AnOutput n → there c n ≡ below c n)
        → part_step other act t look there c r port ≡ part_step part act s back below c p port
    part_steps below c p r Go moved here outs = driven (ports.Cell c p) (ports.Cell c r) (bit_of false) here moved
    part_steps below c p r (AnInput n) moved here outs = driven (ports.Cell c p) (ports.Cell c r) Undefined here moved
    part_steps below c p r (AnOutput n) moved here outs = outs n refl
    part_steps below c p r ItsDone moved here outs = refl

    cell_steps : (below : Below) (c p : ℕ) → IsInside d part (ports.Cell c p) → IsSeenBelow i s (ports.Cell c p) below → CellPair d design m k at.within c
        → step j twin act t look there (mv (ports.Cell c p)) ≡ cell_step part act s back below c p (cell_at (cells_of i) c)
    cell_steps below c p here known (row_pair row first second moved) =
        ap (step j twin act t look there) (moved p) ∙ ap (cell_step other act t look there c p) second
        ∙ side_steps below row c p (side_of row p) moved here (rows c row first) ∙ ap (cell_step part act s back below c p) (sym first)
    cell_steps below c p here known (child_pair cell e stands is there_below first second moved) =
        ap (step j twin act t look there) (moved p) ∙ ap (cell_step other act t look there c (grown_number d (first_gained (component_at d e)) (gained d e) p)) second
        ∙ ap (part_step other act t look there c (grown_number d (first_gained (component_at d e)) (gained d e) p)) (child_ports d design m k at.within e p there_below (here.1 cell e stands is))
        ∙ part_steps below c p (grown_number d (first_gained (component_at d e)) (gained d e) p) (part_port (part_of (tree_within d m e)) p) (moved p) here
        (λ n port. outputs_at (cells_of j) (λ x. under x t) c n (tree_within (with_counts d) m e) second
        ∙ kids c cell e stands is n (below c n)
        (subst (λ x. n < length x) (ap (λ (x : PlainComponent). x.outputs) (same_part d m e)) (output_there (part_of (tree_within d m e)) p n port)) (known c p n (tree_within d m e) refl first))
        ∙ ap (cell_step part act s back below c p) (sym first)

    one_step : (p : PortRef) (below : Below) → IsInside d part p → IsSeenBelow i s p below → step j twin act t look there (mv p) ≡ step i held act s back below p
    one_step (ports.Cell c p) below here known = cell_steps below c p here known (pair_at d design m k at.within c here.0)
    one_step (ports.Input n) below here known = same n here
    one_step (ports.Output n) below here known = driven (ports.Output n) (ports.Output n) Undefined here refl
    one_step (ports.Done g) below here known = driven (ports.Done g) (ports.Done g) (bit_of false) here refl
    one_step (ports.Literal w v) below here known = refl

    solves : Solves i held act s (IsInside d part) back
    solves = record {
      closed = λ p q here leads. inside_closed d design k at.within m act p q here leads;
      steps = λ p below here known. seen_solves j twin act t acyclic deeper (mv p) ∙ one_step p below here known;
    }

    pub seen_grows : (p : PortRef) (x : Seen) → IsInside d part p → Sees i held act s p x → seen j twin act t (mv p) ≡ x
    seen_grows p x here sees = solved_is_seen solves here sees

    pub found_grows : IsAcyclic i act → AcyclicBelow (cells_of i) → (p : PortRef) → IsInside d part p → seen j twin act t (mv p) ≡ seen i held act s p
    found_grows first_acyclic first_deeper p here = solved_is_found i held act s (IsInside d part) back first_acyclic first_deeper solves p here
