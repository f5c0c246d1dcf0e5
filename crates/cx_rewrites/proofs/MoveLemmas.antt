-- WHAT A PORT IS SEEN AS in an instance, the port that it is moved to is seen as in the other.
use Rattle.std.proofs.Common.{◌≡◌, ℕ, false, [], ◌∷◌, map, refl, sym, ap, ◌∙◌}
use Rattle.std.proofs.Math.Path.{fun_ext}
use Rattle.cx_prim.specs.declared.ports.Side.{Side}
use Rattle.cx_prim.specs.declared.ports.Side.TheVariants as sides
use Rattle.cx_prim.specs.Rows.{Inputs, Row}
use Rattle.cx_meaning.specs.declared.ports.PortRef.{PortRef}
use Rattle.cx_meaning.specs.declared.ports.PortRef.TheVariants as ports
use Rattle.cx_meaning.specs.declared.sights.Seen.{Seen}
use Rattle.cx_meaning.specs.declared.sights.Seen.TheVariants.{Undefined}
use Rattle.cx_meaning.specs.Rows.{side_of}
use Rattle.cx_meaning.specs.Instances.{Instance, part_of, cells_of, cell_at, State, under}
use Rattle.cx_meaning.specs.Active.{Active, drivers}
use Rattle.cx_meaning.specs.Sights.{Look, Below, Held, bit_of, target_seen, gather, output_seen, of_option, PartPort, Go, AnInput, AnOutput, ItsDone, part_port, is_done_cell, side_step, part_step, cell_step, step, Sees, seen, outputs_below}
use Rattle.cx_rules.specs.Circles.{IsAcyclic, AcyclicBelow}
use Rattle.cx_rules.proofs.FoundLemmas.{seen_solves}
use Rattle.cx_rewrites.specs.Moving.{moved_acting}
use Rattle.cx_rewrites.specs.Solving.{IsSeenBelow, Solves}
use Rattle.cx_rewrites.specs.Moves.{CellMoves, to_row, to_child, to_nothing, Moves}
use Rattle.cx_rewrites.proofs.SolvedLemmas.{solved_is_seen, solved_is_found}
use Rattle.cx_rewrites.proofs.TargetLemmas.{target_seen-moved}

-- where the assignments of the moved port are those of the port, moved, they give the same
pub driven_alike : (move : PortRef → PortRef) (i j : Instance) (act more : Active) (look : Look) (p : PortRef) (undriven : Seen)
    → drivers (part_of j) more (move p) ≡ map (moved_acting move) (drivers (part_of i) act p)
    → target_seen undriven look (drivers (part_of j) more (move p)) ≡ target_seen undriven (λ q. look (move q)) (drivers (part_of i) act p)
driven_alike move i j act more look p undriven e = ap (target_seen undriven look) e ∙ target_seen-moved move look undriven (drivers (part_of i) act p)

module _ (move : PortRef → PortRef) (i j : Instance) (held twin_held : Held) (act more : Active) (s z : State) (inside : PortRef → Type 0)
    (moves : Moves move i j held twin_held act more s z inside) (acyclic : IsAcyclic j more) (deeper : AcyclicBelow (cells_of j)) where
  abbrev twin : Look
  twin = seen j twin_held more z

  abbrev there : Below
  there = outputs_below (cells_of j) (λ k. under k z)

  abbrev back : Look
  back q = twin (move q)

  -- the assignments of a cell's port
  driven : (c p e q : ℕ) (undriven : Seen) → move (ports.Cell c p) ≡ ports.Cell e q → inside (ports.Cell c p)
      → target_seen undriven twin (drivers (part_of j) more (ports.Cell e q)) ≡ target_seen undriven back (drivers (part_of i) act (ports.Cell c p))
  driven c p e q undriven to here = ap (λ x. target_seen undriven twin (drivers (part_of j) more x)) (sym to) ∙ moves.targets (ports.Cell c p) undriven here

  side_moves : (below : Below) (row : Row) (c e p : ℕ) (side : Side) → ((q : ℕ) → move (ports.Cell c q) ≡ ports.Cell e q) → inside (ports.Cell c p)
      → ((inputs : Inputs) → row.output (s (c ∷ [])) inputs p ≡ row.output (z (e ∷ [])) inputs p)
      → side_step (part_of j) more z twin there row e p side ≡ side_step (part_of i) act s back below row c p side
  side_moves below row c e p sides.Enable to here same = driven c p e p (bit_of false) (to p) here
  side_moves below row c e p sides.Plain to here same = driven c p e p Undefined (to p) here
  side_moves below row c e p sides.Output to here same =
      ap (λ f. output_seen f (gather (λ q. twin (ports.Cell e q)) (row.reads p) 0 row.ports)) (fun_ext (λ inputs. sym (same inputs)))
      ∙ ap (λ look. output_seen (λ inputs. row.output (s (c ∷ [])) inputs p) (gather look (row.reads p) 0 row.ports)) (fun_ext (λ q. ap twin (sym (to q))))
  side_moves below row c e p sides.Registered to here same = ap of_option (sym (same []))

  part_moves : (below : Below) (c p e q : ℕ) (port : PartPort) → move (ports.Cell c p) ≡ ports.Cell e q → inside (ports.Cell c p)
      → is_done_cell act.done_cell c ≡ is_done_cell more.done_cell e → ((n : ℕ) → there e n ≡ below c n)
      → part_step (part_of j) more z twin there e q port ≡ part_step (part_of i) act s back below c p port
  part_moves below c p e q Go to here done outs = driven c p e q (bit_of false) to here
  part_moves below c p e q (AnInput n) to here done outs = driven c p e q Undefined to here
  part_moves below c p e q (AnOutput n) to here done outs = outs n
  part_moves below c p e q ItsDone to here done outs = ap bit_of (sym done)

  cell_moves : (below : Below) (c p : ℕ) → inside (ports.Cell c p) → IsSeenBelow i s (ports.Cell c p) below → CellMoves move i j act more s z c p
      → step j twin_held more z twin there (move (ports.Cell c p)) ≡ cell_step (part_of i) act s back below c p (cell_at (cells_of i) c)
  cell_moves below c p here known (to_row row e at to moved same) =
      ap (step j twin_held more z twin there) (moved p)
      ∙ ap (cell_step (part_of j) more z twin there e p) to
      ∙ side_moves below row c e p (side_of row p) moved here same
      ∙ ap (cell_step (part_of i) act s back below c p) (sym at)
  cell_moves below c p here known (to_child child other e q at to moved same done outs) =
      ap (step j twin_held more z twin there) moved
      ∙ ap (cell_step (part_of j) more z twin there e q) to
      ∙ ap (part_step (part_of j) more z twin there e q) (sym same)
      ∙ part_moves below c p e q (part_port (part_of child) p) moved here done (λ n. outs n (below c n) (known c p n child refl at))
      ∙ ap (cell_step (part_of i) act s back below c p) (sym at)
  cell_moves below c p here known (to_nothing e q at to moved) =
      ap (step j twin_held more z twin there) moved ∙ ap (cell_step (part_of j) more z twin there e q) to ∙ ap (cell_step (part_of i) act s back below c p) (sym at)

  -- one step at the moved port, over what is seen, is one step at the port over the look at moved ports
  step_moves : (p : PortRef) (below : Below) → inside p → IsSeenBelow i s p below → step j twin_held more z twin there (move p) ≡ step i held act s back below p
  step_moves (ports.Cell c p) below here known = cell_moves below c p here known (moves.cells c p here)
  step_moves (ports.Input n) below here known = sym (seen_solves j twin_held more z acyclic deeper (move (ports.Input n))) ∙ moves.inputs n here
  step_moves (ports.Output n) below here known = moves.outputs n here ∙ moves.targets (ports.Output n) Undefined here
  step_moves (ports.Done g) below here known = moves.holes g here ∙ moves.targets (ports.Done g) (bit_of false) here
  step_moves (ports.Literal w v) below here known = ap (step j twin_held more z twin there) (moves.literals w v here)

  pub moved_solves : Solves i held act s inside back
  moved_solves = record {
    closed = moves.closed;
    steps = λ p below here known. seen_solves j twin_held more z acyclic deeper (move p) ∙ step_moves p below here known;
  }

  pub seen_moves : (p : PortRef) (x : Seen) → inside p → Sees i held act s p x → seen j twin_held more z (move p) ≡ x
  seen_moves p x here sees = solved_is_seen moved_solves here sees

  -- and what is found, where nothing leads in a circle in the first either
  pub found_moves : IsAcyclic i act → AcyclicBelow (cells_of i) → (p : PortRef) → inside p → seen j twin_held more z (move p) ≡ seen i held act s p
  found_moves first_acyclic first_deeper p here = solved_is_found i held act s inside back first_acyclic first_deeper moved_solves p here
