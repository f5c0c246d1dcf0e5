-- What ports of a frame are seen as depends on the frame alone.
use Rattle.std.proofs.Common.{◌≡◌, ℕ, Bool, true, false, inl, inr, List, [], ◌∷◌, refl, sym, ap, ◌∙◌, subst}
use Rattle.std.proofs.Math.Path.{fun_ext}
use Rattle.cx_text.specs.Members.{In}
use Rattle.cx_prim.specs.declared.ports.Side.{Side}
use Rattle.cx_prim.specs.declared.ports.Side.TheVariants as sides
use Rattle.cx_prim.specs.CellStates.{CellState}
use Rattle.cx_prim.specs.Rows.{Row}
use Rattle.cx_meaning.specs.declared.ports.PortRef.{PortRef}
use Rattle.cx_meaning.specs.declared.ports.PortRef.TheVariants as ports
use Rattle.cx_meaning.specs.declared.sights.Seen.{Seen}
use Rattle.cx_meaning.specs.declared.sights.Seen.TheVariants.{Undefined}
use Rattle.cx_meaning.specs.Rows.{side_of}
use Rattle.cx_meaning.specs.Designs.{PlainComponent}
use Rattle.cx_meaning.specs.Instances.{Instance, At, Nothing, OfRow, OfInstance, part_of, cells_of, cell_at, State, under}
use Rattle.cx_meaning.specs.Active.{Active, nothing, Acting, Owned, source_order, offset_of, if_acting, if_target, acting, same_port, drivers}
use Rattle.cx_meaning.specs.Sights.{Look, Below, Held, unheld, bit_of, PartPort, Go, AnInput, AnOutput, ItsDone, part_port, target_seen, of_option, output_seen, gather, is_done_cell, side_step, part_step, cell_step, step, TargetNeeds, SideNeeds, PartNeeds, CellNeeds, Needs, Sees, by_step}
use Rattle.cx_meaning.specs.Sights.{seen, Gathered, Given, Lacks}
use Rattle.cx_meaning.specs.Cycles.{enables, looks_at, after_data, after_enabling, cell_outcome}
use Rattle.cx_meaning.proofs.SightsLemmas.{gather_alike, one_sight}
use Rattle.cx_rules.specs.Circles.{IsAcyclic, AcyclicBelow}
use Rattle.cx_rules.specs.Frames.{IsFrame}
use Rattle.cx_rules.proofs.FoundLemmas.{needs_leads, same_is, seen_found}

-- the same assignments of a port act
if_acting_alike : (act other : Active) (o : Owned) (p : PortRef) (rest more : List Acting) → (b : Bool) → (b ≡ true → offset_of act o.owner ≡ offset_of other o.owner) → rest ≡ more → if_target b act o rest ≡ if_target b other o more
if_acting_alike act other o p rest more true h e = ap (λ k. if_acting k o.assign rest) (h refl) ∙ ap (if_acting (offset_of other o.owner) o.assign) e
if_acting_alike act other o p rest more false h e = e

pub acting_alike : (act other : Active) (p : PortRef) (list : List Owned) → ((o : Owned) → In list o → o.assign.target ≡ p → offset_of act o.owner ≡ offset_of other o.owner) → acting act p list ≡ acting other p list
acting_alike act other p [] h = refl
acting_alike act other p (o ∷ rest) h =
    if_acting_alike act other o p (acting act p rest) (acting other p rest) (same_port o.assign.target p)
    (λ e. h o (inl refl) (same_is o.assign.target p e))
    (acting_alike act other p rest (λ x i e. h x (inr i) e))

module _ (part : PlainComponent) (act other : Active) (s t : State) (look : Look) (below : Below) where
  -- a port of a cell, where the assignments of it, the state and the done of the cell are the same
  module _ (c p : ℕ) (same : drivers part act (ports.Cell c p) ≡ drivers part other (ports.Cell c p)) where
    side_same : (row : Row) (side : Side) → s (c ∷ []) ≡ t (c ∷ []) → side_step part other t look below row c p side ≡ side_step part act s look below row c p side
    side_same row sides.Enable e = ap (target_seen (bit_of false) look) (sym same)
    side_same row sides.Plain e = ap (target_seen Undefined look) (sym same)
    side_same row sides.Output e = ap (λ state. output_seen (λ inputs. row.output state inputs p) (gather (λ q. look (ports.Cell c q)) (row.reads p) 0 row.ports)) (sym e)
    side_same row sides.Registered e = ap (λ state. of_option (row.output state [] p)) (sym e)

    part_same : (port : PartPort) → is_done_cell act.done_cell c ≡ is_done_cell other.done_cell c → part_step part other t look below c p port ≡ part_step part act s look below c p port
    part_same Go e = ap (target_seen (bit_of false) look) (sym same)
    part_same (AnInput n) e = ap (target_seen Undefined look) (sym same)
    part_same (AnOutput n) e = refl
    part_same ItsDone e = ap bit_of (sym e)

    cell_same : (at : At) → s (c ∷ []) ≡ t (c ∷ []) → is_done_cell act.done_cell c ≡ is_done_cell other.done_cell c → cell_step part other t look below c p at ≡ cell_step part act s look below c p at
    cell_same Nothing e f = refl
    cell_same (OfRow row) e f = side_same row (side_of row p) e
    cell_same (OfInstance child) e f = part_same (part_port (part_of child) p) f

    side_needs : (row : Row) (side : Side) (q : PortRef) → SideNeeds part other look row c p side q → SideNeeds part act look row c p side q
    side_needs row sides.Enable q n = subst (λ x. TargetNeeds look x q) (sym same) n
    side_needs row sides.Plain q n = subst (λ x. TargetNeeds look x q) (sym same) n
    side_needs row sides.Output q n = n
    side_needs row sides.Registered q n = n

    part_needs : (port : PartPort) (q : PortRef) → PartNeeds part other look c p port q → PartNeeds part act look c p port q
    part_needs Go q n = subst (λ x. TargetNeeds look x q) (sym same) n
    part_needs (AnInput m) q n = subst (λ x. TargetNeeds look x q) (sym same) n
    part_needs (AnOutput m) q n = n
    part_needs ItsDone q n = n

    cell_needs : (at : At) (q : PortRef) → CellNeeds part other look c p at q → CellNeeds part act look c p at q
    cell_needs Nothing q n = n
    cell_needs (OfRow row) q n = side_needs row (side_of row p) q n
    cell_needs (OfInstance child) q n = part_needs (part_port (part_of child) p) q n

module _ (i : Instance) (held other_held : Held) (act other : Active) (s t : State) (set : PortRef → Bool) (frame : IsFrame i held other_held act other s t set) where
  same_drivers : (p : PortRef) → set p ≡ true → drivers (part_of i) act p ≡ drivers (part_of i) other p
  same_drivers p inside = acting_alike act other p (source_order (part_of i)) (λ o j e. frame.assigns o j (ap set e ∙ inside))

  same_step : (look : Look) (below : Below) (p : PortRef) → set p ≡ true → step i other_held other t look below p ≡ step i held act s look below p
  same_step look below (ports.Cell c p) inside = cell_same (part_of i) act other s t look below c p (same_drivers (ports.Cell c p) inside) (cell_at (cells_of i) c) (frame.states c p inside []) (frame.dones c p inside)
  same_step look below (ports.Input n) inside = sym (frame.inputs n inside)
  same_step look below (ports.Output n) inside = ap (target_seen Undefined look) (sym (same_drivers (ports.Output n) inside))
  same_step look below (ports.Done g) inside = ap (target_seen (bit_of false) look) (sym (same_drivers (ports.Done g) inside))
  same_step look below (ports.Literal w v) inside = refl

  same_needs : (look : Look) (below : Below) (p q : PortRef) → set p ≡ true → Needs i other look p q → Needs i act look p q
  same_needs look below (ports.Cell c p) q inside n = cell_needs (part_of i) act other s t look below c p (same_drivers (ports.Cell c p) inside) (cell_at (cells_of i) c) q n
  same_needs look below (ports.Input m) q inside n = n
  same_needs look below (ports.Output m) q inside n = subst (λ x. TargetNeeds look x q) (sym (same_drivers (ports.Output m) inside)) n
  same_needs look below (ports.Done g) q inside n = subst (λ x. TargetNeeds look x q) (sym (same_drivers (ports.Done g) inside)) n
  same_needs look below (ports.Literal w v) q inside n = n

  same_under : (c p : ℕ) → set (ports.Cell c p) ≡ true → under c s ≡ under c t
  same_under c p inside = fun_ext (frame.states c p inside)

  pub carried : {p : PortRef} {x : Seen} → set p ≡ true → Sees i held act s p x → Sees i other_held other t p x
  carried {p} {x} inside (by_step look below h b e) =
      by_step look below
      (λ q need. let m = same_needs look below p q inside need in carried (frame.closed p q inside (needs_leads i act look p q m)) (h q m))
      (λ c port n child is at. subst (λ state. Sees child unheld nothing state (ports.Output n) (below c n)) (same_under c port (ap set (sym is) ∙ inside)) (b c port n child is at))
      (same_step look below p inside ∙ e)

-- a cell steps alike where its ports are seen alike
after_alike : (look more : ℕ → Seen) (row : Row) (state : CellState) (g : Gathered) → ((p : ℕ) → look p ≡ more p) → after_enabling look row state g ≡ after_enabling more row state g
after_alike look more row state (Given enabling) h = ap (after_data row state) (gather_alike look more (looks_at row state enabling) 0 row.ports (λ q w. h q))
after_alike look more row state (Lacks p x) h = refl

outcome_alike : (look more : Look) (c : ℕ) (row : Row) (a b : CellState) → a ≡ b → ((p : ℕ) → look (ports.Cell c p) ≡ more (ports.Cell c p)) → cell_outcome look c row a ≡ cell_outcome more c row b
outcome_alike look more c row a b e h =
    ap (cell_outcome look c row) e
    ∙ ap (after_enabling (λ p. look (ports.Cell c p)) row b) (gather_alike (λ p. look (ports.Cell c p)) (λ p. more (ports.Cell c p)) (enables row) 0 row.ports (λ q w. h q))
    ∙ after_alike (λ p. look (ports.Cell c p)) (λ p. more (ports.Cell c p)) row b (gather (λ p. more (ports.Cell c p)) (enables row) 0 row.ports) h

pub steps_alike : (i : Instance) (held other_held : Held) (act other : Active) (s t : State) (set : PortRef → Bool) → IsFrame i held other_held act other s t set → IsAcyclic i act → IsAcyclic i other → AcyclicBelow (cells_of i)
    → (c : ℕ) (row : Row) → ((p : ℕ) → set (ports.Cell c p) ≡ true) → cell_outcome (seen i held act s) c row (s (c ∷ [])) ≡ cell_outcome (seen i other_held other t) c row (t (c ∷ []))
steps_alike i held other_held act other s t set frame one two deeper c row inside =
    outcome_alike (seen i held act s) (seen i other_held other t) c row (s (c ∷ [])) (t (c ∷ [])) (frame.states c 0 (inside 0) [])
    (λ p. one_sight (carried i held other_held act other s t set frame (inside p) (seen_found i held act s one deeper (ports.Cell c p))) (seen_found i other_held other t two deeper (ports.Cell c p)))
