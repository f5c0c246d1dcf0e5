-- What a port is seen as hangs on nothing in a component cell where it depends on no output and no done of it: so the inputs of a call
-- are held.
use Rattle.std.proofs.Common.{◌≡◌, ℕ, ◌⊎◌, inl, inr, true, false, [], ◌∷◌, refl, sym, ap, ◌∙◌, subst}
use Rattle.std.proofs.Math.Path.{fun_ext}
use Rattle.std.proofs.lemmas.Bool.Decides.{eqb_tells}
use Rattle.std.specs.Prelude.{nat_eq}
use Rattle.cx_prim.specs.declared.ports.Side.{Side}
use Rattle.cx_prim.specs.declared.ports.Side.TheVariants as sides
use Rattle.cx_prim.specs.Rows.{Row}
use Rattle.cx_meaning.specs.declared.ports.PortRef.{PortRef}
use Rattle.cx_meaning.specs.declared.ports.PortRef.TheVariants as ports
use Rattle.cx_meaning.specs.declared.sights.Seen.{Seen}
use Rattle.cx_meaning.specs.Rows.{side_of}
use Rattle.cx_meaning.specs.Instances.{Instance, At, Nothing, OfRow, OfInstance, cell_at, cells_of, part_of, Path, State, under}
use Rattle.cx_meaning.specs.Active.{Active, nothing}
use Rattle.cx_meaning.specs.Sights.{Look, Below, Held, unheld, PartPort, Go, AnInput, AnOutput, ItsDone, part_port, of_option, output_seen, gather, side_step, part_step, cell_step, step, Sees, by_step, seen, outputs_below}
use Rattle.cx_meaning.proofs.SightsLemmas.{one_sight}
use Rattle.cx_rules.specs.Footprints.{Leads, at_once}
use Rattle.cx_rules.specs.Circles.{IsAcyclic, AcyclicBelow}
use Rattle.cx_rules.specs.CallShape.{IsOutputOrDone}
use Rattle.cx_rules.proofs.FoundLemmas.{needs_leads, seen_found, below_found}
use Rattle.cx_control.specs.Flows.{Reaches}
use Rattle.cx_meaning.proofs.InstancesLemmas.{instance_is, instance_row}
use Rattle.cx_rules.proofs.CircleLemmas.{depends_then}

reaches_then : (i : Instance) (act : Active) (p q r : PortRef) → Reaches i act p q → Leads i act q r → Reaches i act p r
reaches_then i act p q r (inl e) l = inr (at_once (subst (λ x. Leads i act x r) (sym e) l))
reaches_then i act p q r (inr d) l = inr (depends_then d l)

module _ (i : Instance) (act : Active) (acyclic : IsAcyclic i act) (deeper : AcyclicBelow (cells_of i)) (c : ℕ) (child : Instance) (at_child : cell_at (cells_of i) c ≡ OfInstance child)
    (held : Held) (s t : State) (outside : (e : ℕ) (path : Path) → (e ≡ c → ⊥) → s (e ∷ path) ≡ t (e ∷ path)) (from : PortRef)
    (apart : (q : ℕ) → IsOutputOrDone child q → Reaches i act from (ports.Cell c q) → ⊥) where
  abbrev beneath : Below
  beneath = outputs_below (cells_of i) (λ k. under k t)

  elsewhere : (e : ℕ) (row : Row) → cell_at (cells_of i) e ≡ OfRow row → e ≡ c → ⊥
  elsewhere e row at same = instance_row child row (sym at_child ∙ ap (cell_at (cells_of i)) (sym same) ∙ at)

  module _ (look : Look) (below : Below) (e port : ℕ) (given_so : (n : ℕ) (other : Instance) → cell_at (cells_of i) e ≡ OfInstance other → Sees other unheld nothing (under e s) (ports.Output n) (below e n))
      (reached : Reaches i act from (ports.Cell e port)) where
    row_same : (row : Row) → cell_at (cells_of i) e ≡ OfRow row → (side : Side) → side_step (part_of i) act t look beneath row e port side ≡ side_step (part_of i) act s look below row e port side
    row_same row at sides.Enable = refl
    row_same row at sides.Plain = refl
    row_same row at sides.Output = ap (λ state. output_seen (λ inputs. row.output state inputs port) (gather (λ q. look (ports.Cell e q)) (row.reads port) 0 row.ports)) (sym (outside e [] (elsewhere e row at)))
    row_same row at sides.Registered = ap (λ state. of_option (row.output state [] port)) (sym (outside e [] (elsewhere e row at)))

    part_same : (other : Instance) → cell_at (cells_of i) e ≡ OfInstance other → (kind : PartPort) → part_port (part_of other) port ≡ kind → part_step (part_of i) act t look beneath e port kind ≡ part_step (part_of i) act s look below e port kind
    part_same other at Go is = refl
    part_same other at (AnInput n) is = refl
    part_same other at (AnOutput n) is = by (eqb_tells e c)
      where
        by : ((nat_eq e c ≡ true) × (e ≡ c)) ⊎ ((nat_eq e c ≡ false) × (e ≡ c → ⊥)) → beneath e n ≡ below e n
        by (inl r) =
            let same : other ≡ child = instance_is other child (sym at ∙ ap (cell_at (cells_of i)) r.1 ∙ at_child) in
            absurd (apart port (inl (n, ap (λ x. part_port (part_of x) port) (sym same) ∙ is)) (subst (λ k. Reaches i act from (ports.Cell k port)) r.1 reached))
        by (inr r) =
            one_sight (below_found (cells_of i) (λ k. under k t) deeper e n other at)
            (subst (λ state. Sees other unheld nothing state (ports.Output n) (below e n)) (fun_ext (λ path. outside e path r.1)) (given_so n other at))
    part_same other at ItsDone is = refl

    cell_same : (at : At) → cell_at (cells_of i) e ≡ at → cell_step (part_of i) act t look beneath e port at ≡ cell_step (part_of i) act s look below e port at
    cell_same Nothing is = refl
    cell_same (OfRow row) is = row_same row is (side_of row port)
    cell_same (OfInstance other) is = part_same other is (part_port (part_of other) port) refl

  step_same : (look : Look) (below : Below) (p : PortRef) → Reaches i act from p
      → ((e port n : ℕ) (other : Instance) → p ≡ ports.Cell e port → cell_at (cells_of i) e ≡ OfInstance other → Sees other unheld nothing (under e s) (ports.Output n) (below e n))
      → step i held act t look beneath p ≡ step i held act s look below p
  step_same look below (ports.Cell e port) reached b = cell_same look below e port (λ n other at. b e port n other refl at) reached (cell_at (cells_of i) e) refl
  step_same look below (ports.Input n) reached b = refl
  step_same look below (ports.Output n) reached b = refl
  step_same look below (ports.Done g) reached b = refl
  step_same look below (ports.Literal w v) reached b = refl

  carried : {p : PortRef} {x : Seen} → Reaches i act from p → Sees i held act s p x → Sees i held act t p x
  carried {p} {x} reached (by_step look below h b e) =
      by_step look beneath
      (λ q need. carried (reaches_then i act from p q reached (needs_leads i act look p q need)) (h q need))
      (λ e2 port n other is at. below_found (cells_of i) (λ k. under k t) deeper e2 n other at)
      (step_same look below p reached b ∙ e)

  pub held_same : seen i held act s from ≡ seen i held act t from
  held_same = one_sight (carried (inl refl) (seen_found i held act s acyclic deeper from)) (seen_found i held act t acyclic deeper from)
