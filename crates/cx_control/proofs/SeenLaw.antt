-- What is seen as a value flows as that value: in every instance of an accepted design.
use Rattle.std.proofs.Common.{◌≡◌, ℕ, false, [], ◌∷◌, Some, None, refl, subst}
use Rattle.cx_text.specs.Members.{In}
use Rattle.cx_bits.specs.BitVector.{BitVector}
use Rattle.cx_prim.proofs.TableLaws.{row_of_lawful}
use Rattle.cx_prim.specs.Rows.{Row, IsLawful}
use Rattle.cx_meaning.specs.declared.ports.PortRef.{PortRef}
use Rattle.cx_meaning.specs.declared.ports.PortRef.TheVariants as ports
use Rattle.cx_prim.specs.CellStates.{CellState}
use Rattle.cx_meaning.specs.declared.sights.Seen.TheVariants.{Value}
use Rattle.cx_meaning.specs.Designs.{PlainDesign}
use Rattle.cx_meaning.specs.Instances.{Instance, OfRow, part_of, cell_at, cells_of, Path, State, tree_of, instance_at}
use Rattle.cx_meaning.specs.Active.{Active, Owned, source_order}
use Rattle.cx_meaning.specs.Sights.{Held, Sees, seen}
use Rattle.cx_meaning.specs.Cycles.{Next, cell_outcome}
use Rattle.cx_rules.specs.Wellformed.{IsDesign, IsThere}
use Rattle.cx_rules.specs.Accepted.{IsAccepted}
use Rattle.cx_rules.specs.Circles.{IsAcyclic}
use Rattle.cx_rules.specs.Ports.{is_primitive_enable, width_of}
use Rattle.cx_rules.specs.WidthRules.{IsBadLiteral}
use Rattle.cx_rules.proofs.FoundLemmas.{seen_found}
use Rattle.cx_rules.proofs.CircleLemmas.{instance_acyclic}
use Rattle.cx_laws.specs.Widths.{HoldsStates, HoldsWidths}
use Rattle.cx_frames.specs.Rests.{IsUndriven}
use Rattle.cx_control.specs.Flows.{Values, given, Around, Solves, Undisturbed}
use Rattle.cx_control.proofs.NarrowLemmas.{enables_narrow, no_bare}
use Rattle.cx_control.proofs.CellLemmas.{cell_step, idle_step}
use Rattle.cx_control.proofs.PortFlows.{seen_flows}
use Rattle.cx_control.proofs.InstanceLemmas.{instance_rows, go_narrow, instance_ports}
use Rattle.cx_rules.proofs.CirclesLemmas.{cells_below}

pub instance_lawful : (d : PlainDesign) (path : Path) (c : ℕ) (row : Row) → cell_at (cells_of (instance_at (tree_of d) path)) c ≡ OfRow row → IsLawful row
instance_lawful d path c row at = let p = instance_rows d path c row at in subst IsLawful p.1 (row_of_lawful p.0)

-- no continuous assignment drives an enabling port of the instance
abbrev pub AlwaysEnablesNothing : PlainDesign → Path → Type 0
AlwaysEnablesNothing d path = (o : Owned) → In (source_order (part_of (instance_at (tree_of d) path))) o → o.owner ≡ None → is_primitive_enable (instance_at (tree_of d) path) o.assign.target ≡ false

-- each value that is seen in it has its port's width
abbrev pub HasSeenWidths : PlainDesign → Path → Type 0
HasSeenWidths d path = (held : Held) (act : Active) (s : State) (p : PortRef) (b : BitVector) → HoldsWidths (part_of (instance_at (tree_of d) path)) held → HoldsStates (instance_at (tree_of d) path) s
    → IsThere (instance_at (tree_of d) path) p → (IsBadLiteral p → ⊥) → Sees (instance_at (tree_of d) path) held act s p (Value b) → width_of (instance_at (tree_of d) path) p ≡ Some b.width

module _ (d : PlainDesign) (path : Path) (design : IsDesign d) (accepted : IsAccepted d) (always : AlwaysEnablesNothing d path) (widths : HasSeenWidths d path) (go : Active) (s : State) (around : Around) (v : Values)
    (solves : Solves (instance_at (tree_of d) path) go s around v) where
  abbrev I : Instance
  I = instance_at (tree_of d) path

  pub seen_flow : (held : Held) (act : Active) (p : PortRef) (b : BitVector) → Undisturbed I held act go s around p → Sees I held act s p (Value b) → v p ≡ b
  seen_flow held act p b undisturbed sees =
      seen_flows I held act go s around v solves (enables_narrow d path design accepted always widths) (go_narrow I) (λ o g i. (instance_ports d design path o i).own_done g) (λ o n i. (instance_ports d design path o i).output_outside n) (λ c row at. (instance_lawful d path c row at).reads_only)
      sees undisturbed b refl

  pub cells_step : (held : Held) (act : Active) (c : ℕ) (row : Row) (after : CellState) → IsAcyclic I act → ((p : ℕ) → Undisturbed I held act go s around (ports.Cell c p)) → cell_at (cells_of I) c ≡ OfRow row
      → cell_outcome (seen I held act s) c row (s (c ∷ [])) ≡ Next after → row.next (s (c ∷ [])) (given v c 0 row.ports) ≡ after
  cells_step held act c row after acyclic undisturbed at outcome =
      cell_step (seen I held act s) v c row (s (c ∷ [])) (instance_lawful d path c row at)
      (λ q b e. seen_flow held act (ports.Cell c q) b (undisturbed q)
      (subst (Sees I held act s (ports.Cell c q)) e (seen_found I held act s acyclic (cells_below I (instance_acyclic d accepted path)) (ports.Cell c q))))
      after outcome

  pub cells_idle : (c : ℕ) (row : Row) → IsUndriven (part_of I) go c → cell_at (cells_of I) c ≡ OfRow row → row.next (s (c ∷ [])) (given v c 0 row.ports) ≡ row.idle (s (c ∷ []))
  cells_idle c row undriven at =
      idle_step I go s around v solves c row at (instance_lawful d path c row at) undriven (λ o p stands owner target side. no_bare d path design accepted always widths c p row at side o stands owner target)
