-- In an accepted design an enabling port of a primitive cell has one bit: where nothing drives it, it is seen as one bit.
use Rattle.std.proofs.Common.{◌≡◌, ℕ, ◌<◌, true, false, ◌++◌, Some, None, refl, sym, ap, ◌∙◌, subst}
use Rattle.cx_text.specs.Members.{In}
use Rattle.cx_bits.specs.BitVector.{BitVector}
use Rattle.cx_prim.specs.declared.ports.Side.TheVariants as sides
use Rattle.cx_prim.specs.CellStates.{IsState}
use Rattle.cx_prim.specs.Rows.{Row, IsLawful, KeepsStates, is_enable_side}
use Rattle.cx_prim.proofs.TableLaws.{row_of_lawful}
use Rattle.cx_meaning.specs.declared.ports.PortRef.{PortRef}
use Rattle.cx_meaning.specs.declared.ports.PortRef.TheVariants as ports
use Rattle.cx_meaning.specs.declared.sights.Seen.TheVariants.{Value}
use Rattle.cx_meaning.specs.Rows.{side_of}
use Rattle.cx_meaning.specs.Designs.{PlainDesign}
use Rattle.cx_meaning.specs.Instances.{Instance, OfRow, cell_at, cells_of, part_of, tree_of, Path, State, instance_at, start_at}
use Rattle.cx_meaning.specs.Active.{Active, Owned, source_order, nothing}
use Rattle.cx_meaning.specs.Sights.{Held, Sees, bit_of, seen, unheld}
use Rattle.cx_rules.specs.Ports.{is_primitive_enable, width_of}
use Rattle.cx_meaning.specs.Calls.{enables_at}
use Rattle.cx_rules.specs.WidthRules.{IsBadLiteral}
use Rattle.cx_rules.specs.Wellformed.{IsDesign, IsThere, port_count}
use Rattle.cx_rules.specs.Accepted.{IsAccepted}
use Rattle.cx_rules.proofs.FoundLemmas.{seen_found}
use Rattle.cx_rules.proofs.CircleLemmas.{instance_acyclic}
use Rattle.cx_rules.proofs.ForeignLemmas.{foreign_zero}
use Rattle.cx_laws.specs.Widths.{HoldsStates, HoldsWidths}
use Rattle.cx_control.proofs.InstanceLemmas.{instance_rows, instance_within, enables_there}
use Rattle.cx_rules.proofs.CirclesLemmas.{cells_below, own_acyclic}
use Rattle.cx_meaning.proofs.InstancesLemmas.{instance_along}
use Rattle.cx_meaning.proofs.SightsLaws.{undefined_value}
use Rattle.cx_meaning.proofs.CyclesLemmas.{start_deep}
use Rattle.cx_prim.proofs.PortsLemmas.{port_below}

-- no continuous assignment drives an enabling port, and values have the widths of their ports
module _ (d : PlainDesign) (path : Path) (design : IsDesign d) (accepted : IsAccepted d)
    (always : (o : Owned) → In (source_order (part_of (instance_at (tree_of d) path))) o → o.owner ≡ None → is_primitive_enable (instance_at (tree_of d) path) o.assign.target ≡ false)
    (widths : (held : Held) (act : Active) (s : State) (p : PortRef) (b : BitVector) → HoldsWidths (part_of (instance_at (tree_of d) path)) held → HoldsStates (instance_at (tree_of d) path) s
    → IsThere (instance_at (tree_of d) path) p → (IsBadLiteral p → ⊥) → Sees (instance_at (tree_of d) path) held act s p (Value b) → width_of (instance_at (tree_of d) path) p ≡ Some b.width) where
  abbrev I : Instance
  I = instance_at (tree_of d) path

  pub no_bare : (c p : ℕ) (row : Row) → cell_at (cells_of I) c ≡ OfRow row → side_of row p ≡ sides.Enable → (o : Owned) → In (source_order (part_of I)) o → o.owner ≡ None → o.assign.target ≡ ports.Cell c p → ⊥
  no_bare c p row at side o stands owner target = differ (sym (always o stands owner) ∙ ap (is_primitive_enable I) target ∙ ap (λ x. enables_at x p) at ∙ ap is_enable_side side)
    where
      differ : false ≡ true → ⊥
      differ e = cc

  always_zero : (c p : ℕ) (row : Row) → cell_at (cells_of I) c ≡ OfRow row → side_of row p ≡ sides.Enable → (s : State) → seen I unheld nothing s (ports.Cell c p) ≡ bit_of false
  always_zero c p row at side s = foreign_zero I nothing c p (no_bare c p row at side) (λ g drives. refl) row at side unheld s

  no_literal : (c p : ℕ) → IsBadLiteral (ports.Cell c p) → ⊥
  no_literal c p (w, v, e, f) = cc

  -- an enabling port has one bit
  pub enables_narrow : (c p : ℕ) (row : Row) → cell_at (cells_of I) c ≡ OfRow row → side_of row p ≡ sides.Enable → width_of I (ports.Cell c p) ≡ Some 1
  enables_narrow c p row at side =
      let port = enables_there row.ports p side in
      widths unheld nothing (start_at I) (ports.Cell c p) (record { width = 1; value = 0 }) (λ n b e. absurd (undefined_value b e))
      (λ q e other stands. subst (IsState other.shape) (sym (start_deep I q e other stands)) (states q e other stands))
      (instance_within d path c row at, subst (λ x. p < port_count x) (sym at) (port_below row.ports p port.0 port.1))
      (no_literal c p)
      (subst (Sees I unheld nothing (start_at I) (ports.Cell c p)) (always_zero c p row at side (start_at I))
      (seen_found I unheld nothing (start_at I) (own_acyclic I (instance_acyclic d accepted path)) (cells_below I (instance_acyclic d accepted path)) (ports.Cell c p)))
    where
      states : (q : Path) (e : ℕ) (other : Row) → cell_at (cells_of (instance_at I q)) e ≡ OfRow other → IsState other.shape other.start
      states q e other stands =
          let p = instance_rows d (path ++ q) e other (ap (λ x. cell_at (cells_of x) e) (sym (instance_along (tree_of d) path q)) ∙ stands) in
          KeepsStates.start (IsLawful.states (subst IsLawful p.1 (row_of_lawful p.0)))
