-- A moved port is as wide as the port, and of the same side.
use Rattle.std.proofs.Common.{◌≡◌, ℕ, zero, suc, ◌+◌, ◌-◌, ◌<◌, ◌≤◌, Bool, true, false, not, inl, inr, ◌⊎◌, length, Option, Some, refl, sym, ap, ◌∙◌, subst, arith}
use Rattle.std.specs.Prelude.{nat_eq, option_map, if◌then◌else◌}
use Rattle.std.specs.List.{slice_get}
use Rattle.std.proofs.lemmas.Bool.{cases_lt, eqb-true, eqb-false, lt-ltb, le-ltb}
use Rattle.cx_text.proofs.MemberLaws.{in_at}
use Rattle.cx_text.proofs.ListLaws.{there_at}
use Rattle.cx_prim.specs.Rows.{is_output_side}
use Rattle.cx_prim.specs.Table.{PrimitiveRow, row_of}
use Rattle.cx_meaning.specs.declared.ports.PortRef.{PortRef}
use Rattle.cx_meaning.specs.declared.ports.PortRef.TheVariants as ports
use Rattle.cx_meaning.specs.Rows.{side_of}
use Rattle.cx_meaning.specs.Designs.{PlainKind, OfPrimitive, OfComponent, PlainCell, PlainComponent, PlainDesign, component_at}
use Rattle.cx_meaning.specs.Instances.{cell_at, cells_of, tree_within}
use Rattle.cx_meaning.specs.Sights.{PartPort, Go, AnInput, AnOutput, ItsDone, part_port, output_port, later_port}
use Rattle.cx_meaning.proofs.DesignsLemmas.{same_part}
use Rattle.cx_meaning.proofs.InstancesLemmas.{at_kind, cell_stands}
use Rattle.cx_rules.specs.Ports.{component_of, declared_width, part_width, cell_width, width_of, written_width, is_part_output, is_cell_output, is_source_only, is_target_only}
use Rattle.cx_rules.proofs.PortsLemmas.{part_is}
use Rattle.cx_rules.specs.Wellformed.{IsDesign, IsKind}
use Rattle.cx_profiling.specs.Counters.{first_gained}
use Rattle.cx_profiling.specs.Instrumented.{gained, moved_by, moved_number, moved_in, with_counts}
use Rattle.cx_profiling.proofs.ThereLemmas.{Names, kind_ports, tree_on}
use Rattle.cx_profiling.proofs.GainedLemmas.{IsGrown, grown_at, components-length}

-- the width and the side of a port of a cell, by the kind of the cell
abbrev pub kind_width : PlainDesign → PlainKind → ℕ → Option ℕ
kind_width d (OfPrimitive q) p = option_map (λ port. port.width) (slice_get (row_of q).ports p)
kind_width d (OfComponent j) p = part_width (component_at d j) (part_port (component_at d j) p)

abbrev pub is_kind_output : PlainDesign → PlainKind → ℕ → Bool
is_kind_output d (OfPrimitive q) p = is_output_side (side_of (row_of q) p)
is_kind_output d (OfComponent j) p = is_part_output (part_port (component_at d j) p)

module _ (d : PlainDesign) (n : ℕ) where
  of_kind_width : (kind : PlainKind) (p : ℕ) → cell_width (at_kind (tree_within d n) kind) p ≡ kind_width d kind p
  of_kind_width (OfPrimitive q) p = refl
  of_kind_width (OfComponent j) p = ap (λ part. part_width part (part_port part p)) (same_part d n j)

  of_kind_output : (kind : PlainKind) (p : ℕ) → is_cell_output (at_kind (tree_within d n) kind) p ≡ is_kind_output d kind p
  of_kind_output (OfPrimitive q) p = refl
  of_kind_output (OfComponent j) p = ap (λ part. is_part_output (part_port part p)) (same_part d n j)

module _ (d : PlainDesign) (some : 0 < length d.components) (k c : ℕ) (cell : PlainCell) (at : slice_get (component_at d k).cells c ≡ Some cell) (p : ℕ) where
  pub width_at : width_of (component_of d k) (ports.Cell c p) ≡ kind_width d cell.kind p
  width_at =
      let on = tree_on d some (length d.components) k some in
      ap (λ i. cell_width (cell_at (cells_of i) c) p) on.1 ∙ ap (λ x. cell_width x p) (cell_stands (tree_within d on.0) (component_at d k).cells c cell at) ∙ of_kind_width d on.0 cell.kind p

  pub output_at : is_source_only (component_of d k) (ports.Cell c p) ≡ is_kind_output d cell.kind p
  output_at =
      let on = tree_on d some (length d.components) k some in
      ap (λ i. is_cell_output (cell_at (cells_of i) c) p) on.1 ∙ ap (λ x. is_cell_output x p) (cell_stands (tree_within d on.0) (component_at d k).cells c cell at) ∙ of_kind_output d on.0 cell.kind p

-- the ports of a component's cell, by number
part_port_done : (part : PlainComponent) (p : ℕ) → p ≡ suc (length part.inputs + length part.outputs) → part_port part p ≡ ItsDone
part_port_done part p e = ap (part_port part) e ∙ later (length part.inputs) (length part.outputs)
  where
    later : (ins outs : ℕ) → later_port ins outs (ins + outs) ≡ ItsDone
    later ins outs =
        ap (λ b. if b then AnInput (ins + outs) else output_port outs (ins + outs - ins)) (le-ltb (ins + outs) ins (omega arith))
        ∙ ap (λ b. if b then AnOutput (ins + outs - ins) else ItsDone) (le-ltb (ins + outs - ins) outs (omega arith))

-- a port before the done, of a component and of one that has the same ports in front
data FrontPort (part new : PlainComponent) (p : ℕ) : Type 0 where
  is_go : part_port part p ≡ Go → part_port new p ≡ Go → FrontPort part new p
  is_input : (n : ℕ) → part_port part p ≡ AnInput n → part_port new p ≡ AnInput n → FrontPort part new p
  is_output : (n : ℕ) → n < length part.outputs → part_port part p ≡ AnOutput n → part_port new p ≡ AnOutput n → FrontPort part new p

front_port : (part new : PlainComponent) (p : ℕ) → length new.inputs ≡ length part.inputs → length part.outputs ≤ length new.outputs → p < suc (length part.inputs + length part.outputs) → FrontPort part new p
front_port part new zero ins outs less = is_go refl refl
front_port part new (suc n) ins outs less = by (cases_lt n (length part.inputs))
  where
    by : (n < length part.inputs) ⊎ (length part.inputs ≤ n) → FrontPort part new (suc n)
    by (inl l) = is_input n
        (ap (λ b. if b then AnInput n else output_port (length part.outputs) (n - length part.inputs)) (lt-ltb n (length part.inputs) l))
        (ap (λ b. if b then AnInput n else output_port (length new.outputs) (n - length new.inputs)) (lt-ltb n (length new.inputs) (omega arith)))
    by (inr l) = is_output (n - length part.inputs) (omega arith)
        (ap (λ b. if b then AnInput n else output_port (length part.outputs) (n - length part.inputs)) (le-ltb n (length part.inputs) l)
        ∙ ap (λ b. if b then AnOutput (n - length part.inputs) else ItsDone) (lt-ltb (n - length part.inputs) (length part.outputs) (omega arith)))
        (ap (λ b. if b then AnInput n else output_port (length new.outputs) (n - length new.inputs)) (le-ltb n (length new.inputs) (omega arith))
        ∙ ap (λ m. output_port (length new.outputs) (n - m)) ins
        ∙ ap (λ b. if b then AnOutput (n - length part.inputs) else ItsDone) (lt-ltb (n - length part.inputs) (length new.outputs) (omega arith)))

module _ (d : PlainDesign) where
  kind_moved : (A : Type 0) (read : PlainDesign → PlainKind → ℕ → A) (by_part : PlainComponent → PartPort → A)
      → ((e : PlainDesign) (q : PrimitiveRow) (p : ℕ) → read e (OfPrimitive q) p ≡ read d (OfPrimitive q) p)
      → ((e : PlainDesign) (j p : ℕ) → read e (OfComponent j) p ≡ by_part (component_at e j) (part_port (component_at e j) p))
      → ((part new : PlainComponent) → by_part new Go ≡ by_part part Go)
      → ((part new : PlainComponent) (n : ℕ) → new.inputs ≡ part.inputs → by_part new (AnInput n) ≡ by_part part (AnInput n))
      → ((part new : PlainComponent) (n : ℕ) → slice_get new.outputs n ≡ slice_get part.outputs n → by_part new (AnOutput n) ≡ by_part part (AnOutput n))
      → ((part new : PlainComponent) → by_part new ItsDone ≡ by_part part ItsDone)
      → (kind : PlainKind) (p : ℕ) → IsKind d kind → p < kind_ports d kind → read (with_counts d) kind (moved_by d kind p) ≡ read d kind p
  kind_moved A read by_part primitive component go input output done (OfPrimitive q) p there less = primitive (with_counts d) q p
  kind_moved A read by_part primitive component go input output done (OfComponent j) p there less = component (with_counts d) j (moved_by d (OfComponent j) p) ∙ same ∙ sym (component d j p)
    where
      part : PlainComponent
      part = component_at d j

      grown : IsGrown d j (component_at (with_counts d) j)
      grown = grown_at d j there

      fronted : FrontPort (component_at d j) (component_at (with_counts d) j) p
          → by_part (component_at (with_counts d) j) (part_port (component_at (with_counts d) j) p) ≡ by_part (component_at d j) (part_port (component_at d j) p)
      fronted (is_go a b) = ap (by_part (component_at (with_counts d) j)) b ∙ go (component_at d j) (component_at (with_counts d) j) ∙ ap (by_part (component_at d j)) (sym a)
      fronted (is_input n a b) = ap (by_part (component_at (with_counts d) j)) b ∙ input (component_at d j) (component_at (with_counts d) j) n grown.inputs ∙ ap (by_part (component_at d j)) (sym a)
      fronted (is_output n l a b) =
          let x = there_at (component_at d j).outputs n l in
          ap (by_part (component_at (with_counts d) j)) b ∙ output (component_at d j) (component_at (with_counts d) j) n (grown.declared n x.0 x.1 ∙ sym x.1) ∙ ap (by_part (component_at d j)) (sym a)

      counts : length (component_at (with_counts d) j).inputs ≡ length (component_at d j).inputs
      counts = ap length grown.inputs

      by : (b : Bool) → nat_eq p (first_gained (component_at d j)) ≡ b
          → by_part (component_at (with_counts d) j) (part_port (component_at (with_counts d) j) (if b then p + gained d j else p)) ≡ by_part (component_at d j) (part_port (component_at d j) p)
      by true e =
          let is : p ≡ suc (length (component_at d j).inputs + length (component_at d j).outputs) = eqb-true p (first_gained (component_at d j)) e in
          let outs : length (component_at (with_counts d) j).outputs ≡ length (component_at d j).outputs + gained d j = grown.outputs in
          let ins : length (component_at (with_counts d) j).inputs ≡ length (component_at d j).inputs = counts in
          ap (by_part (component_at (with_counts d) j)) (part_port_done (component_at (with_counts d) j) (p + gained d j) (omega arith))
          ∙ done (component_at d j) (component_at (with_counts d) j) ∙ ap (by_part (component_at d j)) (sym (part_port_done (component_at d j) p is))
      by false e =
          let outs : length (component_at (with_counts d) j).outputs ≡ length (component_at d j).outputs + gained d j = grown.outputs in
          fronted (front_port (component_at d j) (component_at (with_counts d) j) p counts (omega arith) (omega (arith, eqb-false p (first_gained (component_at d j)) e)))

      same : by_part (component_at (with_counts d) j) (part_port (component_at (with_counts d) j) (moved_by d (OfComponent j) p)) ≡ by_part (component_at d j) (part_port (component_at d j) p)
      same = by (nat_eq p (first_gained (component_at d j))) refl

  kind_width-moved : (kind : PlainKind) (p : ℕ) → IsKind d kind → p < kind_ports d kind → kind_width (with_counts d) kind (moved_by d kind p) ≡ kind_width d kind p
  kind_width-moved = kind_moved (Option ℕ) kind_width part_width (λ e q p. refl) (λ e j p. refl) (λ part new. refl) (λ part new n e. ap (λ decls. declared_width decls n) e)
      (λ part new n e. ap (option_map (λ decl. decl.width)) e) (λ part new. refl)

  kind_output-moved : (kind : PlainKind) (p : ℕ) → IsKind d kind → p < kind_ports d kind → is_kind_output (with_counts d) kind (moved_by d kind p) ≡ is_kind_output d kind p
  kind_output-moved = kind_moved Bool is_kind_output (λ part port. is_part_output port) (λ e q p. refl) (λ e j p. refl) (λ part new. refl) (λ part new n e. refl) (λ part new n e. refl) (λ part new. refl)

-- A MOVED PORT of a component beside the port
module _ (d : PlainDesign) (rules : IsDesign d) (k : ℕ) (there : k < length d.components) where
  some : 0 < length d.components
  some = omega arith

  some_more : 0 < length (with_counts d).components
  some_more = subst (λ n. 0 < n) (sym (components-length d)) some

  grown : IsGrown d k (component_at (with_counts d) k)
  grown = grown_at d k there

  kind_there : (c : ℕ) (cell : PlainCell) → slice_get (component_at d k).cells c ≡ Some cell → IsKind d cell.kind
  kind_there c cell at = ((rules.components k there).cells cell (in_at (component_at d k).cells c cell at)).kind

  number_moved : (c p : ℕ) (cell : PlainCell) → slice_get (component_at d k).cells c ≡ Some cell → moved_in d (component_at d k) (ports.Cell c p) ≡ ports.Cell c (moved_by d cell.kind p)
  number_moved c p cell at = ap (λ o. ports.Cell c (moved_number d o p)) at

  pub width_of-moved : (p : PortRef) → Names d (component_at d k) p → width_of (component_of (with_counts d) k) (moved_in d (component_at d k) p) ≡ width_of (component_of d k) p
  width_of-moved (ports.Cell c p) (cell, at, less) =
      ap (width_of (component_of (with_counts d) k)) (number_moved c p cell at)
      ∙ width_at (with_counts d) some_more k c cell (grown.cells c cell at) (moved_by d cell.kind p) ∙ kind_width-moved d cell.kind p (kind_there c cell at) less ∙ sym (width_at d some k c cell at p)
  width_of-moved (ports.Input n) less =
      ap (λ part. declared_width part.inputs n) (part_is (with_counts d) k) ∙ ap (λ decls. declared_width decls n) grown.inputs ∙ sym (ap (λ part. declared_width part.inputs n) (part_is d k))
  width_of-moved (ports.Output n) less =
      let x = there_at (component_at d k).outputs n less in
      ap (λ part. declared_width part.outputs n) (part_is (with_counts d) k) ∙ ap (option_map (λ decl. decl.width)) (grown.declared n x.0 x.1 ∙ sym x.1) ∙ sym (ap (λ part. declared_width part.outputs n) (part_is d k))
  width_of-moved (ports.Done g) less = refl
  width_of-moved (ports.Literal w v) less = refl

  pub written_width-moved : (p : PortRef) → Names d (component_at d k) p → written_width (component_of (with_counts d) k) (moved_in d (component_at d k) p) ≡ written_width (component_of d k) p
  written_width-moved (ports.Cell c p) names = width_of-moved (ports.Cell c p) names
  written_width-moved (ports.Input n) names = width_of-moved (ports.Input n) names
  written_width-moved (ports.Output n) names = width_of-moved (ports.Output n) names
  written_width-moved (ports.Done g) names = refl
  written_width-moved (ports.Literal w v) names = refl

  pub is_source_only-moved : (p : PortRef) → Names d (component_at d k) p → is_source_only (component_of (with_counts d) k) (moved_in d (component_at d k) p) ≡ is_source_only (component_of d k) p
  is_source_only-moved (ports.Cell c p) (cell, at, less) =
      ap (is_source_only (component_of (with_counts d) k)) (number_moved c p cell at)
      ∙ output_at (with_counts d) some_more k c cell (grown.cells c cell at) (moved_by d cell.kind p) ∙ kind_output-moved d cell.kind p (kind_there c cell at) less ∙ sym (output_at d some k c cell at p)
  is_source_only-moved (ports.Input n) names = refl
  is_source_only-moved (ports.Output n) names = refl
  is_source_only-moved (ports.Done g) names = refl
  is_source_only-moved (ports.Literal w v) names = refl

  pub is_target_only-moved : (p : PortRef) → Names d (component_at d k) p → is_target_only (component_of (with_counts d) k) (moved_in d (component_at d k) p) ≡ is_target_only (component_of d k) p
  is_target_only-moved (ports.Cell c p) names = ap not (is_source_only-moved (ports.Cell c p) names)
  is_target_only-moved (ports.Input n) names = refl
  is_target_only-moved (ports.Output n) names = refl
  is_target_only-moved (ports.Done g) names = refl
  is_target_only-moved (ports.Literal w v) names = refl
