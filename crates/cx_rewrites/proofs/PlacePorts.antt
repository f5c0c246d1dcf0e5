-- TESTS OF PORTS and what assignments name are the same apart from places.
use Rattle.std.proofs.Common.{◌≡◌, ℕ, ◌+◌, inl, inr, not, List, ◌∷◌, ◌++◌, map, refl, sym, ap, ◌∙◌, subst}
use Rattle.std.specs.Prelude.{is_some}
use Rattle.std.proofs.lemmas.List.{map-append}
use Rattle.cx_text.proofs.MemberLaws.{image_in, in_image}
use Rattle.cx_text.specs.Members.{In}
use Rattle.cx_prim.specs.Rows.{Row, is_output_side}
use Rattle.cx_meaning.specs.Rows.{side_of}
use Rattle.cx_meaning.specs.declared.ports.PortRef.{PortRef}
use Rattle.cx_meaning.specs.declared.ports.PortRef.TheVariants as ports
use Rattle.cx_meaning.specs.Designs.{PlainGuard, Always, Atom, Negation, All, Any, Compared, Within, PlainGuards, no_guards, a_guard, PlainAssign, PlainComponent}
use Rattle.cx_meaning.specs.Instances.{Instance, At, OfRow, part_of, cells_of, cell_at}
use Rattle.cx_meaning.specs.Sights.{GuardNames, AnyNames, PartPort, Go, AnInput, AnOutput, ItsDone, part_port}
use Rattle.cx_rules.specs.Ports.{declared_width, part_width, cell_width, width_of, written_width, is_part_output, is_cell_output, is_source_only, is_target_only, is_primitive_enable, is_instance, is_part_port}
use Rattle.cx_meaning.specs.Calls.{enables_at}
use Rattle.cx_rules.specs.Items.{atoms_of, atoms_in, comparisons_of, comparisons_in, operands_of, operands_in, ranges_of, ranges_in, guard_nodes, nodes_in, sources_of}
use Rattle.cx_rules.specs.Footprints.{AssignNames}
use Rattle.cx_rules.specs.InvokeShape.{latency_at, is_static_port}
use Rattle.cx_rewrites.specs.Places.{unplaced_port, unplaced_guard, unplaced_guards, unplaced_assign, SamePart}
use Rattle.cx_rewrites.proofs.PlaceLemmas.{SameTree, SameAt, none_there, a_row_there, a_child_there, same_at, same_parts, same_cells, part_port-same}

part_width-same : (part other : PlainComponent) → SamePart part other → (port : PartPort) → part_width part port ≡ part_width other port
part_width-same part other same Go = refl
part_width-same part other same (AnInput n) = ap (λ list. declared_width list n) same.inputs
part_width-same part other same (AnOutput n) = ap (λ list. declared_width list n) same.outputs
part_width-same part other same ItsDone = refl

cell_width-same : (at to : At) (p : ℕ) → SameAt at to → cell_width at p ≡ cell_width to p
cell_width-same at to p none_there = refl
cell_width-same at to p (a_row_there e) = ap (λ r. cell_width (OfRow r) p) e
cell_width-same at to p (a_child_there {child = child} {twin = twin} t) =
    part_width-same (part_of child) (part_of twin) (same_parts child twin t) (part_port (part_of child) p)
    ∙ ap (part_width (part_of twin)) (part_port-same (part_of child) (part_of twin) (same_parts child twin t) p)

is_cell_output-same : (at to : At) (p : ℕ) → SameAt at to → is_cell_output at p ≡ is_cell_output to p
is_cell_output-same at to p none_there = refl
is_cell_output-same at to p (a_row_there e) = ap (λ (r : Row). is_output_side (side_of r p)) e
is_cell_output-same at to p (a_child_there {child = child} {twin = twin} t) = ap is_part_output (part_port-same (part_of child) (part_of twin) (same_parts child twin t) p)

enables_cell-same : (at to : At) (p : ℕ) → SameAt at to → enables_at at p ≡ enables_at to p
enables_cell-same at to p none_there = refl
enables_cell-same at to p (a_row_there e) = ap (λ r. enables_at (OfRow r) p) e
enables_cell-same at to p (a_child_there t) = refl

is_instance-same : (at to : At) → SameAt at to → is_instance at ≡ is_instance to
is_instance-same at to none_there = refl
is_instance-same at to (a_row_there e) = refl
is_instance-same at to (a_child_there t) = refl

latency_at-same : (at to : At) → SameAt at to → latency_at at ≡ latency_at to
latency_at-same at to none_there = refl
latency_at-same at to (a_row_there e) = refl
latency_at-same at to (a_child_there {child = child} {twin = twin} t) = (same_parts child twin t).latency

module _ (i j : Instance) (t : SameTree i j) where
  at_is : (c : ℕ) → SameAt (cell_at (cells_of i) c) (cell_at (cells_of j) c)
  at_is c = same_at (cells_of i) (cells_of j) (same_cells i j t) c

  pub width_of-same : (p : PortRef) → width_of i p ≡ width_of j p
  width_of-same (ports.Cell c p) = cell_width-same (cell_at (cells_of i) c) (cell_at (cells_of j) c) p (at_is c)
  width_of-same (ports.Input n) = ap (λ list. declared_width list n) (same_parts i j t).inputs
  width_of-same (ports.Output n) = ap (λ list. declared_width list n) (same_parts i j t).outputs
  width_of-same (ports.Done g) = refl
  width_of-same (ports.Literal w v) = refl

  pub written_width-same : (p : PortRef) → written_width i p ≡ written_width j p
  written_width-same (ports.Cell c p) = width_of-same (ports.Cell c p)
  written_width-same (ports.Input n) = width_of-same (ports.Input n)
  written_width-same (ports.Output n) = width_of-same (ports.Output n)
  written_width-same (ports.Done g) = refl
  written_width-same (ports.Literal w v) = refl

  pub is_source_only-same : (p : PortRef) → is_source_only i p ≡ is_source_only j p
  is_source_only-same (ports.Cell c p) = is_cell_output-same (cell_at (cells_of i) c) (cell_at (cells_of j) c) p (at_is c)
  is_source_only-same (ports.Input n) = refl
  is_source_only-same (ports.Output n) = refl
  is_source_only-same (ports.Done g) = refl
  is_source_only-same (ports.Literal w v) = refl

  pub is_target_only-same : (p : PortRef) → is_target_only i p ≡ is_target_only j p
  is_target_only-same (ports.Cell c p) = ap not (is_cell_output-same (cell_at (cells_of i) c) (cell_at (cells_of j) c) p (at_is c))
  is_target_only-same (ports.Input n) = refl
  is_target_only-same (ports.Output n) = refl
  is_target_only-same (ports.Done g) = refl
  is_target_only-same (ports.Literal w v) = refl

  pub is_primitive_enable-same : (p : PortRef) → is_primitive_enable i p ≡ is_primitive_enable j p
  is_primitive_enable-same (ports.Cell c p) = enables_cell-same (cell_at (cells_of i) c) (cell_at (cells_of j) c) p (at_is c)
  is_primitive_enable-same (ports.Input n) = refl
  is_primitive_enable-same (ports.Output n) = refl
  is_primitive_enable-same (ports.Done g) = refl
  is_primitive_enable-same (ports.Literal w v) = refl

  pub is_part_port-same : (p : PortRef) → is_part_port i p ≡ is_part_port j p
  is_part_port-same (ports.Cell c p) = is_instance-same (cell_at (cells_of i) c) (cell_at (cells_of j) c) (at_is c)
  is_part_port-same (ports.Input n) = refl
  is_part_port-same (ports.Output n) = refl
  is_part_port-same (ports.Done g) = refl
  is_part_port-same (ports.Literal w v) = refl

  pub is_static_port-same : (p : PortRef) → is_static_port i p ≡ is_static_port j p
  is_static_port-same (ports.Cell c p) = ap is_some (latency_at-same (cell_at (cells_of i) c) (cell_at (cells_of j) c) (at_is c))
  is_static_port-same (ports.Input n) = refl
  is_static_port-same (ports.Output n) = refl
  is_static_port-same (ports.Done g) = refl
  is_static_port-same (ports.Literal w v) = refl

-- WHAT STANDS IN A GUARD
mutual
  pub comparisons_of-unplaced : (g : PlainGuard) → comparisons_of (unplaced_guard g) ≡ comparisons_of g
  comparisons_of-unplaced Always = refl
  comparisons_of-unplaced (Atom p) = refl
  comparisons_of-unplaced (Negation g) = comparisons_of-unplaced g
  comparisons_of-unplaced (All gs) = comparisons_in-unplaced gs
  comparisons_of-unplaced (Any gs) = comparisons_in-unplaced gs
  comparisons_of-unplaced (Compared c a b) = refl
  comparisons_of-unplaced (Within from to) = refl

  comparisons_in-unplaced : (gs : PlainGuards) → comparisons_in (unplaced_guards gs) ≡ comparisons_in gs
  comparisons_in-unplaced no_guards = refl
  comparisons_in-unplaced (a_guard g gs) = ap (λ list. list ++ comparisons_in (unplaced_guards gs)) (comparisons_of-unplaced g) ∙ ap (λ list. comparisons_of g ++ list) (comparisons_in-unplaced gs)

mutual
  pub ranges_of-unplaced : (g : PlainGuard) → ranges_of (unplaced_guard g) ≡ ranges_of g
  ranges_of-unplaced Always = refl
  ranges_of-unplaced (Atom p) = refl
  ranges_of-unplaced (Negation g) = ranges_of-unplaced g
  ranges_of-unplaced (All gs) = ranges_in-unplaced gs
  ranges_of-unplaced (Any gs) = ranges_in-unplaced gs
  ranges_of-unplaced (Compared c a b) = refl
  ranges_of-unplaced (Within from to) = refl

  ranges_in-unplaced : (gs : PlainGuards) → ranges_in (unplaced_guards gs) ≡ ranges_in gs
  ranges_in-unplaced no_guards = refl
  ranges_in-unplaced (a_guard g gs) = ap (λ list. list ++ ranges_in (unplaced_guards gs)) (ranges_of-unplaced g) ∙ ap (λ list. ranges_of g ++ list) (ranges_in-unplaced gs)

mutual
  pub atoms_of-unplaced : (g : PlainGuard) → atoms_of (unplaced_guard g) ≡ map unplaced_port (atoms_of g)
  atoms_of-unplaced Always = refl
  atoms_of-unplaced (Atom p) = refl
  atoms_of-unplaced (Negation g) = atoms_of-unplaced g
  atoms_of-unplaced (All gs) = atoms_in-unplaced gs
  atoms_of-unplaced (Any gs) = atoms_in-unplaced gs
  atoms_of-unplaced (Compared c a b) = refl
  atoms_of-unplaced (Within from to) = refl

  atoms_in-unplaced : (gs : PlainGuards) → atoms_in (unplaced_guards gs) ≡ map unplaced_port (atoms_in gs)
  atoms_in-unplaced no_guards = refl
  atoms_in-unplaced (a_guard g gs) =
      ap (λ list. list ++ atoms_in (unplaced_guards gs)) (atoms_of-unplaced g) ∙ ap (λ list. map unplaced_port (atoms_of g) ++ list) (atoms_in-unplaced gs) ∙ sym (map-append unplaced_port (atoms_of g) (atoms_in gs))

mutual
  pub operands_of-unplaced : (g : PlainGuard) → operands_of (unplaced_guard g) ≡ map unplaced_port (operands_of g)
  operands_of-unplaced Always = refl
  operands_of-unplaced (Atom p) = refl
  operands_of-unplaced (Negation g) = operands_of-unplaced g
  operands_of-unplaced (All gs) = operands_in-unplaced gs
  operands_of-unplaced (Any gs) = operands_in-unplaced gs
  operands_of-unplaced (Compared c a b) = refl
  operands_of-unplaced (Within from to) = refl

  operands_in-unplaced : (gs : PlainGuards) → operands_in (unplaced_guards gs) ≡ map unplaced_port (operands_in gs)
  operands_in-unplaced no_guards = refl
  operands_in-unplaced (a_guard g gs) =
      ap (λ list. list ++ operands_in (unplaced_guards gs)) (operands_of-unplaced g) ∙ ap (λ list. map unplaced_port (operands_of g) ++ list) (operands_in-unplaced gs)
      ∙ sym (map-append unplaced_port (operands_of g) (operands_in gs))

mutual
  pub guard_nodes-unplaced : (g : PlainGuard) → guard_nodes (unplaced_guard g) ≡ guard_nodes g
  guard_nodes-unplaced Always = refl
  guard_nodes-unplaced (Atom p) = refl
  guard_nodes-unplaced (Negation g) = ap (λ n. 1 + n) (guard_nodes-unplaced g)
  guard_nodes-unplaced (All gs) = ap (λ n. 1 + n) (nodes_in-unplaced gs)
  guard_nodes-unplaced (Any gs) = ap (λ n. 1 + n) (nodes_in-unplaced gs)
  guard_nodes-unplaced (Compared c a b) = refl
  guard_nodes-unplaced (Within from to) = refl

  nodes_in-unplaced : (gs : PlainGuards) → nodes_in (unplaced_guards gs) ≡ nodes_in gs
  nodes_in-unplaced no_guards = refl
  nodes_in-unplaced (a_guard g gs) = ap (λ n. n + nodes_in (unplaced_guards gs)) (guard_nodes-unplaced g) ∙ ap (λ n. guard_nodes g + n) (nodes_in-unplaced gs)

-- what a guard names, without places and with them
mutual
  names_out : (g : PlainGuard) (q : PortRef) → GuardNames g q → GuardNames (unplaced_guard g) q
  names_out Always q n = n
  names_out (Atom p) q n = n
  names_out (Negation g) q n = names_out g q n
  names_out (All gs) q n = any_out gs q n
  names_out (Any gs) q n = any_out gs q n
  names_out (Compared c a b) q n = n
  names_out (Within from to) q n = n

  any_out : (gs : PlainGuards) (q : PortRef) → AnyNames gs q → AnyNames (unplaced_guards gs) q
  any_out no_guards q n = n
  any_out (a_guard g gs) q (inl n) = inl (names_out g q n)
  any_out (a_guard g gs) q (inr n) = inr (any_out gs q n)

mutual
  names_in : (g : PlainGuard) (q : PortRef) → GuardNames (unplaced_guard g) q → GuardNames g q
  names_in Always q n = n
  names_in (Atom p) q n = n
  names_in (Negation g) q n = names_in g q n
  names_in (All gs) q n = any_in gs q n
  names_in (Any gs) q n = any_in gs q n
  names_in (Compared c a b) q n = n
  names_in (Within from to) q n = n

  any_in : (gs : PlainGuards) (q : PortRef) → AnyNames (unplaced_guards gs) q → AnyNames gs q
  any_in no_guards q n = n
  any_in (a_guard g gs) q (inl n) = inl (names_in g q n)
  any_in (a_guard g gs) q (inr n) = inr (any_in gs q n)

-- AN ASSIGNMENT AND THE SAME ONE at another place
module _ (a b : PlainAssign) (e : unplaced_assign a ≡ unplaced_assign b) where
  pub target_is : a.target ≡ b.target
  target_is = ap (λ (x : PlainAssign). x.target) e

  pub source_is : a.source.port ≡ b.source.port
  source_is = ap (λ (x : PlainAssign). x.source.port) e

  pub guard_is : unplaced_guard a.guard ≡ unplaced_guard b.guard
  guard_is = ap (λ (x : PlainAssign). x.guard) e

  pub names_same : (q : PortRef) → AssignNames a q → AssignNames b q
  names_same q (inl n) = inl (names_in b.guard q (subst (λ g. GuardNames g q) guard_is (names_out a.guard q n)))
  names_same q (inr n) = inr (sym source_is ∙ n)

  pub sources_of-same : map unplaced_port (sources_of a) ≡ map unplaced_port (sources_of b)
  sources_of-same =
      ap (λ p. unplaced_port a.source ∷ p) (sym (operands_of-unplaced a.guard) ∙ ap operands_of guard_is ∙ operands_of-unplaced b.guard)
      ∙ ap (λ (x : PlainAssign). x.source ∷ map unplaced_port (operands_of b.guard)) e

pub twin_in : {A B : Type 0} (f : A → B) (list other : List A) (x : A) → map f list ≡ map f other → In list x → (y : A) × In other y × (f x ≡ f y)
twin_in f list other x e i = let r = image_in f other (f x) (subst (λ l. In l (f x)) e (in_image f list x i)) in (r.0, r.1, sym r.2)
