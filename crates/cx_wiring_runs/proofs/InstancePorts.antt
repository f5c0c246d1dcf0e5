-- What the rules of acceptance say of the ports of an instance: those that its assignments and tests name are there and no holes, its
-- literals fit, what stands alone in a guard or a test is of one bit, and a guard looks at the offset of its group where that is static.
use Rattle.std.proofs.Common.{◌≡◌, inl, inr, ℕ, zero, suc, ◌<◌, Bool, true, false, not, ◌||◌, if◌then◌else◌, List, [], ◌∷◌, length, Option, Some, None, refl, sym, ap, ◌∙◌, subst, arith}
use Rattle.std.specs.Prelude.{nat_eq, slice_get}
use Rattle.std.proofs.lemmas.Bool.{eqb-true}
use Rattle.cx_text.proofs.MemberLaws.{number_in}
use Rattle.cx_text.specs.declared.rules.Rule.TheVariants as rules
use Rattle.cx_prim.specs.Rows.{Row}
use Rattle.cx_prim.specs.Table.{PrimitiveRow, row_of}
use Rattle.cx_meaning.specs.declared.ports.PortRef.{PortRef}
use Rattle.cx_meaning.specs.declared.ports.PortRef.TheVariants as ports
use Rattle.cx_meaning.specs.declared.ports.PlacedPort.{PlacedPort}
use Rattle.cx_meaning.specs.Designs.{PlainKind, OfPrimitive, OfComponent, PlainCell, PlainComponent, PlainDesign, component_at, group_at}
use Rattle.cx_meaning.specs.Instances.{Instance, OfRow, OfInstance, cell_at, cells_of, part_of, add_cell, cells_for, tree_within, tree_of, Path, instance_at}
use Rattle.cx_meaning.specs.Active.{Owned, source_order}
use Rattle.cx_text.specs.Members.{In}
use Rattle.cx_meaning.specs.Islands.{group_length}
use Rattle.cx_rules.specs.Ports.{component_of, written_width, is_source_only, path_of}
use Rattle.cx_rules.specs.Items.{atoms_of, Range, ranges_of, sources_of, Visited, statements_in, test_in}
use Rattle.cx_rules.specs.WidthRules.{differ, is_wide, first_wide, IsBadLiteral}
use Rattle.cx_rules.specs.ShapeRules.{is_hole, some_target, owner_length, is_bad_range}
use Rattle.cx_rules.specs.Spots.{AnAssign, AStatement, AGroup}
use Rattle.cx_rules.specs.Flat.{IsFlat}
use Rattle.cx_rules.specs.Accepted.{IsAccepted}
use Rattle.cx_rules.specs.Wellformed.{IsThere, IsAssign, IsForm, IsDesign, IsKind, StandsIn}
use Rattle.cx_wiring.proofs.WholeInstances.{IsWhole, of_component, of_nothing, instance_whole, cells_alike, alike_there, alike_written, alike_source}
use Rattle.cx_wiring.proofs.DesignNames.{stands_in}
use Rattle.cx_laws.proofs.TreeLemmas.{cell_there, declared_there}
use Rattle.cx_rules.proofs.ShapeRulesLemmas.{some_in}
use Rattle.cx_rules.proofs.ItemsLemmas.{bare_test, atoms_are_operands, bare_form}
use Rattle.cx_meaning.proofs.DesignsLemmas.{same_part}
use Rattle.cx_meaning.proofs.InstancesLemmas.{instance_is, row_is}

-- a port that a statement or an assignment names
pub record IsNamed (i : Instance) (p : PortRef) : Type 0 where
  pub there : IsThere i p
  pub no_hole : is_hole p ≡ false
  pub literal : IsBadLiteral p → ⊥

-- a port of a cell, an output, a done
abbrev pub IsTarget : PortRef → Type 0
IsTarget (ports.Cell c p) = Unit {0}
IsTarget (ports.Input n) = ⊥
IsTarget (ports.Output n) = Unit {0}
IsTarget (ports.Done g) = Unit {0}
IsTarget (ports.Literal w v) = ⊥

-- the group is static, and goes so many cycles
pub record IsStatic (part : PlainComponent) (owner : Option ℕ) : Type 0 where
  pub group : ℕ
  pub cycles : ℕ
  pub owns : owner ≡ Some group
  pub is : group_length part group ≡ Some cycles

-- OF AN ASSIGNMENT
pub record AssignRules (i : Instance) (o : Owned) : Type 0 where
  pub target : IsThere i o.assign.target
  pub is_target : IsTarget o.assign.target
  pub no_source : is_source_only i o.assign.target ≡ false
  pub owner : (g : ℕ) → o.owner ≡ Some g → g < length (part_of i).groups
  pub own_hole : (g : ℕ) → o.assign.target ≡ ports.Done g → o.owner ≡ Some g
  pub source : (p : PlacedPort) → In (sources_of o.assign) p → IsNamed i p.port
  pub atom : (p : PlacedPort) → In (atoms_of o.assign.guard) p → written_width i p.port ≡ Some 1
  pub range : (r : Range) → In (ranges_of o.assign.guard) r → IsStatic (part_of i) o.owner
  pub static_hole : IsStatic (part_of i) o.owner → is_hole o.assign.target ≡ true → ⊥

-- OF A TEST
pub record TestRules (i : Instance) (p : PortRef) : Type 0 where
  pub named : IsNamed i p
  pub one_bit : written_width i p ≡ Some 1

-- a cell is what its component names
pub record RowOf (part : PlainComponent) (c : ℕ) (row : Row) : Type 0 where
  pub cell : PlainCell
  pub primitive : PrimitiveRow
  pub stands : slice_get part.cells c ≡ Some cell
  pub kind : cell.kind ≡ OfPrimitive primitive
  pub is : row_of primitive ≡ row

pub record ChildOf (d : PlainDesign) (part : PlainComponent) (c : ℕ) (child : Instance) : Type 0 where
  pub cell : PlainCell
  pub component : ℕ
  pub stands : slice_get part.cells c ≡ Some cell
  pub kind : cell.kind ≡ OfComponent component
  pub within : component < length d.components
  pub is : part_of child ≡ component_at d component

pub record PortRules (d : PlainDesign) (i : Instance) : Type 0 where
  pub forms : (v : Visited) → In (statements_in (part_of i)) v → IsForm (part_of i) v.form
  pub assigns : (o : Owned) → In (source_order (part_of i)) o → AssignRules i o
  pub tests : (v : Visited) (p : PlacedPort) → In (statements_in (part_of i)) v → test_in v.form ≡ Some p → TestRules i p.port
  pub rows : (c : ℕ) (row : Row) → cell_at (cells_of i) c ≡ OfRow row → RowOf (part_of i) c row
  pub children : (c : ℕ) (child : Instance) → cell_at (cells_of i) c ≡ OfInstance child → ChildOf d (part_of i) c child

-- CELLS
module _ (d : PlainDesign) (n : ℕ) where
  row_at : (cells : List PlainCell) (c : ℕ) (row : Row) → cell_at (cells_for (tree_within d n) cells) c ≡ OfRow row
      → (cell : PlainCell) × (p : PrimitiveRow) × (slice_get cells c ≡ Some cell) × (cell.kind ≡ OfPrimitive p) × (row_of p ≡ row)
  row_at [] c row e = absurd (cc)
  row_at (cell ∷ cells) c row e = by_kind cell.kind refl c e (row_at cells)
    where
      by_kind : (kind : PlainKind) → cell.kind ≡ kind → (c : ℕ) → cell_at (add_cell (tree_within d n) kind (cells_for (tree_within d n) cells)) c ≡ OfRow row
          → ((m : ℕ) (r : Row) → cell_at (cells_for (tree_within d n) cells) m ≡ OfRow r → (x : PlainCell) × (p : PrimitiveRow) × (slice_get cells m ≡ Some x) × (x.kind ≡ OfPrimitive p) × (row_of p ≡ r))
          → (x : PlainCell) × (p : PrimitiveRow) × (slice_get (cell ∷ cells) c ≡ Some x) × (x.kind ≡ OfPrimitive p) × (row_of p ≡ row)
      by_kind (OfPrimitive p) is zero f later = (cell, p, refl, is, row_is (row_of p) row f)
      by_kind (OfPrimitive p) is (suc m) f later = later m row f
      by_kind (OfComponent k) is zero f later = absurd (cc)
      by_kind (OfComponent k) is (suc m) f later = later m row f

  child_at_cell : (cells : List PlainCell) (c : ℕ) (child : Instance) → cell_at (cells_for (tree_within d n) cells) c ≡ OfInstance child → ((cell : PlainCell) → In cells cell → IsKind d cell.kind)
      → (cell : PlainCell) × (k : ℕ) × (slice_get cells c ≡ Some cell) × (cell.kind ≡ OfComponent k) × (k < length d.components) × (part_of child ≡ component_at d k)
  child_at_cell [] c child e each = absurd (cc)
  child_at_cell (cell ∷ cells) c child e each = by_kind cell.kind refl (each cell (inl refl)) c e (λ m x f. child_at_cell cells m x f (λ y i. each y (inr i)))
    where
      by_kind : (kind : PlainKind) → cell.kind ≡ kind → IsKind d kind → (c : ℕ) → cell_at (add_cell (tree_within d n) kind (cells_for (tree_within d n) cells)) c ≡ OfInstance child
          → ((m : ℕ) (x : Instance) → cell_at (cells_for (tree_within d n) cells) m ≡ OfInstance x
          → (y : PlainCell) × (k : ℕ) × (slice_get cells m ≡ Some y) × (y.kind ≡ OfComponent k) × (k < length d.components) × (part_of x ≡ component_at d k))
          → (y : PlainCell) × (k : ℕ) × (slice_get (cell ∷ cells) c ≡ Some y) × (y.kind ≡ OfComponent k) × (k < length d.components) × (part_of child ≡ component_at d k)
      by_kind (OfPrimitive p) is has zero f later = absurd (cc)
      by_kind (OfPrimitive p) is has (suc m) f later = later m child f
      by_kind (OfComponent k) is has zero f later = (cell, k, refl, is, has, ap part_of (sym (instance_is (tree_within d n k) child f)) ∙ same_part d n k)
      by_kind (OfComponent k) is has (suc m) f later = later m child f

pub written_there : (i : Instance) (p : PortRef) → IsThere i p → (w : ℕ) × (written_width i p ≡ Some w)
written_there i (ports.Cell c p) h = cell_there (cell_at (cells_of i) c) p h.1
written_there i (ports.Input n) h = declared_there (part_of i).inputs n h
written_there i (ports.Output n) h = declared_there (part_of i).outputs n h
written_there i (ports.Done g) h = (1, refl)
written_there i (ports.Literal w v) h = (w, refl)

narrow : (o : Option ℕ) (w : ℕ) → o ≡ Some w → differ o (Some 1) ≡ false → o ≡ Some 1
narrow o w e f = let equal : w ≡ 1 = eqb-true w 1 (unnot (nat_eq w 1) (ap (λ x. differ x (Some 1)) (sym e) ∙ f)) in e ∙ ap Some equal
  where
    unnot : (b : Bool) → not b ≡ false → b ≡ true
    unnot true g = refl
    unnot false g = absurd (cc)

wide_among : (i : Instance) (ps : List PlacedPort) (p : PlacedPort) → In ps p → is_wide i p.port ≡ true → (q : PortRef) × (first_wide i ps ≡ Some q)
wide_among i [] p j e = absurd j
wide_among i (x ∷ xs) p (inl same) e = (x.port, ap (λ b. if b then Some x.port else first_wide i xs) (ap (λ y. is_wide i y.port) same ∙ e))
wide_among i (x ∷ xs) p (inr j) e = by (is_wide i x.port) (wide_among i xs p j e)
  where
    by : (b : Bool) → (q : PortRef) × (first_wide i xs ≡ Some q) → (q : PortRef) × ((if b then Some x.port else first_wide i xs) ≡ Some q)
    by true later = (x.port, refl)
    by false later = later

-- A COMPONENT of an accepted design
module _ (d : PlainDesign) (design : IsDesign d) (flat : IsFlat d) (accepted : IsAccepted d) (k : ℕ) (within : k < length d.components) where
  whole : Instance
  whole = component_of d k

  module _ (o : Owned) (i : In (source_order (component_at d k)) o) where
    is : IsAssign (component_of d k) o.owner o.assign
    is = (design.components k within).assigns o.owner o.assign (stands_in (component_at d k) o i)

    number : (n : ℕ) × (slice_get (source_order (component_at d k)) n ≡ Some o)
    number = number_in (source_order (component_at d k)) o i

    named : (p : PlacedPort) → In (sources_of o.assign) p → IsNamed (component_of d k) p.port
    named p j = record {
      there = is.sources p j;
      no_hole = is.no_hole p j;
      literal = λ bad. accepted.widths rules.Literal (record { component = k; part = AnAssign number.0 }) p.place [] refl
          (inl (record { within = within; number = number.0; is = refl; assign = o; stands = number.1; breaks = (p, j, bad, (refl, refl)) }));
    }

    atom : (p : PlacedPort) → In (atoms_of o.assign.guard) p → written_width (component_of d k) p.port ≡ Some 1
    atom p j = let w = written_there (component_of d k) p.port (is.sources p (inr (atoms_are_operands o.assign.guard p j))) in narrow (written_width (component_of d k) p.port) w.0 w.1 (by (is_wide (component_of d k) p.port) refl)
      where
        by : (b : Bool) → is_wide (component_of d k) p.port ≡ b → b ≡ false
        by false e = refl
        by true e =
            let first = wide_among (component_of d k) (atoms_of o.assign.guard) p j e in
            absurd (accepted.widths rules.GuardWidth (record { component = k; part = AnAssign number.0 }) o.assign.place (path_of (component_of d k) first.0) refl
            (inl (record { within = within; number = number.0; is = refl; assign = o; stands = number.1; breaks = (first.0, first.1, (refl, refl)) })))

    no_source : is_source_only (component_of d k) o.assign.target ≡ false
    no_source = by (is_source_only (component_of d k) o.assign.target) refl
      where
        by : (b : Bool) → is_source_only (component_of d k) o.assign.target ≡ b → b ≡ false
        by false e = refl
        by true e =
            absurd (accepted.widths rules.NotATarget (record { component = k; part = AnAssign number.0 }) o.assign.place (path_of (component_of d k) o.assign.target) refl
            (inl (record { within = within; number = number.0; is = refl; assign = o; stands = number.1; breaks = (e, (refl, refl)) })))

    no_input : (n : ℕ) → o.assign.target ≡ ports.Input n → ⊥
    no_input n e = let no = sym no_source ∙ ap (is_source_only (component_of d k)) e in absurd cc

    is_target : (p : PortRef) → o.assign.target ≡ p → IsTarget p
    is_target (ports.Cell c p) e = tt
    is_target (ports.Input n) e = no_input n e
    is_target (ports.Output n) e = tt
    is_target (ports.Done g) e = tt
    is_target (ports.Literal w v) e = is.no_literal w v e

    range : (r : Range) → In (ranges_of o.assign.guard) r → IsStatic (component_at d k) o.owner
    range r j = by_owner o.owner refl
      where
        breaks : is_bad_range (owner_length (component_at d k) o.owner) r ≡ true → ⊥
        breaks bad =
            accepted.shapes rules.StaticGuard (record { component = k; part = AnAssign number.0 }) o.assign.place (path_of (component_of d k) o.assign.target) refl
            (record {
              within = within;
              number = number.0;
              is = refl;
              assign = o;
              stands = number.1;
              breaks = (r, j, ap (λ x. is_bad_range (owner_length x o.owner) r) (same_part d (length d.components) k) ∙ bad, (refl, refl));
            })

        by_length : (g : ℕ) → o.owner ≡ Some g → (n : Option ℕ) → group_length (component_at d k) g ≡ n → IsStatic (component_at d k) o.owner
        by_length g e None f = absurd (breaks (ap (λ w. is_bad_range (owner_length (component_at d k) w) r) e ∙ ap (λ n. is_bad_range n r) f))
        by_length g e (Some n) f = record { group = g; cycles = n; owns = e; is = f }

        by_owner : (w : Option ℕ) → o.owner ≡ w → IsStatic (component_at d k) o.owner
        by_owner None e = absurd (breaks (ap (λ w. is_bad_range (owner_length (component_at d k) w) r) e))
        by_owner (Some g) e = by_length g e (group_length (component_at d k) g) refl

    owner_there : (g : ℕ) → o.owner ≡ Some g → (g < length (component_at d k).groups) × In (group_at (component_at d k) g).assigns o.assign
    owner_there g e = subst (λ w. StandsIn (component_at d k) w o.assign) e (stands_in (component_at d k) o i)

    static_hole : IsStatic (component_at d k) o.owner → is_hole o.assign.target ≡ true → ⊥
    static_hole static e =
        let there = owner_there static.group static.owns in
        accepted.shapes rules.StaticShape (record { component = k; part = AGroup static.group }) (group_at (part_of (component_of d k)) static.group).place (group_at (part_of (component_of d k)) static.group).name refl
        (inl (record {
          within = within;
          number = static.group;
          is = refl;
          stands = there.0;
          breaks = (
            static.cycles,
            ap (λ x. group_length x static.group) (same_part d (length d.components) k) ∙ static.is,
            ap (λ x. some_target is_hole (group_at x static.group).assigns || nat_eq static.cycles 0) (same_part d (length d.components) k)
                ∙ ap (λ b. b || nat_eq static.cycles 0) (some_in is_hole (group_at (component_at d k) static.group).assigns o.assign there.1 e),
            (refl, refl),
          );
        }))

  module _ (v : Visited) (p : PlacedPort) (i : In (statements_in (component_at d k)) v) (e : test_in v.form ≡ Some p) where
    place : (n : ℕ) × (slice_get (statements_in (component_at d k)) n ≡ Some v)
    place = number_in (statements_in (component_at d k)) v i

    test_named : IsNamed (component_of d k) p.port
    test_named = record {
      there = ((design.components k within).statements v i).test p e;
      no_hole = ((design.components k within).statements v i).no_hole p e;
      literal = λ bad. accepted.widths rules.Literal (record { component = k; part = AStatement place.0 }) p.place [] refl
          (inr (inl (record { within = within; number = place.0; is = refl; statement = v; stands = place.1; breaks = (p, e, bad, (refl, refl)) })));
    }

    test_narrow : written_width (component_of d k) p.port ≡ Some 1
    test_narrow = let w = written_there (component_of d k) p.port test_named.there in narrow (written_width (component_of d k) p.port) w.0 w.1 (by (is_wide (component_of d k) p.port) refl)
      where
        by : (b : Bool) → is_wide (component_of d k) p.port ≡ b → b ≡ false
        by false f = refl
        by true f =
            absurd (accepted.widths rules.GuardWidth (record { component = k; part = AStatement place.0 }) v.place (path_of (component_of d k) p.port) refl
            (inr (inl (record { within = within; number = place.0; is = refl; statement = v; stands = place.1; breaks = (p, e, f, (refl, refl)) }))))

  -- AN INSTANCE of it
  module _ (m n : ℕ) (count : length d.components ≡ suc n) where
    abbrev I : Instance
    I = tree_within d (suc m) k

    there_too : (p : PortRef) → IsThere (component_of d k) p → IsThere (tree_within d (suc m) k) p
    there_too p h =
        alike_there (component_at d k) (cells_for (tree_within d m) (component_at d k).cells) (cells_for (tree_within d n) (component_at d k).cells)
        (cells_alike (tree_within d m) (tree_within d n) (λ j. same_part d m j ∙ sym (same_part d n j)) (component_at d k).cells) p (subst (λ x. IsThere (tree_within d x k) p) count h)

    written_too : (p : PortRef) → written_width (component_of d k) p ≡ Some 1 → written_width (tree_within d (suc m) k) p ≡ Some 1
    written_too p h =
        alike_written (component_at d k) (cells_for (tree_within d m) (component_at d k).cells) (cells_for (tree_within d n) (component_at d k).cells)
        (cells_alike (tree_within d m) (tree_within d n) (λ j. same_part d m j ∙ sym (same_part d n j)) (component_at d k).cells) p ∙ subst (λ x. written_width (tree_within d x k) p ≡ Some 1) count h

    source_too : (p : PortRef) → is_source_only (component_of d k) p ≡ false → is_source_only (tree_within d (suc m) k) p ≡ false
    source_too p h =
        alike_source (component_at d k) (cells_for (tree_within d m) (component_at d k).cells) (cells_for (tree_within d n) (component_at d k).cells)
        (cells_alike (tree_within d m) (tree_within d n) (λ j. same_part d m j ∙ sym (same_part d n j)) (component_at d k).cells) p ∙ subst (λ x. is_source_only (tree_within d x k) p ≡ false) count h

    named_too : (p : PortRef) → IsNamed (component_of d k) p → IsNamed (tree_within d (suc m) k) p
    named_too p h = record { there = there_too p h.there; no_hole = h.no_hole; literal = h.literal }

    tree_rules : PortRules d (tree_within d (suc m) k)
    tree_rules = record {
      forms = λ v i. subst (λ x. IsForm x v.form) (same_part d (length d.components) k) ((design.components k within).statements v i).form;
      assigns = λ o i. record {
        target = there_too o.assign.target (is o i).target;
        is_target = is_target o i o.assign.target refl;
        no_source = source_too o.assign.target (no_source o i);
        owner = λ g e. (owner_there o i g e).0;
        own_hole = (is o i).own_hole;
        source = λ p j. named_too p.port (named o i p j);
        atom = λ p j. written_too p.port (atom o i p j);
        range = range o i;
        static_hole = static_hole o i;
      };
      tests = λ v p i e. record { named = named_too p.port (test_named v p i e); one_bit = written_too p.port (test_narrow v p i e) };
      rows = λ c row e. let r = row_at d m (component_at d k).cells c row e in record { cell = r.0; primitive = r.1; stands = r.2; kind = r.3; is = r.4 };
      children = λ c child e.
          let r = child_at_cell d m (component_at d k).cells c child e (λ cell j. ((design.components k within).cells cell j).kind) in
          record { cell = r.0; component = r.1; stands = r.2; kind = r.3; within = r.4; is = r.5 };
    }

pub some_components : (k n : ℕ) → k < n → (m : ℕ) × (n ≡ suc m)
some_components k zero h = absurd (omega arith)
some_components k (suc m) h = (m, refl)

-- EVERY INSTANCE of an accepted design's tree
pub port_rules : (d : PlainDesign) → IsDesign d → IsFlat d → IsAccepted d → (path : Path) → PortRules d (instance_at (tree_of d) path)
port_rules d design flat accepted path = by (instance_whole d design path)
  where
    by : {i : Instance} → IsWhole d i → PortRules d i
    by (of_component m k within) = let n = some_components k (length d.components) within in tree_rules d design flat accepted k within m n.0 n.1
    by of_nothing = record {
      forms = bare_form;
      assigns = λ o i. absurd i;
      tests = λ v p i e. absurd (bare_test v p i e);
      rows = λ c row e. absurd (cc);
      children = λ c child e. absurd (cc);
    }
