-- A component of the tree beside the instrumented one: what drives its moved ports, and each of its cells.
use Rattle.std.proofs.Common.{◌≡◌, ℕ, suc, ◌+◌, ◌*◌, ◌<◌, ◌≤◌, List, [], ◌++◌, length, map, Option, Some, None, slice_get, sym, ap, ◌∙◌, subst, arith}
use Rattle.cx_text.proofs.MemberLaws.{in_at, in_left, in_right}
use Rattle.cx_text.specs.Members.{In}
use Rattle.cx_text.proofs.ListLaws.{there_at}
use Rattle.cx_prim.specs.Rows.{Row}
use Rattle.cx_prim.specs.Table.{row_of}
use Rattle.cx_meaning.specs.declared.ports.PortRef.{PortRef}
use Rattle.cx_meaning.specs.declared.ports.PortRef.TheVariants as ports
use Rattle.cx_meaning.specs.Designs.{PlainCell, PlainGroup, PlainComponent, PlainDesign, OfComponent, component_at}
use Rattle.cx_meaning.specs.Instances.{OfRow, OfInstance, cell_at, cells_of, part_of, tree_within}
use Rattle.cx_meaning.specs.Active.{Active, Owned, owned, owned_by_groups, drivers}
use Rattle.cx_meaning.specs.Sights.{part_port}
use Rattle.cx_meaning.proofs.DesignsLemmas.{same_part}
use Rattle.cx_rules.specs.Ports.{component_of}
use Rattle.cx_rules.specs.Wellformed.{IsDesign}
use Rattle.cx_rewrites.specs.Moving.{moved_acting}
use Rattle.cx_rewrites.specs.Driving.{assigns_of}
use Rattle.cx_flattening.proofs.TreeLevels.{child_there}
use Rattle.cx_profiling.specs.Counters.{counters, shown_in, first_gained}
use Rattle.cx_profiling.specs.Instrumented.{gained, moved_number, moved_in, counted_groups, store_groups, address_width, with_counts}
use Rattle.cx_profiling.proofs.ListedCells.{at_row, at_component, CellIs, is_none, is_primitive, is_component, cell_is}
use Rattle.cx_profiling.proofs.PortLemmas.{IsInside, moved-primitive, moved-component, grown_number}
use Rattle.cx_profiling.proofs.WalkLemmas.{groups_joined, Walk, nothing_more, counted_walk, kept_walk, store_walk, outputs_walk, bare_walk, both_walk, walk_drives}
use Rattle.cx_profiling.proofs.GainedLemmas.{grown_at, counted_groups-length}
use Rattle.cx_profiling.proofs.RoleLemmas.{Role, as_main, as_child, as_kept, role}
use Rattle.cx_profiling.proofs.CellPorts.{ports_alike}
use Rattle.cx_profiling.proofs.InsideLemmas.{targets_inside}

module _ (d : PlainDesign) (design : IsDesign d) (k : ℕ) (within : k < length d.components) where
  abbrev part : PlainComponent
  part = component_at d k

  abbrev other : PlainComponent
  other = component_at (with_counts d) k

  -- the groups that store counts, of main
  abbrev pub stored : List (List ℕ) → List PlainGroup
  stored names = store_groups part.place names (length part.cells + 2 * length (counters (component_of d k))) (address_width (length (shown_in (component_of d k)))) (suc (2 * length (counters (component_of d k)))) (length part.groups) 0 (shown_in (component_of d k))

  -- THE ASSIGNMENTS of the component, moved, and new ones
  pub whole_walk : Walk d part (assigns_of part) (assigns_of other)
  whole_walk = by (role d k within)
    where
      always_inside : (o : Owned) → In (owned None part.always) o → IsInside d part o.assign.target
      always_inside o i = targets_inside d design k within o (in_left (owned None part.always) (owned_by_groups 0 part.groups) o i)

      groups_inside : (o : Owned) → In (owned_by_groups 0 part.groups) o → IsInside d part o.assign.target
      groups_inside o i = targets_inside d design k within o (in_right (owned None part.always) (owned_by_groups 0 part.groups) o i)

      counted : Walk d part (owned_by_groups 0 part.groups) (owned_by_groups 0 (counted_groups d part (cells_of (component_of d k)) (length part.cells) part.groups))
      counted = counted_walk d part (cells_of (component_of d k)) (length part.cells) 0 part.groups (omega arith) groups_inside

      stores : (names : List (List ℕ)) → Walk d part [] (owned_by_groups (length part.groups) (stored names))
      stores names =
          store_walk d part part.place names (length part.cells + 2 * length (counters (component_of d k))) (address_width (length (shown_in (component_of d k)))) (suc (2 * length (counters (component_of d k)))) (length part.groups) 0 (shown_in (component_of d k))
          (omega arith) (omega arith)

      count : 0 + length (counted_groups d part (cells_of (component_of d k)) (length part.cells) part.groups) ≡ length part.groups
      count = let same : length (counted_groups d part (cells_of (component_of d k)) (length part.cells) part.groups) ≡ length part.groups = counted_groups-length d part (cells_of (component_of d k)) (length part.cells) part.groups in omega (arith, same)

      by : Role d k → Walk d part (assigns_of part) (assigns_of other)
      by (as_main names is e) =
          subst (λ x. Walk d part (assigns_of part) (assigns_of x)) (sym e)
          (both_walk d part (bare_walk d part part.always always_inside)
          (subst (Walk d part (owned_by_groups 0 part.groups)) (sym (groups_joined 0 (length part.groups) (counted_groups d part (cells_of (component_of d k)) (length part.cells) part.groups) (stored names) count))
          (subst (λ x. Walk d part x (owned_by_groups 0 (counted_groups d part (cells_of (component_of d k)) (length part.cells) part.groups) ++ owned_by_groups (length part.groups) (stored names))) (nothing_more d part (owned_by_groups 0 part.groups)) (both_walk d part counted (stores names)))))
      by (as_child names is r e) =
          subst (λ x. Walk d part (assigns_of part) (assigns_of x)) (sym e) (both_walk d part (outputs_walk d part part.place (shown_in (component_of d k)) part.always always_inside) counted)
      by (as_kept is r e) =
          subst (λ x. Walk d part (assigns_of part) (assigns_of x)) (sym e) (both_walk d part (bare_walk d part part.always always_inside) (kept_walk d part 0 part.groups groups_inside))

  pub drives_moved : (act : Active) (p : PortRef) → IsInside d part p → drivers other act (moved_in d part p) ≡ map (moved_acting (moved_in d part)) (drivers part act p)
  drives_moved act p inside = walk_drives d part act p inside other whole_walk

module _ (d : PlainDesign) (design : IsDesign d) (m k : ℕ) (within : k < length d.components) where
  -- a cell of both trees: a primitive, or of one component
  pub data CellPair (c : ℕ) : Type 0 where
    row_pair : (row : Row) → cell_at (cells_of (tree_within d (suc m) k)) c ≡ OfRow row → cell_at (cells_of (tree_within (with_counts d) (suc m) k)) c ≡ OfRow row
        → ((p : ℕ) → moved_in d (component_at d k) (ports.Cell c p) ≡ ports.Cell c p) → CellPair c
    child_pair : (cell : PlainCell) (e : ℕ) → slice_get (component_at d k).cells c ≡ Some cell → cell.kind ≡ OfComponent e → e < length d.components
        → cell_at (cells_of (tree_within d (suc m) k)) c ≡ OfInstance (tree_within d m e) → cell_at (cells_of (tree_within (with_counts d) (suc m) k)) c ≡ OfInstance (tree_within (with_counts d) m e)
        → ((p : ℕ) → moved_in d (component_at d k) (ports.Cell c p) ≡ ports.Cell c (grown_number d (first_gained (component_at d e)) (gained d e) p)) → CellPair c

  pub pair_at : (c : ℕ) → c < length (component_at d k).cells → CellPair c
  pair_at c few = by (cell_is (component_at d k).cells c)
    where
      none_some : (cell : PlainCell) → slice_get (component_at d k).cells c ≡ None → slice_get (component_at d k).cells c ≡ Some cell → ⊥
      none_some cell e f = let wrong : ◌≡◌ {A = Option PlainCell} None (Some cell) = sym e ∙ f in absurd (cc)

      by : CellIs (component_at d k).cells c → CellPair c
      by (is_none e) = let r = there_at (component_at d k).cells c few in absurd (none_some r.0 e r.1)
      by (is_primitive cell primitive e is) =
          row_pair (row_of primitive) (at_row (tree_within d m) (component_at d k).cells c cell primitive e is)
          (at_row (tree_within (with_counts d) m) (component_at (with_counts d) k).cells c cell primitive ((grown_at d k within).cells c cell e) is)
          (λ p. ap (ports.Cell c) (ap (λ o. moved_number d o p) e ∙ moved-primitive d cell primitive p is))
      by (is_component cell j e is) =
          child_pair cell j e is (child_there d design k j cell within (in_at (component_at d k).cells c cell e) is)
          (at_component (tree_within d m) (component_at d k).cells c cell j e is)
          (at_component (tree_within (with_counts d) m) (component_at (with_counts d) k).cells c cell j ((grown_at d k within).cells c cell e) is)
          (λ p. ap (ports.Cell c) (ap (λ o. moved_number d o p) e ∙ moved-component d cell j p is))

  -- a port of a component's cell
  pub child_ports : (e p : ℕ) → e < length d.components → p ≤ first_gained (component_at d e)
      → part_port (part_of (tree_within (with_counts d) m e)) (grown_number d (first_gained (component_at d e)) (gained d e) p) ≡ part_port (part_of (tree_within d m e)) p
  child_ports e p there few =
      ap (λ x. part_port x (grown_number d (first_gained (component_at d e)) (gained d e) p)) (same_part (with_counts d) m e) ∙ ports_alike d e there p few ∙ ap (λ x. part_port x p) (sym (same_part d m e))
