-- In an accepted design the cells of every instance have rows that keep the laws, and no continuous assignment drives an enabling port.
use Rattle.std.proofs.Common.{◌≡◌, ℕ, zero, suc, ◌<◌, ⊎_elim, true, false, None, List, [], ◌∷◌, length, refl, sym, ap, ◌∙◌, subst, arith}
use Rattle.std.specs.Prelude.{Some, slice_get}
use Rattle.std.proofs.lemmas.Bool.{cases_lt, false_from_ne_true}
use Rattle.std.proofs.lemmas.List.{get_or_past}
use Rattle.cx_text.specs.declared.rules.Rule.TheVariants.{AlwaysEnable}
use Rattle.cx_prim.specs.Rows.{Row, IsLawful}
use Rattle.cx_prim.proofs.TableLaws.{row_of_lawful}
use Rattle.cx_meaning.specs.declared.ports.PortRef.{PortRef}
use Rattle.cx_meaning.specs.declared.ports.PortRef.TheVariants as ports
use Rattle.cx_meaning.specs.Designs.{PlainKind, OfPrimitive, OfComponent, PlainCell, PlainDesign, component_at, no_component}
use Rattle.cx_meaning.specs.Instances.{Instance, Cells, OfRow, cell_at, cells_of, part_of, add_cell, cells_for, tree_within, tree_of, Path, instance_at}
use Rattle.cx_meaning.specs.Active.{Owned, source_order}
use Rattle.cx_text.specs.Members.{In}
use Rattle.cx_rules.specs.Ports.{component_of, is_primitive_enable, path_of}
use Rattle.cx_meaning.specs.Calls.{enables_at}
use Rattle.cx_rules.specs.Spots.{AnAssign}
use Rattle.cx_rules.specs.Accepted.{IsAccepted}
use Rattle.cx_rules.proofs.CircleLemmas.{Reached, a_tree, no_tree, reached}
use Rattle.cx_meaning.proofs.InstancesLemmas.{row_is}
use Rattle.cx_meaning.proofs.DesignsLemmas.{same_part}

-- every primitive cell has a row of the table, which keeps the laws
abbrev pub HasLawfulRows : Instance → Type 0
HasLawfulRows i = (c : ℕ) (row : Row) → cell_at (cells_of i) c ≡ OfRow row → IsLawful row

kind_lawful : (child : ℕ → Instance) (kind : PlainKind) (rest : Cells) → ((c : ℕ) (row : Row) → cell_at rest c ≡ OfRow row → IsLawful row) → (c : ℕ) (row : Row) → cell_at (add_cell child kind rest) c ≡ OfRow row → IsLawful row
kind_lawful child (OfPrimitive p) rest h zero row e = subst IsLawful (row_is _ row e) (row_of_lawful p)
kind_lawful child (OfPrimitive p) rest h (suc c) row e = h c row e
kind_lawful child (OfComponent k) rest h zero row e = absurd (cc)
kind_lawful child (OfComponent k) rest h (suc c) row e = h c row e

cells_lawful : (child : ℕ → Instance) (cells : List PlainCell) (c : ℕ) (row : Row) → cell_at (cells_for child cells) c ≡ OfRow row → IsLawful row
cells_lawful child [] c row e = absurd (cc)
cells_lawful child (cell ∷ cells) c row e = kind_lawful child cell.kind (cells_for child cells) (cells_lawful child cells) c row e

pub tree_lawful : (d : PlainDesign) (m k : ℕ) → HasLawfulRows (tree_within d m k)
tree_lawful d zero k c row e = absurd (cc)
tree_lawful d (suc m) k c row e = cells_lawful (tree_within d m) (component_at d k).cells c row e

reached_lawful : (d : PlainDesign) {i : Instance} → Reached d i → HasLawfulRows i
reached_lawful d (a_tree m k) = tree_lawful d m k
reached_lawful d no_tree = λ c row e. absurd (cc)

pub instance_rows_lawful : (d : PlainDesign) (path : Path) → HasLawfulRows (instance_at (tree_of d) path)
instance_rows_lawful d path = reached_lawful d (reached d path (length d.components) d.main)

-- a tree of some depth has the enabling ports of its component
kind_enables : (some other : ℕ → Instance) (kind : PlainKind) (xs ys : Cells) → ((c p : ℕ) → enables_at (cell_at xs c) p ≡ enables_at (cell_at ys c) p) → (c p : ℕ) → enables_at (cell_at (add_cell some kind xs) c) p ≡ enables_at (cell_at (add_cell other kind ys) c) p
kind_enables some other (OfPrimitive primitive) xs ys h zero p = refl
kind_enables some other (OfPrimitive primitive) xs ys h (suc c) p = h c p
kind_enables some other (OfComponent k) xs ys h zero p = refl
kind_enables some other (OfComponent k) xs ys h (suc c) p = h c p

cells_enable : (some other : ℕ → Instance) (cells : List PlainCell) (c p : ℕ) → enables_at (cell_at (cells_for some cells) c) p ≡ enables_at (cell_at (cells_for other cells) c) p
cells_enable some other [] c p = refl
cells_enable some other (cell ∷ cells) c p = kind_enables some other cell.kind (cells_for some cells) (cells_for other cells) (cells_enable some other cells) c p

within_enables : (d : PlainDesign) (m n k : ℕ) (port : PortRef) → is_primitive_enable (tree_within d m k) port ≡ true → is_primitive_enable (tree_within d (suc n) k) port ≡ true
within_enables d zero n k (ports.Cell c p) e = absurd (cc)
within_enables d (suc m) n k (ports.Cell c p) e = cells_enable (tree_within d n) (tree_within d m) (component_at d k).cells c p ∙ e
within_enables d m n k (ports.Input input) e = absurd (cc)
within_enables d m n k (ports.Output output) e = absurd (cc)
within_enables d m n k (ports.Done g) e = absurd (cc)
within_enables d m n k (ports.Literal w v) e = absurd (cc)

number_in : (xs : List Owned) (x : Owned) → In xs x → (n : ℕ) × (slice_get xs n ≡ Some x)
number_in [] x i = absurd i
number_in (y ∷ ys) x i = ⊎_elim (λ e. (0, ap Some e)) (λ j. let r = number_in ys x j in (suc r.0, r.1)) i

-- no continuous assignment drives an enabling port of a primitive cell
abbrev pub BareEnablesNothing : Instance → Type 0
BareEnablesNothing i = (o : Owned) → In (source_order (part_of i)) o → o.owner ≡ None → is_primitive_enable i o.assign.target ≡ false

module _ (d : PlainDesign) (accepted : IsAccepted d) where
  breaks_not : (k : ℕ) → k < length d.components → (o : Owned) → In (source_order (component_at d k)) o → o.owner ≡ None → is_primitive_enable (component_of d k) o.assign.target ≡ true → ⊥
  breaks_not k within o i bare e =
      let n = number_in (source_order (component_at d k)) o i in
      accepted.shapes AlwaysEnable (record { component = k; part = AnAssign n.0 }) o.assign.place (path_of (component_of d k) o.assign.target) refl
      (record { within = within; number = n.0; is = refl; assign = o; stands = n.1; breaks = (bare, e, (refl, refl)) })

  there : (m k n : ℕ) → length d.components ≡ n → k < n → (o : Owned) → In (source_order (component_at d k)) o → o.owner ≡ None → is_primitive_enable (tree_within d m k) o.assign.target ≡ true → ⊥
  there m k zero count h o i bare e = absurd (omega arith)
  there m k (suc n) count h o i bare e =
      breaks_not k (omega arith) o i bare
      (subst (λ levels. is_primitive_enable (tree_within d levels k) o.assign.target ≡ true) (sym count) (within_enables d m n k o.assign.target e))

  past : (k : ℕ) → component_at d k ≡ no_component → (o : Owned) → In (source_order (component_at d k)) o → ⊥
  past k e o i = subst (λ part. In (source_order part) o) e i

  bare_in_tree : (m k : ℕ) → BareEnablesNothing (tree_within d m k)
  bare_in_tree m k o i bare =
      let j = subst (λ part. In (source_order part) o) (same_part d m k) i in
      false_from_ne_true (is_primitive_enable (tree_within d m k) o.assign.target)
      (λ e. ⊎_elim (λ h. there m k (length d.components) refl h o j bare e) (λ h. past k (get_or_past d.components k no_component h) o j) (cases_lt k (length d.components)))

  reached_bare : {i : Instance} → Reached d i → BareEnablesNothing i
  reached_bare (a_tree m k) = bare_in_tree m k
  reached_bare no_tree = λ o i bare. absurd i

  pub instance_bare : (path : Path) → BareEnablesNothing (instance_at (tree_of d) path)
  instance_bare path = reached_bare (reached d path (length d.components) d.main)
