-- In the instance tree of an accepted design nothing leads in a circle.
use Rattle.std.proofs.Common.{◌≡◌, ℕ, zero, suc, ◌<◌, ◌≤◌, inl, inr, ⊎_elim, List, [], ◌∷◌, length, refl, sym, ap, ◌∙◌, subst, arith}
use Rattle.std.proofs.lemmas.Bool.{cases_lt}
use Rattle.std.proofs.lemmas.List.{get_or_past}
use Rattle.cx_text.specs.declared.rules.Rule.TheVariants.{CombCycle}
use Rattle.cx_meaning.specs.declared.ports.PortRef.{PortRef}
use Rattle.cx_meaning.specs.declared.ports.PortRef.TheVariants as ports
use Rattle.cx_meaning.specs.Designs.{PlainKind, OfPrimitive, OfComponent, PlainCell, PlainComponent, PlainDesign, component_at, no_component, group_at}
use Rattle.cx_meaning.specs.Instances.{Instance, Node, Cells, no_cells, At, Nothing, OfRow, OfInstance, cell_at, cells_of, part_of, add_cell, cells_for, tree_within, tree_of, Path, instance_at, child_at}
use Rattle.cx_meaning.specs.Active.{Active, nothing, group, drivers}
use Rattle.cx_meaning.specs.Sights.{part_port}
use Rattle.cx_rules.specs.Ports.{component_of}
use Rattle.cx_rules.specs.Footprints.{Mentions, PartLeads, CellLeads, Leads, Depends, at_once, by_way_of}
use Rattle.cx_rules.specs.Spots.{Itself, AGroup}
use Rattle.cx_rules.specs.Accepted.{IsAccepted}
use Rattle.cx_rules.specs.Circles.{IsAcyclic, AreAcyclic, AcyclicBelow}
use Rattle.cx_meaning.proofs.DesignsLemmas.{same_part}

-- two cells with the same ports
AreAlike : At → At → Type 0
AreAlike Nothing b = Unit {0}
AreAlike (OfRow row) b = b ≡ OfRow row
AreAlike (OfInstance child) b = (other : Instance) × (b ≡ OfInstance other) × (part_of child ≡ part_of other)

kind_alike : (d : PlainDesign) (m n : ℕ) (kind : PlainKind) (xs ys : Cells) (c : ℕ) → ((e : ℕ) → AreAlike (cell_at xs e) (cell_at ys e)) → AreAlike (cell_at (add_cell (tree_within d m) kind xs) c) (cell_at (add_cell (tree_within d n) kind ys) c)
unfolding AreAlike
kind_alike d m n (OfPrimitive p) xs ys zero h = refl
kind_alike d m n (OfPrimitive p) xs ys (suc c) h = h c
kind_alike d m n (OfComponent k) xs ys zero h = (tree_within d n k, refl, same_part d m k ∙ sym (same_part d n k))
kind_alike d m n (OfComponent k) xs ys (suc c) h = h c

cells_alike : (d : PlainDesign) (m n : ℕ) (cells : List PlainCell) (c : ℕ) → AreAlike (cell_at (cells_for (tree_within d m) cells) c) (cell_at (cells_for (tree_within d n) cells) c)
unfolding AreAlike
cells_alike d m n [] c = tt
cells_alike d m n (cell ∷ cells) c = kind_alike d m n cell.kind (cells_for (tree_within d m) cells) (cells_for (tree_within d n) cells) c (λ e. cells_alike d m n cells e)

at_leads : (part : PlainComponent) (act : Active) (c p : ℕ) (q : PortRef) (a b : At) → AreAlike a b → CellLeads part act c p a q → CellLeads part act c p b q
unfolding AreAlike
at_leads part act c p q Nothing b h l = absurd l
at_leads part act c p q (OfRow row) b h l = subst (λ x. CellLeads part act c p x q) (sym h) l
at_leads part act c p q (OfInstance child) b (other, e, same) l =
    subst (λ x. CellLeads part act c p x q) (sym e) (subst (λ x. PartLeads part act c p (part_port x p) q) same l)

-- what leads within a tree of some depth leads within the component
within_leads : (d : PlainDesign) (act : Active) (m n k : ℕ) (p q : PortRef) → Leads (tree_within d m k) act p q → Leads (tree_within d (suc n) k) act p q
within_leads d act zero n k (ports.Cell c p) q l = absurd l
within_leads d act zero n k (ports.Input i) q l = l
within_leads d act zero n k (ports.Output i) q l = l
within_leads d act zero n k (ports.Done g) q l = l
within_leads d act zero n k (ports.Literal w v) q l = l
within_leads d act (suc m) n k (ports.Cell c p) q l = at_leads (component_at d k) act c p q _ _ (cells_alike d m n (component_at d k).cells c) l
within_leads d act (suc m) n k (ports.Input i) q l = l
within_leads d act (suc m) n k (ports.Output i) q l = l
within_leads d act (suc m) n k (ports.Done g) q l = l
within_leads d act (suc m) n k (ports.Literal w v) q l = l

within_depends : (d : PlainDesign) (act : Active) (m n k : ℕ) {p q : PortRef} → Depends (tree_within d m k) act p q → Depends (tree_within d (suc n) k) act p q
within_depends d act m n k {p} {q} (at_once l) = at_once (within_leads d act m n k p q l)
within_depends d act m n k {p} {q} (by_way_of r l dep) = by_way_of r (within_leads d act m n k p r l) (within_depends d act m n k dep)

-- a component that is there has no circle under its continuous assignments, nor under them with one of its groups
module _ (d : PlainDesign) (accepted : IsAccepted d) where
  bare_acyclic : (k : ℕ) → k < length d.components → IsAcyclic (component_of d k) nothing
  bare_acyclic k within cycle =
      accepted.no_cycles CombCycle (record { component = k; part = Itself 0 }) (component_at d k).place (component_at d k).name refl
      (inl (record { within = within; is = refl; cycle = cycle; tells = (refl, refl) }))

  part_is : (k : ℕ) → part_of (component_of d k) ≡ component_at d k
  part_is k = same_part d (length d.components) k

  group_acyclic : (k g : ℕ) → k < length d.components → g < length (component_at d k).groups → IsAcyclic (component_of d k) (group g)
  group_acyclic k g within there cycle =
      accepted.no_cycles CombCycle (record { component = k; part = AGroup g }) (group_at (part_of (component_of d k)) g).place (group_at (part_of (component_of d k)) g).name refl
      (inr (record { within = within; number = g; is = refl; stands = there; breaks = (cycle, (refl, refl)) }))

  -- the components are as many as some number and one, where one of them is there
  module _ (n : ℕ) (count : length d.components ≡ suc n) (act : Active) where
    tree_acyclic : (m k : ℕ) → IsAcyclic (component_of d k) act → IsAcyclic (tree_within d m k) act
    tree_acyclic m k acyclic (p, cycle) = acyclic (p, subst (λ x. Depends (tree_within d x k) act p p) (sym count) (within_depends d act m n k cycle))

-- a component that is not there has no assignments and no cells
past_end : (d : PlainDesign) (k : ℕ) → length d.components ≤ k → component_at d k ≡ no_component
past_end d k h = get_or_past d.components k no_component h

no_leads : (i : Instance) (act : Active) → part_of i ≡ no_component → ((c : ℕ) → cell_at (cells_of i) c ≡ Nothing) → (p q : PortRef) → Leads i act p q → ⊥
no_leads i act e none (ports.Cell c p) q l = let h : CellLeads (part_of i) act c p Nothing q = subst (λ x. CellLeads (part_of i) act c p x q) (none c) l in h
no_leads i act e none (ports.Input n) q l = l
no_leads i act e none (ports.Output n) q l = let h : Mentions (drivers no_component act (ports.Output n)) q = subst (λ x. Mentions (drivers x act (ports.Output n)) q) e l in h.1
no_leads i act e none (ports.Done g) q l = let h : Mentions (drivers no_component act (ports.Done g)) q = subst (λ x. Mentions (drivers x act (ports.Done g)) q) e l in h.1
no_leads i act e none (ports.Literal w v) q l = l

pub no_circle : (i : Instance) (act : Active) → part_of i ≡ no_component → ((c : ℕ) → cell_at (cells_of i) c ≡ Nothing) → IsAcyclic i act
no_circle i act e none (p, at_once l) = no_leads i act e none p p l
no_circle i act e none (p, by_way_of r l rest) = no_leads i act e none p r l

pub cells_for_none : (child : ℕ → Instance) (cells : List PlainCell) → cells ≡ [] → (c : ℕ) → cell_at (cells_for child cells) c ≡ Nothing
cells_for_none child cells e c = ap (λ cs. cell_at (cells_for child cs) c) e

tree_cells : (d : PlainDesign) (n k : ℕ) → component_at d k ≡ no_component → (c : ℕ) → cell_at (cells_of (tree_within d n k)) c ≡ Nothing
tree_cells d zero k e c = refl
tree_cells d (suc n) k e c = cells_for_none (tree_within d n) (component_at d k).cells (ap (λ part. part.cells) e) c

module _ (d : PlainDesign) (accepted : IsAccepted d) where
  some_component : (k : ℕ) → k < length d.components → (n : ℕ) × (length d.components ≡ suc n)
  some_component k h = go (length d.components) h
    where
      go : (m : ℕ) → k < m → (n : ℕ) × (m ≡ suc n)
      go zero h = absurd (omega arith)
      go (suc n) h = (n, refl)

  pub node_acyclic : (m k : ℕ) → IsAcyclic (tree_within d m k) nothing
  node_acyclic m k =
      ⊎_elim
      (λ h. let n = some_component k h in tree_acyclic d accepted n.0 n.1 nothing m k (bare_acyclic d accepted k h))
      (λ h. let e = past_end d k h in no_circle (tree_within d m k) nothing (same_part d m k ∙ e) (tree_cells d m k e))
      (cases_lt k (length d.components))

  kinds_acyclic : (m : ℕ) → ((k : ℕ) → AreAcyclic (tree_within d m k)) → (cells : List PlainCell) → AcyclicBelow (cells_for (tree_within d m) cells)
  kinds_acyclic m h [] = tt
  kinds_acyclic m h (cell ∷ cells) = kind_acyclic m h cell.kind (cells_for (tree_within d m) cells) (kinds_acyclic m h cells)
    where
      kind_acyclic : (m : ℕ) → ((k : ℕ) → AreAcyclic (tree_within d m k)) → (kind : PlainKind) (rest : Cells) → AcyclicBelow rest → AcyclicBelow (add_cell (tree_within d m) kind rest)
      kind_acyclic m h (OfPrimitive p) rest r = r
      kind_acyclic m h (OfComponent k) rest r = (h k, r)

  pub within_acyclic : (m k : ℕ) → AreAcyclic (tree_within d m k)
  within_acyclic zero k = (node_acyclic zero k, tt)
  within_acyclic (suc m) k = (node_acyclic (suc m) k, kinds_acyclic m (within_acyclic m) (component_at d k).cells)

  pub within_group : (m k g : ℕ) → g < length (component_at d k).groups → IsAcyclic (tree_within d m k) (group g)
  within_group m k g there =
      ⊎_elim
      (λ h. let n = some_component k h in tree_acyclic d accepted n.0 n.1 (group g) m k (group_acyclic d accepted k g h there))
      (λ h. let e = past_end d k h in no_circle (tree_within d m k) (group g) (same_part d m k ∙ e) (tree_cells d m k e))
      (cases_lt k (length d.components))

-- the instance at a path is a tree of some depth, or there is none
pub data Reached (d : PlainDesign) : Instance → Type 0 where
  a_tree : (m k : ℕ) → Reached d (tree_within d m k)
  no_tree : Reached d (Node no_component no_cells)

module _ (d : PlainDesign) (m : ℕ) (path : Path) (deeper : (k : ℕ) → Reached d (instance_at (tree_within d m k) path)) where
  reached_kind : (kind : PlainKind) (rest : Cells) → ((c : ℕ) → Reached d (child_at rest c path)) → (c : ℕ) → Reached d (child_at (add_cell (tree_within d m) kind rest) c path)
  reached_kind (OfPrimitive p) rest h zero = no_tree
  reached_kind (OfPrimitive p) rest h (suc c) = h c
  reached_kind (OfComponent k) rest h zero = deeper k
  reached_kind (OfComponent k) rest h (suc c) = h c

  reached_below : (cells : List PlainCell) (c : ℕ) → Reached d (child_at (cells_for (tree_within d m) cells) c path)
  reached_below [] c = no_tree
  reached_below (cell ∷ cells) c = reached_kind cell.kind (cells_for (tree_within d m) cells) (reached_below cells) c

pub reached : (d : PlainDesign) (path : Path) (m k : ℕ) → Reached d (instance_at (tree_within d m k) path)
reached d [] zero k = a_tree zero k
reached d [] (suc m) k = a_tree (suc m) k
reached d (c ∷ path) zero k = no_tree
reached d (c ∷ path) (suc m) k = reached_below d m path (λ j. reached d path m j) (component_at d k).cells c

-- an instance of the tree of an accepted design
module _ (d : PlainDesign) (accepted : IsAccepted d) where
  reached_acyclic : {i : Instance} → Reached d i → AreAcyclic i
  reached_acyclic (a_tree m k) = within_acyclic d accepted m k
  reached_acyclic no_tree = (no_circle (Node no_component no_cells) nothing refl (λ c. refl), tt)

  reached_group : {i : Instance} (g : ℕ) → Reached d i → g < length (part_of i).groups → IsAcyclic i (group g)
  reached_group g (a_tree m k) h = within_group d accepted m k g (subst (λ part. g < length part.groups) (same_part d m k) h)
  reached_group g no_tree h = absurd (omega arith)

  pub instance_acyclic : (path : Path) → AreAcyclic (instance_at (tree_of d) path)
  instance_acyclic path = reached_acyclic (reached d path (length d.components) d.main)

  pub instance_group : (path : Path) (g : ℕ) → g < length (part_of (instance_at (tree_of d) path)).groups → IsAcyclic (instance_at (tree_of d) path) (group g)
  instance_group path g h = reached_group g (reached d path (length d.components) d.main) h

-- one step more
pub depends_then : {i : Instance} {act : Active} {p q r : PortRef} → Depends i act p q → Leads i act q r → Depends i act p r
depends_then {q = q} (at_once l) m = by_way_of q l (at_once m)
depends_then (by_way_of s l d) m = by_way_of s l (depends_then d m)
