-- The inputs that an instance of a design names are those of its component.
use Rattle.std.proofs.Common.{◌≡◌, ℕ, zero, suc, ◌<◌, ⊎_elim, Some, None, length, refl, sym, ◌∙◌, subst}
use Rattle.std.proofs.lemmas.Bool.{cases_lt}
use Rattle.std.proofs.lemmas.List.{get_or_past}
use Rattle.cx_meaning.specs.declared.ports.PortRef.{PortRef}
use Rattle.cx_meaning.specs.declared.ports.PortRef.TheVariants as ports
use Rattle.cx_meaning.specs.declared.ports.PlacedPort.{PlacedPort}
use Rattle.cx_meaning.specs.Designs.{PlainComponent, PlainDesign, PlainGroup, component_at, no_component, no_group}
use Rattle.cx_meaning.specs.Instances.{Instance, Node, Cells, no_cells, part_of, cells_for, tree_within, tree_of, Path, instance_at}
use Rattle.cx_meaning.specs.Active.{Owned, source_order}
use Rattle.cx_text.specs.Members.{In}
use Rattle.cx_rules.specs.Ports.{component_of}
use Rattle.cx_rules.specs.Items.{sources_of, Visited, statements_in, test_in}
use Rattle.cx_rules.specs.Footprints.{AssignNames}
use Rattle.cx_rules.specs.Wellformed.{IsDesign, IsThere}
use Rattle.cx_rules.proofs.CircleLemmas.{Reached, a_tree, no_tree, reached}
use Rattle.cx_frames.proofs.InputLemmas.{Own, own_there}
use Rattle.cx_meaning.proofs.DesignsLemmas.{same_part}
use Rattle.cx_rules.proofs.ItemsLemmas.{bare_test}
use Rattle.cx_rules.proofs.FoundLemmas.{source_in}
use Rattle.cx_rules.proofs.ForeignLemmas.{OwnerOf, continuous, of_group, owner_of}

pub record Owns (i : Instance) : Type 0 where
  pub sources : (o : Owned) (q : PortRef) → In (source_order (part_of i)) o → AssignNames o.assign q → Own i q
  pub tests : (v : Visited) (p : PlacedPort) → In (statements_in (part_of i)) v → test_in v.form ≡ Some p → Own i p.port

own_part : (i j : Instance) → part_of i ≡ part_of j → (q : PortRef) → Own i q → Own j q
own_part i j e (ports.Cell c p) h = tt
own_part i j e (ports.Input n) h = subst (λ (x : PlainComponent). n < length x.inputs) e h
own_part i j e (ports.Output n) h = tt
own_part i j e (ports.Done g) h = tt
own_part i j e (ports.Literal w v) h = tt

module _ (d : PlainDesign) (design : IsDesign d) (k : ℕ) (within : k < length d.components) where
  names_there : (o : Owned) (q : PortRef) → In (source_order (component_at d k)) o → AssignNames o.assign q → IsThere (component_of d k) q
  names_there o q i names = let p = source_in o.assign q names in subst (IsThere (component_of d k)) p.2 (of_owner (owner_of (component_at d k) o i) p.0 p.1)
    where
      of_owner : OwnerOf (component_at d k) o → (p : PlacedPort) → In (sources_of o.assign) p → IsThere (component_of d k) p.port
      of_owner (continuous e j) p h = ((design.components k within).assigns None o.assign j).sources p h
      of_owner (of_group g e j) p h =
          ⊎_elim (λ lt. ((design.components k within).assigns (Some g) o.assign (lt, j)).sources p h)
          (λ le. let none : In no_group.assigns o.assign = subst (λ (x : PlainGroup). In x.assigns o.assign) (get_or_past (component_at d k).groups g no_group le) j in absurd none)
          (cases_lt g (length (component_at d k).groups))

  parts_same : (m : ℕ) → part_of (component_of d k) ≡ part_of (tree_within d m k)
  parts_same m = same_part d (length d.components) k ∙ sym (same_part d m k)

  owns_tree : (m : ℕ) → Owns (tree_within d m k)
  owns_tree m = record {
    sources = λ o q i names. own_part (component_of d k) (tree_within d m k) (parts_same m) q (own_there (component_of d k) q (names_there o q (subst (λ x. In (source_order x) o) (same_part d m k) i) names));
    tests = λ v p i e.
        own_part (component_of d k) (tree_within d m k) (parts_same m) p.port
        (own_there (component_of d k) p.port (((design.components k within).statements v (subst (λ x. In (statements_in x) v) (same_part d m k) i)).test p e));
  }

owns_bare : (part : PlainComponent) (cells : Cells) → part ≡ no_component → Owns (Node part cells)
owns_bare part cells none = record {
  sources = λ o q i names. let j : In (source_order no_component) o = subst (λ x. In (source_order x) o) none i in absurd j;
  tests = λ v p i e. absurd (bare_test v p (subst (λ x. In (statements_in x) v) none i) e);
}

module _ (d : PlainDesign) (design : IsDesign d) where
  bare_owns : (m k : ℕ) → component_at d k ≡ no_component → Owns (tree_within d m k)
  bare_owns zero k e = owns_bare (component_at d k) no_cells e
  bare_owns (suc m) k e = owns_bare (component_at d k) (cells_for (tree_within d m) (component_at d k).cells) e

  owns_reached : {i : Instance} → Reached d i → Owns i
  owns_reached (a_tree m k) = ⊎_elim (λ l. owns_tree d design k l m) (λ l. bare_owns m k (get_or_past d.components k no_component l)) (cases_lt k (length d.components))
  owns_reached no_tree = owns_bare no_component no_cells refl

  pub owns_instance : (path : Path) → Owns (instance_at (tree_of d) path)
  owns_instance path = owns_reached (reached d path (length d.components) d.main)
