-- THE PORTS AT WHICH STATIC IFS LOOK are seen alike at every level; what is moved of them is one bit, so the fault is the same.
use Rattle.std.proofs.Common.{◌≡◌, ℕ, zero, suc, ◌+◌, ◌*◌, ◌<◌, ◌≤◌, inl, inr, ◌⊎◌, Bool, true, false, List, [], ◌∷◌, length, map, None, refl, sym, ap, ◌∙◌, subst}
use Rattle.cx_text.proofs.MemberLaws.{in_at}
use Rattle.cx_text.specs.Members.{In}
use Rattle.cx_prim.specs.CellStates.{CellState}
use Rattle.cx_meaning.specs.declared.ports.PortRef.{PortRef}
use Rattle.cx_meaning.specs.declared.sights.Seen.{Seen}
use Rattle.cx_meaning.specs.Designs.{PlainComponent, PlainDesign, component_at}
use Rattle.cx_meaning.specs.Instances.{Instance, Cells, no_cells, a_primitive, an_instance, OfInstance, cell_at, cells_of, part_of, Path, State, under, tree_within}
use Rattle.cx_meaning.specs.Active.{Active, nothing}
use Rattle.cx_meaning.specs.Sights.{Held, unheld, bit_of}
use Rattle.cx_meaning.specs.Cycles.{Next}
use Rattle.cx_meaning.specs.Islands.{fault_of}
use Rattle.cx_meaning.proofs.InstancesLemmas.{instance_is, row_instance, nothing_instance}
use Rattle.cx_rules.specs.Circles.{IsAcyclic}
use Rattle.cx_rules.specs.Ports.{component_of}
use Rattle.cx_rules.specs.Accepted.{IsAccepted}
use Rattle.cx_rules.specs.Wellformed.{IsDesign}
use Rattle.cx_rules.proofs.CircleLemmas.{node_acyclic}
use Rattle.cx_rewrites.specs.Tallies.{Tally, at_cell}
use Rattle.cx_rewrites.specs.Cells.{comes_to}
use Rattle.cx_flattening.specs.Events.{Spot}
use Rattle.cx_flattening.specs.Deeds.{fault_in, or_later, first_unclear}
use Rattle.cx_flattening.specs.Whole.{look_below, look_at}
use Rattle.cx_profiling.specs.Counters.{counters}
use Rattle.cx_profiling.specs.Growing.{Grown}
use Rattle.cx_profiling.specs.Instrumented.{is_reached, with_counts}
use Rattle.cx_profiling.proofs.PortLemmas.{IsInside}
use Rattle.cx_profiling.proofs.RoleLemmas.{Role, as_main, as_child, as_kept, role}
use Rattle.cx_profiling.proofs.GrownTrees.{InTree, in_reach, child_in_tree, no_main_below}
use Rattle.cx_profiling.proofs.PairLemmas.{CellPair, row_pair, child_pair, pair_at}
use Rattle.cx_profiling.proofs.AcyclicLemmas.{ActsWithin, child_few, child_acyclic}
use Rattle.cx_profiling.proofs.GrownCycles.{grown_kid}
use Rattle.cx_profiling.proofs.LeafLemmas.{found, left_or_bit}
use Rattle.cx_profiling.proofs.GrownDeeds.{moved_spot}
use Rattle.cx_profiling.proofs.GrownEvents.{StandsAt, moved_at, moved-child, SpotIn}
use Rattle.cx_profiling.proofs.GrownWholes.{none_further}

look_child : (cells : Cells) (c : ℕ) (child : Instance) → cell_at cells c ≡ OfInstance child → (s : State) (at : Path) (p : PortRef) → look_at cells c s at p ≡ look_below child unheld s at p
look_child no_cells c child e s at p = absurd (nothing_instance child e)
look_child (a_primitive row rest) zero child e s at p = absurd (row_instance row child e)
look_child (a_primitive row rest) (suc c) child e s at p = look_child rest c child e s at p
look_child (an_instance other rest) zero child e s at p = ap (λ i. look_below i unheld s at p) (instance_is other child e)
look_child (an_instance other rest) (suc c) child e s at p = look_child rest c child e s at p

-- seen alike, and left or one bit
abbrev pub IsAlike : (p q : PortRef) (x y : Seen) → Type 0
IsAlike p q x y = (y ≡ x) × ((q ≡ p) ⊎ ((b : Bool) × (x ≡ bit_of b)))

module _ (d : PlainDesign) (design : IsDesign d) (accepted : IsAccepted d) (grown_accepted : IsAccepted (with_counts d)) where
  abbrev pub KidsLook : ℕ → Type 0
  KidsLook m = (e : ℕ) → InTree d m e → (e ≡ d.main → ⊥) → (held twin : Held) → ((n : ℕ) → n < length (component_at d e).inputs → twin n ≡ held n)
      → (τ : Tally) (s t : State) → Grown (tree_within d m e) τ s t → (path : Path) (x : Instance) → StandsAt (tree_within d m e) path x → (p : PortRef) → IsInside d (part_of x) p
      → IsAlike p (moved_at d (tree_within d m e) path p) (look_below (tree_within d m e) held s path p) (look_below (tree_within (with_counts d) m e) twin t path (moved_at d (tree_within d m e) path p))

  module _ (m k : ℕ) (at : InTree d (suc m) k)
      (entries_there : (act : Active) → ActsWithin (component_at d k) act → IsAcyclic (tree_within d (suc m) k) act → IsAcyclic (tree_within (with_counts d) (suc m) k) act)
      (further : (act : Active) → ActsWithin (component_at d k) act → IsAcyclic (tree_within (with_counts d) (suc m) k) act → (twin : Held) (t : State) (e : ℕ)
      → length (component_at d k).cells + 2 * length (counters (component_of d k)) ≤ e → e < length (component_at (with_counts d) k).cells
      → (after : CellState) × (comes_to (tree_within (with_counts d) (suc m) k) twin act t e ≡ Next after))
      (kids : KidsLook m) (held twin : Held) (same : (n : ℕ) → n < length (component_at d k).inputs → twin n ≡ held n) where
    abbrev node : PlainComponent
    node = component_at d k

    abbrev i : Instance
    i = tree_within d (suc m) k

    abbrev j : Instance
    j = tree_within (with_counts d) (suc m) k

    module _ (τ : Tally) (s t : State) (grown : Grown i τ s t) where
      pub looks_alike : (path : Path) (x : Instance) → StandsAt i path x → (p : PortRef) → IsInside d (part_of x) p
          → IsAlike p (moved_at d i path p) (look_below i held s path p) (look_below j twin t path (moved_at d i path p))
      looks_alike [] x stands p inside =
          let here : IsInside d node p = subst (λ y. IsInside d (part_of y) p) (sym stands) inside in (
            found d design accepted grown_accepted m k at entries_there further held twin same nothing (λ g past. refl) (node_acyclic d accepted (suc m) k) τ s t grown p here,
            left_or_bit d design accepted grown_accepted m k at entries_there further held twin same nothing (node_acyclic d accepted (suc m) k) s p here,
          )
      looks_alike (c ∷ path) x (child, here, static, rest) p inside = by (pair_at d design m k at.within c (child_few (tree_within d m) node.cells c child here))
        where
          by : CellPair d design m k at.within c → IsAlike p (moved_at d i (c ∷ path) p) (look_below i held s (c ∷ path) p) (look_below j twin t (c ∷ path) (moved_at d i (c ∷ path) p))
          by (row_pair row first second moved) = absurd (row_instance row child (sym first ∙ here))
          by (child_pair cell e stands is below first second moved) =
              subst (λ q. IsAlike p q (look_below i held s (c ∷ path) p) (look_below j twin t (c ∷ path) q)) (sym (moved-child d (cells_of i) c (tree_within d m e) first path p))
              (subst (λ y. IsAlike p (moved_at d (tree_within d m e) path p) (look_below i held s (c ∷ path) p) y) (sym (look_child (cells_of j) c (tree_within (with_counts d) m e) second (under c t) path (moved_at d (tree_within d m e) path p)))
              (subst (λ y. IsAlike p (moved_at d (tree_within d m e) path p) y (look_below (tree_within (with_counts d) m e) unheld (under c t) path (moved_at d (tree_within d m e) path p))) (sym (look_child (cells_of i) c (tree_within d m e) first (under c s) path p))
              (kids e (child_in_tree d design at cell e (in_at node.cells c cell stands) is) (no_main_below d design at cell e (in_at node.cells c cell stands) is) unheld unheld (λ n less. refl)
              (at_cell c τ) (under c s) (under c t) (grown_kid d design m k at τ s t grown c (tree_within d m e) first) path x
              (subst (λ y. StandsAt y path x) (instance_is child (tree_within d m e) (sym here ∙ first)) rest) p inside)))

      -- THE FIRST PORT that is no value
      one_unclear : (path : Path) (p q : PortRef) (x y : Seen) → IsAlike p q x y → fault_in path (fault_of q y None) ≡ fault_in path (fault_of p x None)
      one_unclear path p q x y (e, left) = ap (λ z. fault_in path (fault_of q z None)) e ∙ by left
        where
          one_bit : (b : Bool) (r : PortRef) → fault_in path (fault_of r (bit_of b) None) ≡ None
          one_bit true r = refl
          one_bit false r = refl

          by : (q ≡ p) ⊎ ((b : Bool) × (x ≡ bit_of b)) → fault_in path (fault_of q x None) ≡ fault_in path (fault_of p x None)
          by (inl f) = ap (λ r. fault_in path (fault_of r x None)) f
          by (inr (b, f)) = ap (λ z. fault_in path (fault_of q z None)) f ∙ one_bit b q ∙ sym (one_bit b p) ∙ ap (λ z. fault_in path (fault_of p z None)) (sym f)

      pub unclear_alike : (list : List Spot) → ((x : Spot) → In list x → SpotIn d i x) → first_unclear (look_below j twin t) (map (moved_spot (moved_at d i)) list) ≡ first_unclear (look_below i held s) list
      unclear_alike [] known = refl
      unclear_alike (x ∷ rest) known =
          let r = known x (inl refl) in
          ap (λ o. or_later o (first_unclear (look_below j twin t) (map (moved_spot (moved_at d i)) rest)))
          (one_unclear x.at x.port (moved_at d i x.at x.port) (look_below i held s x.at x.port) (look_below j twin t x.at (moved_at d i x.at x.port)) (looks_alike x.at r.0 r.1 x.port r.2))
          ∙ ap (or_later (fault_in x.at (fault_of x.port (look_below i held s x.at x.port) None))) (unclear_alike rest (λ y h. known y (inr h)))

  -- OF A CHILD, at every level
  pub kids_look : (m : ℕ) → KidsLook m
  kids_look zero e at differ held twin same τ s t grown path x stands p inside = absurd at.deep_enough
  kids_look (suc m) e at differ held twin same τ s t grown path x stands p inside = by (role d e at.within) (kids_look m)
    where
      both : (b : Bool) → b ≡ true → b ≡ false → ⊥
      both true f g = absurd (cc)
      both false f g = absurd (cc)

      by : Role d e → KidsLook m → IsAlike p (moved_at d (tree_within d (suc m) e) path p) (look_below (tree_within d (suc m) e) held s path p) (look_below (tree_within (with_counts d) (suc m) e) twin t path (moved_at d (tree_within d (suc m) e) path p))
      by (as_main names main is) kids = absurd (differ main)
      by (as_kept other_one r is) kids = absurd (both (is_reached d e) (in_reach d at) r)
      by (as_child names other_one r is) kids =
          looks_alike m e at (λ act acts acyclic. child_acyclic d design m e at act names is acyclic) (none_further d design accepted grown_accepted m e names is) kids held twin same τ s t grown path x stands p inside
