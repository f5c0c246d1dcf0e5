-- COUNTS SHOW: the port that has the count of an entry is seen as what was counted of it, in every instance and under every active set.
use Rattle.std.proofs.Common.{◌≡◌, ℕ, zero, suc, ◌+◌, ◌^◌, ◌%◌, ◌<◌, Bool, true, false, [], ◌∷◌, length, Some, slice_get, sym, ap, ◌∙◌, subst, arith}
use Rattle.std.proofs.lemmas.Bool.{ne_eqb}
use Rattle.std.proofs.lemmas.Option.{slice_get_within}
use Rattle.cx_text.proofs.MemberLaws.{in_at}
use Rattle.cx_text.specs.Members.{In}
use Rattle.cx_meaning.specs.declared.ports.PortRef.TheVariants as ports
use Rattle.cx_meaning.specs.declared.sights.Seen.TheVariants.{Undefined}
use Rattle.cx_meaning.specs.Designs.{PlainComponent, PlainDesign, component_at}
use Rattle.cx_meaning.specs.Instances.{Instance, cells_of, part_of, State, under, tree_within}
use Rattle.cx_meaning.specs.Active.{Active, nothing}
use Rattle.cx_meaning.specs.Sights.{Look, Held, unheld, part_port, target_seen, part_step, cell_step, seen, outputs_below}
use Rattle.cx_meaning.proofs.DesignsLemmas.{same_part}
use Rattle.cx_meaning.proofs.InstancesLemmas.{instance_is, row_instance}
use Rattle.cx_rules.specs.Circles.{IsAcyclic}
use Rattle.cx_rules.specs.Accepted.{IsAccepted}
use Rattle.cx_rules.specs.Wellformed.{IsDesign}
use Rattle.cx_rules.proofs.FoundLemmas.{seen_solves}
use Rattle.cx_rules.proofs.CircleLemmas.{node_acyclic}
use Rattle.cx_rewrites.specs.Tallies.{Tally, at_cell}
use Rattle.cx_profiling.specs.Counters.{ProfileEntry, Counter, counters, Shown, shown_in, first_gained}
use Rattle.cx_profiling.specs.Growing.{Grown}
use Rattle.cx_profiling.specs.Instrumented.{is_reached, gained, with_counts}
use Rattle.cx_profiling.proofs.GainedLemmas.{gained_child}
use Rattle.cx_profiling.proofs.RoleLemmas.{Role, as_main, as_child, as_kept, role}
use Rattle.cx_profiling.proofs.CellPorts.{gained_port}
use Rattle.cx_profiling.proofs.InsideLemmas.{targets_inside}
use Rattle.cx_profiling.proofs.GrownTrees.{InTree, in_reach, is_whole, child_in_tree, no_main_below}
use Rattle.cx_profiling.proofs.PairLemmas.{CellPair, row_pair, child_pair, pair_at}
use Rattle.cx_profiling.proofs.ShownLemmas.{IsBelow, WhereShown, own_count, child_count, where_shown}
use Rattle.cx_profiling.proofs.OutputDrives.{output_driven}
use Rattle.cx_profiling.proofs.RowLemmas.{number}
use Rattle.cx_profiling.proofs.AcyclicLemmas.{child_few}
use Rattle.cx_profiling.proofs.CounterLooks.{register_shows}
use Rattle.cx_profiling.proofs.GrownCycles.{grown_kid}
use Rattle.cx_profiling.proofs.SeenOutputs.{below_there}
use Rattle.cx_meaning.proofs.SightsLemmas.{outputs_at}

-- what was counted of an entry, modulo 2 to the 64
abbrev pub counted_of : Tally → Shown → ℕ
counted_of τ x = τ x.entry.path x.entry.group % 2 ^ 64

module _ (d : PlainDesign) (design : IsDesign d) (accepted : IsAccepted d) (grown_accepted : IsAccepted (with_counts d)) where
  -- the outputs of children show theirs
  abbrev pub OutputsShow : ℕ → Type 0
  OutputsShow m = (e : ℕ) → InTree d m e → (e ≡ d.main → ⊥) → (τ : Tally) (s t : State) → Grown (tree_within d m e) τ s t → (n : ℕ) (x : Shown) → slice_get (shown_in (tree_within d m e)) n ≡ Some x
      → seen (tree_within (with_counts d) m e) unheld nothing t (ports.Output (length (component_at d e).outputs + n)) ≡ number 64 (counted_of τ x)

  module _ (m k : ℕ) (at : InTree d (suc m) k) (kids : OutputsShow m) (act : Active) (twin : Held) (acyclic : IsAcyclic (tree_within (with_counts d) (suc m) k) act) (τ : Tally) (s t : State)
      (grown : Grown (tree_within d (suc m) k) τ s t) where
    abbrev node : PlainComponent
    node = component_at d k

    abbrev other : PlainComponent
    other = component_at (with_counts d) k

    abbrev i : Instance
    i = tree_within d (suc m) k

    abbrev j : Instance
    j = tree_within (with_counts d) (suc m) k

    abbrev look : Look
    look = seen j twin act t

    below_shows : (x : Shown) → (b : IsBelow (cells_of i) 0 x) → look x.port ≡ number 64 (counted_of τ x)
    below_shows x b = by (pair_at d design m k at.within b.cell (child_few (tree_within d m) node.cells b.cell b.child b.stands))
      where
        by : CellPair d design m k at.within b.cell → look x.port ≡ number 64 (counted_of τ x)
        by (row_pair row first second moved) = absurd (row_instance row b.child (sym first ∙ b.stands))
        by (child_pair cell e stands is below first second moved) =
            let inner : InTree d m e = child_in_tree d design at cell e (in_at node.cells b.cell cell stands) is in
            let other_main = no_main_below d design at cell e (in_at node.cells b.cell cell stands) is in
            let same : tree_within d m e ≡ b.child = instance_is (tree_within d m e) b.child (sym first ∙ b.stands) in
            let listed : slice_get (shown_in (tree_within d m e)) b.number ≡ Some b.inner = ap (λ tree. slice_get (shown_in tree) b.number) same ∙ b.listed in
            let few : b.number < gained d e =
            subst (λ n. b.number < n) (sym (gained_child d e (in_reach d inner) (ne_eqb e d.main other_main)))
            (subst (λ tree. b.number < length (shown_in tree)) (is_whole d inner) (slice_get_within (shown_in (tree_within d m e)) b.number b.inner listed)) in
            let zero_first : 0 + b.cell ≡ b.cell = omega arith in
            let first_is : first_gained (part_of b.child) ≡ first_gained (component_at d e) = ap (λ (tree : Instance). first_gained (part_of tree)) (sym same) ∙ ap first_gained (same_part d m e) in
            let port_is : x.port ≡ ports.Cell b.cell (first_gained (component_at d e) + b.number) = b.port ∙ ap (λ c. ports.Cell c (first_gained (part_of b.child) + b.number)) zero_first ∙ ap (λ n. ports.Cell b.cell (n + b.number)) first_is in
            ap look port_is
            ∙ seen_solves j twin act t acyclic (below_there d design accepted grown_accepted (suc m) k) (ports.Cell b.cell (first_gained (component_at d e) + b.number))
            ∙ ap (cell_step other act t look (outputs_below (cells_of j) (λ c. under c t)) b.cell (first_gained (component_at d e) + b.number)) second
            ∙ ap (part_step other act t look (outputs_below (cells_of j) (λ c. under c t)) b.cell (first_gained (component_at d e) + b.number))
            (ap (λ p. part_port p (first_gained (component_at d e) + b.number)) (same_part (with_counts d) m e) ∙ gained_port d e inner.within b.number few)
            ∙ outputs_at (cells_of j) (λ c. under c t) b.cell (length (component_at d e).outputs + b.number) (tree_within (with_counts d) m e) second
            ∙ kids e inner other_main (at_cell b.cell τ) (under b.cell s) (under b.cell t) (grown_kid d design m k at τ s t grown b.cell (tree_within d m e) first) b.number b.inner listed
            ∙ ap (λ c. number 64 (τ (c ∷ b.inner.entry.path) b.inner.entry.group % 2 ^ 64)) (sym zero_first)
            ∙ ap (λ (entry : ProfileEntry). number 64 (τ entry.path entry.group % 2 ^ 64)) (sym b.entry)

    -- THE PORT OF A COUNT
    pub port_shows : (x : Shown) → In (shown_in i) x → look x.port ≡ number 64 (counted_of τ x)
    port_shows x inside = by (where_shown i x inside)
      where
        own_shows : (counter : Counter) → In (counters i) counter → look (ports.Cell counter.register 2) ≡ number 64 (τ [] counter.group % 2 ^ 64)
        own_shows counter own =
            let r = grown.1 counter own in
            register_shows d design m k at act twin t acyclic (below_there d design accepted grown_accepted (suc m) k) counter (subst (λ tree. In (counters tree) counter) (is_whole d at) own) (τ [] counter.group % 2 ^ 64) r.0 r.1

        by : WhereShown i x → look x.port ≡ number 64 (counted_of τ x)
        by (own_count counter own e) = subst (λ (y : Shown). look y.port ≡ number 64 (counted_of τ y)) e (own_shows counter own)
        by (child_count b) = below_shows x b

  pub outputs_show : (m : ℕ) → OutputsShow m
  outputs_show zero e at other τ s t grown n x listed = absurd at.deep_enough
  outputs_show (suc m) e at other τ s t grown n x listed = by (outputs_show m) (role d e at.within)
    where
      both : (b : Bool) → b ≡ true → b ≡ false → ⊥
      both true e f = absurd (cc)
      both false e f = absurd (cc)

      by : OutputsShow m → Role d e → seen (tree_within (with_counts d) (suc m) e) unheld nothing t (ports.Output (length (component_at d e).outputs + n)) ≡ number 64 (counted_of τ x)
      by kids (as_main names main is) = absurd (other main)
      by kids (as_kept main r is) = absurd (both (is_reached d e) (in_reach d at) r)
      by kids (as_child names main r is) =
          seen_solves (tree_within (with_counts d) (suc m) e) unheld nothing t (node_acyclic (with_counts d) grown_accepted (suc m) e) (below_there d design accepted grown_accepted (suc m) e)
          (ports.Output (length (component_at d e).outputs + n))
          ∙ ap (target_seen Undefined (seen (tree_within (with_counts d) (suc m) e) unheld nothing t))
          (output_driven d e names is (λ o i. targets_inside d design e at.within o i) nothing n x (ap (λ tree. slice_get (shown_in tree) n) (sym (is_whole d at)) ∙ listed))
          ∙ port_shows m e at kids nothing unheld (node_acyclic (with_counts d) grown_accepted (suc m) e) τ s t grown x (in_at (shown_in (tree_within d (suc m) e)) n x listed)
