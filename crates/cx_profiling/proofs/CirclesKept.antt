-- NOTHING LEADS IN A CIRCLE in any component of an instrumented design, under whatever groups act, where nothing does in that of the design.
use Rattle.std.proofs.Common.{◌≡◌, ℕ, zero, suc, ◌+◌, ◌*◌, ◌^◌, ◌<◌, ◌≤◌, inl, inr, ◌⊎◌, ⊎_elim, true, false, List, [], ◌∷◌, ◌++◌, length, refl, sym, ap, ◌∙◌, subst, arith}
use Rattle.std.proofs.lemmas.Bool.{both_ways, cases_lt, cases_eq, ltb-true}
use Rattle.std.proofs.lemmas.List.{length-append}
use Rattle.std.proofs.lemmas.Option.{slice_get_past}
use Rattle.cx_text.proofs.MemberLaws.{in_at}
use Rattle.cx_text.specs.Members.{In}
use Rattle.cx_prim.specs.declared.ports.Side.TheVariants as sides
use Rattle.cx_prim.specs.MemoryRows.{memory_row}
use Rattle.cx_meaning.specs.declared.ports.PortRef.{PortRef}
use Rattle.cx_meaning.specs.declared.ports.PortRef.TheVariants as ports
use Rattle.cx_meaning.specs.Designs.{Always, PlainAssign, PlainComponent, PlainDesign, component_at}
use Rattle.cx_meaning.specs.Instances.{Instance, OfRow, cell_at, cells_of, tree_within}
use Rattle.cx_meaning.specs.Active.{Active, nothing, group, drivers}
use Rattle.cx_meaning.specs.Sights.{GuardNames}
use Rattle.cx_rules.specs.Accepted.{IsAccepted}
use Rattle.cx_rules.specs.Circles.{IsAcyclic}
use Rattle.cx_rules.specs.Footprints.{AssignNames, Mentions, SideLeads, CellLeads}
use Rattle.cx_rules.specs.Ports.{component_of}
use Rattle.cx_rules.specs.RaceRule.{HasCycle}
use Rattle.cx_rules.specs.Wellformed.{IsDesign}
use Rattle.cx_rules.proofs.CircleLemmas.{within_acyclic, within_group}
use Rattle.cx_rules.proofs.CirclesLemmas.{own_acyclic}
use Rattle.cx_rules.proofs.FoundLemmas.{same_is}
use Rattle.cx_rules.proofs.ForeignLemmas.{sorted_among}
use Rattle.cx_frames.proofs.CircleFrames.{group_acyclic}
use Rattle.cx_laws.proofs.EdgeLemmas.{Driver, driver_of}
use Rattle.cx_rewrites.specs.Driving.{assigns_of}
use Rattle.cx_profiling.specs.Counters.{counters, Shown, shown_in, entry_count}
use Rattle.cx_profiling.specs.Instrumented.{is_reached, address_width, counter_cells, memory_cell, name_at, kept_component, main_component, with_counts}
use Rattle.cx_profiling.proofs.AcyclicLemmas.{all_known, child_acyclic, shown_ends}
use Rattle.cx_profiling.proofs.CellLemmas.{memory_row_of}
use Rattle.cx_profiling.proofs.CircleLemmas.{Ends, IsKnown, ending, old_known, plain_known, acyclic_grown}
use Rattle.cx_profiling.proofs.CounterLemmas.{counter_cells-length}
use Rattle.cx_profiling.proofs.DepthLemmas.{deep}
use Rattle.cx_profiling.proofs.GrownTrees.{InTree}
use Rattle.cx_profiling.proofs.InsideLemmas.{targets_inside}
use Rattle.cx_profiling.proofs.ListedCells.{at_none}
use Rattle.cx_profiling.proofs.PartTable.{StoreOf, OwnedMade, old_owned, showing, counting, storing, owned_made}
use Rattle.cx_profiling.proofs.PortLemmas.{IsNew, old_or_new}
use Rattle.cx_profiling.proofs.PortsKept.{counter_target, memory_there}
use Rattle.cx_profiling.proofs.ReachedLemmas.{is_reached-from}
use Rattle.cx_profiling.proofs.RoleLemmas.{Role, as_main, as_child, as_kept, role, counter_number}

module _ (d : PlainDesign) (design : IsDesign d) (m k : ℕ) (within : k < length d.components) (act : Active) where
  abbrev part : PlainComponent
  part = component_at d k

  abbrev other : PlainComponent
  other = component_at (with_counts d) k

  abbrev i : Instance
  i = tree_within d (suc m) k

  abbrev j : Instance
  j = tree_within (with_counts d) (suc m) k

  -- WHAT DRIVES A NEW PORT, and what that names
  data NewDriver (p q : PortRef) : Type 0 where
    by_counter : (c n : ℕ) → p ≡ ports.Cell c n → c < length part.cells + 2 * length (counters (component_of d k)) → is_reached d k ≡ true → NewDriver p q
    by_output : (x : Shown) → is_reached d k ≡ true → (k ≡ d.main → ⊥) → In (shown_in (component_of d k)) x → x.port ≡ q → NewDriver p q
    by_store : (n : ℕ) (x : Shown) (a : PlainAssign) → k ≡ d.main → In (shown_in (component_of d k)) x → In (StoreOf d design k within n x) a → AssignNames a q → NewDriver p q

  new_driver : (p q : PortRef) → IsNew d part p → Mentions (drivers other act p) q → NewDriver p q
  new_driver p q new l = by (owned_made d design k within r.owned r.stands)
    where
      r : Driver other act p q
      r = driver_of other act p q l

      aims : r.owned.assign.target ≡ p
      aims = same_is r.owned.assign.target p r.target

      of_counter : (h x : ℕ) → In (counters (component_of d k)) (record { group = h; register = x }) → is_reached d k ≡ true → (c n : ℕ) × (r.owned.assign.target ≡ ports.Cell c n) × ((c ≡ x) ⊎ (c ≡ suc x)) → NewDriver p q
      of_counter h x own reached (c, n, target, at) =
          let number = counter_number d k within reached (record { group = h; register = x }) own in
          let less : number.0 < length (counters (component_of d k)) = number.1 in
          let is : x ≡ length part.cells + 2 * number.0 = number.2 in
          by_counter c n (sym aims ∙ target) (⊎_elim (λ (e : c ≡ x). omega (arith, less, is, e)) (λ (e : c ≡ suc x). omega (arith, less, is, e)) at) reached

      by : OwnedMade d design k within r.owned → NewDriver p q
      by (old_owned w stands e) =
          absurd (old_or_new d part w.assign.target p (targets_inside d design k within w (sorted_among (assigns_of part) w stands)) new (ap (λ x. x.assign.target) e ∙ aims))
      by (showing none n x main reached at e) =
          by_output x reached main (in_at (shown_in (component_of d k)) n x at) (⊎_elim (λ wrong. absurd wrong) (λ same. same) (subst (λ (y : PlainAssign). AssignNames y q) (sym e) r.names))
      by (counting h x some own reached few is inside) = of_counter h x own reached (counter_target part.place x r.owned.assign inside)
      by (storing n x main at some inside) = by_store n x r.owned.assign main (in_at (shown_in (component_of d k)) n x at) inside r.names

  -- A COMPONENT WITHOUT AN INSTANCE
  kept_acyclic : (k ≡ d.main → ⊥) → is_reached d k ≡ false → other ≡ kept_component d k → IsAcyclic i act → IsAcyclic j act
  kept_acyclic is none e acyclic = acyclic_grown d design m k within act acyclic known
    where
      undriven : (p q : PortRef) → NewDriver p q → ⊥
      undriven p q (by_counter c n at few reached) = both_ways (is_reached d k) none reached
      undriven p q (by_output x reached main inside same) = both_ways (is_reached d k) none reached
      undriven p q (by_store n x a main inside stands names) = is main

      known : (p : PortRef) → IsKnown d design m k within act p
      known (ports.Cell c p) =
          ⊎_elim (λ less. old_known d design m k within act c p less)
          (λ (past : length part.cells ≤ c).
          let far : length other.cells ≤ c = subst (λ (x : PlainComponent). length x.cells ≤ c) (sym e) past in
          ending 0 (λ q l. subst (λ x. CellLeads other act c p x q) (at_none (tree_within (with_counts d) m) other.cells c (slice_get_past other.cells c far)) l))
          (cases_lt c (length part.cells))
      known (ports.Input n) = ending 0 (λ q l. l)
      known (ports.Output n) =
          ⊎_elim (λ less. plain_known d design m k within act (ports.Output n) less refl) (λ past. ending 0 (λ q l. undriven (ports.Output n) q (new_driver (ports.Output n) q past l))) (cases_lt n (length part.outputs))
      known (ports.Done g) =
          ⊎_elim (λ less. plain_known d design m k within act (ports.Done g) less refl) (λ past. ending 0 (λ q l. undriven (ports.Done g) q (new_driver (ports.Done g) q past l))) (cases_lt g (length part.groups))
      known (ports.Literal w v) = ending 0 (λ q l. l)

module _ (d : PlainDesign) (design : IsDesign d) (m k : ℕ) (at : InTree d (suc m) k) (act : Active) where
  abbrev node : PlainComponent
  node = component_at d k

  abbrev grown : PlainComponent
  grown = component_at (with_counts d) k

  abbrev new : Instance
  new = tree_within (with_counts d) (suc m) k

  abbrev memory : ℕ
  memory = length node.cells + 2 * length (counters (component_of d k))

  -- OF MAIN
  module _ (names : List (List ℕ)) (is : grown ≡ main_component d k names) (words address : ℕ) (stands : cell_at (cells_of new) memory ≡ OfRow (memory_row 64 (words ∷ []) (address ∷ []))) where
    stored_ends : (n : ℕ) (x : Shown) (a : PlainAssign) (q : PortRef) → In (shown_in (component_of d k)) x → In (StoreOf d design k at.within n x) a → AssignNames a q → Ends new act 0 q
    stored_ends n x a q inside stored named = by stored
      where
        of_source : (p : PortRef) → (a.source.port ≡ p) → (a.guard ≡ Always) → Ends new act 0 p → Ends new act 0 q
        of_source p source bare ends =
            ⊎_elim (λ wrong. absurd (let none : GuardNames Always q = subst (λ g. GuardNames g q) bare wrong in none)) (λ same. subst (Ends new act 0) (sym source ∙ same) ends) named

        by : In (StoreOf d design k at.within n x) a → Ends new act 0 q
        by (inl e) = of_source _ (ap (λ (y : PlainAssign). y.source.port) (sym e)) (ap (λ (y : PlainAssign). y.guard) (sym e)) (λ r l. l)
        by (inr (inl e)) = of_source x.port (ap (λ (y : PlainAssign). y.source.port) (sym e)) (ap (λ (y : PlainAssign). y.guard) (sym e)) (shown_ends d design m k at act x inside)
        by (inr (inr (inl e))) = of_source _ (ap (λ (y : PlainAssign). y.source.port) (sym e)) (ap (λ (y : PlainAssign). y.guard) (sym e)) (λ r l. l)
        by (inr (inr (inr (inl e)))) = of_source (ports.Cell memory 4) (ap (λ (y : PlainAssign). y.source.port) (sym e)) (ap (λ (y : PlainAssign). y.guard) (sym e)) (λ r l. subst (λ y. CellLeads grown act memory 4 y r) stands l)
        by (inr (inr (inr (inr none)))) = absurd none

    abbrev NoCounter : PortRef → Type 0
    NoCounter p = (c n : ℕ) → p ≡ ports.Cell c n → c < memory → ⊥

    driven_ends : (p q : PortRef) → IsNew d node p → NoCounter p → Mentions (drivers grown act p) q → Ends new act 0 q
    driven_ends p q fresh apart l = by (new_driver d design m k at.within act p q fresh l)
      where
        by : NewDriver d design m k at.within act p q → Ends new act 0 q
        by (by_counter c n e few reached) = absurd (apart c n e few)
        by (by_output x reached other_main inside same) = subst (Ends new act 0) same (shown_ends d design m k at act x inside)
        by (by_store n x a first inside stored named) = stored_ends n x a q inside stored named

    at_memory : (n c p : ℕ) → ports.Cell memory n ≡ ports.Cell c p → c < memory → ⊥
    at_memory n c p e less = let same : memory ≡ c = cc in omega (arith, same, less)

    input_ends : (n : ℕ) (q : PortRef) → Mentions (drivers grown act (ports.Cell memory n)) q → Ends new act 0 q
    input_ends n q l = driven_ends (ports.Cell memory n) q (omega arith) (at_memory n) l

    address_ends : Ends new act 1 (ports.Cell memory 0)
    address_ends q l = input_ends 0 q (subst (λ x. CellLeads grown act memory 0 x q) stands l)

    read_ends : Ends new act 2 (ports.Cell memory 3)
    read_ends q l = by (subst (λ x. CellLeads grown act memory 3 x q) stands l)
      where
        by : SideLeads grown act (memory_row 64 (words ∷ []) (address ∷ [])) memory 3 sides.Output q → Ends new act 1 q
        by (zero, reads, e) = subst (Ends new act 1) e address_ends
        by (suc p, reads, e) = absurd (let few : suc p < 1 = ltb-true (suc p) 1 reads in omega (arith, few))

    memory_known : (p : ℕ) → IsKnown d design m k at.within act (ports.Cell memory p)
    memory_known zero = ending 1 address_ends
    memory_known (suc zero) = ending 1 (λ q l. input_ends 1 q (subst (λ x. CellLeads grown act memory 1 x q) stands l))
    memory_known (suc (suc zero)) = ending 1 (λ q l. input_ends 2 q (subst (λ x. CellLeads grown act memory 2 x q) stands l))
    memory_known (suc (suc (suc zero))) = ending 2 read_ends
    memory_known (suc (suc (suc (suc zero)))) = ending 0 (λ q l. subst (λ x. CellLeads grown act memory 4 x q) stands l)
    memory_known (suc (suc (suc (suc (suc p))))) = ending 0 (λ q l. subst (λ x. CellLeads grown act memory (suc (suc (suc (suc (suc p))))) x q) stands l)

    main_size : length grown.cells ≡ suc memory
    main_size =
        let count : length (counter_cells node.place names 0 (length (counters (component_of d k)))) ≡ 2 * length (counters (component_of d k)) = counter_cells-length node.place names 0 (length (counters (component_of d k))) in
        let last = memory_cell node.place (name_at names (2 * length (counters (component_of d k)))) (length (shown_in (component_of d k))) ∷ [] in
        let whole : length grown.cells ≡ length node.cells + length (counter_cells node.place names 0 (length (counters (component_of d k))) ++ last) =
        ap (λ x. length x.cells) is ∙ length-append node.cells (counter_cells node.place names 0 (length (counters (component_of d k))) ++ last) in
        let behind_node : length (counter_cells node.place names 0 (length (counters (component_of d k))) ++ last) ≡ length (counter_cells node.place names 0 (length (counters (component_of d k)))) + 1 =
        length-append (counter_cells node.place names 0 (length (counters (component_of d k)))) last in
        omega (arith, whole, behind_node, count)

    main_cells : (c p : ℕ) → memory ≤ c → IsKnown d design m k at.within act (ports.Cell c p)
    main_cells c p past =
        ⊎_elim
        (λ (e : c ≡ memory). subst (λ n. IsKnown d design m k at.within act (ports.Cell n p)) (sym e) (memory_known p))
        (λ differ.
        let size : length grown.cells ≡ suc memory = main_size in
        let far : length grown.cells ≤ c = omega (arith, past, size, differ) in
        ending 0 (λ q l. subst (λ x. CellLeads grown act c p x q) (at_none (tree_within (with_counts d) m) grown.cells c (slice_get_past grown.cells c far)) l))
        (cases_eq c memory)

    no_cell_output : (n c p : ℕ) → ports.Output n ≡ ports.Cell c p → c < memory → ⊥
    no_cell_output n c p e less = absurd (cc)

    no_cell_done : (g c p : ℕ) → ports.Done g ≡ ports.Cell c p → c < memory → ⊥
    no_cell_done g c p e less = absurd (cc)

    pub main_acyclic : IsAcyclic (tree_within d (suc m) k) act → IsAcyclic new act
    main_acyclic acyclic =
        acyclic_grown d design m k at.within act acyclic
        (all_known d design m k at act main_cells
        (λ n past. ending 1 (λ q l. driven_ends (ports.Output n) q past (no_cell_output n) l))
        (λ g past. ending 1 (λ q l. driven_ends (ports.Done g) q past (no_cell_done g) l)))

module _ (d : PlainDesign) (design : IsDesign d) (accepted : IsAccepted d) (m k : ℕ) (count : length d.components ≡ suc m) (within : k < length d.components)
    (some : 1 ≤ entry_count d) (small : entry_count d < 2 ^ 32) where
  tree_at : is_reached d k ≡ true → InTree d (suc m) k
  tree_at reached = subst (λ n. InTree d n k) count (record { within = within; deep_enough = deep d design k within; few = omega arith; reached = reached })

  pub acyclic_kept : (act : Active) → IsAcyclic (tree_within d (suc m) k) act → IsAcyclic (tree_within (with_counts d) (suc m) k) act
  acyclic_kept act acyclic = by (role d k within)
    where
      by : Role d k → IsAcyclic (tree_within (with_counts d) (suc m) k) act
      by (as_main names is e) =
          let size = length (shown_in (component_of d k)) in
          let words : entry_count d ≡ length (shown_in (component_of d k)) = ap (λ n. length (shown_in (component_of d n))) (sym is) in
          main_acyclic d design m k (tree_at (is_reached-from d design k (inl (sym is)))) act names e size (address_width size)
          (memory_there d design m k within is ∙ ap OfRow (memory_row_of size (subst (λ n. 1 ≤ n) words some) (subst (λ n. n < 2 ^ 32) words small))) acyclic
      by (as_child names is reached e) = child_acyclic d design m k (tree_at reached) act names e acyclic
      by (as_kept is none e) = kept_acyclic d design m k within act is none e acyclic

  pub cycle_never : HasCycle (tree_within (with_counts d) (suc m) k) nothing → ⊥
  cycle_never = acyclic_kept nothing (own_acyclic (tree_within d (suc m) k) (within_acyclic d accepted (suc m) k))

  pub group_cycle_never : (g : ℕ) → HasCycle (tree_within (with_counts d) (suc m) k) (group g) → ⊥
  group_cycle_never g = acyclic_kept (group g) (group_acyclic (tree_within d (suc m) k) (within_acyclic d accepted (suc m) k) (λ h few. within_group d accepted (suc m) k h few) g)
