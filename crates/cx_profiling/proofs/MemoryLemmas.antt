-- THE MEMORY OF THE COUNTS: its row, what it shows, and what it comes to where a word is stored.
use Rattle.std.proofs.Common.{◌≡◌, ℕ, suc, ◌+◌, ◌*◌, ◌^◌, ◌<◌, ◌≤◌, ⊎_elim, inl, inr, Bool, true, false, List, [], ◌∷◌, ◌++◌, length, slice_get, refl, sym, ap, ◌∙◌, subst, arith}
use Rattle.std.specs.Prelude.{unwrap_or, codes, slice_set}
use Rattle.std.proofs.lemmas.Bool.{lt-ltb, cases_lt}
use Rattle.std.proofs.lemmas.List.{length-append}
use Rattle.cx_text.specs.declared.rules.Rule.TheVariants.{Limit}
use Rattle.cx_text.proofs.ListLaws.{behind}
use Rattle.cx_prim.specs.declared.names.PrimitiveName.TheVariants as primitives
use Rattle.cx_prim.specs.CellStates.{Memory}
use Rattle.cx_prim.specs.Table.{row_of, no_row}
use Rattle.cx_prim.specs.MemoryRows.{memory_row}
use Rattle.cx_meaning.specs.declared.ports.PortRef.TheVariants as ports
use Rattle.cx_meaning.specs.Designs.{PlainComponent, PlainDesign, component_at}
use Rattle.cx_meaning.specs.Instances.{Instance, Node, OfRow, cell_at, cells_of, part_of, tree_within}
use Rattle.cx_meaning.specs.Sights.{Look, bit_of, of_option}
use Rattle.cx_meaning.specs.Cycles.{Next, cell_outcome}
use Rattle.cx_meaning.proofs.DesignsLemmas.{same_part}
use Rattle.cx_rules.specs.Ports.{component_of}
use Rattle.cx_rules.specs.Counts as counts
use Rattle.cx_rules.specs.Spots.{Itself}
use Rattle.cx_rules.specs.Accepted.{KeepsStage}
use Rattle.cx_profiling.specs.Counters.{counters, shown_in}
use Rattle.cx_profiling.specs.Instrumented.{address_width, memory_cell, counter_cells, name_at, counted_groups, store_groups, main_component, with_counts}
use Rattle.cx_profiling.proofs.CellLemmas.{memory_row-is}
use Rattle.cx_profiling.proofs.ListedCells.{at_row}
use Rattle.cx_profiling.proofs.CounterLemmas.{counter_cells-length}
use Rattle.cx_profiling.proofs.GainedLemmas.{components-length, store_groups-length}
use Rattle.cx_profiling.proofs.RowLemmas.{number}

pub memory_is : (k : ℕ) → 1 ≤ k → k ≤ 4096 → row_of (record { name = primitives.StdMemD1; numbers = 64 ∷ k ∷ address_width k ∷ [] }) ≡ memory_row 64 (k ∷ []) (address_width k ∷ [])
memory_is k some few = let small : k < 2 ^ 32 = omega (arith, few) in ap (λ o. unwrap_or o no_row) (memory_row-is k some small)

-- WHAT IT SHOWS: the done of its state
pub done_shows : (k a : ℕ) (words : List ℕ) (done : Bool) → of_option ((memory_row 64 (k ∷ []) (a ∷ [])).output (Memory words done) [] 4) ≡ bit_of done
done_shows k a words true = refl
done_shows k a words false = refl

-- A WORD IS STORED
pub memory_stores : (look : Look) (c k a j v : ℕ) (words : List ℕ) (done : Bool) → j < k → look (ports.Cell c 2) ≡ number 1 1 → look (ports.Cell c 0) ≡ number a j → look (ports.Cell c 1) ≡ number 64 v
    → cell_outcome look c (memory_row 64 (k ∷ []) (a ∷ [])) (Memory words done) ≡ Next (Memory (slice_set words j v) true)
memory_stores look c k a j v words done less write address input =
    let word : j * 1 + 0 ≡ j = omega arith in
    rw (write, address, input, write, lt-ltb j k less, word) refl

-- the groups of a component are among those that the limits count
own_groups : (i : Instance) → length (part_of i).groups ≤ counts.counted_groups i
own_groups (Node part cells) = omega arith

module _ (d : PlainDesign) (k : ℕ) (within : k < length d.components) (names : List (List ℕ)) (is : component_at (with_counts d) k ≡ main_component d k names) (limits : KeepsStage 7 (with_counts d)) where
  abbrev part : PlainComponent
  part = component_at d k

  abbrev size : ℕ
  size = length (shown_in (component_of d k))

  abbrev place : ℕ
  place = length part.cells + 2 * length (counters (component_of d k))

  -- the rule of limits bounds the groups of main
  few_groups : length (component_at (with_counts d) k).groups ≤ 4096
  few_groups =
      ⊎_elim
      (λ (past : 4096 < length (component_at (with_counts d) k).groups).
      absurd (limits Limit (record { component = k; part = Itself 1 }) (component_at (with_counts d) k).place (codes "groups") refl
      (inr (inl (record { within = subst (λ n. k < n) (sym (components-length d)) within; is = refl; exceeds = counted past; tells = (refl, refl) })))))
      (λ few. few) (cases_lt 4096 (length (component_at (with_counts d) k).groups))
    where
      counted : 4096 < length (component_at (with_counts d) k).groups → 4096 < counts.counted_groups (component_of (with_counts d) k)
      counted past =
          let own : length (part_of (component_of (with_counts d) k)).groups ≤ counts.counted_groups (component_of (with_counts d) k) = own_groups (component_of (with_counts d) k) in
          let same : length (part_of (component_of (with_counts d) k)).groups ≡ length (component_at (with_counts d) k).groups =
          ap (λ (x : PlainComponent). length x.groups) (same_part (with_counts d) (length (with_counts d).components) k) in
          omega (arith, past, own, same)

  pub few_words : size ≤ 4096
  few_words =
      let stores = store_groups part.place names place (address_width size) (suc (2 * length (counters (component_of d k)))) (length part.groups) 0 (shown_in (component_of d k)) in
      let total : length (component_at (with_counts d) k).groups ≡ length (counted_groups d part (cells_of (component_of d k)) (length part.cells) part.groups) + size =
      ap (λ x. length x.groups) is ∙ length-append (counted_groups d part (cells_of (component_of d k)) (length part.cells) part.groups) stores
      ∙ ap (λ n. length (counted_groups d part (cells_of (component_of d k)) (length part.cells) part.groups) + n) (store_groups-length part.place names place (address_width size) (suc (2 * length (counters (component_of d k)))) (length part.groups) 0 (shown_in (component_of d k))) in
      let few : length (component_at (with_counts d) k).groups ≤ 4096 = few_groups in
      omega (arith, total, few)

  -- it stands behind the counters, the last cell
  pub cells_total : length (component_at (with_counts d) k).cells ≡ suc place
  cells_total =
      let counters_count : length (counter_cells part.place names 0 (length (counters (component_of d k)))) ≡ 2 * length (counters (component_of d k)) = counter_cells-length part.place names 0 (length (counters (component_of d k))) in
      let last = memory_cell part.place (name_at names (2 * length (counters (component_of d k)))) size ∷ [] in
      let whole : length (component_at (with_counts d) k).cells ≡ length part.cells + length (counter_cells part.place names 0 (length (counters (component_of d k))) ++ last) =
      ap (λ x. length x.cells) is ∙ length-append part.cells (counter_cells part.place names 0 (length (counters (component_of d k))) ++ last) in
      let behind_part : length (counter_cells part.place names 0 (length (counters (component_of d k))) ++ last) ≡ length (counter_cells part.place names 0 (length (counters (component_of d k)))) + 1 =
      length-append (counter_cells part.place names 0 (length (counters (component_of d k)))) last in
      omega (arith, whole, behind_part, counters_count)

  pub memory_at : (m : ℕ) → 1 ≤ size → cell_at (cells_of (tree_within (with_counts d) (suc m) k)) place ≡ OfRow (memory_row 64 (size ∷ []) (address_width size ∷ []))
  memory_at m some =
      let counters_count : length (counter_cells part.place names 0 (length (counters (component_of d k)))) ≡ 2 * length (counters (component_of d k)) = counter_cells-length part.place names 0 (length (counters (component_of d k))) in
      let last = memory_cell part.place (name_at names (2 * length (counters (component_of d k)))) size ∷ [] in
      let number : 2 * length (counters (component_of d k)) ≡ length (counter_cells part.place names 0 (length (counters (component_of d k)))) + 0 = omega (arith, counters_count) in
      at_row (tree_within (with_counts d) m) (component_at (with_counts d) k).cells place (memory_cell part.place (name_at names (2 * length (counters (component_of d k)))) size)
      (record { name = primitives.StdMemD1; numbers = 64 ∷ size ∷ address_width size ∷ [] })
      (ap (λ x. slice_get x.cells place) is
      ∙ behind part.cells (counter_cells part.place names 0 (length (counters (component_of d k))) ++ last) place (2 * length (counters (component_of d k))) refl
      ∙ behind (counter_cells part.place names 0 (length (counters (component_of d k)))) last (2 * length (counters (component_of d k))) 0 number) refl
      ∙ ap OfRow (memory_is size some few_words)
