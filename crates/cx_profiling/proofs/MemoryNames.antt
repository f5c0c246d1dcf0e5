-- THE EXTERNAL MEMORIES of an instrumented design: those of the design, and the memory of the counts, whose name is a numbered one.
use Rattle.std.proofs.Common.{◌≡◌, ℕ, zero, suc, ◌+◌, ◌*◌, ◌^◌, ◌<◌, ◌≤◌, inl, inr, ◌⊎◌, true, List, [], ◌∷◌, ◌++◌, length, refl, sym, ap, ◌∙◌, subst, arith}
use Rattle.std.specs.Prelude.{nat_eq, get_or}
use Rattle.std.proofs.lemmas.Bool.{both_ways, eq-eqb}
use Rattle.std.proofs.lemmas.List.{length-append}
use Rattle.cx_text.proofs.MemberLaws.{in_either}
use Rattle.cx_text.specs.declared.places.Place.{Place}
use Rattle.cx_meaning.specs.Designs.{PlainCell, PlainComponent, PlainDesign, component_at}
use Rattle.cx_text.specs.Members.{In}
use Rattle.cx_rules.specs.Ports.{component_of}
use Rattle.cx_rules.specs.Sizes.{size_of, design_size}
use Rattle.cx_rules.specs.Wellformed.{IsDesign}
use Rattle.cx_profiling.specs.Counters.{counters, Shown, shown_in}
use Rattle.cx_profiling.specs.FreeNames.{profile_name, free_names, names_of}
use Rattle.cx_profiling.specs.Instrumented.{name_at, counter_cells, memory_cell, main_component, instrumented_component, with_counts}
use Rattle.cx_profiling.proofs.CounterLemmas.{counter_cells-length}
use Rattle.cx_profiling.proofs.DesignLemmas.{names-length, many_parts, size_within, groups-length}
use Rattle.cx_profiling.proofs.GainedLemmas.{by_kind, components-length, component_at-with_counts, main_grown}
use Rattle.cx_profiling.proofs.NameLemmas.{free_names-length, free_names-bounded}

counters_inside : (place : Place) (names : List (List ℕ)) (n k : ℕ) (cell : PlainCell) → In (counter_cells place names n k) cell → cell.external ≡ true → ⊥
counters_inside place names n zero cell i e = i
counters_inside place names n (suc k) cell (inl same) e = both_ways cell.external (ap (λ (c : PlainCell). c.external) (sym same)) e
counters_inside place names n (suc k) cell (inr (inl same)) e = both_ways cell.external (ap (λ (c : PlainCell). c.external) (sym same)) e
counters_inside place names n (suc k) cell (inr (inr i)) e = counters_inside place names (suc (suc n)) k cell i e

pub in_names : (names : List (List ℕ)) (n : ℕ) → n < length names → In names (get_or names n [])
in_names [] n less = absurd (omega (arith, less))
in_names (x ∷ xs) zero less = inl refl
in_names (x ∷ xs) (suc n) less = inr (in_names xs n (omega (arith, less)))

module _ (d : PlainDesign) (design : IsDesign d) (few : design_size (with_counts d) < 2 ^ 32) where
  abbrev k : ℕ
  k = d.main

  abbrev part : PlainComponent
  part = component_at d k

  abbrev own : ℕ
  own = length (counters (component_of d k))

  abbrev shown : List Shown
  shown = shown_in (component_of d k)

  -- an external memory of main is an old one, or has a numbered name
  abbrev IsNamed : PlainCell → Type 0
  IsNamed cell = In part.cells cell ⊎ ((n : ℕ) × (n < 2 ^ 64) × (cell.name ≡ profile_name n))

  small : size_of (instrumented_component d k) < 2 ^ 32
  small =
      let there : k < length (with_counts d).components = subst (λ n. k < n) (sym (components-length d)) design.main_there in
      let less : size_of (component_at (with_counts d) k) < design_size (with_counts d) = size_within (with_counts d).components k there in
      subst (λ x. size_of x < 2 ^ 32) (component_at-with_counts d k design.main_there) (omega (arith, less, few))

  of_main : (names : List (List ℕ)) → names ≡ free_names (names_of part) (suc (2 * own + length shown)) → nat_eq k d.main ≡ true → size_of (main_component d k names) < 2 ^ 32
      → (cell : PlainCell) → In (main_component d k names).cells cell → cell.external ≡ true → IsNamed cell
  of_main names e main size cell i external = by (in_either part.cells (counter_cells part.place names 0 own ++ memory_cell part.place (name_at names (2 * own)) (length shown) ∷ []) cell i)
    where
      room : suc (2 * own + length shown) + length (names_of part) < 2 ^ 64
      room =
          let taken : length (names_of part) ≡ length part.inputs + length part.outputs + (length part.cells + length part.groups) = names-length part in
          let counter_count : length (counter_cells part.place names 0 own) ≡ 2 * own = counter_cells-length part.place names 0 own in
          let behind : length (counter_cells part.place names 0 own ++ memory_cell part.place (name_at names (2 * own)) (length shown) ∷ []) ≡ length (counter_cells part.place names 0 own) + 1 =
          length-append (counter_cells part.place names 0 own) (memory_cell part.place (name_at names (2 * own)) (length shown) ∷ []) in
          let cells : length (main_component d k names).cells ≡ length part.cells + length (counter_cells part.place names 0 own ++ memory_cell part.place (name_at names (2 * own)) (length shown) ∷ []) =
          length-append part.cells (counter_cells part.place names 0 own ++ memory_cell part.place (name_at names (2 * own)) (length shown) ∷ []) in
          let groups : length (main_component d k names).groups ≡ length part.groups + length shown = groups-length d design k design.main_there names (main_grown d k names main) in
          let parts : length (main_component d k names).inputs + length (main_component d k names).outputs + length (main_component d k names).cells + length (main_component d k names).groups ≤ size_of (main_component d k names) =
          many_parts (main_component d k names) in
          omega (arith, taken, counter_count, behind, cells, groups, parts, size)

      named : In names (name_at names (2 * own)) → (n : ℕ) × (n < 2 ^ 64) × (name_at names (2 * own) ≡ profile_name n)
      named j =
          let r = free_names-bounded (names_of part) (suc (2 * own + length shown)) (name_at names (2 * own)) (subst (λ list. In list (name_at names (2 * own))) e j) in
          let less : r.0 < suc (2 * own + length shown) + length (names_of part) = r.2 in
          let space = room in
          (r.0, omega (arith, less, space), r.1)

      long : 2 * own < length names
      long =
          let all : length (free_names (names_of part) (suc (2 * own + length shown))) ≡ suc (2 * own + length shown) = free_names-length (names_of part) (suc (2 * own + length shown)) room in
          let same : length names ≡ length (free_names (names_of part) (suc (2 * own + length shown))) = ap length e in
          omega (arith, all, same)

      of_new : In (counter_cells part.place names 0 own) cell ⊎ In (memory_cell part.place (name_at names (2 * own)) (length shown) ∷ []) cell → IsNamed cell
      of_new (inl j) = absurd (counters_inside part.place names 0 own cell j external)
      of_new (inr (inl same)) = let r = named (in_names names (2 * own) long) in inr (r.0, r.1, ap (λ (c : PlainCell). c.name) (sym same) ∙ r.2)
      of_new (inr (inr j)) = absurd j

      by : In part.cells cell ⊎ In (counter_cells part.place names 0 own ++ memory_cell part.place (name_at names (2 * own)) (length shown) ∷ []) cell → IsNamed cell
      by (inl j) = inl j
      by (inr j) = of_new (in_either (counter_cells part.place names 0 own) (memory_cell part.place (name_at names (2 * own)) (length shown) ∷ []) cell j)

  pub memories_named : (cell : PlainCell) → In (component_at (with_counts d) k).cells cell → cell.external ≡ true → IsNamed cell
  memories_named cell i external =
      by_kind d (λ new. size_of new < 2 ^ 32 → (cell : PlainCell) → In new.cells cell → cell.external ≡ true → IsNamed cell) k
      (λ names e main size. of_main names e main size) (λ names e off reached size c j x. absurd (both_ways (nat_eq d.main d.main) off (eq-eqb d.main d.main refl))) (λ off none size c j x. absurd (both_ways (nat_eq d.main d.main) off (eq-eqb d.main d.main refl)))
      small cell (subst (λ (x : PlainComponent). In x.cells cell) (component_at-with_counts d k design.main_there) i) external
