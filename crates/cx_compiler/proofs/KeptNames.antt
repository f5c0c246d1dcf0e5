-- AN INSTRUMENTED DESIGN has plain names where its design has: the new ones are numbered, and no numbered name holds a point.
use Rattle.std.proofs.Common.{◌≡◌, ℕ, zero, suc, ◌+◌, ◌*◌, ◌^◌, ◌<◌, ◌≤◌, inl, inr, ◌⊎◌, Bool, true, false, List, [], ◌∷◌, ◌++◌, if◌then◌else◌, length, refl, sym, ap, ◌∙◌, subst, arith}
use Rattle.std.specs.Prelude.{get_or, nat_eq, nat_le}
use Rattle.std.specs.List.{list_all}
use Rattle.std.proofs.lemmas.Bool.{both_ways}
use Rattle.std.proofs.lemmas.List.{length-append}
use Rattle.cx_text.proofs.MemberLaws.{in_either}
use Rattle.cx_text.proofs.BoolLaws.{and_left, and_right}
use Rattle.cx_text.specs.declared.places.Place.{Place}
use Rattle.cx_meaning.specs.declared.kinds.PortDecl.{PortDecl}
use Rattle.cx_meaning.specs.Designs.{PlainCell, PlainComponent, PlainDesign, component_at}
use Rattle.cx_meaning.specs.Instances.{cells_of}
use Rattle.cx_text.specs.Members.{In}
use Rattle.cx_rules.specs.Flat.{ArePlainNames, HasPlainNames, IsPlainName, point}
use Rattle.cx_rules.specs.Ports.{component_of}
use Rattle.cx_rules.specs.Sizes.{size_of, design_size}
use Rattle.cx_rules.specs.Wellformed.{IsDesign}
use Rattle.cx_vtree.specs.Layout.{is_name_byte, is_word}
use Rattle.cx_profiling.specs.Counters.{counters, entry_count, Shown, shown_in}
use Rattle.cx_profiling.specs.FreeNames.{profile_name, free_names, names_of}
use Rattle.cx_profiling.specs.Instrumented.{counter_cells, count_outputs, name_at, memory_cell, child_component, main_component, instrumented_component, instrumented, with_counts}
use Rattle.cx_profiling.proofs.CounterLemmas.{counter_cells-length}
use Rattle.cx_profiling.proofs.DesignLemmas.{groups-length, many_parts, names-length, size_within}
use Rattle.cx_profiling.proofs.GainedLemmas.{by_kind, components-length, component_at-with_counts, count_outputs-length, counted_groups-length, main_grown}
use Rattle.cx_profiling.proofs.NameLemmas.{free_names-bounded, free_names-length}
use Rattle.cx_compiler.proofs.WordLemmas.{profile_word}
use Rattle.cx_profiling.proofs.MemoryNames.{in_names}

-- a numbered name is plain
abbrev Numbered : List ℕ → Type 0
Numbered name = (m : ℕ) × (m < 2 ^ 64) × (name ≡ profile_name m)

name_bytes : (bytes : List ℕ) (b : ℕ) → list_all is_name_byte bytes ≡ true → In bytes b → is_name_byte b ≡ true
name_bytes [] b all i = absurd i
name_bytes (x ∷ bytes) b all (inl e) = ap is_name_byte (sym e) ∙ and_left (is_name_byte x) (list_all is_name_byte bytes) all
name_bytes (x ∷ bytes) b all (inr i) = name_bytes bytes b (and_right (is_name_byte x) (list_all is_name_byte bytes) all) i

numbered_plain : (name : List ℕ) → Numbered name → IsPlainName name
numbered_plain name (m, small, e) = record {
  some = λ none. let z : 112 ≡ 0 = ap (λ bytes. get_or bytes 0 0) (sym e ∙ none) in omega (arith, z);
  no_point = λ i. both_ways (is_name_byte point) refl (name_bytes (profile_name m) point (all (profile_word m small)) (subst (λ bytes. In bytes point) e i));
}
  where
    all : is_word (profile_name m) ≡ true → list_all is_name_byte (profile_name m) ≡ true
    all word = and_left (list_all is_name_byte (profile_name m)) (nat_le (length (profile_name m)) 255) word

-- NEW PARTS have numbered names
module _ (names : List (List ℕ)) (all : (m : ℕ) → m < length names → Numbered (name_at names m)) where
  counters_numbered : (place : Place) (n c : ℕ) → n + 2 * c ≤ length names → (cell : PlainCell) → In (counter_cells place names n c) cell → Numbered cell.name
  counters_numbered place n zero few cell i = absurd i
  counters_numbered place n (suc c) few cell (inl e) = subst (λ (x : PlainCell). Numbered x.name) e (all n (omega (arith, few)))
  counters_numbered place n (suc c) few cell (inr (inl e)) = subst (λ (x : PlainCell). Numbered x.name) e (all (suc n) (omega (arith, few)))
  counters_numbered place n (suc c) few cell (inr (inr i)) = counters_numbered place (suc (suc n)) c (omega (arith, few)) cell i

  outputs_numbered : (n : ℕ) (xs : List Shown) → n + length xs ≤ length names → (decl : PortDecl) → In (count_outputs names n xs) decl → Numbered decl.name
  outputs_numbered n [] few decl i = absurd i
  outputs_numbered n (x ∷ xs) few decl (inl e) = subst (λ (y : PortDecl). Numbered y.name) e (all n (omega (arith, few)))
  outputs_numbered n (x ∷ xs) few decl (inr i) = outputs_numbered (suc n) xs (omega (arith, few)) decl i

module _ (d : PlainDesign) (rules : IsDesign d) (plain : ArePlainNames d) (k : ℕ) (there : k < length d.components) where
  abbrev part : PlainComponent
  part = component_at d k

  abbrev own : ℕ
  own = length (counters (component_of d k))

  abbrev shown : List Shown
  shown = shown_in (component_of d k)

  taken : length (names_of part) ≡ length part.inputs + length part.outputs + (length part.cells + length part.groups)
  taken = names-length part

  -- names that are free are numbered
  are_numbered : (needed : ℕ) → needed + length (names_of part) < 2 ^ 64 → (names : List (List ℕ)) → names ≡ free_names (names_of part) needed → (m : ℕ) → m < length names → Numbered (name_at names m)
  are_numbered needed room names e m less =
      let r = free_names-bounded (names_of part) needed (name_at names m) (subst (λ list. In list (name_at names m)) e (in_names names m less)) in
      let few : r.0 < needed + length (names_of part) = r.2 in
      (r.0, omega (arith, few, room), r.1)

  many : (needed : ℕ) → needed + length (names_of part) < 2 ^ 64 → (names : List (List ℕ)) → names ≡ free_names (names_of part) needed → length names ≡ needed
  many needed room names e = ap length e ∙ free_names-length (names_of part) needed room

  main_plain : (names : List (List ℕ)) → names ≡ free_names (names_of part) (suc (2 * own + length shown)) → nat_eq k d.main ≡ true → size_of (main_component d k names) < 2 ^ 32 → HasPlainNames (main_component d k names)
  main_plain names e main size = record { cells = λ cell i. of_cell cell (in_either part.cells new cell i); inputs = (plain k there).inputs; outputs = (plain k there).outputs }
    where
      new : List PlainCell
      new = counter_cells part.place names 0 own ++ memory_cell part.place (name_at names (2 * own)) (length shown) ∷ []

      room : suc (2 * own + length shown) + length (names_of part) < 2 ^ 64
      room =
          let all = taken in
          let counter_count : length (counter_cells part.place names 0 own) ≡ 2 * own = counter_cells-length part.place names 0 own in
          let behind : length new ≡ length (counter_cells part.place names 0 own) + 1 = length-append (counter_cells part.place names 0 own) (memory_cell part.place (name_at names (2 * own)) (length shown) ∷ []) in
          let cells : length (main_component d k names).cells ≡ length part.cells + length new = length-append part.cells new in
          let groups : length (main_component d k names).groups ≡ length part.groups + length shown = groups-length d rules k there names (main_grown d k names main) in
          let parts : length (main_component d k names).inputs + length (main_component d k names).outputs + length (main_component d k names).cells + length (main_component d k names).groups ≤ size_of (main_component d k names) =
          many_parts (main_component d k names) in
          omega (arith, all, counter_count, behind, cells, groups, parts, size)

      all : (m : ℕ) → m < length names → Numbered (name_at names m)
      all = are_numbered (suc (2 * own + length shown)) room names e

      long : length names ≡ suc (2 * own + length shown)
      long = many (suc (2 * own + length shown)) room names e

      of_new : (cell : PlainCell) → In (counter_cells part.place names 0 own) cell ⊎ In (memory_cell part.place (name_at names (2 * own)) (length shown) ∷ []) cell → Numbered cell.name
      of_new cell (inl i) = let l = long in counters_numbered names all part.place 0 own (omega (arith, l)) cell i
      of_new cell (inr (inl same)) = let l = long in subst (λ (x : PlainCell). Numbered x.name) same (all (2 * own) (omega (arith, l)))
      of_new cell (inr (inr none)) = absurd none

      of_cell : (cell : PlainCell) → In part.cells cell ⊎ In new cell → IsPlainName cell.name
      of_cell cell (inl i) = (plain k there).cells cell i
      of_cell cell (inr i) = numbered_plain cell.name (of_new cell (in_either (counter_cells part.place names 0 own) (memory_cell part.place (name_at names (2 * own)) (length shown) ∷ []) cell i))

  child_plain : (names : List (List ℕ)) → names ≡ free_names (names_of part) (2 * own + length shown) → size_of (child_component d k names) < 2 ^ 32 → HasPlainNames (child_component d k names)
  child_plain names e size = record {
    cells = λ cell i. of_cell cell (in_either part.cells (counter_cells part.place names 0 own) cell i);
    inputs = (plain k there).inputs;
    outputs = λ decl i. of_output decl (in_either part.outputs (count_outputs names (2 * own) shown) decl i);
  }
    where
      room : 2 * own + length shown + length (names_of part) < 2 ^ 64
      room =
          let all = taken in
          let counter_count : length (counter_cells part.place names 0 own) ≡ 2 * own = counter_cells-length part.place names 0 own in
          let cells : length (child_component d k names).cells ≡ length part.cells + length (counter_cells part.place names 0 own) = length-append part.cells (counter_cells part.place names 0 own) in
          let output_count : length (count_outputs names (2 * own) shown) ≡ length shown = count_outputs-length names (2 * own) shown in
          let outputs : length (child_component d k names).outputs ≡ length part.outputs + length (count_outputs names (2 * own) shown) = length-append part.outputs (count_outputs names (2 * own) shown) in
          let groups : length (child_component d k names).groups ≡ length part.groups = counted_groups-length d part (cells_of (component_of d k)) (length part.cells) part.groups in
          let parts : length (child_component d k names).inputs + length (child_component d k names).outputs + length (child_component d k names).cells + length (child_component d k names).groups ≤ size_of (child_component d k names) =
          many_parts (child_component d k names) in
          omega (arith, all, counter_count, cells, output_count, outputs, groups, parts, size)

      all : (m : ℕ) → m < length names → Numbered (name_at names m)
      all = are_numbered (2 * own + length shown) room names e

      long : length names ≡ 2 * own + length shown
      long = many (2 * own + length shown) room names e

      of_cell : (cell : PlainCell) → In part.cells cell ⊎ In (counter_cells part.place names 0 own) cell → IsPlainName cell.name
      of_cell cell (inl i) = (plain k there).cells cell i
      of_cell cell (inr i) = let l = long in numbered_plain cell.name (counters_numbered names all part.place 0 own (omega (arith, l)) cell i)

      of_output : (decl : PortDecl) → In part.outputs decl ⊎ In (count_outputs names (2 * own) shown) decl → IsPlainName decl.name
      of_output decl (inl i) = (plain k there).outputs decl i
      of_output decl (inr i) = let l = long in numbered_plain decl.name (outputs_numbered names all (2 * own) shown (omega (arith, l)) decl i)

  component_plain : size_of (instrumented_component d k) < 2 ^ 32 → HasPlainNames (instrumented_component d k)
  component_plain = by_kind d (λ new. size_of new < 2 ^ 32 → HasPlainNames new) k (λ names e main size. main_plain names e main size) (λ names e off reached size. child_plain names e size)
      (λ off none size. record { cells = (plain k there).cells; inputs = (plain k there).inputs; outputs = (plain k there).outputs })

pub plain_names_kept : (d : PlainDesign) → IsDesign d → ArePlainNames d → design_size (instrumented d) < 2 ^ 32 → ArePlainNames (instrumented d)
plain_names_kept d rules plain few = by (nat_eq (entry_count d) 0) few
  where
    at : design_size (with_counts d) < 2 ^ 32 → (k : ℕ) → k < length (with_counts d).components → HasPlainNames (component_at (with_counts d) k)
    at small k less =
        let there : k < length d.components = subst (λ n. k < n) (components-length d) less in
        let part : size_of (component_at (with_counts d) k) < design_size (with_counts d) = size_within (with_counts d).components k less in
        let size : size_of (instrumented_component d k) < 2 ^ 32 = subst (λ x. size_of x < 2 ^ 32) (component_at-with_counts d k there) (omega (arith, part, small)) in
        subst HasPlainNames (sym (component_at-with_counts d k there)) (component_plain d rules plain k there size)

    by : (b : Bool) → design_size (if b then d else with_counts d) < 2 ^ 32 → ArePlainNames (if b then d else with_counts d)
    by true small = plain
    by false small = at small
