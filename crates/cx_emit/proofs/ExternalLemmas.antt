-- The external memories of a net's source are those cells of main, and hold what was loaded.
use Rattle.std.proofs.Common.{◌≡◌, inl, inr, ℕ, zero, suc, ◌+◌, ◌<◌, ◌≤◌, true, List, [], ◌∷◌, length, map, Option, Some, slice_get, option_map, refl, ap, sym, ◌∙◌, subst, if◌then◌else◌, arith}
use Rattle.std.specs.Prelude.{slice_index}
use Rattle.std.specs.Option.{option_map_or}
use Rattle.std.proofs.lemmas.Option.{slice_get-map}
use Rattle.cx_text.proofs.ListLaws.{at_map}
use Rattle.cx_prim.specs.CellStates.{CellState, AreWords, IsState, TakesWords}
use Rattle.cx_prim.specs.CellStates as cell_states
use Rattle.cx_prim.specs.Table.{PrimitiveRow, row_of}
use Rattle.cx_meaning.specs.Designs.{PlainCell}
use Rattle.cx_state.proofs.Shapes.{IsMemoryOf}
use Rattle.cx_vtree.specs.Plain.{PlainInstance, PlainModule, PlainSource}
use Rattle.cx_vtree.specs.InstanceTree.{Placed, main_instance}
use Rattle.cx_vtree.specs.SimRun.{instance_named, numbers_from}
use Rattle.cx_vtree.specs.Sound.{is_sound}
use Rattle.cx_vlaws.specs.Names.{AreApart}
use Rattle.cx_vlaws.specs.Memories.{IsMemory}
use Rattle.cx_vlaws.proofs.Fresh.{fresh_apart}
use Rattle.cx_vlaws.proofs.Trees.{placed}
use Rattle.cx_vlaws.proofs.Forest.{instance_keeps}
use Rattle.cx_vlaws.proofs.Holders.{part_in}
use Rattle.cx_vlaws.proofs.Mains.{main_at}
use Rattle.cx_vlaws.proofs.MemoryLemmas.{memory_there}
use Rattle.cx_net.specs.Nets.{PlainNet}
use Rattle.cx_net.specs.NetTree.{net_component_at}
use Rattle.cx_emit.specs.Names.{instance_name}
use Rattle.cx_emit.specs.Numbered.{lists_from}
use Rattle.cx_emit.specs.Signatures.{cell_ports}
use Rattle.cx_emit.specs.Sources.{cell_instance, external_of, cell_externals, externals_at, source_of}
use Rattle.cx_emit.specs.Places.{part_number, cell_number}
use Rattle.cx_emit.specs.Fits.{IsFlat}
use Rattle.cx_emit.proofs.NumberedLemmas.{in_mapped, In, in_lists, in_numbered, numbered_in}
use Rattle.cx_emit.proofs.Standing.{number-same, tree, comp_there, own, main_placed}
use Rattle.cx_prim.proofs.CellStatesLemmas.{memory_with, sequential_with, words_fit, sequential_words_fit}
use Rattle.cx_vlaws.proofs.Parts.{instances_fresh}
use Rattle.cx_text.proofs.OptionLaws.{one_value}

pub are_words : (p : PrimitiveRow) (d : CellState) (width count : ℕ) → IsMemoryOf (row_of p).shape width count → IsState (row_of p).shape d → AreWords width count (cell_states.words_of d)
are_words p d width count (inl e) h = words_fit width count d (subst (λ s. IsState s d) e h)
are_words p d width count (inr e) h = sequential_words_fit width count d (subst (λ s. IsState s d) e h)

-- words that fit a memory stand in it
pub takes_words : (p : PrimitiveRow) (width count : ℕ) (words : List ℕ) → IsMemoryOf (row_of p).shape width count → AreWords width count words → width ≤ 64 → TakesWords (row_of p).shape words
takes_words p width count words (inl e) fit small = subst (λ s. TakesWords s words) (sym e) (fit, small)
takes_words p width count words (inr e) fit small = subst (λ s. TakesWords s words) (sym e) (fit, small)

pub state_with : (p : PrimitiveRow) (width count : ℕ) (words : List ℕ) (d : CellState) → IsMemoryOf (row_of p).shape width count → AreWords width count words → IsState (row_of p).shape d
    → IsState (row_of p).shape (cell_states.with_words words d)
state_with p width count words d (inl e) fit h = subst (λ s. IsState s (cell_states.with_words words d)) (sym e) (memory_with width count words d fit (subst (λ s. IsState s d) e h))
state_with p width count words d (inr e) fit h = subst (λ s. IsState s (cell_states.with_words words d)) (sym e) (sequential_with width count words d fit (subst (λ s. IsState s d) e h))

-- the numbers of a list's places
pub map_numbers : (f : ℕ → ℕ) (b n : ℕ) (xs : List ℕ) → length xs ≡ n → ((k : ℕ) → k < length xs → f (b + k) ≡ slice_index xs k) → map f (numbers_from b n) ≡ xs
map_numbers f b zero [] long each = refl
map_numbers f b zero (x ∷ xs) long each = absurd (omega arith)
map_numbers f b (suc n) [] long each = absurd (omega arith)
map_numbers f b (suc n) (x ∷ xs) long each =
    let first : b + 0 ≡ b = omega arith in
    let rest = map_numbers f (b + 1) n xs (omega arith) (λ k lt. let place : b + 1 + k ≡ b + suc k = omega arith in ap f place ∙ each (suc k) (omega arith)) in
    ap (λ y. y ∷ map f (numbers_from (b + 1) n)) (sym (ap f first) ∙ each 0 (omega arith)) ∙ ap (λ l. x ∷ l) rest

module _ (net : PlainNet) (sound : is_sound (source_of net) ≡ true) (fit : IsFlat net) where
  abbrev the_source : PlainSource
  the_source = source_of net

  abbrev the_tree : List Placed
  the_tree = tree net sound fit

  abbrev cells : List PlainCell
  cells = (net_component_at net net.main).cells

  pub externals_are : the_source.externals ≡ lists_from cell_externals 0 cells
  externals_are = ap externals_at (comp_there net sound fit net.main fit.fits.has_main)

  instance_at : (c : ℕ) (cell : PlainCell) → slice_get cells c ≡ Some cell → slice_get (own net sound fit net.main).instances c ≡ Some (cell_instance c (cell_ports net cell))
  instance_at c cell there = in_numbered cell_instance (map (cell_ports net) cells) c (cell_ports net cell) (in_mapped (cell_ports net) cells c cell there)

  name_of_part : (s : ℕ) (x : PlainInstance) → slice_get (own net sound fit net.main).instances s ≡ Some x → x.name ≡ instance_name s
  name_of_part s x e = let (wired, at, is) = numbered_in cell_instance (map (cell_ports net) cells) s x e in ap (λ (y : PlainInstance). y.name) (sym is)

  -- cells of main have different names
  parts_apart : AreApart (map (λ x. x.name) (own net sound fit net.main).instances)
  parts_apart =
      let main = main_placed net sound fit in
      let keeps = instance_keeps the_source sound 0 main.place main.at in
      subst (λ (m : PlainModule). AreApart (map (λ (x : PlainInstance). x.name) m.instances)) main.is (fresh_apart _ _ (instances_fresh _ _ _ _ main.place.part.instances keeps.kept.instances))

  pub same_cell : (c d : ℕ) (cell other : PlainCell) → slice_get cells c ≡ Some cell → slice_get cells d ≡ Some other → instance_name c ≡ instance_name d → c ≡ d
  same_cell c d cell other there at same =
      parts_apart c d (instance_name c)
      (slice_get-map (λ (x : PlainInstance). x.name) (own net sound fit net.main).instances c ∙ ap (option_map (λ (x : PlainInstance). x.name)) (instance_at c cell there))
      (slice_get-map (λ (x : PlainInstance). x.name) (own net sound fit net.main).instances d ∙ ap (option_map (λ (x : PlainInstance). x.name)) (instance_at d other at) ∙ ap Some (sym same))

  -- an external cell is found as its instance
  module _ (c : ℕ) (cell : PlainCell) (there : slice_get cells c ≡ Some cell) (is_external : cell.external ≡ true) where
    listed : In (external_of c cell) the_source.externals
    listed =
        let one : In (external_of c cell) (cell_externals c cell) = subst (λ b. In (external_of c cell) (if b then external_of c cell ∷ [] else [])) (sym is_external) (zero, refl) in
        subst (In (external_of c cell)) (sym externals_are) (in_lists cell_externals cells c cell (external_of c cell) there one)

    pub memory : IsMemory the_tree (external_of c cell)
    memory = memory_there the_source sound listed.0 (external_of c cell) listed.1

    pub memory_number : memory.number ≡ cell_number the_source 0 c
    memory_number =
        let main = main_placed net sound fit in
        let r = part_in the_source sound 0 main.place main.at memory.number memory.place memory.at inner memory.holder in
        let stands : slice_get (own net sound fit net.main).instances r.s ≡ Some r.x = subst (λ (m : PlainModule). slice_get m.instances r.s ≡ Some r.x) main.is r.there in
        let (wired, at, is) = numbered_in cell_instance (map (cell_ports net) cells) r.s r.x stands in
        let (other, at_other, is') = at_map (cell_ports net) cells r.s wired at in
        let same : c ≡ r.s = same_cell c r.s cell other there at_other (sym memory.name ∙ r.name ∙ name_of_part r.s r.x stands) in
        r.number ∙ sym (number-same the_source 0 1 main.place.part.instances r.s)
        ∙ ap (λ (o : Option Placed). part_number the_source 0 1 (option_map_or (λ p. p.part.instances) o []) r.s) (sym main.at) ∙ ap (cell_number the_source 0) (sym same)
      where
        inner : memory.number ≡ 0 → ⊥
        inner first =
            let r = main_at the_source sound in
            let same = one_value (slice_get the_tree 0) memory.place (placed main_instance 0 r.m) (subst (λ j. slice_get the_tree j ≡ Some memory.place) first memory.at) r.first in
            let name : instance_name c ≡ [] = sym memory.name ∙ ap (λ (p : Placed). p.name) same in cc

    pub found_at : instance_named the_tree 0 (instance_name c) ≡ Some (cell_number the_source 0 c)
    found_at = memory.found ∙ ap Some memory_number
