-- At the start the states stand for each other.
use Rattle.std.proofs.Common.{◌≡◌, ℕ, zero, suc, ◌+◌, ◌<◌, ◌≤◌, ◌^◌, ◌==◌, ◌&&◌, Bool, true, false, List, [], ◌∷◌, ◌++◌, length, map, All, Option, Some, slice_get, refl, ap, sym, ◌∙◌, subst, arith}
use Rattle.std.specs.Prelude.{slice_index}
use Rattle.std.specs.Option.{option_map_or}
use Rattle.std.proofs.lemmas.Bool.{eq-eqb, ne_eqb}
use Rattle.std.proofs.lemmas.Nat.{pow_pos}
use Rattle.std.proofs.lemmas.Option.{slice_get_within}
use Rattle.cx_text.specs.Loading.{PlainRow, PlainMemory, FitsRows, word_count, words_loaded}
use Rattle.cx_prim.specs.CellStates.{AreWords, IsState}
use Rattle.cx_prim.specs.Table.{PrimitiveRow, row_of}
use Rattle.cx_prim.proofs.TableLaws.{row_of_lawful}
use Rattle.cx_meaning.specs.Designs.{OfPrimitive, OfComponent, PlainCell}
use Rattle.cx_meaning.specs.Instances.{Path, externals_from, loaded_at}
use Rattle.cx_rules.specs.Wellformed.{first_number}
use Rattle.cx_rules.specs.Externals.{sizes_in, numbers_of}
use Rattle.cx_state.proofs.Shapes.{memory_shape}
use Rattle.cx_vtree.specs.Plain.{PlainModule, PlainSource}
use Rattle.cx_vtree.specs.PlainParts as parts
use Rattle.cx_vtree.specs.InstanceTree.{Placed, same_name, decls_at}
use Rattle.cx_vtree.specs.Meaning.{State, resetting}
use Rattle.cx_vtree.specs.SimRun.{first_array, is_memory, start_state, loaded_word}
use Rattle.cx_vtree.specs.Sound.{is_sound}
use Rattle.cx_vmods.specs.Modules.{module_of}
use Rattle.cx_vmods.specs.Built.{kept_at, IsBuilt}
use Rattle.cx_net.specs.Nets.{PlainNetComponent, PlainNet}
use Rattle.cx_net.specs.NetTree.{NetInstance, net_part, net_component_at, net_within, net_tree}
use Rattle.cx_net.specs.NetRuns.{net_start_at, net_externals, started, net_start}
use Rattle.cx_emit.specs.Signatures.{primitive_module}
use Rattle.cx_emit.specs.Names.{primitive_name}
use Rattle.cx_emit.specs.Numbered.{lists_from}
use Rattle.cx_emit.specs.Sources.{external_of, cell_externals, source_of}
use Rattle.cx_net.specs.NetPaths.{LeadsTo}
use Rattle.cx_emit.specs.Places.{cell_number, number_at}
use Rattle.cx_vmods.specs.Laws.{EachIsBuilt}
use Rattle.cx_net.specs.NetFits.{IsExternalKind}
use Rattle.cx_emit.specs.Fits.{IsFlat, stand_for}
use Rattle.cx_emit.specs.States.{StatesStand}
use Rattle.cx_emit.proofs.Standing.{tree, IsPlaced, main_placed, cell_placed, primitive_placed, child_placed, child_lower, placed_at}
use Rattle.cx_emit.proofs.CellValues.{is_built}
use Rattle.cx_net.proofs.DriverLemmas.{part-within, start-at}
use Rattle.cx_emit.proofs.Reached.{number-end}
use Rattle.cx_emit.proofs.ExternalLemmas.{externals_are, same_cell, memory, found_at, takes_words, state_with}
use Rattle.cx_emit.proofs.LoadLemmas.{none_loaded, one_loaded}
use Rattle.cx_vtree.proofs.InstanceTreeLemmas.{same_self}
use Rattle.cx_text.proofs.OptionLaws.{one_value}

-- a path of two cells or more is not that of a cell of main
started-deep : (instance : NetInstance) (words : List (List ℕ)) (e : ℕ) (path : Path) (c : ℕ) → started instance words (e ∷ path ++ c ∷ []) ≡ net_start_at instance (e ∷ path ++ c ∷ [])
started-deep instance words e [] c = refl
started-deep instance words e (f ∷ path) c = refl

module _ (net : PlainNet) (sound : is_sound (source_of net) ≡ true) (fit : IsFlat net) (built : EachIsBuilt) where
  abbrev the_source : PlainSource
  the_source = source_of net

  abbrev the_tree : List Placed
  the_tree = tree net sound fit

  abbrev cells : List PlainCell
  cells = (net_component_at net net.main).cells

  -- a cell starts as its row
  starts : (path : Path) (levels k i : ℕ) → IsPlaced net sound fit k i → k < levels → (h c : ℕ) (cell : PlainCell) (p : PrimitiveRow) → LeadsTo net k path h → slice_get (net_component_at net h).cells c ≡ Some cell
      → cell.kind ≡ OfPrimitive p → net_start_at (net_within net levels k) (path ++ c ∷ []) ≡ (row_of p).start
  starts path zero k i here lower h c cell p leads there is = absurd (omega arith)
  starts [] (suc levels) k i here lower h c cell p leads there is =
      start-at (net_within net levels) (OfPrimitive p) (net_component_at net k).cells c cell [] (subst (λ g. slice_get (net_component_at net g).cells c ≡ Some cell) (sym leads) there) is
  starts (e ∷ path) (suc levels) k i here lower h c cell p (outer, child, at, kind, leads) there is =
      let less = child_lower net sound fit k i e outer child here at kind in
      start-at (net_within net levels) (OfComponent child) (net_component_at net k).cells e outer (path ++ c ∷ []) at kind
      ∙ starts path levels child (cell_number the_source i e) (child_placed net sound fit k i e outer child here at kind) (omega arith) h c cell p leads there is

  -- the instance at a path that is not empty is not main
  not_main : (path : Path) (e k i h : ℕ) → IsPlaced net sound fit k i → LeadsTo net k (e ∷ path) h → number_at the_source i (e ∷ path) ≡ 0 → ⊥
  not_main [] e k i h here (cell, child, there, is, leads) = (cell_placed net sound fit k i e cell here there).inner
  not_main (f ∷ path) e k i h here (cell, child, there, is, leads) = not_main path f child (cell_number the_source i e) h (child_placed net sound fit k i e cell child here there is) leads

  -- cells of main have different instances
  same_number : (c d : ℕ) (cell other : PlainCell) → slice_get cells c ≡ Some cell → slice_get cells d ≡ Some other → cell_number the_source 0 c ≡ cell_number the_source 0 d → c ≡ d
  same_number c d cell other there at same =
      let main = main_placed net sound fit in
      let a = cell_placed net sound fit net.main 0 c cell main there in
      let b = cell_placed net sound fit net.main 0 d other main at in
      let one = one_value (slice_get the_tree (cell_number the_source 0 d)) a.place b.place (subst (λ j. slice_get the_tree j ≡ Some a.place) same a.at) b.at in
      same_cell net sound fit c d cell other there at (sym a.name ∙ ap (λ (x : Placed). x.name) one ∙ b.name)

  pub decls_here : (c : ℕ) (cell : PlainCell) (p : PrimitiveRow) → slice_get cells c ≡ Some cell → cell.kind ≡ OfPrimitive p → decls_at the_tree (cell_number the_source 0 c) ≡ (primitive_module p).decls
  decls_here c cell p there is =
      let main = main_placed net sound fit in
      let a = cell_placed net sound fit net.main 0 c cell main there in
      ap (λ (o : Option Placed). option_map_or (λ x. x.part.decls) o []) a.at ∙ ap (λ (m : PlainModule). m.decls) (primitive_placed net sound fit net.main 0 c cell p main there is a)

  memory_own : (c : ℕ) (cell : PlainCell) (there : slice_get cells c ≡ Some cell) (is : cell.external ≡ true)
      → is_memory the_tree (external_of c cell) (cell_number the_source 0 c) (first_array (decls_at the_tree (cell_number the_source 0 c))) ≡ true
  memory_own c cell there is =
      let j : ℕ = cell_number the_source 0 c in
      let array : List ℕ = first_array (decls_at the_tree j) in
      ap (λ o. option_map_or (λ i. i == j && same_name (first_array (decls_at the_tree i)) array) o false) (found_at net sound fit c cell there is)
      ∙ ap (λ b. b && same_name array array) (eq-eqb j j refl) ∙ same_self array

  memory_other : (j q : ℕ) (cell : PlainCell) → slice_get cells q ≡ Some cell → cell.external ≡ true → (cell_number the_source 0 q ≡ j → ⊥) → (name : List ℕ) → is_memory the_tree (external_of q cell) j name ≡ false
  memory_other j q cell at is other name =
      ap (λ o. option_map_or (λ i. i == j && same_name (first_array (decls_at the_tree i)) name) o false) (found_at net sound fit q cell at is)
      ∙ ap (λ b. b && same_name (first_array (decls_at the_tree (cell_number the_source 0 q))) name) (ne_eqb (cell_number the_source 0 q) j other)

  module _ (memories : List PlainMemory) (fits : FitsRows (parts.rows_of the_source.externals) memories) where
    abbrev loaded : List (List ℕ)
    loaded = words_loaded memories

    abbrev start : State
    start = start_state the_source loaded

    -- zeros stand for the start where nothing is loaded
    unloaded : (p : PrimitiveRow) (name : List ℕ) (j : ℕ) → IsBuilt (module_of p name) (row_of p) (stand_for p) → ((name : List ℕ) (k : ℕ) → loaded_word the_tree (lists_from cell_externals 0 cells) loaded j name k ≡ 0)
        → stand_for p (kept_at start j) (row_of p).start
    unloaded p name j module_is_built none =
        let zeros : (name : List ℕ) (k : ℕ) → 0 ≡ loaded_word the_tree the_source.externals loaded j name k = λ name k.
        sym (ap (λ es. loaded_word the_tree es loaded j name k) (externals_are net sound fit) ∙ none name k) in
        subst (λ w. stand_for p (record { register = λ name. 0; word = w }) (row_of p).start) (λ t name k. zeros name k t) module_is_built.start

    -- a cell below main
    deep_start : (e : ℕ) (path : Path) (h c : ℕ) (cell : PlainCell) (p : PrimitiveRow) → LeadsTo net net.main (e ∷ path) h → slice_get (net_component_at net h).cells c ≡ Some cell → cell.kind ≡ OfPrimitive p
        → stand_for p (kept_at start (number_at the_source 0 (e ∷ path ++ c ∷ []))) (row_of p).start
    deep_start e path h c cell p leads there is =
        let main = main_placed net sound fit in
        let i : ℕ = number_at the_source 0 (e ∷ path) in
        let here = placed_at net sound fit net.main 0 (e ∷ path) h main leads in
        let at = cell_placed net sound fit h i c cell here there in
        let number : number_at the_source 0 (e ∷ path ++ c ∷ []) ≡ cell_number the_source i c = number-end the_source 0 (e ∷ path) c in
        let apart : (q : ℕ) (other : PlainCell) → slice_get cells q ≡ Some other → cell_number the_source 0 q ≡ number_at the_source 0 (e ∷ path ++ c ∷ []) → ⊥ = λ q other at_q same.
        let b = cell_placed net sound fit net.main 0 q other main at_q in
        let one = one_value (slice_get the_tree (cell_number the_source i c)) b.place at.place (subst (λ x. slice_get the_tree x ≡ Some b.place) (same ∙ number) b.at) at.at in
        not_main path e net.main 0 h main leads (sym at.holder ∙ ap (λ (x : Placed). x.holder) (sym one) ∙ b.holder) in
        let none = none_loaded the_tree (number_at the_source 0 (e ∷ path ++ c ∷ [])) (length cells) [] (row_of p).start cells 0 loaded
        (λ t other at_t external place. let lt = slice_get_within cells t other at_t in absurd (omega arith))
        (λ t other at_t external away name.
        let place : t ≡ 0 + t = omega arith in
        subst (λ n. is_memory the_tree (external_of n other) (number_at the_source 0 (e ∷ path ++ c ∷ [])) name ≡ false) place
        (memory_other (number_at the_source 0 (e ∷ path ++ c ∷ [])) t other at_t external (apart t other at_t) name)) in
        unloaded p (primitive_name p) (number_at the_source 0 (e ∷ path ++ c ∷ [])) (is_built net sound fit built (resetting start) h i c cell p here there is at) none.1

    -- a cell of main
    module _ (c : ℕ) (cell : PlainCell) (p : PrimitiveRow) (there : slice_get cells c ≡ Some cell) (is : cell.kind ≡ OfPrimitive p) where
      abbrev j : ℕ
      j = cell_number the_source 0 c

      abbrev array : List ℕ
      array = first_array (decls_at the_tree j)

      module_is_built : IsBuilt (primitive_module p) (row_of p) (stand_for p)
      module_is_built = is_built net sound fit built (resetting start) net.main 0 c cell p (main_placed net sound fit) there is (cell_placed net sound fit net.main 0 c cell (main_placed net sound fit) there)

      others : (t : ℕ) (other : PlainCell) → slice_get cells t ≡ Some other → other.external ≡ true → (0 + t ≡ c → ⊥) → (name : List ℕ) → is_memory the_tree (external_of (0 + t) other) j name ≡ false
      others t other at external away name =
          let place : t ≡ 0 + t = omega arith in
          subst (λ n. is_memory the_tree (external_of n other) j name ≡ false) place
          (memory_other j t other at external (λ same. away (sym place ∙ same_number t c other cell at there same)) name)

      cell_start : (b : Bool) → cell.external ≡ b
          → stand_for p (kept_at start j) (loaded_at (externals_from 0 cells) loaded c (row_of p).start) × IsState (row_of p).shape (loaded_at (externals_from 0 cells) loaded c (row_of p).start)
      cell_start false external =
          let none = none_loaded the_tree j c array (row_of p).start cells 0 loaded
          (λ t other at is_external place.
          let same : t ≡ c = (let first : t ≡ 0 + t = omega arith in first ∙ place) in
          let one : other ≡ cell = one_value (slice_get cells c) other cell (subst (λ n. slice_get cells n ≡ Some other) same at) there in
          let wrong : false ≡ true = sym external ∙ ap (λ (x : PlainCell). x.external) (sym one) ∙ is_external in cc)
          others in
          subst (λ d. stand_for p (kept_at start j) d × IsState (row_of p).shape d) (sym none.0) (unloaded p (primitive_name p) j module_is_built none.1, (row_of_lawful p).states.start)
      cell_start true external =
          let rows : map (λ (m : PlainMemory). m.shape) memories ≡ parts.rows_of (lists_from cell_externals 0 cells) = fits.same_rows ∙ ap parts.rows_of (externals_are net sound fit) in
          let place : 0 + c ≡ c = omega arith in
          let r = one_loaded the_tree j c array (row_of p).start cells 0 memories c cell there external place others (memory_own c cell there external) rows fits.whole in
          let numbers : numbers_of cell.kind ≡ p.numbers = ap numbers_of is in
          let kind = subst IsExternalKind is (fit.fits.externals c cell there external) in
          let shape = memory_shape p kind in
          let width : r.memory.shape.width ≡ first_number p.numbers = ap (λ (x : PlainRow). x.width) r.shape ∙ ap first_number numbers in
          let sizes : r.memory.shape.sizes ≡ sizes_in p.numbers = ap (λ (x : PlainRow). x.sizes) r.shape ∙ ap sizes_in numbers in
          let fit_words : AreWords (first_number p.numbers) (word_count (sizes_in p.numbers)) r.memory.words = record {
            length = r.fits.count ∙ ap word_count sizes;
            in_range = subst (λ w. All (λ word. word < 2 ^ w) r.memory.words) width r.fits.in_range;
          } in
          let small : first_number p.numbers ≤ 64 = subst (λ n. first_number n ≤ 64) numbers (memory net sound fit c cell there external).width in
          let takes = takes_words p (first_number p.numbers) (word_count (sizes_in p.numbers)) r.memory.words shape fit_words small in
          let words : (k : ℕ) → loaded_word the_tree the_source.externals loaded j (first_array (primitive_module p).decls) k ≡ slice_index r.memory.words k = λ k.
          ap (λ ds. loaded_word the_tree the_source.externals loaded j (first_array ds) k) (sym (decls_here c cell p there is))
          ∙ ap (λ es. loaded_word the_tree es loaded j array k) (externals_are net sound fit) ∙ r.words k in
          subst (λ d. stand_for p (kept_at start j) d × IsState (row_of p).shape d) (sym r.state) (
            module_is_built.loaded r.memory.words (loaded_word the_tree the_source.externals loaded j) takes words,
            state_with p (first_number p.numbers) (word_count (sizes_in p.numbers)) r.memory.words (row_of p).start shape fit_words (row_of_lawful p).states.start,
          )

    cells_start : (path : Path) (h c : ℕ) (cell : PlainCell) (p : PrimitiveRow) → LeadsTo net net.main path h → slice_get (net_component_at net h).cells c ≡ Some cell → cell.kind ≡ OfPrimitive p
        → stand_for p (kept_at start (number_at the_source 0 (path ++ c ∷ []))) (started (net_tree net) loaded (path ++ c ∷ [])) × IsState (row_of p).shape (started (net_tree net) loaded (path ++ c ∷ []))
    cells_start [] h c cell p leads there is =
        let there_here : slice_get cells c ≡ Some cell = subst (λ g. slice_get (net_component_at net g).cells c ≡ Some cell) (sym leads) there in
        let main_part : net_externals (net_part (net_tree net)) ≡ externals_from 0 cells = ap (λ (x : PlainNetComponent). externals_from 0 x.cells) (part-within net (length net.components) net.main) in
        let own_start = starts [] (length net.components) net.main 0 (main_placed net sound fit) fit.fits.has_main net.main c cell p refl there_here is in
        let same : started (net_tree net) loaded (c ∷ []) ≡ loaded_at (externals_from 0 cells) loaded c (row_of p).start =
        ap (λ es. loaded_at es loaded c (net_start_at (net_tree net) (c ∷ []))) main_part ∙ ap (loaded_at (externals_from 0 cells) loaded c) own_start in
        subst (λ d. stand_for p (kept_at start (cell_number the_source 0 c)) d × IsState (row_of p).shape d) (sym same) (cell_start c cell p there_here is cell.external refl)
    cells_start (e ∷ path) h c cell p leads there is =
        let own_start = starts (e ∷ path) (length net.components) net.main 0 (main_placed net sound fit) fit.fits.has_main h c cell p leads there is in
        let same : started (net_tree net) loaded (e ∷ path ++ c ∷ []) ≡ (row_of p).start = started-deep (net_tree net) loaded e path c ∙ own_start in
        subst (λ d. stand_for p (kept_at start (number_at the_source 0 (e ∷ path ++ c ∷ []))) d × IsState (row_of p).shape d) (sym same) (deep_start e path h c cell p leads there is, (row_of_lawful p).states.start)

    pub starts_stand : StatesStand net net.main 0 (net_start (net_tree net) loaded) start
    starts_stand = record {
      registers = λ path h n w leads there. (refl, pow_pos w);
      cells = λ path h c cell p leads there is. cells_start path h c cell p leads there is;
    }
