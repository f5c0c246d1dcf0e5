-- After the edge with reset a net that fits holds what its rows and registers can, where the words that were loaded fit its external rows.
use Rattle.std.proofs.Common.{◌≡◌, ◌⊎◌, inl, inr, ℕ, zero, suc, ◌+◌, ◌<◌, ◌^◌, Bool, true, false, if◌then◌else◌, List, [], ◌∷◌, ◌++◌, length, map, All, Some, slice_get, refl, sym, ap, ◌∙◌, subst, arith}
use Rattle.std.proofs.lemmas.Nat.{pow_pos}
use Rattle.std.proofs.lemmas.List.Elements.{All-head, All-tail}
use Rattle.cx_text.specs.Loading.{PlainRow, PlainMemory, FitsShape, FitsRows, word_count, words_loaded}
use Rattle.cx_prim.specs.CellStates.{CellState, AreWords, IsState, with_words}
use Rattle.cx_prim.specs.Rows.{reset}
use Rattle.cx_prim.specs.Table.{PrimitiveRow, row_of}
use Rattle.cx_prim.proofs.TableLaws.{row_of_lawful}
use Rattle.cx_meaning.specs.Designs.{OfPrimitive, OfComponent, PlainCell}
use Rattle.cx_meaning.specs.Instances as instances
use Rattle.cx_meaning.specs.Instances.{Path, just, externals_from, loaded_at}
use Rattle.cx_rules.specs.Wellformed.{first_number}
use Rattle.cx_rules.specs.Externals.{sizes_in, numbers_of, row_for, if_external, rows_of}
use Rattle.cx_state.proofs.Shapes.{IsMemoryOf, memory_shape}
use Rattle.cx_net.specs.Nets.{PlainNetComponent, PlainNet}
use Rattle.cx_net.specs.NetTree.{net_component_at, net_within, net_tree}
use Rattle.cx_net.specs.NetMeaning.{NetLook}
use Rattle.cx_net.specs.NetEdges.{cell_after, net_after}
use Rattle.cx_net.specs.NetRuns.{net_start_at, started, net_start}
use Rattle.cx_net.specs.NetFits.{IsExternalKind, IsFit}
use Rattle.cx_net.specs.NetPaths.{LeadsTo}
use Rattle.cx_net.specs.NetHolds.{Holds}
use Rattle.cx_net.proofs.DriverLemmas.{part-within, start-at, state-at}
use Rattle.cx_net.proofs.WidthLaws.{lower_child}
use Rattle.cx_wiring_runs.proofs.StartCells.{with_own, itself}
use Rattle.cx_prim.proofs.CellStatesLemmas.{memory_with, sequential_with}
use Rattle.cx_meaning.proofs.InstancesLemmas.{just_same}

other_cell : (b c : ℕ) → b < c → just b c ≡ false
other_cell zero zero less = absurd (omega arith)
other_cell zero (suc c) less = refl
other_cell (suc b) zero less = absurd (omega arith)
other_cell (suc b) (suc c) less = other_cell b c (omega arith)

state_with : (p : PrimitiveRow) (width count : ℕ) (words : List ℕ) (d : CellState) → IsMemoryOf (row_of p).shape width count → AreWords width count words → IsState (row_of p).shape d → IsState (row_of p).shape (with_words words d)
state_with p width count words d (inl e) fit h = subst (λ s. IsState s (with_words words d)) (sym e) (memory_with width count words d fit (subst (λ s. IsState s d) e h))
state_with p width count words d (inr e) fit h = subst (λ s. IsState s (with_words words d)) (sym e) (sequential_with width count words d fit (subst (λ s. IsState s d) e h))

-- WHAT A CELL IS LOADED WITH: nothing, or the memory of its row
module _ (c : ℕ) (d : CellState) where
  none_before : (cs : List PlainCell) (b : ℕ) (ws : List (List ℕ)) → c < b → loaded_at (externals_from b cs) ws c d ≡ d
  none_before [] b ws less = refl
  none_before (x ∷ cs) b ws less = by x.external ws (λ ws. none_before cs (suc b) ws (omega arith))
    where
      apart : (b c : ℕ) → c < b → just b c ≡ false
      apart zero c less = absurd (omega arith)
      apart (suc b) zero less = refl
      apart (suc b) (suc c) less = apart b c (omega arith)

      by : (e : Bool) (ws : List (List ℕ)) → ((ws : List (List ℕ)) → loaded_at (externals_from (suc b) cs) ws c d ≡ d) → loaded_at (instances.if_external e b (externals_from (suc b) cs)) ws c d ≡ d
      by false ws later = later ws
      by true [] later = refl
      by true (w ∷ ws) later = ap (λ t. if t then with_words w d else loaded_at (externals_from (suc b) cs) ws c d) (apart b c less) ∙ later ws

  pub record IsLoaded (cell : PlainCell) (loaded : CellState) : Type 0 where
    pub external : cell.external ≡ true
    pub memory : PlainMemory
    pub shape : memory.shape ≡ row_for cell
    pub fits : FitsShape memory
    pub state : loaded ≡ with_words memory.words d

  abbrev Loads : PlainCell → CellState → Type 0
  Loads cell loaded = (loaded ≡ d) ⊎ IsLoaded cell loaded

  loads : (cs : List PlainCell) (b : ℕ) (ms : List PlainMemory) (t : ℕ) (cell : PlainCell) → slice_get cs t ≡ Some cell → b + t ≡ c → map (λ (m : PlainMemory). m.shape) ms ≡ rows_of cs → All FitsShape ms
      → Loads cell (loaded_at (externals_from b cs) (words_loaded ms) c d)
  loads [] b ms t cell at place rows fits = absurd cc
  loads (x ∷ cs) b ms zero cell at place rows fits = by x.external refl ms rows fits
    where
      same : x ≡ cell
      same = cc

      here : b ≡ c
      here = omega (arith, place)

      by : (e : Bool) → x.external ≡ e → (ms : List PlainMemory) → map (λ (m : PlainMemory). m.shape) ms ≡ if_external e x (rows_of cs) → All FitsShape ms
          → Loads cell (loaded_at (instances.if_external e b (externals_from (suc b) cs)) (words_loaded ms) c d)
      by false is ms rows fits = inl (none_before cs (suc b) (words_loaded ms) (omega (arith, here)))
      by true is [] rows fits = absurd cc
      by true is (m ∷ ms) rows fits =
          let shape : m.shape ≡ row_for x = cc in
          inr (record {
            external = ap (λ (y : PlainCell). y.external) (sym same) ∙ is;
            memory = m;
            shape = shape ∙ ap row_for same;
            fits = All-head FitsShape m ms fits;
            state = ap (λ t. if t then with_words m.words d else loaded_at (externals_from (suc b) cs) (words_loaded ms) c d) (ap (just b) (sym here) ∙ just_same b);
          })
  loads (x ∷ cs) b ms (suc t) cell at place rows fits = by x.external ms rows fits (λ ms rows fits. loads cs (suc b) ms t cell at further rows fits)
    where
      further : suc b + t ≡ c
      further = omega (arith, place)

      by : (e : Bool) (ms : List PlainMemory) → map (λ (m : PlainMemory). m.shape) ms ≡ if_external e x (rows_of cs) → All FitsShape ms
          → ((ms : List PlainMemory) → map (λ (m : PlainMemory). m.shape) ms ≡ rows_of cs → All FitsShape ms → Loads cell (loaded_at (externals_from (suc b) cs) (words_loaded ms) c d))
          → Loads cell (loaded_at (instances.if_external e b (externals_from (suc b) cs)) (words_loaded ms) c d)
      by false ms rows fits later = later ms rows fits
      by true [] rows fits later = absurd cc
      by true (m ∷ ms) rows fits later =
          let r = later ms (cc) (All-tail FitsShape m ms fits) in
          subst (Loads cell) (sym (ap (λ t. if t then with_words m.words d else loaded_at (externals_from (suc b) cs) (words_loaded ms) c d) (other_cell b c (omega (arith, place))))) r

module _ (net : PlainNet) (fit : IsFit net) where
  -- a cell starts as its row
  starts : (path : Path) (levels k : ℕ) → k < levels → k < length net.components → (h c : ℕ) (cell : PlainCell) (p : PrimitiveRow) → LeadsTo net k path h → slice_get (net_component_at net h).cells c ≡ Some cell → cell.kind ≡ OfPrimitive p
      → net_start_at (net_within net levels k) (path ++ c ∷ []) ≡ (row_of p).start
  starts path zero k lower here h c cell p leads there is = absurd (omega arith)
  starts [] (suc levels) k lower here h c cell p leads there is =
      start-at (net_within net levels) (OfPrimitive p) (net_component_at net k).cells c cell [] (subst (λ g. slice_get (net_component_at net g).cells c ≡ Some cell) (sym leads) there) is
  starts (e ∷ path) (suc levels) k lower here h c cell p (outer, child, at, kind, leads) there is =
      let less = lower_child net fit k e outer child here at kind in
      start-at (net_within net levels) (OfComponent child) (net_component_at net k).cells e outer (path ++ c ∷ []) at kind
      ∙ starts path levels child (omega (arith, less, lower)) (omega (arith, less, here)) h c cell p leads there is

  -- and is reset as it
  resets : (path : Path) (levels k : ℕ) (look : NetLook) (d : CellState) → k < levels → k < length net.components → (h c : ℕ) (cell : PlainCell) (p : PrimitiveRow) → LeadsTo net k path h
      → slice_get (net_component_at net h).cells c ≡ Some cell → cell.kind ≡ OfPrimitive p → cell_after true (net_within net levels k) look (path ++ c ∷ []) d ≡ reset (row_of p) d
  resets path zero k look d lower here h c cell p leads there is = absurd (omega arith)
  resets [] (suc levels) k look d lower here h c cell p leads there is =
      state-at (net_within net levels) true look d (OfPrimitive p) (net_component_at net k).cells c c cell [] (subst (λ g. slice_get (net_component_at net g).cells c ≡ Some cell) (sym leads) there) is
  resets (e ∷ path) (suc levels) k look d lower here h c cell p (outer, child, at, kind, leads) there is =
      let less = lower_child net fit k e outer child here at kind in
      state-at (net_within net levels) true look d (OfComponent child) (net_component_at net k).cells e e outer (path ++ c ∷ []) at kind
      ∙ resets path levels child (λ q. look (e ∷ q)) d (omega (arith, less, lower)) (omega (arith, less, here)) h c cell p leads there is

  deep : (words : List (List ℕ)) (e : ℕ) (path : Path) (c : ℕ) → started (net_tree net) words (e ∷ path ++ c ∷ []) ≡ net_start_at (net_tree net) (e ∷ path ++ c ∷ [])
  deep words e [] c = refl
  deep words e (f ∷ path) c = refl

  -- a state of the row, which is one after the reset too
  abbrev Stays : PrimitiveRow → CellState → Type 0
  Stays p d = IsState (row_of p).shape d × IsState (row_of p).shape (reset (row_of p) d)

  start_stays : (p : PrimitiveRow) → Stays p (row_of p).start
  start_stays p = ((row_of_lawful p).states.start, subst (IsState (row_of p).shape) (sym (itself (row_of p).start)) (row_of_lawful p).states.start)

  module _ (memories : List PlainMemory) (fits : FitsRows (rows_of (net_component_at net net.main).cells) memories) where
    -- a memory that words are loaded into
    loaded_state : (c : ℕ) (cell : PlainCell) (p : PrimitiveRow) → slice_get (net_component_at net net.main).cells c ≡ Some cell → cell.kind ≡ OfPrimitive p → (loaded : CellState) → IsLoaded c (row_of p).start cell loaded
        → Stays p loaded
    loaded_state c cell p there is loaded l =
        let numbers : numbers_of cell.kind ≡ p.numbers = ap numbers_of is in
        let shape = memory_shape p (subst IsExternalKind is (fit.externals c cell there l.external)) in
        let width : l.memory.shape.width ≡ first_number p.numbers = ap (λ (x : PlainRow). x.width) l.shape ∙ ap first_number numbers in
        let sizes : l.memory.shape.sizes ≡ sizes_in p.numbers = ap (λ (x : PlainRow). x.sizes) l.shape ∙ ap sizes_in numbers in
        let fit_words : AreWords (first_number p.numbers) (word_count (sizes_in p.numbers)) l.memory.words = record {
          length = l.fits.count ∙ ap word_count sizes;
          in_range = subst (λ w. All (λ word. word < 2 ^ w) l.memory.words) width l.fits.in_range;
        } in
        let holds = state_with p (first_number p.numbers) (word_count (sizes_in p.numbers)) l.memory.words (row_of p).start shape fit_words (row_of_lawful p).states.start in
        subst (Stays p) (sym l.state) (holds, subst (IsState (row_of p).shape) (sym (with_own l.memory.words (row_of p).start)) holds)

    start_state : (path : Path) (h c : ℕ) (cell : PlainCell) (p : PrimitiveRow) → LeadsTo net net.main path h → slice_get (net_component_at net h).cells c ≡ Some cell → cell.kind ≡ OfPrimitive p
        → Stays p (started (net_tree net) (words_loaded memories) (path ++ c ∷ []))
    start_state [] h c cell p leads there is =
        let there_here : slice_get (net_component_at net net.main).cells c ≡ Some cell = subst (λ g. slice_get (net_component_at net g).cells c ≡ Some cell) (sym leads) there in
        let same : started (net_tree net) (words_loaded memories) (c ∷ []) ≡ loaded_at (externals_from 0 (net_component_at net net.main).cells) (words_loaded memories) c (row_of p).start =
        ap (λ (x : PlainNetComponent). loaded_at (externals_from 0 x.cells) (words_loaded memories) c (net_start_at (net_tree net) (c ∷ []))) (part-within net (length net.components) net.main)
        ∙ ap (loaded_at (externals_from 0 (net_component_at net net.main).cells) (words_loaded memories) c) (starts [] (length net.components) net.main fit.has_main fit.has_main net.main c cell p refl there_here is) in
        subst (Stays p) (sym same)
        (by there_here (loads c (row_of p).start (net_component_at net net.main).cells 0 memories c cell there_here (omega arith) fits.same_rows fits.whole))
      where
        by : slice_get (net_component_at net net.main).cells c ≡ Some cell → Loads c (row_of p).start cell (loaded_at (externals_from 0 (net_component_at net net.main).cells) (words_loaded memories) c (row_of p).start)
            → Stays p (loaded_at (externals_from 0 (net_component_at net net.main).cells) (words_loaded memories) c (row_of p).start)
        by there_here (inl e) = subst (Stays p) (sym e) (start_stays p)
        by there_here (inr l) = loaded_state c cell p there_here is (loaded_at (externals_from 0 (net_component_at net net.main).cells) (words_loaded memories) c (row_of p).start) l
    start_state (e ∷ path) h c cell p leads there is =
        subst (Stays p)
        (sym (deep (words_loaded memories) e path c ∙ starts (e ∷ path) (length net.components) net.main fit.has_main fit.has_main h c cell p leads there is)) (start_stays p)

    -- AT THE START, and AFTER THE RESET
    pub holds_at_start : Holds net net.main (net_start (net_tree net) (words_loaded memories))
    holds_at_start = record {
      registers = λ path h n w leads there. pow_pos w;
      cells = λ path h c cell p leads there is. (start_state path h c cell p leads there is).0;
    }

    pub start_holds : (look : NetLook) → Holds net net.main (net_after (net_tree net) true false (net_start (net_tree net) (words_loaded memories)) look)
    start_holds look = record {
      registers = λ path h n w leads there. pow_pos w;
      cells = λ path h c cell p leads there is.
          subst (IsState (row_of p).shape)
          (sym (resets path (length net.components) net.main look (started (net_tree net) (words_loaded memories) (path ++ c ∷ [])) fit.has_main fit.has_main h c cell p leads there is))
          (start_state path h c cell p leads there is).1;
    }
