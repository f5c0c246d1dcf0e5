-- After the edge with reset the cells of a design's net are those of the start, and the words of its memories are those of the design.
use Rattle.std.proofs.Common.{◌≡◌, inl, inr, slice_get, Some, ℕ, zero, suc, ◌+◌, ◌<◌, Bool, true, false, if◌then◌else◌, List, [], ◌∷◌, ◌++◌, length, map, refl, sym, ap, ◌∙◌, arith, length-append}
use Rattle.cx_text.proofs.MemberLaws.{in_at}
use Rattle.cx_text.specs.Loading.{PlainRow}
use Rattle.cx_prim.specs.CellStates as cell_states
use Rattle.cx_prim.specs.CellStates.{CellState, Stateless, Register, Memory, SequentialMemory, Multiplier, Divider, Timer, with_words}
use Rattle.cx_prim.specs.Rows.{Row}
use Rattle.cx_prim.specs.Table.{PrimitiveRow}
use Rattle.cx_meaning.specs.Designs.{PlainKind, OfPrimitive, OfComponent, PlainCell, PlainComponent, PlainDesign, component_at}
use Rattle.cx_meaning.specs.Instances as instances
use Rattle.cx_meaning.specs.Instances.{Instance, Cells, no_cells, a_primitive, an_instance, Path, State, just, start, start_at, start_below, loaded_at, externals_from, words_of, part_of, add_cell, cells_for, tree_within, tree_of}
use Rattle.cx_text.specs.Members.{In}
use Rattle.cx_rules.specs.Wellformed.{IsExternal, IsDesign}
use Rattle.cx_rules.specs.Externals.{if_external, rows_of}
use Rattle.cx_net.specs.NetTree.{NetInstance}
use Rattle.cx_net.specs.NetMeaning.{NetState, NetLook}
use Rattle.cx_net.specs.NetEdges.{cell_after, cell_below}
use Rattle.cx_net.specs.NetRuns.{net_start_at, net_start_below, net_externals, started, net_words}
use Rattle.cx_static.specs.Lowering.{lowered_component, lowered_of}
use Rattle.cx_wiring.specs.Wiring.{cell_in}
use Rattle.cx_wiring.specs.Reached.{order}
use Rattle.cx_wiring.specs.PartNets.{timer_cells, wired_in, timers_of, net_of_instance, net_of_cells}
use Rattle.cx_wiring.proofs.TimerCells.{cells-lowered_component}
use Rattle.cx_wiring.proofs.ExternalLaws.{rows_of-lowered_component}
use Rattle.cx_wiring_runs.specs.Blocks.{has_cell, has_cell_below}
use Rattle.cx_rules.proofs.SizesLemmas.{rows-both}

-- A RESET leaves a start that was loaded
pub with_own : (words : List ℕ) (s : CellState) → with_words (cell_states.words_of (with_words words s)) s ≡ with_words words s
with_own words Stateless = refl
with_own words (Register value done) = refl
with_own words (Memory old done) = refl
with_own words (SequentialMemory old read_data done) = refl
with_own words (Multiplier run product) = refl
with_own words (Divider run quotient remainder) = refl
with_own words (Timer count done) = refl

pub itself : (s : CellState) → with_words (cell_states.words_of s) s ≡ s
itself Stateless = refl
itself (Register value done) = refl
itself (Memory old done) = refl
itself (SequentialMemory old read_data done) = refl
itself (Multiplier run product) = refl
itself (Divider run quotient remainder) = refl
itself (Timer count done) = refl

reset_loaded : (es : List ℕ) (words : List (List ℕ)) (c : ℕ) (s : CellState) → with_words (cell_states.words_of (loaded_at es words c s)) s ≡ loaded_at es words c s
reset_loaded [] words c s = itself s
reset_loaded (e ∷ es) [] c s = itself s
reset_loaded (e ∷ es) (w ∷ ws) c s = by (just e c) (reset_loaded es ws c s)
  where
    by : (b : Bool) → with_words (cell_states.words_of (loaded_at es ws c s)) s ≡ loaded_at es ws c s → with_words (cell_states.words_of (if b then with_words w s else loaded_at es ws c s)) s ≡ (if b then with_words w s else loaded_at es ws c s)
    by true later = with_own w s
    by false later = later

-- EXTERNAL CELLS have one number in a component and in its net

none_behind : (xs ys : List PlainRow) → xs ++ ys ≡ xs → ys ≡ []
none_behind xs [] e = refl
none_behind xs (y ∷ ys) e = let long : length (xs ++ y ∷ ys) ≡ length xs = ap length e in let both : length (xs ++ y ∷ ys) ≡ length xs + length (y ∷ ys) = length-append xs (y ∷ ys) in absurd (omega arith)

none_external : (ys : List PlainCell) → rows_of ys ≡ [] → (c : ℕ) → externals_from c ys ≡ []
none_external [] e c = refl
none_external (y ∷ ys) e c = by y.external e (λ f. none_external ys f (suc c))
  where
    by : (b : Bool) → if_external b y (rows_of ys) ≡ [] → (rows_of ys ≡ [] → externals_from (suc c) ys ≡ []) → instances.if_external b c (externals_from (suc c) ys) ≡ []
    by true f later = absurd cc
    by false f later = later f

externals_before : (xs ys : List PlainCell) → rows_of ys ≡ [] → (c : ℕ) → externals_from c (xs ++ ys) ≡ externals_from c xs
externals_before [] ys e c = none_external ys e c
externals_before (x ∷ xs) ys e c = ap (instances.if_external x.external c) (externals_before xs ys e (suc c))

externals_numbered : (numbers : List ℕ) (xs : List PlainCell) (c : ℕ) → externals_from c (map (cell_in numbers) xs) ≡ externals_from c xs
externals_numbered numbers [] c = refl
externals_numbered numbers (x ∷ xs) c = ap (instances.if_external x.external c) (externals_numbered numbers xs (suc c))

module _ (d : PlainDesign) (numbers : Instance → NetState → ℕ → ℕ) where
  externals_same : (part : PlainComponent) → net_externals (wired_in d part) ≡ externals_from 0 part.cells
  externals_same part =
      externals_numbered (order (lowered_of d)) (lowered_component part).part.cells 0
      ∙ ap (externals_from 0) (cells-lowered_component part)
      ∙ externals_before part.cells (timer_cells part)
      (none_behind (rows_of part.cells) (rows_of (timer_cells part)) (sym (rows-both part.cells (timer_cells part)) ∙ ap rows_of (sym (cells-lowered_component part)) ∙ rows_of-lowered_component part)) 0

  abbrev net_at : Instance → NetInstance
  net_at = net_of_instance (wired_in d) timers_of numbers

  -- BELOW a cell nothing is loaded
  mutual
    reset_start : (i : Instance) (look : NetLook) (path : Path) → has_cell i path ≡ true → cell_after true (net_of_instance (wired_in d) timers_of numbers i) look path (net_start_at (net_of_instance (wired_in d) timers_of numbers i) path) ≡ start_at i path
    reset_start (instances.Node part cells) look [] there = absurd cc
    reset_start (instances.Node part cells) look (c ∷ path) there = reset_below cells (timers_of part) c c look path there

    reset_below : (cells : Cells) (more : List Row) (at c : ℕ) (look : NetLook) (path : Path) → has_cell_below cells at path ≡ true
        → cell_below true (net_of_cells (wired_in d) timers_of numbers cells more) at c look path (net_start_below (net_of_cells (wired_in d) timers_of numbers cells more) at path) ≡ start_below cells at path
    reset_below no_cells more at c look path there = absurd cc
    reset_below (a_primitive row rest) more zero c look [] there = itself row.start
    reset_below (a_primitive row rest) more zero c look (e ∷ path) there = absurd cc
    reset_below (a_primitive row rest) more (suc at) c look path there = reset_below rest more at c look path there
    reset_below (an_instance child rest) more zero c look path there = reset_start child (λ q. look (c ∷ q)) path there
    reset_below (an_instance child rest) more (suc at) c look path there = reset_below rest more at c look path there

  -- a cell of the root may be an external memory
  one_reset : (cells : Cells) (more : List Row) (at c : ℕ) (look : NetLook) (es : List ℕ) (words : List (List ℕ)) → has_cell_below cells at [] ≡ true
      → cell_below true (net_of_cells (wired_in d) timers_of numbers cells more) at c look [] (loaded_at es words c (net_start_below (net_of_cells (wired_in d) timers_of numbers cells more) at [])) ≡ loaded_at es words c (start_below cells at [])
  one_reset no_cells more at c look es words there = absurd cc
  one_reset (a_primitive row rest) more zero c look es words there = reset_loaded es words c row.start
  one_reset (a_primitive row rest) more (suc at) c look es words there = one_reset rest more at c look es words there
  one_reset (an_instance (instances.Node part cells) rest) more zero c look es words there = absurd cc
  one_reset (an_instance child rest) more (suc at) c look es words there = one_reset rest more at c look es words there

  -- THE CELLS after the reset
  pub cells_start : (i : Instance) (look : NetLook) (words : List (List ℕ)) (path : Path) → has_cell i path ≡ true
      → cell_after true (net_of_instance (wired_in d) timers_of numbers i) look path (started (net_of_instance (wired_in d) timers_of numbers i) words path) ≡ start i words path
  cells_start (instances.Node part cells) look words [] there = absurd cc
  cells_start (instances.Node part cells) look words (c ∷ []) there =
      ap (λ es. cell_below true (net_of_cells (wired_in d) timers_of numbers cells (timers_of part)) c c look [] (loaded_at es words c (net_start_below (net_of_cells (wired_in d) timers_of numbers cells (timers_of part)) c []))) (externals_same part)
      ∙ one_reset cells (timers_of part) c c look (externals_from 0 part.cells) words there
  cells_start (instances.Node part cells) look words (c ∷ e ∷ path) there = reset_below cells (timers_of part) c c look (e ∷ path) there

  -- the words of cells of the design; an external cell is one
  words_alike : (es : List ℕ) (one other : ℕ → CellState) → ((c : ℕ) → In es c → one c ≡ other c) → map (λ c. cell_states.words_of (one c)) es ≡ map (λ c. cell_states.words_of (other c)) es
  words_alike [] one other same = refl
  words_alike (e ∷ es) one other same =
      ap (λ x. cell_states.words_of x ∷ map (λ c. cell_states.words_of (one c)) es) (same e (inl refl)) ∙ ap (λ xs. cell_states.words_of (other e) ∷ xs) (words_alike es one other (λ c m. same c (inr m)))

  -- THE WORDS, where each external cell of the root is a cell of the design
  pub words_same : (i : Instance) (s : State) (v : NetState) → ((c : ℕ) → In (externals_from 0 (PlainComponent.cells (part_of i))) c → has_cell i (c ∷ []) ≡ true) → ((path : Path) → has_cell i path ≡ true → v.cell path ≡ s path)
      → net_words (net_of_instance (wired_in d) timers_of numbers i) v ≡ words_of i s
  words_same (instances.Node part cells) s v external same =
      ap (λ es. map (λ c. cell_states.words_of (v.cell (c ∷ []))) es) (externals_same part)
      ∙ words_alike (externals_from 0 part.cells) (λ c. v.cell (c ∷ [])) (λ c. s (c ∷ [])) (λ c m. same (c ∷ []) (external c m))

-- AN EXTERNAL CELL of a design is a memory of its main
external_in : (xs : List PlainCell) (from c : ℕ) → In (externals_from from xs) c → (n : ℕ) × (c ≡ from + n) × ((cell : PlainCell) × (slice_get xs n ≡ Some cell) × (cell.external ≡ true))
external_in [] from c i = absurd i
external_in (x ∷ xs) from c i = by x.external refl i (λ j. external_in xs (suc from) c j)
  where
    one_later : (n : ℕ) → c ≡ suc from + n → c ≡ from + suc n
    one_later n e = omega arith

    later : (n : ℕ) × (c ≡ suc from + n) × ((cell : PlainCell) × (slice_get xs n ≡ Some cell) × (cell.external ≡ true)) → (n : ℕ) × (c ≡ from + n) × ((cell : PlainCell) × (slice_get (x ∷ xs) n ≡ Some cell) × (cell.external ≡ true))
    later (n, e, r) = (suc n, one_later n e, r)

    first : from ≡ c → c ≡ from + 0
    first e = omega arith

    by : (b : Bool) → x.external ≡ b → In (instances.if_external b from (externals_from (suc from) xs)) c
        → (In (externals_from (suc from) xs) c → (n : ℕ) × (c ≡ suc from + n) × ((cell : PlainCell) × (slice_get xs n ≡ Some cell) × (cell.external ≡ true)))
        → (n : ℕ) × (c ≡ from + n) × ((cell : PlainCell) × (slice_get (x ∷ xs) n ≡ Some cell) × (cell.external ≡ true))
    by true is (inl e) deeper = (0, first e, (x, refl, is))
    by true is (inr j) deeper = later (deeper j)
    by false is j deeper = later (deeper j)

memory_there : (child : ℕ → Instance) (xs : List PlainCell) (n : ℕ) (cell : PlainCell) (primitive : PrimitiveRow) → slice_get xs n ≡ Some cell → cell.kind ≡ OfPrimitive primitive → has_cell_below (cells_for child xs) n [] ≡ true
memory_there child [] n cell primitive e is = absurd cc
memory_there child (x ∷ xs) zero cell primitive e is = let same : x ≡ cell = cc in ap (λ k. has_cell_below (add_cell child k (cells_for child xs)) zero []) (ap (λ (y : PlainCell). y.kind) same ∙ is)
memory_there child (x ∷ xs) (suc n) cell primitive e is = by x.kind ∙ memory_there child xs n cell primitive e is
  where
    by : (k : PlainKind) → has_cell_below (add_cell child k (cells_for child xs)) (suc n) [] ≡ has_cell_below (cells_for child xs) n []
    by (OfPrimitive p) = refl
    by (OfComponent k) = refl

pub external_there : (d : PlainDesign) → IsDesign d → (c : ℕ) → In (externals_from 0 (PlainComponent.cells (part_of (tree_of d)))) c → has_cell (tree_of d) (c ∷ []) ≡ true
external_there d design = by (length d.components) design.main_there
  where
    of_kind : (k : PlainKind) → IsExternal d d.main k → (primitive : PrimitiveRow) × (k ≡ OfPrimitive primitive)
    of_kind (OfPrimitive p) h = (p, refl)
    of_kind (OfComponent j) h = absurd h

    by : (n : ℕ) → d.main < n → (c : ℕ) → In (externals_from 0 (PlainComponent.cells (part_of (tree_within d n d.main)))) c → has_cell (tree_within d n d.main) (c ∷ []) ≡ true
    by zero less c i = absurd (omega arith)
    by (suc n) less c i =
        let e = external_in (component_at d d.main).cells 0 c i in
        let at : c ≡ e.0 = e.1 ∙ omega arith in
        let cell = e.2.0 in
        let stands = e.2.1 in
        let p = of_kind cell.kind (((design.components d.main design.main_there).cells cell (in_at (component_at d d.main).cells e.0 cell stands)).external e.2.2) in
        ap (λ k. has_cell_below (cells_for (tree_within d n) (component_at d d.main).cells) k []) at ∙ memory_there (tree_within d n) (component_at d d.main).cells e.0 cell p.0 stands p.1
