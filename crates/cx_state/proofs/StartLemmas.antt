-- Starts, cell by cell and instance by instance.
use Rattle.std.proofs.Common.{◌≡◌, ℕ, zero, suc, ◌+◌, ◌<◌, ◌≤◌, Bool, true, false, ⊎_elim, List, [], ◌∷◌, ◌++◌, length, map, drop, take, get_or, set, Option, Some, None, append_assoc, refl, sym, ap, ◌∙◌, subst, arith}
use Rattle.std.proofs.lemmas.Bool.{cases_lt}
use Rattle.std.proofs.Math.Seq.{drop-cons}
use Rattle.std.proofs.Math.ListN.{drop_of_length-le}
use Rattle.std.proofs.lemmas.List.{length-map, get_or-map, take_more}
use Rattle.std.proofs.lemmas.Option.{slice_get-get_or}
use Rattle.cx_text.specs.declared.loading.LoadedMemory.{LoadedMemory}
use Rattle.cx_prim.specs.CellStates.{CellState}
use Rattle.cx_meaning.specs.declared.sights.Seen.{Seen}
use Rattle.cx_meaning.specs.Designs.{PlainCell, PlainComponent, PlainDesign, component_at}
use Rattle.cx_meaning.specs.Instances.{Path, part_of, instance_at, tree_of}
use Rattle.cx_design.specs.declared.cells.Cell.{Cell}
use Rattle.cx_design.specs.declared.components.Component.{Component}
use Rattle.cx_design.specs.PlainForms.{plain_cell, plain_component, plain_parts}
use Rattle.cx_design.proofs.DesignFacts.{component_is}
use Rattle.cx_state.specs.declared.tables.InstanceRow.{InstanceRow}
use Rattle.cx_state.specs.Tables.{IsNumber, no_row, row_at, IsTable}
use Rattle.cx_state.specs.declared.states.InstanceState.{InstanceState}
use Rattle.cx_state.specs.States.{PlainInstance, plain_instance, instance_state, HoldsKind, HoldCells, words_in, with_held, no_instance}
use Rattle.cx_state.specs.Starts.{words_for, words_past, kind_started, started, TakeWords, words_of_main, IsStarted, AreStarted}
use Rattle.cx_state.proofs.Takes.{take_none}
use Rattle.cx_text.proofs.ListLaws.{snoc_length}
use Rattle.cx_meaning.proofs.DesignsLemmas.{same_part}
use Rattle.cx_meaning.proofs.InstancesLemmas.{here as instance_self, main_first}

-- THE NEXT WORDS
words_drop : (memories : List LoadedMemory) (next : ℕ) (m : LoadedMemory) → next < length memories → drop next (words_in memories) ≡ (get_or memories next m).words.items ∷ drop (suc next) (words_in memories)
words_drop memories next m lt =
    let within : next < length (words_in memories) = subst (λ n. next < n) (sym (length-map memories (λ (x : LoadedMemory). x.words.items))) lt in
    drop-cons (words_in memories) next (m.words.items) within
    ∙ ap (λ w. w ∷ drop (suc next) (words_in memories)) (get_or-map (λ (x : LoadedMemory). x.words.items) memories next m m.words.items lt)

pub next_words : (memories : List LoadedMemory) (next : ℕ) (m : LoadedMemory) (b : Bool) → b ≡ true → next < length memories → words_for b (drop next (words_in memories)) ≡ Some (get_or memories next m).words.items
next_words memories next m b e lt = ap (λ x. words_for x (drop next (words_in memories))) e ∙ ap (words_for true) (words_drop memories next m lt)

words_end : (memories : List LoadedMemory) (next : ℕ) → length memories ≤ next → drop next (words_in memories) ≡ []
words_end memories next le = drop_of_length-le (words_in memories) (subst (λ n. n ≤ next) (sym (length-map memories (λ (x : LoadedMemory). x.words.items))) le)

pub no_words : (memories : List LoadedMemory) (next : ℕ) (b : Bool) → length memories ≤ next → words_for b (drop next (words_in memories)) ≡ None
no_words memories next true le = ap (words_for true) (words_end memories next le)
no_words memories next false le = refl

pub past_next : (memories : List LoadedMemory) (next : ℕ) (b : Bool) → b ≡ true → next < length memories → drop (next + 1) (words_in memories) ≡ words_past b (drop next (words_in memories))
past_next memories next b e lt =
    let within : next < length (words_in memories) = subst (λ n. next < n) (sym (length-map memories (λ (x : LoadedMemory). x.words.items))) lt in
    (let s : next + 1 ≡ suc next = omega arith in ap (λ n. drop n (words_in memories)) s)
    ∙ sym (ap (words_past true) (drop-cons (words_in memories) next [] within)) ∙ sym (ap (λ x. words_past x (drop next (words_in memories))) e)

pub past_none : (memories : List LoadedMemory) (next : ℕ) (b : Bool) → length memories ≤ next → drop next (words_in memories) ≡ words_past b (drop next (words_in memories))
past_none memories next true le = words_end memories next le ∙ sym (ap (words_past true) (words_end memories next le))
past_none memories next false le = refl

-- CELLS, one more
hold_snoc : (cells : List PlainCell) (hs : List (Option CellState)) (cell : PlainCell) (h : Option CellState) → HoldCells cells hs → HoldsKind cell.kind h → HoldCells (cells ++ cell ∷ []) (hs ++ h ∷ [])
hold_snoc [] [] cell h p q = (q, tt)
hold_snoc [] (x ∷ hs) cell h p q = absurd p
hold_snoc (c ∷ cs) [] cell h p q = absurd p
hold_snoc (c ∷ cs) (x ∷ hs) cell h p q = (p.0, hold_snoc cs hs cell h p.1 q)

map_snoc : (cells : List Cell) (c : Cell) → map plain_cell (cells ++ c ∷ []) ≡ map plain_cell cells ++ plain_cell c ∷ []
map_snoc [] c = refl
map_snoc (x ∷ xs) c = ap (λ ys. plain_cell x ∷ ys) (map_snoc xs c)

-- after i cells, where the memories from next on are left
pub record AreSoFar (cells : List Cell) (ws : List (List ℕ)) (i next : ℕ) (held : List (Option CellState)) : Type 0 where
  pub value : held ++ started (map plain_cell (drop i cells)) (drop next ws) ≡ started (map plain_cell cells) ws
  pub takes : TakeWords (map plain_cell (drop i cells)) (drop next ws)
  pub fits : HoldCells (map plain_cell (take i cells)) held

pub so_far_begin : (cells : List Cell) (ws : List (List ℕ)) (held : List (Option CellState)) → held ≡ [] → TakeWords (map plain_cell cells) ws → AreSoFar cells ws 0 0 held
so_far_begin cells ws held e takes = subst (AreSoFar cells ws 0 0) (sym e) (record { value = refl; takes = takes; fits = tt })

split_at : (cells : List Cell) (i : ℕ) (cell : Cell) → i < length cells → cell ≡ get_or cells i cell → drop i cells ≡ cell ∷ drop (suc i) cells
split_at cells i cell lt e = drop-cons cells i cell lt ∙ ap (λ c. c ∷ drop (suc i) cells) (sym e)

pub so_far_next : (cells : List Cell) (ws : List (List ℕ)) (i next after : ℕ) (held more : List (Option CellState)) (cell : Cell) (h : Option CellState) → AreSoFar cells ws i next held → i < length cells
    → cell ≡ get_or cells i cell → h ≡ kind_started (plain_cell cell).kind (words_for cell.external (drop next ws)) → HoldsKind (plain_cell cell).kind h → more ≡ held ++ h ∷ []
    → drop after ws ≡ words_past cell.external (drop next ws) → AreSoFar cells ws (i + 1) after more
so_far_next cells ws i next after held more cell h far lt e value fits is past =
    subst (λ n. AreSoFar cells ws n after more) (let s : suc i ≡ i + 1 = omega arith in s)
    (record {
      value =
          ap (λ xs. xs ++ started (map plain_cell (drop (suc i) cells)) (drop after ws)) is
          ∙ append_assoc held (h ∷ []) (started (map plain_cell (drop (suc i) cells)) (drop after ws))
          ∙ ap (λ x. held ++ x ∷ started (map plain_cell (drop (suc i) cells)) (drop after ws)) value
          ∙ ap (λ vs. held ++ kind_started (plain_cell cell).kind (words_for cell.external (drop next ws)) ∷ started (map plain_cell (drop (suc i) cells)) vs) past
          ∙ ap (λ cs. held ++ started (map plain_cell cs) (drop next ws)) (sym (split_at cells i cell lt e))
          ∙ far.value;
      takes = subst (TakeWords (map plain_cell (drop (suc i) cells))) (sym past) takes.1;
      fits =
          subst (λ cs. HoldCells (map plain_cell cs) more) (sym taken)
          (subst (λ ps. HoldCells ps more) (sym (map_snoc (take i cells) cell)) (subst (HoldCells (map plain_cell (take i cells) ++ plain_cell cell ∷ [])) (sym is) (hold_snoc (map plain_cell (take i cells)) held (plain_cell cell) h far.fits fits)));
    })
  where
    takes : TakeWords (map plain_cell (cell ∷ drop (suc i) cells)) (drop next ws)
    takes = subst (λ cs. TakeWords (map plain_cell cs) (drop next ws)) (split_at cells i cell lt e) far.takes

    taken : take (suc i) cells ≡ take i cells ++ cell ∷ []
    taken = (let s : suc i ≡ i + 1 = omega arith in ap (λ n. take n cells) s) ∙ take_more cells i cell lt ∙ ap (λ c. take i cells ++ c ∷ []) (sym e)

-- INSTANCES
pub part_is : (d : PlainDesign) (rows : List InstanceRow) (children : List ℕ) (n : ℕ) (path : Path) → IsTable d rows children → IsNumber d n path → part_of (instance_at (tree_of d) path) ≡ component_at d (row_at rows n).component
part_is d rows children n path table at = ap part_of (table.component n path at) ∙ same_part d (length d.components) (row_at rows n).component

-- the component of instance n takes the words for it
pub component_takes : (d : PlainDesign) (rows : List InstanceRow) (children : List ℕ) (ws : List (List ℕ)) (n : ℕ) → IsTable d rows children → TakeWords (component_at d d.main).cells ws
    → TakeWords (component_at d (row_at rows n).component).cells (words_of_main n ws)
component_takes d rows children ws zero table takes =
    let main : component_at d d.main ≡ component_at d (row_at rows 0).component =
    sym (same_part d (length d.components) d.main) ∙ ap part_of (sym (instance_self (tree_of d))) ∙ part_is d rows children 0 [] table (main_first (tree_of d)) in
    subst (λ part. TakeWords part.cells ws) main takes
component_takes d rows children ws (suc n) table takes = take_none (component_at d (row_at rows (suc n)).component).cells

get_left : (xs : List PlainInstance) (x : PlainInstance) (m : ℕ) → m < length xs → instance_state (xs ++ x ∷ []) m ≡ instance_state xs m
get_left [] x m lt = absurd (omega arith)
get_left (y ∷ ys) x zero lt = refl
get_left (y ∷ ys) x (suc m) lt = get_left ys x m (let h : suc m < suc (length ys) = lt in omega arith)

get_last : (xs : List PlainInstance) (x : PlainInstance) → instance_state (xs ++ x ∷ []) (length xs) ≡ x
get_last [] x = refl
get_last (y ∷ ys) x = get_last ys x

instances_snoc : (xs : List InstanceState) (x : InstanceState) → map plain_instance (xs ++ x ∷ []) ≡ map plain_instance xs ++ plain_instance x ∷ []
instances_snoc [] x = refl
instances_snoc (y ∷ ys) x = ap (λ zs. plain_instance y ∷ zs) (instances_snoc ys x)

pub started_next : (d : PlainDesign) (rows : List InstanceRow) (children : List ℕ) (ws vs : List (List ℕ)) (n : ℕ) (xs more : List InstanceState) (x : InstanceState) (part : PlainComponent) → IsTable d rows children
    → AreStarted d ws n (map plain_instance xs) → part ≡ component_at d (row_at rows n).component → vs ≡ words_of_main n ws → IsStarted part vs (plain_instance x) → more ≡ xs ++ x ∷ []
    → AreStarted d ws (n + 1) (map plain_instance more)
started_next d rows children ws vs n xs more x part table so_far part_same words one is =
    subst (λ k. AreStarted d ws k (map plain_instance more)) (let s : suc n ≡ n + 1 = omega arith in s)
    (record {
      count = ap length all ∙ snoc_length (map plain_instance xs) (plain_instance x) ∙ ap suc so_far.count;
      each = λ m path lt at.
          ⊎_elim
          (λ (less : m < n).
          let inside : m < length (map plain_instance xs) = (let c = so_far.count in omega (arith, c)) in
          subst (IsStarted (part_of (instance_at (tree_of d) path)) (words_of_main m ws)) (sym (ap (λ ys. instance_state ys m) all ∙ get_left (map plain_instance xs) (plain_instance x) m inside)) (so_far.each m path less at))
          (λ (ge : n ≤ m).
          let same : m ≡ n = omega arith in
          last m path same at)
          (cases_lt m n);
    })
  where
    all : map plain_instance more ≡ map plain_instance xs ++ plain_instance x ∷ []
    all = ap (map plain_instance) is ∙ instances_snoc xs x

    last : (m : ℕ) (path : Path) → m ≡ n → IsNumber d m path → IsStarted (part_of (instance_at (tree_of d) path)) (words_of_main m ws) (instance_state (map plain_instance more) m)
    last m path same at =
        let here : instance_state (map plain_instance more) m ≡ plain_instance x =
        ap (λ ys. instance_state ys m) all ∙ ap (instance_state (map plain_instance xs ++ plain_instance x ∷ [])) (same ∙ sym so_far.count) ∙ get_last (map plain_instance xs) (plain_instance x) in
        let own : part ≡ part_of (instance_at (tree_of d) path) = part_same ∙ ap (λ k. component_at d (row_at rows k).component) (sym same) ∙ sym (part_is d rows children m path table at) in
        subst (IsStarted (part_of (instance_at (tree_of d) path)) (words_of_main m ws)) (sym here)
        (subst (λ p. IsStarted p (words_of_main m ws) (plain_instance x)) own (subst (λ v. IsStarted part v (plain_instance x)) (words ∙ ap (λ k. words_of_main k ws) (sym same)) one))

pub component_own : (components : List Component) (main : ℕ) (rows seen : List InstanceRow) (children : List ℕ) (n : ℕ) (x : InstanceRow) (shown : List Component) (part : Component) → IsTable (plain_parts components main) rows children → seen ≡ rows
    → n < length seen → shown ≡ components → part ≡ get_or shown (get_or seen n x).component part → plain_component part ≡ component_at (plain_parts components main) (row_at rows n).component
component_own components main rows seen children n x shown part table same lt all is =
    let inside : n < length rows = subst (λ xs. n < length xs) same lt in
    let row : get_or seen n x ≡ row_at rows n =
    ap (λ xs. get_or xs n x) same ∙ (let f : Some (get_or rows n x) ≡ Some (row_at rows n) = sym (slice_get-get_or rows n x inside) ∙ slice_get-get_or rows n no_row inside in cc) in
    let there : (get_or seen n x).component < length components =
    subst (λ k. (get_or seen n x).component < k) (length-map components plain_component) (subst (λ (r : InstanceRow). r.component < length (map plain_component components)) (sym row) (table.there n inside)) in
    component_is components (get_or seen n x).component part there (is ∙ ap (λ xs. get_or xs (get_or seen n x).component part) all) ∙ ap (λ (r : InstanceRow). component_at (plain_parts components main) r.component) row

-- ONE INPUT HELD
map_set : {A B : Type 0} (f : A → B) (xs : List A) (n : ℕ) (x : A) → map f (set xs n x) ≡ set (map f xs) n (f x)
map_set f [] n x = refl
map_set f (y ∷ ys) zero x = refl
map_set f (y ∷ ys) (suc n) x = ap (λ zs. f y ∷ zs) (map_set f ys n x)

pub held_is : (items : List InstanceState) (n input : ℕ) (seen : Seen) (r x : InstanceState) → n < length (map plain_instance items) → r ≡ get_or items n r → plain_instance x ≡ record { cells = r.cells.items; held = set r.held.items input seen }
    → map plain_instance (set items n x) ≡ with_held (map plain_instance items) n input seen
held_is items n input seen r x lt e is =
    let inside : n < length items = subst (λ k. n < k) (length-map items plain_instance) lt in
    let own : instance_state (map plain_instance items) n ≡ plain_instance r = get_or-map plain_instance items n r no_instance inside ∙ ap plain_instance (sym e) in
    map_set plain_instance items n x ∙ ap (set (map plain_instance items) n) (is ∙ ap (λ (i : PlainInstance). record { cells = i.cells; held = set i.held input seen }) (sym own))
