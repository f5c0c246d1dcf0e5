-- Numbers and rows as they are given out at the cells of an instance.
use Rattle.std.proofs.Common.{◌≡◌, ℕ, zero, suc, ◌+◌, ◌<◌, ◌≤◌, ◌≢◌, inl, inr, ◌⊎◌, ⊎_elim, List, [], ◌∷◌, length, map, get_or, set, drop, Some, option_map, refl, ap, ◌∙◌, subst, arith}
use Rattle.std.specs.List.{slice_get}
use Rattle.std.proofs.lemmas.Bool.{cases_lt}
use Rattle.std.proofs.lemmas.List.{get_or-set_same, get_or-set_other, length-set}
use Rattle.cx_text.proofs.MemberLaws.{in_at}
use Rattle.cx_meaning.specs.Designs.{PlainKind, OfPrimitive, OfComponent, PlainCell}
use Rattle.cx_meaning.specs.Instances.{Instance, Node, Cells, add_cell, cells_for}
use Rattle.cx_text.specs.Members.{In}
use Rattle.cx_rules.specs.Sizes.{instances_below, instances_in}
use Rattle.cx_design.specs.declared.cells.Cell.{Cell}
use Rattle.cx_design.specs.PlainForms.{plain_cell, plain_kind}
use Rattle.cx_design_sizes.specs.Capped.{capped}
use Rattle.std.proofs.Math.Seq.{drop-cons}
use Rattle.std.proofs.lemmas.Option.{slice_get-get_or, slice_get-map}
use Rattle.cx_design_sizes.specs.declared.tallies.LimitTally.{LimitTally}
use Rattle.cx_design_sizes.specs.Tallies.{tally_of, no_tally}
use Rattle.cx_state.specs.Steps.{instances_at}
use Rattle.cx_state.specs.declared.tables.InstanceRow.{InstanceRow}
use Rattle.cx_state.specs.Tables.{no_row, row_at}
use Rattle.cx_state.specs.Filling.{total, total_before, HaveSome, numbered, row_placed, placed}
use Rattle.cx_state.proofs.PreOrder.{before}
use Rattle.cx_text.proofs.OptionLaws.{none_is_some}

-- COUNTS: what the tallies tell of the component cells is so
abbrev pub AreCounted : (ℕ → Instance) → List LimitTally → List PlainCell → Type 0
AreCounted trees tallies cells = (cell : PlainCell) (j : ℕ) → In cells cell → cell.kind ≡ OfComponent j → instances_at tallies (OfComponent j) ≡ instances_below (trees j)

some_below : (i : Instance) → 1 ≤ instances_below i
some_below (Node part cells) = omega arith

kind_in : (trees : ℕ → Instance) (kind : PlainKind) (rest : Cells) → instances_in rest ≤ instances_in (add_cell trees kind rest)
kind_in trees (OfPrimitive p) rest = omega arith
kind_in trees (OfComponent k) rest = omega arith

own_in : (trees : ℕ → Instance) (kind : PlainKind) (rest : Cells) (j : ℕ) → kind ≡ OfComponent j → instances_below (trees j) ≤ instances_in (add_cell trees kind rest)
own_in trees (OfPrimitive p) rest j e = cc
own_in trees (OfComponent k) rest j e =
    let same : k ≡ j = cc in
    let small : instances_below (trees k) ≤ instances_below (trees k) + instances_in rest = omega arith in
    subst (λ n. instances_below (trees n) ≤ instances_below (trees k) + instances_in rest) same small

child_small : (trees : ℕ → Instance) (cells : List PlainCell) (cell : PlainCell) (j : ℕ) → In cells cell → cell.kind ≡ OfComponent j → instances_below (trees j) ≤ instances_in (cells_for trees cells)
child_small trees [] cell j h e = absurd h
child_small trees (x ∷ xs) cell j (inl s) e = own_in trees x.kind (cells_for trees xs) j (ap (λ y. y.kind) s ∙ e)
child_small trees (x ∷ xs) cell j (inr h) e =
    let small : instances_below (trees j) ≤ instances_in (cells_for trees xs) = child_small trees xs cell j h e in
    let more : instances_in (cells_for trees xs) ≤ instances_in (add_cell trees x.kind (cells_for trees xs)) = kind_in trees x.kind (cells_for trees xs) in
    omega arith

pub counted : (trees : ℕ → Instance) (tallies : List LimitTally) (cells : List PlainCell) → instances_in (cells_for trees cells) ≤ 4096
    → ((cell : PlainCell) (j : ℕ) → In cells cell → cell.kind ≡ OfComponent j → get_or tallies j no_tally ≡ tally_of (trees j)) → AreCounted trees tallies cells
counted trees tallies cells few known cell j h e =
    let small : instances_below (trees j) ≤ instances_in (cells_for trees cells) = child_small trees cells cell j h e in
    let is : instances_at tallies (OfComponent j) ≡ capped (instances_below (trees j)) = ap (λ t. t.instances) (known cell j h e) in
    let same : capped (instances_below (trees j)) ≡ instances_below (trees j) = omega arith in
    is ∙ same

pub have_some : (trees : ℕ → Instance) (tallies : List LimitTally) (cells : List PlainCell) → AreCounted trees tallies cells → HaveSome tallies cells
have_some trees tallies cells known cell k h e =
    let some : 1 ≤ instances_below (trees k) = some_below (trees k) in
    let is : instances_at tallies cell.kind ≡ instances_below (trees k) = ap (instances_at tallies) e ∙ known cell k h e in
    omega arith

kind_count : (trees : ℕ → Instance) (tallies : List LimitTally) (kind : PlainKind) (rest : Cells) (n : ℕ) → ((j : ℕ) → kind ≡ OfComponent j → instances_at tallies (OfComponent j) ≡ instances_below (trees j))
    → n ≡ instances_in rest → instances_at tallies kind + n ≡ instances_in (add_cell trees kind rest)
kind_count trees tallies (OfPrimitive p) rest n known e = omega arith
kind_count trees tallies (OfComponent k) rest n known e = let is = known k refl in omega (arith, is)

pub total_is : (trees : ℕ → Instance) (tallies : List LimitTally) (cells : List PlainCell) → AreCounted trees tallies cells → total tallies cells ≡ instances_in (cells_for trees cells)
total_is trees tallies [] known = refl
total_is trees tallies (x ∷ xs) known =
    kind_count trees tallies x.kind (cells_for trees xs) (total tallies xs) (λ j e. known x j (inl refl) e) (total_is trees tallies xs (λ cell j h e. known cell j (inr h) e))

kind_before : (trees : ℕ → Instance) (tallies : List LimitTally) (kind : PlainKind) (rest : Cells) (c n : ℕ) → ((j : ℕ) → kind ≡ OfComponent j → instances_at tallies (OfComponent j) ≡ instances_below (trees j))
    → before rest c ≡ n → before (add_cell trees kind rest) (suc c) ≡ instances_at tallies kind + n
kind_before trees tallies (OfPrimitive p) rest c n known e = omega arith
kind_before trees tallies (OfComponent k) rest c n known e = let is = known k refl in omega (arith, is)

first_before : (trees : ℕ → Instance) (kind : PlainKind) (rest : Cells) → before (add_cell trees kind rest) zero ≡ 0
first_before trees (OfPrimitive p) rest = refl
first_before trees (OfComponent k) rest = refl

pub before_is : (trees : ℕ → Instance) (tallies : List LimitTally) (cells : List PlainCell) (c : ℕ) → AreCounted trees tallies cells → before (cells_for trees cells) c ≡ total_before tallies cells c
before_is trees tallies [] zero known = refl
before_is trees tallies [] (suc c) known = refl
before_is trees tallies (x ∷ xs) zero known = first_before trees x.kind (cells_for trees xs)
before_is trees tallies (x ∷ xs) (suc c) known =
    kind_before trees tallies x.kind (cells_for trees xs) c (total_before tallies xs c) (λ j e. known x j (inl refl) e) (before_is trees tallies xs c (λ cell j h e. known cell j (inr h) e))

-- where a component cell stands next, its instance has room
pub place_room : (tallies : List LimitTally) (cells : List Cell) (i next long k : ℕ) (cell : Cell) → i < length cells → HaveSome tallies (map plain_cell cells)
    → next + total tallies (map plain_cell (drop i cells)) ≤ long → plain_kind (get_or cells i cell).kind ≡ OfComponent k → next < long
place_room tallies cells i next long k cell lt some room e =
    let there : slice_get (map plain_cell cells) i ≡ Some (plain_cell (get_or cells i cell)) = slice_get-map plain_cell cells i ∙ ap (option_map plain_cell) (slice_get-get_or cells i cell lt) in
    let one : 1 ≤ instances_at tallies (plain_cell (get_or cells i cell)).kind = some (plain_cell (get_or cells i cell)) k (in_at (map plain_cell cells) i (plain_cell (get_or cells i cell)) there) e in
    let split : total tallies (map plain_cell (drop i cells)) ≡ instances_at tallies (plain_cell (get_or cells i cell)).kind + total tallies (map plain_cell (drop (suc i) cells)) =
    ap (λ xs. total tallies (map plain_cell xs)) (drop-cons cells i cell lt) in
    omega (arith, one, split)

-- NUMBERS
pub length_numbered : (tallies : List LimitTally) (cells : List PlainCell) (next : ℕ) → length (numbered tallies cells next) ≡ length cells
length_numbered tallies [] next = refl
length_numbered tallies (x ∷ xs) next = ap suc (length_numbered tallies xs (next + instances_at tallies x.kind))

pub number_at : (tallies : List LimitTally) (cells : List PlainCell) (next c : ℕ) → c < length cells → get_or (numbered tallies cells next) c 0 ≡ next + total_before tallies cells c
number_at tallies [] next c lt = absurd (omega arith)
number_at tallies (x ∷ xs) next zero lt = omega arith
number_at tallies (x ∷ xs) next (suc c) lt =
    let later = number_at tallies xs (next + instances_at tallies x.kind) c (let h : suc c < suc (length xs) = lt in omega arith) in
    let sum : next + instances_at tallies x.kind + total_before tallies xs c ≡ next + (instances_at tallies x.kind + total_before tallies xs c) = omega arith in
    later ∙ sum

-- ROWS
abbrev pub new_row : ℕ → ℕ → ℕ → InstanceRow
new_row k number c = record { component = k; parent = number; cell = c; first = 0 }

kind_length : (kind : PlainKind) (number c next : ℕ) (rows : List InstanceRow) → length (row_placed kind number c next rows) ≡ length rows
kind_length (OfPrimitive p) number c next rows = refl
kind_length (OfComponent k) number c next rows = length-set rows next (new_row k number c)

pub placed_length : (tallies : List LimitTally) (cells : List PlainCell) (number c next : ℕ) (rows : List InstanceRow) → length (placed tallies cells number c next rows) ≡ length rows
placed_length tallies [] number c next rows = refl
placed_length tallies (x ∷ xs) number c next rows =
    placed_length tallies xs number (suc c) (next + instances_at tallies x.kind) (row_placed x.kind number c next rows) ∙ kind_length x.kind number c next rows

kind_low : (kind : PlainKind) (number c next m : ℕ) (rows : List InstanceRow) → m < next → row_at (row_placed kind number c next rows) m ≡ row_at rows m
kind_low (OfPrimitive p) number c next m rows lt = refl
kind_low (OfComponent k) number c next m rows lt = get_or-set_other rows next m (new_row k number c) no_row (λ e. (let f : m ≡ next = e in omega arith))

pub placed_low : (tallies : List LimitTally) (cells : List PlainCell) (number c next m : ℕ) (rows : List InstanceRow) → m < next → row_at (placed tallies cells number c next rows) m ≡ row_at rows m
placed_low tallies [] number c next m rows lt = refl
placed_low tallies (x ∷ xs) number c next m rows lt =
    placed_low tallies xs number (suc c) (next + instances_at tallies x.kind) m (row_placed x.kind number c next rows) (omega arith) ∙ kind_low x.kind number c next m rows lt

kind_there : (kind : PlainKind) (number c next k : ℕ) (rows : List InstanceRow) → kind ≡ OfComponent k → next < length rows → row_at (row_placed kind number c next rows) next ≡ new_row k number c
kind_there (OfPrimitive p) number c next k rows e lt = cc
kind_there (OfComponent j) number c next k rows e lt =
    let same : j ≡ k = cc in
    get_or-set_same rows next (new_row j number c) no_row lt ∙ ap (λ n. new_row n number c) same

pub placed_there : (tallies : List LimitTally) (cells : List PlainCell) (number start next : ℕ) (rows : List InstanceRow) (c k : ℕ) (cell : PlainCell) → HaveSome tallies cells
    → next + total tallies cells ≤ length rows → slice_get cells c ≡ Some cell → cell.kind ≡ OfComponent k
    → row_at (placed tallies cells number start next rows) (next + total_before tallies cells c) ≡ new_row k number (start + c)
placed_there tallies [] number start next rows c k cell some room at is = absurd (none_is_some cell at)
placed_there tallies (x ∷ xs) number start next rows zero k cell some room at is =
    let same : x ≡ cell = (let e : Some x ≡ Some cell = at in cc) in
    let kind : x.kind ≡ OfComponent k = ap (λ y. y.kind) same ∙ is in
    let one : 1 ≤ instances_at tallies x.kind = some x k (inl refl) kind in
    let here : next + 0 ≡ next = omega arith in
    let within : next < length rows = omega arith in
    let first : start ≡ start + 0 = omega arith in
    ap (row_at (placed tallies (x ∷ xs) number start next rows)) here
    ∙ placed_low tallies xs number (suc start) (next + instances_at tallies x.kind) next (row_placed x.kind number start next rows) (omega arith)
    ∙ kind_there x.kind number start next k rows kind within
    ∙ ap (λ n. new_row k number n) first
placed_there tallies (x ∷ xs) number start next rows (suc c) k cell some room at is =
    let rows1 = row_placed x.kind number start next rows in
    let long : length rows1 ≡ length rows = kind_length x.kind number start next rows in
    let sum : next + (instances_at tallies x.kind + total_before tallies xs c) ≡ next + instances_at tallies x.kind + total_before tallies xs c = omega arith in
    let further : suc start + c ≡ start + suc c = omega arith in
    ap (row_at (placed tallies (x ∷ xs) number start next rows)) sum
    ∙ placed_there tallies xs number (suc start) (next + instances_at tallies x.kind) rows1 c k cell (λ y j h e. some y j (inr h) e) (omega (arith, long)) at is
    ∙ ap (λ n. new_row k number n) further

-- a row is as it was, or that of an instance at a cell
pub record IsNew (tallies : List LimitTally) (cells : List PlainCell) (number start next m : ℕ) (found : InstanceRow) : Type 0 where
  pub at : ℕ
  pub cell : PlainCell
  pub component : ℕ
  pub stands : slice_get cells at ≡ Some cell
  pub kind : cell.kind ≡ OfComponent component
  pub number_is : m ≡ next + total_before tallies cells at
  pub is : found ≡ new_row component number (start + at)

kind_or : (kind : PlainKind) (number c next m : ℕ) (rows : List InstanceRow) → (row_at (row_placed kind number c next rows) m ≡ row_at rows m)
    ⊎ ((k : ℕ) × (kind ≡ OfComponent k) × (m ≡ next) × (row_at (row_placed kind number c next rows) m ≡ new_row k number c))
kind_or (OfPrimitive p) number c next m rows = inl refl
kind_or (OfComponent k) number c next m rows = ⊎_elim below above (cases_lt m next)
  where
    Either : Type 0
    Either = (row_at (set rows next (new_row k number c)) m ≡ row_at rows m) ⊎ ((j : ℕ) × (OfComponent k ≡ OfComponent j) × (m ≡ next) × (row_at (set rows next (new_row k number c)) m ≡ new_row j number c))

    other : m ≢ next → (row_at (set rows next (new_row k number c)) m ≡ row_at rows m) ⊎ ((j : ℕ) × (OfComponent k ≡ OfComponent j) × (m ≡ next) × (row_at (set rows next (new_row k number c)) m ≡ new_row j number c))
    other ne = inl (get_or-set_other rows next m (new_row k number c) no_row ne)

    below : m < next → (row_at (set rows next (new_row k number c)) m ≡ row_at rows m) ⊎ ((j : ℕ) × (OfComponent k ≡ OfComponent j) × (m ≡ next) × (row_at (set rows next (new_row k number c)) m ≡ new_row j number c))
    below lt = other (λ e. (let f : m ≡ next = e in omega arith))

    same : m ≡ next → (row_at (set rows next (new_row k number c)) m ≡ row_at rows m) ⊎ ((j : ℕ) × (OfComponent k ≡ OfComponent j) × (m ≡ next) × (row_at (set rows next (new_row k number c)) m ≡ new_row j number c))
    same e = ⊎_elim
        (λ (lt : next < length rows). inr (k, refl, e, ap (row_at (set rows next (new_row k number c))) e ∙ get_or-set_same rows next (new_row k number c) no_row lt))
        (λ (le : length rows ≤ next). inl (ap (λ xs. row_at xs m) (past rows next (new_row k number c) le)))
        (cases_lt next (length rows))
      where
        past : (xs : List InstanceRow) (n : ℕ) (x : InstanceRow) → length xs ≤ n → set xs n x ≡ xs
        past [] n x le = refl
        past (y ∷ ys) zero x le = absurd (omega arith)
        past (y ∷ ys) (suc n) x le = ap (λ zs. y ∷ zs) (past ys n x (let h : suc (length ys) ≤ suc n = le in omega arith))

    above : next ≤ m → (row_at (set rows next (new_row k number c)) m ≡ row_at rows m) ⊎ ((j : ℕ) × (OfComponent k ≡ OfComponent j) × (m ≡ next) × (row_at (set rows next (new_row k number c)) m ≡ new_row j number c))
    above le = ⊎_elim
        (λ (lt : next < m). other (λ e. (let f : m ≡ next = e in omega arith)))
        (λ (ge : m ≤ next). same (omega arith))
        (cases_lt next m)

pub placed_or : (tallies : List LimitTally) (cells : List PlainCell) (number start next m : ℕ) (rows : List InstanceRow)
    → (row_at (placed tallies cells number start next rows) m ≡ row_at rows m) ⊎ IsNew tallies cells number start next m (row_at (placed tallies cells number start next rows) m)
placed_or tallies [] number start next m rows = inl refl
placed_or tallies (x ∷ xs) number start next m rows =
    either (placed_or tallies xs number (suc start) (next + instances_at tallies x.kind) m (row_placed x.kind number start next rows)) (kind_or x.kind number start next m rows)
  where
    either : (row_at (placed tallies xs number (suc start) (next + instances_at tallies x.kind) (row_placed x.kind number start next rows)) m ≡ row_at (row_placed x.kind number start next rows) m)
        ⊎ IsNew tallies xs number (suc start) (next + instances_at tallies x.kind) m (row_at (placed tallies (x ∷ xs) number start next rows) m)
        → (row_at (row_placed x.kind number start next rows) m ≡ row_at rows m) ⊎ ((k : ℕ) × (x.kind ≡ OfComponent k) × (m ≡ next) × (row_at (row_placed x.kind number start next rows) m ≡ new_row k number start))
        → (row_at (placed tallies (x ∷ xs) number start next rows) m ≡ row_at rows m) ⊎ IsNew tallies (x ∷ xs) number start next m (row_at (placed tallies (x ∷ xs) number start next rows) m)
    either (inl e) (inl f) = inl (e ∙ f)
    either (inl e) (inr f) = inr (record {
      at = 0;
      cell = x;
      component = f.0;
      stands = refl;
      kind = f.1;
      number_is = f.2 ∙ (let z : next ≡ next + 0 = omega arith in z);
      is = e ∙ f.3 ∙ (let z : start ≡ start + 0 = omega arith in ap (λ n. new_row f.0 number n) z);
    })
    either (inr n) f = inr (record {
      at = suc n.at;
      cell = n.cell;
      component = n.component;
      stands = n.stands;
      kind = n.kind;
      number_is = n.number_is ∙ (let z : next + instances_at tallies x.kind + total_before tallies xs n.at ≡ next + (instances_at tallies x.kind + total_before tallies xs n.at) = omega arith in z);
      is = n.is ∙ (let z : suc start + n.at ≡ start + suc n.at = omega arith in ap (λ y. new_row n.component number y) z);
    })
