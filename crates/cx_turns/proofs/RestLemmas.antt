-- Idle edges of listed cells, in rows and in the states that they stand for.
use Rattle.std.proofs.Common.{◌≡◌, ℕ, zero, suc, ◌+◌, ◌<◌, ◌≤◌, Bool, true, false, ◌||◌, nat_eq, List, [], ◌∷◌, length, get_or, set, take, Option, Some, None, refl, sym, ap, ◌∙◌, subst, arith, if◌then◌else◌}
use Rattle.std.specs.List.{slice_get}
use Rattle.std.proofs.lemmas.Bool.{eqb-true, eq-eqb}
use Rattle.cx_prim.specs.CellStates.{CellState}
use Rattle.cx_prim.specs.Rows.{Row}
use Rattle.cx_prim.specs.Table.{row_of}
use Rattle.cx_meaning.specs.Rows.{KeepsIdle}
use Rattle.cx_meaning.specs.Laws.{AllRows, AllRowsBelow}
use Rattle.cx_meaning.specs.Designs.{PlainKind, OfPrimitive, OfComponent, PlainCell}
use Rattle.cx_meaning.specs.Instances.{Instance, Node, Cells, no_cells, a_primitive, an_instance, add_cell, cells_for, Path, Set, idle_below, instance_at, child_at}
use Rattle.cx_eval_cycle.specs.Passes.{listed_in, IsAscending}
use Rattle.cx_state.specs.States.{HoldsKind, HoldCells}
use Rattle.cx_turns.specs.Rests.{kind_rested, rested_cells}
use Rattle.cx_text.proofs.NumberLaws.{apart_numbers, other as apart}
use Rattle.cx_text.proofs.ListLaws.{get_same}
use Rattle.cx_meaning.proofs.InstancesLemmas.{top_idle}
use Rattle.cx_state.proofs.StatesLemmas.{held_long}

-- LISTED cells, one more
pub listed_more : (xs : List ℕ) (k m : ℕ) → slice_get xs k ≡ Some m → (c : ℕ) → listed_in (take (suc k) xs) c ≡ (listed_in (take k xs) c || nat_eq m c)
listed_more [] k m e c = absurd (let f : None ≡ Some m = e in cc)
listed_more (x ∷ xs) zero m e c =
    let same : x ≡ m = (let f : Some x ≡ Some m = e in cc) in
    or_false (nat_eq x c) ∙ ap (λ y. nat_eq y c) same
  where
    or_false : (b : Bool) → (b || false) ≡ b
    or_false true = refl
    or_false false = refl
listed_more (x ∷ xs) (suc k) m e c = ap (λ b. nat_eq x c || b) (listed_more xs k m e c) ∙ or_or (nat_eq x c) (listed_in (take k xs) c) (nat_eq m c)
  where
    or_or : (a b d : Bool) → (a || (b || d)) ≡ ((a || b) || d)
    or_or true b d = refl
    or_or false b d = refl

tail_ascends : (x : ℕ) (xs : List ℕ) → IsAscending (x ∷ xs) → IsAscending xs
tail_ascends x xs h k m n a b = h (suc k) m n a b

above_head : (x : ℕ) (xs : List ℕ) (k m : ℕ) → IsAscending (x ∷ xs) → slice_get xs k ≡ Some m → x < m
above_head x [] k m h e = absurd (let f : None ≡ Some m = e in cc)
above_head x (y ∷ ys) zero m h e = h 0 x m refl e
above_head x (y ∷ ys) (suc k) m h e =
    let first : x < y = h 0 x y refl refl in
    let rest : y < m = above_head y ys k m (tail_ascends x (y ∷ ys) h) e in
    omega (arith, first, rest)

pub not_before : (xs : List ℕ) (k m : ℕ) → IsAscending xs → slice_get xs k ≡ Some m → listed_in (take k xs) m ≡ false
not_before [] k m h e = absurd (let f : None ≡ Some m = e in cc)
not_before (x ∷ xs) zero m h e = refl
not_before (x ∷ xs) (suc k) m h e =
    ap (λ b. b || listed_in (take k xs) m) (apart_numbers x m (above_head x xs k m h e)) ∙ not_before xs k m (tail_ascends x xs h) e

-- rows of cells
same_cells : (one other : Set) (xs : List PlainCell) (hs : List (Option CellState)) → ((c : ℕ) → one c ≡ other c) → rested_cells one xs hs ≡ rested_cells other xs hs
same_cells one other [] hs e = refl
same_cells one other (x ∷ xs) [] e = refl
same_cells one other (x ∷ xs) (h ∷ hs) e =
    ap (λ b. (if b then kind_rested x.kind h else h) ∷ rested_cells (λ c. one (suc c)) xs hs) (e 0)
    ∙ ap (λ ys. (if other 0 then kind_rested x.kind h else h) ∷ ys) (same_cells (λ c. one (suc c)) (λ c. other (suc c)) xs hs (λ c. e (suc c)))

pub none_listed : (xs : List PlainCell) (hs : List (Option CellState)) → length hs ≡ length xs → rested_cells (λ c. false) xs hs ≡ hs
none_listed [] hs e = refl
none_listed (x ∷ xs) [] e = refl
none_listed (x ∷ xs) (h ∷ hs) e = ap (λ ys. h ∷ ys) (none_listed xs hs (let f : suc (length hs) ≡ suc (length xs) = e in omega (arith, f)))

kind_at : List PlainCell → ℕ → PlainCell → PlainKind
kind_at xs c d = (get_or xs c d).kind

-- WHAT A CELL HOLDS behind its idle edge is that of the state
abbrev choose : Bool → CellState → CellState → CellState
choose b x y = if b then x else y

one_kind : (b : Bool) (child : ℕ → Instance) (kind : PlainKind) (rest : Cells) (h : Option CellState) (d held : CellState) → ((h0 : CellState) → h ≡ Some h0 → d ≡ h0)
    → (if b then kind_rested kind h else h) ≡ Some held → choose b (idle_below (add_cell child kind rest) zero [] d) d ≡ held
one_kind false child kind rest h d held is e = is held e
one_kind true child (OfPrimitive p) rest None d held is e = absurd (let f : None ≡ Some held = e in cc)
one_kind true child (OfPrimitive p) rest (Some h0) d held is e =
    let same : (row_of p).idle h0 ≡ held = (let f : Some ((row_of p).idle h0) ≡ Some held = e in cc) in
    ap (row_of p).idle (is h0 refl) ∙ same
one_kind true child (OfComponent k) rest h d held is e = top_idle (child k) d ∙ is held e

skip_kind : (child : ℕ → Instance) (kind : PlainKind) (rest : Cells) (c : ℕ) (d : CellState) → idle_below (add_cell child kind rest) (suc c) [] d ≡ idle_below rest c [] d
skip_kind child (OfPrimitive p) rest c d = refl
skip_kind child (OfComponent k) rest c d = refl

pub cell_rested : (child : ℕ → Instance) (xs : List PlainCell) (hs : List (Option CellState)) (listed : Set) (c : ℕ) (d held : CellState) → ((h0 : CellState) → get_or hs c None ≡ Some h0 → d ≡ h0)
    → get_or (rested_cells listed xs hs) c None ≡ Some held → choose (listed c) (idle_below (cells_for child xs) c [] d) d ≡ held
cell_rested child [] hs listed c d held is e = either (listed c) ∙ is held e
  where
    either : (b : Bool) → choose b d d ≡ d
    either true = refl
    either false = refl
cell_rested child (x ∷ xs) [] listed c d held is e = absurd (let f : None ≡ Some held = e in cc)
cell_rested child (x ∷ xs) (h ∷ hs) listed zero d held is e = one_kind (listed 0) child x.kind (cells_for child xs) h d held is e
cell_rested child (x ∷ xs) (h ∷ hs) listed (suc c) d held is e =
    ap (λ y. choose (listed (suc c)) y d) (skip_kind child x.kind (cells_for child xs) c d) ∙ cell_rested child xs hs (λ k. listed (suc k)) c d held is e

-- TREES: every instance keeps its idle edges
mutual
  all_at : (P : Row → Type 0) (i : Instance) (path : Path) → AllRows P i → AllRows P (instance_at i path)
  all_at P (Node part cells) [] h = h
  all_at P (Node part cells) (c ∷ path) h = all_below P cells c path h

  all_below : (P : Row → Type 0) (cells : Cells) (c : ℕ) (path : Path) → AllRowsBelow P cells → AllRows P (child_at cells c path)
  all_below P no_cells c path h = tt
  all_below P (a_primitive row rest) zero path h = tt
  all_below P (a_primitive row rest) (suc c) path h = all_below P rest c path h.1
  all_below P (an_instance child rest) zero path h = all_at P child path h.0
  all_below P (an_instance child rest) (suc c) path h = all_below P rest c path h.1

pub rows_at : (i : Instance) (path : Path) → AllRows KeepsIdle i → AllRows KeepsIdle (instance_at i path)
rows_at i path h = all_at KeepsIdle i path h

one_less : (m n : ℕ) → nat_eq (suc m) (suc n) ≡ nat_eq m n
one_less m n = by_case (nat_eq m n) refl
  where
    by_case : (b : Bool) → nat_eq m n ≡ b → nat_eq (suc m) (suc n) ≡ nat_eq m n
    by_case true e = eq-eqb (suc m) (suc n) (ap suc (eqb-true m n e)) ∙ sym e
    by_case false e = apart (suc m) (suc n) (λ f. (let g : m ≡ n = (let h : suc m ≡ suc n = f in omega (arith, h)) in let x : true ≡ false = sym (eq-eqb m n g) ∙ e in cc)) ∙ sym e

-- a cell that is listed beside others, which alone changes
pub one_rested : (one more : Set) (xs : List PlainCell) (hs : List (Option CellState)) (c : ℕ) (d : PlainCell) → ((e : ℕ) → more e ≡ (one e || nat_eq c e)) → one c ≡ false → c < length xs → length hs ≡ length xs
    → rested_cells more xs hs ≡ set (rested_cells one xs hs) c (kind_rested (get_or xs c d).kind (get_or (rested_cells one xs hs) c None))
one_rested one more [] hs c d is off lt count = absurd (omega arith)
one_rested one more (x ∷ xs) [] c d is off lt count = absurd (let f : 0 ≡ suc (length xs) = count in omega (arith, f))
one_rested one more (x ∷ xs) (h ∷ hs) zero d is off lt count =
    let zeros : nat_eq 0 0 ≡ true = eq-eqb 0 0 refl in
    let listed : more 0 ≡ true = is 0 ∙ ap (λ b. one 0 || b) zeros ∙ ap (λ b. b || true) off in
    let others : (e : ℕ) → more (suc e) ≡ one (suc e) = (λ e. is (suc e) ∙ ap (λ b. one (suc e) || b) (apart_numbers 0 (suc e) (omega arith)) ∙ or_false (one (suc e))) in
    ap (λ b. (if b then kind_rested x.kind h else h) ∷ rested_cells (λ e. more (suc e)) xs hs) listed
    ∙ ap (λ ys. kind_rested x.kind h ∷ ys) (same_cells (λ e. more (suc e)) (λ e. one (suc e)) xs hs others)
    ∙ ap (λ b. kind_rested x.kind (if b then kind_rested x.kind h else h) ∷ rested_cells (λ e. one (suc e)) xs hs) (sym off)
  where
    or_false : (b : Bool) → (b || false) ≡ b
    or_false true = refl
    or_false false = refl
one_rested one more (x ∷ xs) (h ∷ hs) (suc c) d is off lt count =
    let none : nat_eq (suc c) 0 ≡ false = apart (suc c) 0 (λ e. (let f : suc c ≡ 0 = e in omega (arith, f))) in
    let same : more 0 ≡ one 0 = is 0 ∙ ap (λ b. one 0 || b) none ∙ or_false (one 0) in
    let later : (e : ℕ) → more (suc e) ≡ (one (suc e) || nat_eq c e) = (λ e. is (suc e) ∙ ap (λ b. one (suc e) || b) (one_less c e)) in
    ap (λ b. (if b then kind_rested x.kind h else h) ∷ rested_cells (λ e. more (suc e)) xs hs) same
    ∙ ap (λ ys. (if one 0 then kind_rested x.kind h else h) ∷ ys)
    (one_rested (λ e. one (suc e)) (λ e. more (suc e)) xs hs c d later off (let l : suc c < suc (length xs) = lt in omega (arith, l)) (let f : suc (length hs) ≡ suc (length xs) = count in omega (arith, f)))
  where
    or_false : (b : Bool) → (b || false) ≡ b
    or_false true = refl
    or_false false = refl

-- what a cell holds
pub held_at : (xs : List PlainCell) (hs : List (Option CellState)) (c : ℕ) (d : PlainCell) (h : Option CellState) → HoldCells xs hs → c < length xs → HoldsKind (get_or xs c d).kind (get_or hs c h)
held_at [] hs c d h holds lt = absurd (omega arith)
held_at (x ∷ xs) [] c d h holds lt = absurd holds
held_at (x ∷ xs) (y ∷ hs) zero d h holds lt = holds.0
held_at (x ∷ xs) (y ∷ hs) (suc c) d h holds lt = held_at xs hs c d h holds.1 (let l : suc c < suc (length xs) = lt in omega (arith, l))

-- and all still hold states of their rows
pub set_holds : (xs : List PlainCell) (hs : List (Option CellState)) (c : ℕ) (d : PlainCell) (h : Option CellState) → HoldCells xs hs → HoldsKind (get_or xs c d).kind h → HoldCells xs (set hs c h)
set_holds [] [] c d h holds is = tt
set_holds [] (y ∷ hs) c d h holds is = absurd holds
set_holds (x ∷ xs) [] c d h holds is = absurd holds
set_holds (x ∷ xs) (y ∷ hs) zero d h holds is = (is, holds.1)
set_holds (x ∷ xs) (y ∷ hs) (suc c) d h holds is = (holds.0, set_holds xs hs c d h holds.1 is)

-- the listed cells so far have rested, and then one more has
pub cells_next : (xs : List PlainCell) (listed : List ℕ) (initial held : List (Option CellState)) (k c : ℕ) (d : PlainCell) (old new : Option CellState) → IsAscending listed → slice_get listed k ≡ Some c → c < length xs → length initial ≡ length xs
    → held ≡ rested_cells (listed_in (take k listed)) xs initial → HoldCells xs held → old ≡ get_or held c old → new ≡ kind_rested (get_or xs c d).kind old → HoldsKind (get_or xs c d).kind new
    → (set held c new ≡ rested_cells (listed_in (take (k + 1) listed)) xs initial) × HoldCells xs (set held c new)
cells_next xs listed initial held k c d old new ascending at lt count so_far holds is value fits =
    let next : suc k ≡ k + 1 = omega arith in
    let inside : c < length held = subst (λ m. c < m) (sym (held_long xs held holds)) lt in
    let here : new ≡ kind_rested (get_or xs c d).kind (get_or held c None) = value ∙ ap (kind_rested (get_or xs c d).kind) (is ∙ get_same held c old None inside) in
    let one : set held c new ≡ rested_cells (listed_in (take (suc k) listed)) xs initial =
    ap (set held c) here ∙ ap (λ (hs : List (Option CellState)). set hs c (kind_rested (get_or xs c d).kind (get_or hs c None))) so_far
    ∙ sym (one_rested (listed_in (take k listed)) (listed_in (take (suc k) listed)) xs initial c d (listed_more listed k c at) (not_before listed k c ascending at) lt count) in
    (subst (λ j. set held c new ≡ rested_cells (listed_in (take j listed)) xs initial) next one, set_holds xs held c d new holds fits)

-- when all have, the whole list has
pub take_whole : (xs : List ℕ) (k : ℕ) → length xs ≤ k → take k xs ≡ xs
take_whole [] zero le = refl
take_whole [] (suc k) le = refl
take_whole (x ∷ xs) zero le = absurd (let h : suc (length xs) ≤ 0 = le in omega (arith, h))
take_whole (x ∷ xs) (suc k) le = ap (λ ys. x ∷ ys) (take_whole xs k (let h : suc (length xs) ≤ suc k = le in omega (arith, h)))
