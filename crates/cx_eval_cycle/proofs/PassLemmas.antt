-- Passes cell by cell.
use Rattle.std.proofs.Common.{◌≡◌, ℕ, zero, suc, ◌+◌, ◌<◌, ◌≤◌, ◌||◌, Bool, true, false, List, get_or, [], ◌∷◌, length, set, take, Option, Some, None, option_map, if◌then◌else◌, refl, sym, ap, ◌∙◌, arith}
use Rattle.std.specs.Prelude.{nat_eq, slice_get}
use Rattle.std.proofs.lemmas.Bool.{or_left}
use Rattle.std.proofs.lemmas.Bool.Decides.{nat_tests}
use Rattle.std.proofs.lemmas.List.{get_or-set_same, get_or-set_other}
use Rattle.cx_prim.specs.CellStates.{CellState}
use Rattle.cx_prim.specs.Table.{PrimitiveRow, row_of}
use Rattle.cx_meaning.specs.Designs.{OfPrimitive, PlainCell}
use Rattle.cx_meaning.specs.Instances.{Set}
use Rattle.cx_meaning.specs.Sights.{Look}
use Rattle.cx_meaning.specs.Cycles.{cell_outcome}
use Rattle.cx_eval_cycle.specs.declared.looking.CellStop.{CellStop}
use Rattle.cx_eval_cycle.specs.Stops.{stop_in}
use Rattle.cx_eval_cycle.specs.Passes.{kind_at, cell_held, stop_of_kind, fault_of, listed_in, IsAscending, AreStepped}
use Rattle.cx_text.proofs.NumberLaws.{apart_numbers, from_eq, apart_above, same_numbers}

-- NUMBERS
-- numbers from one on, each greater than the one before
abbrev pub Above : ℕ → List ℕ → Type 0
Above k [] = Unit {0}
Above k (y ∷ ys) = (k ≤ y) × Above (suc y) ys

pub above_of : (xs : List ℕ) (k : ℕ) → ((m : ℕ) → slice_get xs 0 ≡ Some m → k ≤ m) → IsAscending xs → Above k xs
above_of [] k first ascending = tt
above_of (y ∷ ys) k first ascending = (first y refl, above_of ys (suc y) (λ m e. ascending 0 y m refl e) (λ i m n e f. ascending (suc i) m n e f))

pub or_false : (a b : Bool) → a ≡ false → (a || b) ≡ b
or_false true b e = absurd (cc)
or_false false b e = refl

pub not_listed : (xs : List ℕ) (k c : ℕ) → c < k → Above k xs → listed_in xs c ≡ false
not_listed [] k c lt a = refl
not_listed (y ∷ ys) k c lt a =
    let h : k ≤ y = a.0 in
    or_false (nat_eq y c) (listed_in ys c) (apart_above y c (omega arith)) ∙ not_listed ys (suc y) c (omega arith) a.1

module _ (after : ℕ → Option CellState → Option CellState) where
  -- a cell that is set to what it holds after its step
  pub stepped_set : (cell : ℕ) (old : List (Option CellState)) (x : Option CellState) → cell < length old → x ≡ after cell (cell_held old cell) → AreStepped (nat_eq cell) after old (set old cell x)
  stepped_set cell old x within is c = by (nat_eq cell c) refl
    where
      by : (t : Bool) → nat_eq cell c ≡ t → cell_held (set old cell x) c ≡ (if t then after c (cell_held old c) else cell_held old c)
      by true e =
          let at : cell ≡ c = from_eq cell c e in
          ap (cell_held (set old cell x)) (sym at) ∙ get_or-set_same old cell x None within ∙ is ∙ ap (λ n. after n (cell_held old n)) at
      by false e = get_or-set_other old cell c x None (λ at. absurd (let wrong : true ≡ false = sym (same_test cell c (sym at)) ∙ e in cc))
        where
          same_test : (a b : ℕ) → a ≡ b → nat_eq a b ≡ true
          same_test a b e = grind (arith, nat_tests)

  -- one more cell makes its step, by what it held at first
  pub stepped_more : (some more : Set) (cell : ℕ) (old mid new : List (Option CellState)) → some cell ≡ false → ((c : ℕ) → more c ≡ (nat_eq cell c || some c))
      → AreStepped some after old mid → AreStepped (nat_eq cell) after mid new → AreStepped more after old new
  stepped_more some more cell old mid new apart joined before now c =
      now c ∙ by (nat_eq cell c) refl ∙ ap (λ t. if t then after c (cell_held old c) else cell_held old c) (sym (joined c))
    where
      same_held : cell ≡ c → cell_held mid c ≡ cell_held old c
      same_held at = before c ∙ ap (λ t. if t then after c (cell_held old c) else cell_held old c) (ap some (sym at) ∙ apart)

      by : (t : Bool) → nat_eq cell c ≡ t → (if t then after c (cell_held mid c) else cell_held mid c) ≡ (if t || some c then after c (cell_held old c) else cell_held old c)
      by true e = ap (after c) (same_held (from_eq cell c e))
      by false e = before c

  -- a cell that has not made its step holds what it held
  pub not_stepped : (some : Set) (old new : List (Option CellState)) → AreStepped some after old new → (c : ℕ) → some c ≡ false → cell_held new c ≡ cell_held old c
  not_stepped some old new steps c off = steps c ∙ ap (λ t. if t then after c (cell_held old c) else cell_held old c) off

-- the fault of a primitive
module _ (look : Look) (cells : List PlainCell) where
  pub fault_is : (cell : ℕ) (p : PrimitiveRow) (held : List (Option CellState)) (d : CellState) (o : Option CellStop) → kind_at cells cell ≡ Some (OfPrimitive p) → cell_held held cell ≡ Some d → o ≡ stop_in (cell_outcome look cell (row_of p) d)
      → option_map (λ (stop : CellStop). record { cell = cell; stop = stop }) o ≡ fault_of look cells held cell
  fault_is cell p held d o e f is =
      ap (option_map (λ (stop : CellStop). record { cell = cell; stop = stop })) (is ∙ sym (ap (λ k. stop_of_kind look cell k (cell_held held cell)) e ∙ ap (stop_of_kind look cell (Some (OfPrimitive p))) f))

-- what an index tells
pub held_is : (held : List (Option CellState)) (n : ℕ) (x : Option CellState) → n < length held → cell_held held n ≡ get_or held n x
held_is [] n x lt = absurd (omega arith)
held_is (h ∷ held) zero x lt = refl
held_is (h ∷ held) (suc n) x lt = held_is held n x (let k : suc n < suc (length held) = lt in omega arith)

-- LISTED CELLS
swap : (a b c : Bool) → (a || (b || c)) ≡ (b || (a || c))
swap true true c = refl
swap true false c = refl
swap false b c = refl

pub listed_more : (xs : List ℕ) (k c : ℕ) → k < length xs → listed_in (take (k + 1) xs) c ≡ (nat_eq (get_or xs k 0) c || listed_in (take k xs) c)
listed_more xs k c lt = (let e : k + 1 ≡ suc k = omega arith in ap (λ n. listed_in (take n xs) c) e) ∙ by xs k lt
  where
    by : (ys : List ℕ) (n : ℕ) → n < length ys → listed_in (take (suc n) ys) c ≡ (nat_eq (get_or ys n 0) c || listed_in (take n ys) c)
    by [] n lt = absurd (omega arith)
    by (y ∷ ys) zero lt = refl
    by (y ∷ ys) (suc n) lt =
        ap (λ t. nat_eq y c || t) (by ys n (let h : suc n < suc (length ys) = lt in omega arith)) ∙ swap (nat_eq y c) (nat_eq (get_or ys n 0) c) (listed_in (take n ys) c)

not_before : (xs : List ℕ) (j k : ℕ) → Above j xs → k < length xs → (j ≤ get_or xs k 0) × (listed_in (take k xs) (get_or xs k 0) ≡ false)
not_before [] j k a lt = absurd (omega arith)
not_before (y ∷ ys) j zero a lt = (a.0, refl)
not_before (y ∷ ys) j (suc k) a lt =
    let r = not_before ys (suc y) k a.1 (let h : suc k < suc (length ys) = lt in omega arith) in
    let le : j ≤ y = a.0 in
    let more : suc y ≤ get_or ys k 0 = r.0 in
    (omega arith, or_false (nat_eq y (get_or ys k 0)) (listed_in (take k ys) (get_or ys k 0)) (apart_numbers y (get_or ys k 0) (omega arith)) ∙ r.1)

pub not_yet : (xs : List ℕ) (k : ℕ) → IsAscending xs → k < length xs → listed_in (take k xs) (get_or xs k 0) ≡ false
not_yet xs k ascending lt = (not_before xs 0 k (above_of xs 0 (λ m e. omega arith) ascending) lt).1

pub is_listed : (xs : List ℕ) (k : ℕ) → k < length xs → listed_in xs (get_or xs k 0) ≡ true
is_listed [] k lt = absurd (omega arith)
is_listed (y ∷ ys) zero lt = or_left (nat_eq y y) (listed_in ys y) (same_numbers y y refl)
is_listed (y ∷ ys) (suc k) lt = or_last (nat_eq y (get_or ys k 0)) (listed_in ys (get_or ys k 0)) (is_listed ys k (let h : suc k < suc (length ys) = lt in omega arith))
  where
    or_last : (a b : Bool) → b ≡ true → (a || b) ≡ true
    or_last true b e = refl
    or_last false b e = e

pub all_listed : (xs : List ℕ) (n c : ℕ) → length xs ≤ n → listed_in (take n xs) c ≡ listed_in xs c
all_listed [] zero c le = refl
all_listed [] (suc n) c le = refl
all_listed (x ∷ xs) zero c le = absurd (omega (arith, le))
all_listed (x ∷ xs) (suc n) c le = ap (λ t. nat_eq x c || t) (all_listed xs n c (omega (arith, le)))
