-- Idle edges of all cells, one after the other.
use Rattle.std.proofs.Common.{◌≡◌, ℕ, zero, suc, ◌+◌, ◌<◌, ◌≤◌, Bool, true, false, ◌||◌, nat_eq, List, [], ◌∷◌, length, get_or, set, Option, Some, None, ⊎_elim, refl, sym, ap, ◌∙◌, subst, arith, if◌then◌else◌}
use Rattle.std.proofs.lemmas.Bool.{eq-eqb, cases_lt, or_from}
use Rattle.std.proofs.Math.Bool.{or_comm}
use Rattle.cx_prim.specs.CellStates.{CellState}
use Rattle.cx_meaning.specs.Designs.{PlainCell}
use Rattle.cx_meaning.specs.Instances.{Set}
use Rattle.cx_meaning.specs.Cycles.{every_cell}
use Rattle.cx_eval_cycle.specs.Passes.{listed_in}
use Rattle.cx_state.specs.States.{HoldsKind, HoldCells}
use Rattle.cx_turns.specs.Rests.{kind_rested, rested_cells}
use Rattle.cx_turns.proofs.RestLemmas.{one_rested, set_holds}
use Rattle.cx_text.proofs.NumberLaws.{other}
use Rattle.cx_state.proofs.StatesLemmas.{held_long}
use Rattle.cx_text.proofs.ListLaws.{get_same}

-- the first k numbers
abbrev pub first_numbers : ℕ → List ℕ
first_numbers zero = []
first_numbers (suc k) = k ∷ first_numbers k

either_true : (b c : Bool) → (b ≡ false → c ≡ true) → (b || c) ≡ true
either_true true c f = refl
either_true false c f = f refl

unequal : (k c : ℕ) → nat_eq k c ≡ false → k ≡ c → ⊥
unequal k c f same = let g : true ≡ false = sym (eq-eqb k c same) ∙ f in cc

later : (k c : ℕ) → k ≤ c → listed_in (first_numbers k) c ≡ false
later zero c le = refl
later (suc k) c le = or_from (nat_eq k c) (listed_in (first_numbers k) c) (other k c (λ same. omega (arith, same, le))) (later k c (omega (arith, le)))

behind : (k c : ℕ) → c < suc k → (k ≡ c → ⊥) → c < k
behind k c lt ne = ⊎_elim (λ (l : c < k). l) (λ (r : k ≤ c). absurd (ne (omega (arith, lt, r)))) (cases_lt c k)

earlier : (k c : ℕ) → c < k → listed_in (first_numbers k) c ≡ true
earlier zero c lt = absurd (omega (arith, lt))
earlier (suc k) c lt = either_true (nat_eq k c) (listed_in (first_numbers k) c) (λ e. earlier k c (behind k c lt (unequal k c e)))

same_within : (one other : Set) (xs : List PlainCell) (hs : List (Option CellState)) → ((c : ℕ) → c < length xs → one c ≡ other c) → rested_cells one xs hs ≡ rested_cells other xs hs
same_within one other [] hs e = refl
same_within one other (x ∷ xs) [] e = refl
same_within one other (x ∷ xs) (h ∷ hs) e =
    ap (λ b. (if b then kind_rested x.kind h else h) ∷ rested_cells (λ c. one (suc c)) xs hs) (e 0 (omega arith))
    ∙ ap (λ ys. (if other 0 then kind_rested x.kind h else h) ∷ ys) (same_within (λ c. one (suc c)) (λ c. other (suc c)) xs hs (λ c lt. e (suc c) (omega (arith, lt))))

-- the first k cells are all of so many
pub all_first : (k : ℕ) (xs : List PlainCell) (hs : List (Option CellState)) → length xs ≤ k → rested_cells (listed_in (first_numbers k)) xs hs ≡ rested_cells every_cell xs hs
all_first k xs hs le = same_within (listed_in (first_numbers k)) every_cell xs hs (λ c lt. earlier k c (omega (arith, lt, le)))

-- ONE MORE
pub next_rested : (xs : List PlainCell) (initial held : List (Option CellState)) (k : ℕ) (d : PlainCell) (old new : Option CellState) → k < length xs → length initial ≡ length xs → held ≡ rested_cells (listed_in (first_numbers k)) xs initial → HoldCells xs held
    → old ≡ get_or held k old → new ≡ kind_rested (get_or xs k d).kind old → HoldsKind (get_or xs k d).kind new
    → (set held k new ≡ rested_cells (listed_in (first_numbers (k + 1))) xs initial) × HoldCells xs (set held k new)
next_rested xs initial held k d old new lt count so_far holds is value fits =
    let next : suc k ≡ k + 1 = omega arith in
    let inside : k < length held = subst (λ m. k < m) (sym (held_long xs held holds)) lt in
    let here : new ≡ kind_rested (get_or xs k d).kind (get_or held k None) = value ∙ ap (kind_rested (get_or xs k d).kind) (is ∙ get_same held k old None inside) in
    let one : set held k new ≡ rested_cells (listed_in (first_numbers (suc k))) xs initial =
    ap (set held k) here ∙ ap (λ (hs : List (Option CellState)). set hs k (kind_rested (get_or xs k d).kind (get_or hs k None))) so_far
    ∙ sym (one_rested (listed_in (first_numbers k)) (listed_in (first_numbers (suc k))) xs initial k d (λ e. or_comm (nat_eq k e) (listed_in (first_numbers k) e)) (later k k (omega arith)) lt count) in
    (subst (λ j. set held k new ≡ rested_cells (listed_in (first_numbers j)) xs initial) next one, set_holds xs held k d new holds fits)
