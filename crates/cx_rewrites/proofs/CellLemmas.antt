-- CYCLES CARRY, by what their cells come to.
use Rattle.std.proofs.Common.{◌≡◌, ℕ, zero, suc, ◌+◌, ◌<◌, Option, Some, None, [], ◌∷◌, refl, sym, ap, ◌∙◌, subst, arith}
use Rattle.std.proofs.Math.Path.{fun_ext}
use Rattle.cx_prim.specs.CellStates.{CellState}
use Rattle.cx_meaning.specs.Instances.{Instance, cell_count, cells_of, State}
use Rattle.cx_meaning.specs.Sights.{Held, gather, seen}
use Rattle.cx_meaning.specs.Active.{Active}
use Rattle.cx_meaning.specs.Cycles.{Fault, Outcome, Next, Stops, enables, after_enabling, cell_outcome, first_of, first_fault, stepped, Ended, Goes, Faults, unless_fault, cycle, every_cell}
use Rattle.cx_meaning.specs.Answers as answers
use Rattle.cx_meaning.specs.Islands.{turn_of}
use Rattle.cx_meaning.proofs.CycleLemmas.{each_steps, outcome_listed, row_within}
use Rattle.cx_rewrites.specs.Tallies.{Tally, plus}
use Rattle.cx_rewrites.specs.Carrying.{Pace, IfExact, TurnCarried}
use Rattle.cx_rewrites.specs.Turns.{CycleCarries}
use Rattle.cx_rewrites.specs.Cells.{comes_to, left_by, CellAlike, CellGoes, as_cell, by_itself, OutcomeFollows, OutcomesFollow, no_more, both, new_one}
use Rattle.cx_rewrites.proofs.PaceLemmas.{if_exact, then_exact}

-- no cell stops
first_fault-None : (outcome : ℕ → Outcome) (c n : ℕ) → ((k : ℕ) → k < n → (d : CellState) × (outcome (c + k) ≡ Next d)) → first_fault outcome c n ≡ None
first_fault-None outcome c zero h = refl
first_fault-None outcome c (suc n) h =
    let some : 0 < suc n = omega arith in
    let first : c ≡ c + 0 = omega arith in
    let here : (d : CellState) × (outcome (c + 0) ≡ Next d) = h 0 some in
    ap (λ o. first_of c o (first_fault outcome (suc c) n)) (ap outcome first ∙ here.1)
    ∙ first_fault-None outcome (suc c) n
    (λ k lt. let next : suc c + k ≡ c + suc k = omega arith in let r : (d : CellState) × (outcome (c + suc k) ≡ Next d) = h (suc k) (omega (arith, lt)) in (r.0, ap outcome next ∙ r.1))

module _ (i j : Instance) (held twin_held : Held) (act more : Active) (s z : State) where
  -- a cell and one that is alike come to the same
  pub same_outcome : (c e : ℕ) → CellAlike i j held twin_held act more s z c e → comes_to i held act s c ≡ comes_to j twin_held more z e
  same_outcome c e alike =
      outcome_listed every_cell (seen i held act s) (cells_of i) s c alike.row refl alike.here
      ∙ ap (λ look. after_enabling look alike.row (s (c ∷ [])) (gather look (enables alike.row) 0 alike.row.ports)) (fun_ext (λ p. sym (alike.ports p)))
      ∙ ap (cell_outcome (seen j twin_held more z) e alike.row) (sym alike.state)
      ∙ sym (outcome_listed every_cell (seen j twin_held more z) (cells_of j) z e alike.row refl alike.there)

  goes_there : (after : State) → cycle i held act s ≡ Goes after → (e : ℕ) → CellGoes i j held twin_held act more s z e → (d : CellState) × (comes_to j twin_held more z e ≡ Next d)
  goes_there after goes e (as_cell c alike) =
      (after (c ∷ []), sym (same_outcome c e alike) ∙ each_steps (comes_to i held act s) (cell_count (cells_of i)) s after goes c (row_within (cells_of i) c alike.row alike.here))
  goes_there after goes e (by_itself d is) = (d, is)

  -- WHERE EACH CELL GOES ON, the cycle does
  pub cycle_goes_on : ((e : ℕ) → e < cell_count (cells_of j) → CellGoes i j held twin_held act more s z e) → (after : State) → cycle i held act s ≡ Goes after
      → cycle j twin_held more z ≡ Goes (left_by j twin_held more z)
  cycle_goes_on each after goes =
      ap (λ f. unless_fault f (left_by j twin_held more z))
      (first_fault-None (comes_to j twin_held more z) 0 (cell_count (cells_of j))
      (λ k lt. let first : 0 + k ≡ k = omega arith in let r : (d : CellState) × (comes_to j twin_held more z k ≡ Next d) = goes_there after goes k (each k lt) in (r.0, ap (comes_to j twin_held more z) first ∙ r.1)))

  -- and a cell that is alike is left alike
  pub cell_left : (c e : ℕ) → CellAlike i j held twin_held act more s z c e → (after : State) → cycle i held act s ≡ Goes after → left_by j twin_held more z (e ∷ []) ≡ after (c ∷ [])
  cell_left c e alike after goes =
      ap (stepped (z (e ∷ []))) (sym (same_outcome c e alike) ∙ each_steps (comes_to i held act s) (cell_count (cells_of i)) s after goes c (row_within (cells_of i) c alike.row alike.here))

-- WHERE THE CELLS FOLLOW IN THEIR ORDER, so does the first fault
module _ (faults : Fault → Fault) (x y : ℕ → Outcome) where
  abbrev faulted : Option Fault → Option Fault
  faulted None = None
  faulted (Some f) = Some (faults f)

  first_of_followed : (c e : ℕ) (o w : Outcome) (later more : Option Fault) → OutcomeFollows faults c o e w → more ≡ faulted later → first_of e w more ≡ faulted (first_of c o later)
  first_of_followed c e (Next d) w later more (after, is) same = ap (λ v. first_of e v more) is ∙ same
  first_of_followed c e (Stops kind p) w later more (q, is, told) same = ap (λ v. first_of e v more) is ∙ ap Some (sym told)

  pub first_fault_followed : {c n e m : ℕ} → OutcomesFollow faults x y c n e m → first_fault y e m ≡ faulted (first_fault x c n)
  first_fault_followed no_more = refl
  first_fault_followed (both {c = c} {n = n} {e = e} {m = m} here rest) = first_of_followed c e (x c) (y e) (first_fault x (suc c) n) (first_fault y (suc e) m) here (first_fault_followed rest)
  first_fault_followed (new_one {c = c} {n = n} {e = e} {m = m} after is rest) = ap (λ o. first_of e o (first_fault y (suc e) m)) is ∙ first_fault_followed rest

module _ (pace : Pace) (R : Tally → State → State → Type 0) (faults : Fault → Fault) (one : Tally) (i j : Instance) (held twin_held : Held) (act more : Active) where
  -- A CYCLE CARRIES at a pace that promises nothing of faults, where each cell goes on and what is left is related
  pub cycle_carries : IfExact pace ⊥
      → ((before : Tally) (s z : State) → R before s z → (e : ℕ) → e < cell_count (cells_of j) → CellGoes i j held twin_held act more s z e)
      → ((before : Tally) (s z after : State) → R before s z → cycle i held act s ≡ Goes after → R (plus before one) after (left_by j twin_held more z))
      → CycleCarries pace R faults one i j held twin_held act more
  cycle_carries loose each leaves before s z r = by (cycle i held act s) refl
    where
      by : (x : Ended) → cycle i held act s ≡ x → TurnCarried pace R faults before one (turn_of x) (turn_of (cycle j twin_held more z))
      by (Goes after) is =
          (left_by j twin_held more z, ap turn_of (cycle_goes_on i j held twin_held act more s z (each before s z r) after is), leaves before s z after r is)
      by (Faults f) is = then_exact pace ⊥ (turn_of (cycle j twin_held more z) ≡ answers.Faults (faults f)) (λ none. absurd none) loose

  -- A CYCLE CARRIES at every pace, where the cells follow in their order and what is left is related
  pub cycle_follows : ((before : Tally) (s z : State) → R before s z → OutcomesFollow faults (comes_to i held act s) (comes_to j twin_held more z) 0 (cell_count (cells_of i)) 0 (cell_count (cells_of j)))
      → ((before : Tally) (s z after : State) → R before s z → cycle i held act s ≡ Goes after → R (plus before one) after (left_by j twin_held more z))
      → CycleCarries pace R faults one i j held twin_held act more
  cycle_follows follow leaves before s z r = by (first_fault (comes_to i held act s) 0 (cell_count (cells_of i))) refl
    where
      there : (x : Option Fault) → first_fault (comes_to i held act s) 0 (cell_count (cells_of i)) ≡ x
          → cycle j twin_held more z ≡ unless_fault (faulted faults (comes_to i held act s) (comes_to j twin_held more z) x) (left_by j twin_held more z)
      there x is =
          ap (λ f. unless_fault f (left_by j twin_held more z))
          (first_fault_followed faults (comes_to i held act s) (comes_to j twin_held more z) (follow before s z r)
          ∙ ap (faulted faults (comes_to i held act s) (comes_to j twin_held more z)) is)

      here : (x : Option Fault) → first_fault (comes_to i held act s) 0 (cell_count (cells_of i)) ≡ x
          → cycle i held act s ≡ unless_fault x (left_by i held act s)
      here x is = ap (λ f. unless_fault f (left_by i held act s)) is

      by : (x : Option Fault) → first_fault (comes_to i held act s) 0 (cell_count (cells_of i)) ≡ x
          → TurnCarried pace R faults before one (turn_of (cycle i held act s)) (turn_of (cycle j twin_held more z))
      by None is =
          subst (λ e. TurnCarried pace R faults before one (turn_of e) (turn_of (cycle j twin_held more z))) (sym (here None is))
          (left_by j twin_held more z, ap turn_of (there None is), leaves before s z (left_by i held act s) r (here None is))
      by (Some f) is =
          subst (λ e. TurnCarried pace R faults before one (turn_of e) (turn_of (cycle j twin_held more z))) (sym (here (Some f) is))
          (if_exact pace (turn_of (cycle j twin_held more z) ≡ answers.Faults (faults f)) (ap turn_of (there (Some f) is)))
