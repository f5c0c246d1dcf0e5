-- The faults of cells, one by one, with what is gathered for those that have none.
use Rattle.std.proofs.Common.{◌≡◌, ◌≢◌, ℕ, suc, Bool, true, false, ◌||◌, nat_eq, List, take, length, Option, Some, None, option_map, get_or, drop, drop-cons, ◌+◌, ◌<◌, ◌⊎◌, inl, inr, ⊎_elim, refl, sym, ap, ◌∙◌, subst, arith}
use Rattle.std.proofs.lemmas.Bool.{cases_eq, eqb-true}
use Rattle.cx_prim.specs.CellStates.{CellState}
use Rattle.cx_meaning.specs.Designs.{PlainKind, OfPrimitive, OfComponent, PlainCell}
use Rattle.cx_meaning.specs.Sights.{Look}
use Rattle.cx_eval_cycle.specs.declared.looking.CellStop.{CellStop}
use Rattle.cx_eval_cycle.specs.declared.passes.CellFault.{CellFault}
use Rattle.cx_eval_cycle.specs.declared.rooms.CellRoom.{CellRoom}
use Rattle.cx_eval_cycle.specs.declared.stepping.SteppingCell.{SteppingCell}
use Rattle.cx_eval_cycle.specs.Passes.{cell_held, fault_of, first_among, first_some, kind_at, listed_in, stop_of_kind}
use Rattle.cx_eval_cycle.specs.Rooms.{inputs_at}
use Rattle.cx_eval_cycle.specs.Stepping.{AreStepping, IsKeptOf, kept_at}
use Rattle.cx_eval_cycle.specs.Steps.{IsGatheredAt}
use Rattle.cx_eval_cycle.specs.Stops.{stop_in}
use Rattle.cx_eval_cycle.proofs.InertLemmas.{outcome_same}
use Rattle.cx_eval_cycle.proofs.PassLemmas.{listed_more}
use Rattle.cx_eval_cycle.proofs.StepLemmas.{gathered_still}

module _ (look : Look) (cells : List PlainCell) (held : List (Option CellState)) (c : ℕ) where
  idle_stop : (kind : Option PlainKind) (h : Option CellState) → IsKeptOf kind None → stop_of_kind look c kind h ≡ None
  idle_stop (Some (OfPrimitive p)) None is = refl
  idle_stop (Some (OfPrimitive p)) (Some d) is = ap stop_in (outcome_same p is look c d)
  idle_stop (Some (OfComponent k)) h is = refl
  idle_stop None h is = refl

  empty_stop : (kind : Option PlainKind) → stop_of_kind look c kind None ≡ None
  empty_stop (Some (OfPrimitive p)) = refl
  empty_stop (Some (OfComponent k)) = refl
  empty_stop None = refl

  no_fault : stop_of_kind look c (kind_at cells c) (cell_held held c) ≡ None → None ≡ fault_of look cells held c
  no_fault e = sym (ap (option_map (λ (stop : CellStop). record { cell = c; stop = stop })) e)

  -- a cell that cannot step has no fault, nor has one that holds nothing
  pub idle_faults : (kept : List (Option SteppingCell)) → AreStepping cells kept → kept_at kept c ≡ None → None ≡ fault_of look cells held c
  idle_faults kept are none = no_fault (idle_stop (kind_at cells c) (cell_held held c) (subst (IsKeptOf (kind_at cells c)) none (are.each c)))

  pub empty_faults : cell_held held c ≡ None → None ≡ fault_of look cells held c
  empty_faults none = no_fault (ap (stop_of_kind look c (kind_at cells c)) none ∙ empty_stop (kind_at cells c))

  -- and nothing is gathered for it
  pub idle_gathered : (kept : List (Option SteppingCell)) (rooms : List CellRoom) → kept_at kept c ≡ None → IsGatheredAt look kept held rooms c
  idle_gathered kept rooms none stepping d e f = absurd (let wrong : Some stepping ≡ None = sym e ∙ none in cc)

  pub empty_gathered : (kept : List (Option SteppingCell)) (rooms : List CellRoom) → cell_held held c ≡ None → IsGatheredAt look kept held rooms c
  empty_gathered kept rooms none stepping d e f = absurd (let wrong : Some d ≡ None = sym f ∙ none in cc)

-- LISTED CELLS
listed_either : (y c : ℕ) (before : Bool) → (nat_eq y c || before) ≡ true → (y ≡ c) ⊎ (before ≡ true)
listed_either y c before e = choice (nat_eq y c) refl e
  where
    choice : (b : Bool) → nat_eq y c ≡ b → (b || before) ≡ true → (y ≡ c) ⊎ (before ≡ true)
    choice true f g = inl (eqb-true y c f)
    choice false f g = inr g

module _ (look : Look) (kept : List (Option SteppingCell)) (held : List (Option CellState)) (old new : List CellRoom) (xs : List ℕ) (k : ℕ) where
  pub listed_gathered : k < length xs → ((c : ℕ) → listed_in (take k xs) c ≡ true → IsGatheredAt look kept held old c) → IsGatheredAt look kept held new (get_or xs k 0)
      → ((c : ℕ) → c ≢ get_or xs k 0 → inputs_at new c ≡ inputs_at old c) → (c : ℕ) → listed_in (take (k + 1) xs) c ≡ true → IsGatheredAt look kept held new c
  listed_gathered lt before here others c on =
      ⊎_elim (λ (e : c ≡ get_or xs k 0). subst (IsGatheredAt look kept held new) (sym e) here) (λ differs. earlier differs (listed_either (get_or xs k 0) c (listed_in (take k xs) c) (sym (listed_more xs k c lt) ∙ on)))
      (cases_eq c (get_or xs k 0))
    where
      earlier : c ≢ get_or xs k 0 → (get_or xs k 0 ≡ c) ⊎ (listed_in (take k xs) c ≡ true) → IsGatheredAt look kept held new c
      earlier differs (inl e) = absurd (differs (sym e))
      earlier differs (inr b) = gathered_still look kept held old new c (others c differs) (before c b)

pub among_next : (fault : ℕ → Option CellFault) (xs : List ℕ) (k : ℕ) → k < length xs → fault (get_or xs k 0) ≡ None → first_among fault (drop k xs) ≡ first_among fault xs → first_among fault (drop (k + 1) xs) ≡ first_among fault xs
among_next fault xs k lt none far =
    let e : k + 1 ≡ suc k = omega arith in
    ap (λ n. first_among fault (drop n xs)) e
    ∙ sym (ap (λ f. first_some f (first_among fault (drop (suc k) xs))) none)
    ∙ sym (ap (first_among fault) (drop-cons xs k 0 lt))
    ∙ far
