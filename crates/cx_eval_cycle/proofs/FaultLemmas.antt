-- The first fault and the next state of an instance, told by passes over its cells.
use Rattle.std.proofs.Common.{◌≡◌, ℕ, zero, suc, ◌+◌, ◌≤◌, inl, inr, ◌⊎◌, Bool, true, false, List, [], ◌∷◌, length, Option, Some, None, option_map, Ok, Err, if◌then◌else◌, refl, sym, ap, ◌∙◌, subst, arith}
use Rattle.std.specs.Prelude.{nat_eq}
use Rattle.std.proofs.lemmas.Bool.{cases_eq, or_left}
use Rattle.cx_prim.specs.CellStates.{CellState}
use Rattle.cx_prim.specs.Table.{PrimitiveRow, row_of}
use Rattle.cx_meaning.specs.Designs.{PlainKind, OfPrimitive, OfComponent, PlainCell}
use Rattle.cx_meaning.specs.Instances.{Instance, Cells, At, Nothing, OfRow, OfInstance, cell_at, cell_count, add_cell, cells_for, Set, State}
use Rattle.cx_meaning.specs.Sights.{Look}
use Rattle.cx_meaning.specs.Cycles.{Fault, unless_fault, Outcome, Next, Stops, cell_outcome, outcome_at, outcome_of, first_of, first_fault, stepped, state_after}
use Rattle.cx_meaning.proofs.CycleLemmas.{count_for}
use Rattle.cx_eval_cycle.specs.declared.looking.CellStop.{CellStop}
use Rattle.cx_eval_cycle.specs.declared.passes.CellFault.{CellFault}
use Rattle.cx_eval_cycle.specs.Stops.{stop_in}
use Rattle.cx_eval_cycle.specs.Passes.{kind_at, cell_held, stop_of_kind, after_kind, after_of, fault_of, first_some, first_among, listed_in, IsAscending, AreStepped, HeldAt, told_fault, EndsSo}
use Rattle.cx_eval_cycle.proofs.PassLemmas.{Above, above_of, or_false, not_listed}
use Rattle.cx_meaning.proofs.InstancesLemmas.{kind_skip}
use Rattle.cx_eval_cycle.proofs.PassesLemmas.{no_kind}
use Rattle.cx_text.proofs.NumberLaws.{apart_numbers, same_numbers}

join : Option Fault → Option Fault → Option Fault
join None later = later
join (Some fault) later = Some fault

tell_first : (f g : Option CellFault) → option_map told_fault (first_some f g) ≡ join (option_map told_fault f) (option_map told_fault g)
unfolding join
tell_first None g = refl
tell_first (Some fault) g = refl

first_joins : (c : ℕ) (o : Outcome) (later : Option Fault) → join (first_of c o None) later ≡ first_of c o later
unfolding join
first_joins c (Next after) later = refl
first_joins c (Stops kind p) later = refl

tell_stop : (c : ℕ) (o : Outcome) → option_map told_fault (option_map (λ (stop : CellStop). record { cell = c; stop = stop }) (stop_in o)) ≡ first_of c o None
tell_stop c (Next after) = refl
tell_stop c (Stops kind p) = refl

-- the first fault of so many cells from one on
abbrev first_from : (ℕ → Option CellFault) → ℕ → ℕ → Option CellFault
first_from fault c zero = None
first_from fault c (suc n) = first_some (fault c) (first_from fault (suc c) n)

-- WHAT STANDS at a cell, by its kind
abbrev pub at_of : (ℕ → Instance) → Option PlainKind → At
at_of child None = Nothing
at_of child (Some (OfPrimitive p)) = OfRow (row_of p)
at_of child (Some (OfComponent k)) = OfInstance (child k)

first_at : (child : ℕ → Instance) (kind : PlainKind) (rest : Cells) → cell_at (add_cell child kind rest) zero ≡ at_of child (Some kind)
first_at child (OfPrimitive p) rest = refl
first_at child (OfComponent k) rest = refl

pub at_kind : (child : ℕ → Instance) (cells : List PlainCell) (c : ℕ) → cell_at (cells_for child cells) c ≡ at_of child (kind_at cells c)
at_kind child [] c = refl
at_kind child (cell ∷ cells) zero = first_at child cell.kind (cells_for child cells)
at_kind child (cell ∷ cells) (suc c) = kind_skip child cell.kind (cells_for child cells) c ∙ at_kind child cells c

-- THE FIRST FAULT of so many cells is told where the fault of each is
first_told : (fault : ℕ → Option CellFault) (outcome : ℕ → Outcome) → ((c : ℕ) → option_map told_fault (fault c) ≡ first_of c (outcome c) None) → (c n : ℕ) → option_map told_fault (first_from fault c n) ≡ first_fault outcome c n
first_told fault outcome tells c zero = refl
first_told fault outcome tells c (suc n) =
    tell_first (fault c) (first_from fault (suc c) n)
    ∙ ap (λ f. join f (option_map told_fault (first_from fault (suc c) n))) (tells c)
    ∙ ap (join (first_of c (outcome c) None)) (first_told fault outcome tells (suc c) n)
    ∙ first_joins c (outcome c) (first_fault outcome (suc c) n)

-- the first of listed cells is the first of all, where the others have none
module _ (fault : ℕ → Option CellFault) where
  only_in : List ℕ → ℕ → Option CellFault
  only_in xs c = if listed_in xs c then fault c else None

  from_alike : (f g : ℕ → Option CellFault) (k n : ℕ) → ((c : ℕ) → k ≤ c → f c ≡ g c) → first_from f k n ≡ first_from g k n
  from_alike f g k zero h = refl
  from_alike f g k (suc n) h =
      ap (λ x. first_some x (first_from f (suc k) n)) (h k (omega arith)) ∙ ap (first_some (g k)) (from_alike f g (suc k) n (λ c le. h c (omega (arith, le))))

  none_among : (xs : List ℕ) (k : ℕ) → Above k xs → ((c : ℕ) → k ≤ c → fault c ≡ None) → first_among fault xs ≡ None
  none_among [] k a none = refl
  none_among (y ∷ ys) k a none =
      let le : k ≤ y = a.0 in
      ap (λ x. first_some x (first_among fault ys)) (none y le) ∙ none_among ys (suc y) a.1 (λ c lt. none c (omega (arith, le, lt)))

  among_is : (xs : List ℕ) (k n : ℕ) → Above k xs → ((c : ℕ) → k + n ≤ c → fault c ≡ None) → first_among fault xs ≡ first_from (only_in xs) k n
  unfolding only_in
  among_is xs k zero a none = none_among xs k a (λ c le. none c (omega (arith, le)))
  among_is [] k (suc n) a none = among_is [] (suc k) n tt (λ c le. none c (omega (arith, le)))
  among_is (y ∷ ys) k (suc n) a none = by (cases_eq y k) (λ zs above. among_is zs (suc k) n above (λ c le. none c (omega (arith, le))))
    where
      by : (y ≡ k) ⊎ (y ≡ k → ⊥) → ((zs : List ℕ) → Above (suc k) zs → first_among fault zs ≡ first_from (only_in zs) (suc k) n) → first_among fault (y ∷ ys) ≡ first_from (only_in (y ∷ ys)) k (suc n)
      by (inl e) deeper =
          let here : only_in (y ∷ ys) k ≡ fault k = ap (λ b. if b then fault k else None) (or_left (nat_eq y k) (listed_in ys k) (same_numbers y k e)) in
          let alike = from_alike (only_in ys) (only_in (y ∷ ys)) (suc k) n
          (λ c le. ap (λ b. if b then fault c else None) (sym (or_false (nat_eq y c) (listed_in ys c) (apart_numbers y c (omega (arith, e, le)))))) in
          ap (λ c. first_some (fault c) (first_among fault ys)) e
          ∙ ap (first_some (fault k)) (deeper ys (subst (λ m. Above (suc m) ys) e a.1) ∙ alike)
          ∙ ap (λ x. first_some x (first_from (only_in (y ∷ ys)) (suc k) n)) (sym here)
      by (inr differ) deeper =
          let le : k ≤ y = a.0 in
          let lt : suc k ≤ y = omega arith in
          let here : only_in (y ∷ ys) k ≡ None = ap (λ b. if b then fault k else None) (not_listed (y ∷ ys) (suc k) k (omega arith) (lt, a.1)) in
          deeper (y ∷ ys) (lt, a.1) ∙ ap (λ x. first_some x (first_from (only_in (y ∷ ys)) (suc k) n)) (sym here)

-- the faults of cells that hold what the state says
kind_tells : (look : Look) (s : State) (child : ℕ → Instance) (c : ℕ) (kind : Option PlainKind) (h : Option CellState) → ((p : PrimitiveRow) → kind ≡ Some (OfPrimitive p) → h ≡ Some (s (c ∷ [])))
    → option_map told_fault (option_map (λ (stop : CellStop). record { cell = c; stop = stop }) (stop_of_kind look c kind h)) ≡ first_of c (outcome_at look c (at_of child kind) (s (c ∷ []))) None
kind_tells look s child c None h holds = refl
kind_tells look s child c (Some (OfPrimitive p)) h holds =
    ap (λ (o : Option CellState). option_map told_fault (option_map (λ (stop : CellStop). record { cell = c; stop = stop }) (stop_of_kind look c (Some (OfPrimitive p)) o))) (holds p refl)
    ∙ tell_stop c (cell_outcome look c (row_of p) (s (c ∷ [])))
kind_tells look s child c (Some (OfComponent k)) h holds = refl

module _ (look : Look) (cells : List PlainCell) (held : List (Option CellState)) (s : State) (child : ℕ → Instance) (holds : HeldAt cells held s) where
  tells : (c : ℕ) → option_map told_fault (fault_of look cells held c) ≡ first_of c (outcome_at look c (cell_at (cells_for child cells) c) (s (c ∷ []))) None
  tells c = kind_tells look s child c (kind_at cells c) (cell_held held c) (λ p e. holds c p e) ∙ ap (λ at. first_of c (outcome_at look c at (s (c ∷ []))) None) (sym (at_kind child cells c))

  by_count : (outcome : ℕ → Outcome) → first_fault outcome 0 (length cells) ≡ first_fault outcome 0 (cell_count (cells_for child cells))
  by_count outcome = ap (first_fault outcome 0) (sym (count_for child cells))

  tells_listed : (xs : List ℕ) (c : ℕ) → option_map told_fault (only_in (fault_of look cells held) xs c) ≡ first_of c (outcome_of (listed_in xs) look (cells_for child cells) s c) None
  unfolding only_in
  tells_listed xs c = by (listed_in xs c)
    where
      by : (b : Bool) → option_map told_fault (if b then fault_of look cells held c else None) ≡ first_of c (if b then outcome_at look c (cell_at (cells_for child cells) c) (s (c ∷ [])) else Next (s (c ∷ []))) None
      by true = tells c
      by false = refl

  none_past : (c : ℕ) → 0 + length cells ≤ c → fault_of look cells held c ≡ None
  none_past c le = ap (λ kind. option_map (λ (stop : CellStop). record { cell = c; stop = stop }) (stop_of_kind look c kind (cell_held held c))) (no_kind cells c (omega (arith, le)))

  pub first_listed_is : (listed : List ℕ) → IsAscending listed → option_map told_fault (first_among (fault_of look cells held) listed) ≡ first_fault (outcome_of (listed_in listed) look (cells_for child cells) s) 0 (cell_count (cells_for child cells))
  first_listed_is listed ascending =
      ap (option_map told_fault) (among_is (fault_of look cells held) listed 0 (length cells) (above_of listed 0 (λ m e. omega arith) ascending) none_past)
      ∙ first_told (only_in (fault_of look cells held) listed) (outcome_of (listed_in listed) look (cells_for child cells) s) (tells_listed listed) 0 (length cells)
      ∙ by_count (outcome_of (listed_in listed) look (cells_for child cells) s)

-- NEXT STATES
pub next_holds : (listed : Set) (look : Look) (child : ℕ → Instance) (cells : List PlainCell) (old new : List (Option CellState)) (s : State) → AreStepped listed (after_of look cells) old new → HeldAt cells old s → HeldAt cells new (state_after (outcome_of listed look (cells_for child cells) s) s)
next_holds listed look child cells old new s steps holds c p e =
    let d = s (c ∷ []) in
    let held = holds c p e in
    let after = ap (λ (k : Option PlainKind). after_kind look c k (cell_held old c)) e ∙ ap (after_kind look c (Some (OfPrimitive p))) held in
    steps c
    ∙ ap (λ (x : Option CellState). if listed c then x else cell_held old c) after
    ∙ ap (λ (x : Option CellState). if listed c then Some (stepped d (cell_outcome look c (row_of p) d)) else x) held
    ∙ by (listed c)
    ∙ ap (λ at. Some (stepped d (if listed c then outcome_at look c at d else Next d))) (sym (at_kind child cells c ∙ ap (at_of child) e))
  where
    by : (b : Bool) → (if b then Some (stepped (s (c ∷ [])) (cell_outcome look c (row_of p) (s (c ∷ [])))) else Some (s (c ∷ []))) ≡ Some (stepped (s (c ∷ [])) (if b then cell_outcome look c (row_of p) (s (c ∷ [])) else Next (s (c ∷ []))))
    by true = refl
    by false = refl

-- HOW A CYCLE ENDS
pub ended_fault : (cells : List PlainCell) (old new : List (Option CellState)) (f : CellFault) (first : Option CellFault) (fault : Option Fault) (after : State) → Some f ≡ first → option_map told_fault first ≡ fault → new ≡ old
    → EndsSo cells old new (Err f) (unless_fault fault after)
ended_fault cells old new f first fault after is same unchanged = subst (λ o. EndsSo cells old new (Err f) (unless_fault o after)) (ap (option_map told_fault) is ∙ same) (refl, unchanged)

pub ended_next : (cells : List PlainCell) (old new : List (Option CellState)) (first : Option CellFault) (fault : Option Fault) (after : State) → None ≡ first → option_map told_fault first ≡ fault → HeldAt cells new after
    → EndsSo cells old new (Ok tt) (unless_fault fault after)
ended_next cells old new first fault after is same holds = subst (λ o. EndsSo cells old new (Ok tt) (unless_fault o after)) (ap (option_map told_fault) is ∙ same) holds
