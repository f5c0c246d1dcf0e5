-- How a cycle ends, by what each of its cells comes to.
use Rattle.std.proofs.Common.{◌≡◌, ℕ, zero, suc, ◌+◌, ◌<◌, inl, inr, ◌⊎◌, Bool, true, false, List, [], ◌∷◌, length, Option, Some, None, if◌then◌else◌, refl, sym, ap, ◌∙◌, subst, arith, ◌≤◌}
use Rattle.std.proofs.Math.Path.{fun_ext}
use Rattle.cx_prim.specs.CellStates.{CellState}
use Rattle.cx_prim.specs.Rows.{Row}
use Rattle.cx_meaning.specs.declared.ports.PortRef.TheVariants as ports
use Rattle.cx_meaning.specs.declared.sights.FaultKind.{FaultKind}
use Rattle.cx_meaning.specs.Designs.{PlainKind, OfPrimitive, OfComponent, PlainCell}
use Rattle.cx_meaning.specs.Instances.{Instance, Cells, no_cells, a_primitive, an_instance, At, Nothing, OfRow, OfInstance, add_cell, cells_for, cell_at, cell_count, Path, State, Set}
use Rattle.cx_meaning.specs.Sights.{Look}
use Rattle.cx_meaning.specs.Cycles.{Fault, fault_at, Outcome, Next, Stops, cell_outcome, outcome_at, outcome_of, first_of, first_fault, stepped, state_after, Ended, Goes, Faults, unless_fault, ended, cycle_by}

-- WHERE A CYCLE GOES ON, OR FAULTS
left_by : State → Ended → State
left_by s (Goes after) = after
left_by s (Faults fault) = s

pub goes_to : (fault : Option Fault) (s after : State) → unless_fault fault s ≡ Goes after → (fault ≡ None) × (s ≡ after)
unfolding left_by
goes_to None s after e = (refl, ap (left_by s) e)
goes_to (Some fault) s after e = absurd (cc)

pub faults_with : (found : Option Fault) (s : State) (fault : Fault) → unless_fault found s ≡ Faults fault → found ≡ Some fault
faults_with None s fault e = absurd (cc)
faults_with (Some found) s fault e = let same : found ≡ fault = cc in ap Some same

-- where there is no fault, each of the cells goes on
goes_first : (c : ℕ) (o : Outcome) (later : Option Fault) → first_of c o later ≡ None → ((d : CellState) × (o ≡ Next d)) × (later ≡ None)
goes_first c (Next d) later e = ((d, refl), e)
goes_first c (Stops kind p) later e = absurd (cc)

pub each_goes : (outcome : ℕ → Outcome) (c n : ℕ) → first_fault outcome c n ≡ None → (k : ℕ) → k < n → (d : CellState) × (outcome (c + k) ≡ Next d)
each_goes outcome c zero e k lt = absurd (omega (arith, lt))
each_goes outcome c (suc n) e zero lt =
    let first : c ≡ c + 0 = omega arith in
    subst (λ j. (d : CellState) × (outcome j ≡ Next d)) first (goes_first c (outcome c) (first_fault outcome (suc c) n) e).0
each_goes outcome c (suc n) e (suc k) lt =
    let next : suc c + k ≡ c + suc k = omega arith in
    subst (λ j. (d : CellState) × (outcome j ≡ Next d)) next (each_goes outcome (suc c) n (goes_first c (outcome c) (first_fault outcome (suc c) n) e).1 k (omega (arith, lt)))

-- and comes to what is left
pub each_steps : (outcome : ℕ → Outcome) (n : ℕ) (s after : State) → ended outcome n s ≡ Goes after → (c : ℕ) → c < n → outcome c ≡ Next (after (c ∷ []))
each_steps outcome n s after e c lt =
    let left = goes_to (first_fault outcome 0 n) (state_after outcome s) after e in
    let zero_first : 0 + c ≡ c = omega arith in
    let next = each_goes outcome 0 n left.0 c lt in
    let steps : outcome c ≡ Next next.0 = ap outcome (sym zero_first) ∙ next.1 in
    steps ∙ ap Next (sym (ap (λ (t : State). t (c ∷ [])) (sym left.1) ∙ ap (stepped (s (c ∷ []))) steps))

-- a fault is that of a cell that stops
pub record StopsWith (outcome : ℕ → Outcome) (fault : Fault) : Type 0 where
  pub cell : ℕ
  pub kind : FaultKind
  pub port : ℕ
  pub stops : outcome cell ≡ Stops kind port
  pub told : fault_at kind (ports.Cell cell port) ≡ fault

pub one_stops : (outcome : ℕ → Outcome) (c n : ℕ) (fault : Fault) → first_fault outcome c n ≡ Some fault → StopsWith outcome fault
one_stops outcome c zero fault e = absurd (cc)
one_stops outcome c (suc n) fault e = by (outcome c) refl e (one_stops outcome (suc c) n fault)
  where
    by : (o : Outcome) → outcome c ≡ o → first_of c o (first_fault outcome (suc c) n) ≡ Some fault → (first_fault outcome (suc c) n ≡ Some fault → StopsWith outcome fault) → StopsWith outcome fault
    by (Next d) is e later = later e
    by (Stops kind p) is e later = let told : fault_at kind (ports.Cell c p) ≡ fault = cc in record { cell = c; kind = kind; port = p; stops = is; told = told }

-- OUTCOMES THAT ARE ALIKE: the same, or both go on
abbrev pub IsAlike : Outcome → Outcome → Type 0
IsAlike x y = (x ≡ y) ⊎ ((a : CellState) × (b : CellState) × (x ≡ Next a) × (y ≡ Next b))

alike_first : (c : ℕ) (x y : Outcome) (u v : Option Fault) → u ≡ v → IsAlike x y → first_of c x u ≡ first_of c y v
alike_first c x y u v e (inl same) = ap (λ z. first_of c z u) same ∙ ap (first_of c y) e
alike_first c x y u v e (inr (a, b, f, g)) = ap (λ z. first_of c z u) f ∙ e ∙ sym (ap (λ z. first_of c z v) g)

pub faults_alike : (x y : ℕ → Outcome) (c n : ℕ) → ((k : ℕ) → IsAlike (x k) (y k)) → first_fault x c n ≡ first_fault y c n
faults_alike x y c zero h = refl
faults_alike x y c (suc n) h = alike_first c (x c) (y c) (first_fault x (suc c) n) (first_fault y (suc c) n) (faults_alike x y (suc c) n h) (h c)

-- WHAT A CELL COMES TO
pub row_within : (cells : Cells) (c : ℕ) (row : Row) → cell_at cells c ≡ OfRow row → c < cell_count cells
row_within no_cells c row at = absurd (cc)
row_within (a_primitive r rest) zero row at = omega arith
row_within (a_primitive r rest) (suc c) row at = let lt = row_within rest c row at in omega (arith, lt)
row_within (an_instance child rest) zero row at = absurd (cc)
row_within (an_instance child rest) (suc c) row at = let lt = row_within rest c row at in omega (arith, lt)

pub one_more : (child : ℕ → Instance) (kind : PlainKind) (rest : Cells) → cell_count (add_cell child kind rest) ≡ suc (cell_count rest)
one_more child (OfPrimitive p) rest = refl
one_more child (OfComponent k) rest = refl

pub count_for : (child : ℕ → Instance) (cells : List PlainCell) → cell_count (cells_for child cells) ≡ length cells
count_for child [] = refl
count_for child (cell ∷ cells) = one_more child cell.kind (cells_for child cells) ∙ ap suc (count_for child cells)

pub outcome_listed : (listed : Set) (look : Look) (cells : Cells) (s : State) (c : ℕ) (row : Row) → listed c ≡ true → cell_at cells c ≡ OfRow row → outcome_of listed look cells s c ≡ cell_outcome look c row (s (c ∷ []))
outcome_listed listed look cells s c row on at =
    ap (λ b. if b then outcome_at look c (cell_at cells c) (s (c ∷ [])) else Next (s (c ∷ []))) on ∙ ap (λ x. outcome_at look c x (s (c ∷ []))) at

pub outcome_unlisted : (listed : Set) (look : Look) (cells : Cells) (s : State) (c : ℕ) → listed c ≡ false → outcome_of listed look cells s c ≡ Next (s (c ∷ []))
outcome_unlisted listed look cells s c off = ap (λ b. if b then outcome_at look c (cell_at cells c) (s (c ∷ [])) else Next (s (c ∷ []))) off

-- what an outcome is where it is that of a listed primitive, and where the cell stays
pub outcome_cases : (P : Outcome → Type 0) (listed : Set) (look : Look) (cells : Cells) (s : State) (c : ℕ)
    → ((row : Row) → cell_at cells c ≡ OfRow row → listed c ≡ true → P (cell_outcome look c row (s (c ∷ [])))) → P (Next (s (c ∷ []))) → P (outcome_of listed look cells s c)
outcome_cases P listed look cells s c steps stays = by (listed c) refl (cell_at cells c) refl
  where
    by : (b : Bool) → listed c ≡ b → (at : At) → cell_at cells c ≡ at → P (if b then outcome_at look c at (s (c ∷ [])) else Next (s (c ∷ [])))
    by true on Nothing is = stays
    by true on (OfRow row) is = steps row is on
    by true on (OfInstance child) is = stays
    by false off at is = stays

module _ (listed : Set) (look more : Look) (cells : Cells) (s t : State) (c : ℕ) where
  pub outcomes_alike : ((row : Row) → cell_at cells c ≡ OfRow row → listed c ≡ true → IsAlike (cell_outcome look c row (s (c ∷ []))) (cell_outcome more c row (t (c ∷ []))))
      → IsAlike (outcome_of listed look cells s c) (outcome_of listed more cells t c)
  outcomes_alike h = by (listed c) refl (cell_at cells c) refl
    where
      by : (b : Bool) → listed c ≡ b → (at : At) → cell_at cells c ≡ at
          → IsAlike (if b then outcome_at look c at (s (c ∷ [])) else Next (s (c ∷ []))) (if b then outcome_at more c at (t (c ∷ [])) else Next (t (c ∷ [])))
      by true on Nothing is = inr (s (c ∷ []), t (c ∷ []), refl, refl)
      by true on (OfRow row) is = h row is on
      by true on (OfInstance child) is = inr (s (c ∷ []), t (c ∷ []), refl, refl)
      by false off at is = inr (s (c ∷ []), t (c ∷ []), refl, refl)

  pub outcomes_same : s (c ∷ []) ≡ t (c ∷ []) → ((row : Row) → cell_at cells c ≡ OfRow row → listed c ≡ true → cell_outcome look c row (s (c ∷ [])) ≡ cell_outcome more c row (t (c ∷ [])))
      → outcome_of listed look cells s c ≡ outcome_of listed more cells t c
  outcomes_same same h = by (listed c) refl (cell_at cells c) refl
    where
      by : (b : Bool) → listed c ≡ b → (at : At) → cell_at cells c ≡ at
          → (if b then outcome_at look c at (s (c ∷ [])) else Next (s (c ∷ []))) ≡ (if b then outcome_at more c at (t (c ∷ [])) else Next (t (c ∷ [])))
      by true on Nothing is = ap Next same
      by true on (OfRow row) is = h row is on
      by true on (OfInstance child) is = ap Next same
      by false off at is = ap Next same

-- A cycle that looks alike ends alike
pub cycles_same : (listed : Set) (look more : Look) (cells : Cells) (s : State) → ((c : ℕ) (row : Row) → cell_at cells c ≡ OfRow row → listed c ≡ true → cell_outcome look c row (s (c ∷ [])) ≡ cell_outcome more c row (s (c ∷ [])))
    → cycle_by listed look cells s ≡ cycle_by listed more cells s
cycles_same listed look more cells s h =
    ap (λ (outcome : ℕ → Outcome). ended outcome (cell_count cells) s) (fun_ext (λ c. outcomes_same listed look more cells s s c refl (h c)))

-- WHAT A CYCLE LEAVES
pub state_after-same : (outcome : ℕ → Outcome) (s : State) (c : ℕ) → stepped (s (c ∷ [])) (outcome c) ≡ s (c ∷ []) → (below : Path) → state_after outcome s (c ∷ below) ≡ s (c ∷ below)
state_after-same outcome s c h [] = h
state_after-same outcome s c h (e ∷ path) = refl

-- a cell that is not listed stays as it is
pub unlisted_stays : (listed : Set) (look : Look) (cells : Cells) (s : State) (c : ℕ) → listed c ≡ false → (below : Path) → state_after (outcome_of listed look cells s) s (c ∷ below) ≡ s (c ∷ below)
unlisted_stays listed look cells s c off = state_after-same (outcome_of listed look cells s) s c (ap (stepped (s (c ∷ []))) (outcome_unlisted listed look cells s c off))

pub cell_beyond : (cells : Cells) (e : ℕ) → cell_count cells ≤ e → cell_at cells e ≡ Nothing
cell_beyond no_cells e past = refl
cell_beyond (a_primitive row rest) zero past = absurd (omega (arith, past))
cell_beyond (a_primitive row rest) (suc e) past = cell_beyond rest e (omega (arith, past))
cell_beyond (an_instance child rest) zero past = absurd (omega (arith, past))
cell_beyond (an_instance child rest) (suc e) past = cell_beyond rest e (omega (arith, past))

pub next_is : (a b : CellState) → Next a ≡ Next b → a ≡ b
next_is a b e = cc
