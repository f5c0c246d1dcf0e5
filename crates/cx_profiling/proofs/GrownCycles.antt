-- A CYCLE OF THE INSTRUMENTED INSTANCE carries one of the instance: the same fault, or the same step with one more for each counter whose group acts.
use Rattle.std.proofs.Common.{◌≡◌, ℕ, zero, suc, ◌+◌, ◌*◌, ◌^◌, ◌%◌, ◌<◌, ◌≤◌, Bool, true, false, [], ◌∷◌, length, Option, Some, None, refl, sym, ap, ◌∙◌, subst, arith}
use Rattle.std.proofs.Math.Nat.{mod-add-mod}
use Rattle.std.proofs.lemmas.List.{length-append}
use Rattle.cx_text.specs.Members.{In}
use Rattle.cx_prim.specs.CellStates.{CellState, Register}
use Rattle.cx_prim.specs.Rows.{Row}
use Rattle.cx_meaning.specs.declared.ports.PortRef.TheVariants as ports
use Rattle.cx_meaning.specs.declared.sights.FaultKind.{FaultKind}
use Rattle.cx_meaning.specs.Designs.{PlainComponent, PlainDesign, component_at}
use Rattle.cx_meaning.specs.Instances.{Instance, Cells, no_cells, a_primitive, an_instance, OfRow, OfInstance, cell_at, cell_count, cells_of, Path, State, under, tree_within}
use Rattle.cx_meaning.specs.Active.{Active}
use Rattle.cx_meaning.specs.Sights.{Held, seen}
use Rattle.cx_meaning.specs.Cycles.{Fault, fault_at, Outcome, Next, Stops, outcome_at, stepped, Goes, cycle, every_cell}
use Rattle.cx_meaning.proofs.CycleLemmas.{row_within, count_for}
use Rattle.cx_meaning.proofs.InstancesLemmas.{instance_is, instance_row, row_instance, nothing_row, nothing_instance}
use Rattle.cx_rules.specs.Circles.{IsAcyclic, AcyclicBelow}
use Rattle.cx_rules.specs.Ports.{component_of}
use Rattle.cx_rules.specs.Wellformed.{IsDesign}
use Rattle.cx_frames.proofs.CycleLemmas.{cycle_keeps_children}
use Rattle.cx_rewrites.specs.Tallies.{Tally, plus, at_cell}
use Rattle.cx_rewrites.specs.Carrying.{Exact}
use Rattle.cx_rewrites.specs.Turns.{CycleCarries}
use Rattle.cx_rewrites.specs.Cells.{comes_to, left_by, CellAlike, OutcomeFollows, OutcomesFollow, no_more, both, new_one}
use Rattle.cx_rewrites.proofs.CellLemmas.{same_outcome, cell_left, cycle_follows}
use Rattle.cx_profiling.specs.Counters.{Counter, counters}
use Rattle.cx_profiling.specs.Counting.{once, made_with}
use Rattle.cx_profiling.specs.Growing.{Grown, GrownCells}
use Rattle.cx_profiling.specs.Instrumented.{moved_in, with_counts}
use Rattle.cx_profiling.proofs.ListedCells.{at_component}
use Rattle.cx_profiling.proofs.GrownLemmas.{grown_numbers}
use Rattle.cx_profiling.proofs.RestLemmas.{grown_states}
use Rattle.cx_profiling.proofs.RoleLemmas.{more_cells}
use Rattle.cx_profiling.proofs.GrownTrees.{InTree, is_whole}
use Rattle.cx_profiling.proofs.PairLemmas.{CellPair, row_pair, child_pair, pair_at}
use Rattle.cx_profiling.proofs.SightLemmas.{KidsAlike, RowsAlike, found_grows}
use Rattle.cx_profiling.proofs.AcyclicLemmas.{child_few, NewCell, a_register, an_adder, further_on, new_cell_is}
use Rattle.cx_profiling.proofs.CounterLooks.{register_acts, register_idles, adder_next}

-- GROWN CELLS, one by one
pub grown_row : (cells : Cells) (from c : ℕ) (row : Row) (τ : Tally) (s t : State) → GrownCells cells from τ s t → cell_at cells c ≡ OfRow row → t ((from + c) ∷ []) ≡ s ((from + c) ∷ [])
grown_row no_cells from c row τ s t h e = absurd (nothing_row row e)
grown_row (a_primitive r rest) from zero row τ s t (h, hs) e = let same : from ≡ from + 0 = omega arith in subst (λ n. t (n ∷ []) ≡ s (n ∷ [])) same h
grown_row (a_primitive r rest) from (suc c) row τ s t (h, hs) e = let same : suc from + c ≡ from + suc c = omega arith in subst (λ n. t (n ∷ []) ≡ s (n ∷ [])) same (grown_row rest (suc from) c row τ s t hs e)
grown_row (an_instance child rest) from zero row τ s t h e = absurd (instance_row child row e)
grown_row (an_instance child rest) from (suc c) row τ s t (h, hs) e = let same : suc from + c ≡ from + suc c = omega arith in subst (λ n. t (n ∷ []) ≡ s (n ∷ [])) same (grown_row rest (suc from) c row τ s t hs e)

pub grown_child : (cells : Cells) (from c : ℕ) (child : Instance) (τ : Tally) (s t : State) → GrownCells cells from τ s t → cell_at cells c ≡ OfInstance child
    → Grown child (at_cell (from + c) τ) (under (from + c) s) (under (from + c) t)
grown_child no_cells from c child τ s t h e = absurd (nothing_instance child e)
grown_child (a_primitive r rest) from zero child τ s t h e = absurd (row_instance r child e)
grown_child (a_primitive r rest) from (suc c) child τ s t (h, hs) e =
    let same : suc from + c ≡ from + suc c = omega arith in subst (λ n. Grown child (at_cell n τ) (under n s) (under n t)) same (grown_child rest (suc from) c child τ s t hs e)
grown_child (an_instance x rest) from zero child τ s t (h, hs) e =
    let same : from ≡ from + 0 = omega arith in
    subst (λ n. Grown child (at_cell n τ) (under n s) (under n t)) same (subst (λ y. Grown y (at_cell from τ) (under from s) (under from t)) (instance_is x child e) h)
grown_child (an_instance x rest) from (suc c) child τ s t (h, hs) e =
    let same : suc from + c ≡ from + suc c = omega arith in subst (λ n. Grown child (at_cell n τ) (under n s) (under n t)) same (grown_child rest (suc from) c child τ s t hs e)

pub cells_grown : (cells : Cells) (from : ℕ) (τ : Tally) (s t : State)
    → ((c : ℕ) (row : Row) → cell_at cells c ≡ OfRow row → t ((from + c) ∷ []) ≡ s ((from + c) ∷ []))
    → ((c : ℕ) (child : Instance) → cell_at cells c ≡ OfInstance child → Grown child (at_cell (from + c) τ) (under (from + c) s) (under (from + c) t)) → GrownCells cells from τ s t
cells_grown no_cells from τ s t rows kids = tt
cells_grown (a_primitive row rest) from τ s t rows kids =
    let same : from + 0 ≡ from = omega arith in (
      subst (λ n. t (n ∷ []) ≡ s (n ∷ [])) same (rows 0 row refl),
      cells_grown rest (suc from) τ s t (λ c r e. let next : from + suc c ≡ suc from + c = omega arith in subst (λ n. t (n ∷ []) ≡ s (n ∷ [])) next (rows (suc c) r e))
          (λ c child e. let next : from + suc c ≡ suc from + c = omega arith in subst (λ n. Grown child (at_cell n τ) (under n s) (under n t)) next (kids (suc c) child e)),
    )
cells_grown (an_instance x rest) from τ s t rows kids =
    let same : from + 0 ≡ from = omega arith in (
      subst (λ n. Grown x (at_cell n τ) (under n s) (under n t)) same (kids 0 x refl),
      cells_grown rest (suc from) τ s t (λ c r e. let next : from + suc c ≡ suc from + c = omega arith in subst (λ n. t (n ∷ []) ≡ s (n ∷ [])) next (rows (suc c) r e))
          (λ c child e. let next : from + suc c ≡ suc from + c = omega arith in subst (λ n. Grown child (at_cell n τ) (under n s) (under n t)) next (kids (suc c) child e)),
    )

-- so many cells follow, and more go on
follow : (faults : Fault → Fault) (x y : ℕ → Outcome) (n extra c : ℕ) → ((e : ℕ) → c ≤ e → e < c + n → OutcomeFollows faults e (x e) e (y e))
    → ((e : ℕ) → c + n ≤ e → e < c + n + extra → (after : CellState) × (y e ≡ Next after)) → OutcomesFollow faults x y c n c (n + extra)
follow faults x y zero extra c old new = rest extra c (λ e past less. new e (omega (arith, past)) (omega (arith, less)))
  where
    rest : (extra e : ℕ) → ((f : ℕ) → e ≤ f → f < e + extra → (after : CellState) × (y f ≡ Next after)) → OutcomesFollow faults x y c 0 e (0 + extra)
    rest zero e h = no_more
    rest (suc extra) e h =
        let r = h e (omega arith) (omega arith) in
        let count : suc (0 + extra) ≡ 0 + suc extra = omega arith in
        subst (λ q. OutcomesFollow faults x y c 0 e q) count (new_one r.0 r.1 (rest extra (suc e) (λ f past less. h f (omega (arith, past)) (omega (arith, less)))))
follow faults x y (suc n) extra c old new =
    let count : suc (n + extra) ≡ suc n + extra = omega arith in
    subst (λ q. OutcomesFollow faults x y c (suc n) c q) count
    (both (old c (omega arith) (omega arith))
    (follow faults x y n extra (suc c) (λ e past less. old e (omega (arith, past)) (omega (arith, less))) (λ e past less. new e (omega (arith, past)) (omega (arith, less)))))

module _ (d : PlainDesign) (design : IsDesign d) (m k : ℕ) (at : InTree d (suc m) k) where
  abbrev node : PlainComponent
  node = component_at d k

  abbrev other : PlainComponent
  other = component_at (with_counts d) k

  abbrev i : Instance
  i = tree_within d (suc m) k

  abbrev j : Instance
  j = tree_within (with_counts d) (suc m) k

  pub grown_rows : (τ : Tally) (s t : State) → Grown i τ s t → RowsAlike d design m k at s t
  grown_rows τ s t (cells, registers) c row e =
      let same : 0 + c ≡ c = omega arith in
      subst (λ n. t (n ∷ []) ≡ s (n ∷ [])) same (grown_row (cells_of i) 0 c row τ s t cells e)

  pub grown_kid : (τ : Tally) (s t : State) → Grown i τ s t → (c : ℕ) (child : Instance) → cell_at (cells_of i) c ≡ OfInstance child → Grown child (at_cell c τ) (under c s) (under c t)
  grown_kid τ s t (cells, registers) c child e =
      let same : 0 + c ≡ c = omega arith in
      subst (λ n. Grown child (at_cell n τ) (under n s) (under n t)) same (grown_child (cells_of i) 0 c child τ s t cells e)

  pub make_grown : (τ : Tally) (s t : State) → RowsAlike d design m k at s t
      → ((c : ℕ) (child : Instance) → cell_at (cells_of i) c ≡ OfInstance child → Grown child (at_cell c τ) (under c s) (under c t))
      → ((x : Counter) → In (counters i) x → (done : Bool) × (t (x.register ∷ []) ≡ Register (τ [] x.group % 2 ^ 64) done)) → Grown i τ s t
  make_grown τ s t rows kids registers = (
    cells_grown (cells_of i) 0 τ s t
        (λ c row e. let same : c ≡ 0 + c = omega arith in subst (λ n. t (n ∷ []) ≡ s (n ∷ [])) same (rows c row e))
        (λ c child e. let same : c ≡ 0 + c = omega arith in subst (λ n. Grown child (at_cell n τ) (under n s) (under n t)) same (kids c child e)),
    registers,
  )

  module _ (act : Active) (acyclic : IsAcyclic i act) (deeper : AcyclicBelow (cells_of i)) (twin_acyclic : IsAcyclic j act) (twin_deeper : AcyclicBelow (cells_of j))
      (held twin : Held) (same : (n : ℕ) → n < length node.inputs → twin n ≡ held n)
      (kids : (τ : Tally) (s t : State) → Grown i τ s t → KidsAlike d design m k at s t)
      (faults : Fault → Fault) (fixed : (c p : ℕ) (row : Row) (kind : FaultKind) → cell_at (cells_of i) c ≡ OfRow row → faults (fault_at kind (ports.Cell c p)) ≡ fault_at kind (ports.Cell c p))
      (further : (t : State) (e : ℕ) → length node.cells + 2 * length (counters (component_of d k)) ≤ e → e < length other.cells → (after : CellState) × (comes_to j twin act t e ≡ Next after)) where
    module _ (τ : Tally) (s t : State) (grown : Grown i τ s t) where
      alike : (c : ℕ) (row : Row) → cell_at (cells_of i) c ≡ OfRow row → cell_at (cells_of j) c ≡ OfRow row
          → ((p : ℕ) → moved_in d node (ports.Cell c p) ≡ ports.Cell c p) → c < length node.cells → CellAlike i j held twin act act s t c c
      alike c row first second moved few = record {
        row = row;
        here = first;
        there = second;
        state = grown_rows τ s t grown c row first;
        ports = λ p.
            ap (seen j twin act t) (sym (moved p))
            ∙ found_grows d design m k at act held twin same s t (grown_rows τ s t grown) (kids τ s t grown) twin_acyclic twin_deeper acyclic deeper (ports.Cell c p)
            (few, λ cell e stands is. absurd (instance_row (tree_within d m e) row (sym (at_component (tree_within d m) node.cells c cell e stands is) ∙ first)));
      }

      follows_same : (c : ℕ) (row : Row) (o w : Outcome) → cell_at (cells_of i) c ≡ OfRow row → o ≡ w → OutcomeFollows faults c o c w
      follows_same c row (Next a) w first e = (a, sym e)
      follows_same c row (Stops kind p) w first e = (p, sym e, fixed c p row kind first)

      follows : (c : ℕ) → c < length node.cells → OutcomeFollows faults c (comes_to i held act s c) c (comes_to j twin act t c)
      follows c few = by (pair_at d design m k at.within c few)
        where
          by : CellPair d design m k at.within c → OutcomeFollows faults c (comes_to i held act s c) c (comes_to j twin act t c)
          by (row_pair row first second moved) =
              follows_same c row (comes_to i held act s c) (comes_to j twin act t c) first (same_outcome i j held twin act act s t c c (alike c row first second moved few))
          by (child_pair cell e stands is below first second moved) =
              let here : comes_to i held act s c ≡ Next (s (c ∷ [])) = ap (λ a. outcome_at (seen i held act s) c a (s (c ∷ []))) first in
              let there : comes_to j twin act t c ≡ Next (t (c ∷ [])) = ap (λ a. outcome_at (seen j twin act t) c a (t (c ∷ []))) second in
              subst (λ o. OutcomeFollows faults c o c (comes_to j twin act t c)) (sym here) (t (c ∷ []), there)

      register_goes : (x : Counter) → In (counters (component_of d k)) x
          → (after : CellState) × (comes_to j twin act t x.register ≡ Next after) × ((done : Bool) × (after ≡ Register (plus τ (made_with act) [] x.group % 2 ^ 64) done))
      register_goes x there = by (act.offset x.group) refl
        where
          own : In (counters i) x
          own = subst (λ tree. In (counters tree) x) (sym (is_whole d at)) there

          value : ℕ
          value = τ [] x.group % 2 ^ 64

          holds : (done : Bool) × (t (x.register ∷ []) ≡ Register value done)
          holds = grown.1 x own

          by : (o : Option ℕ) → act.offset x.group ≡ o
              → (after : CellState) × (comes_to j twin act t x.register ≡ Next after) × ((done : Bool) × (after ≡ Register ((τ [] x.group + once (act.offset x.group)) % 2 ^ 64) done))
          by None e =
              let count : τ [] x.group ≡ τ [] x.group + once (act.offset x.group) = (let none : once (act.offset x.group) ≡ 0 = ap once e in omega (arith, none)) in
              (Register value false, register_idles d design m k at act twin t twin_acyclic twin_deeper x there value holds.0 holds.1 e, (false, ap (λ n. Register (n % 2 ^ 64) false) count))
          by (Some o) e =
              let count : (value + 1) % 2 ^ 64 ≡ (τ [] x.group + once (act.offset x.group)) % 2 ^ 64 = mod-add-mod (τ [] x.group) (2 ^ 64) 1 ∙ ap (λ n. (τ [] x.group + n) % 2 ^ 64) (sym (ap once e)) in
              (Register ((value + 1) % 2 ^ 64) true, register_acts d design m k at act twin t twin_acyclic twin_deeper x there value holds.0 holds.1 o e, (true, ap (λ n. Register n true) count))

      new_goes : (e : ℕ) → length node.cells ≤ e → e < length other.cells → (after : CellState) × (comes_to j twin act t e ≡ Next after)
      new_goes e past less = by (new_cell_is d design m k at act e past)
        where
          by : NewCell d design m k at act e → (after : CellState) × (comes_to j twin act t e ≡ Next after)
          by (a_register x there is) = let r = register_goes x there in (r.0, ap (comes_to j twin act t) (sym is) ∙ r.1)
          by (an_adder x there is) = (t (suc x.register ∷ []), ap (comes_to j twin act t) (sym is) ∙ adder_next d design m k at act twin t twin_acyclic twin_deeper x there)
          by (further_on far) = further t e far less

      all_follow : OutcomesFollow faults (comes_to i held act s) (comes_to j twin act t) 0 (cell_count (cells_of i)) 0 (cell_count (cells_of j))
      all_follow =
          let more = more_cells d k at.within in
          let total : length other.cells ≡ length node.cells + length more.0 = ap length more.1 ∙ length-append node.cells more.0 in
          subst (λ n. OutcomesFollow faults (comes_to i held act s) (comes_to j twin act t) 0 n 0 (cell_count (cells_of j))) (sym (count_for (tree_within d m) node.cells))
          (subst (λ n. OutcomesFollow faults (comes_to i held act s) (comes_to j twin act t) 0 (length node.cells) 0 n) (sym (count_for (tree_within (with_counts d) m) other.cells ∙ total))
          (follow faults (comes_to i held act s) (comes_to j twin act t) (length node.cells) (length more.0) 0
          (λ e past less. follows e (omega (arith, less)))
          (λ e past less. new_goes e (omega (arith, past)) (omega (arith, less, total)))))

      module _ (after : State) (goes : cycle i held act s ≡ Goes after) where
        rows_left : (c : ℕ) (row : Row) → cell_at (cells_of i) c ≡ OfRow row → left_by j twin act t (c ∷ []) ≡ after (c ∷ [])
        rows_left c row e = by (pair_at d design m k at.within c few)
          where
            few : c < length node.cells
            few = subst (λ n. c < n) (count_for (tree_within d m) node.cells) (row_within (cells_of i) c row e)

            by : CellPair d design m k at.within c → left_by j twin act t (c ∷ []) ≡ after (c ∷ [])
            by (row_pair r first second moved) = cell_left i j held twin act act s t c c (alike c r first second moved few) after goes
            by (child_pair cell f stands is below first second moved) = absurd (instance_row (tree_within d m f) row (sym first ∙ e))

        stays : (c : ℕ) (child : Instance) → cell_at (cells_of i) c ≡ OfInstance child → (path : Path) → t (c ∷ path) ≡ left_by j twin act t (c ∷ path)
        stays c child e (f ∷ path) = refl
        stays c child e [] = by (pair_at d design m k at.within c (child_few (tree_within d m) node.cells c child e))
          where
            by : CellPair d design m k at.within c → t (c ∷ []) ≡ left_by j twin act t (c ∷ [])
            by (row_pair r first second moved) = absurd (row_instance r child (sym first ∙ e))
            by (child_pair cell f stands is below first second moved) =
                sym (ap (stepped (t (c ∷ []))) (ap (λ a. outcome_at (seen j twin act t) c a (t (c ∷ []))) second))

        kids_left : (c : ℕ) (child : Instance) → cell_at (cells_of i) c ≡ OfInstance child → Grown child (at_cell c (plus τ (made_with act))) (under c after) (under c (left_by j twin act t))
        kids_left c child e =
            grown_numbers child (at_cell c τ) (at_cell c (plus τ (made_with act))) (under c after) (under c (left_by j twin act t)) (λ path g. omega arith)
            (grown_states child (at_cell c τ) (under c s) (under c t) (under c after) (under c (left_by j twin act t))
            (λ path. sym (cycle_keeps_children i held act every_cell s after goes c child e path)) (λ path. stays c child e path) (grown_kid τ s t grown c child e))

        registers_left : (x : Counter) → In (counters i) x → (done : Bool) × (left_by j twin act t (x.register ∷ []) ≡ Register (plus τ (made_with act) [] x.group % 2 ^ 64) done)
        registers_left x own =
            let r = register_goes x (subst (λ tree. In (counters tree) x) (is_whole d at) own) in
            (r.2.0, ap (stepped (t (x.register ∷ []))) r.1 ∙ r.2.1)

        grown_left : Grown i (plus τ (made_with act)) after (left_by j twin act t)
        grown_left = make_grown (plus τ (made_with act)) after (left_by j twin act t) rows_left kids_left registers_left

    -- THE CYCLE GROWS
    pub cycle_grows : CycleCarries Exact (Grown i) faults (made_with act) i j held twin act act
    cycle_grows =
        cycle_follows Exact (Grown i) faults (made_with act) i j held twin act act (λ τ s t grown. all_follow τ s t grown) (λ τ s t after grown goes. grown_left τ s t grown after goes)
