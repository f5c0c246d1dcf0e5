-- One row that changes.
use Rattle.std.proofs.Common.{◌≡◌, ℕ, zero, suc, ◌+◌, ◌-◌, ◌<◌, ◌≤◌, ◌≢◌, Bool, true, false, ⊎_elim, List, [], ◌∷◌, ◌++◌, length, get_or, set, Some, None, refl, sym, ap, ◌∙◌, arith, if◌then◌else◌}
use Rattle.std.specs.List.{slice_get}
use Rattle.std.proofs.lemmas.Bool.{cases_lt}
use Rattle.std.proofs.lemmas.List.{get_or-set_same, get_or-set_other}
use Rattle.cx_prim.specs.CellStates.{CellState}
use Rattle.cx_meaning.specs.Designs.{PlainDesign}
use Rattle.cx_meaning.specs.Instances.{Instance, Node, Cells, no_cells, a_primitive, an_instance, Path, State, just, beneath, under, paths_of, paths_below, tree_of, Set, cells_of, instance_at}
use Rattle.cx_meaning.specs.Active.{Active}
use Rattle.cx_meaning.specs.Sights.{Held, seen}
use Rattle.cx_meaning.specs.Cycles.{Goes, outcome_of, state_after, cycle_of}
use Rattle.cx_meaning.proofs.CycleLemmas.{goes_to}
use Rattle.cx_rules.specs.Sizes.{instances_below}
use Rattle.cx_state.specs.Tables.{IsNumber}
use Rattle.cx_state.specs.States.{PlainInstance, no_instance, instance_state, StandsFor, put_path, under_path}
use Rattle.cx_state.proofs.StandLemmas.{past}
use Rattle.cx_state.proofs.ReadLemmas.{Entered, enter, inside_back}
use Rattle.cx_text.proofs.NumberLaws.{same_or}
use Rattle.cx_meaning.proofs.InstancesLemmas.{just_true, just_same}
use Rattle.cx_text.proofs.ListLaws.{nothing_more}
use Rattle.cx_state.proofs.StatesLemmas.{put_empty}
use Rattle.cx_text.proofs.OptionLaws.{none_is_some}

-- A PATH HAS ONE NUMBER
later_head : (cells : Cells) (k j : ℕ) (q : Path) → slice_get (paths_below cells (suc k)) j ≡ Some (k ∷ q) → ⊥
later_head cells k j q at =
    let e : Entered cells (suc k) (λ c. None) [] 0 j (k ∷ q) = enter cells (suc k) (λ c. None) [] 0 j (k ∷ q) at in
    let same : k ∷ q ≡ (suc k + e.entered) ∷ e.rest = e.is in
    let head : k ≡ suc k + e.entered = cc in
    omega (arith, head)

never_empty : (cells : Cells) (k j : ℕ) → slice_get (paths_below cells k) j ≡ Some [] → ⊥
never_empty cells k j at =
    let e : Entered cells k (λ c. None) [] 0 j [] = enter cells k (λ c. None) [] 0 j [] at in
    let same : [] ≡ (k + e.entered) ∷ e.rest = e.is in cc

later : (child : Instance) (rest : Cells) (k j : ℕ) (p : Path) → instances_below child ≤ j → slice_get (paths_below (an_instance child rest) k) j ≡ Some p → slice_get (paths_below rest (suc k)) (j - instances_below child) ≡ Some p
later child rest k j p le at =
    let split : instances_below child + (j - instances_below child) ≡ j = omega arith in
    sym (past child rest k (j - instances_below child)) ∙ ap (slice_get (paths_below (an_instance child rest) k)) split ∙ at

mutual
  pub one_number : (i : Instance) (m n : ℕ) (p : Path) → slice_get (paths_of i) m ≡ Some p → slice_get (paths_of i) n ≡ Some p → m ≡ n
  one_number (Node part cells) zero zero p a b = refl
  one_number (Node part cells) zero (suc n) p a b = absurd (never_empty cells 0 n (b ∙ sym a))
  one_number (Node part cells) (suc m) zero p a b = absurd (never_empty cells 0 m (a ∙ sym b))
  one_number (Node part cells) (suc m) (suc n) p a b = ap suc (one_below cells 0 m n p a b)

  one_below : (cells : Cells) (k m n : ℕ) (p : Path) → slice_get (paths_below cells k) m ≡ Some p → slice_get (paths_below cells k) n ≡ Some p → m ≡ n
  one_below no_cells k m n p a b = absurd (none_is_some p a)
  one_below (a_primitive row rest) k m n p a b = one_below rest (suc k) m n p a b
  one_below (an_instance child rest) k m n p a b =
      ⊎_elim
      (λ m_lt.
      let x = inside_back child rest k m p m_lt a in
      ⊎_elim
      (λ n_lt.
      let y = inside_back child rest k n p n_lt b in
      let same : y.0 ≡ x.0 = (let heads : k ∷ y.0 ≡ k ∷ x.0 = y.2 ∙ sym x.2 in cc) in
      one_number child m n x.0 x.1 (y.1 ∙ ap (λ q. Some q) same))
      (λ n_le. absurd (later_head rest k (n - instances_below child) x.0 (later child rest k n p n_le b ∙ ap (λ q. Some q) (sym x.2))))
      (cases_lt n (instances_below child)))
      (λ m_le.
      ⊎_elim
      (λ n_lt. let y = inside_back child rest k n p n_lt b in absurd (later_head rest k (m - instances_below child) y.0 (later child rest k m p m_le a ∙ ap (λ q. Some q) (sym y.2))))
      (λ n_le.
      let rest_same : m - instances_below child ≡ n - instances_below child =
      one_below rest (suc k) (m - instances_below child) (n - instances_below child) p (later child rest k m p m_le a) (later child rest k n p n_le b) in
      omega (arith, rest_same, m_le, n_le))
      (cases_lt n (instances_below child)))
      (cases_lt m (instances_below child))

pub put_there : (path : Path) (own s : State) (c : ℕ) (q : Path) → put_path path own s (path ++ c ∷ q) ≡ own (c ∷ q)
put_there [] own s c q = refl
put_there (x ∷ path) own s c q =
    ap (λ b. if b then beneath (put_path path own (under x s)) (x ∷ (path ++ c ∷ q)) else s (x ∷ (path ++ c ∷ q))) (just_same x) ∙ put_there path own (under x s) c q

chosen : (b : Bool) (u v w : CellState) → (b ≡ true → u ≡ w) → v ≡ w → (if b then u else v) ≡ w
chosen true u v w h e = h refl
chosen false u v w h e = e

snoc_deep : (own s : State) (p : Path) (c : ℕ) → p ≢ [] → ((y e : ℕ) (q : Path) → own (y ∷ e ∷ q) ≡ s (y ∷ e ∷ q)) → own (p ++ c ∷ []) ≡ s (p ++ c ∷ [])
snoc_deep own s [] c ne h = absurd (ne refl)
snoc_deep own s (y ∷ []) c ne h = h y c []
snoc_deep own s (y ∷ z ∷ p) c ne h = h y z (p ++ c ∷ [])

pub put_elsewhere : (path p : Path) (c : ℕ) (own s : State) → p ≢ path → own [] ≡ s path → ((y e : ℕ) (q : Path) → own (y ∷ e ∷ q) ≡ s (path ++ y ∷ e ∷ q)) → put_path path own s (p ++ c ∷ []) ≡ s (p ++ c ∷ [])
put_elsewhere [] p c own s ne here deeper = snoc_deep own s p c ne deeper
put_elsewhere (x ∷ path) [] c own s ne here deeper =
    chosen (just x c) (put_path path own (under x s) []) (s (c ∷ [])) (s (c ∷ []))
    (λ e. put_empty path own (under x s) (λ none. here ∙ ap (λ r. s (x ∷ r)) none) ∙ ap (λ k. s (k ∷ [])) (just_true x c e)) refl
put_elsewhere (x ∷ path) (y ∷ p) c own s ne here deeper =
    chosen (just x y) (put_path path own (under x s) (p ++ c ∷ [])) (s (y ∷ (p ++ c ∷ []))) (s (y ∷ (p ++ c ∷ [])))
    (λ e.
    let same : x ≡ y = just_true x y e in
    put_elsewhere path p c own (under x s) (λ f. ne (ap (λ k. k ∷ p) (sym same) ∙ ap (λ r. x ∷ r) f)) here deeper ∙ ap (λ k. s (k ∷ (p ++ c ∷ []))) same)
    refl

pub changed : (d : PlainDesign) (rows : List PlainInstance) (s after : State) (n : ℕ) (path : Path) (new : PlainInstance) → n < length rows → StandsFor (tree_of d) rows s → IsNumber d n path
    → ((c : ℕ) (held : CellState) → get_or new.cells c None ≡ Some held → after (c ∷ []) ≡ held)
    → after [] ≡ s path → ((c e : ℕ) (below : Path) → after (c ∷ e ∷ below) ≡ s (path ++ c ∷ e ∷ below))
    → StandsFor (tree_of d) (set rows n new) (put_path path after s)
changed d rows s after n path new lt stands at own here deeper m c p held at_m is =
    ⊎_elim
    (λ (e : m ≡ n).
    let same : p ≡ path = (let f : Some p ≡ Some path = sym at_m ∙ ap (slice_get (paths_of (tree_of d))) e ∙ at in cc) in
    let row : instance_state (set rows n new) m ≡ new = ap (instance_state (set rows n new)) e ∙ get_or-set_same rows n new no_instance lt in
    ap (λ q. put_path path after s (q ++ c ∷ [])) same ∙ put_there path after s c [] ∙ own c held (ap (λ (x : PlainInstance). get_or x.cells c None) (sym row) ∙ is))
    (λ (ne : m ≢ n).
    let row : instance_state (set rows n new) m ≡ instance_state rows m = get_or-set_other rows n m new no_instance ne in
    put_elsewhere path p c after s (λ f. ne (one_number (tree_of d) m n path (at_m ∙ ap (λ q. Some q) f) at)) here deeper
    ∙ stands m c p held at_m (ap (λ (x : PlainInstance). get_or x.cells c None) (sym row) ∙ is))
    (same_or m n)

pub cycle_changed : (d : PlainDesign) (rows : List PlainInstance) (s after : State) (n : ℕ) (path : Path) (new : PlainInstance) (held : Held) (act : Active) (listed : Set) → n < length rows → StandsFor (tree_of d) rows s → IsNumber d n path
    → cycle_of (instance_at (tree_of d) path) held act listed (under_path path s) ≡ Goes after
    → ((c : ℕ) (kept : CellState) → get_or new.cells c None ≡ Some kept → after (c ∷ []) ≡ kept)
    → StandsFor (tree_of d) (set rows n new) (put_path path after s)
cycle_changed d rows s after n path new held act listed lt stands at goes own =
    let u : State = state_after (outcome_of listed (seen (instance_at (tree_of d) path) held act (under_path path s)) (cells_of (instance_at (tree_of d) path)) (under_path path s)) (under_path path s) in
    let same : u ≡ after = (goes_to _ u after goes).1 in
    changed d rows s after n path new lt stands at own
    (ap (λ (v : State). v []) (sym same) ∙ ap s (nothing_more path))
    (λ c e below. ap (λ (v : State). v (c ∷ e ∷ below)) (sym same))
