-- A CYCLE of an instance is one of the shared instance: it goes on where that does, with the same states, or has its fault.
use Rattle.std.proofs.Common.{◌≡◌, ℕ, zero, suc, inl, Bool, true, false, Option, Some, None, [], ◌∷◌, refl, sym, ap, ◌∙◌, subst}
use Rattle.std.specs.Prelude.{if◌then◌else◌}
use Rattle.std.proofs.lemmas.Bool.{both_ways}
use Rattle.cx_text.proofs.BoolLaws.{from_not, not_not}
use Rattle.cx_prim.specs.CellStates.{CellState}
use Rattle.cx_prim.specs.Rows.{Row}
use Rattle.cx_prim.specs.Table.{row_of}
use Rattle.cx_meaning.specs.declared.ports.PortRef.TheVariants as ports
use Rattle.cx_meaning.specs.Instances.{Instance, At, Nothing, OfRow, OfInstance, cell_at, cell_count, cells_of, part_of, Path, State}
use Rattle.cx_meaning.specs.Active.{Active}
use Rattle.cx_meaning.specs.Sights.{Held, seen, is_done_cell}
use Rattle.cx_meaning.specs.Cycles.{Fault, Outcome, Next, Stops, outcome_at, first_of, first_fault, Goes, unless_fault, cycle}
use Rattle.cx_meaning.specs.Islands.{turn_of}
use Rattle.cx_rules.specs.Circles.{IsAcyclic}
use Rattle.cx_rewrites.specs.Tallies.{Tally}
use Rattle.cx_rewrites.specs.Carrying.{Exact, TurnCarried}
use Rattle.cx_rewrites.specs.Standing.{holds, renumbered, renumbered_below}
use Rattle.cx_rewrites.specs.Turns.{CycleCarries}
use Rattle.cx_rewrites.specs.Cells.{comes_to, left_by, CellAlike, OutcomeFollows}
use Rattle.cx_rewrites.proofs.CellLemmas.{same_outcome, cell_left}
use Rattle.cx_sharing.specs.Uses.{is_stateless, is_candidate}
use Rattle.cx_sharing.specs.Giving.{stays, staying, new_cell}
use Rattle.cx_sharing.specs.Following.{has_state, SharedStands, shared_fault}
use Rattle.cx_sharing.proofs.RemainingLemmas.{counted, from_zero}
use Rattle.cx_sharing.proofs.RowLemmas.{stateless_goes}
use Rattle.cx_sharing.proofs.UsedLemmas.{Covers, UsedMeet}
use Rattle.cx_sharing.proofs.TwinLemmas.{IsTwin, row_twin, child_twin, nothing_twin, stays_is, other_stays, state_other}
use Rattle.cx_sharing.proofs.TwinStates.{HoldsAt, itself, in_child, holds_at, of_path, path_of, root_of, row_path, row_state, child_renumbered, told_here}
use Rattle.cx_sharing.proofs.SharedSights.{seen_there}

abbrev pub faulted : (Fault → Fault) → Option Fault → Option Fault
faulted told None = None
faulted told (Some f) = Some (told f)

-- THE FIRST FAULT of cells of which those of a set are left: the others go on
module _ (set : ℕ → Bool) (told : Fault → Fault) (x y : ℕ → Outcome)
    (follow : (c : ℕ) → set c ≡ true → OutcomeFollows told c (x c) (staying set c) (y (staying set c))) (gone : (c : ℕ) → set c ≡ false → (d : CellState) × (x c ≡ Next d)) where
  one_followed : (c e : ℕ) (o w : Outcome) (later more : Option Fault) → OutcomeFollows told c o e w → more ≡ faulted told later → first_of e w more ≡ faulted told (first_of c o later)
  one_followed c e (Next d) w later more (after, is) same = ap (λ v. first_of e v more) is ∙ same
  one_followed c e (Stops kind p) w later more (q, is, same_fault) same = ap (λ v. first_of e v more) is ∙ ap Some (sym same_fault)

  first_fault-left : (c n : ℕ) → first_fault y (staying set c) (counted set c n) ≡ faulted told (first_fault x c n)
  first_fault-left c zero = refl
  first_fault-left c (suc n) = by (set c) refl (first_fault-left (suc c) n)
    where
      by : (b : Bool) → set c ≡ b → first_fault y (if b then suc (staying set c) else staying set c) (counted set (suc c) n) ≡ faulted told (first_fault x (suc c) n)
          → first_fault y (staying set c) (if b then suc (counted set (suc c) n) else counted set (suc c) n) ≡ faulted told (first_of c (x c) (first_fault x (suc c) n))
      by true on later =
          one_followed c (staying set c) (x c) (y (staying set c)) (first_fault x (suc c) n) (first_fault y (suc (staying set c)) (counted set (suc c) n)) (follow c on) later
      by false off later = later ∙ ap (λ o. faulted told (first_of c o (first_fault x (suc c) n))) (sym (gone c off).1)

module _ (i j : Instance) (twin : IsTwin i j) (act more : Active) (offsets : (g : ℕ) → more.offset g ≡ act.offset g)
    (used : ℕ → Type 0) (covers : Covers (part_of i) used act) (meets : UsedMeet (part_of i) used)
    (held : Held) (dones : (c : ℕ) → is_done_cell act.done_cell c ≡ is_done_cell more.done_cell (new_cell (part_of i) c)) (acyclic : IsAcyclic i act) where
  abbrev new : ℕ → ℕ
  new = new_cell (part_of i)

  module _ (s z : State) (stands : SharedStands i s z) where
    -- a primitive that holds something is alike
    row_other : (c : ℕ) (row : Row) → cell_at (cells_of i) c ≡ OfRow row → has_state row ≡ true → is_candidate (part_of i) c ≡ false
    row_other c row at has =
        let r = row_twin row (twin.cells c) at in
        state_other (part_of i) c r.0 r.2 (ap (λ (x : Row). is_stateless x.shape) r.1 ∙ from_not (is_stateless row.shape) has)

    row_alike : (c : ℕ) (row : Row) → cell_at (cells_of i) c ≡ OfRow row → has_state row ≡ true → CellAlike i j held held act more s z c (new c)
    row_alike c row at has = record {
      row = row;
      here = at;
      there = (row_twin row (twin.cells c) at).3;
      state = row_state i s z c row stands at has;
      ports = λ p. seen_there i j twin act more offsets used covers meets held s z stands dones acyclic (ports.Cell c p) (inl (row_other c row at has));
    }

    row_goes : (c : ℕ) (row : Row) → cell_at (cells_of i) c ≡ OfRow row → has_state row ≡ false → comes_to i held act s c ≡ Next (row.idle (s (c ∷ [])))
    row_goes c row at none =
        let r = row_twin row (twin.cells c) at in
        let stateless : is_stateless (row_of r.0).shape ≡ true = ap (λ (x : Row). is_stateless x.shape) r.1 ∙ not_not (is_stateless row.shape) none in
        ap (λ x. outcome_at (seen i held act s) c x (s (c ∷ []))) (at ∙ ap OfRow (sym r.1))
        ∙ stateless_goes r.0 stateless (seen i held act s) c (s (c ∷ []))
        ∙ ap (λ (x : Row). Next (x.idle (s (c ∷ [])))) r.1

    row_goes_there : (c : ℕ) (row : Row) → cell_at (cells_of i) c ≡ OfRow row → has_state row ≡ false → comes_to j held more z (new c) ≡ Next (row.idle (z (new c ∷ [])))
    row_goes_there c row at none =
        let r = row_twin row (twin.cells c) at in
        let e = new c in
        let stateless : is_stateless (row_of r.0).shape ≡ true = ap (λ (x : Row). is_stateless x.shape) r.1 ∙ not_not (is_stateless row.shape) none in
        ap (λ x. outcome_at (seen j held more z) e x (z (e ∷ []))) (r.3 ∙ ap OfRow (sym r.1))
        ∙ stateless_goes r.0 stateless (seen j held more z) e (z (e ∷ []))
        ∙ ap (λ (x : Row). Next (x.idle (z (e ∷ [])))) r.1

    -- WHAT A CELL COMES TO, the cell of its new number does
    of_outcome : (c : ℕ) (o : Outcome) → comes_to j held more z (new c) ≡ o → OutcomeFollows (shared_fault i) c o (new c) (comes_to j held more z (new c))
    of_outcome c (Next d) e = (d, e)
    of_outcome c (Stops kind p) e = (p, e, told_here i kind (ports.Cell c p))

    both_go : (c : ℕ) (d f : CellState) → comes_to i held act s c ≡ Next d → comes_to j held more z (new c) ≡ Next f
        → OutcomeFollows (shared_fault i) c (comes_to i held act s c) (new c) (comes_to j held more z (new c))
    both_go c d f e g = subst (λ o. OutcomeFollows (shared_fault i) c o (new c) (comes_to j held more z (new c))) (sym e) (f, g)

    cell_follows : (c : ℕ) → OutcomeFollows (shared_fault i) c (comes_to i held act s c) (new c) (comes_to j held more z (new c))
    cell_follows c = by (cell_at (cells_of i) c) refl
      where
        by : (at : At) → cell_at (cells_of i) c ≡ at → OutcomeFollows (shared_fault i) c (comes_to i held act s c) (new c) (comes_to j held more z (new c))
        by Nothing is =
            both_go c _ _ (ap (λ x. outcome_at (seen i held act s) c x (s (c ∷ []))) is)
            (ap (λ x. outcome_at (seen j held more z) (new c) x (z (new c ∷ []))) (nothing_twin (twin.cells c) is))
        by (OfInstance child) is =
            both_go c _ _ (ap (λ x. outcome_at (seen i held act s) c x (s (c ∷ []))) is)
            (ap (λ x. outcome_at (seen j held more z) (new c) x (z (new c ∷ []))) (child_twin child (twin.cells c) is).3)
        by (OfRow row) is = of_state (has_state row) refl
          where
            of_state : (b : Bool) → has_state row ≡ b → OutcomeFollows (shared_fault i) c (comes_to i held act s c) (new c) (comes_to j held more z (new c))
            of_state true has = of_outcome c (comes_to i held act s c) (sym (same_outcome i j held held act more s z c (new c) (row_alike c row is has)))
            of_state false none = both_go c _ _ (row_goes c row is none) (row_goes_there c row is none)

    -- a cell that is given goes on
    given_goes : (c : ℕ) → stays (part_of i) c ≡ false → (d : CellState) × (comes_to i held act s c ≡ Next d)
    given_goes c given = by (cell_at (cells_of i) c) refl
      where
        by : (at : At) → cell_at (cells_of i) c ≡ at → (d : CellState) × (comes_to i held act s c ≡ Next d)
        by Nothing is = (s (c ∷ []), ap (λ x. outcome_at (seen i held act s) c x (s (c ∷ []))) is)
        by (OfInstance child) is = (s (c ∷ []), ap (λ x. outcome_at (seen i held act s) c x (s (c ∷ []))) is)
        by (OfRow row) is = of_state (has_state row) refl
          where
            of_state : (b : Bool) → has_state row ≡ b → (d : CellState) × (comes_to i held act s c ≡ Next d)
            of_state true has = absurd (both_ways (stays (part_of i) c) given (other_stays (part_of i) c (row_other c row is has)))
            of_state false none = (row.idle (s (c ∷ [])), row_goes c row is none)

    same_fault : first_fault (comes_to j held more z) 0 (cell_count (cells_of j)) ≡ faulted (shared_fault i) (first_fault (comes_to i held act s) 0 (cell_count (cells_of i)))
    same_fault =
        ap (first_fault (comes_to j held more z) 0) (twin.count ∙ sym (from_zero (stays (part_of i)) (cell_count (cells_of i))))
        ∙ first_fault-left (stays (part_of i)) (shared_fault i) (comes_to i held act s) (comes_to j held more z)
        (λ c on. subst (λ e. OutcomeFollows (shared_fault i) c (comes_to i held act s c) e (comes_to j held more z e)) (stays_is (part_of i) c on) (cell_follows c))
        given_goes 0 (cell_count (cells_of i))

    -- WHAT IS LEFT
    row_left : (c : ℕ) (path : Path) (row : Row) → path ≡ [] → cell_at (cells_of i) c ≡ OfRow row → has_state row ≡ true → cycle i held act s ≡ Goes (left_by i held act s)
        → left_by j held more z (renumbered new_cell i (c ∷ path)) ≡ left_by i held act s (c ∷ path)
    row_left c path row root at has goes =
        ap (λ rest. left_by j held more z (renumbered new_cell i (c ∷ rest))) root
        ∙ ap (left_by j held more z) (row_path i c row at)
        ∙ cell_left i j held held act more s z c (new c) (row_alike c row at has) (left_by i held act s) goes
        ∙ ap (λ rest. left_by i held act s (c ∷ rest)) (sym root)

    child_left : (c : ℕ) (path : Path) (child : Instance) → cell_at (cells_of i) c ≡ OfInstance child → holds has_state child path ≡ true → holds has_state i (c ∷ path) ≡ true
        → left_by j held more z (renumbered new_cell i (c ∷ path)) ≡ left_by i held act s (c ∷ path)
    child_left c [] child at has on = absurd (both_ways (holds has_state child []) (root_of child) has)
    child_left c (e ∷ path) child at has on =
        let there : renumbered new_cell i (c ∷ e ∷ path) ≡ new c ∷ new_cell (part_of child) e ∷ renumbered_below new_cell (cells_of child) e path =
        path_of i c (e ∷ path) ∙ ap (λ rest. new c ∷ rest) (child_renumbered (cells_of i) c child (e ∷ path) at ∙ path_of child e path) in
        ap (left_by j held more z) there ∙ ap z (sym there) ∙ stands (c ∷ e ∷ path) on

    left_stands : cycle i held act s ≡ Goes (left_by i held act s) → SharedStands i (left_by i held act s) (left_by j held more z)
    left_stands goes [] on = absurd (both_ways (holds has_state i []) (root_of i) on)
    left_stands goes (c ∷ path) on = by (holds_at (cells_of i) c path (sym (of_path i c path) ∙ on))
      where
        by : HoldsAt (cells_of i) c path → left_by j held more z (renumbered new_cell i (c ∷ path)) ≡ left_by i held act s (c ∷ path)
        by (itself row at root has) = row_left c path row root at has goes
        by (in_child child at has) = child_left c path child at has on

  -- A CYCLE CARRIES
  pub cycle_shared : (one : Tally) → CycleCarries Exact (λ counted. SharedStands i) (shared_fault i) one i j held held act more
  cycle_shared one before s z stands = by (first_fault (comes_to i held act s) 0 (cell_count (cells_of i))) refl
    where
      there : (x : Option Fault) → first_fault (comes_to i held act s) 0 (cell_count (cells_of i)) ≡ x → cycle j held more z ≡ unless_fault (faulted (shared_fault i) x) (left_by j held more z)
      there x is = ap (λ f. unless_fault f (left_by j held more z)) (same_fault s z stands ∙ ap (faulted (shared_fault i)) is)

      here : (x : Option Fault) → first_fault (comes_to i held act s) 0 (cell_count (cells_of i)) ≡ x → cycle i held act s ≡ unless_fault x (left_by i held act s)
      here x is = ap (λ f. unless_fault f (left_by i held act s)) is

      by : (x : Option Fault) → first_fault (comes_to i held act s) 0 (cell_count (cells_of i)) ≡ x
          → TurnCarried Exact (λ counted. SharedStands i) (shared_fault i) before one (turn_of (cycle i held act s)) (turn_of (cycle j held more z))
      by None is =
          subst (λ e. TurnCarried Exact (λ counted. SharedStands i) (shared_fault i) before one (turn_of e) (turn_of (cycle j held more z))) (sym (here None is))
          (left_by j held more z, ap turn_of (there None is), left_stands s z stands (here None is))
      by (Some f) is =
          subst (λ e. TurnCarried Exact (λ counted. SharedStands i) (shared_fault i) before one (turn_of e) (turn_of (cycle j held more z))) (sym (here (Some f) is))
          (ap turn_of (there (Some f) is))
