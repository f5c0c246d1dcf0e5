-- A PROMOTED GROUP GOES IN STEP: a cycle of the old group that goes on is one of the new one, with the same state after it, and the cell's
-- done ends both.
use Rattle.std.specs.Prelude.{◌≡◌, ◌⊎◌, ◌<◌, ◌≤◌, ℕ, zero, suc, ◌==◌, Bool, true, false, [], ◌∷◌, Option, Some, None, Result, Ok, length, eqb, refl}
use Rattle.std.proofs.Common.{sym, ap, ◌∙◌, subst, inl, inr, arith}
use Rattle.std.proofs.Math.Path.{fun_ext}
use Rattle.std.proofs.lemmas.Bool.{eqb-true, eqb-false}
use Rattle.cx_bits.specs.BitVector.{BitVector}
use Rattle.cx_bits.specs.Operators as operators
use Rattle.cx_prim.specs.CellStates.{CellState}
use Rattle.cx_prim.specs.Rows.{number_of, is_on, Row, edge_of, is_enable_side}
use Rattle.cx_meaning.specs.declared.ports.PortRef.TheVariants as ports
use Rattle.cx_meaning.specs.declared.sights.Seen.TheVariants as sights
use Rattle.cx_meaning.specs.declared.sights.FaultKind.TheVariants as faults
use Rattle.cx_meaning.specs.Rows.{side_of}
use Rattle.cx_meaning.specs.Designs.{group_at}
use Rattle.cx_meaning.specs.Instances.{Instance, Node, At, Nothing, OfRow, OfInstance, part_of, cells_of, cell_at, cell_count, Path, State, idle, idle_at, IsSettled}
use Rattle.cx_meaning.specs.Active.{Active, group, entries}
use Rattle.cx_meaning.specs.Truths.{Truth, One, Zero, truth_of}
use Rattle.cx_meaning.specs.Truths as truths
use Rattle.cx_meaning.specs.Sights.{Look, Held, bit_of, of_option, seen}
use Rattle.cx_meaning.specs.Cycles.{Fault, fault_at, Outcome, Next, cell_outcome, outcome_at, outcome_of, first_fault, stepped, state_after, Ended, Goes, Faults, unless_fault, ended, every_cell, cycle}
use Rattle.cx_meaning.specs.Answers.{turn_then, turns_of}
use Rattle.cx_meaning.specs.Answers as answers
use Rattle.cx_meaning.specs.Islands.{turn_of}
use Rattle.cx_meaning.specs.Calls.{hole_turn, group_turn}
use Rattle.cx_meaning.proofs.CycleLemmas.{goes_to, each_steps, row_within, next_is}
use Rattle.cx_meaning.proofs.CyclesLemmas.{turn_goes}
use Rattle.cx_meaning.proofs.InstancesLemmas.{row_is, top_idle, nothing_row, instance_row}
use Rattle.cx_meaning.proofs.RunningLemmas.{idle_settles}
use Rattle.cx_frames.proofs.CycleLemmas.{idle_at-row}
use Rattle.cx_frames.proofs.QuietLemmas.{quiet_outcome}
use Rattle.cx_promotion.specs.Made.{IsPromoted}
use Rattle.cx_promotion.proofs.RowCounts.{IsReady, HasLeft, Counts, RowCounts, row_counts}
use Rattle.cx_promotion.proofs.RowReady.{ReadyLooksIdle, row_ready, SettledIsReady, row_settled}
use Rattle.cx_promotion.proofs.RowStarts.{Starts, row_starts}
use Rattle.cx_promotion.proofs.Twins.{Twins, beside_each, twin_cells, TwinAt, none_there, a_row_there, a_child_there, twins_at, cell_count-twin}
use Rattle.cx_promotion.proofs.MadeBeside.{KindAt, no_cell, a_row, a_part, MadeBeside}
use Rattle.cx_promotion.proofs.Shapes.{Shape}
use Rattle.cx_promotion.proofs.Steps.{Stepped, stepped_by, outcome_alike}
use Rattle.cx_promotion.proofs.Near.{AreReady, Near, near_itself, idle_of_other, ready_near}
use Rattle.cx_promotion.proofs.GroupSeen.{shape, row_looks, hole_seen, done_seen, none_seen, enables_alike, foreign_zero, started, plain_seen}
use Rattle.cx_promotion.proofs.Chains.{InStep}
use Rattle.cx_promotion.proofs.Together.{in_step}
use Rattle.cx_promotion.proofs.Runs.{entry, one_cycle}

ok_is : (a b : CellState) → ◌≡◌ {A = Result CellState ℕ} (Ok a) (Ok b) → a ≡ b
ok_is a b e = cc

edge_next : (o : Option ℕ) (made after : CellState) → edge_of o made ≡ Ok after → made ≡ after
edge_next None made after e = ok_is made after e
edge_next (Some port) made after e = absurd (cc)

value_is : (a b : BitVector) → sights.Value a ≡ sights.Value b → a ≡ b
value_is a b e = cc

other_path : (c d : ℕ) → ◌≡◌ {A = Path} (d ∷ []) (c ∷ []) → d ≡ c
other_path c d e = cc

longer_path : (c d e : ℕ) (path : Path) → ◌≡◌ {A = Path} (d ∷ e ∷ path) (c ∷ []) → ⊥
longer_path c d e path same = cc

fault_goes : (f : Fault) (a : State) → answers.Faults f ≡ answers.Goes a → ⊥
fault_goes f a e = cc

fault_ends : (f : Fault) (k : ℕ) (end : State) (n : ℕ) → answers.Fault f k ≡ answers.End end n → ⊥
fault_ends f k end n e = cc

before_some : (n : ℕ) → 1 ≤ n → (m : ℕ) × (n ≡ suc m)
before_some zero some = absurd (omega arith)
before_some (suc m) some = (m, refl)

idle_of_none : (i : Instance) (c : ℕ) (d : CellState) → ((row : Row) → cell_at (cells_of i) c ≡ OfRow row → ⊥) → idle_at i (c ∷ []) d ≡ d
idle_of_none (Node part cells) c d none = idle_of_other cells c d none

module _ (i j : Instance) (t : Twins MadeBeside i j) (held : Held) (g : ℕ) (promoted : IsPromoted (beside_each MadeBeside i j t).whole (part_of i) (part_of j) g) where
  abbrev h : MadeBeside i j
  h = beside_each MadeBeside i j t

  abbrev act : Active
  act = group g

  abbrev its : Shape h.whole (group_at (part_of i) g) promoted.0
  its = shape i j t held g 0 promoted

  abbrev look : State → Look
  look s = seen i held act s

  -- ONE CYCLE of both
  module _ (o : ℕ) (s u : State) (near : Near i s u) (zero_done : look s (ports.Cell its.cell its.port) ≡ bit_of false) where
    abbrev more : Active
    more = entries (entry (λ k. k) g o ∷ [])

    abbrev old_outcome : ℕ → Outcome
    old_outcome = outcome_of every_cell (look s) (cells_of i) s

    abbrev new_outcome : ℕ → Outcome
    new_outcome = outcome_of every_cell (seen j held more u) (cells_of j) u

    row_outcome : (c : ℕ) (row : Row) → cell_at (cells_of i) c ≡ OfRow row → cell_outcome (seen j held more u) c row (u (c ∷ [])) ≡ cell_outcome (look s) c row (s (c ∷ []))
    row_outcome c row at =
        outcome_alike (look s) (seen j held more u) c row (u (c ∷ [])) (s (c ∷ [])) (near.cells c row at) (row_looks i j t held g o promoted c row at)
        (λ p enable. enables_alike i j t held g o promoted c p row at enable s u zero_done)
        (λ p plain. plain_seen i j t held g o promoted s u near c p row at plain)

    same_outcome : (c : ℕ) → new_outcome c ≡ old_outcome c
    same_outcome c = by (cell_at (cells_of i) c) (cell_at (cells_of j) c) (twins_at MadeBeside (cells_of i) (cells_of j) (twin_cells MadeBeside i j t) c) refl
      where
        by : (at twin : At) → TwinAt MadeBeside at twin → cell_at (cells_of i) c ≡ at → outcome_at (seen j held more u) c twin (u (c ∷ [])) ≡ outcome_at (look s) c at (s (c ∷ []))
        by at twin none_there is = ap Next (near.others c (λ row e. nothing_row row (sym is ∙ e)))
        by at twin (a_row_there {row = row}) is = row_outcome c row is
        by at twin (a_child_there {child = child} below) is = ap Next (near.others c (λ row e. instance_row child row (sym is ∙ e)))

    module _ (after : State) (goes : cycle i held act s ≡ Goes after) where
      goes_each : (c : ℕ) → (d : CellState) × (old_outcome c ≡ Next d)
      goes_each c = by (cell_at (cells_of i) c) refl
        where
          by : (at : At) → cell_at (cells_of i) c ≡ at → (d : CellState) × (outcome_at (look s) c at (s (c ∷ [])) ≡ Next d)
          by Nothing is = (s (c ∷ []), refl)
          by (OfRow row) is =
              (after (c ∷ []), sym (ap (λ at. outcome_at (look s) c at (s (c ∷ []))) is) ∙ each_steps old_outcome (cell_count (cells_of i)) s after goes c (row_within (cells_of i) c row is))
          by (OfInstance child) is = (s (c ∷ []), refl)

      same_after : (path : Path) → state_after new_outcome u path ≡ state_after old_outcome s path
      same_after [] = near.top
      same_after (c ∷ []) =
          let r = goes_each c in
          ap (stepped (u (c ∷ []))) (same_outcome c ∙ r.1) ∙ sym (ap (stepped (s (c ∷ []))) r.1)
      same_after (c ∷ e ∷ path) = near.below c e path

      pub new_goes : cycle j held more u ≡ Goes after
      new_goes =
          let old = goes_to (first_fault old_outcome 0 (cell_count (cells_of i))) (state_after old_outcome s) after goes in
          ap (λ n. ended new_outcome n u) (sym (cell_count-twin MadeBeside (cells_of i) (cells_of j) (twin_cells MadeBeside i j t)))
          ∙ ap (λ (f : ℕ → Outcome). unless_fault (first_fault f 0 (cell_count (cells_of i))) (state_after new_outcome u)) (fun_ext same_outcome)
          ∙ ap (λ fault. unless_fault fault (state_after new_outcome u)) old.0
          ∙ ap Goes (fun_ext same_after ∙ old.1)

  -- WHERE THE CELL IS THERE
  module _ (at : cell_at (cells_of i) its.cell ≡ OfRow its.row) where
    counts : Counts its.row its.start its.port promoted.0
    counts = let r = h.rows its.cell its.row at in subst RowCounts r.1 (row_counts r.0) its.start its.port promoted.0 its.named its.starting its.length

    -- so many cycles are left, and all but the cell is settled
    pub record Stands (k : ℕ) (s : State) : Type 0 where
      pub left : HasLeft its.row.shape k (s (its.cell ∷ []))
      pub settled : (path : Path) → (path ≡ its.cell ∷ [] → ⊥) → idle i s path ≡ s path

    hole_says : (s : State) → truth_of (look s (ports.Done g)) ≡ truth_of (of_option (its.row.output (s (its.cell ∷ [])) [] its.port))
    hole_says s = ap truth_of (hole_seen i j t held g 0 promoted s ∙ done_seen i j t held g 0 promoted s its.row its.port at its.named)

    turn_is : (s : State) (v : Truth) → truth_of (of_option (its.row.output (s (its.cell ∷ [])) [] its.port)) ≡ v → group_turn i held g s ≡ hole_turn g (cycle i held act s) v
    turn_is s v e = ap (hole_turn g (cycle i held act s)) (hole_says s ∙ e)

    never_ends : (x : Ended) → turn_of x ≡ answers.Ends → ⊥
    never_ends (Goes after) e = cc
    never_ends (Faults fault) e = cc

    waits : (k : ℕ) (s : State) → Stands (suc k) s → group_turn i held g s ≡ answers.Ends → ⊥
    waits k s stands ends = by (counts.waits k (s (its.cell ∷ [])) stands.left)
      where
        by : (its.row.output (s (its.cell ∷ [])) [] its.port ≡ Some (operators.bit_of false)) ⊎ (its.row.output (s (its.cell ∷ [])) [] its.port ≡ None) → ⊥
        by (inl e) = never_ends (cycle i held act s) (sym (turn_is s Zero (ap (λ v. truth_of (of_option v)) e)) ∙ ends)
        by (inr e) = let wrong : answers.Faults (fault_at faults.Undefined (ports.Done g)) ≡ answers.Ends = sym (turn_is s truths.Undefined (ap (λ v. truth_of (of_option v)) e)) ∙ ends in absurd (cc)

    settled_ready : (s : State) (c : ℕ) (row : Row) → cell_at (cells_of i) c ≡ OfRow row → SettledIsReady row
    settled_ready s c row is = let r = h.rows c row is in subst SettledIsReady r.1 (row_settled r.0)

    done_ready : (s : State) → Stands 0 s → (its.row.output (s (its.cell ∷ [])) [] its.port ≡ Some (operators.bit_of true)) × IsReady its.row.shape (s (its.cell ∷ []))
    done_ready s stands = counts.stops (s (its.cell ∷ [])) stands.left

    cell_ready : (s : State) → Stands 0 s → (c : ℕ) (row : Row) → cell_at (cells_of i) c ≡ OfRow row → IsReady row.shape (s (c ∷ []))
    cell_ready s stands c row is = by (eqb c its.cell) refl
      where
        by : (b : Bool) → eqb c its.cell ≡ b → IsReady row.shape (s (c ∷ []))
        by true e =
            let same : c ≡ its.cell = eqb-true c its.cell e in
            let one_row : its.row ≡ row = row_is its.row row (sym at ∙ sym (ap (cell_at (cells_of i)) same) ∙ is) in
            subst (λ d. IsReady row.shape (s (d ∷ []))) (sym same) (subst (λ (r : Row). IsReady r.shape (s (its.cell ∷ []))) one_row (done_ready s stands).1)
        by false e =
            settled_ready s c row is (s (c ∷ []))
            (sym (idle_at-row i c row (s (c ∷ [])) is) ∙ stands.settled (c ∷ []) (λ f. eqb-false c its.cell e (other_path its.cell c f)))

    stops : (s : State) → Stands 0 s → (group_turn i held g s ≡ answers.Ends) × AreReady i s
    stops s stands = (
      turn_is s One (ap (λ v. truth_of (of_option v)) (done_ready s stands).0),
      record { cells = cell_ready s stands; below = λ c e path. stands.settled (c ∷ e ∷ path) (longer_path its.cell c e path) },
    )

    -- after a cycle that goes on
    module _ (k : ℕ) (s after : State) (stands : Stands (suc k) s) (out : its.row.output (s (its.cell ∷ [])) [] its.port ≡ Some (operators.bit_of false)) (goes : cycle i held act s ≡ Goes after) where
      zero_done : look s (ports.Cell its.cell its.port) ≡ bit_of false
      zero_done = done_seen i j t held g 0 promoted s its.row its.port at its.named ∙ ap of_option out

      abbrev outcomes : ℕ → Outcome
      outcomes = outcome_of every_cell (look s) (cells_of i) s

      row_steps : (c : ℕ) (row : Row) → cell_at (cells_of i) c ≡ OfRow row → cell_outcome (look s) c row (s (c ∷ [])) ≡ Next (after (c ∷ []))
      row_steps c row is =
          sym (ap (λ a. outcome_at (look s) c a (s (c ∷ []))) is) ∙ each_steps outcomes (cell_count (cells_of i)) s after goes c (row_within (cells_of i) c row is)

      left_after : state_after outcomes s ≡ after
      left_after = (goes_to (first_fault outcomes 0 (cell_count (cells_of i))) (state_after outcomes s) after goes).1

      step : Stepped (look s) its.cell its.row (s (its.cell ∷ [])) (after (its.cell ∷ []))
      step = stepped_by (look s) its.cell its.row (s (its.cell ∷ [])) (after (its.cell ∷ [])) (row_steps its.cell its.row at)

      start_is : (is_enable_side (side_of its.row its.start) ≡ true) × (its.start < length its.row.ports)
      start_is = let r = h.rows its.cell its.row at in subst Starts r.1 (row_starts r.0) its.start its.starting

      is_started : is_on step.inputs its.start ≡ true
      is_started =
          let r = step.entry its.start start_is.1 start_is.0 in
          let on : look s (ports.Cell its.cell its.start) ≡ bit_of true = started i j t held g 0 promoted its.cell its.start its.row at start_is.0 s zero_done refl in
          let same : r.0 ≡ record { width = 1; value = 1 } = value_is r.0 (record { width = 1; value = 1 }) (sym r.1 ∙ on) in
          ap (λ v. number_of v == 1) (r.2 ∙ ap Some same)

      next_left : HasLeft its.row.shape k (after (its.cell ∷ []))
      next_left =
          subst (HasLeft its.row.shape k) (edge_next (its.row.out_of_range step.inputs) (its.row.next (s (its.cell ∷ [])) step.inputs) (after (its.cell ∷ [])) step.made)
          (counts.goes_on k (s (its.cell ∷ [])) step.inputs stands.left out is_started)

      row_rests : (c : ℕ) (row : Row) → cell_at (cells_of i) c ≡ OfRow row → (c ≡ its.cell → ⊥) → idle i after (c ∷ []) ≡ after (c ∷ [])
      row_rests c row is other =
          let lawful = h.kept.lawful c row is in
          let idles : cell_outcome (look s) c row (s (c ∷ [])) ≡ Next (row.idle (s (c ∷ []))) =
          quiet_outcome row lawful (look s) c (s (c ∷ [])) (λ p side. foreign_zero i j t held g 0 promoted c p row is (ap is_enable_side side) s other) in
          let rested : after (c ∷ []) ≡ row.idle (s (c ∷ [])) = next_is (after (c ∷ [])) (row.idle (s (c ∷ []))) (sym (row_steps c row is) ∙ idles) in
          idle_at-row i c row (after (c ∷ [])) is ∙ ap row.idle rested ∙ lawful.idle_once (s (c ∷ [])) ∙ sym rested

      cell_rests : (c : ℕ) → (c ≡ its.cell → ⊥) → idle i after (c ∷ []) ≡ after (c ∷ [])
      cell_rests c other = by (cell_at (cells_of i) c) refl
        where
          by : (a : At) → cell_at (cells_of i) c ≡ a → idle i after (c ∷ []) ≡ after (c ∷ [])
          by Nothing is = idle_of_none i c (after (c ∷ [])) (λ row e. nothing_row row (sym is ∙ e))
          by (OfRow row) is = row_rests c row is other
          by (OfInstance child) is = idle_of_none i c (after (c ∷ [])) (λ row e. instance_row child row (sym is ∙ e))

      next_settled : (path : Path) → (path ≡ its.cell ∷ [] → ⊥) → idle i after path ≡ after path
      next_settled [] other = top_idle i (after [])
      next_settled (c ∷ []) other = cell_rests c (λ e. other (ap (λ d. d ∷ []) e))
      next_settled (c ∷ e ∷ path) other =
          let kept : after (c ∷ e ∷ path) ≡ s (c ∷ e ∷ path) = sym (ap (λ (z : State). z (c ∷ e ∷ path)) left_after) in
          ap (idle_at i (c ∷ e ∷ path)) kept ∙ stands.settled (c ∷ e ∷ path) other ∙ sym kept

      next_stands : Stands k after
      next_stands = record { left = next_left; settled = next_settled }

    module _ (len : ℕ → ℕ) (len_is : len g ≡ promoted.0) where
      -- a turn that goes on
      goes_on : (k o : ℕ) (s u a : State) → Stands (suc k) s → Near i s u → group_turn i held g s ≡ answers.Goes a → (one_cycle len j held g o u ≡ answers.Goes a) × Stands k a
      goes_on k o s u a stands near goes = by (counts.waits k (s (its.cell ∷ [])) stands.left)
        where
          by : (its.row.output (s (its.cell ∷ [])) [] its.port ≡ Some (operators.bit_of false)) ⊎ (its.row.output (s (its.cell ∷ [])) [] its.port ≡ None)
              → (one_cycle len j held g o u ≡ answers.Goes a) × Stands k a
          by (inl out) =
              let cycles : cycle i held act s ≡ Goes a = turn_goes (cycle i held act s) a (sym (turn_is s Zero (ap (λ v. truth_of (of_option v)) out)) ∙ goes) in
              (ap turn_of (new_goes o s u near (zero_done k s a stands out cycles) a cycles), next_stands k s a stands out cycles)
          by (inr out) =
              absurd (fault_goes (fault_at faults.Undefined (ports.Done g)) a (sym (turn_is s truths.Undefined (ap (λ v. truth_of (of_option v)) out)) ∙ goes))

      rows_ready : (c : ℕ) (row : Row) → cell_at (cells_of i) c ≡ OfRow row → ReadyLooksIdle row
      rows_ready c row is = let r = h.rows c row is in subst ReadyLooksIdle r.1 (row_ready r.0)

      begins : (s u : State) → idle i u ≡ s → AreReady i u → Stands promoted.0 s × Near i s u
      begins s u rests ready = subst (λ z. Stands promoted.0 z × Near i z u) rests (record { left = counts.begins (idle i u (its.cell ∷ [])) at_rest; settled = λ path other. settled path }, ready_near i u rows_ready ready)
        where
          settled : IsSettled i (idle i u)
          settled = idle_settles i h.keeps_idle u

          at_rest : its.row.idle (idle i u (its.cell ∷ [])) ≡ idle i u (its.cell ∷ [])
          at_rest = sym (idle_at-row i its.cell its.row (idle i u (its.cell ∷ [])) at) ∙ settled (its.cell ∷ [])

      there_in_step : InStep (idle i) (group_turn i held) (one_cycle len j held) len (AreReady i) g
      there_in_step =
          let last = before_some promoted.0 counts.some in
          in_step (idle i) (group_turn i held) (one_cycle len j held) len (AreReady i) g Stands (Near i) (record {
            last = last.0;
            length = len_is ∙ last.1;
            begins = λ s u rests ready. subst (λ k. Stands k s × Near i s u) last.1 (begins s u rests ready);
            itself = near_itself i;
            waits = waits;
            stops = stops;
            cycle = goes_on;
          })

  -- where it is not, no run of the group ends
  module _ (at : cell_at (cells_of i) its.cell ≡ Nothing) where
    faulty : (s : State) → group_turn i held g s ≡ answers.Faults (fault_at faults.Undefined (ports.Done g))
    faulty s = ap (λ v. hole_turn g (cycle i held act s) (truth_of v)) (hole_seen i j t held g 0 promoted s ∙ none_seen i j t held g 0 promoted s its.port at)

    nowhere_in_step : (len : ℕ → ℕ) → InStep (idle i) (group_turn i held) (one_cycle len j held) len (AreReady i) g
    nowhere_in_step len s u end zero n rests ready e = absurd (cc)
    nowhere_in_step len s u end (suc m) n rests ready e =
        absurd (fault_ends (fault_at faults.Undefined (ports.Done g)) 0 end n (sym (ap (λ turn. turn_then (idle i) s turn (λ after. turns_of (idle i) (group_turn i held g) after m)) (faulty s)) ∙ e))

  -- THE GROUP IS IN STEP with its cycles in the new design
  pub group_in_step : (len : ℕ → ℕ) → len g ≡ promoted.0 → InStep (idle i) (group_turn i held) (one_cycle len j held) len (AreReady i) g
  group_in_step len len_is = by (cell_at (cells_of i) its.cell) (cell_at (cells_of h.whole) its.cell) (h.cells its.cell) refl its.at
    where
      by : (at other : At) → KindAt at other → cell_at (cells_of i) its.cell ≡ at → other ≡ OfRow its.row → InStep (idle i) (group_turn i held) (one_cycle len j held) len (AreReady i) g
      by at other (no_cell x) is e = nowhere_in_step is len
      by at other (a_row {row = row}) is e = there_in_step (is ∙ e) len len_is
      by at other (a_part {child = child} {other = twin}) is e = absurd (instance_row twin its.row e)
