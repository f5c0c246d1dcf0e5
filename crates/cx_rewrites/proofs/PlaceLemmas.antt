-- WHAT IS SEEN AND WHAT A CYCLE DOES hangs on no place, but for the order of assignments.
use Rattle.std.proofs.Common.{◌≡◌, ℕ, zero, suc, Bool, true, false, List, [], ◌∷◌, ◌++◌, length, map, Option, Some, None, refl, sym, ap, ◌∙◌}
use Rattle.std.proofs.Math.Path.{fun_ext}
use Rattle.cx_prim.specs.CellStates.{CellState}
use Rattle.cx_prim.specs.Rows.{Row}
use Rattle.cx_meaning.specs.declared.ports.PortRef.{PortRef}
use Rattle.cx_meaning.specs.declared.ports.PortRef.TheVariants as ports
use Rattle.cx_meaning.specs.declared.sights.Seen.{Seen}
use Rattle.cx_meaning.specs.declared.sights.Seen.TheVariants.{Undefined}
use Rattle.cx_meaning.specs.Rows.{side_of}
use Rattle.cx_prim.specs.declared.ports.Side.{Side}
use Rattle.cx_prim.specs.declared.ports.Side.TheVariants as sides
use Rattle.cx_meaning.specs.Designs.{PlainGuard, Always, Atom, Negation, All, Any, Compared, Within, PlainGuards, no_guards, a_guard, PlainComponent}
use Rattle.cx_meaning.specs.Instances.{Instance, Node, Cells, no_cells, a_primitive, an_instance, At, Nothing, OfRow, OfInstance, part_of, cells_of, cell_at, cell_count, Path, State, under, idle_at, idle_below, idle}
use Rattle.cx_meaning.specs.Active.{Active, nothing, Acting, Owned, source_order, offset_of, if_acting, same_port, if_target, acting, drivers}
use Rattle.cx_meaning.specs.Truths.{not_truth, and_truth, or_truth}
use Rattle.cx_meaning.specs.Sights.{Look, Below, Held, unheld, bit_of, guard_truth, all_truth, any_truth, take_guard, taken, settle, target_seen, PartPort, Go, AnInput, AnOutput, ItsDone, later_port, part_port, side_step, part_step, cell_step, step, approach, numbered, ports_of_cells, ports_of, steps_enough, seen, outputs_below}
use Rattle.cx_meaning.specs.Cycles.{Outcome, outcome_at, outcome_of, ended, every_cell, cycle_by, cycle}
use Rattle.cx_rewrites.specs.Places.{unplaced_guard, unplaced_guards, unplaced_assign, unplaced_owned, unplaced_acting, SamePart}

-- guards and targets
module _ (look : Look) where
  mutual
    guard_truth-unplaced : (at : ℕ) (g : PlainGuard) → guard_truth look at (unplaced_guard g) ≡ guard_truth look at g
    guard_truth-unplaced at Always = refl
    guard_truth-unplaced at (Atom p) = refl
    guard_truth-unplaced at (Negation g) = ap not_truth (guard_truth-unplaced at g)
    guard_truth-unplaced at (All gs) = all_truth-unplaced at gs
    guard_truth-unplaced at (Any gs) = any_truth-unplaced at gs
    guard_truth-unplaced at (Compared c a b) = refl
    guard_truth-unplaced at (Within from to) = refl

    all_truth-unplaced : (at : ℕ) (gs : PlainGuards) → all_truth look at (unplaced_guards gs) ≡ all_truth look at gs
    all_truth-unplaced at no_guards = refl
    all_truth-unplaced at (a_guard g gs) = ap (λ x. and_truth x (all_truth look at (unplaced_guards gs))) (guard_truth-unplaced at g) ∙ ap (and_truth (guard_truth look at g)) (all_truth-unplaced at gs)

    any_truth-unplaced : (at : ℕ) (gs : PlainGuards) → any_truth look at (unplaced_guards gs) ≡ any_truth look at gs
    any_truth-unplaced at no_guards = refl
    any_truth-unplaced at (a_guard g gs) = ap (λ x. or_truth x (any_truth look at (unplaced_guards gs))) (guard_truth-unplaced at g) ∙ ap (or_truth (guard_truth look at g)) (any_truth-unplaced at gs)

  taken-unplaced : (acts : List Acting) → taken look (map unplaced_acting acts) ≡ taken look acts
  taken-unplaced [] = refl
  taken-unplaced (a ∷ rest) =
      ap (λ g. take_guard g a.assign.source.port (taken look (map unplaced_acting rest))) (guard_truth-unplaced a.offset a.assign.guard)
      ∙ ap (take_guard (guard_truth look a.offset a.assign.guard) a.assign.source.port) (taken-unplaced rest)

  target_seen-unplaced : (undriven : Seen) (acts : List Acting) → target_seen undriven look (map unplaced_acting acts) ≡ target_seen undriven look acts
  target_seen-unplaced undriven acts = ap (settle undriven look) (taken-unplaced acts)

pub acting-unplaced : (act : Active) (p : PortRef) (list : List Owned) → acting act p (map unplaced_owned list) ≡ map unplaced_acting (acting act p list)
acting-unplaced act p [] = refl
acting-unplaced act p (o ∷ rest) = of_target (same_port o.assign.target p) (acting-unplaced act p rest)
  where
    of_offset : (k : Option ℕ) → acting act p (map unplaced_owned rest) ≡ map unplaced_acting (acting act p rest)
        → if_acting k (unplaced_assign o.assign) (acting act p (map unplaced_owned rest)) ≡ map unplaced_acting (if_acting k o.assign (acting act p rest))
    of_offset None e = e
    of_offset (Some k) e = ap (λ list. record { offset = k; assign = unplaced_assign o.assign } ∷ list) e

    of_target : (t : Bool) → acting act p (map unplaced_owned rest) ≡ map unplaced_acting (acting act p rest)
        → if_target t act (unplaced_owned o) (acting act p (map unplaced_owned rest)) ≡ map unplaced_acting (if_target t act o (acting act p rest))
    of_target true e = of_offset (offset_of act o.owner) e
    of_target false e = e

-- THE SAME TREE apart from places
abbrev mutual
  pub SameTree : Instance → Instance → Type 0
  SameTree (Node part cells) (Node other more) = SamePart part other × SameCells cells more

  pub SameCells : Cells → Cells → Type 0
  SameCells no_cells no_cells = Unit {0}
  SameCells no_cells (a_primitive twin more) = ⊥
  SameCells no_cells (an_instance twin more) = ⊥
  SameCells (a_primitive row rest) no_cells = ⊥
  SameCells (a_primitive row rest) (a_primitive twin more) = (row ≡ twin) × SameCells rest more
  SameCells (a_primitive row rest) (an_instance twin more) = ⊥
  SameCells (an_instance child rest) no_cells = ⊥
  SameCells (an_instance child rest) (a_primitive twin more) = ⊥
  SameCells (an_instance child rest) (an_instance twin more) = SameTree child twin × SameCells rest more

-- what stands at a number
pub data SameAt : At → At → Type 0 where
  none_there : SameAt Nothing Nothing
  a_row_there : {row twin : Row} → row ≡ twin → SameAt (OfRow row) (OfRow twin)
  a_child_there : {child twin : Instance} → SameTree child twin → SameAt (OfInstance child) (OfInstance twin)

pub same_at : (cells more : Cells) → SameCells cells more → (c : ℕ) → SameAt (cell_at cells c) (cell_at more c)
same_at no_cells no_cells h c = none_there
same_at no_cells (a_primitive twin more) h c = absurd h
same_at no_cells (an_instance twin more) h c = absurd h
same_at (a_primitive row rest) no_cells h c = absurd h
same_at (a_primitive row rest) (a_primitive twin more) (e, h) zero = a_row_there e
same_at (a_primitive row rest) (a_primitive twin more) (e, h) (suc c) = same_at rest more h c
same_at (a_primitive row rest) (an_instance twin more) h c = absurd h
same_at (an_instance child rest) no_cells h c = absurd h
same_at (an_instance child rest) (a_primitive twin more) h c = absurd h
same_at (an_instance child rest) (an_instance twin more) (t, h) zero = a_child_there t
same_at (an_instance child rest) (an_instance twin more) (t, h) (suc c) = same_at rest more h c

pub same_parts : (i j : Instance) → SameTree i j → SamePart (part_of i) (part_of j)
same_parts (Node part cells) (Node other more) (h, hs) = h

pub same_cells : (i j : Instance) → SameTree i j → SameCells (cells_of i) (cells_of j)
same_cells (Node part cells) (Node other more) (h, hs) = hs

pub part_port-same : (part other : PlainComponent) → SamePart part other → (p : ℕ) → part_port part p ≡ part_port other p
part_port-same part other same zero = refl
part_port-same part other same (suc n) = ap (λ list. later_port (length list) (length part.outputs) n) same.inputs ∙ ap (λ list. later_port (length other.inputs) (length list) n) same.outputs

-- A STEP is the same
module _ (part other : PlainComponent) (same : SamePart part other) (act : Active) (s : State) (look : Look) (below : Below) where
  target_same : (undriven : Seen) (p : PortRef) → target_seen undriven look (drivers part act p) ≡ target_seen undriven look (drivers other act p)
  target_same undriven p =
      sym (target_seen-unplaced look undriven (drivers part act p))
      ∙ ap (target_seen undriven look) (sym (acting-unplaced act p (source_order part)) ∙ ap (acting act p) same.order ∙ acting-unplaced act p (source_order other))
      ∙ target_seen-unplaced look undriven (drivers other act p)

  side_same : (row : Row) (c p : ℕ) (side : Side) → side_step part act s look below row c p side ≡ side_step other act s look below row c p side
  side_same row c p sides.Enable = target_same (bit_of false) (ports.Cell c p)
  side_same row c p sides.Plain = target_same Undefined (ports.Cell c p)
  side_same row c p sides.Output = refl
  side_same row c p sides.Registered = refl

  part_same : (c p : ℕ) (port : PartPort) → part_step part act s look below c p port ≡ part_step other act s look below c p port
  part_same c p Go = target_same (bit_of false) (ports.Cell c p)
  part_same c p (AnInput n) = target_same Undefined (ports.Cell c p)
  part_same c p (AnOutput n) = refl
  part_same c p ItsDone = refl

  cell_same : (c p : ℕ) (at to : At) → SameAt at to → cell_step part act s look below c p at ≡ cell_step other act s look below c p to
  cell_same c p at to none_there = refl
  cell_same c p at to (a_row_there {row = row} {twin = twin} e) = side_same row c p (side_of row p) ∙ ap (λ r. side_step other act s look below r c p (side_of r p)) e
  cell_same c p at to (a_child_there {child = child} {twin = twin} t) =
      part_same c p (part_port (part_of child) p) ∙ ap (part_step other act s look below c p) (part_port-same (part_of child) (part_of twin) (same_parts child twin t) p)

step-same : (i j : Instance) → SameTree i j → (held : Held) (act : Active) (s : State) (look : Look) (below : Below) (p : PortRef) → step i held act s look below p ≡ step j held act s look below p
step-same i j t held act s look below (ports.Cell c p) =
    cell_same (part_of i) (part_of j) (same_parts i j t) act s look below c p (cell_at (cells_of i) c) (cell_at (cells_of j) c) (same_at (cells_of i) (cells_of j) (same_cells i j t) c)
step-same i j t held act s look below (ports.Input n) = refl
step-same i j t held act s look below (ports.Output n) = target_same (part_of i) (part_of j) (same_parts i j t) act s look below Undefined (ports.Output n)
step-same i j t held act s look below (ports.Done g) = target_same (part_of i) (part_of j) (same_parts i j t) act s look below (bit_of false) (ports.Done g)
step-same i j t held act s look below (ports.Literal w v) = refl

approach-same : (i j : Instance) → SameTree i j → (held : Held) (act : Active) (s : State) (below : Below) (n : ℕ) (p : PortRef) → approach i held act s below n p ≡ approach j held act s below n p
approach-same i j t held act s below zero p = refl
approach-same i j t held act s below (suc n) p =
    step-same i j t held act s (approach i held act s below n) below p ∙ ap (λ look. step j held act s look below p) (fun_ext (λ q. approach-same i j t held act s below n q))

ports_of_cells-same : (cells more : Cells) → SameCells cells more → (c : ℕ) → ports_of_cells cells c ≡ ports_of_cells more c
ports_of_cells-same no_cells no_cells h c = refl
ports_of_cells-same no_cells (a_primitive twin more) h c = absurd h
ports_of_cells-same no_cells (an_instance twin more) h c = absurd h
ports_of_cells-same (a_primitive row rest) no_cells h c = absurd h
ports_of_cells-same (a_primitive row rest) (a_primitive twin more) (e, h) c =
    ap (λ (r : Row). numbered c (length r.ports) ++ ports_of_cells rest (suc c)) e ∙ ap (λ list. numbered c (length twin.ports) ++ list) (ports_of_cells-same rest more h (suc c))
ports_of_cells-same (a_primitive row rest) (an_instance twin more) h c = absurd h
ports_of_cells-same (an_instance child rest) no_cells h c = absurd h
ports_of_cells-same (an_instance child rest) (a_primitive twin more) h c = absurd h
ports_of_cells-same (an_instance child rest) (an_instance twin more) (t, h) c = ports_of_cells-same rest more h (suc c)

targets-unplaced : (list : List Owned) → map (λ o. o.assign.target) (map unplaced_owned list) ≡ map (λ o. o.assign.target) list
targets-unplaced [] = refl
targets-unplaced (o ∷ rest) = ap (λ list. o.assign.target ∷ list) (targets-unplaced rest)

ports_of-same : (i j : Instance) → SameTree i j → ports_of i ≡ ports_of j
ports_of-same i j t =
    ap (λ list. list ++ map (λ o. o.assign.target) (source_order (part_of i))) (ports_of_cells-same (cells_of i) (cells_of j) (same_cells i j t) 0)
    ∙ ap (λ list. ports_of_cells (cells_of j) 0 ++ list)
    (sym (targets-unplaced (source_order (part_of i))) ∙ ap (map (λ o. o.assign.target)) (same_parts i j t).order ∙ targets-unplaced (source_order (part_of j)))

-- WHAT IS SEEN is the same
mutual
  pub seen-same : (i j : Instance) → SameTree i j → (held : Held) (act : Active) (s : State) (p : PortRef) → seen i held act s p ≡ seen j held act s p
  seen-same (Node part cells) (Node other more) (h, hs) held act s p =
      approach-same (Node part cells) (Node other more) (h, hs) held act s (outputs_below cells (λ c. under c s)) (steps_enough (Node part cells)) p
      ∙ ap (λ b. approach (Node other more) held act s b (steps_enough (Node part cells)) p) (fun_ext (λ c. fun_ext (λ n. outputs_below-same cells more hs (λ c. under c s) c n)))
      ∙ ap (λ list. approach (Node other more) held act s (outputs_below more (λ c. under c s)) (suc (length list)) p) (ports_of-same (Node part cells) (Node other more) (h, hs))

  outputs_below-same : (cells more : Cells) → SameCells cells more → (states : ℕ → State) (c n : ℕ) → outputs_below cells states c n ≡ outputs_below more states c n
  outputs_below-same no_cells no_cells h states c n = refl
  outputs_below-same no_cells (a_primitive twin more) h states c n = absurd h
  outputs_below-same no_cells (an_instance twin more) h states c n = absurd h
  outputs_below-same (a_primitive row rest) no_cells h states c n = absurd h
  outputs_below-same (a_primitive row rest) (a_primitive twin more) (e, h) states zero n = refl
  outputs_below-same (a_primitive row rest) (a_primitive twin more) (e, h) states (suc c) n = outputs_below-same rest more h (λ k. states (suc k)) c n
  outputs_below-same (a_primitive row rest) (an_instance twin more) h states c n = absurd h
  outputs_below-same (an_instance child rest) no_cells h states c n = absurd h
  outputs_below-same (an_instance child rest) (a_primitive twin more) h states c n = absurd h
  outputs_below-same (an_instance child rest) (an_instance twin more) (t, h) states zero n = seen-same child twin t unheld nothing (states 0) (ports.Output n)
  outputs_below-same (an_instance child rest) (an_instance twin more) (t, h) states (suc c) n = outputs_below-same rest more h (λ k. states (suc k)) c n

-- A CYCLE is the same
outcome_at-same : (look : Look) (c : ℕ) (at to : At) (d : CellState) → SameAt at to → outcome_at look c at d ≡ outcome_at look c to d
outcome_at-same look c at to d none_there = refl
outcome_at-same look c at to d (a_row_there e) = ap (λ r. outcome_at look c (OfRow r) d) e
outcome_at-same look c at to d (a_child_there t) = refl

cell_count-same : (cells more : Cells) → SameCells cells more → cell_count cells ≡ cell_count more
cell_count-same no_cells no_cells h = refl
cell_count-same no_cells (a_primitive twin more) h = absurd h
cell_count-same no_cells (an_instance twin more) h = absurd h
cell_count-same (a_primitive row rest) no_cells h = absurd h
cell_count-same (a_primitive row rest) (a_primitive twin more) (e, h) = ap suc (cell_count-same rest more h)
cell_count-same (a_primitive row rest) (an_instance twin more) h = absurd h
cell_count-same (an_instance child rest) no_cells h = absurd h
cell_count-same (an_instance child rest) (a_primitive twin more) h = absurd h
cell_count-same (an_instance child rest) (an_instance twin more) (t, h) = ap suc (cell_count-same rest more h)

pub cycle-same : (i j : Instance) → SameTree i j → (held : Held) (act : Active) (s : State) → cycle i held act s ≡ cycle j held act s
cycle-same i j t held act s =
    ap (λ look. cycle_by every_cell look (cells_of i) s) (fun_ext (λ p. seen-same i j t held act s p))
    ∙ ap (λ (outcome : ℕ → Outcome). ended outcome (cell_count (cells_of i)) s)
    (fun_ext (λ c. outcome_at-same (seen j held act s) c (cell_at (cells_of i) c) (cell_at (cells_of j) c) (s (c ∷ [])) (same_at (cells_of i) (cells_of j) (same_cells i j t) c)))
    ∙ ap (λ n. ended (outcome_of every_cell (seen j held act s) (cells_of j) s) n s) (cell_count-same (cells_of i) (cells_of j) (same_cells i j t))

-- AN IDLE EDGE is the same
mutual
  idle_at-same : (i j : Instance) → SameTree i j → (path : Path) (d : CellState) → idle_at i path d ≡ idle_at j path d
  idle_at-same (Node part cells) (Node other more) (h, hs) [] d = refl
  idle_at-same (Node part cells) (Node other more) (h, hs) (c ∷ path) d = idle_below-same cells more hs c path d

  idle_below-same : (cells more : Cells) → SameCells cells more → (c : ℕ) (path : Path) (d : CellState) → idle_below cells c path d ≡ idle_below more c path d
  idle_below-same no_cells no_cells h c path d = refl
  idle_below-same no_cells (a_primitive twin more) h c path d = absurd h
  idle_below-same no_cells (an_instance twin more) h c path d = absurd h
  idle_below-same (a_primitive row rest) no_cells h c path d = absurd h
  idle_below-same (a_primitive row rest) (a_primitive twin more) (e, h) zero [] d = ap (λ (r : Row). r.idle d) e
  idle_below-same (a_primitive row rest) (a_primitive twin more) (e, h) zero (x ∷ path) d = refl
  idle_below-same (a_primitive row rest) (a_primitive twin more) (e, h) (suc c) path d = idle_below-same rest more h c path d
  idle_below-same (a_primitive row rest) (an_instance twin more) h c path d = absurd h
  idle_below-same (an_instance child rest) no_cells h c path d = absurd h
  idle_below-same (an_instance child rest) (a_primitive twin more) h c path d = absurd h
  idle_below-same (an_instance child rest) (an_instance twin more) (t, h) zero path d = idle_at-same child twin t path d
  idle_below-same (an_instance child rest) (an_instance twin more) (t, h) (suc c) path d = idle_below-same rest more h c path d

pub idle-same : (i j : Instance) → SameTree i j → (s : State) → idle i s ≡ idle j s
idle-same i j t s = fun_ext (λ path. idle_at-same i j t path (s path))
