-- What is gathered of an island, by what each timer, point and occurrence adds.
use Rattle.std.proofs.Common.{◌≡◌, ℕ, zero, suc, ◌+◌, ◌*◌, true, false, List, [], ◌∷◌, ◌++◌, length, Option, Some, None, slice_get, refl, ap, ◌∙◌, arith}
use Rattle.cx_text.specs.declared.places.Place.{Place}
use Rattle.cx_meaning.specs.declared.ports.PortRef.{PortRef}
use Rattle.cx_meaning.specs.Designs.{PlainCell, PlainComponent, PlainForm, Empty, Enable, Seq, Par, If, While, Repeat, StaticSeq, StaticPar, StaticIf, StaticRepeat, Timed, PlainStatement, Placed, PlainStatements, no_statements, a_statement}
use Rattle.cx_meaning.specs.Islands.{group_length, form_length, length_of}
use Rattle.cx_static.specs.declared.islands.IslandTimer.{IslandTimer}
use Rattle.cx_static.specs.Lowering.{Gathered, Begin, begin_at, later, if_sampled, timer_cell, with_timer, with_point, with_occurrence, form_gathered, gathered, parts_gathered, arms_gathered, island_gathered}
use Rattle.cx_text.proofs.ListLaws.{get_end, snoc_length, front}

-- of a list with one more, an element is an earlier one or the last
pub data IsFound {A : Type 0} (xs : List A) (y : A) (n : ℕ) (x : A) : Type 0 where
  earlier : slice_get xs n ≡ Some x → IsFound xs y n x
  last : n ≡ length xs → x ≡ y → IsFound xs y n x

some_is : {A : Type 0} (x y : A) → ◌≡◌ {A = Option A} (Some x) (Some y) → y ≡ x
some_is x y e = cc

pub found : {A : Type 0} (xs : List A) (y : A) (n : ℕ) (x : A) → slice_get (xs ++ y ∷ []) n ≡ Some x → IsFound xs y n x
found [] y zero x e = last refl (some_is y x e)
found [] y (suc n) x e = absurd cc
found (z ∷ xs) y zero x e = earlier e
found (z ∷ xs) y (suc n) x e = again (found xs y n x e)
  where
    again : IsFound xs y n x → IsFound (z ∷ xs) y (suc n) x
    again (earlier f) = earlier f
    again (last f same) = last (ap suc f) same

-- WHAT EACH STEP KEEPS all of them keep
module _ (part : PlainComponent) (B : Gathered → Type 0)
    (of_timer : (p outer from to : ℕ) (g : Gathered) → B g → B (with_timer part.place p (Some outer) from to g))
    (of_point : (port : PortRef) (x : Begin) (g : Gathered) → B g → B (with_point port x g))
    (of_occurrence : (group : ℕ) (x : Begin) (n : ℕ) (g : Gathered) → B g → B (with_occurrence group x (Some n) g)) where
  enable_grows : (group : ℕ) (x : Begin) (o : Option ℕ) (g : Gathered) → B g → B (with_occurrence group x o g)
  enable_grows group x None g b = b
  enable_grows group x (Some n) g b = of_occurrence group x n g b

  mutual
    pub form_grows : (form : PlainForm) (x : Begin) (g : Gathered) → B g → B (form_gathered part form x g)
    form_grows Empty x g b = b
    form_grows (Enable group) x g b = enable_grows group x (group_length part group) g b
    form_grows (Seq parts) x g b = b
    form_grows (Par arms) x g b = b
    form_grows (If test comb a c) x g b = b
    form_grows (While test comb a) x g b = b
    form_grows (Repeat count a) x g b = b
    form_grows (StaticSeq written parts) x g b = parts_grow parts x g b
    form_grows (StaticPar written arms) x g b = arms_grow arms x g b
    form_grows (StaticIf written test a c) x g b =
        grows c (if_sampled (length g.points) false x) (gathered part a (if_sampled (length g.points) true x) (with_point test.port x g))
        (grows a (if_sampled (length g.points) true x) (with_point test.port x g) (of_point test.port x g b))
    form_grows (StaticRepeat written count a) x g b =
        grows a (begin_at (length g.timers) 0 x.samples) (with_timer part.place (length_of part a) (Some x.timer) x.at (x.at + count * length_of part a) g)
        (of_timer (length_of part a) x.timer x.at (x.at + count * length_of part a) g b)
    form_grows (Timed k) x g b = b

    pub grows : (s : PlainStatement) (x : Begin) (g : Gathered) → B g → B (gathered part s x g)
    grows (Placed form place) x g b = form_grows form x g b

    pub parts_grow : (ss : PlainStatements) (x : Begin) (g : Gathered) → B g → B (parts_gathered part ss x g)
    parts_grow no_statements x g b = b
    parts_grow (a_statement s ss) x g b = parts_grow ss (later (length_of part s) x) (gathered part s x g) (grows s x g b)

    pub arms_grow : (ss : PlainStatements) (x : Begin) (g : Gathered) → B g → B (arms_gathered part ss x g)
    arms_grow no_statements x g b = b
    arms_grow (a_statement s ss) x g b = arms_grow ss x (gathered part s x g) (grows s x g b)

-- THE CELLS of timers: one behind the other, each behind the cells that were there
pub record AreAligned (base : ℕ) (g : Gathered) : Type 0 where
  pub cells : length g.cells ≡ base + length g.timers
  pub timers : (t : ℕ) (timer : IslandTimer) → slice_get g.timers t ≡ Some timer → timer.cell ≡ base + t

pub timer_aligned : (base p : ℕ) (outer : Option ℕ) (from to : ℕ) (place : Place) (g : Gathered) → AreAligned base g → AreAligned base (with_timer place p outer from to g)
timer_aligned base p outer from to place g b =
    let cells : length g.cells ≡ base + length g.timers = b.cells in
    let more : length (g.cells ++ timer_cell place p ∷ []) ≡ suc (length g.cells) = snoc_length g.cells (timer_cell place p) in
    let also : length (g.timers ++ record { cell = length g.cells; outer = outer; from = from; to = to } ∷ []) ≡ suc (length g.timers) = snoc_length g.timers (record { cell = length g.cells; outer = outer; from = from; to = to }) in
    record { cells = omega arith; timers = λ t timer e. one t timer (found g.timers (record { cell = length g.cells; outer = outer; from = from; to = to }) t timer e) }
  where
    one : (t : ℕ) (timer : IslandTimer) → IsFound g.timers (record { cell = length g.cells; outer = outer; from = from; to = to }) t timer → timer.cell ≡ base + t
    one t timer (earlier f) = b.timers t timer f
    one t timer (last f same) = let c : length g.cells ≡ base + length g.timers = b.cells in ap (λ (z : IslandTimer). z.cell) same ∙ omega arith

module _ (part : PlainComponent) where
  pub gathered_aligned : (base : ℕ) (form : PlainForm) (x : Begin) (g : Gathered) → AreAligned base g → AreAligned base (form_gathered part form x g)
  gathered_aligned base form x g b =
      form_grows part (AreAligned base) (λ p outer from to h c. timer_aligned base p (Some outer) from to part.place h c)
      (λ port y h c. record { cells = c.cells; timers = c.timers }) (λ group y n h c. record { cells = c.cells; timers = c.timers }) form x g b

  pub island_aligned : (form : PlainForm) (cells : List PlainCell) → AreAligned (length cells) (island_gathered part form cells)
  island_aligned form cells =
      gathered_aligned (length cells) form (begin_at 0 0 []) _
      (timer_aligned (length cells) (form_length part form) None 0 (form_length part form) part.place (record { cells = cells; timers = []; points = []; occurrences = [] })
      (record { cells = omega arith; timers = λ t timer e. absurd cc }))

  -- what was among the cells stays there
  abbrev KeepCells : List PlainCell → Gathered → Type 0
  KeepCells cells g = (c : ℕ) (cell : PlainCell) → slice_get cells c ≡ Some cell → slice_get g.cells c ≡ Some cell

  pub gathered_keeps : (cells : List PlainCell) (form : PlainForm) (x : Begin) (g : Gathered) → KeepCells cells g → KeepCells cells (form_gathered part form x g)
  gathered_keeps cells form x g h =
      form_grows part (KeepCells cells) (λ p outer from to k b c cell e. front k.cells (timer_cell part.place p ∷ []) c cell (b c cell e)) (λ port y k b. b) (λ group y n k b. b) form x g h

  pub island_keeps : (form : PlainForm) (cells : List PlainCell) → KeepCells cells (island_gathered part form cells)
  island_keeps form cells =
      gathered_keeps cells form (begin_at 0 0 []) _ (λ c cell e. front cells (timer_cell part.place (form_length part form) ∷ []) c cell e)

  -- THE CELL of each timer is that of a timer
  abbrev pub TimersThere : Gathered → Type 0
  TimersThere g = (t : ℕ) (timer : IslandTimer) → slice_get g.timers t ≡ Some timer → (p : ℕ) × (slice_get g.cells timer.cell ≡ Some (timer_cell part.place p))

  timer_there : (p : ℕ) (outer : Option ℕ) (from to : ℕ) (g : Gathered) → TimersThere g → TimersThere (with_timer part.place p outer from to g)
  timer_there p outer from to g h t timer e = one (found g.timers (record { cell = length g.cells; outer = outer; from = from; to = to }) t timer e)
    where
      one : IsFound g.timers (record { cell = length g.cells; outer = outer; from = from; to = to }) t timer → (q : ℕ) × (slice_get (g.cells ++ timer_cell part.place p ∷ []) timer.cell ≡ Some (timer_cell part.place q))
      one (earlier f) = let k = h t timer f in (k.0, front g.cells (timer_cell part.place p ∷ []) timer.cell (timer_cell part.place k.0) k.1)
      one (last f same) = (p, ap (λ (z : IslandTimer). slice_get (g.cells ++ timer_cell part.place p ∷ []) z.cell) same ∙ get_end g.cells (timer_cell part.place p))

  pub island_there : (form : PlainForm) (cells : List PlainCell) → TimersThere (island_gathered part form cells)
  island_there form cells =
      form_grows part TimersThere (λ p outer from to g h. timer_there p (Some outer) from to g h) (λ port y g h. h) (λ group y n g h. h) form (begin_at 0 0 []) _
      (timer_there (form_length part form) None 0 (form_length part form) (record { cells = cells; timers = []; points = []; occurrences = [] }) (λ t timer e. absurd cc))
