-- Grown states: a tally counts by its numbers, and two arms that have counted apart leave a grown state together.
use Rattle.std.proofs.Common.{◌≡◌, ℕ, suc, ◌+◌, ◌^◌, ◌%◌, ◌<◌, ◌≤◌, Bool, true, false, if◌then◌else◌, List, [], ◌∷◌, refl, sym, ap, ◌∙◌, arith, true≢false}
use Rattle.cx_prim.specs.CellStates.{Register}
use Rattle.cx_meaning.specs.Instances.{Instance, Node, Cells, no_cells, a_primitive, an_instance, cell_count, cells_of, State, Set, under, merge}
use Rattle.cx_text.specs.Members.{In}
use Rattle.cx_rewrites.specs.Tallies.{Tally, plus, at_cell}
use Rattle.cx_profiling.specs.Counters.{Counter, counters}
use Rattle.cx_profiling.specs.Growing.{Grown, GrownCells}

mutual
  pub grown_numbers : (i : Instance) (τ σ : Tally) (s t : State) → ((path : List ℕ) (g : ℕ) → τ path g ≡ σ path g) → Grown i τ s t → Grown i σ s t
  grown_numbers (Node part cells) τ σ s t e (h, k) =
      (cells_numbers cells 0 τ σ s t e h, λ counter at. let r = k counter at in (r.0, r.1 ∙ ap (λ n. Register (n % 2 ^ 64) r.0) (e [] counter.group)))

  cells_numbers : (cells : Cells) (c : ℕ) (τ σ : Tally) (s t : State) → ((path : List ℕ) (g : ℕ) → τ path g ≡ σ path g) → GrownCells cells c τ s t → GrownCells cells c σ s t
  cells_numbers no_cells c τ σ s t e h = tt
  cells_numbers (a_primitive row rest) c τ σ s t e (h, k) = (h, cells_numbers rest (suc c) τ σ s t e k)
  cells_numbers (an_instance child rest) c τ σ s t e (h, k) =
      (grown_numbers child (at_cell c τ) (at_cell c σ) (under c s) (under c t) (λ path g. e (c ∷ path) g) h, cells_numbers rest (suc c) τ σ s t e k)

-- two arms: the sets agree on the old cells, and of each entry only the arm from which its counter is taken has counted
module _ (A B : Set) (a b x y : State) (τ k j : Tally) where
  pub record Apart (i : Instance) : Type 0 where
    pub same : (c : ℕ) → c < cell_count (cells_of i) → B c ≡ A c
    pub later : (c : ℕ) (path : List ℕ) (g : ℕ) → A c ≡ true → j (c ∷ path) g ≡ 0
    pub first : (c : ℕ) (path : List ℕ) (g : ℕ) → A c ≡ false → k (c ∷ path) g ≡ 0
    pub own_later : (counter : Counter) → In (counters i) counter → B counter.register ≡ true → j [] counter.group ≡ 0
    pub own_first : (counter : Counter) → In (counters i) counter → B counter.register ≡ false → k [] counter.group ≡ 0

  state_picks : (c : ℕ) (t u : Bool) → u ≡ t → x (c ∷ []) ≡ a (c ∷ []) → y (c ∷ []) ≡ b (c ∷ []) → (if u then x (c ∷ []) else y (c ∷ [])) ≡ (if t then a (c ∷ []) else b (c ∷ []))
  state_picks c true true e h i = h
  state_picks c true false e h i = absurd (true≢false (sym e))
  state_picks c false true e h i = absurd (true≢false e)
  state_picks c false false e h i = i

  child_picks : (child : Instance) (c : ℕ) (t u : Bool) → u ≡ t → (t ≡ true → (path : List ℕ) (g : ℕ) → j (c ∷ path) g ≡ 0) → (t ≡ false → (path : List ℕ) (g : ℕ) → k (c ∷ path) g ≡ 0)
      → Grown child (at_cell c (plus τ k)) (under c a) (under c x) → Grown child (at_cell c (plus τ j)) (under c b) (under c y)
      → Grown child (at_cell c (plus τ (plus k j))) (λ path. if t then a (c ∷ path) else b (c ∷ path)) (λ path. if u then x (c ∷ path) else y (c ∷ path))
  child_picks child c true true e z w h i =
      grown_numbers child (at_cell c (plus τ k)) (at_cell c (plus τ (plus k j))) (under c a) (under c x) (λ path g. let none : j (c ∷ path) g ≡ 0 = z refl path g in omega (arith, none)) h
  child_picks child c true false e z w h i = absurd (true≢false (sym e))
  child_picks child c false true e z w h i = absurd (true≢false e)
  child_picks child c false false e z w h i =
      grown_numbers child (at_cell c (plus τ j)) (at_cell c (plus τ (plus k j))) (under c b) (under c y) (λ path g. let none : k (c ∷ path) g ≡ 0 = w refl path g in omega (arith, none)) i

  cells_merge : (i : Instance) → Apart i → (cells : Cells) (c : ℕ) → c + cell_count cells ≤ cell_count (cells_of i) → GrownCells cells c (plus τ k) a x → GrownCells cells c (plus τ j) b y
      → GrownCells cells c (plus τ (plus k j)) (merge A a b) (merge B x y)
  cells_merge i apart no_cells c le h l = tt
  cells_merge i apart (a_primitive row rest) c le (h, hs) (l, ls) =
      (state_picks c (A c) (B c) (apart.same c (omega (arith, le))) h l, cells_merge i apart rest (suc c) (omega (arith, le)) hs ls)
  cells_merge i apart (an_instance child rest) c le (h, hs) (l, ls) =
      (child_picks child c (A c) (B c) (apart.same c (omega (arith, le))) (λ e path g. apart.later c path g e) (λ e path g. apart.first c path g e) h l, cells_merge i apart rest (suc c) (omega (arith, le)) hs ls)

  counter_picks : (c g : ℕ) (u : Bool) → (u ≡ true → j [] g ≡ 0) → (u ≡ false → k [] g ≡ 0)
      → (d : Bool) × (x (c ∷ []) ≡ Register (plus τ k [] g % 2 ^ 64) d) → (d : Bool) × (y (c ∷ []) ≡ Register (plus τ j [] g % 2 ^ 64) d)
      → (d : Bool) × ((if u then x (c ∷ []) else y (c ∷ [])) ≡ Register (plus τ (plus k j) [] g % 2 ^ 64) d)
  counter_picks c g true z w (d, h) (f, l) = (d, h ∙ ap (λ n. Register (n % 2 ^ 64) d) (let none : j [] g ≡ 0 = z refl in omega (arith, none)))
  counter_picks c g false z w (d, h) (f, l) = (f, l ∙ ap (λ n. Register (n % 2 ^ 64) f) (let none : k [] g ≡ 0 = w refl in omega (arith, none)))

  -- WHAT TWO ARMS LEAVE TOGETHER
  pub grown_merge : (i : Instance) → Apart i → Grown i (plus τ k) a x → Grown i (plus τ j) b y → Grown i (plus τ (plus k j)) (merge A a b) (merge B x y)
  grown_merge (Node part cells) apart (h, hc) (l, lc) = (
    cells_merge (Node part cells) apart cells 0 (omega arith) h l,
    λ counter at. counter_picks counter.register counter.group (B counter.register) (λ e. apart.own_later counter at e) (λ e. apart.own_first counter at e) (hc counter at) (lc counter at),
  )
