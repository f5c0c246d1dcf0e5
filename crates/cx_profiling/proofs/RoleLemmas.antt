-- THE COMPONENTS OF AN INSTRUMENTED DESIGN, each by its role, with their signatures, cells and groups beside those of the design.
use Rattle.std.proofs.Common.{◌≡◌, ℕ, suc, ◌+◌, ◌*◌, ◌<◌, Bool, true, false, if◌then◌else◌, List, [], ◌∷◌, ◌++◌, length, Some, slice_get, nat_eq, refl, sym, ap, ◌∙◌, subst, arith}
use Rattle.std.proofs.lemmas.Bool.{eqb-true, eqb-false}
use Rattle.cx_text.proofs.ListLaws.{front, behind}
use Rattle.cx_prim.specs.declared.names.PrimitiveName.TheVariants as primitives
use Rattle.cx_meaning.specs.Designs.{PlainCell, PlainComponent, PlainDesign, OfPrimitive, component_at}
use Rattle.cx_meaning.specs.Instances.{cells_of}
use Rattle.cx_text.specs.Members.{In}
use Rattle.cx_meaning.proofs.DesignsLemmas.{same_part}
use Rattle.cx_rules.specs.Ports.{component_of}
use Rattle.cx_profiling.specs.Counters.{Counter, counters_from, counters, shown_in}
use Rattle.cx_profiling.specs.FreeNames.{free_names, names_of}
use Rattle.cx_profiling.specs.Instrumented.{is_reached, new_cell, name_at, counter_cells, memory_cell, kept_component, child_component, main_component, with_counts}
use Rattle.cx_profiling.proofs.CounterLemmas.{in_counters, register_at, adder_at}
use Rattle.cx_profiling.proofs.GainedLemmas.{component_at-with_counts}
use Rattle.cx_profiling.proofs.NewAssigns.{counters-is}

-- THE CELLS OF COUNTERS
abbrev pub IsRegister : PlainCell → Type 0
IsRegister cell = cell.kind ≡ OfPrimitive (record { name = primitives.Reg; numbers = 64 ∷ [] })

abbrev pub IsAdder : PlainCell → Type 0
IsAdder cell = cell.kind ≡ OfPrimitive (record { name = primitives.Add; numbers = 64 ∷ [] })

module _ (d : PlainDesign) where
  -- THE ROLE of a component
  pub data Role (k : ℕ) : Type 0 where
    as_main : (names : List (List ℕ)) → k ≡ d.main → component_at (with_counts d) k ≡ main_component d k names → Role k
    as_child : (names : List (List ℕ)) → (k ≡ d.main → ⊥) → is_reached d k ≡ true → component_at (with_counts d) k ≡ child_component d k names → Role k
    as_kept : (k ≡ d.main → ⊥) → is_reached d k ≡ false → component_at (with_counts d) k ≡ kept_component d k → Role k

  different : (k : ℕ) → nat_eq k d.main ≡ false → k ≡ d.main → ⊥
  different k off e = eqb-false k d.main off e

  abbrev main_names : ℕ → List (List ℕ)
  main_names k = free_names (names_of (component_at d k)) (suc (2 * length (counters (component_of d k)) + length (shown_in (component_of d k))))

  abbrev child_names : ℕ → List (List ℕ)
  child_names k = free_names (names_of (component_at d k)) (2 * length (counters (component_of d k)) + length (shown_in (component_of d k)))

  pub role : (k : ℕ) → k < length d.components → Role k
  role k within = by (nat_eq k d.main) (is_reached d k) refl refl
    where
      by : (t u : Bool) → nat_eq k d.main ≡ t → is_reached d k ≡ u → Role k
      by true u main e = as_main (main_names k) (eqb-true k d.main main) (component_at-with_counts d k within ∙ ap (λ b. if b then main_component d k (main_names k) else (if is_reached d k then child_component d k (child_names k) else kept_component d k)) main)
      by false true main e =
          as_child (child_names k) (different k main) e
          (component_at-with_counts d k within ∙ ap (λ b. if b then main_component d k (main_names k) else (if is_reached d k then child_component d k (child_names k) else kept_component d k)) main
          ∙ ap (λ b. if b then child_component d k (child_names k) else kept_component d k) e)
      by false false main e =
          as_kept (different k main) e
          (component_at-with_counts d k within ∙ ap (λ b. if b then main_component d k (main_names k) else (if is_reached d k then child_component d k (child_names k) else kept_component d k)) main
          ∙ ap (λ b. if b then child_component d k (child_names k) else kept_component d k) e)

  -- CELLS: those of the component are the first
  pub more_cells : (k : ℕ) → k < length d.components → (more : List PlainCell) × ((component_at (with_counts d) k).cells ≡ (component_at d k).cells ++ more)
  more_cells k within = by (role k within)
    where
      no_more : (xs : List PlainCell) → xs ≡ xs ++ []
      no_more [] = refl
      no_more (x ∷ xs) = ap (λ list. x ∷ list) (no_more xs)

      by : Role k → (more : List PlainCell) × ((component_at (with_counts d) k).cells ≡ (component_at d k).cells ++ more)
      by (as_main names is e) = (
        counter_cells (component_at d k).place names 0 (length (counters (component_of d k))) ++ memory_cell (component_at d k).place (name_at names (2 * length (counters (component_of d k)))) (length (shown_in (component_of d k))) ∷ [],
        ap (λ part. part.cells) e,
      )
      by (as_child names is reached e) = (counter_cells (component_at d k).place names 0 (length (counters (component_of d k))), ap (λ part. part.cells) e)
      by (as_kept is reached e) = ([], ap (λ part. part.cells) e ∙ no_more (component_at d k).cells)

  pub own_counters : (k : ℕ) → counters (component_of d k) ≡ counters_from (cells_of (component_of d k)) (length (component_at d k).cells) 0 (component_at d k).groups
  own_counters k = counters-is (component_of d k) ∙ ap (λ (part : PlainComponent). counters_from (cells_of (component_of d k)) (length part.cells) 0 part.groups) (same_part d (length d.components) k)

  -- and counters stand behind them, where the component has an instance
  module _ (k : ℕ) (within : k < length d.components) (reached : is_reached d k ≡ true) where
    abbrev own : ℕ
    own = length (counters (component_of d k))

    abbrev IsCell : ℕ → (PlainCell → Type 0) → Type 0
    IsCell c P = (cell : PlainCell) × (slice_get (component_at (with_counts d) k).cells c ≡ Some cell) × P cell

    of_list : (names : List (List ℕ)) (more : List PlainCell) (P : PlainCell → Type 0) (c i : ℕ)
        → (component_at (with_counts d) k).cells ≡ (component_at d k).cells ++ (counter_cells (component_at d k).place names 0 own ++ more)
        → c ≡ length (component_at d k).cells + i
        → (cell : PlainCell) × (slice_get (counter_cells (component_at d k).place names 0 own) i ≡ Some cell) × P cell → IsCell c P
    of_list names more P c i e number (cell, at, is) = (
      cell,
      ap (λ list. slice_get list c) e ∙ behind (component_at d k).cells (counter_cells (component_at d k).place names 0 own ++ more) c i number
          ∙ front (counter_cells (component_at d k).place names 0 own) more i cell at,
      is,
    )

    no_more : (xs : List PlainCell) → xs ≡ xs ++ []
    no_more [] = refl
    no_more (x ∷ xs) = ap (λ list. x ∷ list) (no_more xs)

    counter_cell : (P : PlainCell → Type 0) (c i : ℕ) → c ≡ length (component_at d k).cells + i
        → ((names : List (List ℕ)) → (cell : PlainCell) × (slice_get (counter_cells (component_at d k).place names 0 own) i ≡ Some cell) × P cell) → IsCell c P
    counter_cell P c i number known = by (role k within)
      where
        both : (b : Bool) → b ≡ true → b ≡ false → ⊥
        both true e f = absurd (cc)
        both false e f = absurd (cc)

        by : Role k → IsCell c P
        by (as_main names is e) = of_list names (memory_cell (component_at d k).place (name_at names (2 * own)) (length (shown_in (component_of d k))) ∷ []) P c i (ap (λ part. part.cells) e) number (known names)
        by (as_child names is r e) = of_list names [] P c i (ap (λ part. part.cells) e ∙ ap (λ list. (component_at d k).cells ++ list) (no_more (counter_cells (component_at d k).place names 0 own))) number (known names)
        by (as_kept is r e) = absurd (both (is_reached d k) reached r)

    pub counter_number : (x : Counter) → In (counters (component_of d k)) x → (i : ℕ) × (i < own) × (x.register ≡ length (component_at d k).cells + 2 * i)
    counter_number x i =
        let r = in_counters (cells_of (component_of d k)) (length (component_at d k).cells) 0 (component_at d k).groups x (subst (λ list. In list x) (own_counters k) i) in
        (r.0, subst (λ list. r.0 < length list) (sym (own_counters k)) r.1, r.2)

    pub register_there : (x : Counter) → In (counters (component_of d k)) x → IsCell x.register IsRegister
    register_there x i = let n = counter_number x i in counter_cell IsRegister x.register (2 * n.0) n.2 (λ names.
        let r = register_at (component_at d k).place names 0 own n.0 n.1 in
        (new_cell (component_at d k).place r.0 primitives.Reg (64 ∷ []) false, r.1, refl))

    pub adder_there : (x : Counter) → In (counters (component_of d k)) x → IsCell (suc x.register) IsAdder
    adder_there x i =
        let n = counter_number x i in
        let number : x.register ≡ length (component_at d k).cells + 2 * n.0 = n.2 in
        let after : suc x.register ≡ length (component_at d k).cells + suc (2 * n.0) = omega (arith, number) in
        counter_cell IsAdder (suc x.register) (suc (2 * n.0)) after (λ names.
        let r = adder_at (component_at d k).place names 0 own n.0 n.1 in
        (new_cell (component_at d k).place r.0 primitives.Add (64 ∷ []) false, r.1, refl))
