-- The assignments that an instrumented component gains fit it: of counters, of outputs, of stores.
use Rattle.std.proofs.Common.{◌≡◌, ℕ, zero, suc, ◌+◌, ◌*◌, ◌<◌, ◌≤◌, true, false, inl, inr, ◌⊎◌, List, [], ◌∷◌, ◌++◌, length, map, Option, Some, None, refl, sym, ap, ◌∙◌, subst, arith}
use Rattle.std.specs.List.{slice_get}
use Rattle.cx_text.proofs.MemberLaws.{image_in, in_at, in_either}
use Rattle.cx_text.specs.declared.places.Place.{Place}
use Rattle.cx_text.proofs.OptionLaws.{same_some}
use Rattle.cx_prim.specs.declared.names.PrimitiveName.TheVariants as primitives
use Rattle.cx_meaning.specs.declared.ports.PortRef.{PortRef}
use Rattle.cx_meaning.specs.declared.ports.PortRef.TheVariants as ports
use Rattle.cx_meaning.specs.declared.kinds.GroupKind.TheVariants as kinds
use Rattle.cx_meaning.specs.Designs.{PlainAssign, PlainGroup, OfComponent, PlainComponent, PlainDesign, component_at}
use Rattle.cx_meaning.specs.Instances.{Instance, Node, cells_of, cells_for, part_of}
use Rattle.cx_text.specs.Members.{In}
use Rattle.cx_rules.specs.Ports.{component_of}
use Rattle.cx_rules.specs.ShapeRules.{is_hole}
use Rattle.cx_rules.proofs.PortsLemmas.{part_is}
use Rattle.cx_rules.specs.Wellformed.{IsDesign}
use Rattle.cx_flattening.proofs.TreeLevels.{child_there}
use Rattle.cx_profiling.specs.Counters.{Counter, counters, counters_from, Shown, shown_here, shown_in, shown_below, first_gained}
use Rattle.cx_profiling.specs.Instrumented.{is_reached, counter_assigns, new_cell, output_assigns, store_assigns, store_groups, name_at, gained, with_counts}
use Rattle.cx_profiling.proofs.TreeLemmas.{component_of-is}
use Rattle.cx_profiling.proofs.ReachedLemmas.{child_reached}
use Rattle.cx_profiling.proofs.ThereLemmas.{Names, kind_ports}
use Rattle.cx_profiling.proofs.CounterLemmas.{in_counters, IsShownBelow, in_shown_below}
use Rattle.cx_profiling.proofs.GainedLemmas.{IsGrown, gained_child, gained_by, kind_ports-with_counts}
use Rattle.cx_profiling.proofs.FitLemmas.{FitsAssign, cell_driven, output_driven, done_driven}

-- the counters of an instance, by its component and its cells
pub counters-is : (i : Instance) → counters i ≡ counters_from (cells_of i) (length (part_of i).cells) 0 (part_of i).groups
counters-is (Node part cells) = refl

pub shown_in-is : (i : Instance) → shown_in i ≡ map shown_here (counters i) ++ shown_below (cells_of i) 0
shown_in-is (Node part cells) = refl

module _ (d : PlainDesign) (k : ℕ) (new : PlainComponent) where
  -- behind its old cells a component has the registers and adders of its counters
  pub record HasCounters : Type 0 where
    pub register : (m : ℕ) → m < length (counters (component_of d k)) → (name : List ℕ)
        × (slice_get new.cells (length (component_at d k).cells + 2 * m) ≡ Some (new_cell (component_at d k).place name primitives.Reg (64 ∷ []) false))
    pub adder : (m : ℕ) → m < length (counters (component_of d k)) → (name : List ℕ)
        × (slice_get new.cells (suc (length (component_at d k).cells + 2 * m)) ≡ Some (new_cell (component_at d k).place name primitives.Add (64 ∷ []) false))

  module _ (e : PlainDesign) (has : HasCounters) where
    register_names : (m p : ℕ) → m < length (counters (component_of d k)) → p < 4 → Names e new (ports.Cell (length (component_at d k).cells + 2 * m) p)
    register_names m p less within = let r = has.register m less in (new_cell (component_at d k).place r.0 primitives.Reg (64 ∷ []) false, r.1, within)

    adder_names : (m p : ℕ) → m < length (counters (component_of d k)) → p < 3 → Names e new (ports.Cell (suc (length (component_at d k).cells + 2 * m)) p)
    adder_names m p less within = let a = has.adder m less in (new_cell (component_at d k).place a.0 primitives.Add (64 ∷ []) false, a.1, within)

    -- the assignments of a counter
    pub counter_fits : (owner : Option ℕ) (m : ℕ) (a : PlainAssign) → m < length (counters (component_of d k))
        → In (counter_assigns (component_at d k).place (length (component_at d k).cells + 2 * m)) a → FitsAssign e new owner a
    counter_fits owner m a less (inl x) =
        subst (FitsAssign e new owner) x (cell_driven e new owner (component_at d k).place (suc (length (component_at d k).cells + 2 * m)) 0 (ports.Cell (length (component_at d k).cells + 2 * m) 2)
        (adder_names m 0 less (omega arith)) (register_names m 2 less (omega arith)) refl)
    counter_fits owner m a less (inr (inl x)) =
        subst (FitsAssign e new owner) x (cell_driven e new owner (component_at d k).place (suc (length (component_at d k).cells + 2 * m)) 1 (ports.Literal 64 1) (adder_names m 1 less (omega arith)) tt refl)
    counter_fits owner m a less (inr (inr (inl x))) =
        subst (FitsAssign e new owner) x (cell_driven e new owner (component_at d k).place (length (component_at d k).cells + 2 * m) 0 (ports.Cell (suc (length (component_at d k).cells + 2 * m)) 2)
        (register_names m 0 less (omega arith)) (adder_names m 2 less (omega arith)) refl)
    counter_fits owner m a less (inr (inr (inr (inl x)))) =
        subst (FitsAssign e new owner) x (cell_driven e new owner (component_at d k).place (length (component_at d k).cells + 2 * m) 1 (ports.Literal 1 1) (register_names m 1 less (omega arith)) tt refl)
    counter_fits owner m a less (inr (inr (inr (inr i)))) = absurd i

  -- a port of a cell that is there
  abbrev pub IsCellPort : PlainDesign → PortRef → Type 0
  IsCellPort e p = Names e new p × (is_hole p ≡ false)

  -- what shows a count is a port of a cell
  module _ (rules : IsDesign d) (there : k < length d.components) (reached : is_reached d k ≡ true) (grown : IsGrown d k new) (has : HasCounters) where
    own_port : (x : Shown) → In (map shown_here (counters (component_of d k))) x → IsCellPort (with_counts d) x.port
    own_port x i = by (image_in shown_here (counters (component_of d k)) x i)
      where
        by : (counter : Counter) × In (counters (component_of d k)) counter × (shown_here counter ≡ x) → IsCellPort (with_counts d) x.port
        by (counter, j, same) =
            let all : counters (component_of d k) ≡ counters_from (cells_of (component_of d k)) (length (component_at d k).cells) 0 (component_at d k).groups =
            counters-is (component_of d k) ∙ ap (λ part. counters_from (cells_of (component_of d k)) (length part.cells) 0 part.groups) (part_is d k) in
            let m = in_counters (cells_of (component_of d k)) (length (component_at d k).cells) 0 (component_at d k).groups counter (subst (λ list. In list counter) all j) in
            let less : m.0 < length (counters (component_of d k)) = subst (λ list. m.0 < length list) (sym all) m.1 in
            let port : x.port ≡ ports.Cell (length (component_at d k).cells + 2 * m.0) 2 = ap (λ y. y.port) (sym same) ∙ ap (λ r. ports.Cell r 2) m.2 in
            subst (IsCellPort (with_counts d)) (sym port) (register_names (with_counts d) has m.0 2 less (omega arith), refl)

    child_port : (x : Shown) → IsShownBelow (component_of d) (component_at d k).cells 0 x → IsCellPort (with_counts d) x.port
    child_port x s =
        let here : In (component_at d k).cells s.cell = in_at (component_at d k).cells s.c s.cell s.here in
        let child = child_reached d rules k s.component s.cell reached here s.kind in
        let more : gained d s.component ≡ length (shown_in (component_of d s.component)) = gained_child d s.component child.0 child.1 in
        let component : part_of (component_of d s.component) ≡ component_at d s.component = part_is d s.component in
        let port : x.port ≡ ports.Cell s.c (first_gained (component_at d s.component) + s.m) = s.port ∙ ap (λ n. ports.Cell n (first_gained (part_of (component_of d s.component)) + s.m)) zero_more ∙ ap (λ part. ports.Cell s.c (first_gained part + s.m)) component in
        let within : first_gained (component_at d s.component) + s.m < kind_ports d (OfComponent s.component) + gained_by d (OfComponent s.component) =
        let l : s.m < gained d s.component = subst (λ n. s.m < n) (sym more) s.less in counted l in
        let count : kind_ports (with_counts d) (OfComponent s.component) ≡ kind_ports d (OfComponent s.component) + gained_by d (OfComponent s.component) =
        kind_ports-with_counts d (OfComponent s.component) (child_there d rules k s.component s.cell there here s.kind) in
        let all : first_gained (component_at d s.component) + s.m < kind_ports (with_counts d) s.cell.kind =
        subst (λ kind. first_gained (component_at d s.component) + s.m < kind_ports (with_counts d) kind) (sym s.kind) (subst (λ n. first_gained (component_at d s.component) + s.m < n) (sym count) within) in
        subst (IsCellPort (with_counts d)) (sym port) ((s.cell, grown.cells s.c s.cell s.here, all), refl)
      where
        zero_more : 0 + s.c ≡ s.c
        zero_more = omega arith

        counted : s.m < gained d s.component → suc (length (component_at d s.component).inputs + length (component_at d s.component).outputs) + s.m
            < 2 + length (component_at d s.component).inputs + length (component_at d s.component).outputs + gained d s.component
        counted l = omega arith

    pub shown_port : (x : Shown) → In (shown_in (component_of d k)) x → IsCellPort (with_counts d) x.port
    shown_port x i = by (in_either (map shown_here (counters (component_of d k))) (shown_below (cells_of (component_of d k)) 0) x (subst (λ list. In list x) (shown_in-is (component_of d k)) i))
      where
        cells : cells_of (component_of d k) ≡ cells_for (component_of d) (component_at d k).cells
        cells = ap cells_of (component_of-is d rules k there)

        at_zero : IsShownBelow (component_of d) (component_at d k).cells 0 x → IsCellPort (with_counts d) x.port
        at_zero s = child_port x s

        by : In (map shown_here (counters (component_of d k))) x ⊎ In (shown_below (cells_of (component_of d k)) 0) x → IsCellPort (with_counts d) x.port
        by (inl own) = own_port x own
        by (inr below) = at_zero (in_shown_below (component_of d) (component_at d k).cells 0 x (subst (λ list. In (shown_below list 0) x) cells below))

-- OUTPUTS: each is driven by a port of a cell
module _ (e : PlainDesign) (new : PlainComponent) where
  pub output_fits : (place : Place) (n : ℕ) (xs : List Shown) (a : PlainAssign) → n + length xs ≤ length new.outputs
      → ((x : Shown) → In xs x → Names e new x.port × (is_hole x.port ≡ false)) → In (output_assigns place n xs) a → FitsAssign e new None a
  output_fits place n [] a few shown i = absurd i
  output_fits place n (x ∷ xs) a few shown (inl same) = let s = shown x (inl refl) in subst (FitsAssign e new None) same (output_driven e new place n x.port (omega arith) s.0 s.1)
  output_fits place n (x ∷ xs) a few shown (inr i) = output_fits place (suc n) xs a (omega arith) (λ y j. shown y (inr j)) i

  -- STORES
  pub store_fits : (place : Place) (memory width g j : ℕ) (count : PortRef) (a : PlainAssign) → ((p : ℕ) → p < 5 → Names e new (ports.Cell memory p)) → g < length new.groups
      → Names e new count → is_hole count ≡ false → In (store_assigns place memory width g j count) a → FitsAssign e new (Some g) a
  store_fits place memory width g j count a port there names bare (inl same) = subst (FitsAssign e new (Some g)) same (cell_driven e new (Some g) place memory 0 (ports.Literal width j) (port 0 (omega arith)) tt refl)
  store_fits place memory width g j count a port there names bare (inr (inl same)) = subst (FitsAssign e new (Some g)) same (cell_driven e new (Some g) place memory 1 count (port 1 (omega arith)) names bare)
  store_fits place memory width g j count a port there names bare (inr (inr (inl same))) = subst (FitsAssign e new (Some g)) same (cell_driven e new (Some g) place memory 2 (ports.Literal 1 1) (port 2 (omega arith)) tt refl)
  store_fits place memory width g j count a port there names bare (inr (inr (inr (inl same)))) = subst (FitsAssign e new (Some g)) same (done_driven e new place g memory 4 there (port 4 (omega arith)))
  store_fits place memory width g j count a port there names bare (inr (inr (inr (inr i)))) = absurd i

-- store group number i
abbrev pub store_group : Place → List (List ℕ) → ℕ → ℕ → ℕ → ℕ → ℕ → PortRef → PlainGroup
store_group place names memory width n g j count = record { name = name_at names n; kind = kinds.Plain; assigns = store_assigns place memory width g j count; place = place }

pub store_groups-at : (place : Place) (names : List (List ℕ)) (memory width n g j : ℕ) (xs : List Shown) (i : ℕ) (y : PlainGroup) → slice_get (store_groups place names memory width n g j xs) i ≡ Some y
    → (x : Shown) × In xs x × (y ≡ store_group place names memory width (n + i) (g + i) (j + i) x.port)
store_groups-at place names memory width n g j [] i y e = absurd cc
store_groups-at place names memory width n g j (x ∷ xs) zero y e = (x, inl refl, same_some y (store_group place names memory width n g j x.port) (sym e) ∙ none)
  where
    none : store_group place names memory width n g j x.port ≡ store_group place names memory width (n + 0) (g + 0) (j + 0) x.port
    none =
        let a : n ≡ n + 0 = omega arith in
        let b : g ≡ g + 0 = omega arith in
        let c : j ≡ j + 0 = omega arith in
        ap (λ m. store_group place names memory width m g j x.port) a ∙ ap (λ m. store_group place names memory width (n + 0) m j x.port) b ∙ ap (λ m. store_group place names memory width (n + 0) (g + 0) m x.port) c
store_groups-at place names memory width n g j (x ∷ xs) (suc i) y e = by (store_groups-at place names memory width (suc n) (suc g) (suc j) xs i y e)
  where
    by : (x : Shown) × In xs x × (y ≡ store_group place names memory width (suc n + i) (suc g + i) (suc j + i) x.port)
        → (z : Shown) × In (x ∷ xs) z × (y ≡ store_group place names memory width (n + suc i) (g + suc i) (j + suc i) z.port)
    by (z, here, same) =
        let a : suc n + i ≡ n + suc i = omega arith in
        let b : suc g + i ≡ g + suc i = omega arith in
        let c : suc j + i ≡ j + suc i = omega arith in (
          z,
          inr here,
          same ∙ ap (λ m. store_group place names memory width m (suc g + i) (suc j + i) z.port) a ∙ ap (λ m. store_group place names memory width (n + suc i) m (suc j + i) z.port) b
              ∙ ap (λ m. store_group place names memory width (n + suc i) (g + suc i) m z.port) c,
        )
