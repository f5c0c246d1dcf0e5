-- The source that is written of a design hides nothing: its modules, instances, registers and names are those that the design asks for.
use Rattle.std.proofs.Common.{◌≡◌, ◌⊎◌, inl, inr, ⊎_elim, ℕ, zero, suc, ◌+◌, ◌-◌, ◌<◌, ◌≤◌, true, List, [], ◌∷◌, ◌++◌, length, get_or, Some, slice_get, refl, sym, ap, ◌∙◌, subst, if◌then◌else◌, arith, length-append}
use Rattle.std.specs.Prelude.{◌||◌}
use Rattle.std.proofs.lemmas.Bool.{cases_lt}
use Rattle.std.proofs.lemmas.List.{length-map}
use Rattle.std.proofs.lemmas.Option.{slice_get-map, slice_get-get_or, slice_get_within}
use Rattle.cx_text.proofs.MemberLaws.{in_at}
use Rattle.cx_meaning.specs.Designs.{PlainKind, OfPrimitive, OfComponent, PlainCell, PlainComponent, PlainDesign, component_at}
use Rattle.cx_text.specs.Members.{In}
use Rattle.cx_rules.specs.Items.{statements_in}
use Rattle.cx_rules.specs.Flat.{IsFlat}
use Rattle.cx_rules.specs.Wellformed.{IsForm, LeadsTo, by_cell, by_way_of, IsDesign}
use Rattle.cx_rules.specs.Accepted.{IsAccepted}
use Rattle.cx_vtree.specs.Sound.{is_sound}
use Rattle.cx_net.specs.Nets.{PlainNet}
use Rattle.cx_net.specs.NetTree.{no_net_component, net_component_at}
use Rattle.cx_static.specs.Islands.{PlainLowereds}
use Rattle.cx_static.specs.Lowering.{lowered_component, lowered_of}
use Rattle.cx_wiring.specs.PartNets.{timer_cells, wired_in}
use Rattle.cx_wiring.specs.Reached.{has_number, place_in, below, reached_from, count, order}
use Rattle.cx_wiring.specs.Wiring.{kind_in, cell_in, net_of}
use Rattle.cx_wiring.proofs.ComponentCounts.{no_timed}
use Rattle.cx_wiring.proofs.ControlCounts.{Untimed}
use Rattle.cx_wiring.proofs.FitLemmas.{slice_right}
use Rattle.cx_wiring.proofs.MainLaws.{get_or_map, order_main}
use Rattle.cx_wiring.proofs.NumberLemmas.{number_in, in_number}
use Rattle.cx_wiring.proofs.OrderHeights.{in_flat_map, cell_below, from_main, closed, stands_at}
use Rattle.cx_wiring.proofs.TimerCells.{cells-lowered_component}
use Rattle.cx_wiring.proofs.WayLemmas.{count_is, there, net_long, child_there}
use Rattle.cx_holes.specs.Inlining.{inlined_component, inlined}
use Rattle.cx_emitted.proofs.SignedBytes.{place_at}
use Rattle.cx_compiler.proofs.WrittenCells.{net_is_fit}
use Rattle.cx_emit.specs.Shapes.{Use, ForCell, ForIsland, ForRepeat, IsTimerOf, IsUse, IsShaped, HasOwnNames}
use Rattle.cx_emit.proofs.OwnNames.{source_own_names}
use Rattle.cx_emit.proofs.ShapedSources.{kind_for, IsPartFor, IsNetFor, source_shaped}
use Rattle.cx_compiler.specs.Compiled.{written_source}
use Rattle.cx_compiler.proofs.LoweredShape.{component_registers_few}
use Rattle.cx_compiler.proofs.TimerUses.{use_at, use_of_cell, use_of_timer, use_once}
use Rattle.cx_text.proofs.OptionLaws.{map_some}
use Rattle.cx_meaning.proofs.DesignsLemmas.{same_part}
use Rattle.cx_text.proofs.ListLaws.{there_at, front}

-- PLACES of numbers in a list
get_or_at : (ns : List ℕ) (n k : ℕ) → slice_get ns n ≡ Some k → get_or ns n 0 ≡ k
get_or_at [] n k e = absurd (cc)
get_or_at (m ∷ ns) zero k e = let same : m ≡ k = cc in same
get_or_at (m ∷ ns) (suc n) k e = get_or_at ns n k e

place_there : (k : ℕ) (ns : List ℕ) → has_number k ns ≡ true → get_or ns (place_in k ns) 0 ≡ k
place_there k ns h = get_or_at ns (place_in k ns) k (place_at k ns h)

module _ (d : PlainDesign) (rules : IsDesign d) (flat : IsFlat d) where
  abbrev low : PlainLowereds
  low = lowered_of d

  abbrev places : List ℕ
  places = order low

  abbrev net : PlainNet
  net = inlined (net_of low)

  -- the component of the design for which a component of the net stands
  abbrev stands : ℕ → ℕ
  stands n = get_or places n 0

  -- what is reached is led to
  leads : (n k : ℕ) → k < length d.components → (x : ℕ) → In (reached_from low n k) x → (x ≡ k) ⊎ LeadsTo d k x
  leads zero k within x (inl e) = inl (sym e)
  leads zero k within x (inr i) = absurd i
  leads (suc n) k within x (inl e) = inl (sym e)
  leads (suc n) k within x (inr i) =
      let r = in_flat_map (reached_from low n) (below low k) x i in
      let own = cell_below d rules k r.0 within r.1 in
      let step : LeadsTo d k r.0 = by_cell r.0 own.cell own.stands own.is in
      ⊎_elim (λ e. inr (subst (LeadsTo d k) (sym e) step)) (λ more. inr (by_way_of r.0 step more)) (leads n r.0 (child_there d rules k r.0 within own.cell own.stands own.is) x r.2)

  pub reached : (k : ℕ) → has_number k places ≡ true → (k ≡ d.main) ⊎ LeadsTo d d.main k
  reached k here = leads (count low) d.main rules.main_there k (number_in k (reached_from low (count low) d.main) (from_main d rules k here))

  module _ (k : ℕ) (here : has_number k places ≡ true) where
    abbrev part : PlainComponent
    part = component_at d k

    within : k < length d.components
    within = there d rules k here

    untimed : Untimed (statements_in part)
    untimed v i n is = no_timed part (flat k within) n (subst (IsForm part) is (subst (λ x. IsForm x v.form) (same_part d (length d.components) k) ((rules.components k within).statements v i).form))

    -- CELLS: the design's own come first
    own_kind : (cell : PlainCell) → In part.cells cell → (kind : PlainKind) → cell.kind ≡ kind → kind_for stands (kind_in places kind) ≡ kind
    own_kind cell i (OfPrimitive p) is = refl
    own_kind cell i (OfComponent j) is = ap OfComponent (place_there j places (closed d rules k here cell j i is))

    abbrev IsFor : ℕ → PlainCell → Type 0
    IsFor c cell = IsUse d k (kind_for stands (kind_in places cell.kind)) (use_at part c)

    for_cell : (c : ℕ) (cell : PlainCell) → slice_get part.cells c ≡ Some cell → IsFor c cell
    for_cell c cell e =
        subst (IsUse d k (kind_for stands (kind_in places cell.kind))) (sym (use_of_cell part c (slice_get_within part.cells c cell e)))
        (cell, e, own_kind cell (in_at part.cells c cell e) cell.kind refl)

    -- a timer is of no component
    timer_use : (kind : PlainKind) (u : Use) → IsTimerOf part kind u → IsUse d k (kind_for stands (kind_in places kind)) u
    timer_use kind (ForCell c) h = absurd h
    timer_use kind (ForIsland n) h = (h.0, h.1, h.2, ap (λ x. kind_for stands (kind_in places x)) h.3)
    timer_use kind (ForRepeat n) h = (h.0, h.1, (h.2.0, h.2.1, ap (λ x. kind_for stands (kind_in places x)) h.2.2))

    each_for : (c : ℕ) (cell : PlainCell) → slice_get (lowered_component part).part.cells c ≡ Some cell → IsFor c cell
    each_for c cell e = ⊎_elim own timer (cases_lt c (length part.cells)) where
      whole : slice_get (part.cells ++ timer_cells part) c ≡ Some cell
      whole = ap (λ cells. slice_get cells c) (sym (cells-lowered_component part)) ∙ e

      own : c < length part.cells → IsFor c cell
      own less = let r = there_at part.cells c less in for_cell c cell (r.1 ∙ sym (front part.cells (timer_cells part) c r.0 r.1) ∙ whole)

      timer : length part.cells ≤ c → IsFor c cell
      timer past =
          let same : length part.cells + (c - length part.cells) ≡ c = omega (arith, past) in
          timer_use cell.kind (use_at part c) (use_of_timer part c cell past (sym (slice_right part.cells (timer_cells part) (c - length part.cells)) ∙ ap (slice_get (part.cells ++ timer_cells part)) same ∙ whole))

    cells_long : length (inlined_component (wired_in d part)).cells ≡ length part.cells + length (timer_cells part)
    cells_long = length-map (lowered_component part).part.cells (cell_in places) ∙ ap length (cells-lowered_component part) ∙ length-append part.cells (timer_cells part)

    part_for : IsPartFor d stands k (inlined_component (wired_in d part))
    part_for = record {
      reached = reached k here;
      registers = component_registers_few part untimed;
      use_of = use_at part;
      cells = λ c cell e.
          let (own, at, is) = map_some (cell_in places) (slice_get (lowered_component part).part.cells c) cell (sym (slice_get-map (cell_in places) (lowered_component part).part.cells c) ∙ e) in
          subst (λ (x : PlainCell). IsUse d k (kind_for stands x.kind) (use_at part c)) is (each_for c own at);
      once = λ i j less fewer. let long = cells_long in use_once part i j (omega (arith, less, long)) (omega (arith, fewer, long));
    }

  parts_for : (n : ℕ) → n < length net.components → IsPartFor d stands (stands n) (net_component_at net n)
  parts_for n less =
      let long : length net.components ≡ length (net_of low).components = length-map (net_of low).components inlined_component in
      let inside : n < length (net_of low).components = omega (arith, less, long) in
      let r = there_at places n (subst (λ m. n < m) (net_long d rules) inside) in
      let here : has_number r.0 places ≡ true = in_number r.0 places (in_at places n r.0 r.1) in
      let made : net_component_at net n ≡ inlined_component (net_component_at (net_of low) n) =
      get_or_map inlined_component (net_of low).components n (net_component_at (net_of low) n) no_net_component (slice_get-get_or (net_of low).components n no_net_component inside) in
      let same : inlined_component (wired_in d (component_at d r.0)) ≡ net_component_at net n = sym (made ∙ ap inlined_component (stands_at d rules n r.0 r.1)) in
      subst (λ k. IsPartFor d stands k (net_component_at net n)) (sym (get_or_at places n r.0 r.1)) (subst (IsPartFor d stands r.0) same (part_for r.0 here))

  -- THE NET of a design has the cells and the registers that the shape asks for
  net_for : IsNetFor d net
  net_for = record {
    stands = stands;
    main = place_there d.main places (order_main low (subst (λ n. d.main < n) (sym (count_is d rules)) rules.main_there));
    parts = parts_for;
  }

  -- THE SHAPE of what is written
  pub written_shape : IsAccepted d → is_sound (written_source d) ≡ true → IsShaped d (written_source d)
  written_shape accepted sound = source_shaped d net (net_is_fit d rules flat accepted) sound net_for

-- ITS NAMES
pub written_names : (d : PlainDesign) → HasOwnNames (written_source d)
written_names d = source_own_names (inlined (net_of (lowered_of d)))
