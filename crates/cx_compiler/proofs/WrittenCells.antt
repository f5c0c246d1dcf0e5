-- In the source that is written of a design each cell of each component that main reaches has its instance, and behind the cells' stand timers alone.
use Rattle.std.proofs.Common.{◌≡◌, ◌⊎◌, inl, inr, ℕ, zero, ◌+◌, ◌<◌, true, List, [], ◌∷◌, ◌++◌, length, map, Some, option_map, slice_get, refl, sym, ap, ◌∙◌, subst, if◌then◌else◌}
use Rattle.std.specs.Prelude.{codes}
use Rattle.std.proofs.lemmas.Bool.{eq-eqb}
use Rattle.std.proofs.lemmas.Option.{slice_get-map, slice_get-get_or, slice_get_within}
use Rattle.std.proofs.lemmas.List.{length-map}
use Rattle.cx_prim.specs.Table.{PrimitiveRow}
use Rattle.cx_prim.specs.declared.names.PrimitiveName.TheVariants as primitives
use Rattle.cx_meaning.specs.Designs.{PlainKind, OfPrimitive, OfComponent, PlainCell, PlainComponent, PlainDesign, component_at}
use Rattle.cx_rules.specs.Accepted.{IsAccepted}
use Rattle.cx_rules.specs.Flat.{IsFlat}
use Rattle.cx_rules.specs.Wellformed.{LeadsTo, by_cell, by_way_of, IsDesign}
use Rattle.cx_vtree.specs.Plain.{PlainInstance, PlainModule}
use Rattle.cx_vmods.specs.Modules.{module_of}
use Rattle.cx_net.specs.Nets.{PlainNetComponent, PlainNet}
use Rattle.cx_net.specs.NetFits.{IsFit}
use Rattle.cx_net.specs.NetTree.{no_net_component, net_component_at}
use Rattle.cx_static.specs.Lowering.{lowered_component, lowered_of}
use Rattle.cx_wiring.specs.PartNets.{timer_cells, wired_in}
use Rattle.cx_wiring.specs.Reached.{has_number, place_in, order}
use Rattle.cx_wiring.specs.Wiring.{kind_in, cell_in, net_of}
use Rattle.cx_wiring.proofs.FitLemmas.{slice_right}
use Rattle.cx_wiring.proofs.FitNets.{net_fits}
use Rattle.cx_wiring.proofs.FitTargets.{targets_there}
use Rattle.cx_wiring.proofs.MainLaws.{order_main}
use Rattle.cx_wiring.proofs.OrderHeights.{closed}
use Rattle.cx_wiring.proofs.TimerCells.{cells-lowered_component}
use Rattle.cx_wiring.proofs.WayLemmas.{count_is, placed, net_long}
use Rattle.cx_holes.specs.Inlining.{inlined_component, inlined}
use Rattle.cx_holes.proofs.RenamedRuns.{part_same}
use Rattle.cx_holes.proofs.FitNames.{fit_names}
use Rattle.cx_holes.proofs.RenamedFits.{inlined_fits}
use Rattle.cx_emit.specs.Names.{numbered, primitive_name}
use Rattle.cx_emit.specs.Numbered.{with_numbers}
use Rattle.cx_emit.specs.Signatures.{PlainCellPorts, primitive_module, kind_ports, cell_ports}
use Rattle.cx_emit.specs.Sources.{cell_instance, component_module, primitive_modules, source_of}
use Rattle.cx_emit.proofs.NetPrimitives.{its_primitives, its_primitive}
use Rattle.cx_emit.proofs.NumberedLemmas.{in_left, in_right, in_numbered, numbered_in, in_mapped}
use Rattle.cx_text.proofs.ListLaws.{at_map, front}
use Rattle.cx_text.proofs.OptionLaws.{map_some}
use Rattle.cx_compiler.specs.Cells.{IsModule, IsNameOf, HasEachCell, HasCells}
use Rattle.cx_compiler.specs.Compiled.{written_source}
use Rattle.cx_compiler.proofs.TimerUses.{is_timer}
use Rattle.cx_emitted.proofs.SignedBytes.{place_at}

-- THE NET that is written is fit
pub net_is_fit : (d : PlainDesign) → IsDesign d → IsFlat d → IsAccepted d → IsFit (inlined (net_of (lowered_of d)))
net_is_fit d rules flat accepted =
    let fits = net_fits d rules flat accepted in
    inlined_fits (net_of (lowered_of d)) (fit_names (net_of (lowered_of d)) fits (targets_there d rules flat accepted)) fits

module _ (d : PlainDesign) (rules : IsDesign d) where
  abbrev places : List ℕ
  places = order (lowered_of d)

  abbrev net : PlainNet
  net = inlined (net_of (lowered_of d))

  pub main_here : has_number d.main (order (lowered_of d)) ≡ true
  main_here = order_main (lowered_of d) (subst (λ n. d.main < n) (sym (count_is d rules)) rules.main_there)

  -- what main leads to is reached
  leads_on : {k j : ℕ} → LeadsTo d k j → has_number k (order (lowered_of d)) ≡ true → has_number j (order (lowered_of d)) ≡ true
  leads_on {k} (by_cell j cell i is) h = closed d rules k h cell j i is
  leads_on (by_way_of m first second) h = leads_on second (leads_on first h)

  reached_here : (k : ℕ) → (k ≡ d.main) ⊎ LeadsTo d d.main k → has_number k (order (lowered_of d)) ≡ true
  reached_here k (inl e) = subst (λ n. has_number n (order (lowered_of d)) ≡ true) (sym e) main_here
  reached_here k (inr leads) = leads_on leads main_here

  -- THE MODULE of a component
  abbrev spot : ℕ → ℕ
  spot k = place_in k places

  abbrev own : ℕ → PlainNetComponent
  own k = net_component_at net (spot k)

  abbrev module_for : ℕ → PlainModule
  module_for k = component_module net (spot k) (own k)

  module _ (k : ℕ) (here : has_number k (order (lowered_of d)) ≡ true) where
    abbrev part : PlainComponent
    part = component_at d k

    there : slice_get net.components (spot k) ≡ Some (own k)
    there =
        let inside : spot k < length (net_of (lowered_of d)).components = subst (λ n. spot k < n) (sym (net_long d rules)) (slice_get_within places (spot k) k (place_at k places here)) in
        slice_get-get_or net.components (spot k) no_net_component (subst (λ n. spot k < n) (sym (length-map (net_of (lowered_of d)).components inlined_component)) inside)

    own_is : own k ≡ inlined_component (wired_in d part)
    own_is = part_same (net_of (lowered_of d)).components (spot k) ∙ ap inlined_component (placed d rules k here)

    -- its cells in the net are those of the lowered component
    pub cell_at : (c : ℕ) → slice_get (own k).cells c ≡ option_map (cell_in places) (slice_get (part.cells ++ timer_cells part) c)
    cell_at c =
        ap (λ (x : PlainNetComponent). slice_get x.cells c) own_is ∙ slice_get-map (cell_in places) (lowered_component part).part.cells c
        ∙ ap (λ cells. option_map (cell_in places) (slice_get cells c)) (cells-lowered_component part)

    module _ (fits : IsFit net) where
      primitive_there : (c : ℕ) (cell : PlainCell) (p : PrimitiveRow) → slice_get (own k).cells c ≡ Some cell → cell.kind ≡ OfPrimitive p → IsModule (written_source d) (primitive_module p)
      primitive_there c cell p at is =
          let (n, found) = its_primitive net fits (spot k) c cell p (slice_get_within net.components (spot k) (own k) there) at is in
          in_left (primitive_module p) (primitive_modules net) (with_numbers (component_module net) net.components) (n, in_mapped primitive_module (its_primitives net) n p found)

      -- THE INSTANCE of a cell
      abbrev instance : ℕ → PlainCell → PlainInstance
      instance c cell = cell_instance c (cell_ports net cell)

      instance_at : (c : ℕ) (cell : PlainCell) → slice_get (own k).cells c ≡ Some cell → slice_get (module_for k).instances c ≡ Some (instance c cell)
      instance_at c cell at = in_numbered cell_instance (map (cell_ports net) (own k).cells) c (cell_ports net cell) (in_mapped (cell_ports net) (own k).cells c cell at)

      name_is : (c : ℕ) (cell : PlainCell) → slice_get (own k).cells c ≡ Some (cell_in places cell) → (kind : PlainKind) → cell.kind ≡ kind → IsNameOf (written_source d) module_for kind (kind_ports net (kind_in places kind)).kind
      name_is c cell at (OfPrimitive p) is = primitive_there c (cell_in places cell) p at (ap (kind_in places) is)
      name_is c cell at (OfComponent j) is = refl

      own_cell : (c : ℕ) (cell : PlainCell) → slice_get part.cells c ≡ Some cell → (x : PlainInstance) × (slice_get (module_for k).instances c ≡ Some x) × IsNameOf (written_source d) module_for cell.kind x.kind
      own_cell c cell e =
          let at : slice_get (own k).cells c ≡ Some (cell_in places cell) = cell_at c ∙ ap (option_map (cell_in places)) (front part.cells (timer_cells part) c cell e) in
          (instance c (cell_in places cell), instance_at c (cell_in places cell) at, name_is c cell at cell.kind refl)

      timer : (t : ℕ) (x : PlainInstance) → slice_get (module_for k).instances (length part.cells + t) ≡ Some x
          → (n : ℕ) × IsModule (written_source d) (module_of (record { name = primitives.Timer; numbers = n ∷ [] }) x.kind)
      timer t x e =
          let c : ℕ = length part.cells + t in
          let (y, at_ports, is) = numbered_in cell_instance (map (cell_ports net) (own k).cells) c x e in
          let (cell, at, same) = at_map (cell_ports net) (own k).cells c y at_ports in
          let (low, at_low, cell_is) = map_some (cell_in places) (slice_get (part.cells ++ timer_cells part) c) cell (sym (cell_at c) ∙ at) in
          let its = is_timer part t low (sym (slice_right part.cells (timer_cells part) t) ∙ at_low) in
          let row : PrimitiveRow = record { name = primitives.Timer; numbers = its.0 ∷ [] } in
          let kind_is : cell.kind ≡ OfPrimitive row = ap (λ (z : PlainCell). z.kind) (sym cell_is) ∙ ap (kind_in places) its.1 in
          let named : primitive_name row ≡ x.kind =
          sym (ap (λ kind. (kind_ports net kind).kind) kind_is) ∙ ap (λ (z : PlainCellPorts). z.kind) same ∙ ap (λ (z : PlainInstance). z.kind) is in
          (its.0, subst (λ name. IsModule (written_source d) (module_of row name)) named (primitive_there c cell row at kind_is))

      has_part : HasEachCell d (written_source d) module_for k
      has_part = record {
        stands = in_right (module_for k) (primitive_modules net) (with_numbers (component_module net) net.components) (spot k, in_numbered (component_module net) net.components (spot k) (own k) there);
        cells = own_cell;
        timers = timer;
      }

  -- EACH CELL HAS ITS INSTANCE in what is written
  pub written_cells : IsFlat d → IsAccepted d → HasCells d (written_source d)
  written_cells flat accepted = record {
    module_for = module_for;
    main = ap (λ b. if b then codes "main" else numbered (codes "m") (spot d.main)) (eq-eqb (spot d.main) (spot d.main) refl);
    parts = λ k reached. has_part k (reached_here k reached) (net_is_fit d rules flat accepted);
  }
