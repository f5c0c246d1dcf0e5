-- In the source that is written of a design each module stands somewhere: a component's, since main leads to it, and a primitive's in each instance of the component whose cell it is.
use Rattle.std.proofs.Common.{◌≡◌, ◌⊎◌, inl, inr, ℕ, zero, suc, ◌<◌, true, false, List, [], ◌∷◌, length, Some, option_map, slice_get, nat_eq, refl, sym, ap, ◌∙◌, subst, if◌then◌else◌, arith, eq-eqb}
use Rattle.std.proofs.lemmas.Bool.Decides.{eqb_tells}
use Rattle.std.proofs.lemmas.List.{length-map}
use Rattle.std.proofs.lemmas.Option.{slice_get_within}
use Rattle.cx_text.proofs.MemberLaws.{in_at, number_in}
use Rattle.cx_prim.specs.Table.{PrimitiveRow}
use Rattle.cx_meaning.specs.Designs.{OfComponent, PlainCell, PlainDesign, component_at}
use Rattle.cx_text.specs.Members.{In as Among}
use Rattle.cx_rules.specs.Accepted.{IsAccepted}
use Rattle.cx_rules.specs.Flat.{IsFlat}
use Rattle.cx_rules.specs.Wellformed.{LeadsTo, by_cell, by_way_of, IsDesign}
use Rattle.cx_rules.proofs.Finite.{Distinct}
use Rattle.cx_vtree.specs.InstanceTree.{Placed, instances_of}
use Rattle.cx_vtree.specs.Plain.{PlainModule}
use Rattle.cx_vtree.specs.Sound.{is_sound}
use Rattle.cx_net.specs.Nets.{PlainNetComponent, PlainNet}
use Rattle.cx_static.specs.Lowering.{lowered_of}
use Rattle.cx_wiring.specs.PartNets.{timer_cells}
use Rattle.cx_wiring.specs.Reached.{has_number, place_in, order}
use Rattle.cx_wiring.specs.Wiring.{kind_in, cell_in, net_of}
use Rattle.cx_wiring.proofs.MainLaws.{Tells}
use Rattle.cx_wiring.proofs.MainOrder.{distinct_order}
use Rattle.cx_wiring.proofs.NumberLemmas.{in_number}
use Rattle.cx_wiring.proofs.OrderHeights.{closed}
use Rattle.cx_wiring.proofs.WayLemmas.{net_long}
use Rattle.cx_holes.specs.Inlining.{inlined_component, inlined}
use Rattle.cx_holes.proofs.RenamedFits.{inlined_no_holes}
use Rattle.cx_emit.specs.Fits.{IsFlat as IsFlatNet}
use Rattle.cx_emit.specs.Numbered.{with_numbers}
use Rattle.cx_emit.specs.Places.{cell_number}
use Rattle.cx_emit.specs.Signatures.{primitive_module}
use Rattle.cx_emit.specs.Sources.{component_module, primitives_among, primitive_modules}
use Rattle.cx_emit.proofs.NetPrimitives.{firsts_in, its_primitives, net_in}
use Rattle.cx_emit.proofs.NumberedLemmas.{In, in_either, numbered_in}
use Rattle.cx_emit.proofs.Standing.{comp, own, comp_there, IsPlaced, main_placed, cell_placed, primitive_placed, child_placed}
use Rattle.cx_text.proofs.ListLaws.{at_map, front, there_at}
use Rattle.cx_text.proofs.OptionLaws.{one_value}
use Rattle.cx_compiler.specs.Cells.{EachStands}
use Rattle.cx_compiler.specs.Compiled.{written_source}
use Rattle.cx_compiler.proofs.WrittenCells.{net_is_fit, cell_at, main_here}
use Rattle.cx_compiler.proofs.WrittenShape.{reached}

-- a number that stands once is found where it stands
place_once : (ns : List ℕ) (n k : ℕ) → Distinct ns → slice_get ns n ≡ Some k → place_in k ns ≡ n
place_once [] n k apart e = absurd (cc)
place_once (m ∷ ns) zero k apart e =
    let same : m ≡ k = cc in
    ap (λ b. if b then 0 else (if has_number k ns then suc (place_in k ns) else 0)) (eq-eqb k m (sym same))
place_once (m ∷ ns) (suc n) k apart e =
    let later : Among ns k = in_at ns n k e in
    let other : nat_eq k m ≡ false = by (eqb_tells k m) later in
    ap (λ b. if b then 0 else (if has_number k ns then suc (place_in k ns) else 0)) other
    ∙ ap (λ b. if b then suc (place_in k ns) else 0) (in_number k ns later)
    ∙ ap suc (place_once ns n k apart.1 e)
  where
    by : Tells k m → Among ns k → nat_eq k m ≡ false
    by (inl same) later = absurd (apart.0 (subst (Among ns) same.1 later))
    by (inr other) later = other.0

module _ (d : PlainDesign) (rules : IsDesign d) (flat : IsFlat d) (accepted : IsAccepted d) (sound : is_sound (written_source d) ≡ true) where
  abbrev places : List ℕ
  places = order (lowered_of d)

  abbrev net : PlainNet
  net = inlined (net_of (lowered_of d))

  fit : IsFlatNet net
  fit = record { fits = net_is_fit d rules flat accepted; no_holes = inlined_no_holes (net_of (lowered_of d)) }

  -- some instance is of this component of the net
  abbrev Stands : ℕ → Type 0
  Stands n = (i : ℕ) × IsPlaced net sound fit n i

  -- WHERE MAIN LEADS TO
  record IsReached (k : ℕ) : Type 0 where
    here : has_number k places ≡ true
    stands : Stands (place_in k places)

  leads_on : {k j : ℕ} → LeadsTo d k j → IsReached k → IsReached j
  leads_on {k} (by_cell j cell i is) r =
      let (c, at) = number_in (component_at d k).cells cell i in
      let there : slice_get (comp net sound fit (place_in k places)).cells c ≡ Some (cell_in places cell) =
      cell_at d rules k r.here c ∙ ap (option_map (cell_in places)) (front (component_at d k).cells (timer_cells (component_at d k)) c cell at) in
      record {
        here = closed d rules k r.here cell j i is;
        stands = (cell_number (written_source d) r.stands.0 c, child_placed net sound fit (place_in k places) r.stands.0 c (cell_in places cell) (place_in j places) r.stands.1 there (ap (kind_in places) is));
      }
  leads_on (by_way_of m first second) r = leads_on second (leads_on first r)

  main_reached : IsReached d.main
  main_reached = record { here = main_here d rules; stands = (0, main_placed net sound fit) }

  all_reached : (k : ℕ) → (k ≡ d.main) ⊎ LeadsTo d d.main k → IsReached k
  all_reached k (inl e) = subst IsReached (sym e) main_reached
  all_reached k (inr leads) = leads_on leads main_reached

  all_stand : (n : ℕ) → n < length net.components → Stands n
  all_stand n less =
      let long : length net.components ≡ length (net_of (lowered_of d)).components = length-map (net_of (lowered_of d)).components inlined_component in
      let same : length (net_of (lowered_of d)).components ≡ length places = net_long d rules in
      let (k, at) = there_at places n (omega (arith, less, long, same)) in
      let r = all_reached k (reached d rules flat k (in_number k places (in_at places n k at))) in
      subst Stands (place_once places n k (distinct_order (lowered_of d)) at) r.stands

  -- THE MODULES of a component of the net
  abbrev IsUsed : PlainModule → Type 0
  IsUsed m = (i : ℕ) × (instance : Placed) × (slice_get (instances_of (written_source d)) i ≡ Some instance) × (instance.part ≡ m)

  abbrev part_of : ℕ → PlainNetComponent
  part_of n = comp net sound fit n

  -- that of a primitive stands where a cell has it
  primitive_used : (p : PrimitiveRow) → In p (its_primitives net) → IsUsed (primitive_module p)
  primitive_used p h =
      let (n, part, there, (c, cell, at, is)) = net_in net p (firsts_in [] (primitives_among net.components) p h) in
      let less = slice_get_within net.components n part there in
      let same : part ≡ part_of n = one_value (slice_get net.components n) part (part_of n) there (comp_there net sound fit n less) in
      let here : slice_get (part_of n).cells c ≡ Some cell = subst (λ (x : PlainNetComponent). slice_get x.cells c ≡ Some cell) same at in
      let (i, placed) = all_stand n less in
      let its = cell_placed net sound fit n i c cell placed here in
      (cell_number (written_source d) i c, its.place, its.at, primitive_placed net sound fit n i c cell p placed here is its)

  component_used : (n : ℕ) → n < length net.components → IsUsed (own net sound fit n)
  component_used n less = let (i, p) = all_stand n less in (i, p.place, p.at, p.is)

  -- EACH MODULE STANDS SOMEWHERE in what is written
  pub written_used : EachStands (written_source d)
  written_used m h = by (in_either m (primitive_modules net) (with_numbers (component_module net) net.components) h)
    where
      by : In m (primitive_modules net) ⊎ In m (with_numbers (component_module net) net.components) → IsUsed m
      by (inl (n, e)) = let (p, at, same) = at_map primitive_module (its_primitives net) n m e in subst IsUsed same (primitive_used p (n, at))
      by (inr (n, e)) =
          let (part, there, same) = numbered_in (component_module net) net.components n m e in
          let less = slice_get_within net.components n part there in
          let is : part ≡ part_of n = one_value (slice_get net.components n) part (part_of n) there (comp_there net sound fit n less) in
          subst IsUsed (ap (component_module net n) (sym is) ∙ same) (component_used n less)
