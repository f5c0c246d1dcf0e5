-- A port that is there is as wide in the net of its component as in the design.
use Rattle.std.proofs.Common.{◌≡◌, ℕ, zero, suc, ◌+◌, ◌-◌, ◌<◌, ◌≤◌, Bool, true, false, if◌then◌else◌, List, [], ◌∷◌, ◌++◌, length, map, Some, None, slice_get, refl, ap, sym, ◌∙◌, subst, arith, length-append}
use Rattle.std.specs.Prelude.{◌^◌, nat_lt, nat_le, option_map, option_and_then}
use Rattle.std.proofs.lemmas.Bool.{ltb-true, leb-true}
use Rattle.std.proofs.lemmas.Bool.Decides.{nat_tests}
use Rattle.std.proofs.lemmas.List.{append_assoc, length-map}
use Rattle.std.proofs.lemmas.Option.{slice_get-map}
use Rattle.cx_text.proofs.MemberLaws.{in_at}
use Rattle.cx_prim.specs.Rows.{IsOfWidth}
use Rattle.cx_meaning.specs.declared.ports.PortRef.{PortRef}
use Rattle.cx_meaning.specs.declared.ports.PortRef.TheVariants as ports
use Rattle.cx_meaning.specs.declared.kinds.PortDecl.{PortDecl}
use Rattle.cx_meaning.specs.Designs.{PlainKind, OfPrimitive, OfComponent, PlainCell, PlainComponent, PlainDesign, component_at}
use Rattle.cx_meaning.specs.Instances.{Instance, part_of, cells_of, cell_at, cells_for, tree_within}
use Rattle.cx_meaning.specs.Sights.{AnInput, AnOutput, ItsDone, output_port, part_port}
use Rattle.cx_rules.specs.Ports.{component_of, keeps_literal, declared_width, part_width, cell_width, width_of}
use Rattle.cx_rules.specs.ShapeRules.{is_hole}
use Rattle.cx_rules.specs.Wellformed.{IsDesign, IsThere, port_count}
use Rattle.cx_rules.specs.WidthRules.{IsBadLiteral}
use Rattle.cx_net.specs.Nets.{PlainNetComponent, PlainNet}
use Rattle.cx_net.specs.NetFits.{signature_widths, kind_width, port_width, HasPortWidth}
use Rattle.cx_static.specs.Lowering.{lowered_component, lowered_of}
use Rattle.cx_wiring.specs.Reached.{has_number, order}
use Rattle.cx_wiring.specs.Wiring.{kind_in, cell_in, net_of}
use Rattle.cx_wiring.specs.PartNets.{timer_cells, wired_in}
use Rattle.cx_wiring.proofs.TimerCells.{cells-lowered_component}
use Rattle.cx_wiring.proofs.WayLemmas.{there, placed}
use Rattle.cx_wiring.proofs.OrderHeights.{closed}
use Rattle.cx_wiring.proofs.FitLemmas.{slice_right}
use Rattle.cx_text.proofs.NumberLaws.{never}
use Rattle.cx_laws.proofs.TreeLemmas.{cell_there, declared_there}
use Rattle.cx_meaning.proofs.DesignsLemmas.{same_part}
use Rattle.cx_meaning.proofs.InstancesLemmas.{at_kind, cell_stands}
use Rattle.cx_text.proofs.ListLaws.{there_at, front, there_below}
use Rattle.cx_text.proofs.BoolLaws.{all_three}

not_less : (a b : ℕ) → nat_lt a b ≡ false → b ≤ a
not_less a b f = grind (arith, nat_tests)

-- THE SIGNATURE as a list: go, the inputs, the outputs, done
abbrev widths : List PortDecl → List ℕ
widths decls = map (λ (decl : PortDecl). decl.width) decls

slice_widths : (decls : List PortDecl) (n w : ℕ) → declared_width decls n ≡ Some w → slice_get (widths decls) n ≡ Some w
slice_widths decls n w e = slice_get-map (λ (decl : PortDecl). decl.width) decls n ∙ e

abbrev tail : PlainComponent → List ℕ
tail part = widths part.outputs ++ 1 ∷ []

signature_at : (part : PlainComponent) (p w : ℕ) → p < 2 + length part.inputs + length part.outputs → part_width part (part_port part p) ≡ Some w
    → slice_get (1 ∷ widths part.inputs ++ widths part.outputs ++ 1 ∷ []) p ≡ Some w
signature_at part zero w less e = e
signature_at part (suc m) w less e =
    ap (λ list. slice_get list (suc m)) (append_assoc (1 ∷ widths part.inputs) (widths part.outputs) (1 ∷ [])) ∙ by_input (nat_lt m (length part.inputs)) refl e
  where
    done_at : (r : ℕ) → r < suc (length part.outputs) → nat_lt r (length part.outputs) ≡ false → slice_get (tail part) r ≡ Some 1
    done_at r few out =
        let long : length (widths part.outputs) ≡ length part.outputs = length-map part.outputs (λ (decl : PortDecl). decl.width) in
        let past : r ≡ length (widths part.outputs) + 0 = (let h : length part.outputs ≤ r = not_less r (length part.outputs) out in omega (arith, long)) in
        ap (slice_get (tail part)) past ∙ slice_right (widths part.outputs) (1 ∷ []) 0

    by_output : (r : ℕ) (b : Bool) → r < suc (length part.outputs) → nat_lt r (length part.outputs) ≡ b → part_width part (if b then AnOutput r else ItsDone) ≡ Some w → slice_get (tail part) r ≡ Some w
    by_output r true few is f = front (widths part.outputs) (1 ∷ []) r w (slice_widths part.outputs r w f)
    by_output r false few is f = done_at r few is ∙ f

    by_input : (b : Bool) → nat_lt m (length part.inputs) ≡ b → part_width part (if b then AnInput m else output_port (length part.outputs) (m - length part.inputs)) ≡ Some w
        → slice_get (widths part.inputs ++ (tail part)) m ≡ Some w
    by_input true is f = front (widths part.inputs) (tail part) m w (slice_widths part.inputs m w f)
    by_input false is f =
        let long : length (widths part.inputs) ≡ length part.inputs = length-map part.inputs (λ (decl : PortDecl). decl.width) in
        let all : suc m < 2 + length part.inputs + length part.outputs = less in
        let behind : length part.inputs ≤ m = not_less m (length part.inputs) is in
        let same : m ≡ length (widths part.inputs) + (m - length part.inputs) = omega (arith, long) in
        let few : m - length part.inputs < suc (length part.outputs) = omega arith in
        ap (slice_get (widths part.inputs ++ (tail part))) same
        ∙ slice_right (widths part.inputs) (tail part) (m - length part.inputs)
        ∙ by_output (m - length part.inputs) (nat_lt (m - length part.inputs) (length part.outputs)) few refl f

-- LITERALS

literal_fits : (u v w : ℕ) (b : Bool) → keeps_literal u v ≡ b → (if b then Some u else None) ≡ Some w → IsOfWidth w (record { width = u; value = v })
literal_fits u v w false keeps e = absurd cc
literal_fits u v w true keeps e =
    let parts = all_three (nat_le 1 u) (nat_le u 128) (nat_lt v (2 ^ u)) keeps in
    let same : u ≡ w = cc in
    record { same_width = same; fits = record { some_bits = leb-true 1 u parts.0; few_bits = leb-true u 128 parts.1; in_range = ltb-true v (2 ^ u) parts.2 } }

module _ (d : PlainDesign) (rules : IsDesign d) (k : ℕ) (here : has_number k (order (lowered_of d)) ≡ true) where
  abbrev part : PlainComponent
  part = component_at d k

  abbrev pub whole : Instance
  whole = component_of d k

  abbrev pub net : PlainNet
  net = net_of (lowered_of d)

  abbrev pub npart : PlainNetComponent
  npart = wired_in d part

  abbrev places : List ℕ
  places = order (lowered_of d)

  pub part_is : part_of whole ≡ part
  part_is = same_part d (length d.components) k

  some_level : (m j : ℕ) → j < m → (n : ℕ) × (m ≡ suc n)
  some_level zero j h = absurd (omega arith)
  some_level (suc n) j h = (n, refl)

  -- with so many levels below it
  below_it : (n : ℕ) × (length d.components ≡ suc n)
  below_it = some_level (length d.components) k (there d rules k here)

  cells_are : cells_of whole ≡ cells_for (tree_within d below_it.0) part.cells
  cells_are = ap (λ m. cells_of (tree_within d m k)) below_it.1

  at_is : (c : ℕ) (cell : PlainCell) → slice_get part.cells c ≡ Some cell → cell_at (cells_of whole) c ≡ at_kind (tree_within d below_it.0) cell.kind
  at_is c cell e = ap (λ cells. cell_at cells c) cells_are ∙ cell_stands (tree_within d below_it.0) part.cells c cell e

  -- the cells of the net begin with those of the component
  pub cells_is : npart.cells ≡ map (cell_in places) (lowered_component part).part.cells
  cells_is = refl

  cell_is : (c : ℕ) (cell : PlainCell) → slice_get part.cells c ≡ Some cell → slice_get npart.cells c ≡ Some (cell_in places cell)
  cell_is c cell e =
      slice_get-map (cell_in places) (lowered_component part).part.cells c
      ∙ ap (option_map (cell_in places)) (ap (λ cells. slice_get cells c) (cells-lowered_component part) ∙ front part.cells (timer_cells part) c cell e)

  kind_wide : (kind : PlainKind) (p w : ℕ) → ((j : ℕ) → kind ≡ OfComponent j → has_number j places ≡ true) → p < port_count (at_kind (tree_within d below_it.0) kind)
      → cell_width (at_kind (tree_within d below_it.0) kind) p ≡ Some w → kind_width net (kind_in places kind) p ≡ Some w
  kind_wide (OfPrimitive primitive) p w among less e = e
  kind_wide (OfComponent j) p w among less e =
      let same = same_part d below_it.0 j in
      ap (λ x. slice_get (signature_widths x) p) (placed d rules j (among j refl))
      ∙ signature_at (component_at d j) p w (subst (λ (x : PlainComponent). p < 2 + length x.inputs + length x.outputs) same less) (subst (λ x. part_width x (part_port x p) ≡ Some w) same e)

  pub cell_wide : (c p w : ℕ) → c < length part.cells → p < port_count (cell_at (cells_of whole) c) → cell_width (cell_at (cells_of whole) c) p ≡ Some w → port_width net npart (ports.Cell c p) ≡ Some w
  cell_wide c p w within less e =
      let r = there_at part.cells c within in
      let at = at_is c r.0 r.1 in
      ap (option_and_then (λ cell. kind_width net cell.kind p)) (cell_is c r.0 r.1)
      ∙ kind_wide r.0.kind p w (λ j is. closed d rules k here r.0 j (in_at part.cells c r.0 r.1) is) (subst (λ x. p < port_count x) at less) (subst (λ x. cell_width x p ≡ Some w) at e)

  -- A PORT that is there has its width
  pub port_wide : (p : PortRef) (w : ℕ) → IsThere whole p → is_hole p ≡ false → width_of whole p ≡ Some w → HasPortWidth net npart p w
  port_wide (ports.Cell c p) w is hole e = cell_wide c p w (subst (λ (x : PlainComponent). c < length x.cells) part_is is.0) is.1 e
  port_wide (ports.Input n) w is hole e = subst (λ (x : PlainComponent). declared_width x.inputs n ≡ Some w) part_is e
  port_wide (ports.Output n) w is hole e = subst (λ (x : PlainComponent). declared_width x.outputs n ≡ Some w) part_is e
  port_wide (ports.Done g) w is hole e = never (sym hole)
  port_wide (ports.Literal u v) w is hole e = literal_fits u v w (keeps_literal u v) refl e

part_some : (component : PlainComponent) (p : ℕ) → (w : ℕ) × (part_width component (part_port component p) ≡ Some w)
part_some component zero = (1, refl)
part_some component (suc m) = by_input (nat_lt m (length component.inputs)) refl
  where
    by_output : (r : ℕ) (b : Bool) → nat_lt r (length component.outputs) ≡ b → (w : ℕ) × (part_width component (if b then AnOutput r else ItsDone) ≡ Some w)
    by_output r true is = declared_there component.outputs r (ltb-true r (length component.outputs) is)
    by_output r false is = (1, refl)

    by_input : (b : Bool) → nat_lt m (length component.inputs) ≡ b → (w : ℕ) × (part_width component (if b then AnInput m else output_port (length component.outputs) (m - length component.inputs)) ≡ Some w)
    by_input true is = declared_there component.inputs m (ltb-true m (length component.inputs) is)
    by_input false is = by_output (m - length component.inputs) (nat_lt (m - length component.inputs) (length component.outputs)) refl

literal_some : (u v : ℕ) (b : Bool) → keeps_literal u v ≡ b → (IsBadLiteral (ports.Literal u v) → ⊥) → (w : ℕ) × ((if b then Some u else None) ≡ Some w)
literal_some u v true keeps good = (u, refl)
literal_some u v false keeps good = absurd (good (u, v, refl, keeps))

pub width_some : (i : Instance) (p : PortRef) → IsThere i p → (IsBadLiteral p → ⊥) → (w : ℕ) × (width_of i p ≡ Some w)
width_some i (ports.Cell c p) is good = cell_there (cell_at (cells_of i) c) p is.1
width_some i (ports.Input n) is good = declared_there (part_of i).inputs n is
width_some i (ports.Output n) is good = declared_there (part_of i).outputs n is
width_some i (ports.Done g) is good = (1, refl)
width_some i (ports.Literal u v) is good = literal_some u v (keeps_literal u v) refl good

-- what the list of the signature has is the width of the port
pub part_back : (component : PlainComponent) (p w : ℕ) → slice_get (1 ∷ widths component.inputs ++ widths component.outputs ++ 1 ∷ []) p ≡ Some w → part_width component (part_port component p) ≡ Some w
part_back component p w e =
    let v = part_some component p in
    let below : p < length (1 ∷ widths component.inputs ++ widths component.outputs ++ 1 ∷ []) = there_below (1 ∷ widths component.inputs ++ widths component.outputs ++ 1 ∷ []) p w e in
    let inputs : length (widths component.inputs) ≡ length component.inputs = length-map component.inputs (λ (decl : PortDecl). decl.width) in
    let outputs : length (widths component.outputs) ≡ length component.outputs = length-map component.outputs (λ (decl : PortDecl). decl.width) in
    let first : length (1 ∷ widths component.inputs ++ widths component.outputs) ≡ length (1 ∷ widths component.inputs) + length (widths component.outputs) = length-append (1 ∷ widths component.inputs) (widths component.outputs) in
    let all : length (1 ∷ widths component.inputs ++ widths component.outputs ++ 1 ∷ []) ≡ length (1 ∷ widths component.inputs ++ widths component.outputs) + 1 = length-append (1 ∷ widths component.inputs ++ widths component.outputs) (1 ∷ []) in
    let less : p < 2 + length component.inputs + length component.outputs = omega arith in
    v.1 ∙ sym (signature_at component p v.0 less v.1) ∙ e
