-- What gives a net, a register or a word its value is as wide.
use Rattle.std.proofs.Common.{◌≡◌, ℕ, zero, suc, true, List, [], ◌∷◌, ◌++◌, map, Option, Some, None, slice_get, refl, ap, sym, ◌∙◌, subst, if◌then◌else◌}
use Rattle.std.specs.Option.{option_map_or}
use Rattle.std.specs.Cmp.Lexicographic.{same_text}
use Rattle.cx_vtree.specs.declared.meanings.Meaning.TheVariants.{Register}
use Rattle.cx_vtree.specs.Plain.{PlainExpr, PlainPort, PlainDecl, WireOf, RegisterOf, ArrayOf}
use Rattle.cx_vtree.specs.InstanceTree as kinds
use Rattle.cx_vtree.specs.InstanceTree.{Placed, same_name, ports_at, decls_at, declared_nets, nets_at, NetKind, kind_in, driving_output, assigned, driver_of, origin_by, Origin, Outside, Tied, Held, Given, origin_of, declared_arrays, arrays_at}
use Rattle.cx_vtree.specs.Sound.{Scope, width_of, is_array, decl_name, decl_meaning, port_meaning}
use Rattle.cx_vnets.specs.CodeLaws.{declared_widths, net_widths, array_widths}
use Rattle.cx_vlaws.specs.Widths.{scope_at}
use Rattle.cx_vlaws.specs.Origins.{width_at, IsThere}
use Rattle.cx_vlaws.specs.MainPorts.{main_ports}
use Rattle.cx_velab.specs.Zeros.{widths_at, InputsAreBits}
use Rattle.cx_velab.specs.FitsLaws.{IsAsWide, OriginsAreAsWide, SetsAreAsWide, StoresAreAsWide}
use Rattle.cx_vsim.specs.Trees.{IsEvenlyWide}
use Rattle.cx_vsim.proofs.Positions.{position_there, origin_found, origin_position, ports_there}
use Rattle.cx_vsim.proofs.TidyLemmas.{Origins}
use Rattle.cx_vsim.proofs.CodedLemmas.{SetsAre, StoresAre}
use Rattle.cx_vtree.proofs.InstanceTreeLemmas.{driving_not_outside}
use Rattle.cx_vtree.proofs.MeaningsLemmas.{port_width}
use Rattle.cx_velab.proofs.CoveredLemmas.{no_input}
use Rattle.cx_text.proofs.OptionLaws.{by_side}
use Rattle.cx_vnets.proofs.Numbering.{position_here}

-- where each name stands for its part, widths by number are those by name
module _ (scope : Scope) where
  abbrev PortsMeant : List PlainPort → Type 0
  PortsMeant ps = (k : ℕ) (p : PlainPort) → slice_get ps k ≡ Some p → scope p.name ≡ port_meaning p

  abbrev DeclsMeant : List PlainDecl → Type 0
  DeclsMeant ds = (k : ℕ) (d : PlainDecl) → slice_get ds k ≡ Some d → scope (decl_name d) ≡ decl_meaning d

  declared_width : (ds : List PlainDecl) → DeclsMeant ds → (k : ℕ) (name : List ℕ) → slice_get (declared_nets ds) k ≡ Some name → slice_get (declared_widths ds) k ≡ Some (width_of (scope name))
  declared_width [] meant k name e = absurd (cc)
  declared_width (WireOf n w ∷ ds) meant zero name e =
      let same : n ≡ name = cc in ap Some (sym (ap width_of (ap scope (sym same) ∙ meant 0 (WireOf n w) refl)))
  declared_width (WireOf n w ∷ ds) meant (suc k) name e = declared_width ds (λ j d at. meant (suc j) d at) k name e
  declared_width (RegisterOf n w ∷ ds) meant zero name e =
      let same : n ≡ name = cc in ap Some (sym (ap width_of (ap scope (sym same) ∙ meant 0 (RegisterOf n w) refl)))
  declared_width (RegisterOf n w ∷ ds) meant (suc k) name e = declared_width ds (λ j d at. meant (suc j) d at) k name e
  declared_width (ArrayOf n w s ∷ ds) meant k name e = declared_width ds (λ j d at. meant (suc j) d at) k name e

  pub net_width : (ps : List PlainPort) (ds : List PlainDecl) → PortsMeant ps → DeclsMeant ds → (k : ℕ) (name : List ℕ) → slice_get (map (λ p. p.name) ps ++ declared_nets ds) k ≡ Some name
      → slice_get (net_widths ps ds) k ≡ Some (width_of (scope name))
  net_width [] ds ports decls k name e = declared_width ds decls k name e
  net_width (p ∷ ps) ds ports decls zero name e =
      let same : p.name ≡ name = cc in ap Some (sym (ap width_of (ap scope (sym same) ∙ ports 0 p refl) ∙ port_width p.output p.width))
  net_width (p ∷ ps) ds ports decls (suc k) name e = net_width ps ds (λ j q at. ports (suc j) q at) decls k name e

  pub array_width : (ds : List PlainDecl) → DeclsMeant ds → (a : ℕ) (name : List ℕ) → slice_get (declared_arrays ds) a ≡ Some name → slice_get (array_widths ds) a ≡ Some (width_of (scope name))
  array_width [] meant a name e = absurd (cc)
  array_width (ArrayOf n w s ∷ ds) meant zero name e =
      let same : n ≡ name = cc in ap Some (sym (ap width_of (ap scope (sym same) ∙ meant 0 (ArrayOf n w s) refl)))
  array_width (ArrayOf n w s ∷ ds) meant (suc a) name e = array_width ds (λ j d at. meant (suc j) d at) a name e
  array_width (WireOf n w ∷ ds) meant a name e = array_width ds (λ j d at. meant (suc j) d at) a name e
  array_width (RegisterOf n w ∷ ds) meant a name e = array_width ds (λ j d at. meant (suc j) d at) a name e

-- an input is a port
abbrev PortIn : List PlainPort → List ℕ → Type 0
PortIn ports name = (h : ℕ) × (port : PlainPort) × (slice_get ports h ≡ Some port) × (port.name ≡ name)

input_port : (ps : List PlainPort) (ds : List PlainDecl) (name : List ℕ) → kind_in ps ds name ≡ Some kinds.Input → PortIn ps name
input_port [] ds name e = absurd (no_input ds name e)
input_port (p ∷ ps) ds name e =
    by_side (PortIn (p ∷ ps) name) (same_name p.name name) (Some (if p.output then kinds.Driven else kinds.Input)) (kind_in ps ds name) kinds.Input e
    (λ t f. (0, p, refl, same_text p.name name (sym t)))
    (λ t f. let r = input_port ps ds name f in (suc r.0, r.1, r.2, r.3))

driven_inside : (o : Option PlainExpr) (d : Option Origin) → (d ≡ Some Outside → ⊥) → option_map_or (λ e. Some (Given e)) o d ≡ Some Outside → ⊥
driven_inside None d h f = h f
driven_inside (Some x) d h f = absurd (cc)

outside_kind : (tree : List Placed) (i : ℕ) (p : Placed) (name : List ℕ) (k : NetKind) → origin_by tree i p name k ≡ Some Outside → k ≡ kinds.Input
outside_kind tree i p name kinds.Input e = refl
outside_kind tree i p name kinds.Driven e = absurd (driven_inside (assigned p.part.assigns name) (driving_output tree 0 i name) (driving_not_outside tree 0 i name) e)
outside_kind tree i p name (kinds.Stored w) e = absurd (cc)

-- the ports of `main` have one bit
main_wide : (h : ℕ) (port : PlainPort) → slice_get main_ports h ≡ Some port → port.width ≡ 1
main_wide zero port e = ap (λ o. option_map_or (λ (q : PlainPort). q.width) o 1) (sym e)
main_wide (suc zero) port e = ap (λ o. option_map_or (λ (q : PlainPort). q.width) o 1) (sym e)
main_wide (suc (suc zero)) port e = ap (λ o. option_map_or (λ (q : PlainPort). q.width) o 1) (sym e)
main_wide (suc (suc (suc zero))) port e = ap (λ o. option_map_or (λ (q : PlainPort). q.width) o 1) (sym e)
main_wide (suc (suc (suc (suc h)))) port e = absurd (cc)

module _ (tree : List Placed) (origins : Origins tree)
    (ports : (i k : ℕ) (p : PlainPort) → slice_get (ports_at tree i) k ≡ Some p → scope_at tree i p.name ≡ port_meaning p)
    (decls : (i k : ℕ) (d : PlainDecl) → slice_get (decls_at tree i) k ≡ Some d → scope_at tree i (decl_name d) ≡ decl_meaning d) where
  -- the width of the net of a number
  wide_at : (i k : ℕ) (name : List ℕ) → slice_get (nets_at tree i) k ≡ Some name → slice_get (widths_at tree i) k ≡ Some (width_at tree i name)
  wide_at i k name at = net_width (scope_at tree i) (ports_at tree i) (decls_at tree i) (ports i) (decls i) k name at

  outside_bit : (p : Placed) → slice_get tree 0 ≡ Some p → p.part.ports ≡ main_ports → InputsAreBits tree
  outside_bit main first is i k name at outside =
      let o = origins i name (k, at) in
      let same : o.0 ≡ Outside = let e = o.1 in cc in
      let root : i ≡ 0 = subst (IsThere tree i (width_at tree i name)) same o.2 in
      let f = origin_found tree i name Outside outside in
      let input : kind_in f.0.part.ports f.0.part.decls name ≡ Some kinds.Input = f.2.1 ∙ ap Some (outside_kind tree i f.0 name f.2.0 f.2.2) in
      let port = input_port f.0.part.ports f.0.part.decls name input in
      let here : slice_get (ports_at tree i) port.0 ≡ Some port.1 = ap (λ l. slice_get l port.0) (ports_there tree i f.0 f.1) ∙ port.2 in
      let of_main : ports_at tree i ≡ main_ports = ap (ports_at tree) root ∙ ports_there tree 0 main first ∙ is in
      let bit : port.1.width ≡ 1 = main_wide port.0 port.1 (ap (λ l. slice_get l port.0) (sym of_main) ∙ here) in
      let wide : width_at tree i name ≡ 1 =
      ap (λ n. width_at tree i n) (sym port.3) ∙ ap width_of (ports i port.0 port.1 here) ∙ port_width port.1.output port.1.width ∙ bit in
      wide_at i k name at ∙ ap Some wide

  origin_wide : (i w : ℕ) (o : Origin) → IsThere tree i w o → IsAsWide tree i w o
  origin_wide i w Outside there = tt
  origin_wide i w (Tied j net) there =
      let number = position_there (nets_at tree j) net there.0.0 there.0.1 in
      (number.0, number.1, wide_at j number.0 net (position_here (nets_at tree j) net number.0 number.1) ∙ ap Some there.1)
  origin_wide i w (Held v) there = tt
  origin_wide i w (Given e) there = (there.named, there.width)

  pub origins_wide : OriginsAreAsWide tree
  origins_wide i k w name o at wide is =
      let r = origins i name (k, at) in
      let same : r.0 ≡ o = let e = r.1 in cc in
      let known = wide_at i k name at in
      let width : width_at tree i name ≡ w = cc in
      origin_wide i w o (subst (λ v. IsThere tree i v o) width (subst (IsThere tree i (width_at tree i name)) same r.2))

  module _ (sets : SetsAre tree) (stores : StoresAre tree)
      (held : (i w : ℕ) (n : List ℕ) → scope_at tree i n ≡ Register w → origin_of tree i n ≡ Some (Held w))
      (arrays : (i : ℕ) (n : List ℕ) → is_array (scope_at tree i n) ≡ true → (k : ℕ) × (slice_get (arrays_at tree i) k ≡ Some n)) where
    sets_wide : (reset : ℕ) → SetsAreAsWide tree reset
    sets_wide reset i j a at =
        let is = sets i reset j a at in
        let number = origin_position tree i a.name (Held (width_of (scope_at tree i a.name))) (held i (width_of (scope_at tree i a.name)) a.name is.register) in
        record {
          number = number.0;
          width = width_of (scope_at tree i a.name);
          net = number.1;
          there = wide_at i number.0 a.name (position_here (nets_at tree i) a.name number.0 number.1);
          value = (is.value.named, is.value.width);
        }

    stores_wide : (reset : ℕ) → StoresAreAsWide tree reset
    stores_wide reset i j s at =
        let is = stores i reset j s at in
        let r = arrays i s.array (ap is_array is.array) in
        let number = position_there (arrays_at tree i) s.array r.0 r.1 in
        record {
          number = number.0;
          width = width_of (scope_at tree i s.array);
          index_width = is.index_width;
          array = number.1;
          there = array_width (scope_at tree i) (decls_at tree i) (decls i) number.0 s.array (position_here (arrays_at tree i) s.array number.0 number.1);
          guard = (is.guard.named, is.guard.width);
          index = (is.index.named, is.index.width);
          value = (is.value.named, is.value.width);
        }

    pub wide_tree : (p : Placed) → slice_get tree 0 ≡ Some p → p.part.ports ≡ main_ports → IsEvenlyWide tree
    wide_tree p first is = record { bits = outside_bit p first is; origins = origins_wide; sets = sets_wide; stores = stores_wide }
