-- One instance of a table.
use Rattle.std.proofs.Common.{◌≡◌, ℕ, ◌+◌, ◌<◌, ◌≤◌, ◌^◌, List, [], ◌++◌, map, length, get_or, Some, option_map, slice_get, refl, ap, sym, ◌∙◌, subst, arith, length-append}
use Rattle.std.specs.Prelude.{IsSome}
use Rattle.std.specs.Option.{option_map_or}
use Rattle.std.proofs.lemmas.List.{length-map}
use Rattle.std.proofs.lemmas.Option.{slice_get-map, slice_get_read, slice_get_within}
use Rattle.cx_vtree.specs.Plain.{PlainPort, PlainAssign, PlainConn}
use Rattle.cx_vtree.specs.InstanceTree.{Placed, declared_nets, nets_at, Given, declared_arrays, arrays_at}
use Rattle.cx_vnets.specs.declared.codes.Code.{Code}
use Rattle.cx_vnets.specs.declared.codes.NetPosition.{NetPosition}
use Rattle.cx_vnets.specs.declared.nets.Driver.{Driver}
use Rattle.cx_vtree.specs.NameNumbers.{position}
use Rattle.cx_vnets.specs.ModuleCodes.{Numbering, IsCode}
use Rattle.cx_vnets.specs.Numberings.{nets_by}
use Rattle.cx_vnets.specs.Numbers.{nets_before, place_of}
use Rattle.cx_velab.specs.Tables.{all_places}
use Rattle.cx_velab.specs.Coded.{values_of, edge_exprs, module_exprs}
use Rattle.cx_velab.specs.declared.parts.ModulePart.{ModulePart}
use Rattle.cx_velab.specs.Parts.{PartStands, PartsStand}
use Rattle.cx_velab.specs.Ties.{tied_ports, given_nets}
use Rattle.cx_velab.specs.Driven.{KeepsRight, IsWhole, IsConnected, IsTied, TiesAreRight, GivensAreRight}
use Rattle.cx_vsim.specs.Trees.{CanBeBuilt}
use Rattle.cx_vsim.specs.Tables.{exprs_at, IsPartOf}
use Rattle.cx_vsim.specs.Passes.{RowTied, RowGiven}
use Rattle.cx_vsim.proofs.Positions.{origin_position, nets_there, decls_there}
use Rattle.cx_vsim.proofs.PassLemmas.{lists_up, net_within}
use Rattle.cx_text.proofs.ListLaws.{there_at, front}
use Rattle.cx_vsim.proofs.Finding.{place_at}
use Rattle.cx_velab.proofs.TablesLemmas.{places_length}
use Rattle.cx_text.proofs.OptionLaws.{some_by}
use Rattle.cx_vnets.proofs.Numbering.{position_here}

-- the place that is read is that of the instance
pub place_read : (tree : List Placed) (places : List NetPosition) (n i : ℕ) (x : NetPosition) → places ≡ all_places tree n → i < n → x ≡ get_or places i x → x ≡ place_of tree i
place_read tree places n i x e lt at =
    let long : length places ≡ n = ap length e ∙ places_length tree n in
    let within : i < length places = omega arith in
    let read = slice_get_read places (length places) i x refl within at in
    let there : slice_get places i ≡ Some (place_of tree i) = ap (λ l. slice_get l i) e ∙ place_at tree n i lt in
    cc

-- the part of an instance
module _ (tree : List Placed) (codes : List Code) (list : List ModulePart) (of_rows : List ℕ) (stand : PartsStand tree codes list of_rows) (i : ℕ) (lt : i < length tree) where
  pub own_row : i < length of_rows
  own_row = let p = there_at tree i lt in let r = stand i p.0 p.1 in slice_get_within of_rows i r.0 r.1

  row_is : (j : ℕ) → j ≡ get_or of_rows i j → slice_get of_rows i ≡ Some j
  row_is j at = slice_get_read of_rows (length of_rows) i j refl own_row at

  pub own_part : (j : ℕ) → j ≡ get_or of_rows i j → j < length list
  own_part j at =
      let p = there_at tree i lt in
      let r = stand i p.0 p.1 in
      let e = row_is j at in
      let f = r.1 in
      let same : r.0 ≡ j = cc in
      let within = slice_get_within list r.0 r.2.0 r.2.1 in
      subst (λ k. k < length list) same within

  scope_is : (p : Placed) → slice_get tree i ≡ Some p → exprs_at tree i ≡ module_exprs p.part
  scope_is p at = ap (λ o. option_map_or (λ (q : Placed). module_exprs q.part) o []) at

  stands_by : (p : Placed) (x : ModulePart) → slice_get tree i ≡ Some p → PartStands codes p.part x → length codes < 2 ^ 32 → IsPartOf tree codes i x
  stands_by p x at s small = record {
    nets = s.nets ∙ ap position (sym (nets_there tree i p at));
    arrays = s.arrays ∙ ap (λ ds. position (declared_arrays ds)) (sym (decls_there tree i p at));
    coded = λ j e there.
        let c = s.coded j e (ap (λ l. slice_get l j) (sym (scope_is p at)) ∙ there) in (
          c.0,
          c.1,
          subst (λ f. IsCode f (position (arrays_at tree i)) c.0 e) (ap position (sym (nets_there tree i p at)))
              (subst (λ g. IsCode (position (map (λ q. q.name) p.part.ports ++ declared_nets p.part.decls)) g c.0 e)
              (ap (λ ds. position (declared_arrays ds)) (sym (decls_there tree i p at))) c.2),
        );
    small = let w = s.within in let e = ap length (scope_is p at) in omega (arith, w, e, small);
  }

  pub part_read : (j : ℕ) (x : ModulePart) → j ≡ get_or of_rows i j → x ≡ get_or list j x → length codes < 2 ^ 32 → IsPartOf tree codes i x
  part_read j x at is small =
      let p = there_at tree i lt in
      let r = stand i p.0 p.1 in
      let e = row_is j at in
      let f = r.1 in
      let same : r.0 ≡ j = cc in
      let read = slice_get_read list (length list) j x refl (own_part j at) is in
      let found : slice_get list j ≡ Some r.2.0 = subst (λ k. slice_get list k ≡ Some r.2.0) same r.2.1 in
      let one : r.2.0 ≡ x = cc in
      stands_by p.0 x p.1 (subst (PartStands codes p.0.part) one r.2.2) small

module _ (tree : List Placed) (codes : List Code) (build : CanBeBuilt tree) where
  -- numbers of an instance's nets are below the count of all
  pub numbers_within : (i : ℕ) (nets : Numbering) (start count : ℕ) → nets ≡ position (nets_at tree i) → start ≡ nets_before tree i → count ≡ nets_before tree (length tree)
      → (name : List ℕ) (k : ℕ) → nets name ≡ Some k → start + k < count
  numbers_within i nets start count e f g name k is =
      let number : position (nets_at tree i) name ≡ Some k = ap (λ h. h name) (sym e) ∙ is in
      let lt = net_within tree codes i k name (position_here (nets_at tree i) name k number) in
      omega (arith, lt, f, g)

  module _ (i : ℕ) (p : Placed) (at : slice_get tree i ≡ Some p) where
    -- what is assigned
    pub assign_named : (nets : Numbering) → nets ≡ position (nets_at tree i) → (j : ℕ) (a : PlainAssign) → slice_get p.part.assigns j ≡ Some a → IsSome (nets a.name)
    assign_named nets e j a there =
        let number = origin_position tree i a.name (Given a.value) (build.rooted.givens i j p a at there) in
        some_by (nets a.name) number.0 (ap (λ h. h a.name) e ∙ number.1)

    expr_front : (j : ℕ) (a : PlainAssign) → slice_get p.part.assigns j ≡ Some a → slice_get (exprs_at tree i) j ≡ Some a.value
    expr_front j a there =
        ap (λ o. slice_get (option_map_or (λ (q : Placed). module_exprs q.part) o []) j) at
        ∙ front (values_of p.part.assigns) (edge_exprs p.part.edge) j a.value (slice_get-map (λ (b : PlainAssign). b.value) p.part.assigns j ∙ ap (option_map (λ (b : PlainAssign). b.value)) there)

    pub assigns_short : (x : ModulePart) → IsPartOf tree codes i x → x.first + length p.part.assigns < 2 ^ 32
    assigns_short x is =
        let small = is.small in
        let all : length (exprs_at tree i) ≡ length (values_of p.part.assigns) + length (edge_exprs p.part.edge) =
        ap (λ o. length (option_map_or (λ (q : Placed). module_exprs q.part) o [])) at ∙ length-append (values_of p.part.assigns) (edge_exprs p.part.edge) in
        let own : length (values_of p.part.assigns) ≡ length p.part.assigns = length-map p.part.assigns (λ (b : PlainAssign). b.value) in
        omega (arith, small, all, own)

    abbrev GivenRight : List Driver → List Driver → Type 0
    GivenRight old new = KeepsRight tree codes old new × IsWhole tree new × RowGiven tree codes new i

    pub give_right : GivensAreRight → (x : ModulePart) → IsPartOf tree codes i x → (place : NetPosition) → place ≡ place_of tree i → (old new : List Driver) → IsWhole tree old
        → (assigns : List PlainAssign) → assigns ≡ p.part.assigns → new ≡ given_nets (nets_by x.numbers) place x.first assigns old → GivenRight old new
    give_right law x is place e old new whole assigns same made =
        let r = law tree codes i x.first p.part.assigns old build.tidy.apart whole (λ j a there.
        let given = build.rooted.givens i j p a at there in
        let number = origin_position tree i a.name (Given a.value) given in
        record { number = number.0; net = number.1; origin = given; coded = is.coded j a.value (expr_front j a there) }) in
        let made_is : given_nets (position (nets_at tree i)) (place_of tree i) x.first p.part.assigns old ≡ new =
        sym (made ∙ ap (λ f. given_nets f place x.first assigns old) is.nets ∙ ap (λ q. given_nets (position (nets_at tree i)) q x.first assigns old) e
        ∙ ap (λ l. given_nets (position (nets_at tree i)) (place_of tree i) x.first l old) same) in
        subst (GivenRight old) made_is (
          r.0,
          r.1,
          λ j n q a here there number.
              let one : p ≡ q = cc in
              r.2 j a n (subst (λ (z : Placed). slice_get z.part.assigns j ≡ Some a) (sym one) there) number,
        )

    module _ (inner : i ≡ 0 → ⊥) where
      pub conn_named : (nets : Numbering) → nets ≡ position (nets_at tree p.holder) → (j : ℕ) (c : PlainConn) → slice_get p.conns j ≡ Some c → IsSome (nets c.net)
      conn_named nets e j c there =
          let long = build.tidy.conns i p at inner in
          let lt = slice_get_within p.conns j c there in
          let port = there_at p.part.ports j (omega (arith, long, lt)) in
          let r = build.tidy.ports i j p port.0 at inner port.1 in
          let f = r.1 in
          let same : r.0 ≡ c = cc in
          some_by (nets c.net) r.3.number (ap (λ h. h c.net) e ∙ ap (λ (d : PlainConn). position (nets_at tree p.holder) d.net) (sym same) ∙ r.3.net)

      pub ports_within : (start count : ℕ) → start ≡ nets_before tree i → count ≡ nets_before tree (length tree) → start + length p.part.ports ≤ count
      ports_within start count e f =
          let up = lists_up (nets_at tree) (length tree) i (slice_get_within tree i p at) in
          let own : length (nets_at tree i) ≡ length p.part.ports + length (declared_nets p.part.decls) =
          ap length (nets_there tree i p at) ∙ length-append _ (declared_nets p.part.decls) ∙ ap (λ n. n + length (declared_nets p.part.decls)) (length-map p.part.ports (λ (q : PlainPort). q.name)) in
          omega (arith, up, own, e, f)

      abbrev TiedRight : List Driver → List Driver → Type 0
      TiedRight old new = KeepsRight tree codes old new × IsWhole tree new × RowTied tree codes new i

      pub tie_right : TiesAreRight → (nets : Numbering) → nets ≡ position (nets_at tree p.holder) → (own around : NetPosition) → own ≡ place_of tree i → around ≡ place_of tree p.holder
          → (old new : List Driver) → IsWhole tree old → (ports : List PlainPort) (conns : List PlainConn) → ports ≡ p.part.ports → conns ≡ p.conns
          → new ≡ tied_ports nets own.nets around.nets 0 ports conns old → TiedRight old new
      tie_right law nets e own around f g old new whole ports conns h k made =
          let r = law tree codes i p.holder p.part.ports p.conns old build.tidy.apart whole (λ j port c there conn.
          let t = build.tidy.ports i j p port at inner there in
          let u = t.1 in
          let same : t.0 ≡ c = cc in
          subst (IsConnected tree i p.holder j port) same t.3) in
          let made_is : tied_ports (position (nets_at tree p.holder)) (nets_before tree i) (nets_before tree p.holder) 0 p.part.ports p.conns old ≡ new =
          sym (made ∙ ap (λ n. tied_ports n own.nets around.nets 0 ports conns old) e
          ∙ ap (λ (q : NetPosition). tied_ports (position (nets_at tree p.holder)) q.nets around.nets 0 ports conns old) f
          ∙ ap (λ (q : NetPosition). tied_ports (position (nets_at tree p.holder)) (nets_before tree i) q.nets 0 ports conns old) g
          ∙ ap (λ l. tied_ports (position (nets_at tree p.holder)) (nets_before tree i) (nets_before tree p.holder) 0 l conns old) h
          ∙ ap (λ l. tied_ports (position (nets_at tree p.holder)) (nets_before tree i) (nets_before tree p.holder) 0 p.part.ports l old) k) in
          subst (TiedRight old) made_is (
            r.0,
            r.1,
            λ j n q port c here inside there conn number.
                let one : p ≡ q = cc in
                subst (λ (z : Placed). IsTied tree codes (tied_ports (position (nets_at tree p.holder)) (nets_before tree i) (nets_before tree p.holder) 0 p.part.ports p.conns old) i z.holder j n port.output) one
                (r.2 j port c n (subst (λ (z : Placed). slice_get z.part.ports j ≡ Some port) (sym one) there) (subst (λ (z : Placed). slice_get z.conns j ≡ Some c) (sym one) conn)
                (subst (λ (z : Placed). position (nets_at tree z.holder) c.net ≡ Some n) (sym one) number)),
          )
