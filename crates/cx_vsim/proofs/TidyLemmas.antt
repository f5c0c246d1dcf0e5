-- The nets and ports of a sound source's tree.
use Rattle.std.proofs.Common.{◌≡◌, ℕ, Bool, true, false, List, [], length, Some, slice_get, refl, sym, subst}
use Rattle.std.specs.Prelude.{IsSome}
use Rattle.cx_vtree.specs.Plain.{PlainPort, PlainConn}
use Rattle.cx_vtree.specs.InstanceTree.{Placed, Origin, Tied, origin_of}
use Rattle.cx_vlaws.specs.Origins.{IsNet, width_at, IsThere}
use Rattle.cx_velab.specs.Driven.{NetsAreApart, TellsOrigin, IsConnected}
use Rattle.cx_velab.specs.Covered.{IsTidy}
use Rattle.cx_vsim.proofs.Positions.{origin_position, port_net}

-- each net has an origin that is there
abbrev pub Origins : List Placed → Type 0
Origins tree = (i : ℕ) (name : List ℕ) → IsNet tree i name → (o : Origin) × (origin_of tree i name ≡ Some o) × IsThere tree i (width_at tree i name) o

abbrev pub InputsTied : List Placed → Type 0
InputsTied tree = (i k : ℕ) (p : Placed) (port : PlainPort) → slice_get tree i ≡ Some p → (i ≡ 0 → ⊥) → slice_get p.part.ports k ≡ Some port → port.output ≡ false
    → (c : PlainConn) × (slice_get p.conns k ≡ Some c) × (c.port ≡ port.name) × (origin_of tree i port.name ≡ Some (Tied p.holder c.net))

abbrev pub OutputsTied : List Placed → Type 0
OutputsTied tree = (i k : ℕ) (p : Placed) (port : PlainPort) → slice_get tree i ≡ Some p → (i ≡ 0 → ⊥) → slice_get p.part.ports k ≡ Some port → port.output ≡ true
    → (c : PlainConn) × (slice_get p.conns k ≡ Some c) × (c.port ≡ port.name) × (origin_of tree p.holder c.net ≡ Some (Tied i port.name))

some_is : {A : Type 0} (x : A) → IsSome (Some x)
some_is x = search

module _ (tree : List Placed) (origins : Origins tree) (inputs : InputsTied tree) (outputs : OutputsTied tree) where
  abbrev PortTied : ℕ → ℕ → Placed → PlainPort → Type 0
  PortTied i k p port = (c : PlainConn) × (slice_get p.conns k ≡ Some c) × (c.port ≡ port.name) × IsConnected tree i p.holder k port c

  by_output : (t : Bool) (i k : ℕ) (p : Placed) (port : PlainPort) → slice_get tree i ≡ Some p → (i ≡ 0 → ⊥) → slice_get p.part.ports k ≡ Some port → port.output ≡ t → PortTied i k p port
  by_output false i k p port at inner there is =
      let r = inputs i k p port at inner there is in
      let own = port_net tree i k p port at there in
      let o = origins i port.name (k, own) in
      let same : o.0 ≡ Tied p.holder r.0.net = let e = o.1 in let f = r.3 in cc in
      let net = subst (IsThere tree i (width_at tree i port.name)) same o.2 in
      let around = origins p.holder r.0.net net.0 in
      let number = origin_position tree p.holder r.0.net around.0 around.1 in
      (r.0, r.1, r.2, record { number = number.0; own = own; net = number.1; origin = subst (TellsOrigin tree i p.holder port.name r.0.net) (sym is) r.3 })
  by_output true i k p port at inner there is =
      let r = outputs i k p port at inner there is in
      let number = origin_position tree p.holder r.0.net (Tied i port.name) r.3 in (
        r.0,
        r.1,
        r.2,
        record {
          number = number.0;
          own = port_net tree i k p port at there;
          net = number.1;
          origin = subst (TellsOrigin tree i p.holder port.name r.0.net) (sym is) r.3;
        },
      )

  pub tidy_tree : NetsAreApart tree → ((p : Placed) → slice_get tree 0 ≡ Some p → p.conns ≡ []) → ((i : ℕ) (p : Placed) → slice_get tree i ≡ Some p → (i ≡ 0 → ⊥) → length p.conns ≡ length p.part.ports)
      → IsTidy tree
  tidy_tree apart main conns = record {
    apart = apart;
    origins = λ i k name at. let o = origins i name (k, at) in subst IsSome (sym o.1) (some_is o.0);
    main = main;
    conns = conns;
    ports = λ i k p port at inner there. by_output port.output i k p port at inner there refl;
  }
