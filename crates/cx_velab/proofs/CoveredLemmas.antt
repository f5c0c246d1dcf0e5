-- Where the driver of each net comes from.
use Rattle.std.proofs.Common.{◌≡◌, ℕ, suc, ◌+◌, ◌<◌, ◌==◌, ◌&&◌, ⊎_elim, Bool, true, false, List, [], ◌∷◌, ◌++◌, map, length, Option, Some, None, option_map, option_and_then, slice_get, refl, ap, sym, ◌∙◌, subst, arith, if◌then◌else◌}
use Rattle.std.specs.Prelude.{IsSome}
use Rattle.std.specs.Option.{option_map_or}
use Rattle.std.specs.Cmp.Lexicographic.{same_text}
use Rattle.std.proofs.lemmas.Bool.Decides.{eqb_tells}
use Rattle.std.proofs.lemmas.Option.{slice_get-map, slice_get_within}
use Rattle.cx_vtree.specs.Plain.{PlainExpr, PlainPort, PlainDecl, WireOf, RegisterOf, ArrayOf, PlainAssign, PlainConn}
use Rattle.cx_vtree.specs.InstanceTree as kinds
use Rattle.cx_vtree.specs.InstanceTree.{Placed, same_name, declared_nets, nets_at, NetKind, declared_kind, kind_in, net_of, is_output, output_to, driving_output, assigned, origin_by, origin_of, Origin, Outside, Tied, Held, Given}
use Rattle.cx_vnets.specs.declared.codes.Code.{Code}
use Rattle.cx_vnets.specs.declared.nets.Driver.{Driver}
use Rattle.cx_vtree.specs.NameNumbers.{position}
use Rattle.cx_velab.specs.Driven.{IsRight, IsTied}
use Rattle.cx_velab.specs.Covered.{IsTidy, IsDriven, DrivenStand}
use Rattle.cx_text.proofs.OptionLaws.{bind_some, by_side}
use Rattle.cx_text.proofs.BoolLaws.{and_both}
use Rattle.cx_text.proofs.ListLaws.{there_at, front, slice_get-next}
use Rattle.cx_vnets.proofs.Numbering.{position_here, position_there}

by_truth : (P : Type 0) (t a b : Bool) → (if t then a else b) ≡ true → (t ≡ true → a ≡ true → P) → (t ≡ false → b ≡ true → P) → P
by_truth P true a b e h k = h refl e
by_truth P false a b e h k = k refl e

-- a port that stands in a list
abbrev PortIn : List PlainPort → List ℕ → Bool → Type 0
PortIn ports name output = (h : ℕ) × (port : PlainPort) × (slice_get ports h ≡ Some port) × (port.name ≡ name) × (port.output ≡ output)

port_later : (p : PlainPort) (ps : List PlainPort) (name : List ℕ) (output : Bool) → PortIn ps name output → PortIn (p ∷ ps) name output
port_later p ps name output r = (suc r.0, r.1, slice_get-next p ps r.0 ∙ r.2, r.3, r.4)

-- an input is a port
pub no_input : (ds : List PlainDecl) (name : List ℕ) → declared_kind ds name ≡ Some kinds.Input → ⊥
no_input [] name e = absurd (cc)
no_input (WireOf x w ∷ ds) name e = by_side ⊥ (same_name x name) _ (declared_kind ds name) kinds.Input e (λ t f. absurd (cc)) (λ t f. no_input ds name f)
no_input (RegisterOf x w ∷ ds) name e = by_side ⊥ (same_name x name) _ (declared_kind ds name) kinds.Input e (λ t f. absurd (cc)) (λ t f. no_input ds name f)
no_input (ArrayOf x w k ∷ ds) name e = no_input ds name e

not_output : (o : Bool) → Some (if o then kinds.Driven else kinds.Input) ≡ Some kinds.Input → o ≡ false
not_output true e = absurd (cc)
not_output false e = refl

input_port : (ps : List PlainPort) (ds : List PlainDecl) (name : List ℕ) → kind_in ps ds name ≡ Some kinds.Input → PortIn ps name false
input_port [] ds name e = absurd (no_input ds name e)
input_port (p ∷ ps) ds name e =
    by_side (PortIn (p ∷ ps) name false) (same_name p.name name) _ (kind_in ps ds name) kinds.Input e
    (λ t f. (0, p, refl, same_text p.name name (sym t), not_output p.output f))
    (λ t f. port_later p ps name false (input_port ps ds name f))

-- what counts as an output is one
output_port : (ps : List PlainPort) (name : List ℕ) → is_output ps name ≡ true → PortIn ps name true
output_port [] name e = absurd (cc)
output_port (p ∷ ps) name e =
    by_truth (PortIn (p ∷ ps) name true) (same_name p.name name) p.output (is_output ps name) e
    (λ t f. (0, p, refl, same_text p.name name (sym t), f))
    (λ t f. port_later p ps name true (output_port ps name f))

-- a connection of an output to a net
abbrev ConnIn : List PlainPort → List PlainConn → List ℕ → List ℕ → Type 0
ConnIn ports conns net port = (h : ℕ) × (c : PlainConn) × (slice_get conns h ≡ Some c) × (c.net ≡ net) × (c.port ≡ port) × (is_output ports port ≡ true)

output_conn : (ports : List PlainPort) (conns : List PlainConn) (net port : List ℕ) → output_to ports conns net ≡ Some port → ConnIn ports conns net port
output_conn ports [] net port e = absurd (cc)
output_conn ports (c ∷ cs) net port e =
    by_side (ConnIn ports (c ∷ cs) net port) (same_name c.net net && is_output ports c.port) (Some c.port) (output_to ports cs net) port e
    (λ t f.
    let b = and_both (same_name c.net net) (is_output ports c.port) t in
    let same : c.port ≡ port = cc in
    (0, c, refl, same_text c.net net (sym b.0), same, subst (λ n. is_output ports n ≡ true) same b.1))
    (λ t f. let r = output_conn ports cs net port f in (suc r.0, r.1, slice_get-next c cs r.0 ∙ r.2, r.3, r.4, r.5))

-- an instance whose output drives a net
abbrev OutputIn : List Placed → ℕ → ℕ → List ℕ → ℕ → List ℕ → Type 0
OutputIn ps number holder net j port =
    (h : ℕ) × (q : Placed) × (slice_get ps h ≡ Some q) × (j ≡ number + h) × (q.holder ≡ holder) × (output_to q.part.ports q.conns net ≡ Some port)

equal_of : (a b : ℕ) → (a == b) ≡ true → a ≡ b
equal_of a b e = ⊎_elim (λ s. s.1) (λ d. let f = d.0 in absurd (cc)) (eqb_tells a b)

held_output : (ps : List Placed) (number holder j : ℕ) (net port : List ℕ) → driving_output ps number holder net ≡ Some (Tied j port) → OutputIn ps number holder net j port
held_output [] number holder j net port e = absurd (cc)
held_output (p ∷ rest) number holder j net port e = go (p.holder == holder) refl (output_to p.part.ports p.conns net) refl (driving_output rest (number + 1) holder net) (held_output rest (number + 1) holder j net port) e
  where
    later : OutputIn rest (number + 1) holder net j port → OutputIn (p ∷ rest) number holder net j port
    later r = let count : j ≡ number + suc r.0 = omega (arith, r.3) in (suc r.0, r.1, slice_get-next p rest r.0 ∙ r.2, count, r.4, r.5)

    go : (t : Bool) → (p.holder == holder) ≡ t → (o : Option (List ℕ)) → output_to p.part.ports p.conns net ≡ o → (d : Option Origin) → (d ≡ Some (Tied j port) → OutputIn rest (number + 1) holder net j port)
        → option_map_or (λ n. Some (Tied number n)) (if t then o else None) d ≡ Some (Tied j port) → OutputIn (p ∷ rest) number holder net j port
    go false is o at d h e = later (h e)
    go true is None at d h e = later (h e)
    go true is (Some n) at d h e =
        let number_is : number ≡ j = cc in
        let port_is : n ≡ port = cc in
        let count : j ≡ number + 0 = omega arith in
        (0, p, refl, count, equal_of p.holder holder is, at ∙ ap Some port_is)

-- no output gives an expression
output_ungiven : (ps : List Placed) (number holder : ℕ) (net : List ℕ) (x : PlainExpr) → driving_output ps number holder net ≡ Some (Given x) → ⊥
output_ungiven [] number holder net x e = absurd (cc)
output_ungiven (p ∷ rest) number holder net x e =
    go (if p.holder == holder then output_to p.part.ports p.conns net else None) (driving_output rest (number + 1) holder net) (output_ungiven rest (number + 1) holder net x) e
  where
    go : (o : Option (List ℕ)) (d : Option Origin) → (d ≡ Some (Given x) → ⊥) → option_map_or (λ port. Some (Tied number port)) o d ≡ Some (Given x) → ⊥
    go None d h f = h f
    go (Some port) d h f = absurd (cc)

-- an assign of a name
abbrev AssignIn : List PlainAssign → List ℕ → Type 0
AssignIn assigns name = (j : ℕ) × (a : PlainAssign) × (slice_get assigns j ≡ Some a) × (a.name ≡ name)

assign_of : (assigns : List PlainAssign) (name : List ℕ) (x : PlainExpr) → assigned assigns name ≡ Some x → AssignIn assigns name
assign_of [] name x e = absurd (cc)
assign_of (a ∷ rest) name x e =
    by_side (AssignIn (a ∷ rest) name) (same_name a.name name) (Some a.value) (assigned rest name) x e
    (λ t f. (0, a, refl, same_text a.name name (sym t)))
    (λ t f. let r = assign_of rest name x f in (suc r.0, r.1, slice_get-next a rest r.0 ∙ r.2, r.3))

module _ (tree : List Placed) (codes : List Code) (drivers : List Driver) (tidy : IsTidy tree) (driven : IsDriven tree codes drivers) where
  -- a port is a net of its instance
  port_net : (i h : ℕ) (p : Placed) (port : PlainPort) → slice_get tree i ≡ Some p → slice_get p.part.ports h ≡ Some port → slice_get (nets_at tree i) h ≡ Some port.name
  port_net i h p port at there =
      let named : slice_get (map (λ q. q.name) p.part.ports) h ≡ Some port.name = slice_get-map (λ q. q.name) p.part.ports h ∙ ap (option_map (λ q. q.name)) there in
      ap (λ o. slice_get (map (λ q. q.name) (option_map_or (λ q. q.part.ports) o []) ++ declared_nets (option_map_or (λ q. q.part.decls) o [])) h) at
      ∙ front (map (λ q. q.name) p.part.ports) (declared_nets p.part.decls) h port.name named

  by_input : (i k : ℕ) (name : List ℕ) (p : Placed) → slice_get (nets_at tree i) k ≡ Some name → slice_get tree i ≡ Some p → (i ≡ 0 → ⊥) → PortIn p.part.ports name false → IsRight tree codes drivers i k
  by_input i k name p there at inner r =
      let c = tidy.ports i r.0 p r.1 at inner r.2 in
      let tied = driven.ties i r.0 c.3.number p r.1 c.0 at inner r.2 c.1 c.3.net in
      let right : IsRight tree codes drivers i r.0 = subst (λ t. IsTied tree codes drivers i p.holder r.0 c.3.number t) r.4 tied in
      let same : r.0 ≡ k = tidy.apart i r.0 k name (port_net i r.0 p r.1 at r.2 ∙ ap Some r.3) there in
      subst (λ m. IsRight tree codes drivers i m) same right

  by_output : (i k j : ℕ) (name port : List ℕ) → slice_get (nets_at tree i) k ≡ Some name → OutputIn tree 0 i name j port → IsRight tree codes drivers i k
  by_output i k j name port there r =
      let q = r.1 in
      let c = output_conn q.part.ports q.conns name port r.5 in
      let inner : r.0 ≡ 0 → ⊥ = λ z.
      let empty : q.conns ≡ [] = tidy.main q (subst (λ m. slice_get tree m ≡ Some q) z r.2) in
      let none : slice_get q.conns c.0 ≡ None = ap (λ l. slice_get l c.0) empty in
      let some = c.2 in
      absurd (cc) in
      let long = tidy.conns r.0 q r.2 inner in
      let within : c.0 < length q.part.ports = let lt = slice_get_within q.conns c.0 c.1 c.2 in omega (arith, lt, long) in
      let d = there_at q.part.ports c.0 within in
      let con = tidy.ports r.0 c.0 q d.0 r.2 inner d.1 in
      let same_conn : con.0 ≡ c.1 = let e = con.1 in let f = c.2 in cc in
      let port_is : d.0.name ≡ port = sym con.2 ∙ ap (λ x. x.port) same_conn ∙ c.4 in
      let o = output_port q.part.ports port c.5 in
      let place : o.0 ≡ c.0 = tidy.apart r.0 o.0 c.0 port (port_net r.0 o.0 q o.1 r.2 o.2 ∙ ap Some o.3) (port_net r.0 c.0 q d.0 r.2 d.1 ∙ ap Some port_is) in
      let same_port : o.1 ≡ d.0 = let e = subst (λ m. slice_get q.part.ports m ≡ Some o.1) place o.2 in let f = d.1 in cc in
      let is_out : d.0.output ≡ true = ap (λ x. x.output) (sym same_port) ∙ o.4 in
      let tied = driven.ties r.0 c.0 con.3.number q d.0 con.0 r.2 inner d.1 con.1 con.3.net in
      let right : IsRight tree codes drivers q.holder con.3.number = subst (λ t. IsTied tree codes drivers r.0 q.holder c.0 con.3.number t) is_out tied in
      let right_here : IsRight tree codes drivers i con.3.number = subst (λ m. IsRight tree codes drivers m con.3.number) r.4 right in
      let net_is : con.0.net ≡ name = ap (λ x. x.net) same_conn ∙ c.3 in
      let number : position (nets_at tree i) name ≡ Some con.3.number =
      ap (λ m. position (nets_at tree m) name) (sym r.4) ∙ ap (position (nets_at tree q.holder)) (sym net_is) ∙ con.3.net in
      let same : con.3.number ≡ k = tidy.apart i con.3.number k name (position_here (nets_at tree i) name con.3.number number) there in
      subst (λ m. IsRight tree codes drivers i m) same right_here

  by_assign : (i k n : ℕ) (name : List ℕ) (p : Placed) → slice_get (nets_at tree i) k ≡ Some name → slice_get tree i ≡ Some p → position (nets_at tree i) name ≡ Some n → AssignIn p.part.assigns name
      → IsRight tree codes drivers i k
  by_assign i k n name p there at numbered r =
      let right = driven.givens i r.0 n p r.1 at r.2 (ap (position (nets_at tree i)) r.3 ∙ numbered) in
      let same : n ≡ k = tidy.apart i n k name (position_here (nets_at tree i) name n numbered) there in
      subst (λ m. IsRight tree codes drivers i m) same right

  not_main : (i : ℕ) (o : Option Origin) (x : Origin) → (if i == 0 then Some Outside else o) ≡ Some x → (x ≡ Outside → ⊥) → i ≡ 0 → ⊥
  not_main i o x e other z =
      let f : Some Outside ≡ Some x = subst (λ m. (if m == 0 then Some Outside else o) ≡ Some x) z e in
      let same : x ≡ Outside = cc in
      other same

  by_tied : (i k j : ℕ) (name net : List ℕ) (p : Placed) (kind : NetKind) → slice_get (nets_at tree i) k ≡ Some name → slice_get tree i ≡ Some p → kind_in p.part.ports p.part.decls name ≡ Some kind
      → origin_by tree i p name kind ≡ Some (Tied j net) → IsRight tree codes drivers i k
  by_tied i k j name net p kinds.Input there at is e =
      by_input i k name p there at (not_main i (option_map (Tied p.holder) (net_of p.conns name)) (Tied j net) e (λ s. absurd (cc))) (input_port p.part.ports p.part.decls name is)
  by_tied i k j name net p kinds.Driven there at is e = go (assigned p.part.assigns name) (driving_output tree 0 i name) (λ d. by_output i k j name net there (held_output tree 0 i j name net d)) e where
    go : (o : Option PlainExpr) (d : Option Origin) → (d ≡ Some (Tied j net) → IsRight tree codes drivers i k) → option_map_or (λ x. Some (Given x)) o d ≡ Some (Tied j net) → IsRight tree codes drivers i k
    go None d h f = h f
    go (Some x) d h f = absurd (cc)
  by_tied i k j name net p (kinds.Stored w) there at is e = absurd (cc)

  ungiven : (t : Bool) (o : Option (List ℕ)) (holder : ℕ) (x : PlainExpr) → (if t then Some Outside else option_map (Tied holder) o) ≡ Some (Given x) → ⊥
  ungiven true o holder x e = absurd (cc)
  ungiven false None holder x e = absurd (cc)
  ungiven false (Some n) holder x e = absurd (cc)

  by_given : (i k : ℕ) (name : List ℕ) (x : PlainExpr) (p : Placed) (kind : NetKind) → slice_get (nets_at tree i) k ≡ Some name → slice_get tree i ≡ Some p
      → origin_by tree i p name kind ≡ Some (Given x) → IsRight tree codes drivers i k
  by_given i k name x p kinds.Input there at e = absurd (ungiven (i == 0) (net_of p.conns name) p.holder x e)
  by_given i k name x p kinds.Driven there at e =
      let n = position_there (nets_at tree i) name k there in
      go (assigned p.part.assigns name) (driving_output tree 0 i name) (λ y f. by_assign i k n.0 name p there at n.1 (assign_of p.part.assigns name y f)) (output_ungiven tree 0 i name x) e
    where
      go : (o : Option PlainExpr) (d : Option Origin) → ((y : PlainExpr) → o ≡ Some y → IsRight tree codes drivers i k) → (d ≡ Some (Given x) → ⊥)
          → option_map_or (λ z. Some (Given z)) o d ≡ Some (Given x) → IsRight tree codes drivers i k
      go None d h none f = absurd (none f)
      go (Some y) d h none f = h y refl
  by_given i k name x p (kinds.Stored w) there at e = absurd (cc)

  by_origin : (i k : ℕ) (name : List ℕ) → slice_get (nets_at tree i) k ≡ Some name → (o : Origin) → origin_of tree i name ≡ Some o → IsRight tree codes drivers i k
  by_origin i k name there Outside is = driven.stored i k name Outside there is tt
  by_origin i k name there (Held w) is = driven.stored i k name (Held w) there is tt
  by_origin i k name there (Tied j net) is =
      let p = bind_some (λ p. option_and_then (origin_by tree i p name) (kind_in p.part.ports p.part.decls name)) (slice_get tree i) (Tied j net) is in
      let kind = bind_some (origin_by tree i p.0 name) (kind_in p.0.part.ports p.0.part.decls name) (Tied j net) p.2 in
      by_tied i k j name net p.0 kind.0 there p.1 kind.1 kind.2
  by_origin i k name there (Given x) is =
      let p = bind_some (λ p. option_and_then (origin_by tree i p name) (kind_in p.part.ports p.part.decls name)) (slice_get tree i) (Given x) is in
      let kind = bind_some (origin_by tree i p.0 name) (kind_in p.0.part.ports p.0.part.decls name) (Given x) p.2 in
      by_given i k name x p.0 kind.0 there p.1 kind.2

  some_of : (o : Option Origin) → IsSome o → (x : Origin) × (o ≡ Some x)
  some_of None h = absurd (cc)
  some_of (Some x) h = (x, refl)

  -- all nets have right drivers
  all_right : (i k : ℕ) → IsRight tree codes drivers i k
  all_right i k name there =
      let o = some_of (origin_of tree i name) (tidy.origins i k name there) in
      by_origin i k name there o.0 o.1 name there

pub driven_stand : DrivenStand
driven_stand tree n tidy driven = record { count = driven.whole; each = all_right tree n.codes.items n.drivers.items tidy driven }
