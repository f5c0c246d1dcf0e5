-- Each net of an instance has an origin, which is there and has the net's width.
use Rattle.std.proofs.Common.{◌≡◌, ℕ, ◌+◌, ◌==◌, List, [], ◌++◌, true, false, ◌||◌, map, reverse, Option, Some, None, slice_get, option_and_then, option_map, refl, ap, sym, ◌∙◌, subst, if◌then◌else◌, arith, ⊎_elim}
use Rattle.std.specs.Option.{option_map_or}
use Rattle.std.proofs.lemmas.Bool.{eq-eqb, ne_eqb, cases_eq, cond-true, cond-false}
use Rattle.cx_vtree.specs.declared.meanings.Meaning.{Meaning}
use Rattle.cx_vtree.specs.declared.meanings.Meaning.TheVariants as meant
use Rattle.cx_vtree.specs.Plain.{PlainExpr, PlainPort, PlainSource}
use Rattle.cx_vtree.specs.InstanceTree.{Placed, instances_of, nets_at, declared_nets, NetKind, Input, Driven, Stored, kind_in, Origin, Outside, Tied, Held, Given, net_of, assigned, output_to, driving_output, origin_by, origin_of}
use Rattle.cx_vtree.specs.Sound.{Scope, has_name, decl_name, port_meaning, meant_in, width_of, is_driven, drivers_in, driven_by_all, is_sound}
use Rattle.cx_vlaws.specs.Widths.{scope_at, IsExpression}
use Rattle.cx_vlaws.specs.Origins.{IsNet, width_at, IsThere}
use Rattle.cx_vlaws.proofs.Fresh.{has_at, at_has, has_left, has-append, Fresh}
use Rattle.cx_vlaws.proofs.Scopes.{port_names, port_at_has, meant-port, Declared, as_port, as_decl, as_nothing, declared_by, kind_of, kind-by_meaning}
use Rattle.cx_vlaws.proofs.Forest.{Among, instance_keeps}
use Rattle.cx_vlaws.proofs.Parts.{port_keeps, decl_keeps, assign_keeps}
use Rattle.cx_vlaws.proofs.Instances.{fresh_ports, fresh_decls}
use Rattle.cx_vlaws.proofs.Conns.{port_of, net-of_port, output_found}
use Rattle.cx_vlaws.proofs.Holders.{part_of, part_in, part-aligned, output-no_main, driving_part}
use Rattle.cx_vlaws.proofs.OriginLemmas.{driving_some, driving_found, assigned_found, assigned_none, net_has, is_net, source_net, meant_net, input_port, driven_port, width-port, decl_no_input}

-- what an instance that is there has
pub nets-at : (tree : List Placed) (i : ℕ) (p : Placed) → slice_get tree i ≡ Some p → nets_at tree i ≡ port_names p.part.ports ++ declared_nets p.part.decls
nets-at tree i p e = ap (λ (o : Option Placed). map (λ q. q.name) (option_map_or (λ q. q.part.ports) o []) ++ declared_nets (option_map_or (λ q. q.part.decls) o [])) e

pub scope-at : (tree : List Placed) (i : ℕ) (p : Placed) → slice_get tree i ≡ Some p → scope_at tree i ≡ meant_in p.part.ports p.part.decls
scope-at tree i p e = ap (λ (o : Option Placed). meant_in (option_map_or (λ q. q.part.ports) o []) (option_map_or (λ q. q.part.decls) o [])) e

pub width-at : (tree : List Placed) (i : ℕ) (p : Placed) (n : List ℕ) → slice_get tree i ≡ Some p → width_at tree i n ≡ width_of (meant_in p.part.ports p.part.decls n)
width-at tree i p n e = ap (λ (s : Scope). width_of (s n)) (scope-at tree i p e)

pub net_there : (tree : List Placed) (i : ℕ) (p : Placed) (n : List ℕ) → slice_get tree i ≡ Some p → has_name (port_names p.part.ports ++ declared_nets p.part.decls) n ≡ true → IsNet tree i n
net_there tree i p n e h =
    let (k, at) = at_has (port_names p.part.ports ++ declared_nets p.part.decls) n h in
    (k, ap (λ l. slice_get l k) (nets-at tree i p e) ∙ at)

-- the origin of a net of this kind
pub origin-at : (tree : List Placed) (i : ℕ) (p : Placed) (n : List ℕ) (kind : NetKind) → slice_get tree i ≡ Some p → kind_in p.part.ports p.part.decls n ≡ Some kind → origin_of tree i n ≡ origin_by tree i p n kind
origin-at tree i p n kind e k =
    ap (λ (o : Option Placed). option_and_then (λ q. option_and_then (origin_by tree i q n) (kind_in q.part.ports q.part.decls n)) o) e
    ∙ ap (option_and_then (origin_by tree i p n)) k

module _ (source : PlainSource) (sound : is_sound source ≡ true) (i : ℕ) (p : Placed) (here : slice_get (instances_of source) i ≡ Some p) where
  abbrev tree : List Placed
  tree = instances_of source

  abbrev kept : Among (reverse source.modules) p.part
  kept = instance_keeps source sound i p here

  abbrev scope : Scope
  scope = meant_in p.part.ports p.part.decls

  pub ports_fresh_here : Fresh [] (port_names p.part.ports)
  ports_fresh_here = fresh_ports kept.is_main (reverse kept.before) _ p.part kept.kept

  pub decls_fresh_here : Fresh (port_names p.part.ports) (map decl_name p.part.decls)
  decls_fresh_here = fresh_decls kept.is_main (reverse kept.before) _ p.part kept.kept

  pub kind-here : (n : List ℕ) → kind_in p.part.ports p.part.decls n ≡ kind_of (scope n)
  kind-here n = kind-by_meaning (port_names p.part.ports) p.part.ports p.part.decls n decls_fresh_here

  -- a wire or an output is driven
  pub driver_there : (n : List ℕ) → is_driven (scope n) ≡ true → has_name (drivers_in (reverse kept.before) p.part) n ≡ true
  driver_there n driven = go (declared_by p.part.ports p.part.decls n) where
    go : Declared p.part.ports p.part.decls n → has_name (drivers_in (reverse kept.before) p.part) n ≡ true
    go (as_port k q at named means) =
        let place : k ≡ 0 + k = omega arith in
        let keeps = port_keeps kept.is_main (drivers_in (reverse kept.before) p.part) [] 0 k p.part.ports kept.kept.ports k q at place in
        subst (λ m. has_name (drivers_in (reverse kept.before) p.part) m ≡ true) named (keeps.driven (driven_port q.output q.width (sym (ap is_driven means) ∙ driven)))
    go (as_decl k d at named means) =
        let keeps = decl_keeps (drivers_in (reverse kept.before) p.part) (port_names p.part.ports) p.part.decls kept.kept.decls k d at in
        subst (λ m. has_name (drivers_in (reverse kept.before) p.part) m ≡ true) named (keeps.1 (sym (ap is_driven means) ∙ driven))
    go (as_nothing means) = absurd (let h = sym (ap is_driven means) ∙ driven in cc)

  abbrev HasOrigin : List ℕ → Type 0
  HasOrigin n = (o : Origin) × (origin_of tree i n ≡ Some o) × IsThere tree i (width_at tree i n) o

  -- the port of an input
  pub input_there : (n : List ℕ) (w : ℕ) → scope n ≡ meant.Input w → (k : ℕ) × (q : PlainPort) × (slice_get p.part.ports k ≡ Some q) × (q.name ≡ n) × (q.output ≡ false) × (q.width ≡ w)
  input_there n w is = go (declared_by p.part.ports p.part.decls n) where
    go : Declared p.part.ports p.part.decls n → (k : ℕ) × (q : PlainPort) × (slice_get p.part.ports k ≡ Some q) × (q.name ≡ n) × (q.output ≡ false) × (q.width ≡ w)
    go (as_port k q at named means) =
        let same : port_meaning q ≡ meant.Input w = sym means ∙ is in
        (k, q, at, named, input_port q.output q.width w same, sym (width-port q) ∙ ap width_of same)
    go (as_decl k d at named means) = absurd (decl_no_input d w (sym means ∙ is))
    go (as_nothing means) = absurd (let h = sym means ∙ is in cc)

  input_origin_there : (n : List ℕ) (w : ℕ) → scope n ≡ meant.Input w → HasOrigin n
  input_origin_there n w is = ⊎_elim outside tied (cases_eq i 0) where
    by_kind : origin_of tree i n ≡ (if i == 0 then Some Outside else option_map (Tied p.holder) (net_of p.conns n))
    by_kind = origin-at tree i p n Input here (kind-here n ∙ ap kind_of is)

    outside : i ≡ 0 → HasOrigin n
    outside first = (Outside, by_kind ∙ cond-true (i == 0) (Some Outside) (option_map (Tied p.holder) (net_of p.conns n)) (eq-eqb i 0 first), first)

    tied : (i ≡ 0 → ⊥) → HasOrigin n
    tied other =
        let (q, at, is_part) = part_of source sound i p here other in
        let (k, port, there, named, input, wide) = input_there n w is in
        let (c, is_at, connects, found) = net-of_port (meant_in q.part.ports q.part.decls) [] p.part.ports p.conns (part-aligned source sound p.holder q at i p is_part) ports_fresh_here k port there in
        let found_here : net_of p.conns n ≡ Some c.net = ap (net_of p.conns) (sym named) ∙ found in (
          Tied p.holder c.net,
          by_kind ∙ cond-false (i == 0) (Some Outside) (option_map (Tied p.holder) (net_of p.conns n)) (ne_eqb i 0 other) ∙ ap (option_map (Tied p.holder)) found_here,
          (
            net_there tree p.holder q c.net at (meant_net q.part.ports q.part.decls c.net (source_net (meant_in q.part.ports q.part.decls c.net) (connects.inward input))),
            width-at tree p.holder q c.net at ∙ sym connects.width ∙ wide ∙ sym (ap width_of is) ∙ sym (width-at tree i p n here),
          ),
        )

  -- the expression that is assigned to a net
  given_there : (n : List ℕ) (e : PlainExpr) → assigned p.part.assigns n ≡ Some e → IsExpression (scope_at tree i) e (width_at tree i n)
  given_there n e h =
      let (k, a, at, named, value) = assigned_found p.part.assigns n e h in
      let x = (assign_keeps scope [] p.part.assigns kept.kept.assigns k a at).1 in
      let y : IsExpression scope e (width_of (scope n)) = subst (λ m. IsExpression scope e (width_of (scope m))) named (subst (λ v. IsExpression scope v (width_of (scope a.name))) value x) in
      subst (λ (s : Scope). IsExpression s e (width_of (s n))) (sym (scope-at tree i p here)) y

  -- the output that is connected to a net is one of its width
  pub output_there_too : (n : List ℕ) (k : ℕ) (q : Placed) (port : List ℕ) → slice_get tree k ≡ Some q → q.holder ≡ i → output_to q.part.ports q.conns n ≡ Some port → IsNet tree k port × (width_at tree k port ≡ width_at tree i n)
  output_there_too n k q port at around out =
      let other = output-no_main source sound k q at n port out in
      let is_part = part_in source sound i p here k q at other around in
      let (j, c, is_at, is_net, is_out, is_port) = output_found q.part.ports q.conns n port out in
      let (z, there, connects) = port_of scope q.part.ports q.conns (part-aligned source sound i p here k q is_part) j c is_at in
      let named : z.name ≡ port = connects.port ∙ is_port in
      let a = instance_keeps source sound k q at in
      let means : meant_in q.part.ports q.part.decls z.name ≡ port_meaning z = meant-port [] q.part.ports q.part.decls j z (fresh_ports a.is_main (reverse a.before) _ q.part a.kept) there in (
        net_there tree k q port at (has_left (port_names q.part.ports) (declared_nets q.part.decls) port (subst (λ m. has_name (port_names q.part.ports) m ≡ true) named (port_at_has q.part.ports j z there))),
        width-at tree k q port at ∙ ap (λ m. width_of (meant_in q.part.ports q.part.decls m)) (sym named) ∙ ap width_of means ∙ width-port z ∙ connects.width ∙ ap (λ m. width_of (scope m)) is_net ∙ sym (width-at tree i p n here),
      )

  driven_origin_there : (n : List ℕ) → is_driven (scope n) ≡ true → kind_in p.part.ports p.part.decls n ≡ Some Driven → HasOrigin n
  driven_origin_there n driven kind = go (assigned p.part.assigns n) refl where
    by_kind : origin_of tree i n ≡ option_map_or (λ e. Some (Given e)) (assigned p.part.assigns n) (driving_output tree 0 i n)
    by_kind = origin-at tree i p n Driven here kind

    go : (o : Option PlainExpr) → assigned p.part.assigns n ≡ o → HasOrigin n
    go (Some e) is = (Given e, by_kind ∙ ap (λ o. option_map_or (λ e. Some (Given e)) o (driving_output tree 0 i n)) is, given_there n e is)
    go None is =
        let unassigned = assigned_none p.part.assigns n is in
        let both = sym (has-append (map (λ a. a.name) p.part.assigns) (driven_by_all (reverse kept.before) p.part.instances) n) ∙ driver_there n driven in
        let by_part : has_name (driven_by_all (reverse kept.before) p.part.instances) n ≡ true = sym (ap (λ b. b || has_name (driven_by_all (reverse kept.before) p.part.instances) n) unassigned) ∙ both in
        let (k, q, port, at, around, out) = driving_part source sound i p here n by_part in
        let (o, drives) = driving_some tree 0 i n k q port at around out in
        let d = driving_found tree 0 i n o drives in
        let there = output_there_too n d.k d.p d.port d.at d.around d.out in
        let number : 0 + d.k ≡ d.k = omega arith in (
          Tied d.k d.port,
          by_kind ∙ ap (λ o. option_map_or (λ e. Some (Given e)) o (driving_output tree 0 i n)) is ∙ drives ∙ ap Some (d.is ∙ ap (λ j. Tied j d.port) number),
          there,
        )

  pub has_origin : (n : List ℕ) → IsNet tree i n → HasOrigin n
  has_origin n (k, at) =
      let there : has_name (port_names p.part.ports ++ declared_nets p.part.decls) n ≡ true = has_at (port_names p.part.ports ++ declared_nets p.part.decls) k n (sym (ap (λ l. slice_get l k) (nets-at tree i p here)) ∙ at) in
      go (scope n) refl (kind-here n) (net_has p.part.ports p.part.decls n there) where
        go : (m : Meaning) → scope n ≡ m → kind_in p.part.ports p.part.decls n ≡ kind_of (scope n) → ((kind : NetKind) × (kind_in p.part.ports p.part.decls n ≡ Some kind)) → HasOrigin n
        go (meant.Input w) is kind some = input_origin_there n w is
        go (meant.Output w) is kind some = driven_origin_there n (ap is_driven is) (kind ∙ ap kind_of is)
        go (meant.Wire w) is kind some = driven_origin_there n (ap is_driven is) (kind ∙ ap kind_of is)
        go (meant.Register w) is kind some = (Held w, origin-at tree i p n (Stored w) here (kind ∙ ap kind_of is), sym (width-at tree i p n here ∙ ap width_of is))
        go (meant.Array w) is kind some = absurd (let h = sym (some.1) ∙ kind ∙ ap kind_of is in cc)
        go meant.Nothing is kind some = absurd (let h = sym (some.1) ∙ kind ∙ ap kind_of is in cc)
