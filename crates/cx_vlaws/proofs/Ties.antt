-- What the ports of an instance are tied to.
use Rattle.std.proofs.Common.{◌≡◌, ℕ, zero, suc, ◌+◌, ◌==◌, List, [], ◌∷◌, ◌++◌, true, false, map, Option, Some, None, slice_get, option_map, refl, ap, sym, ◌∙◌, subst, arith}
use Rattle.std.specs.Option.{option_map_or}
use Rattle.std.proofs.lemmas.Bool.{both_ways, ne_eqb, false_from_ne_true, cond-true, cond-false}
use Rattle.cx_vtree.specs.declared.meanings.Meaning.{Meaning}
use Rattle.cx_vtree.specs.declared.meanings.Meaning.TheVariants as meant
use Rattle.cx_vtree.specs.Plain.{PlainPort, PlainAssign, PlainConn, PlainInstance, PlainModule, PlainSource}
use Rattle.cx_vtree.specs.InstanceTree.{same_name, Placed, ports_at, instances_of, Input, Driven, Stored, Outside, Tied, Held, Given, net_of, assigned, is_output, output_to, driving_output, origin_of}
use Rattle.cx_vtree.specs.Sound.{Scope, has_name, port_meaning, meant_in, is_driven, is_wire, ports_of, driven_by, driven_by_all, is_sound}
use Rattle.cx_vlaws.specs.Widths.{scope_at}
use Rattle.cx_vlaws.proofs.Fresh.{Fresh, fresh_left, fresh_right, fresh_sides}
use Rattle.cx_vlaws.proofs.Scopes.{port_names, other_than, port_at_has, meant-port, kind_of}
use Rattle.cx_vlaws.proofs.Forest.{instance_keeps}
use Rattle.cx_vlaws.proofs.Parts.{assigns_fresh, assign_keeps}
use Rattle.cx_vlaws.proofs.Conns.{net-of_port, output-to, among_drivers}
use Rattle.cx_vlaws.proofs.Holders.{IsPart, part_of, part_in, part-aligned, part-ports, before, drives, one_part, output-no_main, drivers-fresh}
use Rattle.cx_vlaws.proofs.OriginLemmas.{driving_some, driving_found, none-assigned, assigned-at}
use Rattle.cx_vlaws.proofs.Given.{scope-at, origin-at, ports_fresh_here, kind-here}
use Rattle.cx_vtree.proofs.InstanceTreeLemmas.{is_same}
use Rattle.cx_text.proofs.OptionLaws.{one_value}

pub wire_kind : (m : Meaning) → is_wire m ≡ true → kind_of m ≡ Some Driven
wire_kind (meant.Input w) e = absurd (cc)
wire_kind (meant.Output w) e = absurd (cc)
wire_kind (meant.Wire w) e = refl
wire_kind (meant.Register w) e = absurd (cc)
wire_kind (meant.Array w) e = absurd (cc)
wire_kind meant.Nothing e = absurd (cc)

pub driven_kind : (m : Meaning) → is_driven m ≡ true → kind_of m ≡ Some Driven
driven_kind (meant.Input w) e = absurd (cc)
driven_kind (meant.Output w) e = refl
driven_kind (meant.Wire w) e = refl
driven_kind (meant.Register w) e = absurd (cc)
driven_kind (meant.Array w) e = absurd (cc)
driven_kind meant.Nothing e = absurd (cc)

pub output-at : (earlier : List (List ℕ)) (ps : List PlainPort) → Fresh earlier (port_names ps) → (k : ℕ) (p : PlainPort) → slice_get ps k ≡ Some p → is_output ps p.name ≡ p.output
output-at earlier [] f k p e = absurd (cc)
output-at earlier (x ∷ ps) f zero p e =
    let same : x ≡ p = cc in
    cond-true (same_name x.name p.name) x.output (is_output ps p.name) (is_same x.name p.name (ap (λ (q : PlainPort). q.name) same)) ∙ ap (λ (q : PlainPort). q.output) same
output-at earlier (x ∷ ps) f (suc k) p e =
    cond-false (same_name x.name p.name) x.output (is_output ps p.name) (other_than earlier (port_names ps) x.name p.name f.1 (port_at_has ps k p e)) ∙ output-at (earlier ++ x.name ∷ []) ps f.1 k p e

-- the nets that one part drives
fresh-part : (earlier : List (List ℕ)) (modules : List PlainModule) (xs : List PlainInstance) → Fresh earlier (driven_by_all modules xs) → (s : ℕ) (x : PlainInstance) → slice_get xs s ≡ Some x
    → (others : List (List ℕ)) × Fresh others (driven_by (ports_of modules x.kind) x.conns)
fresh-part earlier modules [] f s x e = absurd (cc)
fresh-part earlier modules (y ∷ xs) f zero x e =
    let same : y ≡ x = cc in
    (earlier, subst (λ (z : PlainInstance). Fresh earlier (driven_by (ports_of modules z.kind) z.conns)) same (fresh_left earlier (driven_by (ports_of modules y.kind) y.conns) (driven_by_all modules xs) f))
fresh-part earlier modules (y ∷ xs) f (suc s) x e =
    fresh-part (earlier ++ driven_by (ports_of modules y.kind) y.conns) modules xs (fresh_right earlier (driven_by (ports_of modules y.kind) y.conns) (driven_by_all modules xs) f) s x e

module _ (source : PlainSource) (sound : is_sound source ≡ true) (i : ℕ) (p : Placed) (here : slice_get (instances_of source) i ≡ Some p) where
  abbrev tree : List Placed
  tree = instances_of source

  pub input_tied : (i ≡ 0 → ⊥) → (k : ℕ) (port : PlainPort) → slice_get p.part.ports k ≡ Some port → port.output ≡ false
      → (c : PlainConn) × (slice_get p.conns k ≡ Some c) × (c.port ≡ port.name) × (origin_of tree i port.name ≡ Some (Tied p.holder c.net))
  input_tied other k port there input =
      let (q, at, is_part) = part_of source sound i p here other in
      let (c, is_at, connects, found) = net-of_port (meant_in q.part.ports q.part.decls) [] p.part.ports p.conns (part-aligned source sound p.holder q at i p is_part) (ports_fresh_here source sound i p here) k port there in
      let means : meant_in p.part.ports p.part.decls port.name ≡ port_meaning port = meant-port [] p.part.ports p.part.decls k port (ports_fresh_here source sound i p here) there in
      let is_input : port_meaning port ≡ meant.Input port.width = cond-false port.output (meant.Output port.width) (meant.Input port.width) input in
      let by_kind = origin-at tree i p port.name Input here (kind-here source sound i p here port.name ∙ ap kind_of (means ∙ is_input)) in (
        c,
        is_at,
        sym connects.port,
        by_kind ∙ cond-false (i == 0) (Some Outside) (option_map (Tied p.holder) (net_of p.conns port.name)) (ne_eqb i 0 other) ∙ ap (option_map (Tied p.holder)) found,
      )

  -- the nets that the outputs of an instance are connected to
  drives_fresh : (q : Placed) (at : slice_get tree p.holder ≡ Some q) → IsPart source sound p.holder q i p → (others : List (List ℕ)) × Fresh others (driven_by p.part.ports p.conns)
  drives_fresh q at r =
      let modules : List PlainModule = before source sound p.holder q at in
      let all = fresh_right [] (map (λ a. a.name) q.part.assigns) (driven_by_all modules q.part.instances) (drivers-fresh source sound p.holder q at) in
      let (others, f) = fresh-part ([] ++ map (λ a. a.name) q.part.assigns) modules q.part.instances all r.s r.x r.there in
      let g = subst (λ ps. Fresh others (driven_by ps r.x.conns)) (part-ports source sound p.holder q at r.s r.x p.part r.there r.known) f in
      (others, subst (λ cs. Fresh others (driven_by p.part.ports cs)) (sym r.conns) g)

  -- nothing is assigned to a net that a part drives
  unassigned : (q : Placed) (at : slice_get tree p.holder ≡ Some q) (r : IsPart source sound p.holder q i p) (net port : List ℕ) → output_to p.part.ports p.conns net ≡ Some port → assigned q.part.assigns net ≡ None
  unassigned q at r net port out =
      let modules : List PlainModule = before source sound p.holder q at in
      let driven = among_drivers modules q.part.instances net r.s r.x r.there (drives source sound p.holder q at i p here r net port out) in
      none-assigned q.part.assigns net (false_from_ne_true (has_name (map (λ a. a.name) q.part.assigns) net) (λ h.
      both_ways (has_name (driven_by_all modules q.part.instances) net)
      (fresh_sides [] (map (λ a. a.name) q.part.assigns) (driven_by_all modules q.part.instances) net (drivers-fresh source sound p.holder q at) h) driven))

  -- the search finds that output
  driving-output : (q : Placed) (at : slice_get tree p.holder ≡ Some q) (r : IsPart source sound p.holder q i p) (net port : List ℕ) → output_to p.part.ports p.conns net ≡ Some port
      → driving_output tree 0 p.holder net ≡ Some (Tied i port)
  driving-output q at r net port out =
      let (o, found) = driving_some tree 0 p.holder net i p port here refl out in
      let d = driving_found tree 0 p.holder net o found in
      let other = output-no_main source sound d.k d.p d.at net d.port d.out in
      let is_part = part_in source sound p.holder q at d.k d.p d.at other d.around in
      let same : d.k ≡ i = one_part source sound p.holder q at d.k i d.p p d.at here is_part r net d.port port d.out out in
      let same_part : d.p ≡ p = one_value (slice_get tree i) d.p p (subst (λ j. slice_get tree j ≡ Some d.p) same d.at) here in
      let same_port : d.port ≡ port = one_value (output_to p.part.ports p.conns net) d.port port (subst (λ (y : Placed). output_to y.part.ports y.conns net ≡ Some d.port) same_part d.out) out in
      let number : 0 + d.k ≡ i = omega arith in
      found ∙ ap Some (d.is ∙ ap (λ j. Tied j d.port) number ∙ ap (Tied i) same_port)

  pub output_tied : (i ≡ 0 → ⊥) → (k : ℕ) (port : PlainPort) → slice_get p.part.ports k ≡ Some port → port.output ≡ true
      → (c : PlainConn) × (slice_get p.conns k ≡ Some c) × (c.port ≡ port.name) × (origin_of tree p.holder c.net ≡ Some (Tied i port.name))
  output_tied other k port there output =
      let (q, at, is_part) = part_of source sound i p here other in
      let fresh = ports_fresh_here source sound i p here in
      let (c, is_at, connects, found) = net-of_port (meant_in q.part.ports q.part.decls) [] p.part.ports p.conns (part-aligned source sound p.holder q at i p is_part) fresh k port there in
      let is_out : is_output p.part.ports c.port ≡ true = ap (is_output p.part.ports) (sym connects.port) ∙ output-at [] p.part.ports fresh k port there ∙ output in
      let (others, f) = drives_fresh q at is_part in
      let out : output_to p.part.ports p.conns c.net ≡ Some c.port = output-to others p.part.ports p.conns fresh f k c is_at is_out in
      let kind = kind-here source sound p.holder q at c.net ∙ wire_kind (meant_in q.part.ports q.part.decls c.net) (connects.outward output) in (
        c,
        is_at,
        sym connects.port,
        origin-at tree p.holder q c.net Driven at kind
            ∙ ap (λ o. option_map_or (λ e. Some (Given e)) o (driving_output tree 0 p.holder c.net)) (unassigned q at is_part c.net c.port out)
            ∙ driving-output q at is_part c.net c.port out
            ∙ ap (λ n. Some (Tied i n)) (sym connects.port),
      )

  pub assigned_given : (k : ℕ) (a : PlainAssign) → slice_get p.part.assigns k ≡ Some a → origin_of tree i a.name ≡ Some (Given a.value)
  assigned_given k a there =
      let kept = instance_keeps source sound i p here in
      let driven = (assign_keeps (meant_in p.part.ports p.part.decls) [] p.part.assigns kept.kept.assigns k a there).0 in
      origin-at tree i p a.name Driven here (kind-here source sound i p here a.name ∙ driven_kind (meant_in p.part.ports p.part.decls a.name) driven)
      ∙ ap (λ o. option_map_or (λ e. Some (Given e)) o (driving_output tree 0 i a.name)) (assigned-at [] p.part.assigns (assigns_fresh (meant_in p.part.ports p.part.decls) [] p.part.assigns kept.kept.assigns) k a there)

-- a register holds its value
pub register_held : (source : PlainSource) → is_sound source ≡ true → (i : ℕ) (n : List ℕ) (w : ℕ) → scope_at (instances_of source) i n ≡ meant.Register w → origin_of (instances_of source) i n ≡ Some (Held w)
register_held source sound i n w is = go (slice_get (instances_of source) i) refl where
  go : (o : Option Placed) → slice_get (instances_of source) i ≡ o → origin_of (instances_of source) i n ≡ Some (Held w)
  go None e = absurd (let h = sym (ap (λ (o : Option Placed). meant_in (option_map_or (λ q. q.part.ports) o []) (option_map_or (λ q. q.part.decls) o []) n) e) ∙ is in cc)
  go (Some p) e =
      origin-at (instances_of source) i p n (Stored w) e (kind-here source sound i p e n ∙ ap kind_of (sym (ap (λ (s : Scope). s n) (scope-at (instances_of source) i p e)) ∙ is))

-- the inputs of `main` have their values from outside
pub input_outside : (source : PlainSource) → is_sound source ≡ true → (k : ℕ) (port : PlainPort) → slice_get (ports_at (instances_of source) 0) k ≡ Some port → port.output ≡ false → origin_of (instances_of source) 0 port.name ≡ Some Outside
input_outside source sound k port there input = go (slice_get (instances_of source) 0) refl there where
  go : (o : Option Placed) → slice_get (instances_of source) 0 ≡ o → slice_get (option_map_or (λ p. p.part.ports) o []) k ≡ Some port → origin_of (instances_of source) 0 port.name ≡ Some Outside
  go None e h = absurd (cc)
  go (Some p) e h =
      let means : meant_in p.part.ports p.part.decls port.name ≡ port_meaning port = meant-port [] p.part.ports p.part.decls k port (ports_fresh_here source sound 0 p e) h in
      let is_input : port_meaning port ≡ meant.Input port.width = cond-false port.output (meant.Output port.width) (meant.Input port.width) input in
      origin-at (instances_of source) 0 p port.name Input e (kind-here source sound 0 p e port.name ∙ ap kind_of (means ∙ is_input))
