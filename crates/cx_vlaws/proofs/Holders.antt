-- Instances and what holds them.
use Rattle.std.proofs.Common.{◌≡◌, ◌⊎◌, ℕ, ◌+◌, ◌<◌, List, [], ◌++◌, true, false, map, reverse, Some, slice_get, refl, ap, sym, ◌∙◌, subst, inl, inr, arith}
use Rattle.std.specs.Option.{option_map_or}
use Rattle.cx_vtree.specs.Plain.{PlainInstance, PlainModule, PlainSource}
use Rattle.cx_vtree.specs.InstanceTree.{Placed, tree_from, main_instance, instances_of, output_to}
use Rattle.cx_vtree.specs.Sound.{Scope, has_name, module_named, meant_in, ports_of, driven_by, driven_by_all, drivers_in, is_sound}
use Rattle.cx_vlaws.proofs.Fresh.{Fresh, fresh_both, fresh_right}
use Rattle.cx_vlaws.proofs.Scopes.{port_names}
use Rattle.cx_vlaws.proofs.Modules.{named-reversed}
use Rattle.cx_vlaws.proofs.Trees.{placed, number_of, Stands, IsHeld}
use Rattle.cx_vlaws.proofs.Forest.{parts_known, Among, stands, part_at, instance_keeps}
use Rattle.cx_vlaws.proofs.Parts.{instances_drive, assigns_fresh}
use Rattle.cx_vlaws.proofs.Instances.{fresh_ports}
use Rattle.cx_vlaws.proofs.Conns.{Aligned, aligned_from, output_found, output_there, output_drives, one_driver, driver_among}
use Rattle.cx_text.proofs.OptionLaws.{one_value}

module _ (source : PlainSource) (sound : is_sound source ≡ true) where
  abbrev tree : List Placed
  tree = instances_of source

  abbrev modules : List PlainModule
  modules = reverse source.modules

  -- the instance of number `k` is part `s` of the module of instance `i`
  pub record IsPart (i : ℕ) (q : Placed) (k : ℕ) (p : Placed) : Type 0 where
    pub s : ℕ
    pub x : PlainInstance
    pub there : slice_get q.part.instances s ≡ Some x
    pub known : module_named modules x.kind ≡ Some p.part
    pub name : p.name ≡ x.name
    pub conns : p.conns ≡ x.conns
    pub number : k ≡ number_of (tree_from modules) i (i + 1) q.part.instances s
    pub lower : i < k

  -- each instance but `main` is a part of another one
  pub part_of : (k : ℕ) (p : Placed) → slice_get tree k ≡ Some p → (k ≡ 0 → ⊥) → (q : Placed) × (slice_get tree p.holder ≡ Some q) × IsPart p.holder q k p
  part_of k p e other = let r = stands source sound k p e in go r r.held where
    go : (r : Stands (tree_from modules) (module_named modules) tree k p 0 0 main_instance) → ((k ≡ 0) × (r.x ≡ main_instance) × (p.holder ≡ 0)) ⊎ IsHeld (tree_from modules) (module_named modules) tree k p r.x
        → (q : Placed) × (slice_get tree p.holder ≡ Some q) × IsPart p.holder q k p
    go r (inl (first, same, around)) = absurd (other first)
    go r (inr h) = (
      h.holder,
      h.at,
      record { s = h.s; x = r.x; there = h.there; known = r.known; name = ap (λ (y : Placed). y.name) r.is; conns = ap (λ (y : Placed). y.conns) r.is; number = h.number; lower = h.lower },
    )

  -- nothing is connected to `main`
  pub main-conns : (k : ℕ) (p : Placed) → slice_get tree k ≡ Some p → k ≡ 0 → p.conns ≡ []
  main-conns k p e first = let r = stands source sound k p e in go r r.held where
    go : (r : Stands (tree_from modules) (module_named modules) tree k p 0 0 main_instance) → ((k ≡ 0) × (r.x ≡ main_instance) × (p.holder ≡ 0)) ⊎ IsHeld (tree_from modules) (module_named modules) tree k p r.x → p.conns ≡ []
    go r (inl (is, same, around)) = ap (λ (y : Placed). y.conns) r.is ∙ ap (λ (y : PlainInstance). y.conns) same
    go r (inr h) = let lower = h.lower in absurd (omega arith)

  -- so an instance with an output is not `main`
  pub output-no_main : (k : ℕ) (p : Placed) → slice_get tree k ≡ Some p → (net port : List ℕ) → output_to p.part.ports p.conns net ≡ Some port → k ≡ 0 → ⊥
  output-no_main k p e net port out first =
      let nothing : output_to p.part.ports [] net ≡ Some port = subst (λ cs. output_to p.part.ports cs net ≡ Some port) (main-conns k p e first) out in cc

  ports-fresh : (k : ℕ) (p : Placed) → slice_get tree k ≡ Some p → Fresh [] (port_names p.part.ports)
  ports-fresh k p e = let a = instance_keeps source sound k p e in fresh_ports a.is_main _ _ p.part a.kept

  -- an instance and its parts
  module _ (i : ℕ) (q : Placed) (here : slice_get tree i ≡ Some q) where
    abbrev kept : Among modules q.part
    kept = instance_keeps source sound i q here

    abbrev pub before : List PlainModule
    before = reverse kept.before

    abbrev scope : Scope
    scope = meant_in q.part.ports q.part.decls

    pub part_in : (k : ℕ) (p : Placed) → slice_get tree k ≡ Some p → (k ≡ 0 → ⊥) → p.holder ≡ i → IsPart i q k p
    part_in k p e other around =
        let (r, at, is_part) = part_of k p e other in
        let at_i : slice_get tree i ≡ Some r = subst (λ j. slice_get tree j ≡ Some r) around at in
        let same : r ≡ q = one_value (slice_get tree i) r q at_i here in
        subst (λ j. IsPart j q k p) around (subst (λ y. IsPart p.holder y k p) same is_part)

    -- its module is among those that ended before, and its ports are connected
    part_known : (s : ℕ) (x : PlainInstance) (m : PlainModule) → slice_get q.part.instances s ≡ Some x → module_named modules x.kind ≡ Some m → (module_named before x.kind ≡ Some m) × Aligned scope m.ports x.conns
    part_known s x m there known =
        let w = parts_known kept.is_main before _ q.part kept.kept s x there in
        let found = kept.later x.kind w.part (sym (named-reversed false kept.before x.kind kept.earlier) ∙ w.known) in
        let same : w.part ≡ m = one_value (module_named modules x.kind) w.part m found known in (
          w.known ∙ ap Some same,
          subst (λ (y : PlainModule). Aligned scope y.ports x.conns) same (aligned_from scope w.part.ports x.conns w.connects w.fits),
        )

    pub part-aligned : (k : ℕ) (p : Placed) → IsPart i q k p → Aligned scope p.part.ports p.conns
    part-aligned k p r = subst (λ cs. Aligned scope p.part.ports cs) (sym r.conns) (part_known r.s r.x p.part r.there r.known).1

    -- the ports of a part
    pub part-ports : (s : ℕ) (x : PlainInstance) (m : PlainModule) → slice_get q.part.instances s ≡ Some x → module_named modules x.kind ≡ Some m → ports_of before x.kind ≡ m.ports
    part-ports s x m there known = ap (λ o. option_map_or (λ y. y.ports) o []) (part_known s x m there known).0

    pub drives : (k : ℕ) (p : Placed) → slice_get tree k ≡ Some p → (r : IsPart i q k p) → (net port : List ℕ) → output_to p.part.ports p.conns net ≡ Some port → has_name (driven_by (ports_of before r.x.kind) r.x.conns) net ≡ true
    drives k p e r net port out =
        let (at, c, is, named, is_out, port_is) = output_found p.part.ports p.conns net port out in
        let driven = subst (λ n. has_name (driven_by p.part.ports p.conns) n ≡ true) named (output_drives p.part.ports p.conns (ports-fresh k p e) at c is is_out) in
        let there = subst (λ cs. has_name (driven_by p.part.ports cs) net ≡ true) r.conns driven in
        subst (λ ps. has_name (driven_by ps r.x.conns) net ≡ true) (sym (part-ports r.s r.x p.part r.there r.known)) there

    -- all nets that the module drives, none twice
    pub drivers-fresh : Fresh [] (drivers_in before q.part)
    drivers-fresh =
        fresh_both [] (map (λ a. a.name) q.part.assigns) (driven_by_all before q.part.instances)
        (assigns_fresh scope [] q.part.assigns kept.kept.assigns)
        (instances_drive before scope _ (map (λ a. a.name) q.part.assigns) q.part.instances kept.kept.instances)

    -- one part alone drives a net
    pub one_part : (k l : ℕ) (p o : Placed) → slice_get tree k ≡ Some p → slice_get tree l ≡ Some o → IsPart i q k p → IsPart i q l o → (net port other : List ℕ)
        → output_to p.part.ports p.conns net ≡ Some port → output_to o.part.ports o.conns net ≡ Some other → k ≡ l
    one_part k l p o e f r t net port other out out' =
        let all = fresh_right [] (map (λ a. a.name) q.part.assigns) (driven_by_all before q.part.instances) drivers-fresh in
        let same : r.s ≡ t.s = one_driver ([] ++ map (λ a. a.name) q.part.assigns) before q.part.instances net all r.s t.s r.x t.x r.there t.there (drives k p e r net port out) (drives l o f t net other out') in
        r.number ∙ ap (number_of (tree_from modules) i (i + 1) q.part.instances) same ∙ sym t.number

    -- a net that some part drives is connected to an output of an instance that this one holds
    pub driving_part : (net : List ℕ) → has_name (driven_by_all before q.part.instances) net ≡ true → (k : ℕ) × (p : Placed) × (port : List ℕ) × (slice_get tree k ≡ Some p) × (p.holder ≡ i) × (output_to p.part.ports p.conns net ≡ Some port)
    driving_part net h =
        let (s, x, there, driven) = driver_among before q.part.instances net h in
        let (m, known, at) = part_at source sound i q here s x there in
        let k : ℕ = number_of (tree_from modules) i (i + 1) q.part.instances s in
        let driven' = subst (λ ps. has_name (driven_by ps x.conns) net ≡ true) (part-ports s x m there known) driven in
        let (port, out) = output_there m.ports x.conns net (ports-fresh k (placed x i m) at) driven' in
        (k, placed x i m, port, at, refl, out)
