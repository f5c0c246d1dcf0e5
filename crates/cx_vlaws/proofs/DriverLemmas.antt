-- What drives the nets of an instance, and how many connections it has.
use Rattle.std.proofs.Common.{◌≡◌, ℕ, suc, List, [], ◌∷◌, true, ◌||◌, map, length, Option, Some, None, slice_get, refl, ap, sym, ◌∙◌}
use Rattle.cx_vtree.specs.Plain.{PlainExpr, PlainPort, PlainConn, PlainModule, PlainSource}
use Rattle.cx_vtree.specs.InstanceTree.{Placed, instances_of, assigned, is_output}
use Rattle.cx_vtree.specs.Sound.{Scope, has_name, meant_in, is_driven, driven_by_all, is_sound}
use Rattle.cx_vlaws.specs.Drivers.{IsDriven, by_assign, by_output}
use Rattle.cx_vlaws.proofs.Fresh.{has-append}
use Rattle.cx_vlaws.proofs.Conns.{Aligned, port_of, output_found}
use Rattle.cx_vlaws.proofs.Holders.{part_of, part_in, part-aligned, before, output-no_main, driving_part}
use Rattle.cx_vlaws.proofs.OriginLemmas.{assigned_found, assigned_none}
use Rattle.cx_vlaws.proofs.Given.{ports_fresh_here, driver_there}
use Rattle.cx_vlaws.proofs.Ties.{output-at}

module _ (source : PlainSource) (sound : is_sound source ≡ true) (i : ℕ) (p : Placed) (here : slice_get (instances_of source) i ≡ Some p) where
  -- a wire or an output has a driver
  pub driver_is : (n : List ℕ) → is_driven (meant_in p.part.ports p.part.decls n) ≡ true → IsDriven (instances_of source) i p n
  driver_is n driven = go (assigned p.part.assigns n) refl where
    modules : List PlainModule
    modules = before source sound i p here

    go : (o : Option PlainExpr) → assigned p.part.assigns n ≡ o → IsDriven (instances_of source) i p n
    go (Some e) is = let (k, a, at, named, value) = assigned_found p.part.assigns n e is in by_assign k a at named
    go None is =
        let both = sym (has-append (map (λ a. a.name) p.part.assigns) (driven_by_all modules p.part.instances) n) ∙ driver_there source sound i p here n driven in
        let by_part : has_name (driven_by_all modules p.part.instances) n ≡ true = sym (ap (λ b. b || has_name (driven_by_all modules p.part.instances) n) (assigned_none p.part.assigns n is)) ∙ both in
        let (j, q, name, at, around, out) = driving_part source sound i p here n by_part in
        let other = output-no_main source sound j q at n name out in
        let (k, c, is_at, is_net, is_out, is_port) = output_found q.part.ports q.conns n name out in
        let (port, there, connects) = port_of (meant_in p.part.ports p.part.decls) q.part.ports q.conns (part-aligned source sound i p here j q (part_in source sound i p here j q at other around)) k c is_at in
        let fresh = ports_fresh_here source sound j q at in
        let output : port.output ≡ true = sym (output-at [] q.part.ports fresh k port there) ∙ ap (is_output q.part.ports) connects.port ∙ is_out in
        by_output j k q port c at around other there output is_at is_net

  -- there is a connection for each port, and no others
  pub conns-length : (i ≡ 0 → ⊥) → length p.conns ≡ length p.part.ports
  conns-length other = let (q, at, is_part) = part_of source sound i p here other in aligned-length (meant_in q.part.ports q.part.decls) p.part.ports p.conns (part-aligned source sound p.holder q at i p is_part)
    where
      aligned-length : (scope : Scope) (ps : List PlainPort) (cs : List PlainConn) → Aligned scope ps cs → length cs ≡ length ps
      aligned-length scope [] [] a = refl
      aligned-length scope [] (c ∷ cs) a = absurd a
      aligned-length scope (x ∷ ps) [] a = absurd a
      aligned-length scope (x ∷ ps) (c ∷ cs) a = ap suc (aligned-length scope ps cs a.1)
