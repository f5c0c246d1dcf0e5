-- The machine of a tree that can be built.
use Rattle.std.proofs.Common.{◌≡◌, ℕ, ◌+◌, List, [], ◌∷◌, ◌++◌, map, reverse, length, Some, option_map, option_and_then, slice_get, refl, ap, sym, ◌∙◌, subst, arith, append-nil, codes}
use Rattle.cx_vtree.specs.Plain.{PlainPort, PlainInstance, PlainModule, PlainSource}
use Rattle.cx_vtree.specs.InstanceTree.{Placed, main_instance, below, tree_from, instances_of, decls_at, declared_nets, nets_at, kind_in, origin_by, origin_of, Outside}
use Rattle.cx_vnets.specs.declared.nets.Stored.{Stored}
use Rattle.cx_vnets.specs.Fits.{width_at, Fits}
use Rattle.cx_vnets.specs.Search.{SameWidths}
use Rattle.cx_vnets.specs.Stores.{plain_words}
use Rattle.cx_vtree.specs.NameNumbers.{position}
use Rattle.cx_vnets.specs.CodeLaws.{net_widths}
use Rattle.cx_vnets.specs.declared.machines.Machine.{Machine}
use Rattle.cx_vnets.specs.declared.machines.Bench.{Bench}
use Rattle.cx_vnets.specs.Readers.{ReadersStand}
use Rattle.cx_vnets.specs.Runs.{IsReady}
use Rattle.cx_vnets.specs.Numbers.{nets_before, net_number}
use Rattle.cx_vnets.specs.Flat.{NetsStand}
use Rattle.cx_vnets.specs.EdgesFlat.{SetsStand, StoresStand}
use Rattle.cx_vnets.specs.RunsFlat.{IsInput, MachineStands}
use Rattle.cx_vlaws.specs.MainPorts.{main_ports}
use Rattle.cx_velab.specs.Tables.{all_zeros, all_zero_arrays}
use Rattle.cx_velab.specs.Zeros.{widths_at, ZerosStand}
use Rattle.cx_velab.specs.Covered.{IsDriven, DrivenStand}
use Rattle.cx_velab.specs.FitsLaws.{StoredHasWidths, NetsFit, AllSetsFit, AllStoresFit, ZerosFit}
use Rattle.cx_vsim.specs.Trees.{CanBeBuilt}
use Rattle.cx_vsim.specs.Machines.{BuiltStands}
use Rattle.cx_vsim.proofs.Positions.{nets_there, ports_there}
use Rattle.cx_text.proofs.OptionLaws.{some_by}

-- `main` alone has the instances of the source below it
pub main_alone : (s : PlainSource) (modules : List PlainModule) (roots : List PlainInstance) → modules ≡ s.modules → roots ≡ main_instance ∷ [] → below (tree_from (reverse modules)) 0 0 roots ≡ instances_of s
main_alone s modules roots e f =
    ap (λ ms. below (tree_from (reverse ms)) 0 0 roots) e ∙ ap (below (tree_from (reverse s.modules)) 0 0) f ∙ append-nil (instances_of s)

-- the ports of `main` come first
module _ (tree : List Placed) (p : Placed) (at : slice_get tree 0 ≡ Some p) (is : p.part.ports ≡ main_ports) where
  main_nets : nets_at tree 0 ≡ map (λ (q : PlainPort). q.name) main_ports ++ declared_nets p.part.decls
  main_nets = nets_there tree 0 p at ∙ ap (λ ps. map (λ (q : PlainPort). q.name) ps ++ declared_nets p.part.decls) is

  reset_number : net_number tree 0 (codes "reset") ≡ Some 1
  reset_number = ap (λ l. option_map (λ k. nets_before tree 0 + k) (position l (codes "reset"))) main_nets

  go_number : net_number tree 0 (codes "go") ≡ Some 2
  go_number = ap (λ l. option_map (λ k. nets_before tree 0 + k) (position l (codes "go"))) main_nets

  done_number : net_number tree 0 (codes "done") ≡ Some 3
  done_number = ap (λ l. option_map (λ k. nets_before tree 0 + k) (position l (codes "done"))) main_nets

  outside : (name : List ℕ) → origin_of tree 0 name ≡ option_and_then (origin_by tree 0 p name) (kind_in main_ports p.part.decls name)
  outside name =
      ap (option_and_then (λ (q : Placed). option_and_then (origin_by tree 0 q name) (kind_in q.part.ports q.part.decls name))) at
      ∙ ap (λ ps. option_and_then (origin_by tree 0 p name) (kind_in ps p.part.decls name)) is

  reset_outside : origin_of tree 0 (codes "reset") ≡ Some Outside
  reset_outside = outside (codes "reset")

  go_outside : origin_of tree 0 (codes "go") ≡ Some Outside
  go_outside = outside (codes "go")

  main_widths : (k : ℕ) → slice_get (widths_at tree 0) k ≡ slice_get (net_widths main_ports (decls_at tree 0)) k
  main_widths k = ap (λ ps. slice_get (net_widths ps (decls_at tree 0)) k) (ports_there tree 0 p at ∙ is)

module _ (tree : List Placed) (build : CanBeBuilt tree) (driven : DrivenStand) (nets_fit : NetsFit) (sets_fit : AllSetsFit) (stores_fit : AllStoresFit) (zeros_fit : ZerosFit) (zeros_stand : ZerosStand)
    (m : Machine) (b : Bench) (s : Stored)
    (zeros : s.nets.items ≡ all_zeros tree) (arrays : map plain_words s.arrays.items ≡ all_zero_arrays tree)
    (drivers : IsDriven tree m.nets.codes.items m.nets.drivers.items)
    (resets : SetsStand tree m.nets.codes.items 1 m.resets.items) (sets : SetsStand tree m.nets.codes.items 0 m.sets.items) (stores : StoresStand tree m.nets.codes.items 0 m.stores.items)
    (reset : m.reset ≡ 1) (go : m.go ≡ 2) (done : m.done ≡ 3)
    (marks : length b.marks.items ≡ length s.nets.items) (stack : length b.stack.items ≡ length s.nets.items) (writes : length b.writes.items ≡ length m.stores.items)
    (values : SameWidths b.values.items s.nets.items) where
  main_at : slice_get tree 0 ≡ Some build.rooted.main.0
  main_at = build.rooted.main.1

  nets_stand : NetsStand tree m.nets
  nets_stand = driven tree m.nets build.tidy drivers

  wide : StoredHasWidths tree s
  wide = zeros_fit tree s zeros arrays

  fits : Fits m.nets s
  fits = nets_fit tree m.nets s nets_stand wide build.wide.origins

  bit_at : (k f : ℕ) → f ≡ k → slice_get (net_widths main_ports (decls_at tree 0)) k ≡ Some 1 → width_at s.nets.items f ≡ Some 1
  bit_at k f e one =
      let number : nets_before tree 0 + k ≡ f = let z : nets_before tree 0 ≡ 0 = refl in omega (arith, e, z) in
      ap (width_at s.nets.items) (sym number) ∙ wide.nets 0 k 1 (main_widths tree build.rooted.main.0 main_at build.rooted.main.2 k ∙ one)

  machine_stands : MachineStands tree m
  machine_stands = record {
    nets = nets_stand;
    resets = resets;
    sets = sets;
    stores = stores;
    reset = subst (IsInput tree (codes "reset")) (sym reset)
        (record { number = reset_number tree build.rooted.main.0 main_at build.rooted.main.2; outside = reset_outside tree build.rooted.main.0 main_at build.rooted.main.2 });
    go = subst (IsInput tree (codes "go")) (sym go)
        (record { number = go_number tree build.rooted.main.0 main_at build.rooted.main.2; outside = go_outside tree build.rooted.main.0 main_at build.rooted.main.2 });
    done = done_number tree build.rooted.main.0 main_at build.rooted.main.2 ∙ ap Some (sym done);
  }

  ready : IsReady m s b
  ready =
      let long = fits.long in
      record {
        fits = fits;
        resets = sets_fit tree m.nets.codes.items s m.resets.items 1 resets wide (build.wide.sets 1);
        sets = sets_fit tree m.nets.codes.items s m.sets.items 0 sets wide (build.wide.sets 0);
        stores = stores_fit tree m.nets.codes.items s m.stores.items 0 stores wide (build.wide.stores 0);
        reset = bit_at 1 m.reset reset refl;
        go = bit_at 2 m.go go refl;
        done = some_by (width_at s.nets.items m.done) 1 (bit_at 3 m.done done refl);
        marks = marks ∙ sym long;
        stack = stack ∙ sym long;
        writes = writes;
        values = values;
      }

  pub built_stands : ReadersStand m.nets m.order.items m.readers → length b.stale.items ≡ length s.nets.items → BuiltStands tree (record { machine = m; bench = b; stored = s })
  built_stands readers stale = record { machine = machine_stands; ready = ready; readers = readers; stale = stale ∙ sym fits.long; zeros = zeros_stand tree s build.apart.names build.wide.bits zeros arrays }
