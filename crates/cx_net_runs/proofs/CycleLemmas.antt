-- A cycle of the machine is one of the net.
use Rattle.std.proofs.Common.{◌≡◌, ⊎_elim, ℕ, ◌==◌, Bool, true, false, List, [], length, Option, None, Some, IsSome, refl, ap, sym, ◌∙◌, subst, if◌then◌else◌}
use Rattle.std.specs.Prelude.{codes}
use Rattle.std.specs.Option.{option_map_or}
use Rattle.std.proofs.lemmas.Bool.{cases_Bool}
use Rattle.cx_bits.specs.BitVector.{BitVector}
use Rattle.cx_vtree.specs.InstanceTree.{Placed, instances_of}
use Rattle.cx_vtree.specs.Edges.{state_after}
use Rattle.cx_vtree.specs.Meaning.{Moment}
use Rattle.cx_vtree.specs.Plain.{PlainSource}
use Rattle.cx_vtree.specs.SimRun.{IsWhole}
use Rattle.cx_vtree.specs.Sound.{is_sound}
use Rattle.cx_vmods.proofs.TableLaws.{each_is_built}
use Rattle.cx_vnets.specs.declared.machines.Bench.{Bench}
use Rattle.cx_vnets.specs.declared.machines.Machine.{Machine}
use Rattle.cx_vnets.specs.declared.nets.Stored.{Stored}
use Rattle.cx_vnets.specs.Machines.{IsAfter}
use Rattle.cx_vnets.specs.EdgesFlat.{SetsStand, StoresStand}
use Rattle.cx_vnets.specs.Memory.{StoredStands}
use Rattle.cx_vnets.specs.Numbers.{look_by}
use Rattle.cx_vnets.specs.Runs as flat
use Rattle.cx_vnets.specs.Runs.{AreValues, IsReady}
use Rattle.cx_vnets.specs.Search.{IsFirstWithout}
use Rattle.cx_vnets.specs.Values as numbered
use Rattle.cx_vnets.specs.Widths.{HaveWidths}
use Rattle.cx_vnets.proofs.EdgeLemmas.{moment_after, edge_same, no_stores}
use Rattle.cx_vnets.proofs.Fitting.{IsFitting, fitting_ready, sets_by_values, stores_by_values}
use Rattle.cx_vnets.proofs.FlatValues.{value_by_number, net_there}
use Rattle.cx_vnets.proofs.WholeLooks.{same_length, whole_by_values, done_same}
use Rattle.cx_vsim.specs.Trees.{CanBeBuilt}
use Rattle.cx_net.specs.Nets.{PlainNet}
use Rattle.cx_net.specs.NetEdges.{net_after}
use Rattle.cx_net.specs.NetMeaning.{NetLook, NetState, TheDone, is_true, truth_bit}
use Rattle.cx_net.specs.NetRuns as nets
use Rattle.cx_net.specs.NetRuns.{IsWholeLook}
use Rattle.cx_net.specs.NetTree.{net_tree}
use Rattle.cx_emit.specs.Sources.{source_of}
use Rattle.cx_emit.specs.Fits.{IsFlat}
use Rattle.cx_emit.proofs.AllValued.{WholeText, whole_text}
use Rattle.cx_emit.proofs.EdgeValues.{edges_carry}
use Rattle.cx_emit.proofs.Situations.{main_situation}
use Rattle.cx_emit.proofs.TextWholes.{whole_has}
use Rattle.cx_net_runs.specs.Inputs.{HasInputs}
use Rattle.cx_net_runs.specs.Standing.{moment, StandsAt, StandsIn}
use Rattle.cx_vnets.proofs.InputLemmas.{inputs_stand}
use Rattle.cx_net.proofs.WidthLaws.{bit_is}

abbrev bit : Bool → ℕ
bit one = if one then 1 else 0

-- what soundness gives of the tree of a source
abbrev pub AllCanBeBuilt : Type 0
AllCanBeBuilt = (source : PlainSource) → is_sound source ≡ true → CanBeBuilt (instances_of source)

some_there : (o : Option BitVector) → IsSome o → (v : BitVector) × (o ≡ Some v)
some_there None some = absurd (cc)
some_there (Some v) some = (v, refl)

of_bit : (t : Bool) → ((truth_bit t).value == 1) ≡ is_true (truth_bit t)
of_bit true = refl
of_bit false = refl

module _ (net : PlainNet) (s : NetState) (m : Machine) where
  -- the inputs of a cycle
  pub with_inputs : AllCanBeBuilt → (reset go : Bool) (before after : Stored) → HasInputs m reset go before after → StandsIn net s m before → StandsAt net s m after (bit reset) (bit go)
  with_inputs can reset go before after inputs (r, g, at) = record {
    fits = at.fits;
    no_holes = at.no_holes;
    sound = at.sound;
    machine = at.machine;
    state = at.state;
    stored = inputs_stand (instances_of (source_of net)) (can (source_of net) at.sound).apart.names m at.machine.reset at.machine.go at.state r g reset go before after at.stored inputs.nets inputs.arrays;
    states = at.states;
  }

  module _ (x : Stored) (reset go : Bool) (at : StandsAt net s m x (bit reset) (bit go)) where
    abbrev tree : List Placed
    tree = instances_of (source_of net)

    abbrev now : Moment
    now = moment at.state (bit reset) (bit go)

    abbrev flat_net : IsFlat net
    flat_net = record { fits = at.fits; no_holes = at.no_holes }

    -- no net is without a value
    pub none_wants : (look : NetLook) → IsWholeLook (net_tree net) go s look → (f : ℕ) → IsFirstWithout m.nets x f → ⊥
    none_wants look whole f first =
        let (i, k, name, number, there) = net_there tree m.nets at.machine.nets f first.there in
        let all : WholeText tree now = whole_text net at.sound flat_net each_is_built now go s look at.states refl whole in
        let (v, known) = some_there (all.look i name) (all.whole.whole i k name there) in
        first.no_value v (subst (λ g. numbered.HasValue m.nets x g v) (sym number) (value_by_number tree now m.nets x at.machine.nets at.stored (all.whole.right i name v known) k there))

    module _ (b : Bench) (ready : IsReady m x b) (are : AreValues m x b.values.items) where
      long : length b.values.items ≡ length m.nets.drivers.items
      long = same_length b.values.items x.nets.items are.widths ∙ (fitting_ready m x b ready).long

      whole_by : IsWhole tree now (look_by tree b.values.items)
      whole_by = whole_by_values tree now m.nets x at.machine.nets at.stored b.values.items long are.right

      -- done is the same
      pub done_told : (look : NetLook) → IsWholeLook (net_tree net) go s look → flat.is_done m b.values.items ≡ nets.is_done look
      done_told look whole =
          let situation = main_situation net at.sound flat_net each_is_built now go s look at.states refl whole in
          let (v, known) = situation.all [] net.main TheDone 1 refl refl in
          let carried = situation.looked [] net.main TheDone 1 v refl refl known in
          let (t, is) = bit_is v carried.1 in
          sym (done_same tree now m.nets x at.machine.nets at.stored b.values.items long m at.machine.done)
          ∙ ap (λ o. option_map_or (λ (u : BitVector). u.value == 1) o false) (whole_has (source_of net) at.sound now (look_by tree b.values.items) whole_by 0 (codes "done") v carried.0)
          ∙ ap (λ (u : BitVector). u.value == 1) is ∙ of_bit t ∙ sym (ap (λ o. option_map_or is_true o false) known ∙ ap is_true is)

      -- after the edge what is stored stands for the next state
      module _ (can : AllCanBeBuilt) (have : HaveWidths) (look : NetLook) (whole : IsWholeLook (net_tree net) go s look) (after : Stored) where
        fit : IsFitting m x
        fit = fitting_ready m x b ready

        next : StoredStands tree (moment_after tree now b.values.items) after → StandsIn net (net_after (net_tree net) reset go s look) m after
        next stored = (
          bit reset,
          bit go,
          record {
            fits = at.fits;
            no_holes = at.no_holes;
            sound = at.sound;
            machine = at.machine;
            state = state_after tree now (look_by tree b.values.items);
            stored = stored;
            states = edges_carry net at.fits at.no_holes at.sound reset go s now look (look_by tree b.values.items) at.states refl refl whole whole_by;
          },
        )

        pub reset_next : reset ≡ true → IsAfter m.nets.codes.items m.resets.items [] b.values.items x after → StandsIn net (net_after (net_tree net) reset go s look) m after
        reset_next is stores =
            next
            (edge_same tree now m.nets.codes.items b.values.items x after m.resets.items [] at.stored (can (source_of net) at.sound).apart.names (can (source_of net) at.sound).apart.edges
            (subst (λ r. SetsStand tree m.nets.codes.items (bit r) m.resets.items) (sym is) at.machine.resets)
            (subst (λ r. StoresStand tree m.nets.codes.items (bit r) []) (sym is) (no_stores tree m.nets.codes.items)) have are.widths
            (sets_by_values m x fit b.values.items are.widths m.resets.items fit.resets) (λ j y there. absurd (cc)) stores)

        pub step_next : reset ≡ false → IsAfter m.nets.codes.items m.sets.items m.stores.items b.values.items x after → StandsIn net (net_after (net_tree net) reset go s look) m after
        step_next is stores =
            next
            (edge_same tree now m.nets.codes.items b.values.items x after m.sets.items m.stores.items at.stored (can (source_of net) at.sound).apart.names (can (source_of net) at.sound).apart.edges
            (subst (λ r. SetsStand tree m.nets.codes.items (bit r) m.sets.items) (sym is) at.machine.sets)
            (subst (λ r. StoresStand tree m.nets.codes.items (bit r) m.stores.items) (sym is) at.machine.stores) have are.widths
            (sets_by_values m x fit b.values.items are.widths m.sets.items fit.sets) (stores_by_values m x fit b.values.items are.widths) stores)

        -- with reset or without
        pub cycle_next : (reset ≡ true → IsAfter m.nets.codes.items m.resets.items [] b.values.items x after) → (reset ≡ false → IsAfter m.nets.codes.items m.sets.items m.stores.items b.values.items x after)
            → StandsIn net (net_after (net_tree net) reset go s look) m after
        cycle_next with_reset without = ⊎_elim (λ is. reset_next is (with_reset is)) (λ is. step_next is (without is)) (cases_Bool reset)
