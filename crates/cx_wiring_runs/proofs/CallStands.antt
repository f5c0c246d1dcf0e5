-- Where the child of each call that runs stands: so in the net its done is what the machine of the call takes it for.
use Rattle.std.proofs.Common.{◌≡◌, ℕ, zero, suc, ◌<◌, Bool, true, false, List, [], ◌∷◌, Option, Some, refl, sym, ap, ◌∙◌, subst, arith}
use Rattle.cx_text.specs.declared.places.Place.{Place}
use Rattle.cx_bits.specs.BitVector.{BitVector}
use Rattle.cx_prim.specs.Rows.{Row}
use Rattle.cx_meaning.specs.Designs.{PlainComponent, Enable, Placed}
use Rattle.cx_meaning.specs.Instances as instances
use Rattle.cx_meaning.specs.Instances.{Instance, Cells, no_cells, a_primitive, an_instance, OfInstance, cell_at}
use Rattle.cx_text.specs.Members.{In}
use Rattle.cx_text.proofs.OptionLaws.{same_some}
use Rattle.cx_meaning.specs.Calls.{called}
use Rattle.cx_lockstep.specs.Worlds.{Control, At, Done, Machine, is_done}
use Rattle.cx_lockstep.specs.Statements.{LeafMachines}
use Rattle.cx_lockstep.specs.Running.{AGroup, running}
use Rattle.cx_control.specs.Codings.{Coding, at_fine}
use Rattle.cx_control.specs.Spots.{Number, Kept}
use Rattle.cx_control.specs.Leaves.{Coded, code_of, child_at, leaf_machines}
use Rattle.cx_control.specs.Controls.{coded_control, coded_below}
use Rattle.cx_control.specs.Standing.{bare, Calling, runs, at_end, captured, GoodAt, good_below}
use Rattle.cx_control.specs.ControlRules.{ControlRules}
use Rattle.cx_control.specs.InstanceRules.{Stands}
use Rattle.cx_control.proofs.CallLaws.{ChildLaws}
use Rattle.cx_control.proofs.ControlLaws.{IslandsDo}
use Rattle.cx_control.proofs.KeepLaws.{KeepsBelow, run_stands, at_child, bank, decoded}
use Rattle.cx_net.specs.Nets.{PlainNetComponent}
use Rattle.cx_net.specs.NetMeaning.{NetState, below_cell, NetLook, NetAround, TheDone, around_child, is_true, truth_bit}
use Rattle.cx_wiring.specs.NetBits.{is_bit, is_bit_below}
use Rattle.cx_wiring.specs.PartNets.{net_of_instance, net_of_cells}
use Rattle.cx_wiring.proofs.TakingLemmas.{true_bit}
use Rattle.cx_wiring_runs.specs.Blocks.{block, block_below, numbers_below, Solves, BlockLaws}
use Rattle.cx_wiring_runs.proofs.ChildLooks.{child_solves}

-- a bit that is known to be a value
pub bit_is : (o : Option BitVector) (b t : Bool) (x : BitVector) → o ≡ Some (truth_bit b) → o ≡ Some x → is_true x ≡ t → b ≡ t
bit_is o b t x e f is = sym (true_bit b) ∙ ap is_true (same_some (truth_bit b) x (sym e ∙ f)) ∙ is

module _ (wired : PlainComponent → PlainNetComponent) (timers : PlainComponent → List Row) (numbers : Instance → NetState → ℕ → ℕ) where
  done_of : (child : Instance) → is_bit (net_of_instance wired timers numbers child) [] TheDone ≡ true
  done_of (instances.Node part cells) = refl

  -- the done of a component cell is of one bit
  done_below : (cells : Cells) (more : List Row) (c : ℕ) (child : Instance) → cell_at cells c ≡ OfInstance child → is_bit_below (net_of_cells wired timers numbers cells more) c [] TheDone ≡ true
  done_below no_cells more c child is = absurd cc
  done_below (a_primitive row rest) more zero child is = absurd cc
  done_below (a_primitive row rest) more (suc c) child is = done_below rest more c child is
  done_below (an_instance kid rest) more zero child is = done_of kid
  done_below (an_instance kid rest) more (suc c) child is = done_below rest more c child is

  module _ (part : PlainComponent) (cells : Cells) (below : (c : ℕ) (child : Instance) → cell_at cells c ≡ OfInstance child → ChildLaws cells c (coded_below cells c))
      (children : (c : ℕ) (child : Instance) → cell_at cells c ≡ OfInstance child → BlockLaws (block_below wired timers numbers cells (timers part) c))
      (s : Kept) (v : NetState) (around : NetAround) (look : NetLook)
      (below_shows : (c n : ℕ) → numbers_below wired timers numbers cells c (below_cell c v) [] n ≡ s (Number (c ∷ []) n)) (solves : Solves (block wired timers numbers (instances.Node part cells)) around v look) where
    -- THE DONE OF A CHILD whose numbers are the code of a place
    pub done_told : (c : ℕ) (child : Instance) → cell_at cells c ≡ OfInstance child → (k : Control (Machine.Place (Coded.machine (coded_below cells c)))) → ((n : ℕ) → s (Number (c ∷ []) n) ≡ code_of (coded_below cells c) k n)
        → look (c ∷ []) TheDone ≡ Some (truth_bit (is_done k))
    done_told c child is k code =
        let so = child_solves wired timers numbers part cells around v look solves c child is in
        let b = so.bits [] TheDone (done_below cells (timers part) c child is) in
        b.1 ∙ ap (λ t. Some (truth_bit t)) (by b.0 b.1 k code)
      where
        by : (b : Bool) → look (c ∷ []) TheDone ≡ Some (truth_bit b) → (k : Control (Machine.Place (Coded.machine (coded_below cells c)))) → ((n : ℕ) → s (Number (c ∷ []) n) ≡ code_of (coded_below cells c) k n) → b ≡ is_done k
        by b e (At q) code =
            let t = (children c child is).done.told (below_cell c v) (around_child c (look [])) (λ q. look (c ∷ q)) (child_solves wired timers numbers part cells around v look solves c child is) in
            let less : Coding.number (Coded.coding (coded_below cells c)) q < Coding.size (Coded.coding (coded_below cells c)) = (below c child is).region.coded.below q in
            let at_q : numbers_below wired timers numbers cells c (below_cell c v) [] 0 ≡ Coding.number (Coded.coding (coded_below cells c)) q = below_shows c 0 ∙ code 0 in
            bit_is (look (c ∷ []) TheDone) b false t.0 e t.1 (t.3 (λ f. apart less at_q f))
          where
            apart : Coding.number (Coded.coding (coded_below cells c)) q < Coding.size (Coded.coding (coded_below cells c)) → numbers_below wired timers numbers cells c (below_cell c v) [] 0 ≡ Coding.number (Coded.coding (coded_below cells c)) q
                → numbers_below wired timers numbers cells c (below_cell c v) [] 0 ≡ Coding.size (Coded.coding (coded_below cells c)) → ⊥
            apart less e f = omega arith
        by b e Done code =
            let t = (children c child is).done.told (below_cell c v) (around_child c (look [])) (λ q. look (c ∷ q)) (child_solves wired timers numbers part cells around v look solves c child is) in
            bit_is (look (c ∷ []) TheDone) b true t.0 e t.1 (t.2 (below_shows c 0 ∙ code 0))

    module _ (control : ControlRules (instances.Node part cells)) (islands : IslandsDo (instances.Node part cells)) (kept : (c : ℕ) (child : Instance) → cell_at cells c ≡ OfInstance child → KeepsBelow cells c) where
      -- where it stands
      -- where it stands
      pub record StandsSo (c : ℕ) : Type 0 where
        pub place : Control (Machine.Place (Coded.machine (coded_below cells c)))
        pub fine : at_fine (Coding.IsFine (Coded.coding (coded_below cells c))) place
        pub code : (n : ℕ) → s (Number (c ∷ []) n) ≡ code_of (coded_below cells c) place n

      module _ (g : ℕ) (place : Place) (c : ℕ) (stands : Stands (instances.Node part cells) (Placed (Enable g) place)) (e : called (instances.Node part cells) g ≡ Some c) where
        pub stands_so : Calling (instances.Node part cells) (coded_below cells) (good_below cells) g c (bare s) → StandsSo c
        stands_so (runs q fine code gd is_open) = record { place = At q; fine = fine; code = code }
        stands_so (at_end code gd is_open) = record { place = Done; fine = tt; code = code }
        stands_so (captured rests caps is_set) =
            let region = (below c _ (at_child part cells control islands below kept g place c stands e)).region in
            record {
              place = At region.front.first;
              fine = subst (at_fine (Coding.IsFine (Coded.coding (coded_below cells c)))) region.front.starts region.coded.starts;
              code = λ n. rests.numbers_rest [] n ∙ sym (ap (λ k. code_of (coded_below cells c) k n) (sym region.front.starts) ∙ (bank part cells control islands below kept g place c stands e).zeros_at n);
            }

        -- THE DONE OF WHAT IT CALLS
        pub done_seen : Calling (instances.Node part cells) (coded_below cells) (good_below cells) g c (bare s) → look (c ∷ []) TheDone ≡ Some (truth_bit (is_done (child_at (coded_below cells c) c s)))
        done_seen calling =
            let it = stands_so calling in
            done_told c _ (at_child part cells control islands below kept g place c stands e) it.place it.code
            ∙ ap (λ k. Some (truth_bit (is_done k))) (sym (decoded part cells control islands below kept g place c stands e s it.place it.fine it.code))

      -- of each call that runs
      pub dones_seen : (p : Machine.Place (Coded.machine (coded_control (instances.Node part cells)))) → GoodAt (instances.Node part cells) (coded_below cells) (good_below cells) (running (leaf_machines (instances.Node part cells) (coded_below cells)) part.control p) (bare s)
          → (g : ℕ) (place : Place) (stand : Machine.Place (LeafMachines.enable (leaf_machines (instances.Node part cells) (coded_below cells)) g)) (c : ℕ)
          → In (running (leaf_machines (instances.Node part cells) (coded_below cells)) part.control p) (AGroup g place stand) → called (instances.Node part cells) g ≡ Some c
          → look (c ∷ []) TheDone ≡ Some (truth_bit (is_done (child_at (coded_below cells c) c s)))
      dones_seen p good g place stand c m e = done_seen g place c (run_stands part cells control islands below kept (At p) (AGroup g place stand) m) e (good.calls g place stand c m e)
