-- The laws of the root's block make what one edge owes.
use Rattle.std.proofs.Common.{◌≡◌, ℕ, ◌<◌, Bool, true, false, List, [], Some, refl, sym, ap, ◌∙◌, arith}
use Rattle.std.specs.Option.{option_map_or}
use Rattle.cx_bits.specs.BitVector.{BitVector}
use Rattle.cx_prim.specs.Rows.{Row}
use Rattle.cx_meaning.specs.declared.sights.Seen.TheVariants.{Value}
use Rattle.cx_meaning.specs.Designs.{PlainComponent, PlainDesign}
use Rattle.cx_meaning.specs.Instances.{Instance, Path, tree_of, start, words_of, idle_at}
use Rattle.cx_meaning.specs.Sights.{unheld}
use Rattle.cx_lockstep.specs.Worlds.{Control, At, Machine, edge, edge_of}
use Rattle.cx_control.specs.Codings.{Coding, at_fine}
use Rattle.cx_control.specs.Spots.{Cell, Input, Kept, cells_in, shown}
use Rattle.cx_control.specs.Leaves.{Coded}
use Rattle.cx_control.specs.Controls.{coded_control}
use Rattle.cx_control.specs.Numbers.{number_idle_at, spot_idle}
use Rattle.cx_control.specs.Standing.{bare, good_control}
use Rattle.cx_control.specs.Keeping.{Keeps}
use Rattle.cx_control.specs.DesignRuns.{design_machine}
use Rattle.cx_net.specs.Nets.{PlainNetComponent}
use Rattle.cx_net.specs.NetMeaning.{NetState, NetLook, TheDone, outside, truth_bit, is_true}
use Rattle.cx_net.specs.NetEdges.{net_after}
use Rattle.cx_net.specs.NetRuns as nets
use Rattle.cx_net.specs.NetRuns.{IsWholeLook, AreWords, net_start, net_words}
use Rattle.cx_wiring.specs.PartNets.{net_of_instance}
use Rattle.cx_wiring_runs.specs.Blocks.{block, Shows, Solves, has_cell, BlockLaws}
use Rattle.cx_wiring_runs.proofs.EdgeRuns.{EdgeKeeps}

-- Holds says that the cells of a state hold what their rows can hold, so that values have their widths
module _ (wired : PlainComponent → PlainNetComponent) (timers : PlainComponent → List Row) (numbers : Instance → NetState → ℕ → ℕ) (d : PlainDesign) (Holds : NetState → Type 0) where
  -- the invariant at the root, which has no inputs
  pub record GoodRoot (c : Control (Machine.Place (design_machine d))) (s : Kept) : Type 0 where
    pub fine : at_fine (Coding.IsFine (Coded.coding (coded_control (tree_of d)))) c
    pub good : good_control (tree_of d) c (bare s)
    pub no_input : (n : ℕ) (x : BitVector) → s (Input n) ≡ Value x → ⊥

  pub record ShowsRoot (c : Control (Machine.Place (design_machine d))) (s : Kept) (v : NetState) : Type 0 where
    pub shown_so : Shows (block wired timers numbers (tree_of d)) c s v
    pub holds : Holds v

  -- what is left: the laws of the root's block and of its control, that a whole look solves the rules, that cells go on to hold what
  -- they can, that the first state shows the start, and that the words are those of cells
  pub record RootLaws : Type 0 where
    pub block_laws : BlockLaws (block wired timers numbers (tree_of d))
    pub keeps : Keeps (coded_control (tree_of d)) (good_control (tree_of d)) (λ path v. idle_at (tree_of d) path v) (λ path n v. number_idle_at (tree_of d) path n v)
    pub below : (p : Machine.Place (design_machine d)) → Coding.number (Coded.coding (coded_control (tree_of d))) p < Coding.size (Coded.coding (coded_control (tree_of d)))
    pub whole_solves : (v : NetState) (look : NetLook) → Holds v → IsWholeLook (net_of_instance wired timers numbers (tree_of d)) true v look → Solves (block wired timers numbers (tree_of d)) (outside true) v look
    pub holds_on : (v : NetState) (look : NetLook) → Holds v → IsWholeLook (net_of_instance wired timers numbers (tree_of d)) true v look → Holds (net_after (net_of_instance wired timers numbers (tree_of d)) false true v look)
    pub starts : (words : List (List ℕ)) (look : NetLook) → AreWords d words → IsWholeLook (net_of_instance wired timers numbers (tree_of d)) false (net_start (net_of_instance wired timers numbers (tree_of d)) words) look
        → GoodRoot (Machine.start (design_machine d)) (shown unheld (start (tree_of d) words))
        × ShowsRoot (Machine.start (design_machine d)) (shown unheld (start (tree_of d) words)) (net_after (net_of_instance wired timers numbers (tree_of d)) true false (net_start (net_of_instance wired timers numbers (tree_of d)) words) look)
    pub words : (s : Kept) (v : NetState) → ((path : Path) → has_cell (tree_of d) path ≡ true → v.cell path ≡ s (Cell path)) → net_words (net_of_instance wired timers numbers (tree_of d)) v ≡ words_of (tree_of d) (cells_in s)

  module _ (law : RootLaws) where
    done_is : (look : NetLook) (x : BitVector) (b : Bool) → look [] TheDone ≡ Some x → is_true x ≡ b → nets.is_done look ≡ b
    done_is look x b e f = ap (λ o. option_map_or is_true o false) e ∙ f

    pub edge_of_blocks : EdgeKeeps d (net_of_instance wired timers numbers (tree_of d)) GoodRoot ShowsRoot
    edge_of_blocks = record {
      starts = λ words look fits whole. law.starts words look fits whole;
      good = λ p s g ok. record { fine = law.keeps.fine p s g.fine; good = law.keeps.kept p s g.fine g.good ok; no_input = stays p s g.no_input };
      keeps = λ p s v look g ok shows whole. record {
        shown_so = law.block_laws.runs p s v (outside true) look g.fine g.good ok shows.shown_so (truth_bit true, refl, refl) (λ n x e. absurd (g.no_input n x e)) (law.whole_solves v look shows.holds whole);
        holds = law.holds_on v look shows.holds whole;
      };
      waits = λ p s v look shows whole. let t = law.block_laws.done.told v (outside true) look (law.whole_solves v look shows.holds whole) in done_is look t.0 false t.1 (t.3 (λ e. apart p (law.below p) (sym (shows.shown_so.own 0) ∙ e)));
      done = λ s v look shows whole. let t = law.block_laws.done.told v (outside true) look (law.whole_solves v look shows.holds whole) in done_is look t.0 true t.1 (t.2 (shows.shown_so.own 0));
      words = λ c s v shows. law.words s v shows.shown_so.cells;
    }
      where
        apart : (p : Machine.Place (design_machine d)) → Coding.number (Coded.coding (coded_control (tree_of d))) p < Coding.size (Coded.coding (coded_control (tree_of d))) → Coding.number (Coded.coding (coded_control (tree_of d))) p ≡ Coding.size (Coded.coding (coded_control (tree_of d))) → ⊥
        apart p l e = omega arith

        stays : (p : Machine.Place (design_machine d)) (s : Kept) → ((n : ℕ) (x : BitVector) → s (Input n) ≡ Value x → ⊥) → (n : ℕ) (x : BitVector) → edge (spot_idle (tree_of d)) (design_machine d) (At p) s (Input n) ≡ Value x → ⊥
        stays p s h n x e = h n x (sym (ap (λ o. edge_of o (s (Input n))) (law.keeps.inputs p s n)) ∙ e)
