-- What a block of the net shows behind its end, whatever go is, and at its start without go: its start again, with the same cells. Cells rest in an idle
-- edge, the place at the end goes to 0, and 0 stays.
use Rattle.std.proofs.Common.{◌≡◌, inl, inr, ℕ, zero, suc, true, false, [], ◌∷◌, sym, ap, ◌∙◌}
use Rattle.cx_meaning.specs.Instances.{Path}
use Rattle.cx_lockstep.specs.Worlds.{Done, Machine}
use Rattle.cx_control.specs.Spots.{Cell, Number, Kept}
use Rattle.cx_control.specs.Leaves.{Coded, code_of}
use Rattle.cx_control.specs.Standing.{bare}
use Rattle.cx_control.specs.Keeping.{Keeps, AllRest}
use Rattle.cx_net.specs.NetMeaning.{NetState, NetLook, NetAround}
use Rattle.cx_wiring_runs.specs.Blocks.{Block, Shows, Solves, HasGo, IsIdle, BlockLaws, after_edge}

module _ (B : Block) (laws : BlockLaws B) (keeps : Keeps (Block.coded B) (Block.good B) (Block.cell_idle B) (Block.number_idle B))
    (zeros : (n : ℕ) → code_of (Block.coded B) (Machine.start (Coded.machine (Block.coded B))) n ≡ 0) where
  idle_shows : (s : Kept) (v : NetState) (around : NetAround) (look : NetLook)
      → ((path : Path) → Block.has_cell B path ≡ true → v.cell path ≡ s (Cell path))
      → ((n : ℕ) → Block.number_idle B [] n (Block.number_in B v [] n) ≡ 0)
      → ((c : ℕ) (path : Path) (n : ℕ) → Block.number_in B v (c ∷ path) n ≡ s (Number (c ∷ path) n))
      → AllRest (Block.coded B) (Block.good B) (Block.cell_idle B) (Block.number_idle B) (bare s) → IsIdle B around v → Solves B around v look
      → Shows B (Machine.start (Coded.machine (Block.coded B))) s (after_edge B around v look)
  idle_shows s v around look cells own below rest idle solves = record {
    cells = λ path there.
        laws.idles.cells v around look idle solves path there ∙ ap (Block.cell_idle B path) (cells path there) ∙ rest.cells path;
    own = λ n. laws.idles.numbers v around look idle solves [] n ∙ own n ∙ sym (zeros n);
    below = λ c path n.
        laws.idles.numbers v around look idle solves (c ∷ path) n ∙ ap (Block.number_idle B (c ∷ path) n) (below c path n ∙ rest.numbers c path n)
        ∙ keeps.zero_stays (c ∷ path) n ∙ sym (rest.numbers c path n);
  }

  ended_own : (v : NetState) → ((n : ℕ) → Block.number_in B v [] n ≡ code_of (Block.coded B) Done n) → (n : ℕ) → Block.number_idle B [] n (Block.number_in B v [] n) ≡ 0
  ended_own v own zero = ap (Block.number_idle B [] 0) (own 0) ∙ keeps.leaves_end
  ended_own v own (suc n) = ap (Block.number_idle B [] (suc n)) (own (suc n)) ∙ keeps.zero_stays [] (suc n)

  -- ONE CYCLE AT THE END, whatever go is
  pub shows_behind : (s : Kept) (v : NetState) (around : NetAround) (look : NetLook) → Shows B Done s v
      → AllRest (Block.coded B) (Block.good B) (Block.cell_idle B) (Block.number_idle B) (bare s) → Solves B around v look
      → Shows B (Machine.start (Coded.machine (Block.coded B))) s (after_edge B around v look)
  shows_behind s v around look shows rest solves = idle_shows s v around look shows.cells (ended_own v shows.own) shows.below rest (inr (shows.own 0)) solves

  -- ONE CYCLE AT THE START without go
  pub shows_still : (s : Kept) (v : NetState) (around : NetAround) (look : NetLook) → Shows B (Machine.start (Coded.machine (Block.coded B))) s v
      → AllRest (Block.coded B) (Block.good B) (Block.cell_idle B) (Block.number_idle B) (bare s) → HasGo B around false → Solves B around v look
      → Shows B (Machine.start (Coded.machine (Block.coded B))) s (after_edge B around v look)
  shows_still s v around look shows rest go solves =
      idle_shows s v around look shows.cells (λ n. ap (Block.number_idle B [] n) (shows.own n ∙ zeros n) ∙ keeps.zero_stays [] n) shows.below rest (inl go) solves
