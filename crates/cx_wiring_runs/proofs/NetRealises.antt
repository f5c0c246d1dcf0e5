-- The machine's runs and what one edge owes make the net's run that of the design.
use Rattle.std.proofs.Common.{◌≡◌, ℕ, ◌+◌, true, false, List, refl, subst, arith}
use Rattle.std.proofs.Math.Path.{fun_ext}
use Rattle.cx_meaning.specs.Designs.{PlainDesign}
use Rattle.cx_meaning.specs.Instances.{State, tree_of, start, words_of}
use Rattle.cx_meaning.specs.Sights.{unheld}
use Rattle.cx_meaning.specs.Answers.{End, More}
use Rattle.cx_meaning.specs.Running.{run_main}
use Rattle.cx_vtree.specs.SimRun.{DoneAt}
use Rattle.cx_text.specs.Loading.{words_loaded}
use Rattle.cx_lockstep.specs.Worlds.{Machine, Moment}
use Rattle.cx_control.specs.Spots.{Kept, cells_in, shown}
use Rattle.cx_control.specs.DesignRuns.{design_machine, moment_of, MachineRuns}
use Rattle.cx_net.specs.NetTree.{NetInstance}
use Rattle.cx_net.specs.NetMeaning.{NetState}
use Rattle.cx_net.specs.NetEdges.{net_after}
use Rattle.cx_net.specs.NetRuns.{NetRun, after_reset, at_reset, at_first, AreWords, IsGrounded, net_start}
use Rattle.cx_wiring.specs.InNet.{RealisesInNet}
use Rattle.cx_wiring_runs.proofs.GroundedRuns.{HasLook, whole_look, net_comes}
use Rattle.cx_wiring_runs.proofs.EdgeRuns.{Place, EdgeKeeps, reaches, cannot}

pub net_realises : (d : PlainDesign) (tree : NetInstance) (Good : Place d tree → Kept → Type 0) (Shows : Place d tree → Kept → NetState → Type 0)
    → MachineRuns d → EdgeKeeps d tree Good Shows → IsGrounded (AreWords d) tree → RealisesInNet d tree
net_realises d tree Good Shows runs law grounded = record {
  grounded = grounded;
  runs = record {
    ends = λ memories budget turns after fits e. ends (words_loaded memories) (memories, fits, refl) budget turns after e;
    ends_only = λ memories budget cycle left fits r. only (words_loaded memories) left (memories, fits, refl) budget cycle r;
    never_stuck = λ memories budget fits. net_comes tree (words_loaded memories) (grounded (words_loaded memories) (memories, fits, refl)) budget;
  };
}
  where
    first : (loaded : List (List ℕ)) → AreWords d loaded → HasLook tree false (net_start tree loaded)
    first loaded fits = whole_look tree false (net_start tree loaded) (grounded loaded fits false (net_start tree loaded) at_reset)

    ends : (loaded : List (List ℕ)) → AreWords d loaded → (last turns : ℕ) (after : State) → run_main d loaded last ≡ End after turns → NetRun tree loaded last (DoneAt turns (words_of (tree_of d) after))
    ends loaded fits last turns after e =
        let m = runs.ends loaded last turns after e in
        let l = first loaded fits in
        let s = law.starts loaded l.look fits l.is in
        let same : cells_in (Moment.store (moment_of d loaded turns)) ≡ after = fun_ext (λ path. m.cells path) in
        let none : 0 + turns ≡ turns = omega arith in
        subst (λ x. NetRun tree loaded last (DoneAt turns (words_of (tree_of d) x))) same
        (subst (λ k. NetRun tree loaded last (DoneAt k (words_of (tree_of d) (cells_in (Moment.store (moment_of d loaded turns)))))) none (after_reset l.look l.is
        (reaches d tree Good Shows law loaded (λ v c. let k = whole_look tree true v (grounded loaded fits true v c) in (k.look, k.is)) turns last 0
        (Machine.start (design_machine d)) (shown unheld (start (tree_of d) loaded)) (net_after tree true false (net_start tree loaded) l.look) s.0 s.1 (at_first l.look l.is) m.quiet m.is_over m.in_budget)))

    only : (loaded ws : List (List ℕ)) → AreWords d loaded → (last cycle : ℕ) → NetRun tree loaded last (DoneAt cycle ws) → run_main d loaded cycle ≡ More → ⊥
    only loaded ws fits last cycle (after_reset look w rest) more =
        let m = runs.goes_on loaded cycle more in
        let s = law.starts loaded look fits w in
        cannot d tree Good Shows law loaded (λ v c. let k = whole_look tree true v (grounded loaded fits true v c) in (k.look, k.is)) cycle 0 last cycle ws
        (Machine.start (design_machine d)) (shown unheld (start (tree_of d) loaded)) (net_after tree true false (net_start tree loaded) look) (DoneAt cycle ws) s.0 s.1 rest refl m.quiet m.undone (omega arith)
