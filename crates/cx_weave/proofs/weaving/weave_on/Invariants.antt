use Rattle.std.proofs.Common.{◌≡◌, ℕ, List, ◌*◌, ◌^◌, ◌≤◌}
use Rattle.cx_meaning.specs.Instances.{start, tree_of}
use Rattle.cx_meaning.specs.Sights.{unheld}
use Rattle.cx_state.specs.States.{inputs_held, StandsFor}
use Rattle.cx_turns.specs.Machines.{design_of, rows_of, IsAt}
use Rattle.cx_weave.specs.Ledger.{amount}
use Rattle.cx_weave.specs.Strands.{IsShown, plain_strand}
use Rattle.cx_weave.specs.Supplied.{MayTurn}
use Rattle.cx_orders.specs.Woven.{by_list}
use Rattle.cx_weave.proofs.WeaveSteps.{WovenSoFar}
use Rattle.cx_weave.proofs.weaving.weave_on.Given as goal

-- what is open is shown, the run has come so far, and there are spare parts for the rest
abbrev pub invariant-loop-made : goal.invariant-loop-made
invariant-loop-made l =
    IsAt l.plan l.machine
    × IsShown (design_of l.plan) 0 (plain_strand l.strand)
    × ((input : ℕ) → inputs_held (rows_of l.machine) 0 input ≡ unheld input)
    × ((words : List (List ℕ)) → StandsFor (tree_of (design_of l.plan)) (rows_of l.fn.machine) (start (tree_of (design_of l.plan)) words) → WovenSoFar (design_of l.plan) words (by_list l.list) l.steps l.made l.sum (plain_strand l.strand) (rows_of l.machine))
    × (l.sum ≤ l.made * 2 ^ 32)
    × MayTurn (design_of l.plan) 0 l.spares (plain_strand l.strand) (λ x. amount x l.strand)
