-- A design at its start.
use Rattle.std.specs.Prelude.{◌≡◌, ℕ, List}
use Rattle.cx_meaning.specs.Instances.{start, tree_of}
use Rattle.cx_design.specs.PlainDesigns.{plain_design}
use Rattle.cx_state.specs.States.{StandsFor, IsUnheld}
use Rattle.cx_design.specs.declared.designs.Design.{Design}
use Rattle.cx_turns.specs.declared.begun.Begun.{Begun}
use Rattle.cx_turns.specs.Machines.{rows_of, IsPlan, IsAt}

-- an interpreter at the start of a design, with the loaded words
pub record IsReady (given : Design) (words : List (List ℕ)) (begun : Begun) : Type 0 where
  pub design : begun.plan.design.now ≡ given
  pub plan : IsPlan begun.plan
  pub machine : IsAt begun.plan begun.machine
  pub stands : StandsFor (tree_of (plain_design given)) (rows_of begun.machine)
      (start (tree_of (plain_design given)) words)
  pub unheld : IsUnheld (rows_of begun.machine)
