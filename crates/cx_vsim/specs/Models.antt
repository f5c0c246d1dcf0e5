-- What contracts see of a simulator.
use Rattle.std.specs.Prelude.{ℕ, List}
use Rattle.cx_vtree.specs.declared.sources.Source.{Source}
use Rattle.cx_vtree.specs.SimRun.{Outcome}

-- a source that is to be run, and the words that are loaded into its external memories; no list of words where nothing is
-- loaded, and all words are 0 then
pub record Loaded : Type 0 where
  pub source : Source
  pub words : List (List ℕ)

-- a source that was run, and what its run came to
pub record Ended : Type 0 where
  pub source : Source
  pub outcome : Outcome
