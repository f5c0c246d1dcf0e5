use Rattle.std.proofs.Common.{ℕ, List, subst}
use Rattle.cx_state.specs.States.{words_in}
use Rattle.cx_interp.specs.Runs.{HasRun}
use Rattle.cx_driver.proofs.RanLemmas.{words_of_loaded}
use Rattle.cx_driver.proofs.interpreting.run_loaded.Goals as goal

pub run-ran-requires : goal.run-ran-requires
run-ran-requires c = record { ready = (c.args.design.now, words_in c.args.loaded.memories.items, c.in_ok-begun.ensures.ready) }

pub end-requires-clause-run : goal.end-requires-clause-run
end-requires-clause-run c =
    let Runs : List (List ℕ) → Type 0 = λ words. HasRun c.args.design.now words c.args.turns c.run-ran.result in
    subst Runs (words_of_loaded c.args.loaded.memories.items) (c.run-ran.ensures.run c.args.design.now (words_in c.args.loaded.memories.items) c.in_ok-begun.ensures.ready)
