use Rattle.std.proofs.Common.{ℕ, List, sym, subst}
use Rattle.cx_commands.specs.Commands.{AsksRun}
use Rattle.cx_commands.proofs.commands.profiler_of.Goals as goal

pub returns-in-None : goal.returns-in-None
returns-in-None c = λ design json budget asks.
    let Named : List ℕ → Type 0 = λ name. AsksRun c.args.words.now name design json budget in
    c.in-None.ensures design json budget (subst Named (sym c.as_slice.ensures) asks)
