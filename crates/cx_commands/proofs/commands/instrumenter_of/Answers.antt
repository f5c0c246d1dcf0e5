use Rattle.std.proofs.Common.{ℕ, List, sym, subst}
use Rattle.cx_commands.specs.Commands.{AsksDesign}
use Rattle.cx_commands.proofs.commands.instrumenter_of.Goals as goal

pub returns-in-None : goal.returns-in-None
returns-in-None c = λ design asks.
    let Named : List ℕ → Type 0 = λ name. AsksDesign c.args.words.now name design in
    c.in-None.ensures design (subst Named (sym c.as_slice.ensures) asks)
