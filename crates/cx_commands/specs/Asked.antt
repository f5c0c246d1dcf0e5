-- The command of the program's own type as what is asked for.
use Rattle.cx_commands.specs.Commands.{Asked, compile, interp, check, sim, trial, share, promote, instrument, profile, weave}
use Rattle.cx_commands.specs.declared.commands.Command.{Command}
use Rattle.cx_commands.specs.declared.commands.Command.TheVariants.{Compile, Interp, Check, Sim, Trial, Share, Promote, Instrument, Profile, Weave}

-- what a command asks for
abbrev pub asked_of : Command → Asked
asked_of (Compile design) = compile design.now
asked_of (Interp design json budget) = interp design.now json.now budget
asked_of (Check design) = check design.now
asked_of (Sim verilog json budget) = sim verilog.now json.now budget
asked_of (Trial seed) = trial seed
asked_of (Share design) = share design.now
asked_of (Promote design) = promote design.now
asked_of (Instrument design) = instrument design.now
asked_of (Profile design json budget) = profile design.now json.now budget
asked_of (Weave design json steps list) = weave design.now json.now steps list.now
