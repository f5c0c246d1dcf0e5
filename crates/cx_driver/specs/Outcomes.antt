-- What a command does with its files: what it writes, or why it stops.
use Rattle.std.specs.Prelude.{◌≡◌, ◌⊎◌, ℕ, List, Option, Some, Result, Ok, Err, IsSomeAnd, codes}
use Rattle.cx_text.specs.declared.diagnostics.Diagnostic.{Diagnostic}
use Rattle.cx_text.specs.declared.limits.TheConstants.{DESIGN_BYTES, DATA_BYTES, VERILOG_BYTES}
use Rattle.cx_commands.specs.Commands.{Asked, compile, interp, check, sim, trial, share, promote, instrument, profile, weave, Asks}
use Rattle.cx_commands.specs.Reads.{OfFile}
use Rattle.cx_compiler.specs.Texts.{IsAcceptedText, TextBreak}
use Rattle.cx_compiler.specs.Compiled.{IsCompilable, Compiles}
use Rattle.cx_compiler.specs.Interpreted.{Interprets}
use Rattle.cx_compiler.specs.Simulated.{Simulates}
use Rattle.cx_driver.specs.Instrumenting.{Instruments, IsInstrumentable}
use Rattle.cx_driver.specs.Profiling.{Profiles}
use Rattle.cx_driver.specs.Tried.{Tries}
use Rattle.cx_driver.specs.Promoting.{Promotes}
use Rattle.cx_driver.specs.Sharing.{Shares}
use Rattle.cx_driver.specs.Weaving.{Weaves}
use Rattle.cx_commands.specs.Lists.{numbers_in}
use Rattle.cx_commands.specs.declared.stops.Stop.{Stop}
use Rattle.cx_commands.specs.declared.stops.Stop.TheVariants as stops

-- WHAT THE CHECKS SAY OF A TEXT: it is accepted; or it breaks a rule, and that is told
abbrev pub Checks : List ℕ → Result (List ℕ) Stop → Type 0
Checks text result =
    (IsAcceptedText text × (result ≡ Ok (codes "accepted\n")))
    ⊎ ((told : Diagnostic) × TextBreak text told × (result ≡ Err (stops.Rule told)))

-- WHAT A COMMAND DOES, by what its files hold where that is told; in any case each is within its limit
abbrev pub Does : Option (List ℕ → Option (List ℕ)) → Asked → Result (List ℕ) Stop → Type 0
Does held (compile design) result = OfFile held DESIGN_BYTES design (λ text. Compiles text result)
Does held (interp design json budget) result =
    OfFile held DESIGN_BYTES design (λ text. OfFile held DATA_BYTES json (λ bytes. Interprets text bytes budget result))
Does held (check design) result = OfFile held DESIGN_BYTES design (λ text. Checks text result)
Does held (sim verilog json budget) result =
    OfFile held VERILOG_BYTES verilog
    (λ text. OfFile held DATA_BYTES json (λ bytes. Simulates text bytes budget result))
Does held (trial seed) result = Tries seed result
Does held (share design) result = OfFile held DESIGN_BYTES design (λ text. Shares text result)
Does held (promote design) result = OfFile held DESIGN_BYTES design (λ text. Promotes text result)
Does held (instrument design) result = OfFile held DESIGN_BYTES design (λ text. Instruments text result)
Does held (profile design json budget) result =
    OfFile held DESIGN_BYTES design (λ text. OfFile held DATA_BYTES json (λ bytes. Profiles text bytes budget result))
Does held (weave design json steps list) result =
    OfFile held DESIGN_BYTES design
    (λ text. OfFile held DATA_BYTES json (λ bytes. Weaves text bytes steps (numbers_in list) result))

-- what it writes
abbrev pub IsAnswer : Option (List ℕ → Option (List ℕ)) → Asked → List ℕ → Type 0
IsAnswer held command answer = Does held command (Ok answer)

-- the words ask for a command that writes this
abbrev pub IsAnswerTo : Option (List ℕ → Option (List ℕ)) → List (List ℕ) → List ℕ → Type 0
IsAnswerTo held words answer = (command : Asked) × Asks words command × IsAnswer held command answer

-- there is an answer to what the files hold
abbrev pub HasAnswer : Option (List ℕ → Option (List ℕ)) → Asked → Type 0
HasAnswer held command = (answer : List ℕ) × IsAnswer held command answer

-- what the files hold can be answered: of compile, the text is accepted and its design is within the size; of share and promote, it is
-- accepted; of instrument, its instrumented design keeps the limits and is within the size
abbrev pub CanAnswer : Option (List ℕ → Option (List ℕ)) → Asked → Type 0
CanAnswer held (compile design) = OfFile held DESIGN_BYTES design IsCompilable
CanAnswer held (interp design json budget) = HasAnswer held (interp design json budget)
CanAnswer held (check design) = HasAnswer held (check design)
CanAnswer held (sim verilog json budget) = HasAnswer held (sim verilog json budget)
CanAnswer held (trial seed) = HasAnswer held (trial seed)
CanAnswer held (share design) = OfFile held DESIGN_BYTES design IsAcceptedText
CanAnswer held (promote design) = OfFile held DESIGN_BYTES design IsAcceptedText
CanAnswer held (instrument design) = OfFile held DESIGN_BYTES design IsInstrumentable
CanAnswer held (profile design json budget) = HasAnswer held (profile design json budget)
CanAnswer held (weave design json steps list) = HasAnswer held (weave design json steps list)

-- what the files hold stops the command
abbrev pub IsStopped : Option (List ℕ → Option (List ℕ)) → Asked → Stop → Type 0
IsStopped held command stop = Does held command (Err stop)

-- this holds of files that are told; a trial reads none, so there nothing need be told
abbrev pub OfTold : Asked → Option (List ℕ → Option (List ℕ)) → (Option (List ℕ → Option (List ℕ)) → Type 0) → Type 0
OfTold (compile design) held P = IsSomeAnd held (λ holds. P (Some holds))
OfTold (interp design json budget) held P = IsSomeAnd held (λ holds. P (Some holds))
OfTold (check design) held P = IsSomeAnd held (λ holds. P (Some holds))
OfTold (sim verilog json budget) held P = IsSomeAnd held (λ holds. P (Some holds))
OfTold (trial seed) held P = P held
OfTold (share design) held P = IsSomeAnd held (λ holds. P (Some holds))
OfTold (promote design) held P = IsSomeAnd held (λ holds. P (Some holds))
OfTold (instrument design) held P = IsSomeAnd held (λ holds. P (Some holds))
OfTold (profile design json budget) held P = IsSomeAnd held (λ holds. P (Some holds))
OfTold (weave design json steps list) held P = IsSomeAnd held (λ holds. P (Some holds))

-- why it stops, unless memory is wanting
abbrev pub StopsCommand : Asked → Option (List ℕ → Option (List ℕ)) → Stop → Type 0
StopsCommand command held stop = (stop ≡ stops.Memory) ⊎ IsStopped held command stop
