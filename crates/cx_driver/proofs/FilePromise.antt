-- What is written of a file keeps the promise.
use Rattle.std.proofs.Common.{◌≡◌, ℕ, List, Option, sym, subst}
use Rattle.cx_commands.specs.Commands.{Asked, compile}
use Rattle.cx_compiler.specs.Promise.{KeepsOfFile}
use Rattle.cx_compiler.proofs.PromiseLemmas.{promise_is_kept}
use Rattle.cx_driver.specs.Outcomes.{IsAnswer}

pub kept_of_file : (held : Option (List ℕ → Option (List ℕ))) (file verilog : List ℕ) (command : Asked) → compile file ≡ command → IsAnswer held command verilog → KeepsOfFile held file verilog
kept_of_file held file verilog command same h =
    let written : IsAnswer held (compile file) verilog = subst (λ asked. IsAnswer held asked verilog) (sym same) h in
    record { bytes = written.bytes; reads = written.reads; is = promise_is_kept written.bytes verilog written.is }
