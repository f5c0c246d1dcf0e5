use Rattle.std.proofs.Common.{[], Ok, Err}
use Rattle.cx_compiler.specs.Simulated.{IsSimAnswer, IsSimStop, Simulates, Spells}
use Rattle.cx_compiler.proofs.Once.{Told, all_answered, all_stopped}
use Rattle.cx_driver.specs.Leaving.{plain_left}
use Rattle.cx_driver.proofs.SimLemmas.{answer_spells, left_answers, spelled_once}
use Rattle.cx_driver.proofs.simulating.sim.Goals as goal

pub returns-in_ok-dump-in-Ok : goal.returns-in_ok-dump-in-Ok
returns-in_ok-dump-in-Ok c =
    let text = c.args.verilog.now in
    let json = c.args.json.now in
    let budget = c.args.cycles in
    let wants : Told → Type 0 = Spells text json budget in
    let does : Told → Type 0 = Simulates text json budget in
    let dump = c.in_ok-dump-in-Ok.dump in
    let answer : IsSimAnswer text json budget dump.items = left_answers text json budget (plain_left c.in-Ok.left) dump.items c.in-Ok.ensures.answer c.in_ok-dump-in-Ok.ensures in
    record {
      answer = answer;
      cause = tt;
      all_answers = λ bytes i. all_answered (λ v. v.items) wants does (spelled_once text json budget) (Ok dump) answer tt bytes (answer_spells text json budget bytes i);
      all_stops = λ why i. all_stopped (λ v. v.items) wants does (spelled_once text json budget) (Ok dump) answer tt why i;
    }

pub returns-in-Err : goal.returns-in-Err
returns-in-Err c =
    let text = c.args.verilog.now in
    let json = c.args.json.now in
    let budget = c.args.cycles in
    let wants : Told → Type 0 = Spells text json budget in
    let does : Told → Type 0 = Simulates text json budget in
    let cause : IsSimStop text json budget c.in-Err.stop = c.in-Err.ensures.cause in
    record {
      answer = tt;
      cause = cause;
      all_answers = λ bytes i. all_answered {X = Unit {0}} (λ _. []) wants does (spelled_once text json budget) (Err c.in-Err.stop) tt cause bytes (answer_spells text json budget bytes i);
      all_stops = λ why i. all_stopped {X = Unit {0}} (λ _. []) wants does (spelled_once text json budget) (Err c.in-Err.stop) tt cause why i;
    }
