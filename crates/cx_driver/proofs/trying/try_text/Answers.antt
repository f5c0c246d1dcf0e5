use Rattle.std.proofs.Common.{List, ℕ, subst}
use Rattle.cx_text.specs.declared.limits.TheConstants.{BUDGET}
use Rattle.cx_design.specs.PlainDesigns.{plain_design}
use Rattle.cx_compiler.specs.Simulated.{IsSimStop, TextLeaves}
use Rattle.cx_driver.specs.Leaving.{plain_left}
use Rattle.cx_driver.specs.Tried.{zeros}
use Rattle.cx_driver.proofs.TrialLemmas.{left_small, leaves_large, simulated_line, unsimulated}
use Rattle.cx_driver.proofs.trying.try_text.Goals as goal

pub compile_design-requires : goal.compile_design-requires
compile_design-requires c = record { rules = c.requires.rules; net = c.requires.net }

pub line_of-requires : goal.line_of-requires
line_of-requires c =
    let rules = c.requires.rules c.in-Ok.ensures.answer.0 in
    let realised = c.in-Ok.ensures.meaning rules.0 rules.1 rules.2 in
    let Leaves : List ℕ → Type 0 = λ text. TextLeaves text zeros BUDGET (plain_left c.in-Ok-simulate.left) in
    record {
      small = left_small c.args.seed (plain_design c.args.design.now) c.requires.ends.0 c.requires.ends.1 realised c.in-Ok.verilog.items c.in-Ok.ensures.answer
          (plain_left c.in-Ok-simulate.left) (subst Leaves c.deref.ensures.value c.in-Ok-simulate.ensures.answer) c.requires.memory c.in-Ok-simulate.ensures.ready.fits;
    }

pub returns-in-Ok-simulate : goal.returns-in-Ok-simulate
returns-in-Ok-simulate c =
    let rules = c.requires.rules c.in-Ok.ensures.answer.0 in
    let realised = c.in-Ok.ensures.meaning rules.0 rules.1 rules.2 in
    let Leaves : List ℕ → Type 0 = λ text. TextLeaves text zeros BUDGET (plain_left c.in-Ok-simulate.left) in
    record {
      answer = simulated_line c.args.seed (plain_design c.args.design.now) c.requires.ends.0 c.requires.ends.1 realised c.in-Ok.verilog.items c.in-Ok.ensures.answer
          (plain_left c.in-Ok-simulate.left) c.in_ok-line-in-Ok-simulate.line.items (subst Leaves c.deref.ensures.value c.in-Ok-simulate.ensures.answer) c.in_ok-line-in-Ok-simulate.ensures;
      cause = tt;
    }

pub returns-in-Ok : goal.returns-in-Ok
returns-in-Ok c =
    let rules = c.requires.rules c.in-Ok.ensures.answer.0 in
    let realised = c.in-Ok.ensures.meaning rules.0 rules.1 rules.2 in
    let Stops : List ℕ → Type 0 = λ text. IsSimStop text zeros BUDGET c.in-Err-simulate.stop in
    record {
      answer = tt;
      cause = unsimulated c.args.seed (plain_design c.args.design.now) c.requires.ends.0 c.requires.ends.1 realised c.in-Ok.verilog.items c.in-Ok.ensures.answer c.in-Err-simulate.stop
          (subst Stops c.deref.ensures.value c.in-Err-simulate.ensures.cause);
    }

pub returns : goal.returns
returns c = record {
  answer = tt;
  cause = leaves_large c.args.seed (plain_design c.args.design.now) c.requires.ends.0 c.in-Err.stop c.requires.ends.1 c.in-Err.ensures.cause;
}
