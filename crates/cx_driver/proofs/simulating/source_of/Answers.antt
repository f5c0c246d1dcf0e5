use Rattle.std.proofs.Common.{sym, subst}
use Rattle.cx_compiler.specs.Simulated.{IsNoSource}
use Rattle.cx_commands.specs.declared.stops.Stop.{Stop}
use Rattle.cx_driver.proofs.SimLemmas.{unread_text}
use Rattle.cx_driver.proofs.simulating.source_of.Goals as goal

pub returns-in-Ok : goal.returns-in-Ok
returns-in-Ok c = record {
  source = record { spelled = c.in-Ok.ensures.value; sound = c.source_is_sound.ensures.sound };
  cause = tt;
}

pub returns-in-Err : goal.returns-in-Err
returns-in-Err c =
    let Unread : Stop → Type 0 = IsNoSource c.args.verilog.now in
    record {
      source = tt;
      cause = subst Unread (sym c.of_read.ensures) (unread_text c.args.verilog.now c.in-Err.refusal c.in-Err.ensures.sound c.in-Err.ensures.spelled c.in-Err.ensures.told);
    }
