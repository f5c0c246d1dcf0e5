use Rattle.std.proofs.Common.{◌≡◌, Some, arith}
use Rattle.std.specs.List.{slice_get}
use Rattle.std.proofs.lemmas.Grind.{common_steps}
use Rattle.std.proofs.lemmas.Option.{gets}
use Rattle.cx_flat.specs.declared.stands.Stand.TheVariants.{Inlined}
use Rattle.cx_flat.specs.Callers.{kids_in, part_of}
use Rattle.cx_flat.proofs.InvokeLemmas.{invoked_map}
use Rattle.cx_flat.proofs.invokes.invoked.Goals as goal

pub returns-in-Some-Inlined : goal.returns-in-Some-Inlined
returns-in-Some-Inlined c =
    let at : slice_get c.args.caller.stands.now c.args.invoke.now.cell ≡ Some (Inlined c.in-Some-Inlined.block) = grind (arith, common_steps, gets) in
    record { value = λ child its. invoked_map (kids_in c.args.caller) (part_of c.args.caller) c.args.caller.stands.now c.requires.caller c.args.invoke.now child c.in-Some-Inlined.block at its }
