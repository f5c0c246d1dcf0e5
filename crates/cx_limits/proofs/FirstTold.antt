-- What is told of the limit that a scan has found.
use Rattle.std.proofs.Common.{◌≡◌, ◌<◌, length, Some}
use Rattle.cx_meaning.specs.Designs.{PlainDesign}
use Rattle.cx_design.specs.declared.refusals.Refusal.{Refusal}
use Rattle.cx_design.specs.declared.refusals.Refusal.TheVariants.{Rule, Memory}
use Rattle.cx_limits.specs.declared.found.FoundBreak.{FoundBreak}
use Rattle.cx_limits.specs.First.{IsFirstBreak, TellsFound}
use Rattle.cx_limits.specs.Scan.{past_all}
use Rattle.cx_limits.proofs.LimitBreaks.{first_found}

pub told_first : (d : PlainDesign) → d.main < length d.components → (found : FoundBreak) (answer : Refusal) → past_all d ≡ Some found
    → TellsFound found answer → IsFirstBreak 7 d answer
told_first d main found (Rule told) e h = first_found d main found told e h.0 h.1 h.2
told_first d main found Memory e h = tt
