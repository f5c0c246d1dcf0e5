-- What is told of a design that is not accepted.
use Rattle.std.specs.Prelude.{◌≡◌}
use Rattle.cx_text.specs.declared.diagnostics.Diagnostic.{Diagnostic}
use Rattle.cx_text.specs.declared.rules.Rule.TheVariants.{NotASource}
use Rattle.cx_meaning.specs.Designs.{PlainDesign}
use Rattle.cx_rules.specs.Accepted.{FirstBreak}
use Rattle.cx_rules.specs.OneBreak.{IsPlaced}
use Rattle.cx_design.specs.declared.refusals.Refusal.{Refusal}
use Rattle.cx_design.specs.declared.refusals.Refusal.TheVariants.{Rule, Memory}

-- the first break of the first stage that has one, unless memory is wanting
abbrev pub IsRefusal : PlainDesign → Refusal → Type 0
IsRefusal d (Rule told) = FirstBreak d told
IsRefusal d Memory = Unit {0}

-- two refusals are of one rule at one place, and of one name but where places do not tell the ports that are no sources
pub record IsSame (d : PlainDesign) (told other : Diagnostic) : Type 0 where
  pub rule : told.rule ≡ other.rule
  pub place : told.place ≡ other.place
  pub name : (told.rule ≡ NotASource → IsPlaced d) → told.name ≡ other.name

-- the same is told, unless memory is wanting
abbrev pub TellsAs : PlainDesign → Diagnostic → Refusal → Type 0
TellsAs d wanted (Rule told) = IsSame d told wanted
TellsAs d wanted Memory = Unit {0}
