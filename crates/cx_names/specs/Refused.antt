-- What holds where a rule is told.
use Rattle.std.specs.Prelude.{Result, Ok, Err}
use Rattle.cx_text.specs.declared.diagnostics.Diagnostic.{Diagnostic}
use Rattle.cx_design.specs.declared.refusals.Refusal as refusals
use Rattle.cx_design.specs.declared.refusals.Refusal.TheVariants as refused

abbrev pub IfRule : {A : Type 0} → Result A refusals.Refusal → (Diagnostic → Type 0) → Type 0
IfRule (Ok x) holds = Unit {0}
IfRule (Err (refused.Rule told)) holds = holds told
IfRule (Err refused.Memory) holds = Unit {0}
