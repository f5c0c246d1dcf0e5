-- What a design does on a data file, counted, is made of what its parts do.
use Rattle.std.proofs.Common.{◌≡◌, ◌++◌, ◌∙◌}
use Rattle.cx_design.specs.declared.refusals.Refusal.TheVariants as refusals
