-- What a design stands for.
use Rattle.cx_meaning.specs.Designs.{PlainDesign}
use Rattle.cx_design.specs.declared.designs.Design.{Design}
use Rattle.cx_design.specs.PlainForms.{plain_parts}

abbrev pub plain_design : Design → PlainDesign
plain_design d = plain_parts d.components.items d.main
