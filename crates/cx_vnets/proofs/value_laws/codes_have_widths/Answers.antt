use Rattle.cx_vnets.proofs.CodeWidths.{code_has_width}
use Rattle.cx_vnets.proofs.value_laws.codes_have_widths.Goals as goal

pub returns : goal.returns
returns c values arrays p code w v even width e = code_has_width values arrays p code w v even width e
