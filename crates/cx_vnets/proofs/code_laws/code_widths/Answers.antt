use Rattle.cx_vnets.proofs.ModuleWidths.{width_kept}
use Rattle.cx_vnets.proofs.code_laws.code_widths.Goals as goal

pub returns : goal.returns
returns c = λ ports decls nets arrays code e w hn ha f fits is. width_kept ports decls nets arrays hn ha code e f is w fits
