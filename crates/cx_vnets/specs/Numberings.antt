-- What `ModuleNumbers` stands for.
use Rattle.cx_vnets.specs.declared.numbers.ModuleNumbers.{ModuleNumbers}
use Rattle.cx_vnets.specs.ModuleCodes.{Numbering}
use Rattle.cx_vtree.specs.NameNumbers.{number_by}

abbrev pub nets_by : ModuleNumbers → Numbering
nets_by n = number_by n.nets

abbrev pub arrays_by : ModuleNumbers → Numbering
arrays_by n = number_by n.arrays
