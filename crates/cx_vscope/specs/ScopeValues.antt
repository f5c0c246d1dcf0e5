-- What a `ModuleScope` stands for.
use Rattle.cx_vtree.specs.Sound as sound
use Rattle.cx_vscope.specs.declared.scopes.ModuleScope.{ModuleScope}
use Rattle.cx_vscope.specs.Scopes.{meant_by}

-- what each name stands for
abbrev pub scope_by : ModuleScope → sound.Scope
scope_by s = meant_by s.meanings
