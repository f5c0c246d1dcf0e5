-- THE SOURCE IS SOUND: of a fit net without holes that can be written.
use Rattle.std.proofs.Common.{◌≡◌, ◌&&◌, true, List, length, ap, lt-ltb}
use Rattle.std.specs.Prelude.{nat_lt, is_none}
use Rattle.std.specs.List.{list_all}
use Rattle.std.proofs.lemmas.Bool.{and_from}
use Rattle.cx_vtree.specs.Plain.{PlainModule}
use Rattle.cx_vtree.specs.Layout.{external_fits, module_fits, is_laid_out}
use Rattle.cx_vtree.specs.Sound.{break_of, externals_faults, modules_faults, is_sound}
use Rattle.cx_net.specs.Nets.{PlainNet}
use Rattle.cx_net.specs.NetFits.{IsFit, HasNoHoles}
use Rattle.cx_net.specs.NetLimits.{IsWritable}
use Rattle.cx_emit.specs.Emitted.{CanBeEmitted}
use Rattle.cx_emit.specs.Sources.{source_of}
use Rattle.cx_emit.proofs.FaultLaws.{clean-append, break_of-clean}
use Rattle.cx_emit.proofs.CleanModules.{each_all}
use Rattle.cx_emit.proofs.ModuleWalk.{some_modules, modules_good}
use Rattle.cx_emit.proofs.ExternalSound.{external_lines, externals_laid}

pub source_is_sound : (net : PlainNet) → IsFit net → HasNoHoles net → IsWritable net → is_sound (source_of net) ≡ true
source_is_sound net fit no_holes writable =
    let modules = modules_good net fit no_holes writable in
    let all : List PlainModule = (source_of net).modules in
    and_from (is_laid_out (source_of net)) (is_none (break_of (source_of net)))
    (and_from (list_all external_fits (source_of net).externals && nat_lt 0 (length all)) (list_all module_fits all)
    (and_from (list_all external_fits (source_of net).externals) (nat_lt 0 (length all)) (each_all external_fits (source_of net).externals (externals_laid net fit no_holes writable)) (lt-ltb 0 (length all) (some_modules net fit no_holes writable)))
    (each_all module_fits all modules.1))
    (ap is_none (break_of-clean (source_of net) (clean-append (externals_faults all _ _ (source_of net).externals) (modules_faults _ _ all) (external_lines net fit no_holes writable) modules.0)))

-- so the source of a net that can be emitted is
pub emitted_sound : (net : PlainNet) → CanBeEmitted net → is_sound (source_of net) ≡ true
emitted_sound net can = source_is_sound net can.fits can.no_holes can.writable
