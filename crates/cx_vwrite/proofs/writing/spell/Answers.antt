use Rattle.std.proofs.Common.{refl}
use Rattle.cx_vtree.specs.Plain.{PlainSource}
use Rattle.cx_vtree.specs.PlainParts.{plain_externals, plain_modules}
use Rattle.cx_vwrite.proofs.LinesText.{source_text}
use Rattle.cx_vwrite.proofs.writing.spell.Goals as goal

pub returns : goal.returns
returns c =
    let s : PlainSource = record { externals = plain_externals c.args.es.now; modules = plain_modules c.args.ms.now } in
    source_text s _ _ _ _ _ c.new-out.ensures.items c.in_ok-externals.ensures c.in_ok-modules.ensures refl refl
