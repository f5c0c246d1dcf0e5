use Rattle.std.proofs.Common.{◌≡◌, true, subst, sym}
use Rattle.cx_design.specs.PlainDesigns.{plain_design}
use Rattle.cx_vtree.specs.Plain.{PlainSource}
use Rattle.cx_vtree.specs.PlainSources.{plain_source}
use Rattle.cx_vtree.specs.Sound.{is_sound}
use Rattle.cx_emit.proofs.Soundness.{emitted_sound}
use Rattle.cx_compiler.specs.Compiled.{written_net}
use Rattle.cx_compiler.proofs.Layers.{still_realised}
use Rattle.cx_compiler.proofs.WrittenRows.{spelt_so}
use Rattle.cx_compiler.proofs.compiling.verilog_of.Goals as goal

pub spelled-requires : goal.spelled-requires
spelled-requires c =
    let same = sym c.in_ok-source.ensures.value in
    let sound = emitted_sound (written_net (plain_design c.args.design.now)) c.requires.net in
    record { sound = subst (λ (s : PlainSource). is_sound s ≡ true) same sound }

pub returns : goal.returns
returns c =
    let d = plain_design c.args.design.now in
    record {
      spelled = spelt_so (λ v. v.items) d (plain_source c.in_ok-source.source) c.spelled.result c.in_ok-source.ensures.value c.spelled.ensures;
      meaning = still_realised d c.spelled.result c.in_ok-source.ensures.meaning;
    }
