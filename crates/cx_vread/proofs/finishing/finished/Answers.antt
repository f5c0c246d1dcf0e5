use Rattle.std.proofs.Common.{◌≡◌, List, ◌∙◌, ap, sym, subst}
use Rattle.std.specs.Prelude.{IsTrue}
use Rattle.cx_vtree.specs.PlainParts.{plain_modules}
use Rattle.cx_vtree.specs.Plain.{PlainExternal, PlainModule}
use Rattle.cx_vtree.specs.Sound.{is_sound}
use Rattle.cx_vtree.specs.Sources.{source_of}
use Rattle.cx_vscope.specs.Drafts.{draft_externals, draft_source}
use Rattle.cx_vread.proofs.HeldSources.{sound_externals, sound_modules}
use Rattle.cx_vread.proofs.finishing.finished.Goals as goal

pub finished_externals-requires : goal.finished_externals-requires
finished_externals-requires c = sound_externals (draft_source c.args.externals.items c.args.modules.items) c.requires

pub finished_modules-requires : goal.finished_modules-requires
finished_modules-requires c = sound_modules (draft_source c.args.externals.items c.args.modules.items) c.requires

pub new-requires : goal.new-requires
new-requires c =
    let same : source_of c.in_ok-externals.externals.items c.in_ok-modules.modules.items ≡ draft_source c.args.externals.items c.args.modules.items =
    ap (λ (es : List PlainExternal). record { externals = es; modules = plain_modules c.in_ok-modules.modules.items }) c.in_ok-externals.ensures
    ∙ ap (λ (ms : List PlainModule). record { externals = draft_externals c.args.externals.items; modules = ms }) c.in_ok-modules.ensures in
    subst (λ s. IsTrue (is_sound s)) (sym same) c.requires
