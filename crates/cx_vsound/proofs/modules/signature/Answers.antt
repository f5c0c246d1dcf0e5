use Rattle.std.proofs.Common.{map, ap, ◌∙◌}
use Rattle.cx_vtree.specs.PlainParts.{plain_port}
use Rattle.cx_vscope.specs.Drafts.{draft_decl, draft_module, draft_modules}
use Rattle.cx_vsound.specs.Parts.{counts_in}
use Rattle.cx_vsound.specs.Search.{noted}
use Rattle.cx_vsound.proofs.Overs.{signature_pieces}
use Rattle.cx_vsound.proofs.modules.signature.Goals as goal

pub returns-clause-value : goal.returns-clause-value
returns-clause-value c =
    signature_pieces c.args.is_main (draft_modules c.args.before.now) (counts_in c.args.own) (draft_module c.args.m.now) c.args.search
    c.after-search.result c.in_ok-search.search c.clean.result c.in_ok-past.past
    c.in_ok-driving.driving c.in_ok-driving.driving c.args.names.now
    (map plain_port c.deref.result.now) (map draft_decl c.deref-2.result.now)
    (c.after-search.ensures ∙ ap (noted c.args.search) c.module_faults.ensures) c.in_ok-search.ensures c.clean.ensures c.in_ok-past.ensures.value
    c.in_ok-driving.ensures c.in_ok-driving.ensures c.requires
    (ap (map plain_port) c.deref.ensures.value) (ap (map draft_decl) c.deref-2.ensures.value)
