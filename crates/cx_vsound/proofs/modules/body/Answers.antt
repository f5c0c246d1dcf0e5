use Rattle.std.proofs.Common.{◌≡◌, [], ◌++◌, map, option_map, refl, ap, ◌∙◌}
use Rattle.cx_vtree.specs.PlainParts.{plain_assign, plain_instance, plain_edge}
use Rattle.cx_vtree.specs.Sound.{assigns_faults}
use Rattle.cx_vscope.specs.Drafts.{draft_module, draft_modules}
use Rattle.cx_vscope.specs.ScopeValues.{scope_by}
use Rattle.cx_vsound.specs.Search.{over}
use Rattle.cx_vsound.proofs.Overs.{body_pieces_by}
use Rattle.cx_vsound.proofs.modules.body.Goals as goal

pub returns : goal.returns
returns c =
    let m = c.args.m.now in
    let scope = scope_by c.in_ok-scope.scope in
    let assigns = map plain_assign c.deref.result.now in
    let empty : c.new-driven.result ≡ [] = c.new-driven.ensures in
    body_pieces_by scope (draft_modules c.args.before.now) (draft_module m) c.args.search c.in_ok-search.search c.in_ok-search-2.search c.in_ok-search-3.search c.clean.result
    assigns (map plain_instance c.deref-2.result.now) (option_map plain_edge m.edge)
    c.args.names.now c.assigns.new.driven
    c.in_ok-scope.ensures (c.in_ok-search.ensures.value ∙ ap (λ d. over c.args.search (assigns_faults scope d assigns)) empty)
    c.in_ok-search-2.ensures c.in_ok-search-3.ensures c.clean.ensures
    (ap (map plain_assign) c.deref.ensures.value) (ap (map plain_instance) c.deref-2.ensures.value) refl c.requires
    (c.in_ok-search.ensures.names ∙ ap (λ d. d ++ map (λ a. a.name) assigns) empty ∙ ap (λ xs. map (λ a. a.name) (map plain_assign xs)) c.deref.ensures.value)
