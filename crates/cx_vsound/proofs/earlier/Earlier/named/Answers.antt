use Rattle.std.proofs.Common.{◌≡◌, ◌≤◌, Some, None, List, map, length, slice_get, ap, sym, ◌∙◌, subst}
use Rattle.cx_vtree.specs.Sound.{module_named}
use Rattle.cx_vscope.specs.declared.drafts.DraftModule.{DraftModule}
use Rattle.cx_vscope.specs.Drafts.{draft_modules}
use Rattle.cx_vtree.specs.NameNumbers.{number_by}
use Rattle.cx_vsound.proofs.FirstLemmas.{module_past, module_there, named_none}
use Rattle.cx_text.proofs.ListLaws.{item_at, length-map}
use Rattle.cx_vsound.proofs.earlier.Earlier.named.Goals as goal

pub returns-in_default : goal.returns-in_default
returns-in_default c =
    let is : None ≡ number_by c.self.inside.first c.args.name.now = c.in_default.ensures.value in
    named_none c.self.inside.first (draft_modules (map (λ m. m.now) c.self.inside.list.items)) c.args.name.now c.self.invariant is
    ∙ ap (λ l. module_named (draft_modules l) c.args.name.now) c.self.view_is

pub returns-in-None : goal.returns-in-None
returns-in-None c =
    let ms : List DraftModule = map (λ m. m.now) c.self.inside.list.items in
    let is : Some c.in-Some.number.now ≡ number_by c.self.inside.first c.args.name.now = c.in-Some.ensures.value in
    let count : length c.deref.result.now ≡ length ms = ap length c.deref.ensures.value ∙ sym (length-map (λ m. m.now) c.self.inside.list.items) in
    module_past c.self.inside.first c.args.name.now c.in-Some.number.now is ms c.self.invariant
    (subst (λ k. k ≤ c.in-Some.number.now) count c.in-None.ensures.lookup.3)
    ∙ ap (λ l. module_named (draft_modules l) c.args.name.now) c.self.view_is

pub returns-in-Some-get : goal.returns-in-Some-get
returns-in-Some-get c =
    let ms : List DraftModule = map (λ m. m.now) c.self.inside.list.items in
    let is : Some c.in-Some.number.now ≡ number_by c.self.inside.first c.args.name.now = c.in-Some.ensures.value in
    let there : slice_get ms c.in-Some.number.now ≡ Some c.in-Some-get.m.now.now =
    ap (λ l. slice_get (map (λ m. m.now) l) c.in-Some.number.now) (sym c.deref.ensures.value)
    ∙ item_at (λ m. m.now) c.deref.result.now c.in-Some.number.now c.in-Some-get.m.now c.in-Some-get.ensures.lookup.3.0 c.in-Some-get.ensures.lookup.1 in
    module_there c.self.inside.first c.args.name.now c.in-Some.number.now is ms c.in-Some-get.m.now.now c.self.invariant there
    ∙ ap (λ l. module_named (draft_modules l) c.args.name.now) c.self.view_is
