use Rattle.std.proofs.Common.{◌≡◌, [], ◌∷◌, ◌++◌, List, map, length, ap, sym, ◌∙◌, subst, arith}
use Rattle.std.proofs.lemmas.List.{map_push}
use Rattle.cx_vscope.specs.declared.drafts.DraftModule.{DraftModule}
use Rattle.cx_vscope.specs.Drafts.{draft_modules}
use Rattle.cx_vsound.specs.Firsts.{HasFirst, module_names}
use Rattle.cx_vtree.specs.NameNumbers.{position}
use Rattle.cx_vsound.proofs.FirstLemmas.{modules_more}
use Rattle.cx_text.proofs.ListLaws.{length-map}
use Rattle.cx_vsound.proofs.earlier.Earlier.push.Goals as goal

pub invariant_of-self-in_err-enter : goal.invariant_of-self-in_err-enter
invariant_of-self-in_err-enter c =
    λ q. c.in_err-enter.ensures.err q ∙ c.self.invariant q ∙ ap (λ l. position (module_names (draft_modules (map (λ m. m.now) l))) q) (sym c.in_ok-reserve.ensures.items)

pub invariant_of-self-2 : goal.invariant_of-self-2
invariant_of-self-2 c =
    let ms : List DraftModule = map (λ m. m.now) c.self.inside.list.items in
    let more : map (λ m. m.now) c.push_reserved.new.self.items ≡ ms ++ c.args.m.now ∷ [] =
    ap (map (λ m. m.now)) (c.push_reserved.ensures.items ∙ ap (λ xs. xs ++ c.args.m ∷ []) c.in_ok-reserve.ensures.items) ∙ map_push (λ m. m.now) c.self.inside.list.items c.args.m in
    let held : c.len.result ≡ length c.reserve.new.self.items = omega (arith, c.len.ensures, c.reserve.new.self.ok.0) in
    let count : c.len.result ≡ length ms = held ∙ ap length c.in_ok-reserve.ensures.items ∙ sym (length-map (λ m. m.now) c.self.inside.list.items) in
    subst (λ l. HasFirst c.enter.new.first (module_names (draft_modules l))) (sym more)
    (modules_more c.self.inside.first c.enter.new.first ms c.args.m.now c.len.result c.self.invariant c.in_ok-enter.ensures.entered count)
