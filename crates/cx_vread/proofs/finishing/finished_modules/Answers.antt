use Rattle.std.proofs.Common.{◌∷◌, [], ◌++◌, List, map, length, ap, sym, ◌∙◌, arith, append_assoc}
use Rattle.std.specs.List.{list_all}
use Rattle.std.specs.Vec.Iter.{into_iter_items}
use Rattle.std.proofs.lemmas.Bool.{and_parts}
use Rattle.std.proofs.lemmas.List.{map-append}
use Rattle.cx_vtree.specs.Plain.{PlainModule}
use Rattle.cx_vtree.specs.PlainParts.{plain_module}
use Rattle.cx_vscope.specs.Drafts.{draft_module}
use Rattle.cx_vread.specs.Held.{holds_module}
use Rattle.cx_vread.proofs.finishing.finished_modules.Goals as goal

pub loop-draft-preserved : goal.loop-draft-preserved
loop-draft-preserved c =
    let rest = into_iter_items c.next.new.self in
    let list : List PlainModule = map plain_module c.loop-draft.modules.items in
    let m = c.in_ok-finished_module.field-0 in
    let step = c.in-Some.ensures.steps in
    let long = ap length step.0 in
    let fewer = step.1 in
    let count = c.loop-draft.invariant.count in
    record {
      all = ap (λ xs. map plain_module xs ++ map draft_module rest) c.in_ok-push.ensures.items
          ∙ ap (λ xs. xs ++ map draft_module rest) (map-append plain_module c.loop-draft.modules.items (m ∷ []))
          ∙ append_assoc list (plain_module m ∷ []) (map draft_module rest)
          ∙ ap (λ x. list ++ x ∷ map draft_module rest) c.in_ok-finished_module.ensures
          ∙ ap (λ xs. list ++ map draft_module xs) (sym step.0)
          ∙ c.loop-draft.invariant.all;
      held = (and_parts (holds_module (draft_module c.in-Some.draft)) (list_all holds_module (map draft_module rest))
          (ap (λ xs. list_all holds_module (map draft_module xs)) (sym step.0) ∙ c.loop-draft.invariant.held)).1;
      count = omega arith;
    }
