use Rattle.std.proofs.Common.{Bool, Some, slice_get, slice_set, true, ap, ◌∙◌, sym, subst, ◌∷◌, []}
use Rattle.cx_graphs.specs.Graphs.{Appends}
use Rattle.cx_graphs.proofs.Marks.{appends_before, appends_now}
use Rattle.cx_graphs.proofs.reaching.mark.Goals as goal

pub returns-in_ok-push : goal.returns-in_ok-push
returns-in_ok-push c =
    let marks = c.args.marks.now.items in
    let waiting = c.args.waiting.now.items in
    record {
      appends = subst (Appends marks waiting (c.args.node ∷ []) (slice_set marks c.args.node true)) (sym c.in_ok-push.ensures.items)
          (appends_now marks waiting c.args.node c.requires.within (ap (λ xs. slice_get xs c.args.node) (sym c.as_slice.ensures.value) ∙ c.is_marked.ensures.value ∙ ap (λ (b : Bool). Some b) c.if-not-is_marked.true));
    }

pub returns-else-not-is_marked : goal.returns-else-not-is_marked
returns-else-not-is_marked c = record {
  appends = appends_before c.args.marks.now.items c.args.waiting.now.items c.args.node
      (ap (λ xs. slice_get xs c.args.node) (sym c.as_slice.ensures.value) ∙ c.is_marked.ensures.value ∙ ap (λ (b : Bool). Some b) c.if-not-is_marked.false);
}
