use Rattle.std.proofs.Common.{List, [], ◌∷◌, ℕ, inl, sym, subst}
use Rattle.cx_text.specs.Members.{In}
use Rattle.cx_graphs.proofs.EdgeLemmas.{in_end}
use Rattle.cx_graphs.proofs.Marks.{in_left}
use Rattle.cx_vnets.proofs.spans.add_plain.Goals as goal

pub returns-clause-kept : goal.returns-clause-kept
returns-clause-kept c = λ f i.
    subst (λ (xs : List ℕ). In xs f) (sym c.in_ok-push.ensures.items) (in_left c.args.plain.now.items (c.args.reader ∷ []) f i)

pub returns-clause-here : goal.returns-clause-here
returns-clause-here c = inl (subst (λ (xs : List ℕ). In xs c.args.reader) (sym c.in_ok-push.ensures.items) (in_end c.args.plain.now.items c.args.reader))
