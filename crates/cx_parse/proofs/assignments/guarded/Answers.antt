use Rattle.std.proofs.Common.{List, ◌∷◌, Some, map, ap, sym, ◌∙◌}
use Rattle.cx_ast.specs.declared.operands.OperandItem.{OperandItem}
use Rattle.cx_ast.specs.PlainGuards.{PlainGuard, plain_guard}
use Rattle.cx_grammar.specs.Calyx.{and_of, or_of}
use Rattle.cx_grammar.specs.Calyx.{guarded}
use Rattle.cx_parse.proofs.Steps.{pair, joined, as_seen}
use Rattle.cx_parse.proofs.assignments.guarded.Goals as goal

pub returns : goal.returns
unfolding guarded
returns c = record {
  value =
      joined (λ gs r e k. ap (λ ys. (Some (or_of (and_of ys ∷ r.0)), r.1)) e ∙ k) c.more_comps-parts.ensures.value
      (joined {at = λ (r : List PlainGuard × OperandItem). (Some (or_of (and_of (map plain_guard c.more_comps-parts.result.items) ∷ r.0)), r.1)} (λ cs o e k.
      ap (λ h. (Some (or_of (h ∷ cs)), o)) (sym c.conjunction.ensures.value)
      ∙ (ap (λ ys. (Some (or_of ys), o)) e ∙ (ap (λ h. (Some h, o)) (sym c.disjunction.ensures.value) ∙ ap (λ o. (Some (plain_guard c.disjunction.result), o)) k)))
      c.more_conjs-parts.ensures.value (as_seen (λ o. o) (pair (c.sign.ensures.value c.args.levels) (c.operand-source.ensures.value c.args.levels))));
}
