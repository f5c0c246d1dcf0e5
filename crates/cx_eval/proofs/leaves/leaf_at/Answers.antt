use Rattle.std.proofs.Common.{[], sym, subst}
use Rattle.cx_eval.specs.declared.sources.Source.TheVariants.{Fixed, State}
use Rattle.cx_eval.specs.Sources.{IsNumberSeen}
use Rattle.cx_eval.proofs.SourceLemmas.{fixed_seen, state_seen}
use Rattle.cx_eval.proofs.leaves.leaf_at.Goals as goal

pub returns-in-Fixed : goal.returns-in-Fixed
returns-in-Fixed c = record {
  value = λ i h.
      let active = c.args.of.now.active.now in
      subst (λ seen. IsNumberSeen i active [] c.args.number (Fixed seen)) (sym c.in-Fixed.seen-is)
      (subst (λ n. IsNumberSeen i active [] n (Fixed c.in-Fixed.seen)) c.in_ok-listed.ensures.number
      (fixed_seen i active [] c.in_ok-listed.listed (c.in_ok-listed.ensures.found i h) c.in-Fixed.seen c.in-Fixed.is));
}

pub returns-in-State : goal.returns-in-State
returns-in-State c = record {
  value = λ i h.
      let active = c.args.of.now.active.now in
      subst (λ n. IsNumberSeen i active [] n (State c.in-State.cell c.in-State.port)) c.in_ok-listed.ensures.number
      (state_seen i active [] c.in_ok-listed.listed (c.in_ok-listed.ensures.found i h) c.in-State.cell c.in-State.port c.in-State.is);
}
