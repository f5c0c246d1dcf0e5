use Rattle.std.proofs.Common.{sym, ◌∙◌}
use Rattle.cx_text.proofs.ListLaws.{read_at}
use Rattle.cx_vnets.proofs.gates.byte_of.Goals as goal

pub returns-in-Some : goal.returns-in-Some
returns-in-Some c = λ other. record {
  value = c.in-Some.value.now;
  stands = read_at c.args.values.now c.args.net c.in-Some.value.now c.in-Some.ensures.lookup.3.0 c.in-Some.ensures.lookup.1;
  zero = sym c.value.ensures.value ∙ c.if-value-eq0.true;
}
