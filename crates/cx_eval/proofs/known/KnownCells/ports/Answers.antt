use Rattle.std.proofs.Common.{subst}
use Rattle.cx_meaning.specs.declared.ports.PortRef.TheVariants.{Cell}
use Rattle.cx_eval.specs.Shown.{Shows}
use Rattle.cx_eval.proofs.known.KnownCells.ports.Goals as goal

pub returns : goal.returns
returns c = record {
  value =
      λ a known. record {
        component = known.component;
        each = λ p source at.
            let there = c.ports_at.ensures.value p source at in
            subst (λ cell. Shows a c.args.self.now.slots.now (Cell cell p) source) there.2 (known.each c.args.place p there.0 source there.1 there.3);
      };
}
