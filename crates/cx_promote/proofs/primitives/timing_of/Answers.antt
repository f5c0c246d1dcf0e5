use Rattle.std.proofs.Common.{◌≡◌, ap, ◌∙◌, subst}
use Rattle.cx_prim.specs.PrimitiveNames.{IsNamed, name_text}
use Rattle.cx_promote.specs.Cycles.{cycles_named}
use Rattle.cx_promote.proofs.CycleLemmas.{found_cycles, found_pipe}
use Rattle.cx_promote.proofs.primitives.timing_of.Goals as goal

pub returns-in-Some : goal.returns-in-Some
returns-in-Some c =
    let text : c.as_bytes.result.now ≡ name_text c.args.primitive.now.name = c.as_bytes.ensures.value ∙ c.name.ensures.value in
    let named : IsNamed c.in-Some.name (name_text c.args.primitive.now.name) = subst (IsNamed c.in-Some.name) text c.in-Some.ensures.some in
    record {
      cycles = c.timing_at.ensures.cycles ∙ ap (cycles_named c.in-Some.name) c.numbers.ensures.value ∙ found_cycles c.args.primitive.now c.in-Some.name c.numbers.ensures.has_row named;
      pipe = c.timing_at.ensures.pipe ∙ found_pipe c.args.primitive.now c.in-Some.name c.numbers.ensures.has_row named;
    }
