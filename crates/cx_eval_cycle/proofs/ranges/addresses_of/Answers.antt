use Rattle.std.proofs.Common.{◌≡◌, ap, ◌∙◌, subst}
use Rattle.cx_prim.specs.PrimitiveNames.{IsNamed, name_text}
use Rattle.cx_design_sizes.specs.Dimensions.{dimensions_of}
use Rattle.cx_eval_cycle.specs.Ranges.{enable_of, out_by}
use Rattle.cx_eval_cycle.proofs.RangeLemmas.{found_range}
use Rattle.cx_eval_cycle.proofs.ranges.addresses_of.Goals as goal

pub returns-in-Some : goal.returns-in-Some
returns-in-Some c =
    let text : c.as_bytes.result.now ≡ name_text c.args.primitive.now.name = c.as_bytes.ensures.value ∙ c.name.ensures.value in
    let named : IsNamed c.in-Some.name (name_text c.args.primitive.now.name) = subst (IsNamed c.in-Some.name) text c.in-Some.ensures.some in
    record {
      value = λ inputs. c.addresses_by.ensures.value inputs
          ∙ ap (λ n. out_by n c.enable.result c.numbers.result.now inputs) c.dimensions.ensures
          ∙ ap (λ n. out_by (dimensions_of c.in-Some.name) n c.numbers.result.now inputs) c.enable.ensures
          ∙ ap (λ ns. out_by (dimensions_of c.in-Some.name) (enable_of c.in-Some.name) ns inputs) c.numbers.ensures.value
          ∙ found_range c.args.primitive.now c.in-Some.name inputs c.numbers.ensures.has_row named;
    }
