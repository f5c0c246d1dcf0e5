use Rattle.std.proofs.Common.{◌≡◌, ap, ◌∙◌, subst}
use Rattle.cx_prim.specs.PrimitiveNames.{IsNamed, name_text}
use Rattle.cx_design_sizes.specs.Dimensions.{dimensions_of, memory_words}
use Rattle.cx_design_sizes.proofs.WordLemmas.{found_words}
use Rattle.cx_design_sizes.proofs.words.memory_words.Goals as goal

pub returns-in-Some : goal.returns-in-Some
returns-in-Some c =
    let text : c.as_bytes.result.now ≡ name_text c.args.primitive.now.name = c.as_bytes.ensures.value ∙ c.name.ensures.value in
    let named : IsNamed c.in-Some.name (name_text c.args.primitive.now.name) = subst (IsNamed c.in-Some.name) text c.in-Some.ensures.some in
    c.words_in.ensures ∙ ap (λ n. memory_words n c.numbers.result.now) c.dimensions.ensures ∙ ap (memory_words (dimensions_of c.in-Some.name)) c.numbers.ensures.value
    ∙ found_words c.args.primitive.now c.in-Some.name c.numbers.ensures.has_row named
