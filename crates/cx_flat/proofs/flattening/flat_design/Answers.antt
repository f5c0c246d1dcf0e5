use Rattle.std.proofs.Common.{◌≡◌, ◌∙◌, ◌<◌, get_or, length, map, ap, sym, subst}
use Rattle.cx_design.proofs.DesignFacts.{main_there}
use Rattle.cx_design.specs.PlainForms.{plain_component, plain_parts}
use Rattle.cx_design.specs.PlainDesigns.{plain_design}
use Rattle.cx_flattening.specs.FlatDesign.{flat_design, reached_below}
use Rattle.cx_flat.specs.Flats.{AreKids, numbers_of}
use Rattle.cx_flat.specs.Tables.{plain_table}
use Rattle.cx_flat.proofs.NumberLemmas.{number_is, numbers_length}
use Rattle.cx_flat.proofs.MarkLemmas.{marks_length}
use Rattle.cx_flat.proofs.DesignLemmas.{made_is, made_keeps}
use Rattle.cx_flat.proofs.flattening.flat_design.Goals as goal

pub kept_components-requires-clause-kids : goal.kept_components-requires-clause-kids
kept_components-requires-clause-kids c =
    subst (λ ts. AreKids (plain_design c.args.design.now) (plain_table ts)) (sym c.deref-2.ensures.value) c.in_ok-kids.ensures.value

pub new_number-main-requires : goal.new_number-main-requires
new_number-main-requires c =
    let d = plain_design c.args.design.now in
    let marks = c.in_ok-marks.marks.items in
    let size : length c.deref-5.result.now ≡ length d.components =
    ap length (c.deref-5.ensures.value ∙ c.in_ok-numbers.ensures.value ∙ ap (numbers_of 0) c.deref.ensures.value) ∙ numbers_length 0 marks ∙ marks_length d marks c.in_ok-marks.ensures.value in
    record { there = subst (λ n. c.args.design.now.main < n) (sym size) (main_there d c.args.design.now.keeps) }

pub returns : goal.returns
returns c =
    let d = plain_design c.args.design.now in
    let marks = c.in_ok-marks.marks.items in
    let main : c.new_number-main.result ≡ reached_below d d.main =
    c.new_number-main.ensures.value ∙ ap (λ ns. get_or ns d.main 0) (c.deref-5.ensures.value ∙ c.in_ok-numbers.ensures.value ∙ ap (numbers_of 0) c.deref.ensures.value)
    ∙ number_is d marks (length d.components) d.main c.in_ok-marks.ensures.value (main_there d c.args.design.now.keeps) in
    record { design = made_is d (map plain_component c.in_ok-components.components.items) c.new_number-main.result c.in_ok-components.ensures.value main }

pub invariant_of-result : goal.invariant_of-result
invariant_of-result c =
    let d = plain_design c.args.design.now in
    let marks = c.in_ok-marks.marks.items in
    let main : c.new_number-main.result ≡ reached_below d d.main =
    c.new_number-main.ensures.value ∙ ap (λ ns. get_or ns d.main 0) (c.deref-5.ensures.value ∙ c.in_ok-numbers.ensures.value ∙ ap (numbers_of 0) c.deref.ensures.value)
    ∙ number_is d marks (length d.components) d.main c.in_ok-marks.ensures.value (main_there d c.args.design.now.keeps) in
    let same : plain_parts c.in_ok-components.components.items c.new_number-main.result ≡ flat_design d =
    made_is d (map plain_component c.in_ok-components.components.items) c.new_number-main.result c.in_ok-components.ensures.value main in
    record {
      keeps = made_keeps d c.args.design.now.keeps (λ rules. c.flat_designs_are_designs.ensures.design d rules c.requires.accepted c.requires.undone c.requires.plain)
          (plain_parts c.in_ok-components.components.items c.new_number-main.result) same;
    }
