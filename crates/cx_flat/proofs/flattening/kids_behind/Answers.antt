use Rattle.std.proofs.Common.{◌≡◌, ◌<◌, Some, get_or, length, sym, ap, ◌∙◌, subst, arith}
use Rattle.std.proofs.lemmas.List.{length-map}
use Rattle.std.specs.Prelude.{is_some}
use Rattle.std.specs.Vec.{vec_len}
use Rattle.std.specs.List.{slice_get}
use Rattle.std.proofs.lemmas.Option.{slice_get-get_or}
use Rattle.cx_text.proofs.MemberLaws.{in_at}
use Rattle.cx_meaning.specs.Designs.{component_at}
use Rattle.cx_design.proofs.DesignFacts.{component_is}
use Rattle.cx_design.specs.PlainForms.{plain_component}
use Rattle.cx_design.specs.PlainDesigns.{plain_design}
use Rattle.cx_flattening.specs.Flattened.{flat_component, kid_if}
use Rattle.cx_flat.specs.Tables.{kids_of, plain_table}
use Rattle.cx_flat.proofs.TableLemmas.{kids_turn}
use Rattle.cx_flat.proofs.flattening.kids_behind.Goals as goal

pub bounds-components-number : goal.bounds-components-number
bounds-components-number c =
    let d = plain_design c.args.design.now in
    let k = get_or c.args.order.now c.args.place 0 in
    let at : slice_get c.args.order.now c.args.place ≡ Some k = slice_get-get_or c.args.order.now c.args.place 0 c.requires.there in
    subst (λ n. k < n)
    (length-map c.args.design.now.components.items plain_component ∙ sym (ap length c.as_slice-components.ensures.value)) (c.requires.first.there k (in_at c.args.order.now c.args.place k at))

pub index_mut-requires : goal.index_mut-requires
index_mut-requires c =
    let d = plain_design c.args.design.now in
    let k = get_or c.args.order.now c.args.place 0 in
    let at : slice_get c.args.order.now c.args.place ≡ Some k = slice_get-get_or c.args.order.now c.args.place 0 c.requires.there in
    let size : vec_len c.args.before ≡ length c.args.before.items = omega (arith, c.args.before.ok.0) in
    subst (λ n. k < n) (sym c.requires.kids.sized ∙ sym size) (c.requires.first.there k (in_at c.args.order.now c.args.place k at))

pub returns : goal.returns
returns c =
    let d = plain_design c.args.design.now in
    let k = get_or c.args.order.now c.args.place 0 in
    let at : slice_get c.args.order.now c.args.place ≡ Some k = slice_get-get_or c.args.order.now c.args.place 0 c.requires.there in
    let there : k < length d.components = c.requires.first.there k (in_at c.args.order.now c.args.place k at) in
    let part = c.index-components-number.result in
    let own : plain_component part ≡ component_at d k =
    component_is c.args.design.now.components.items k part
    (subst (λ n. k < n) (length-map c.args.design.now.components.items plain_component) there)
    (c.index-components-number.is ∙ ap (λ xs. get_or xs k part) c.as_slice-components.ensures.value) in
    record {
      value = kids_turn d c.args.order.now c.args.lasts.now c.requires.first c.requires.lasts c.args.place k c.args.before.items c.without_done.result.items (plain_component part) c.in_ok-kid.kid c.requires.kids at own
          (c.in_ok-kid.ensures.value ∙ ap (λ ts. kid_if (is_some (plain_component part).latency) (flat_component (kids_of (plain_table ts) (plain_component part).cells) (plain_component part))) c.deref.ensures.value)
          c.without_done.ensures.sized c.without_done.ensures.kept;
    }
