use Rattle.std.proofs.Common.{◌-◌, ◌^◌, ap, ◌∙◌, get_or, arith}
use Rattle.cx_vsim.specs.declared.answers.SimAnswer.TheVariants as answers
use Rattle.cx_vsim.proofs.Located.{inside, within_places, not_below, place_is, place_small}
use Rattle.cx_vsim.proofs.telling.net_of.Goals as goal

pub overflow_cast-result : goal.overflow_cast-result
overflow_cast-result c =
    let t = c.requires.there in
    let found = c.instance_of-instance.ensures t.tree t.instance t.place t.all t.net in
    let lt = inside c.args.places.now t.tree c.args.net t.instance t.place c.instance_of-instance.result t.all t.net found in
    let few = t.few in
    omega (arith, lt, few)

pub offset_bounds-places-instance : goal.offset_bounds-places-instance
offset_bounds-places-instance c =
    let t = c.requires.there in
    let found = c.instance_of-instance.ensures t.tree t.instance t.place t.all t.net in
    let lt = inside c.args.places.now t.tree c.args.net t.instance t.place c.instance_of-instance.result t.all t.net found in
    let few = t.few in
    omega (arith, lt, few)

pub bounds-places-instance : goal.bounds-places-instance
bounds-places-instance c =
    let t = c.requires.there in
    within_places c.args.places.now t.tree c.args.net t.instance t.place c.instance_of-instance.result t.all t.net (c.instance_of-instance.ensures t.tree t.instance t.place t.all t.net)

pub overflow_sub-result : goal.overflow_sub-result
overflow_sub-result c =
    let t = c.requires.there in
    not_below c.args.places.now t.tree c.args.net t.instance t.place c.instance_of-instance.result t.all t.net (c.instance_of-instance.ensures t.tree t.instance t.place t.all t.net) (record { nets = 0; arrays = 0 })

pub overflow_cast-result-3 : goal.overflow_cast-result-3
overflow_cast-result-3 c =
    let t = c.requires.there in
    let found = c.instance_of-instance.ensures t.tree t.instance t.place t.all t.net in
    let e = place_is c.args.places.now t.tree c.args.net t.instance t.place c.instance_of-instance.result t.all t.net found (record { nets = 0; arrays = 0 }) in
    let small = place_small c.args.places.now t.tree c.args.net t.instance t.place c.instance_of-instance.result t.all t.net found (2 ^ 32) t.small in
    omega (arith, e, small)

pub returns : goal.returns
returns c = λ tree i k all is.
    let found = c.instance_of-instance.ensures tree i k all is in
    let e = place_is c.args.places.now tree c.args.net i k c.instance_of-instance.result all is found (record { nets = 0; arrays = 0 }) in
    ap (λ x. answers.Loop x (c.args.net - (get_or c.args.places.now c.instance_of-instance.result (record { nets = 0; arrays = 0 })).nets)) found ∙ ap (answers.Loop i) e
