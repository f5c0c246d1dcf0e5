use Rattle.std.proofs.Common.{map, sym, ◌∙◌, arith}
use Rattle.std.proofs.lemmas.Grind.{common_steps}
use Rattle.cx_vtree.specs.PlainParts.{plain_external}
use Rattle.cx_velab.specs.Rows.{placed_of}
use Rattle.cx_vsim.proofs.Naming.{instance_placed, array_place}
use Rattle.cx_vsim.proofs.arrays.external_array.Goals as goal

pub offset_bounds-places-instance : goal.offset_bounds-places-instance
offset_bounds-places-instance c =
    let inside = instance_placed (map placed_of c.args.instances.now.rows.now) (plain_external c.args.external.now) c.requires.there c.in-Some.instance (sym c.named.ensures ∙ c.in-Some.is) c.args.places.now c.requires.places in
    grind (arith, common_steps)

pub bounds-places-instance : goal.bounds-places-instance
bounds-places-instance c = instance_placed (map placed_of c.args.instances.now.rows.now) (plain_external c.args.external.now) c.requires.there c.in-Some.instance (sym c.named.ensures ∙ c.in-Some.is) c.args.places.now c.requires.places

pub returns : goal.returns
returns c =
    array_place (map placed_of c.args.instances.now.rows.now) (plain_external c.args.external.now) c.requires.there c.in-Some.instance (sym c.named.ensures ∙ c.in-Some.is) c.args.places.now (record { nets = 0; arrays = 0 }) c.requires.places
