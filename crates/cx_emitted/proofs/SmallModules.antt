-- The module of each primitive is small.
use Rattle.std.proofs.Common.{◌≡◌, ℕ, ◌+◌, ◌*◌, ◌≤◌, true, List, [], length, arith}
use Rattle.std.proofs.lemmas.List.{length-map}
use Rattle.cx_prim.specs.CellStates.{StateShape, NoState, RegisterOf, MemoryOf, SequentialMemoryOf, MultiplierOf, DividerOf, TimerOf}
use Rattle.cx_prim.specs.Table.{PrimitiveRow, HasRow, row_of}
use Rattle.cx_vtree.specs.InstanceTree.{declared_nets}
use Rattle.cx_vtree.specs.Layout.{is_name}
use Rattle.cx_vtree.specs.Plain.{PlainModule}
use Rattle.cx_vmods.specs.Parts.{made_of}
use Rattle.cx_vmods.specs.Modules.{port_of, pieces_of, module_of}
use Rattle.cx_net.specs.NetLimits.{nets_inside}
use Rattle.cx_emit.proofs.PrimitiveModules.{primitive_owes}
use Rattle.cx_emitted.specs.ByteLaws.{IsSmall, module_text}
use Rattle.cx_emitted.proofs.CellBytes.{primitive_narrow}
use Rattle.cx_emitted.proofs.ModuleBytes.{module_bytes, module_fits}
use Rattle.cx_emitted.proofs.PrimitiveBytes.{primitive_bytes, pieces_cost, pieces_few}

inside_few : (shape : StateShape) → nets_inside shape ≤ 17
inside_few NoState = omega arith
inside_few (RegisterOf width) = omega arith
inside_few (MemoryOf width count) = omega arith
inside_few (SequentialMemoryOf width count) = omega arith
inside_few (MultiplierOf width latency) = omega arith
inside_few (DividerOf width latency) = omega arith
inside_few (TimerOf length) = omega arith

pub primitive_small : (p : PrimitiveRow) (name : List ℕ) → HasRow p → is_name name ≡ true → IsSmall (module_of p name)
primitive_small p name has named =
    let m : PlainModule = module_of p name in
    let owed = primitive_owes [] name named p has in
    let few : length (row_of p).ports ≤ 9 = owed.few in
    let declared : length (declared_nets (made_of (pieces_of p.name p.numbers)).decls) ≤ nets_inside (row_of p).shape = owed.nets in
    let inside : nets_inside (row_of p).shape ≤ 17 = inside_few (row_of p).shape in
    let ports : length m.ports ≡ 2 + length (row_of p).ports = (let long = length-map (row_of p).ports port_of in omega (arith, long)) in
    let own : module_bytes m ≤ length name + (163 + (40 * length (row_of p).ports + pieces_cost (pieces_of p.name p.numbers))) = primitive_bytes p name in
    let pieces : pieces_cost (pieces_of p.name p.numbers) ≤ 2290 = pieces_few p.name p.numbers in
    let text : length (module_text m) ≤ module_bytes m = module_fits m (primitive_narrow p name named has) in
    record { nets = omega (arith, few, declared, inside, ports); bytes = omega (arith, few, own, pieces, text) }
