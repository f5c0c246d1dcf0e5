use Rattle.std.proofs.Common.{◌≡◌, ℕ, List, [], ◌∷◌, ◌++◌, map, codes, ap, ◌∙◌}
use Rattle.std.proofs.lemmas.List.{map_push}
use Rattle.cx_prim.specs.PrimitiveNames.{IsNamed}
use Rattle.cx_prim.specs.Table.{PrimitiveRow}
use Rattle.cx_design.specs.PlainForms.{plain_cell}
use Rattle.cx_meaning.specs.Designs.{PlainCell}
use Rattle.cx_net.specs.Nets.{PlainNetComponent}
use Rattle.cx_net.specs.PlainNets.{plain_net_component, plain_net_drivers}
use Rattle.cx_compile_tests.specs.HandNet.{hand_cell, hand_part}
use Rattle.cx_compile_tests.proofs.HandNetLemmas.{named_register}
use Rattle.cx_compile_tests.proofs.HandNetParts.{a_cell, a_part, cell_is, found, part_is}
use Rattle.cx_compile_tests.proofs.nets.components.Goals as goal

pub returns : goal.returns
returns c =
    let row : PrimitiveRow = c.in_ok-ok_or.field-0 in
    let named = named_register row.name (found (λ (p : PrimitiveRow). IsNamed p.name (codes "std_reg")) c.find.result c.ok.result row c.find.ensures.ok c.ok.ensures.value c.in_ok-ok_or.ensures.ok_part) in
    let numbers = found (λ (p : PrimitiveRow). p.numbers ≡ 8 ∷ []) c.find.result c.ok.result row c.find.ensures.value c.ok.ensures.value c.in_ok-ok_or.ensures.ok_part in
    let name : List ℕ = c.in_ok-from_bytes.field-0 in
    let cells : map plain_cell c.push.new.self.items ≡ hand_cell ∷ [] =
    ap (map plain_cell) c.in_ok-push.ensures.items ∙ map_push plain_cell _ _ ∙ ap (λ (a : List PlainCell). a ++ a_cell name row ∷ []) (ap (map plain_cell) c.new-cells.ensures.items)
    ∙ ap (λ (x : PlainCell). x ∷ []) (cell_is name row c.in_ok-from_bytes.ensures.value named numbers) in
    let part : PlainNetComponent = a_part c.in_ok-from_bytes-2.field-0 c.new.result.items c.new-2.result.items (map plain_cell c.push.new.self.items) c.in_ok-vec.field-0.items c.in_ok-vec-2.field-0.items (plain_net_drivers c.in_ok-drivers.field-0.items) in
    let is : part ≡ hand_part =
    part_is _ _ _ _ _ _ _ c.in_ok-from_bytes-2.ensures.value c.new.ensures.items c.new-2.ensures.items cells c.in_ok-vec.ensures.items c.in_ok-vec-2.ensures.items c.in_ok-drivers.ensures in
    ap (map plain_net_component) c.in_ok-push-2.ensures.items ∙ map_push plain_net_component _ _ ∙ ap (λ (a : List PlainNetComponent). a ++ part ∷ []) (ap (map plain_net_component) c.new-components.ensures.items)
    ∙ ap (λ (x : PlainNetComponent). x ∷ []) is
