use Rattle.std.proofs.Common.{◌≡◌, ℕ, List, map, length, Some, ap, sym, ◌∙◌, subst, arith}
use Rattle.cx_vtree.specs.NameNumbers.{number_by}
use Rattle.cx_velab.specs.Rows.{placed_of}
use Rattle.cx_velab.specs.Parts.{HasPart}
use Rattle.cx_velab.proofs.PartLemmas.{has_kept, has_new, found_more}
use Rattle.cx_text.proofs.ListLaws.{item_at}
use Rattle.cx_velab.proofs.parts.part_number.Goals as goal

pub returns-in-Some-clause-number : goal.returns-in-Some-clause-number
returns-in-Some-clause-number c =
    let here = item_at placed_of c.args.rows.now c.args.i c.index-rows-i.result c.requires.within c.index-rows-i.is in
    let name : List ℕ = (placed_of c.index-rows-i.result).part.name in
    let is : number_by c.args.found.now name ≡ Some c.in-Some.number.now = sym c.in-Some.ensures.value in
    let h = c.requires.found name c.in-Some.number.now is in
    λ p at.
    let row : placed_of c.index-rows-i.result ≡ p = cc in
    let same = c.requires.named h.0 c.args.i h.1 p h.2 at (h.3 ∙ ap (λ x. x.part.name) row) in
    subst (λ m. HasPart c.args.list.now.items c.args.codes.now.items c.in-Some.number.now m) same h.4

pub code_part-requires : goal.code_part-requires
code_part-requires c =
    let here = item_at placed_of c.args.rows.now c.args.i c.index-rows-i.result c.requires.within c.index-rows-i.is in
    c.requires.can c.args.i (placed_of c.index-rows-i.result) here

pub returns-clause-number : goal.returns-clause-number
returns-clause-number c =
    let here = item_at placed_of c.args.rows.now c.args.i c.index-rows-i.result c.requires.within c.index-rows-i.is in
    let number : c.len-number.result ≡ length c.args.list.now.items = omega (arith, c.len-number.ensures, c.args.list.now.ok.0) in
    λ p at.
    let row : placed_of c.index-rows-i.result ≡ p = cc in
    subst (λ x. HasPart c.push.new.self.items c.code_part.new.codes.items c.len-number.result x.part) row
    (has_new c.args.list.now.items c.push.new.self.items c.in_ok-made.made c.code_part.new.codes.items c.len-number.result (placed_of c.index-rows-i.result).part c.in_ok-push.ensures.items number c.in_ok-made.ensures.part)

pub returns-clause-kept : goal.returns-clause-kept
returns-clause-kept c =
    has_kept c.args.list.now.items c.push.new.self.items c.in_ok-made.made c.args.codes.now.items c.code_part.new.codes.items c.in_ok-push.ensures.items c.in_ok-made.ensures.kept

pub returns-clause-found : goal.returns-clause-found
returns-clause-found c =
    let here = item_at placed_of c.args.rows.now c.args.i c.index-rows-i.result c.requires.within c.index-rows-i.is in
    let number : c.len-number.result ≡ length c.args.list.now.items = omega (arith, c.len-number.ensures, c.args.list.now.ok.0) in
    found_more (map placed_of c.args.rows.now) c.args.found.now c.insert.new.self c.args.list.now.items c.push.new.self.items c.args.codes.now.items c.code_part.new.codes.items
    c.len-number.result c.args.i (placed_of c.index-rows-i.result) c.requires.found
    (has_kept c.args.list.now.items c.push.new.self.items c.in_ok-made.made c.args.codes.now.items c.code_part.new.codes.items c.in_ok-push.ensures.items c.in_ok-made.ensures.kept)
    c.in_ok-insert.ensures.updates.0 here
    (has_new c.args.list.now.items c.push.new.self.items c.in_ok-made.made c.code_part.new.codes.items c.len-number.result (placed_of c.index-rows-i.result).part c.in_ok-push.ensures.items number c.in_ok-made.ensures.part)
