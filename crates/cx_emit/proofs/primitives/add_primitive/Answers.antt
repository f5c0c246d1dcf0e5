use Rattle.std.proofs.Common.{◌≡◌, [], ◌∷◌, ◌++◌, true, ap, sym, ◌∙◌, subst}
use Rattle.std.specs.BTreeSet as sorted
use Rattle.std.specs.Cmp.Lexicographic.{slice_cmp}
use Rattle.std.specs.Ordering.{nat_cmp}
use Rattle.std.proofs.lemmas.List.{map_push}
use Rattle.cx_vtree.specs.Plain.{PlainModule}
use Rattle.cx_vtree.specs.PlainParts.{plain_module, plain_modules}
use Rattle.cx_emit.specs.Found.{AreFound}
use Rattle.cx_emit.proofs.FoundLemmas.{found_more}
use Rattle.cx_emit.proofs.primitives.add_primitive.Goals as goal

pub returns-in_ok-insert-clause-found : goal.returns-in_ok-insert-clause-found
returns-in_ok-insert-clause-found c =
    let own : PlainModule = plain_module c.in_ok-module.field-0 in
    let all : plain_modules c.push.new.self.items ≡ plain_modules c.args.modules.now.items ++ own ∷ [] = ap plain_modules c.in_ok-push.ensures.items ∙ map_push plain_module c.args.modules.now.items c.in_ok-module.field-0 in
    let named : own.name ≡ c.in_ok-name.name = ap (λ (m : PlainModule). m.name) c.in_ok-module.ensures.value in
    subst (AreFound c.insert.new.self) (sym all)
    (found_more c.args.found.now c.insert.new.self (plain_modules c.args.modules.now.items) own c.requires.found
    (subst (λ name. sorted.Updates (slice_cmp nat_cmp) c.args.found.now c.insert.new.self name true) (sym named) c.in_ok-insert.ensures.updates))
