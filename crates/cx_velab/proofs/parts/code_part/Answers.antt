use Rattle.std.proofs.Common.{◌≡◌, length, sym, subst, arith}
use Rattle.cx_vtree.specs.PlainParts.{plain_module}
use Rattle.cx_vnets.specs.CodeLaws.{net_numbering, array_numbering}
use Rattle.cx_vnets.specs.Numberings.{nets_by, arrays_by}
use Rattle.cx_velab.specs.Coded.{module_exprs, AssignsHaveNumbers, EdgeHasNumbers}
use Rattle.cx_velab.specs.Parts.{HasCodes}
use Rattle.cx_velab.proofs.PartLemmas.{codes_at, codes_within, nets_same, arrays_same}
use Rattle.cx_velab.proofs.parts.code_part.Goals as goal

pub push_module-requires : goal.push_module-requires
push_module-requires c =
    let m = plain_module c.args.part.now in
    let nets = nets_same (nets_by c.in_ok-numbers.numbers) _ c.args.part.now.ports.items _ c.args.part.now.decls.items c.in_ok-numbers.ensures.nets c.deref.ensures.value c.deref-2.ensures.value in
    let arrays = arrays_same (arrays_by c.in_ok-numbers.numbers) _ c.args.part.now.decls.items c.in_ok-numbers.ensures.arrays c.deref-2.ensures.value in
    record {
      assigns = subst (λ f. AssignsHaveNumbers f (arrays_by c.in_ok-numbers.numbers) m.assigns) (sym nets) (subst (λ g. AssignsHaveNumbers (net_numbering m.ports m.decls) g m.assigns) (sym arrays) c.requires.assigns);
      edge = subst (λ f. EdgeHasNumbers f (arrays_by c.in_ok-numbers.numbers) m.edge) (sym nets) (subst (λ g. EdgeHasNumbers (net_numbering m.ports m.decls) g m.edge) (sym arrays) c.requires.edge);
    }

pub returns-clause-part : goal.returns-clause-part
returns-clause-part c =
    let m = plain_module c.args.part.now in
    let nets = nets_same (nets_by c.in_ok-numbers.numbers) _ c.args.part.now.ports.items _ c.args.part.now.decls.items c.in_ok-numbers.ensures.nets c.deref.ensures.value c.deref-2.ensures.value in
    let arrays = arrays_same (arrays_by c.in_ok-numbers.numbers) _ c.args.part.now.decls.items c.in_ok-numbers.ensures.arrays c.deref-2.ensures.value in
    let first : c.in_ok-first.first ≡ length c.args.codes.now.items = omega (arith, c.in_ok-first.ensures, c.len.ensures, c.args.codes.now.ok.0) in
    let coded = codes_at (nets_by c.in_ok-numbers.numbers) (arrays_by c.in_ok-numbers.numbers) c.args.codes.now.items c.push_module.new.codes.items c.in_ok-first.first (module_exprs m) first c.in_ok-push_module.ensures in
    record {
      nets = nets;
      arrays = arrays;
      coded = subst (λ f. HasCodes f (array_numbering m.decls) c.push_module.new.codes.items c.in_ok-first.first (module_exprs m)) nets
          (subst (λ g. HasCodes (nets_by c.in_ok-numbers.numbers) g c.push_module.new.codes.items c.in_ok-first.first (module_exprs m)) arrays coded);
      within = codes_within (nets_by c.in_ok-numbers.numbers) (arrays_by c.in_ok-numbers.numbers) c.args.codes.now.items c.push_module.new.codes.items c.in_ok-first.first (module_exprs m) first c.in_ok-push_module.ensures;
    }
