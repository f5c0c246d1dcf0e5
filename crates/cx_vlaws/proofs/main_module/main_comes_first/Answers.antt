use Rattle.std.proofs.Common.{refl, ap, codes}
use Rattle.std.proofs.lemmas.Bool.{or_parts, not-false}
use Rattle.cx_vtree.specs.InstanceTree.{same_name, main_instance}
use Rattle.cx_vtree.specs.Sound.{Faults}
use Rattle.cx_vlaws.proofs.Trees.{placed}
use Rattle.cx_vlaws.proofs.Mains.{main_at, main-ports}
use Rattle.cx_vtree.proofs.InstanceTreeLemmas.{same_is}
use Rattle.cx_vlaws.proofs.main_module.main_comes_first.Goals as goal

pub returns : goal.returns
returns c source sound =
    let r = main_at source sound in
    let name = (or_parts _ _ (ap (λ (f : Faults). f.name) r.kept.head)).1 in
    (placed main_instance 0 r.m, r.first, same_is r.m.name (codes "main") (not-false (same_name r.m.name (codes "main")) name), main-ports r.m r.before r.kept, refl, refl)
