use Rattle.std.proofs.Common.{◌≡◌, arith, length, map, take, refl, ap, sym}
use Rattle.std.proofs.lemmas.Grind.{common_steps}
use Rattle.cx_vtree.specs.PlainParts.{plain_instance, plain_module, plain_modules}
use Rattle.cx_velab.specs.Rows.{placed_of, plain_pending}
use Rattle.cx_velab.proofs.Listing.{step-none, less-none, step-found, less-found, pending-by_parts}
use Rattle.cx_velab.proofs.tree.step.Goals as goal

pub returns-in_ok-push-3-clause-tree : goal.returns-in_ok-push-3-clause-tree
returns-in_ok-push-3-clause-tree c =
    let held : c.len-holder.result ≡ length c.args.rows.now.items = grind (arith, common_steps) in
    step-found placed_of (plain_pending (plain_modules c.args.modules.now)) _ _ _ _ _ _ (plain_instance c.in-Some.instance.now) (map plain_instance c.in-Some.rest.now) _ c.in_ok-push.ensures.items refl
    (ap (map plain_instance) c.in-Some.ensures.cases.0) _ _ _ _ (take c.in-Some-find.before (plain_modules c.args.modules.now)) (plain_module c.in-Some-find.module.now)
    c.in_ok-push-2.ensures.items c.in_ok-push-3.ensures.items refl
    (pending-by_parts (take c.in-Some-find.before (plain_modules c.args.modules.now)) (take c.in-Some-find.before (plain_modules c.args.modules.now)) (map plain_instance c.deref.result.now) (map plain_instance c.in-Some-find.module.now.instances.items)
    c.len-holder.result (length c.args.rows.now.items) refl (ap (map plain_instance) c.deref.ensures.value) held)
    (sym c.in-Some-find.ensures)

pub returns-in_ok-push-3-clause-less : goal.returns-in_ok-push-3-clause-less
returns-in_ok-push-3-clause-less c =
    let held : c.len-holder.result ≡ length c.args.rows.now.items = grind (arith, common_steps) in
    less-found placed_of (plain_pending (plain_modules c.args.modules.now)) c.args.rows.now.items _ _ _ _ _ (plain_instance c.in-Some.instance.now) (map plain_instance c.in-Some.rest.now) _ c.in_ok-push.ensures.items refl
    (ap (map plain_instance) c.in-Some.ensures.cases.0) _ _ _ _ (take c.in-Some-find.before (plain_modules c.args.modules.now)) (plain_module c.in-Some-find.module.now)
    c.in_ok-push-2.ensures.items c.in_ok-push-3.ensures.items refl
    (pending-by_parts (take c.in-Some-find.before (plain_modules c.args.modules.now)) (take c.in-Some-find.before (plain_modules c.args.modules.now)) (map plain_instance c.deref.result.now) (map plain_instance c.in-Some-find.module.now.instances.items)
    c.len-holder.result (length c.args.rows.now.items) refl (ap (map plain_instance) c.deref.ensures.value) held)
    (sym c.in-Some-find.ensures)

pub returns-in_default-find-clause-tree : goal.returns-in_default-find-clause-tree
returns-in_default-find-clause-tree c =
    step-none placed_of (plain_pending (plain_modules c.args.modules.now)) _ _ _ _ _ _ (plain_instance c.in-Some.instance.now) (map plain_instance c.in-Some.rest.now) _ c.in_ok-push.ensures.items refl
    (ap (map plain_instance) c.in-Some.ensures.cases.0) (sym c.in_default-find.ensures)

pub returns-in_default-find-clause-less : goal.returns-in_default-find-clause-less
returns-in_default-find-clause-less c =
    less-none placed_of (plain_pending (plain_modules c.args.modules.now)) c.args.rows.now.items _ _ _ _ _ (plain_instance c.in-Some.instance.now) (map plain_instance c.in-Some.rest.now) _ c.in_ok-push.ensures.items refl
    (ap (map plain_instance) c.in-Some.ensures.cases.0) (sym c.in_default-find.ensures)
