use Rattle.std.proofs.Common.{◌∙◌, sym, ap, refl, map}
use Rattle.cx_ast.specs.PlainGuards.{plain_guards}
use Rattle.cx_meaning.specs.Designs.{guards_of}
use Rattle.cx_numbering.specs.DesignOf.{guard_of}
use Rattle.cx_names.specs.Sites.{tree_at, part_at}
use Rattle.cx_names.proofs.GuardLemmas.{guards_listed, all_done}
use Rattle.cx_names.proofs.guards.+guard.Goals as goal

pub guards-returns : goal.guards-returns
guards-returns t c =
    let f = guard_of (tree_at c.args.site.now) (part_at c.args.site.now) in
    ap guards_of (all_done _ (λ xs. map f (plain_guards xs)) c.args.items.now c.loop-item.item-index _ refl c.loop-item-test.false c.loop-item.invariant)
    ∙ sym (guards_listed (tree_at c.args.site.now) (part_at c.args.site.now) (plain_guards c.args.items.now))
