use Rattle.std.proofs.Common.{rules, ◌≡◌, true, option_map, ap, ◌∙◌}
use Rattle.cx_ast.specs.PlainStatements.{plain_block}
use Rattle.cx_promotion.specs.Rewriting.{BELOW_CONTROL, is_long, promote_block}
use Rattle.cx_promote.specs.Sites.{instance_at, part_at, tree_at}
use Rattle.cx_promote.proofs.NameLemmas.{long_by_name}
use Rattle.cx_promote.proofs.components.promoted_component.Goals as goal

pub returns : goal.returns
returns c =
    let tree = tree_at c.args.site in
    let part = part_at c.args.site in
    let i = instance_at c.args.site in
    let control : option_map plain_block c.in_ok-control.control ≡ option_map (promote_block (is_long tree part i) BELOW_CONTROL true) part.control =
    c.in_ok-control.ensures.value
    ∙ ap (λ long. option_map (promote_block long BELOW_CONTROL true) part.control) (long_by_name tree part i c.args.lengths c.requires.lengths c.requires.numbers) in
    search (rules, control)
