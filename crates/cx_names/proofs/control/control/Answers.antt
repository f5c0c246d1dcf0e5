use Rattle.std.proofs.Common.{◌≡◌, false, ◌++◌, ◌∙◌, sym, ap, map, length, option_map}
use Rattle.cx_ast.specs.PlainStatements.{plain_block}
use Rattle.cx_design.specs.PlainForms.{plain_group, plain_invoke}
use Rattle.cx_numbering.specs.DesignOf.{Next, first, block_of, control_of, invokes_of, invoke_groups, static_invokes, control_invokes}
use Rattle.cx_names.specs.Sites.{tree_at, part_at}
use Rattle.cx_names.specs.Added.{Made, made_of, next_of}
use Rattle.cx_names.proofs.ControlLemmas.{added_groups, added_invokes, first_next}
use Rattle.cx_names.proofs.control.control.Goals as goal

pub returns-in_ok-whole-in-Some-clause-value : goal.returns-in_ok-whole-in-Some-clause-value
returns-in_ok-whole-in-Some-clause-value c =
    let tree = tree_at c.args.site.now in
    let part = part_at c.args.site.now in
    c.in_ok-whole-in-Some.ensures.value
    ∙ ap (λ n. block_of tree part false n (plain_block c.in-Some.item)) (first_next tree part (made_of c.args.draft.now) c.requires.groups c.requires.invokes)
    ∙ ap (λ o. control_of tree part (option_map plain_block o)) (sym c.in-Some.is)

pub returns-in_ok-whole-in-Some-clause-groups : goal.returns-in_ok-whole-in-Some-clause-groups
returns-in_ok-whole-in-Some-clause-groups c =
    let tree = tree_at c.args.site.now in
    let part = part_at c.args.site.now in
    let made = made_of c.args.draft.now in
    ap (λ (m : Made). m.groups) c.in_ok-whole-in-Some.ensures.made
    ∙ added_groups tree part made (invokes_of (plain_block c.in-Some.item))
    ∙ ap (λ n. made.groups ++ invoke_groups tree part n (invokes_of (plain_block c.in-Some.item))) (first_next tree part made c.requires.groups c.requires.invokes)
    ∙ ap (λ o. made.groups ++ invoke_groups tree part (first tree part) (control_invokes tree part (option_map plain_block o))) (sym c.in-Some.is)

pub returns-in_ok-whole-in-Some-clause-invokes : goal.returns-in_ok-whole-in-Some-clause-invokes
returns-in_ok-whole-in-Some-clause-invokes c =
    let tree = tree_at c.args.site.now in
    let part = part_at c.args.site.now in
    let made = made_of c.args.draft.now in
    ap (λ (m : Made). m.invokes) c.in_ok-whole-in-Some.ensures.made
    ∙ added_invokes tree part made (invokes_of (plain_block c.in-Some.item))
    ∙ ap (λ vs. vs ++ static_invokes tree part (next_of made) (invokes_of (plain_block c.in-Some.item))) c.requires.invokes
    ∙ ap (λ n. static_invokes tree part n (invokes_of (plain_block c.in-Some.item))) (first_next tree part made c.requires.groups c.requires.invokes)
    ∙ ap (λ o. static_invokes tree part (first tree part) (control_invokes tree part (option_map plain_block o))) (sym c.in-Some.is)
