-- From the pieces of a tree to its text.
use Rattle.std.proofs.Common.{◌≡◌, ℕ, List, [], ◌++◌, ◌∙◌, ap, subst}
use Rattle.cx_ast.specs.PlainTree.{PlainTree}
use Rattle.cx_print.specs.Pieces.{Pieces, add_tree, pieces_of, tokens_of}
use Rattle.cx_print.specs.Layout.{AreWritable, AppendsLayout, AppendsTokens}
use Rattle.cx_print.proofs.GapLemmas.{pieces_of_loose}
use Rattle.cx_print.proofs.LayoutLemmas.{layout-tokens}

-- what is appended has the tree's tokens
pub tree_appended : (t : PlainTree) (none ps shown : Pieces) (empty text copied old new : List ℕ) → AreWritable (tokens_of t)
    → none ≡ [] → ps ≡ add_tree t none → shown ≡ ps → empty ≡ [] → AppendsLayout shown empty text → copied ≡ text → new ≡ old ++ copied → AppendsTokens (tokens_of t) old new
tree_appended t none ps shown empty text copied old new writable no_pieces added lent no_text laid copy appended =
    let all : shown ≡ pieces_of t = lent ∙ added ∙ ap (add_tree t) no_pieces in
    let from_start : AppendsLayout (pieces_of t) [] text = subst (λ qs. AppendsLayout qs [] text) all (subst (λ old_text. AppendsLayout shown old_text text) no_text laid) in
    layout-tokens (pieces_of t) old text new (pieces_of_loose t).each writable from_start (appended ∙ ap (λ t. old ++ t) copy)
