-- The lengths of groups by their names.
use Rattle.std.proofs.Common.{◌≡◌, ℕ, ◌<◌, List, length, Option, Some, None, is_some, refl, sym, ap, ◌∙◌, subst}
use Rattle.std.proofs.Math.Path.{fun_ext}
use Rattle.cx_text.proofs.ListLaws.{there_at, length-map}
use Rattle.cx_ast.specs.PlainTree.{PlainTree, PlainComponent, PlainGroup}
use Rattle.cx_meaning.specs.Instances.{Instance}
use Rattle.cx_numbering.specs.Names.{number_of, group_names, groups_in}
use Rattle.cx_names_scopes.specs.Numbered.{AreNumbersOf}
use Rattle.cx_names_scopes.specs.Scopes.{at_number}
use Rattle.cx_names_scopes.proofs.NameLemmas.{group_at, number_within}
use Rattle.cx_promotion.specs.Rewriting.{length_of, length_found, is_long}
use Rattle.cx_promote.specs.declared.by_name.Lengths.{Lengths}
use Rattle.cx_promote.specs.Lengths.{Begins, length_at, found_length, long_in}
use Rattle.cx_promote.proofs.ListLemmas.{begins_at}

module _ (tree : PlainTree) (part : PlainComponent) (i : Instance) where
  -- the length of a number that is one of the groups, or none
  by_number : (cycles : List (Option ℕ)) (groups : List PlainGroup) (o : Option ℕ) → Begins (length_of tree part i) cycles groups → ((n : ℕ) → o ≡ Some n → n < length groups)
      → length_at cycles o ≡ length_found tree part i (at_number o groups)
  by_number cycles groups None b within = refl
  by_number cycles groups (Some n) b within =
      let there = there_at groups n (within n refl) in
      ap found_length (begins_at (length_of tree part i) cycles groups n there.0 b there.1)
      ∙ sym (ap (length_found tree part i) there.1)

  pub length_by_name : (lengths : Lengths) (name : List ℕ) → Begins (length_of tree part i) lengths.cycles.now (groups_in part.wires) → AreNumbersOf (group_names part) lengths.numbers.now
      → long_in lengths name ≡ is_long tree part i name
  length_by_name lengths name b are =
      ap (λ o. is_some (length_at lengths.cycles.now o)) (are name)
      ∙ ap is_some (by_number lengths.cycles.now (groups_in part.wires) (number_of name (group_names part)) b within)
      ∙ ap (λ o. is_some (length_found tree part i o)) (sym (group_at name (groups_in part.wires)))
    where
      within : (n : ℕ) → number_of name (group_names part) ≡ Some n → n < length (groups_in part.wires)
      within n e = subst (λ k. n < k) (length-map (λ g. g.name) (groups_in part.wires)) (number_within name (group_names part) n e)

  pub long_by_name : (lengths : Lengths) → Begins (length_of tree part i) lengths.cycles.now (groups_in part.wires) → AreNumbersOf (group_names part) lengths.numbers.now
      → long_in lengths ≡ is_long tree part i
  long_by_name lengths b are = fun_ext (λ name. length_by_name lengths name b are)
