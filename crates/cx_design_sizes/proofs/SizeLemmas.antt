-- Sizes of statements that are joined.
use Rattle.std.proofs.Common.{◌≡◌, ◌+◌, List, ◌++◌, length, arith}
use Rattle.std.proofs.lemmas.List.{length-append}
use Rattle.cx_meaning.specs.Designs.{PlainComponent}
use Rattle.cx_rules.specs.Items.{Visited}
use Rattle.cx_rules.specs.StaticControl.{occurrences_of}
use Rattle.cx_design_sizes.specs.StatementSizes.{statements_size}
use Rattle.cx_rules.proofs.StaticControlLemmas.{occurrences_of-append}

pub statements_size_append : (part : PlainComponent) (xs ys : List Visited) → statements_size part (xs ++ ys) ≡ statements_size part xs + statements_size part ys
statements_size_append part xs ys =
    let a : length (xs ++ ys) ≡ length xs + length ys = length-append xs ys in
    let b : occurrences_of part (xs ++ ys) ≡ occurrences_of part xs + occurrences_of part ys = occurrences_of-append part xs ys in
    omega arith
