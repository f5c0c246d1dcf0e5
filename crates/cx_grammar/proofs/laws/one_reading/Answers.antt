use Rattle.cx_grammar.proofs.OneTree.{one_tree}
use Rattle.cx_grammar.proofs.OneReading.{some_answer, one_unexpected, one_deep, tree_expected, tree_within, not_both}
use Rattle.cx_grammar.proofs.laws.one_reading.Goals as goal

pub returns : goal.returns
returns c = record {
  some = some_answer;
  tree = one_tree;
  unexpected = one_unexpected;
  deep = one_deep;
  tree_or_unexpected = tree_expected;
  tree_or_deep = tree_within;
  unexpected_or_deep = not_both;
}
