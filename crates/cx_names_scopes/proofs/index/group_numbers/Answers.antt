use Rattle.cx_names_scopes.proofs.NameLemmas.{numbers_start}
use Rattle.cx_names_scopes.proofs.index.group_numbers.Goals as goal

pub loop-wire-init : goal.loop-wire-init
loop-wire-init c = record {
  numbered = λ n. rw c.new-words.ensures.len (numbers_start _ n _ (c.new-numbers.ensures n));
  worded = rw c.new-words.ensures.items;
}
