use Rattle.std.proofs.Common.{◌≡◌, ◌++◌, ◌∷◌, [], ◌*◌, ◌+◌, ◌-◌, ◌<◌, ◌^◌, length, map, All}
use Rattle.cx_text.specs.Loading.{word_count}
use Rattle.cx_data.specs.Dump.{number_text, joined, pieces, nested_text}
use Rattle.cx_data.proofs.lists.+nested.Given as goal

abbrev pub decreases-push_list : goal.decreases-push_list
decreases-push_list l = 2 * length l.inner.now + 1

abbrev pub decreases-push_nested : goal.decreases-push_nested
decreases-push_nested l = 2 * length l.sizes.now

abbrev pub invariant-push_list-loop-index : goal.invariant-push_list-loop-index
invariant-push_list-loop-index l = record {
  part : 0 < l.count → l.part_len ≡ word_count l.inner;
  room : length l.rest ≡ (l.count - l.index) * word_count l.inner;
  in_range : All (λ word. word < 2 ^ l.format.width) l.rest;
  text : l.out.items ++ (joined l.index (map (nested_text (number_text l.format.signed l.format.width) l.inner) (pieces (l.count - l.index) (word_count l.inner) l.rest)) ++ 93 ∷ [])
      ≡ l.fn.out.items ++ 91 ∷ (joined 0 (map (nested_text (number_text l.format.signed l.format.width) l.inner) (pieces l.count (word_count l.inner) l.words)) ++ 93 ∷ []);
}
