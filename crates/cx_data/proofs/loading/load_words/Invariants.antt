use Rattle.std.proofs.Common.{◌≡◌, ◌++◌, map, drop}
use Rattle.std.specs.Result.{result_map_both}
use Rattle.serde_json.specs.View.{number_view}
use Rattle.cx_data.specs.Numbers.{word_of, words_of}
use Rattle.cx_data.proofs.loading.load_words.Given as goal

abbrev pub invariant-loop-index : goal.invariant-loop-index
invariant-loop-index l =
    result_map_both (λ ws. l.words.items ++ ws) (λ i. i) (words_of (word_of l.signed l.row.width) l.index (map number_view (drop l.index l.numbers)))
    ≡ words_of (word_of l.signed l.row.width) 0 (map number_view l.numbers)
