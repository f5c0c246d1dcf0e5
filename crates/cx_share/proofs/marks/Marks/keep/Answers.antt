use Rattle.std.proofs.Common.{◌∙◌, ◌+◌, ◌/◌, ap, sym, get_or, length, bit_and}
use Rattle.cx_share.proofs.BitLemmas.{marks_long, same_count, words_kept}
use Rattle.cx_share.proofs.marks.Marks.keep.Goals as goal

pub keep_words-requires : goal.keep_words-requires
keep_words-requires c =
    let same = same_count c.other.inside.count c.self.inside.count c.other.inside.words.items c.self.inside.words.items c.args.other.now c.args.self.now c.other.view_is c.self.view_is c.requires.count in
    record { count = ap length c.as_slice.ensures.value ∙ c.other.invariant ∙ ap (λ n. n / 64 + 1) same ∙ sym c.self.invariant }

pub returns-clause-count : goal.returns-clause-count
returns-clause-count c =
    marks_long c.self.inside.count c.keep_words.new.words.items ∙ sym (marks_long c.self.inside.count c.self.inside.words.items) ∙ ap length c.self.view_is

pub returns-clause-value : goal.returns-clause-value
returns-clause-value c =
    let same = same_count c.other.inside.count c.self.inside.count c.other.inside.words.items c.self.inside.words.items c.args.other.now c.args.self.now c.other.view_is c.self.view_is c.requires.count in
    words_kept c.self.inside.count c.other.inside.count c.self.inside.words.items c.keep_words.new.words.items c.other.inside.words.items c.args.self.now c.args.other.now c.self.view_is c.other.view_is same
    (λ k. c.keep_words.ensures.value k ∙ ap (λ xs. bit_and (get_or c.self.inside.words.items k 0) (get_or xs k 0)) c.as_slice.ensures.value)
