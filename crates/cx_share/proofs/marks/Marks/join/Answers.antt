use Rattle.std.proofs.Common.{◌∙◌, ◌+◌, ◌/◌, ap, sym, get_or, length, bit_or}
use Rattle.cx_share.proofs.BitLemmas.{same_count, words_joined}
use Rattle.cx_share.proofs.marks.Marks.join.Goals as goal

pub join_words-requires : goal.join_words-requires
join_words-requires c =
    let same = same_count c.other.inside.count c.self.inside.count c.other.inside.words.items c.self.inside.words.items c.args.other.now c.args.self.now c.other.view_is c.self.view_is c.requires.count in
    record { count = ap length c.as_slice.ensures.value ∙ c.other.invariant ∙ ap (λ n. n / 64 + 1) same ∙ sym c.self.invariant }

pub returns : goal.returns
returns c =
    let same = same_count c.other.inside.count c.self.inside.count c.other.inside.words.items c.self.inside.words.items c.args.other.now c.args.self.now c.other.view_is c.self.view_is c.requires.count in
    record {
      value = words_joined c.self.inside.count c.other.inside.count c.self.inside.words.items c.join_words.new.words.items c.other.inside.words.items c.args.self.now c.args.other.now c.self.view_is c.other.view_is same
          (λ k. c.join_words.ensures.value k ∙ ap (λ xs. bit_or (get_or c.self.inside.words.items k 0) (get_or xs k 0)) c.as_slice.ensures.value);
    }
