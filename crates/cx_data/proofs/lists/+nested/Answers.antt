use Rattle.std.proofs.Common.{rules, ◌≡◌, ◌<◌, ◌^◌, ℕ, length, arith}
use Rattle.std.proofs.lemmas.List.Elements.{All-same, All-drop}
use Rattle.cx_text.specs.Loading.{word_count}
use Rattle.cx_data.specs.Dump.{number_text, nested_text}
use Rattle.cx_data.proofs.DumpLemmas.{list_start, list_step, part_len-is, room_step}
use Rattle.cx_data.proofs.lists.+nested.Goals as goal

pub push_list-loop-index-init : goal.push_list-loop-index-init
push_list-loop-index-init t c = record {
  part = part_len-is c.checked_div.result c.unwrap_or-part_len.result (length c.args.words.now) c.args.size (word_count c.args.inner.now)
      (search rules) (search rules) c.requires.count;
  room = search rules;
  in_range = search rules;
  text = list_start (nested_text (number_text c.args.format.signed c.args.format.width) c.args.inner.now)
      c.args.out.now.items c.push.new.self.items c.args.words.now c.args.size (word_count c.args.inner.now) c.in_ok-push.ensures.items;
}

pub push_list-loop-index-preserved : goal.push_list-loop-index-preserved
push_list-loop-index-preserved t c =
    let sized : c.unwrap_or-part_len.result ≡ word_count c.args.inner.now = c.loop-index.invariant.part (omega arith) in
    record {
      part = search rules;
      room = room_step c.loop-index.rest.now c.split_at.result.1.now c.args.size c.loop-index.index (word_count c.args.inner.now) c.unwrap_or-part_len.result
          c.loop-index-test.true sized c.split_at.ensures.back_len c.loop-index.invariant.room;
      in_range = All-same (λ (word : ℕ). word < 2 ^ c.args.format.width) _ _ c.split_at.ensures.back
          (All-drop (λ (word : ℕ). word < 2 ^ c.args.format.width) c.unwrap_or-part_len.result c.loop-index.rest.now c.loop-index.invariant.in_range);
      text = list_step (nested_text (number_text c.args.format.signed c.args.format.width) c.args.inner.now)
          c.loop-index.out.items c.push_nested.new.out.items _ c.loop-index.rest.now c.split_at.result.0.now c.split_at.result.1.now
          c.args.size c.loop-index.index (word_count c.args.inner.now) c.unwrap_or-part_len.result
          c.loop-index-test.true sized c.split_at.ensures.front c.split_at.ensures.back (search rules) c.loop-index.invariant.text;
    }
