use Rattle.std.proofs.Common.{take}
use Rattle.cx_text.specs.Places.{start}
use Rattle.cx_text.proofs.PlaceLemmas.{line-after_bytes, column-place_at, column-place_at_later}
use Rattle.cx_text.proofs.places.counted_from_one.Goals as goal

pub returns : goal.returns
returns c = record {
  line = λ text n. line-after_bytes start (take n text);
  first_line = column-place_at;
  later_line = column-place_at_later;
}
