use Rattle.std.proofs.Common.{◌≡◌, ℕ, ◌<◌, length, slice_get}
use Rattle.cx_vnets.specs.Carriers.{origin_at}
use Rattle.cx_vnets.specs.Search.{SameWidths}
use Rattle.cx_vnets.proofs.carriers.carry_all.Given as goal

abbrev pub invariant-loop-net : goal.invariant-loop-net
invariant-loop-net l = record {
  long : length l.values ≡ length l.fn.values;
  alike : (f : ℕ) → origin_at l.carriers.origins.items f < l.net → slice_get l.values f ≡ slice_get l.values (origin_at l.carriers.origins.items f);
  widths : SameWidths l.values l.fn.values;
}
