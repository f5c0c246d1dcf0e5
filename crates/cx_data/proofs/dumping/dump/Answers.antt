use Rattle.std.proofs.Common.{ap, map, Bor}
use Rattle.std.proofs.lemmas.List.Elements.{All-same}
use Rattle.cx_text.specs.Loading.{PlainMemory, FitsShape, plain_memory}
use Rattle.cx_text.specs.declared.loading.LoadedMemory.{LoadedMemory}
use Rattle.cx_data.specs.Widths.{HasWordWidth}
use Rattle.cx_data.proofs.DumpLemmas.{All-by_name, All-from_map}
use Rattle.cx_data.proofs.dumping.dump.Goals as goal

pub push_memories-requires-clause-fits : goal.push_memories-requires-clause-fits
push_memories-requires-clause-fits c =
    All-same (λ (b : Bor LoadedMemory). FitsShape (plain_memory b.now)) _ _ c.as_slice-2.ensures.value
    (All-from_map FitsShape (λ (b : Bor LoadedMemory). plain_memory b.now) c.in_ok-memories.memories.items
    (All-same FitsShape _ _ c.in_ok-memories.ensures.value
    (All-by_name FitsShape _ (All-same FitsShape _ _ (ap (map plain_memory) c.as_slice.ensures.value) c.requires.fits))))

pub push_memories-requires-clause-widths : goal.push_memories-requires-clause-widths
push_memories-requires-clause-widths c =
    let Wide : PlainMemory → Type 0 = λ m. HasWordWidth m.shape in
    All-same (λ (b : Bor LoadedMemory). Wide (plain_memory b.now)) _ _ c.as_slice-2.ensures.value
    (All-from_map Wide (λ (b : Bor LoadedMemory). plain_memory b.now) c.in_ok-memories.memories.items
    (All-same Wide _ _ c.in_ok-memories.ensures.value
    (All-by_name Wide _ (All-same Wide _ _ (ap (map plain_memory) c.as_slice.ensures.value)
    (All-from_map HasWordWidth (λ (m : PlainMemory). m.shape) _ c.requires.widths)))))
