use Rattle.std.proofs.Common.{◌≡◌, refl, sym, true, false}
use Rattle.serde_json.specs.View.{view}
use Rattle.cx_data.proofs.LoadLemmas.{top_of-object, top_of-none}
use Rattle.cx_data.proofs.loading.read_top.Goals as goal

pub returns-then-is_object-clause-value : goal.returns-then-is_object-clause-value
returns-then-is_object-clause-value c =
    top_of-object c.args.json.now (view c.in-Ok.top) c.in-Ok.ensures.ok.0 c.in-Ok.ensures.ok.1 (sym c.if-is_object.ensures)

pub returns-else-is_memory-clause-fault : goal.returns-else-is_memory-clause-fault
returns-else-is_memory-clause-fault c = λ other. (refl, top_of-none c.args.json.now (c.in-Err.ensures.err (λ memory. let both : false ≡ true = c.if-is_memory.ensures.1 memory in cc)))
