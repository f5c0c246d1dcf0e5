use Rattle.serde_json.specs.View.{view}
use Rattle.cx_text.specs.Loading.{plain_row, plain_rows}
use Rattle.cx_data.specs.Widths.{HasWordWidth}
use Rattle.cx_data.proofs.DumpLemmas.{All-from_map}
use Rattle.cx_data.proofs.LoadLemmas.{memories_of-fit}
use Rattle.cx_data.proofs.loading.load.Goals as goal

pub load_memories-requires : goal.load_memories-requires
load_memories-requires c = record { widths = All-from_map HasWordWidth plain_row c.args.rows.now c.requires.widths }

pub returns-clause-fits : goal.returns-clause-fits
returns-clause-fits c = memories_of-fit (view c.in_ok-top.top) (plain_rows c.args.rows.now) _ c.in_ok-memories.ensures.loaded
