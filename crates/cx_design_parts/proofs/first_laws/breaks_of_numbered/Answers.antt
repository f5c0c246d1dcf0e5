use Rattle.cx_design_parts.proofs.Lists.{in_numbered, numbered_in}
use Rattle.cx_design_parts.proofs.first_laws.breaks_of_numbered.Goals as goal

pub returns : goal.returns
returns c = record { within = λ f n parts b i. numbered_in f n parts b i; all = λ f n parts m part b e i. in_numbered f n parts m part b e i }
