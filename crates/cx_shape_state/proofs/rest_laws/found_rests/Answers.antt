use Rattle.cx_shape_state.proofs.Found.{found_rests, rests_found, inner_rests, inner_apart, leads_found}
use Rattle.cx_shape_state.proofs.rest_laws.found_rests.Goals as goal

pub returns : goal.returns
returns c = record { rests = found_rests; all = rests_found; inner_rests = inner_rests; inner = inner_apart; leads = leads_found }
