use Rattle.cx_meaning.specs.Instances.{tree_of}
use Rattle.cx_rewrites.proofs.PlaceDesigns.{tree_of-same, run_main-same, words_of-same, external_rows-same}
use Rattle.cx_rewrites.proofs.PlaceAccepted.{breaks_there, accepted_there}
use Rattle.cx_rewrites.proofs.place_laws.places_do_not_matter.Goals as goal

pub returns-clause-run : goal.returns-clause-run
returns-clause-run c = λ d e words n same. run_main-same d e same words n

pub returns-clause-words : goal.returns-clause-words
returns-clause-words c = λ d e s same. words_of-same (tree_of d) (tree_of e) (tree_of-same d e same) s

pub returns-clause-accepted : goal.returns-clause-accepted
returns-clause-accepted c = λ d e same accepted. accepted_there d e same accepted

pub returns-clause-breaks : goal.returns-clause-breaks
returns-clause-breaks c = λ d e rule spot place name same b. breaks_there d e same rule spot place name b

pub returns-clause-rows : goal.returns-clause-rows
returns-clause-rows c = λ d e same. external_rows-same d e same
