use Rattle.std.proofs.Common.{sym, ap, ◌∙◌, subst}
use Rattle.cx_design.specs.declared.designs.Design.{Design}
use Rattle.cx_design.specs.PlainDesigns.{plain_design}
use Rattle.cx_meaning.specs.Instances.{tree_of, words_of}
use Rattle.cx_meaning.specs.Running.{run_main}
use Rattle.cx_text.specs.Loading.{plain_loaded, with_words}
use Rattle.cx_state.specs.States.{plain_state, IsStateOf, StandsFor}
use Rattle.cx_interp.proofs.RunLemmas.{ends_at}
use Rattle.cx_interp.proofs.interp.Ran.memories.Goals as goal

pub external_words-requires-clause-state : goal.external_words-requires-clause-state
external_words-requires-clause-state c =
    let (given, words, budget, ran) = c.requires.run in
    subst (λ (d : Design). IsStateOf (plain_design d) (plain_state c.args.self.now.state)) (sym ran.design) ran.state

pub returns-clause-words : goal.returns-clause-words
returns-clause-words c given words budget turns after ran ends =
    let stands : StandsFor (tree_of (plain_design given)) (plain_state c.args.self.now.state) after =
    ends_at (plain_design given) (plain_state c.args.self.now.state) c.args.self.now.answer (run_main (plain_design given) words budget) after turns ran.answered ends in
    let own : StandsFor (tree_of (plain_design c.args.self.now.design.now)) (plain_state c.args.self.now.state) after =
    subst (λ (d : Design). StandsFor (tree_of (plain_design d)) (plain_state c.args.self.now.state) after) (sym ran.design) stands in
    c.external_words.ensures.words after own ∙ ap (λ (d : Design). with_words (plain_loaded c.args.into.now) (words_of (tree_of (plain_design d)) after)) ran.design
