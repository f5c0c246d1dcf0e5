-- The run of main, from what a run in its instance has done.
use Rattle.std.proofs.Common.{◌≡◌, ℕ, List, [], refl, sym, ap, ◌∙◌, subst}
use Rattle.std.proofs.Math.Path.{fun_ext}
use Rattle.cx_meaning.specs.Designs.{PlainDesign, PlainStatement}
use Rattle.cx_meaning.specs.Instances.{Instance, State, start, instance_at, tree_of, IsSettled}
use Rattle.cx_meaning.specs.Sights.{Held, unheld}
use Rattle.cx_meaning.specs.Cycles as cycles
use Rattle.cx_meaning.specs.Answers as answers
use Rattle.cx_meaning.specs.Running.{run_control, run_main}
use Rattle.cx_state.specs.Tables.{IsNumber}
use Rattle.cx_state.specs.States.{PlainInstance, inputs_held, StandsFor, IsUnheld}
use Rattle.cx_frames.specs.Ran.{Outcome, Ended, Faulted, Unfinished, AnswersAs}
use Rattle.cx_turns.specs.Children.{HasControl}
use Rattle.cx_interp.specs.declared.answers.Answer as told
use Rattle.cx_interp.specs.declared.answers.Answer.TheVariants.{End, Fault, More}
use Rattle.cx_interp.specs.Doings.{statement_does, statement_drives}
use Rattle.cx_interp.specs.Done.{Tells, Done}
use Rattle.cx_interp.specs.Runs.{Answered}
use Rattle.cx_interp.proofs.CallLemmas.{run_is}
use Rattle.cx_meaning.proofs.InstancesLemmas.{here, main_first}

combined : (d : PlainDesign) (rows : List PlainInstance) (a : told.Answer) (after : State) (x : answers.Answer State cycles.Fault) (o : Outcome) → Tells d [] a o → AnswersAs after x o → StandsFor (tree_of d) rows after → Answered d rows a x
combined d rows (End turns) after (answers.End s t) o e (f, same) stands =
    let both : Ended t ≡ Ended turns = sym f ∙ e in
    let equal : t ≡ turns = cc in
    (s, ap (λ k. answers.End s k) equal, subst (λ (y : State). StandsFor (tree_of d) rows y) (fun_ext same) stands)
combined d rows (End turns) after (answers.Fault g u) o e f stands = absurd (let both : Faulted g u ≡ Ended turns = sym f ∙ e in cc)
combined d rows (End turns) after answers.More o e f stands = absurd (let both : Unfinished ≡ Ended turns = sym f ∙ e in cc)
combined d rows (Fault fault turn) after (answers.End s t) o (g, tells, e) (f, same) stands = absurd (let both : Ended t ≡ Faulted g turn = sym f ∙ e in cc)
combined d rows (Fault fault turn) after (answers.Fault h u) o (g, tells, e) f stands =
    let both : Faulted h u ≡ Faulted g turn = sym f ∙ e in
    let one : h ≡ g = cc in
    let other : u ≡ turn = cc in
    (g, tells, ap (λ z. answers.Fault z u) one ∙ ap (λ k. answers.Fault g k) other)
combined d rows (Fault fault turn) after answers.More o (g, tells, e) f stands = absurd (let both : Unfinished ≡ Faulted g turn = sym f ∙ e in cc)
combined d rows More after (answers.End s t) o e (f, same) stands = absurd (let both : Ended t ≡ Unfinished = sym f ∙ e in cc)
combined d rows More after (answers.Fault g u) o e f stands = absurd (let both : Faulted g u ≡ Unfinished = sym f ∙ e in cc)
combined d rows More after answers.More o e f stands = refl

-- where the run of main ends, the rows stand for its state
pub ends_at : (d : PlainDesign) (rows : List PlainInstance) (a : told.Answer) (x : answers.Answer State cycles.Fault) (after : State) (turns : ℕ) → Answered d rows a x → x ≡ answers.End after turns → StandsFor (tree_of d) rows after
ends_at d rows (End t) x after turns (s, e, stands) f =
    let both : answers.End s t ≡ answers.End after turns = sym e ∙ f in
    let one : s ≡ after = cc in
    subst (λ (y : State). StandsFor (tree_of d) rows y) one stands
ends_at d rows (Fault fault turn) x after turns (g, tells, e) f = absurd (let both : answers.Fault g turn ≡ answers.End after turns = sym e ∙ f in cc)
ends_at d rows More x after turns e f = absurd (let both : answers.More ≡ answers.End after turns = sym e ∙ f in cc)

pub main_answered : (d : PlainDesign) (old new : List PlainInstance) (control : PlainStatement) (budget : ℕ) (a : told.Answer) (words : List (List ℕ)) → HasControl d 0 control → IsUnheld old → IsSettled (tree_of d) (start (tree_of d) words)
    → StandsFor (tree_of d) old (start (tree_of d) words) → Done d old new 0 (statement_drives control) (statement_does control) budget a → Answered d new a (run_main d words budget)
main_answered d old new control budget a words is_control none settled stands done =
    let tree : Instance = tree_of d in
    let s : State = start tree words in
    let number : IsNumber d 0 [] = main_first tree in
    let l = done.leaves [] s number stands settled in
    let held : inputs_held old 0 ≡ unheld = fun_ext (λ input. none 0 input) in
    let means : statement_does control (instance_at tree []) (inputs_held old 0) s budget ≡ run_main d words budget =
    ap (λ x. statement_does x (instance_at tree []) (inputs_held old 0) s budget) (is_control [] number)
    ∙ run_is (instance_at tree []) (inputs_held old 0) s budget
    ∙ ap (λ i. run_control i (inputs_held old 0) s budget) (here tree)
    ∙ ap (λ (h : Held). run_control tree h s budget) held in
    combined d new a l.after (run_main d words budget) l.outcome l.told (subst (λ x. AnswersAs l.after x l.outcome) means l.ran.answer) l.stands
