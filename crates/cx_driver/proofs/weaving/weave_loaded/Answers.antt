use Rattle.std.proofs.Common.{ℕ, List, subst}
use Rattle.cx_text.specs.Loading.{plain_loaded, words_loaded}
use Rattle.cx_rules.specs.Externals.{external_rows}
use Rattle.cx_design.specs.PlainDesigns.{plain_design}
use Rattle.cx_weave.specs.Results.{LeavesWords, TellsWoven}
use Rattle.cx_state.specs.States.{words_in}
use Rattle.cx_orders.specs.Woven.{Woven, by_list, woven}
use Rattle.cx_compiler.proofs.RowWidths.{rows_have_width, widths_fit}
use Rattle.cx_driver.proofs.RanLemmas.{fault_within, words_of_loaded}
use Rattle.cx_driver.proofs.WovenLemmas.{ends_told, fault_told, more_told, wove_ends, wove_faults, wove_more}
use Rattle.cx_driver.proofs.weaving.weave_loaded.Goals as goal

pub text_of-requires : goal.text_of-requires
text_of-requires c =
    let d = plain_design c.args.design.now in
    record {
      fits = c.in_ok-wove.ensures.fits.whole;
      widths = widths_fit (external_rows d) (plain_loaded c.weave.new.loaded) (rows_have_width d c.args.design.now.keeps) c.in_ok-wove.ensures.fits;
    }

pub returns-in-End : goal.returns-in-End
returns-in-End c =
    let d = plain_design c.args.design.now in
    let ms = plain_loaded c.args.loaded in
    let run : List (List ℕ) → Woven = λ words. woven d words (by_list c.args.list.now) c.args.steps in
    let x = run (words_loaded ms) in
    let told : TellsWoven d c.in_ok-wove.wove x = subst (λ words. TellsWoven d c.in_ok-wove.wove (run words)) (words_of_loaded c.args.loaded.memories.items) c.in_ok-wove.ensures.woven in
    let leaves : LeavesWords d ms (plain_loaded c.weave.new.loaded) x = subst (λ words. LeavesWords d ms (plain_loaded c.weave.new.loaded) (run words)) (words_of_loaded c.args.loaded.memories.items) c.in_ok-wove.ensures.words in
    let own = wove_ends d x c.in_ok-wove.wove c.in-End.made c.in-End.sum told c.in-End.is in
    record {
      answer = ends_told d x ms c.args.steps (plain_loaded c.weave.new.loaded) own.0 c.in-End.made c.in-End.sum c.in_ok-text-in-End.text.items own.1 leaves c.in_ok-text-in-End.ensures;
      cause = tt;
    }

pub faulted-requires : goal.faulted-requires
faulted-requires c =
    let d = plain_design c.args.design.now in
    let own = wove_faults d (woven d (words_in c.args.loaded.memories.items) (by_list c.args.list.now) c.args.steps) c.in_ok-wove.wove c.in-Fault.fault c.in-Fault.made c.in_ok-wove.ensures.woven c.in-Fault.is in
    record { instance = fault_within d own.0 c.in-Fault.fault own.1 }

pub returns-in-Fault : goal.returns-in-Fault
returns-in-Fault c =
    let d = plain_design c.args.design.now in
    let ms = plain_loaded c.args.loaded in
    let run : List (List ℕ) → Woven = λ words. woven d words (by_list c.args.list.now) c.args.steps in
    let x = run (words_loaded ms) in
    let told : TellsWoven d c.in_ok-wove.wove x = subst (λ words. TellsWoven d c.in_ok-wove.wove (run words)) (words_of_loaded c.args.loaded.memories.items) c.in_ok-wove.ensures.woven in
    let own = wove_faults d x c.in_ok-wove.wove c.in-Fault.fault c.in-Fault.made told c.in-Fault.is in
    record {
      answer = tt;
      cause = fault_told d x ms c.args.steps own.0 c.in-Fault.made c.faulted.result own.2 (c.faulted.ensures own.0 own.1);
    }

pub returns : goal.returns
returns c =
    let d = plain_design c.args.design.now in
    let ms = plain_loaded c.args.loaded in
    let run : List (List ℕ) → Woven = λ words. woven d words (by_list c.args.list.now) c.args.steps in
    let x = run (words_loaded ms) in
    let told : TellsWoven d c.in_ok-wove.wove x = subst (λ words. TellsWoven d c.in_ok-wove.wove (run words)) (words_of_loaded c.args.loaded.memories.items) c.in_ok-wove.ensures.woven in
    record {
      answer = tt;
      cause = more_told d x ms c.args.steps (wove_more d x c.in_ok-wove.wove told c.in-More.is);
    }
