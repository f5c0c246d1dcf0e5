use Rattle.std.proofs.Common.{◌≡◌, map, ap, sym, ◌∙◌, subst}
use Rattle.cx_text.specs.Loading.{FitsRows, plain_loaded, with_words}
use Rattle.cx_vtree.specs.PlainParts.{rows_of}
use Rattle.cx_vtree.specs.PlainSources.{plain_source}
use Rattle.cx_vnets.specs.Stores.{plain_words}
use Rattle.cx_vsim.specs.Answers.{IsDone}
use Rattle.cx_vsim.specs.Arrays.{AllGivenFit, CanGive}
use Rattle.cx_vsim.specs.Models.{Ended}
use Rattle.cx_vsim.specs.Stands.{words_by}
use Rattle.cx_vsim.proofs.DumpLemmas.{done_is, can_give, given_fit}
use Rattle.cx_vsim.proofs.simulating.SimRan.memories.Goals as goal

pub unload_words-requires : goal.unload_words-requires
unload_words-requires c =
    let s = plain_source c.self.inside.source.now in
    let arrays = map plain_words c.self.inside.stored.arrays.items in
    let numbers = c.self.inside.arrays.items in
    let fits = subst (λ (e : Ended). FitsRows (rows_of (plain_source e.source).externals) (plain_loaded c.args.into.now)) (sym c.self.view_is) c.requires.fits in
    let done = done_is c.self.inside.answer (words_by numbers arrays) (subst (λ (e : Ended). IsDone e.outcome) (sym c.self.view_is) c.requires.done) in
    let can = can_give s c.self.inside.answer arrays numbers c.self.invariant done.0 done.1 (plain_loaded c.args.into.now) fits in
    record {
      can = subst (λ ns. CanGive ns (map plain_words c.deref-2.result.now) (plain_loaded c.args.into.now)) (sym c.deref.ensures.value)
          (subst (λ xs. CanGive numbers (map plain_words xs) (plain_loaded c.args.into.now)) (sym c.deref-2.ensures.value) can);
    }

pub returns-clause-fits : goal.returns-clause-fits
returns-clause-fits c =
    let s = plain_source c.self.inside.source.now in
    let arrays = map plain_words c.self.inside.stored.arrays.items in
    let numbers = c.self.inside.arrays.items in
    let fits = subst (λ (e : Ended). FitsRows (rows_of (plain_source e.source).externals) (plain_loaded c.args.into.now)) (sym c.self.view_is) c.requires.fits in
    let done = done_is c.self.inside.answer (words_by numbers arrays) (subst (λ (e : Ended). IsDone e.outcome) (sym c.self.view_is) c.requires.done) in
    let all : AllGivenFit numbers arrays = subst (λ xs. AllGivenFit numbers (map plain_words xs)) c.deref-2.ensures.value (subst (λ ns. AllGivenFit ns (map plain_words c.deref-2.result.now)) c.deref.ensures.value c.unload_words.ensures.fit) in
    let given = given_fit s c.self.inside.answer arrays numbers c.self.invariant done.0 done.1 (plain_loaded c.args.into.now) fits all in
    let is : plain_loaded c.unload_words.new.into ≡ with_words (plain_loaded c.args.into.now) (words_by numbers arrays)
    = c.unload_words.ensures.value ∙ ap (λ ns. with_words (plain_loaded c.args.into.now) (words_by ns (map plain_words c.deref-2.result.now))) c.deref.ensures.value
    ∙ ap (λ xs. with_words (plain_loaded c.args.into.now) (words_by numbers (map plain_words xs))) c.deref-2.ensures.value in
    subst (λ (e : Ended). FitsRows (rows_of (plain_source e.source).externals) (plain_loaded c.unload_words.new.into)) c.self.view_is
    (subst (FitsRows (rows_of s.externals)) (sym is) given)
