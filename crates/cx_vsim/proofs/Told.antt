-- What a run of the machine told, as what the run of its source told.
use Rattle.std.proofs.Common.{◌≡◌, ℕ, ◌<◌, ◌^◌, List, [], ◌∷◌, length, map, Some, option_and_then, refl, ap, sym, ◌∙◌, subst}
use Rattle.std.proofs.lemmas.Option.{same_Some, slice_get_within}
use Rattle.std.specs.Option.{option_map_or}
use Rattle.cx_vtree.specs.Plain.{PlainExternal, PlainSource}
use Rattle.cx_vtree.specs.InstanceTree.{Placed, decls_at, instances_of}
use Rattle.cx_vtree.specs.SimRun.{Outcome, DoneAt, LoopAt, NotDone, first_array}
use Rattle.cx_vnets.specs.declared.nets.Stored.{Stored}
use Rattle.cx_vnets.specs.declared.codes.NetPosition.{NetPosition}
use Rattle.cx_vnets.specs.Stores.{PlainWords, plain_words}
use Rattle.cx_vnets.specs.Runs.{outcome_of}
use Rattle.cx_vnets.specs.declared.runs.RunAnswer.{RunAnswer}
use Rattle.cx_vnets.specs.declared.runs.RunAnswer.TheVariants as flat
use Rattle.cx_vnets.specs.Numbers.{nets_before, array_number}
use Rattle.cx_vnets.specs.RunsFlat.{AreWordsOf, AreAllWords, OutcomeStands}
use Rattle.cx_velab.specs.Tables.{all_places}
use Rattle.cx_vsim.specs.Externals.{array_of}
use Rattle.cx_vsim.specs.Answers.{NamesNet}
use Rattle.cx_vsim.specs.Stands.{words_at, words_by, outcome_by, TellsNet, IsToldAs}
use Rattle.cx_vsim.specs.declared.answers.SimAnswer.{SimAnswer}
use Rattle.cx_vtree.proofs.InstanceTreeLemmas.{net_within}

module _ (tree : List Placed) (arrays : List PlainWords) where
  one_is : (e : PlainExternal) (words : List ℕ) (n : ℕ) → AreWordsOf tree arrays e words → Some n ≡ array_of tree e → words ≡ words_at arrays n
  one_is e words n (j, a, x, named, number, at, is) same =
      let array : array_of tree e ≡ Some a = ap (option_and_then (λ i. array_number tree i (first_array (decls_at tree i)))) named ∙ number in
      let n_is : n ≡ a = same_Some n a (same ∙ array) in
      is ∙ sym (ap (words_at arrays) n_is ∙ ap (λ o. option_map_or (λ (y : PlainWords). map (λ b. b.value) y.words) o []) at)

  pub words_are : (es : List PlainExternal) (words : List (List ℕ)) (numbers : List ℕ) → AreAllWords tree arrays es words → map Some numbers ≡ map (array_of tree) es → words ≡ words_by numbers arrays
  words_are [] [] [] all same = refl
  words_are [] [] (n ∷ ns) all same = absurd (cc)
  words_are [] (w ∷ ws) ns all same = absurd all
  words_are (e ∷ es) [] ns all same = absurd all
  words_are (e ∷ es) (w ∷ ws) [] all same = absurd (cc)
  words_are (e ∷ es) (w ∷ ws) (n ∷ ns) all same =
      let first : Some n ≡ array_of tree e = cc in
      let rest : map Some ns ≡ map (array_of tree) es = cc in
      ap (λ x. x ∷ ws) (one_is e w n all.0 first) ∙ ap (λ xs. words_at arrays n ∷ xs) (words_are es ws ns all.1 rest)

module _ (s : PlainSource) (numbers : List ℕ) (places : List NetPosition) (stored : Stored)
    (arrays_are : map Some numbers ≡ map (array_of (instances_of s)) s.externals) (places_are : places ≡ all_places (instances_of s) (length (instances_of s))) where
  pub outcome_is : (a : RunAnswer) (r : SimAnswer) (q : Outcome) → IsToldAs places a r → OutcomeStands s (outcome_of a stored) q → q ≡ outcome_by r (words_by numbers (map plain_words stored.arrays.items))
  outcome_is (flat.Done t) r (DoneAt u words) is stands =
      ap (λ c. DoneAt c words) (sym stands.0)
      ∙ ap (DoneAt t) (words_are (instances_of s) (map plain_words stored.arrays.items) s.externals words numbers stands.1 arrays_are)
      ∙ ap (λ x. outcome_by x (words_by numbers (map plain_words stored.arrays.items))) (sym is)
  outcome_is (flat.Done t) r (LoopAt i k) is stands = absurd stands
  outcome_is (flat.Done t) r NotDone is stands = absurd stands
  outcome_is (flat.Loop f) r (LoopAt i k) is stands = ap (λ x. outcome_by x (words_by numbers (map plain_words stored.arrays.items))) (sym (is (instances_of s) i k places_are stands))
  outcome_is (flat.Loop f) r (DoneAt u words) is stands = absurd stands
  outcome_is (flat.Loop f) r NotDone is stands = absurd stands
  outcome_is flat.More r NotDone is stands = ap (λ x. outcome_by x (words_by numbers (map plain_words stored.arrays.items))) (sym is)
  outcome_is flat.More r (DoneAt u words) is stands = absurd stands
  outcome_is flat.More r (LoopAt i k) is stands = absurd stands

  pub tells : (a : RunAnswer) (q : Outcome) → length (instances_of s) < 2 ^ 32 → nets_before (instances_of s) (length (instances_of s)) < 2 ^ 32 → OutcomeStands s (outcome_of a stored) q → TellsNet places a
  tells (flat.Done t) q few small stands = tt
  tells (flat.Loop f) (LoopAt i k) few small stands = record { tree = instances_of s; instance = i; place = k; all = places_are; net = stands; few = few; small = small }
  tells (flat.Loop f) (DoneAt u words) few small stands = absurd stands
  tells (flat.Loop f) NotDone few small stands = absurd stands
  tells flat.More q few small stands = tt

  pub names : (a : RunAnswer) (r : SimAnswer) (q : Outcome) → IsToldAs places a r → OutcomeStands s (outcome_of a stored) q → NamesNet s r
  names (flat.Done t) r q is stands = subst (NamesNet s) (sym is) tt
  names (flat.Loop f) r (LoopAt i k) is stands =
      subst (NamesNet s) (sym (is (instances_of s) i k places_are stands)) (net_within (instances_of s) i k stands.name stands.stands_there, slice_get_within _ k stands.name stands.stands_there)
  names (flat.Loop f) r (DoneAt u words) is stands = absurd stands
  names (flat.Loop f) r NotDone is stands = absurd stands
  names flat.More r q is stands = subst (NamesNet s) (sym is) tt
