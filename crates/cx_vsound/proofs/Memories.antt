-- The array of an external memory, the words of arrays, and one external memory more.
use Rattle.std.proofs.Common.{◌≡◌, ℕ, ◌+◌, ◌-◌, ◌^◌, ◌<◌, suc, min, List, [], ◌∷◌, ◌++◌, length, drop, get_or, refl, ap, sym, ◌∙◌, arith, drop-cons, add-one}
use Rattle.cx_text.specs.Loading.{word_count}
use Rattle.cx_vscope.specs.declared.drafts.DraftExternal.{DraftExternal}
use Rattle.cx_vscope.specs.Drafts.{draft_external, draft_externals}
use Rattle.cx_vtree.specs.Plain.{PlainExternal, PlainModule}
use Rattle.cx_vtree.specs.Sound.{Counts, Faults, sum_counts, not_this_memory, not_this_width, external_faults, externals_faults}
use Rattle.cx_vsound.specs.declared.search.Search.{Search}
use Rattle.cx_vsound.specs.Arrays.{arrays_among, other_length, other_width}
use Rattle.cx_vsound.specs.Search.{noted, over}

pub other_length_is : (found : List (ℕ × ℕ)) (e : PlainExternal) → other_length (arrays_among found) (word_count e.sizes) ≡ not_this_memory found e
other_length_is [] e = refl
other_length_is (a ∷ []) e = refl
other_length_is (a ∷ b ∷ rest) e = refl

pub other_width_is : (found : List (ℕ × ℕ)) (e : PlainExternal) → other_width (arrays_among found) e.width ≡ not_this_width found e
other_width_is [] e = refl
other_width_is (a ∷ []) e = refl
other_width_is (a ∷ b ∷ rest) e = refl

-- words count as many where they stop at 2^64 - 1
pub sum_capped : (c : Counts) (k : ℕ) → sum_counts c (record { nets = 0; instances = 0; words = min k (2 ^ 64 - 1) }) ≡ sum_counts c (record { nets = 0; instances = 0; words = k })
sum_capped c k =
    let words : min (c.words + min k (2 ^ 64 - 1)) (2 ^ 64 - 1) ≡ min (c.words + k) (2 ^ 64 - 1) = omega arith in
    ap (λ (w : ℕ). record { nets = min (c.nets + 0) (2 ^ 64 - 1); instances = min (c.instances + 0) (2 ^ 64 - 1); words = w }) words

-- past one external memory
pub externals_next : (ms : List PlainModule) (es : List DraftExternal) (i : ℕ) (x : DraftExternal) (names instances names' instances' : List (List ℕ)) (s t : Search) (f : Faults)
    → i < length es → x ≡ get_or es i x → f ≡ external_faults ms names instances (draft_external x) → t ≡ noted s f → names' ≡ names ++ x.name ∷ [] → instances' ≡ instances ++ x.instance ∷ []
    → over t (externals_faults ms names' instances' (draft_externals (drop (i + 1) es))) ≡ over s (externals_faults ms names instances (draft_externals (drop i es)))
externals_next ms es i x names instances names' instances' s t f lt at is_f is_t is_names is_instances =
    let rest : List PlainExternal = draft_externals (drop (i + 1) es) in
    let here : drop i es ≡ x ∷ drop (i + 1) es = drop-cons es i x lt ∙ ap (λ y. y ∷ drop (suc i) es) (sym at) ∙ ap (λ k. x ∷ drop k es) (sym (add-one i)) in
    ap (λ n. over t (externals_faults ms n instances' rest)) is_names
    ∙ ap (λ n. over t (externals_faults ms (names ++ x.name ∷ []) n rest)) is_instances
    ∙ ap (λ u. over u (externals_faults ms (names ++ x.name ∷ []) (instances ++ x.instance ∷ []) rest)) (is_t ∙ ap (noted s) is_f)
    ∙ ap (λ d. over s (externals_faults ms names instances (draft_externals d))) (sym here)
