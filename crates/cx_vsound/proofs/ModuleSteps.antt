-- One more module.
use Rattle.std.proofs.Common.{◌≡◌, ℕ, ◌+◌, ◌<◌, suc, ◌==◌, List, [], ◌∷◌, ◌++◌, Bool, map, length, take, drop, get_or, refl, ap, sym, ◌∙◌, drop-cons, add-one}
use Rattle.std.proofs.lemmas.List.{take_more, map-append}
use Rattle.cx_vscope.specs.declared.drafts.DraftModule.{DraftModule}
use Rattle.cx_vscope.specs.Drafts.{draft_module, draft_modules}
use Rattle.cx_vtree.specs.Plain.{PlainModule}
use Rattle.cx_vtree.specs.Sound.{Counts, module_counts, lines_faults, modules_faults}
use Rattle.cx_vsound.specs.declared.search.Search.{Search}
use Rattle.cx_vsound.specs.Search.{over}
use Rattle.cx_vsound.proofs.Overs.{over_append}

length-map : (f : DraftModule → PlainModule) (ms : List DraftModule) → length (map f ms) ≡ length ms
length-map f [] = refl
length-map f (m ∷ ms) = ap suc (length-map f ms)

drop_here : (ms : List DraftModule) (i : ℕ) (x : DraftModule) → i < length ms → x ≡ get_or ms i x → drop i ms ≡ x ∷ drop (i + 1) ms
drop_here ms i x lt e = drop-cons ms i x lt ∙ ap (λ y. y ∷ drop (suc i) ms) (sym e) ∙ ap (λ k. x ∷ drop k ms) (sym (add-one i))

take_here : (ms : List DraftModule) (i : ℕ) (x : DraftModule) → i < length ms → x ≡ get_or ms i x → take (i + 1) ms ≡ take i ms ++ x ∷ []
take_here ms i x lt e = take_more ms i x lt ∙ ap (λ y. take i ms ++ y ∷ []) (sym e)

-- past one module
pub modules_next : (ms : List DraftModule) (i : ℕ) (x : DraftModule) (s t : Search) (counts counts' seen : List Counts) (own : Counts) (is_main : Bool) (before : List DraftModule)
    → i < length ms → x ≡ get_or ms i x → before ≡ take i ms → own ≡ module_counts (draft_modules before) seen (draft_module x) → seen ≡ counts
    → is_main ≡ (length (drop (i + 1) ms) == 0) → t ≡ over s (lines_faults is_main (draft_modules before) own (draft_module x)) → counts' ≡ counts ++ own ∷ []
    → over t (modules_faults (draft_modules (take (i + 1) ms)) counts' (draft_modules (drop (i + 1) ms))) ≡ over s (modules_faults (draft_modules (take i ms)) counts (draft_modules (drop i ms)))
modules_next ms i x s t counts counts' seen own is_main before lt at is_before is_own is_seen last is_t is_counts =
    let rest : List PlainModule = draft_modules (drop (i + 1) ms) in
    let here : List PlainModule = draft_modules (take i ms) in
    let own_here : own ≡ module_counts here counts (draft_module x) = is_own ∙ ap (λ n. module_counts (draft_modules before) n (draft_module x)) is_seen ∙ ap (λ b. module_counts (draft_modules b) counts (draft_module x)) is_before in
    let main_here : is_main ≡ (length rest == 0) = last ∙ ap (λ n. n == 0) (sym (length-map draft_module (drop (i + 1) ms))) in
    ap (λ c. over t (modules_faults (draft_modules (take (i + 1) ms)) c rest)) is_counts
    ∙ ap (λ b. over t (modules_faults (draft_modules b) (counts ++ own ∷ []) rest)) (take_here ms i x lt at)
    ∙ ap (λ b. over t (modules_faults b (counts ++ own ∷ []) rest)) (map-append draft_module (take i ms) (x ∷ []))
    ∙ ap (λ u. over u (modules_faults (here ++ draft_module x ∷ []) (counts ++ own ∷ []) rest)) (is_t ∙ ap (λ b. over s (lines_faults is_main (draft_modules b) own (draft_module x))) is_before ∙ ap (λ b. over s (lines_faults b here own (draft_module x))) main_here)
    ∙ ap (λ o. over (over s (lines_faults (length rest == 0) here o (draft_module x))) (modules_faults (here ++ draft_module x ∷ []) (counts ++ o ∷ []) rest)) own_here
    ∙ sym (over_append s (lines_faults (length rest == 0) here (module_counts here counts (draft_module x)) (draft_module x)) (modules_faults (here ++ draft_module x ∷ []) (counts ++ module_counts here counts (draft_module x) ∷ []) rest))
    ∙ ap (λ d. over s (modules_faults here counts (draft_modules d))) (sym (drop_here ms i x lt at))

-- one module more is seen
pub seen_next : (ms : List DraftModule) (i : ℕ) (x : DraftModule) (before next : List DraftModule)
    → i < length ms → x ≡ get_or ms i x → before ≡ take i ms → next ≡ before ++ x ∷ [] → next ≡ take (i + 1) ms
seen_next ms i x before next lt at is_before is_next = is_next ∙ ap (λ b. b ++ x ∷ []) is_before ∙ sym (take_here ms i x lt at)
