-- One more name among those that a set finds.
use Rattle.std.proofs.Common.{◌≡◌, ℕ, Bool, true, false, ◌||◌, cond, List, [], ◌∷◌, ◌++◌, map, refl, ap, sym, ◌∙◌}
use Rattle.std.specs.BTreeSet as sorted
use Rattle.std.specs.BTreeSet.{BTreeSet}
use Rattle.std.specs.Cmp.Lexicographic.{slice_cmp}
use Rattle.std.specs.Ordering.{nat_cmp}
use Rattle.std.proofs.lemmas.List.{map-append}
use Rattle.std.proofs.lemmas.List.Folds.{list_any-append}
use Rattle.std.proofs.lemmas.Map.Text.{is_eq-slice_cmp}
use Rattle.cx_text.proofs.BoolLaws.{cond_either}
use Rattle.cx_vtree.specs.InstanceTree.{same_name}
use Rattle.cx_vtree.specs.Plain.{PlainModule}
use Rattle.cx_vtree.specs.Sound.{has_name}
use Rattle.cx_emit.specs.Found.{AreFound}

pub found_more : (found more : BTreeSet (List ℕ)) (modules : List PlainModule) (m : PlainModule) → AreFound found modules → sorted.Updates (slice_cmp nat_cmp) found more m.name true → AreFound more (modules ++ m ∷ [])
found_more found more modules m had up name =
    let names : List (List ℕ) = map (λ (x : PlainModule). x.name) modules in
    up.0 name
    ∙ ap (λ b. cond b true (sorted.contains_by (slice_cmp nat_cmp name) found)) (is_eq-slice_cmp m.name name)
    ∙ ap (λ h. cond (same_name m.name name) true h) (had name)
    ∙ cond_either (same_name m.name name) (has_name names name)
    ∙ sym (list_any-append (λ n. same_name n name) names (m.name ∷ []))
    ∙ ap (λ ns. has_name ns name) (sym (map-append (λ (x : PlainModule). x.name) modules (m ∷ [])))
