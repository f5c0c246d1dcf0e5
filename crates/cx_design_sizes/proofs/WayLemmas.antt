-- The way through the components, turn by turn.
use Rattle.std.proofs.Common.{◌≡◌, ℕ, ◌+◌, ◌-◌, ◌*◌, ◌<◌, ◌≤◌, inl, Bool, true, false, List, [], ◌∷◌, ◌++◌, length, map, get_or, set, replicate, refl, sym, ap, ◌∙◌, subst, arith}
use Rattle.std.proofs.lemmas.List.{length-map}
use Rattle.cx_text.proofs.MemberLaws.{in_right}
use Rattle.cx_meaning.specs.Designs.{PlainCell, PlainDesign, component_at}
use Rattle.cx_rules.specs.Wellformed.{IsDesign}
use Rattle.cx_design.specs.declared.cells.Cell.{Cell}
use Rattle.cx_design.specs.declared.components.Component.{Component}
use Rattle.cx_design.specs.PlainForms.{plain_cell, plain_component, plain_parts}
use Rattle.cx_design.proofs.DesignFacts.{component_is}
use Rattle.cx_design_sizes.specs.declared.order.Step.{Step}
use Rattle.cx_design_sizes.specs.Orders.{IsChildrenFirst, ArePlaced, IsNext}
use Rattle.cx_design_sizes.proofs.OrderLemmas.{IsOnWay, IsUnderWay, begin, push, place, few, finish}
use Rattle.cx_text.proofs.ListLaws.{one_more}

pub begin_at : (d : PlainDesign) (placed : List Bool) (order : List ℕ) (none path : List Step) → d.main < length d.components → placed ≡ replicate (length d.components) false
    → length placed ≡ length d.components → order ≡ [] → none ≡ [] → path ≡ none ++ record { component = d.main; next = 0 } ∷ [] → IsUnderWay d placed order path
begin_at d placed order none path lt made sized e f g =
    subst (λ o. IsUnderWay d placed o path) (sym e)
    (subst (IsUnderWay d placed []) (sym (g ∙ ap (λ p. p ++ record { component = d.main; next = 0 } ∷ []) f)) (begin d placed lt made sized))

-- the last one of the path
pub top_of : (d : PlainDesign) (placed : List Bool) (order : List ℕ) (path front : List Step) (s : Step) → IsUnderWay d placed order path → path ≡ front ++ s ∷ [] → IsOnWay d placed s
top_of d placed order path front s u e =
    let v : IsUnderWay d placed order (front ++ s ∷ []) = subst (IsUnderWay d placed order) e u in
    v.steps s (in_right front (s ∷ []) s (inl refl))

pub push_at : (d : PlainDesign) (placed seen : List Bool) (order : List ℕ) (path front one two : List Step) (s : Step) (cells : List PlainCell) (next c : ℕ)
    → IsUnderWay d placed order path → path ≡ front ++ s ∷ [] → seen ≡ placed → cells ≡ (component_at d s.component).cells → IsNext seen cells s.next next c
    → one ≡ front ++ record { component = s.component; next = next } ∷ [] → two ≡ one ++ record { component = c; next = 0 } ∷ [] → IsUnderWay d placed order two
push_at d placed seen order path front one two s cells next c u e same own is_next f g =
    subst (IsUnderWay d placed order) (sym (g ∙ ap (λ p. p ++ record { component = c; next = 0 } ∷ []) f))
    (push d placed order front s next c (subst (IsUnderWay d placed order) e u)
    (subst (λ cs. IsNext placed cs s.next next c) own (subst (λ p. IsNext p cells s.next next c) same is_next)))

pub place_at : (d : PlainDesign) → ∥ IsDesign d ∥₁ → (placed seen : List Bool) (order more : List ℕ) (path front : List Step) (s : Step) (cells : List Cell)
    → IsUnderWay d placed order path → path ≡ front ++ s ∷ [] → seen ≡ placed → map plain_cell cells ≡ (component_at d s.component).cells
    → ArePlaced seen (map plain_cell cells) s.next (length cells) → more ≡ order ++ s.component ∷ [] → IsUnderWay d (set placed s.component true) more front
place_at d keeps placed seen order more path front s cells u e same own rest f =
    subst (λ o. IsUnderWay d (set placed s.component true) o front) (sym f)
    (place d keeps placed order front s (subst (IsUnderWay d placed order) e u)
    (subst (λ cs. ArePlaced placed cs s.next (length cs)) own
    (subst (λ n. ArePlaced placed (map plain_cell cells) s.next n) (sym (length-map cells plain_cell)) (subst (λ p. ArePlaced p (map plain_cell cells) s.next (length cells)) same rest))))

pub finish_at : (d : PlainDesign) → ∥ IsDesign d ∥₁ → (placed : List Bool) (order : List ℕ) (path : List Step) → IsUnderWay d placed order path → path ≡ [] → IsChildrenFirst d order
finish_at d keeps placed order path u e = finish d keeps placed order (subst (IsUnderWay d placed order) e u)

pub push_smaller : (d : PlainDesign) → ∥ IsDesign d ∥₁ → (n : ℕ) (placed : List Bool) (order : List ℕ) (path front one two : List Step) (s a b : Step)
    → IsUnderWay d placed order two → n ≡ length d.components → path ≡ front ++ s ∷ [] → one ≡ front ++ a ∷ [] → two ≡ one ++ b ∷ []
    → (2 * n - 2 * length order) - length two < (2 * n - 2 * length order) - length path
push_smaller d keeps n placed order path front one two s a b u all e f g =
    let total : length order + length two ≤ length d.components = few d placed order two keeps u in
    let last : length two ≡ length one + 1 = ap length g ∙ one_more one b in
    let middle : length one ≡ length front + 1 = ap length f ∙ one_more front a in
    let first : length path ≡ length front + 1 = ap length e ∙ one_more front s in
    omega arith

pub place_smaller : (d : PlainDesign) → ∥ IsDesign d ∥₁ → (n : ℕ) (placed : List Bool) (order more : List ℕ) (path front : List Step) (s : Step)
    → IsUnderWay d placed order path → n ≡ length d.components → path ≡ front ++ s ∷ [] → more ≡ order ++ s.component ∷ []
    → (2 * n - 2 * length more) - length front < (2 * n - 2 * length order) - length path
place_smaller d keeps n placed order more path front s u all e f =
    let total : length order + length path ≤ length d.components = few d placed order path keeps u in
    let next : length more ≡ length order + 1 = ap length f ∙ one_more order s.component in
    let first : length path ≡ length front + 1 = ap length e ∙ one_more front s in
    omega arith

-- the cells of the component that is gone through
pub own_cells : (components : List Component) (main k : ℕ) (seen : List Component) (r : Component) (cells : List Cell) → k < length (map plain_component components) → seen ≡ components
    → r ≡ get_or seen k r → cells ≡ (get_or seen k r).cells.items → map plain_cell cells ≡ (component_at (plain_parts components main) k).cells
own_cells components main k seen r cells lt same is e =
    ap (map plain_cell) (e ∙ ap (λ p. p.cells.items) (sym is))
    ∙ ap (λ p. p.cells) (component_is components k r (subst (λ n. k < n) (length-map components plain_component) lt) (is ∙ ap (λ xs. get_or xs k r) same))
