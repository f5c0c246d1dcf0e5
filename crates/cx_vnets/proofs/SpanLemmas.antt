-- Readers by their gates.
use Rattle.std.proofs.Common.{◌≡◌, ℕ, ◌+◌, ◌<◌, ◌≤◌, ⊎_elim, List, [], ◌∷◌, ◌++◌, Option, Some, length, slice_get, sym, ◌∙◌, subst, arith}
use Rattle.std.proofs.lemmas.Bool.{cases_lt}
use Rattle.std.proofs.lemmas.List.{length-map}
use Rattle.cx_text.specs.Members.{In}
use Rattle.cx_graphs.specs.Graphs.{Edges, edges_of, targets_of}
use Rattle.cx_vnets.specs.declared.spans.Span.{Span}
use Rattle.cx_vnets.specs.declared.spans.Spans.{Spans}
use Rattle.cx_vnets.specs.Gates.{IsShut}
use Rattle.cx_vnets.specs.Spans.{IsGated, IsInTables, IsSpan, NotBehind, SpansStand}
use Rattle.cx_vnets.specs.Stale.{NoneStale}
use Rattle.cx_text.proofs.ListLaws.{either_at}

-- a list without members
pub in_none : {P : Type 0} (f : ℕ) (xs : List ℕ) → xs ≡ [] → In xs f → P
in_none f [] e i = absurd i
in_none f (x ∷ xs) e i = absurd (cc)

-- the gates up to the next one that may be other than 0 have been looked at, and it
pub behind_more : (gated : Edges) (nonzero : List ℕ) (low at next f : ℕ) → next < length nonzero → NotBehind gated nonzero low at f → NoneStale nonzero at next
    → (In (targets_of gated next) f → ⊥) → NotBehind gated nonzero low (next + 1) f
behind_more gated nonzero low at next f within before none here gate from to i = ⊎_elim
    (λ l. before gate from l i)
    (λ l. ⊎_elim
    (λ m. (omega (arith, m, within), none gate (omega (arith, l)) m))
    (λ m. let same : gate ≡ next = omega (arith, to, m) in absurd (here (subst (λ g. In (targets_of gated g) f) same i))) (cases_lt gate next)) (cases_lt gate at)

-- and where the next one lies past the last of them, all have been
pub behind_last : (gated : Edges) (nonzero : List ℕ) (low at high next f : ℕ) → high ≤ length nonzero → high ≤ next → NotBehind gated nonzero low at f → NoneStale nonzero at next
    → NotBehind gated nonzero low high f
behind_last gated nonzero low at high next f within past before none gate from to i = ⊎_elim
    (λ l. before gate from l i)
    (λ l. (omega (arith, to, within), none gate (omega (arith, l)) (omega (arith, to, past)))) (cases_lt gate at)

-- nothing lies before the first of them
pub behind_none : (gated : Edges) (nonzero : List ℕ) (low f : ℕ) → NotBehind gated nonzero low low f
behind_none gated nonzero low f gate from to i = absurd (omega (arith, from, to))

-- a reader that is neither listed nor behind a gate that may be other than 0 is shut
pub spanned_shut : (gates : List (Option ℕ)) (rows : Edges) (t : Spans) (nonzero : List ℕ) (net : ℕ) (span : Span) → SpansStand gates rows t → slice_get t.of_nets.items net ≡ Some (Some span)
    → IsInTables t nonzero span → (f : ℕ) → (In span.plain.items f → ⊥) → NotBehind (edges_of t.gated.items) nonzero span.low span.high f → In (targets_of rows net) f → IsShut gates nonzero net f
spanned_shut gates rows t nonzero net span stand at tables f plain behind i = ⊎_elim
    (λ p. absurd (plain p))
    (λ (g : IsGated gates net span.low span.high f).
    let to = g.within.to in
    let rows_high = tables.rows in
    let row : g.gate < length (edges_of t.gated.items) = subst (λ k. g.gate < k) (sym (length-map t.gated.items (λ list. list.items))) (omega (arith, to, rows_high)) in
    record { gate = g.gate; has = g.has; other = g.within.other; known = behind g.gate g.within.from to (stand.gated f g.gate g.has row) }) (stand.spanned net span at f i)

-- one more net has its span, or has none
pub spans_more : (gates : List (Option ℕ)) (rows : Edges) (spans : List (Option Span)) (found : Option Span) (net : ℕ) → length spans ≡ net
    → ((k : ℕ) (span : Span) → slice_get spans k ≡ Some (Some span) → IsSpan gates (targets_of rows k) k span)
    → ((span : Span) → found ≡ Some span → IsSpan gates (targets_of rows net) net span)
    → (k : ℕ) (span : Span) → slice_get (spans ++ found ∷ []) k ≡ Some (Some span) → IsSpan gates (targets_of rows k) k span
spans_more gates rows spans found net long before here k span at = ⊎_elim
    (λ e. before k span e)
    (λ e.
    let same : k ≡ net = e.0 ∙ long in
    let is : found ≡ Some span = e.1 in
    subst (λ j. IsSpan gates (targets_of rows j) j span) (sym same) (here span is)) (either_at spans found (Some span) k at)
