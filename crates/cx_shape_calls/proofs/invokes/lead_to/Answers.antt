use Rattle.std.proofs.Common.{◌≡◌, ◌∙◌, ◌<◌, ◌∷◌, ◌++◌, [], length, ap, sym, subst, true≢false}
use Rattle.std.proofs.lemmas.Bool.{not_from_false}
use Rattle.cx_text.proofs.BoolLaws.{false_if, from_not}
use Rattle.cx_text.proofs.ListLaws.{get_same}
use Rattle.cx_graphs.specs.declared.owners.Owners.TheVariants.{Nobody}
use Rattle.cx_graphs.specs.Graphs.{edges_of}
use Rattle.cx_graphs.specs.Owners.{Tells, owners_at}
use Rattle.cx_graphs.specs.Tallies.{Reaches, starts_of}
use Rattle.cx_shape_calls.proofs.LeadLemmas.{reached_tallied, tallied_reached}
use Rattle.cx_shape_calls.proofs.invokes.lead_to.Goals as goal

pub returns-clause-value : goal.returns-clause-value
returns-clause-value c =
    let g = edges_of c.args.links.now in
    let cells = c.args.cells in
    let cell = c.args.cell in
    let owners = c.tally_reached.new.self.owners.items in
    let found = c.is-lead.result in
    let lists : edges_of c.as_slice.result.now ≡ cells.items ∷ [] =
    ap edges_of (c.as_slice.ensures.value ∙ c.in_ok-push.ensures.items ∙ ap (λ l. l ++ cells ∷ []) c.new-lists.ensures.items) in
    let told : Tells (Reaches g (starts_of [] [] (cells.items ∷ [])) cell) (owners_at owners cell) =
    subst (λ l. Tells (Reaches g (starts_of [] [] l) cell) (owners_at owners cell)) lists (c.in_ok-tally_reached.ensures.told.tells cell) in
    let within : cell < length owners = subst (λ n. cell < n) (sym c.in_ok-tally_reached.ensures.len) c.requires.within in
    let same : c.index.result.now ≡ owners_at owners cell = c.index.ensures ∙ get_same owners cell c.index.result.now Nobody within in (
      λ e. tallied_reached g cells.items cell (owners_at owners cell) told (λ none. true≢false (sym (c.is-lead.ensures.same.1 (same ∙ none)) ∙ from_not found e)),
      λ r. not_from_false found (false_if found (λ e. absurd (reached_tallied g cells.items cell (owners_at owners cell) told r (sym same ∙ c.is-lead.ensures.same.0 e)))),
    )
