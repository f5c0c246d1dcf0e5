use Rattle.std.proofs.Common.{◌≡◌, ◌∙◌, [], MatchResult, Some, map, sym, ap, subst}
use Rattle.std.specs.List.{slice_get}
use Rattle.std.proofs.lemmas.Result.{IfOk-weaker}
use Rattle.cx_meaning.specs.Instances.{paths_of, tree_of}
use Rattle.cx_rules.specs.Accepted.{IsAccepted, IsFirstOf}
use Rattle.cx_design.specs.PlainDesigns.{plain_design}
use Rattle.cx_check.specs.Verdicts.{TellsAs}
use Rattle.cx_profiling.specs.Counters.{ProfileEntry, entries_of}
use Rattle.cx_profiling.specs.Instrumented.{instrumented}
use Rattle.cx_profile.specs.declared.entries.ProfiledGroup.{ProfiledGroup}
use Rattle.cx_profile.specs.Profiles.{group_path}
use Rattle.cx_profile.specs.Rows.{rows_in}
use Rattle.cx_profile.proofs.LimitLemmas.{accepted_within}
use Rattle.cx_profile.proofs.RowLemmas.{rows-paths, rows-groups, rows-instances}
use Rattle.cx_profile.proofs.instrumenting.instrument.Goals as goal

pub checked-requires : goal.checked-requires
checked-requires c =
    let d = plain_design c.args.design.now in
    let is = c.in-Ok.ensures.design ∙ ap (λ x. instrumented (plain_design x)) c.design.ensures.value in
    record {
      accepted = accepted_within d (plain_design c.in-Ok.made.design) c.args.design.now.keeps
          (subst (λ x. IsAccepted (plain_design x)) c.design.ensures.value c.design.ensures.accepted) is;
    }

pub returns-in-Ok-clause-paths : goal.returns-in-Ok-clause-paths
returns-in-Ok-clause-paths c =
    let i = tree_of (plain_design c.args.design.now) in
    let rows = c.in-Ok.ensures.groups ∙ ap (λ d. rows_in (tree_of (plain_design d)) 0 []) c.design.ensures.value in
    IfOk-weaker c.checked.result _ (λ p. map (λ (g : ProfiledGroup). g.path) p.groups.items ≡ map (group_path i) (entries_of i))
    (λ p is. ap (map (λ (g : ProfiledGroup). g.path)) (is ∙ rows) ∙ rows-paths i) c.checked.ensures.groups

pub returns-in-Ok-clause-groups : goal.returns-in-Ok-clause-groups
returns-in-Ok-clause-groups c =
    let i = tree_of (plain_design c.args.design.now) in
    let rows = c.in-Ok.ensures.groups ∙ ap (λ d. rows_in (tree_of (plain_design d)) 0 []) c.design.ensures.value in
    IfOk-weaker c.checked.result _ (λ p. map (λ (g : ProfiledGroup). g.group) p.groups.items ≡ map (λ (e : ProfileEntry). e.group) (entries_of i))
    (λ p is. ap (map (λ (g : ProfiledGroup). g.group)) (is ∙ rows) ∙ rows-groups i) c.checked.ensures.groups

pub returns-in-Ok-clause-instances : goal.returns-in-Ok-clause-instances
returns-in-Ok-clause-instances c =
    let i = tree_of (plain_design c.args.design.now) in
    let rows = c.in-Ok.ensures.groups ∙ ap (λ d. rows_in (tree_of (plain_design d)) 0 []) c.design.ensures.value in
    IfOk-weaker c.checked.result _ (λ p. map (λ (g : ProfiledGroup). slice_get (paths_of i) g.instance) p.groups.items ≡ map (λ (e : ProfileEntry). Some e.path) (entries_of i))
    (λ p is. ap (map (λ (g : ProfiledGroup). slice_get (paths_of i) g.instance)) (is ∙ rows) ∙ rows-instances i) c.checked.ensures.groups

pub returns-in-Ok-clause-all_limits : goal.returns-in-Ok-clause-all_limits
returns-in-Ok-clause-all_limits c told first =
    let is = c.in-Ok.ensures.design ∙ ap (λ x. instrumented (plain_design x)) c.design.ensures.value in
    subst (λ d. MatchResult c.checked.result (λ p. ⊥) (λ refusal. TellsAs d told refusal)) is (c.checked.ensures.all_limits told (subst (λ d. IsFirstOf 7 d told) (sym is) first))
