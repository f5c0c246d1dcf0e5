use Rattle.std.proofs.Common.{◌≡◌, ◌∙◌, true, List, ap, ap₂, subst, sym}
use Rattle.cx_net.specs.NetsAsData.{plain_net}
use Rattle.cx_vtree.specs.Plain.{PlainExternal, PlainModule, PlainSource}
use Rattle.cx_vtree.specs.PlainParts as text
use Rattle.cx_vtree.specs.Sound.{is_sound}
use Rattle.cx_emit.specs.RunsAs.{RunsAs}
use Rattle.cx_emit.proofs.RowLemmas.{rows_of-source_of}
use Rattle.cx_emit.proofs.RunLemmas.{source_runs_as}
use Rattle.cx_emit.proofs.Soundness.{emitted_sound}
use Rattle.cx_emit.proofs.emitting.emit.Goals as goal

pub new-requires : goal.new-requires
new-requires c =
    let whole : List PlainExternal → List PlainModule → PlainSource = λ externals modules. record { externals = externals; modules = modules } in
    subst (λ (s : PlainSource). is_sound s ≡ true) (sym (ap₂ whole c.in_ok-externals.ensures.value c.in_ok-modules.ensures.value)) (emitted_sound (plain_net c.args.net.now) c.requires.net)

pub returns : goal.returns
returns c =
    let whole : List PlainExternal → List PlainModule → PlainSource = λ externals modules. record { externals = externals; modules = modules } in
    let same = c.new.ensures ∙ ap₂ whole c.in_ok-externals.ensures.value c.in_ok-modules.ensures.value in
    let net = plain_net c.args.net.now in
    let can = c.requires.net in
    record {
      value = same;
      rows = ap (λ (s : PlainSource). text.rows_of s.externals) same ∙ rows_of-source_of net;
      runs = subst (λ (s : PlainSource). RunsAs net s) (sym same) (source_runs_as net can.fits can.no_holes (emitted_sound net can));
    }
