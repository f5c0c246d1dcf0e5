use Rattle.std.proofs.Common.{◌∙◌, ℕ, List, ap, sym}
use Rattle.serde_json.specs.Find.{get}
use Rattle.serde_json.specs.View.{view}
use Rattle.cx_data.proofs.LoadLemmas.{member_of-utf8, member_of-other}
use Rattle.cx_data.proofs.entries.member_of.Goals as goal

pub returns-in-Ok : goal.returns-in-Ok
returns-in-Ok c = record {
  value = c.get.ensures ∙ (ap (λ (name : List ℕ). get name (view c.args.top.now)) c.in-Ok.ensures.cases.0
      ∙ sym (member_of-utf8 c.args.name.now (view c.args.top.now) c.in-Ok.ensures.cases.1));
}

pub returns-in-Err : goal.returns-in-Err
returns-in-Err c = record { value = sym (member_of-other c.args.name.now (view c.args.top.now) c.in-Err.ensures.cases.0) }
