use Rattle.std.proofs.Common.{◌≡◌, ◌∙◌, sym, List, ℕ, Some, cond, nat_eq, ap}
use Rattle.std.specs.Cmp.Lexicographic.{pointwise}
use Rattle.cx_names_scopes.specs.Numbered.{number_in}
use Rattle.cx_names_scopes.proofs.NameLemmas.{kept_number, new_number}
use Rattle.cx_names_scopes.proofs.numbers.Numbers.add.Goals as goal

pub returns-then-contains_key : goal.returns-then-contains_key
returns-then-contains_key c = λ n. kept_number (number_in c.args.self.now) c.args.name.now n c.args.number (sym c.contains_key.ensures ∙ c.if-contains_key.true)

pub returns : goal.returns
returns c = λ n.
    let same : c.in_ok-name.name ≡ c.args.name.now = c.in_ok-name.ensures.value ∙ c.bytes.ensures.value in
    c.in_ok-insert.ensures.updates.0 n
    ∙ ap (λ (key : List ℕ). cond (pointwise nat_eq key n) (Some c.args.number) (number_in c.args.self.now n)) same
    ∙ new_number (number_in c.args.self.now) c.args.name.now n c.args.number (sym c.contains_key.ensures ∙ c.if-contains_key.false)
