use Rattle.std.proofs.Common.{◌≡◌, ◌∙◌, ◌≤◌, ℕ, ap, sym, get_or, false, length, rules}
use Rattle.std.proofs.lemmas.List.{get_or_past}
use Rattle.cx_share.proofs.BitLemmas.{is_zero, none_in}
use Rattle.cx_share.proofs.marks.Marks.is_bare.Goals as goal

pub returns-in-None : goal.returns-in-None
returns-in-None c =
    let words = c.self.inside.words.items in
    let past : length c.deref.result.now ≤ c.args.word = search rules in
    let none : ◌≡◌ {A = ℕ} (get_or words c.args.word 0) 0 = get_or_past words c.args.word 0 (rw (sym c.deref.ensures.value) past) in
    record { value = λ t n e. ap (λ m. get_or m n false) (sym c.self.view_is) ∙ none_in c.self.inside.count words c.args.word n none e }

pub returns-in-Some : goal.returns-in-Some
returns-in-Some c =
    let words = c.self.inside.words.items in
    let there : c.in-Some.bits.now ≡ get_or c.deref.result.now c.args.word 0 = search rules in
    record {
      value = λ t n e. ap (λ m. get_or m n false) (sym c.self.view_is)
          ∙ none_in c.self.inside.count words c.args.word n (ap (λ ws. get_or ws c.args.word 0) (sym c.deref.ensures.value) ∙ sym there ∙ is_zero c.in-Some.bits.now t) e;
    }
