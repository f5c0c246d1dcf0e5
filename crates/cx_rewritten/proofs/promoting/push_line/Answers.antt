use Rattle.std.proofs.Common.{◌∷◌, ◌++◌, codes, decimal, ap, ◌∙◌}
use Rattle.cx_rewritten.proofs.LineLemmas.{five_added}
use Rattle.cx_rewritten.proofs.promoting.push_line.Goals as goal

pub returns : goal.returns
returns c =
    let row = c.args.row.now in
    let begun = c.extend_from_slice.new.self.items in
    let first = c.push_word.new.text.items in
    let second = c.push_word-2.new.text.items in
    five_added c.args.text.now.items (codes "// promoted") (32 ∷ row.component) (32 ∷ row.group) (32 ∷ decimal row.cycles) (codes "\n") begun first second c.push_number.new.text.items c.push.new.self.items
    c.in_ok-extend_from_slice.ensures.items
    (c.in_ok-push_word.ensures ∙ ap (λ w. begun ++ 32 ∷ w) c.bytes.ensures.value)
    (c.in_ok-push_word-2.ensures ∙ ap (λ w. first ++ 32 ∷ w) c.bytes-2.ensures.value)
    c.in_ok-push_number.ensures
    c.in_ok-push.ensures.items
