use Rattle.std.proofs.Common.{◌≡◌, ℕ, true, false, ap, length, nat_eq, sym, subst, ◌∙◌, arith}
use Rattle.std.specs.Vec.{vec_len}
use Rattle.cx_graphs.proofs.Members.{targets_are}
use Rattle.cx_graphs.specs.Graphs.{edges_of, targets_of}
use Rattle.cx_text.specs.Members.{In}
use Rattle.cx_design_leads.proofs.EdgeLemmas.{something}
use Rattle.cx_design_leads.proofs.leading.is_bare.Goals as goal

pub returns : goal.returns
returns c =
    let list = c.index-edges-node.result in
    let size : vec_len list ≡ length list.items = omega (arith, list.ok.0) in
    let its : targets_of (edges_of c.args.edges.now) c.args.node ≡ list.items = targets_are c.args.edges.now c.args.node list c.requires.there c.index-edges-node.is in
    record {
      none_so_far = λ more.
          subst (λ xs. (n : ℕ) × In xs n) (sym its)
          (something list.items (λ none. let no : false ≡ true = sym more ∙ c.is_empty.ensures ∙ ap (λ n. nat_eq n 0) (size ∙ none) in absurd (cc)));
    }
