-- Statements that are lowered one after the other.
use Rattle.std.proofs.Common.{◌≡◌, List, [], ◌∷◌, ◌++◌, ◌∙◌, ap}
use Rattle.cx_meaning.specs.Designs.{PlainComponent, PlainStatement, PlainStatements, a_statement}
use Rattle.cx_meaning.proofs.DesignsLemmas.{joined, joined_more}
use Rattle.cx_static.specs.Lowering.{Lowering, after, parts_after, lowered, lowered_parts}

module _ (part : PlainComponent) (s : PlainStatement) (rest : PlainStatements) (l : Lowering) (made : PlainStatement) (m : Lowering) where
  -- one more is lowered
  pub lowered_more : (before : List PlainStatement) (whole : PlainStatements) → made ≡ lowered part s l → m ≡ after part s l
      → joined before (lowered_parts part (a_statement s rest) l) ≡ whole → joined (before ++ made ∷ []) (lowered_parts part rest m) ≡ whole
  lowered_more before whole is then h =
      joined_more before made (lowered_parts part rest m)
      ∙ ap (λ x. joined before (a_statement x (lowered_parts part rest m))) is
      ∙ ap (λ k. joined before (a_statement (lowered part s l) (lowered_parts part rest k))) then
      ∙ h

  pub after_more : (whole : Lowering) → m ≡ after part s l → parts_after part (a_statement s rest) l ≡ whole → parts_after part rest m ≡ whole
  after_more whole then h = ap (parts_after part rest) then ∙ h
