use Rattle.std.proofs.Common.{refl}
use Rattle.cx_rewrites.specs.Renaming.{renamed}
use Rattle.cx_rewrites.proofs.ReflectLemmas.{depends_back, circle_back}
use Rattle.cx_rewrites.proofs.sight_laws.circles_come_back.Goals as goal

pub returns-clause-depends : goal.returns-clause-depends
returns-clause-depends g c = λ i j cell act more p q parts here depends. depends_back i j cell act more g.W.Rewriting.inside parts p q (renamed cell p) here refl depends

pub returns-clause-circle : goal.returns-clause-circle
returns-clause-circle g c = λ i j cell act more p parts one here depends. circle_back i j cell act more g.W.Rewriting.inside parts one p here depends
