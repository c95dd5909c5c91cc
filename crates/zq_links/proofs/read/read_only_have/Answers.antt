use Rattle.std.proofs.Common.{ap, append-nil, refl, ◌++◌, ◌∙◌, ◌∷◌}
use Rattle.zq_links.specs.Frame.{have_of}
use Rattle.zq_links.specs.Kind.{kind_byte}
use Rattle.zq_links.specs.Spelling.{HaveIn, have_bytes}
use Rattle.zq_links.specs.declared.kind.Kind.TheVariants as kind
use Rattle.zq_links.proofs.read.read_only_have.Goals as goal

pub returns-clause-found : goal.returns-clause-found
returns-clause-found c =
    let v = c.args.version in
    let h = have_of c.in_ok-have.have in
    let is = c.in_ok-have.ensures.found ∙ (ap (λ r. have_bytes v h ++ r) c.in_ok-read_end.ensures.end ∙ append-nil (have_bytes v h)) in
    (HaveIn v h, c.in_ok-have.ensures.version, refl, ap (λ b. kind_byte (kind.Have v) ∷ b) is)
