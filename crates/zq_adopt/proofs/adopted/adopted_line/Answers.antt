use Rattle.std.proofs.Common.{IfOk, List, append_assoc, subst, sym, ℕ, ◌++◌, ◌≡◌}
use Rattle.std.specs.Prelude.{codes, decimal}
use Rattle.zq_adopt.proofs.adopted.adopted_line.Goals as goal

-- texts that are appended one after the other, from the last one on
in_a_row : (a b c d e f g h i : List ℕ) →
    a ++ (b ++ (c ++ (d ++ (e ++ (f ++ (g ++ (h ++ i))))))) ≡ a ++ b ++ c ++ d ++ e ++ f ++ g ++ h ++ i
in_a_row a b c d e f g h i = simp (append_assoc)

pub returns : goal.returns
returns c =
    let x = c.args.adopted.now in
    let is = in_a_row (codes "site ") (decimal c.value-site.result) (codes " heaps ") (decimal x.heaps)
    (codes " members ") (decimal x.members) (codes " operations ") (decimal x.operations) (codes "\n") in
    rw (sym c.value-site.ensures.same)
    (subst (λ text. IfOk c.format.result (λ line. line.bytes.items ≡ text)) is c.format.ensures.ok)
