use Rattle.std.proofs.Common.{ap, sym}
use Rattle.std.specs.Prelude.{take}
use Rattle.zq_client.proofs.password.first_word.Goals as goal
use Rattle.zq_words.proofs.Positions.{passes_at, passes_nowhere}

pub returns-in-None : goal.returns-in-None
returns-in-None c = sym (passes_nowhere _ c.args.bytes.now (sym c.in-None.ensures.place)).1

pub returns-in-Some : goal.returns-in-Some
returns-in-Some c = ap (λ n. take n c.args.bytes.now) (sym (passes_at _ c.args.bytes.now _ (sym c.in-Some.ensures.place)).1)
