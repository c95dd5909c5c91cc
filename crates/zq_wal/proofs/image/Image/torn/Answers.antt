use Rattle.std.proofs.Common.{◌∙◌, ◌<◌, ◌≤◌, ⊎_elim, arith, inl, inr, length, rules}
use Rattle.zq_wal.proofs.Images.{torn_on}
use Rattle.zq_wal.proofs.image.Image.torn.Goals as goal

pub loop-at-preserved : goal.loop-at-preserved
loop-at-preserved c =
    let self = c.args.self.now in
    let most : c.shorter-many.result ≤ length self.loose.items = search rules in
    let within : c.loop-at.at < length self.loose.items = omega (arith, c.loop-at-test.true, most) in
    torn_on self c.loop-at.at c.loop-at.left.items c.push.new.self.items c.left_byte.result c.index.result.now within c.loop-at.invariant c.in_ok-push.ensures.items
    (⊎_elim (λ kept. inl (kept ∙ c.index.ensures)) (λ lost. inr lost) c.left_byte.ensures)
