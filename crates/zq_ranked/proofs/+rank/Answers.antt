use Rattle.std.proofs.Common.{arith}
use Rattle.std.proofs.lemmas.List.Sums.{count_by-le-length}
use Rattle.zq_ranked.proofs.Children.{rank_at}
use Rattle.zq_ranked.proofs.Joined.{child_at, length_at, sorted_at}
use Rattle.zq_ranked.specs.Key.{pair_of_key}
use Rattle.zq_ranked.specs.Order.{goes_before}
use Rattle.zq_ranked.specs.Shape.{joined}
use Rattle.zq_ranked.proofs.+rank.Goals as goal

pub fork::Fork::rank-rank-requires : goal.fork::Fork::rank-rank-requires
fork::Fork::rank-rank-requires t c =
    let xs = c.args.self.now.children.items in
    let i = c.place_of-place.result in
    let k = c.index.result.now in
    let h = c.place_of-place.ensures.within in
    let child = child_at xs i k h c.index.ensures c.args.self.now.level c.requires.fork.each in
    (grind (arith, child.level), (sorted_at xs i k h c.index.ensures c.requires.sorted, (omega (arith, length_at xs i k h c.index.ensures, c.requires.fits), λ z. child.filled)))

pub fork::Fork::rank-overflow_add-result : goal.fork::Fork::rank-overflow_add-result
fork::Fork::rank-overflow_add-result t c =
    let xs = c.args.self.now.children.items in
    let p = pair_of_key c.args.key.now in
    let r = rank_at xs c.place_of-place.result c.index.result.now c.place_of-place.ensures.within c.index.ensures p c.place_of-place.ensures.before c.place_of-place.ensures.after in
    omega (arith, r, c.before-2.ensures, c.rank.ensures, count_by-le-length (goes_before p) (joined xs), c.requires.fits)

pub fork::Fork::rank-returns : goal.fork::Fork::rank-returns
fork::Fork::rank-returns t c =
    let xs = c.args.self.now.children.items in
    let p = pair_of_key c.args.key.now in
    let r = rank_at xs c.place_of-place.result c.index.result.now c.place_of-place.ensures.within c.index.ensures p c.place_of-place.ensures.before c.place_of-place.ensures.after in
    omega (arith, r, c.before-2.ensures, c.rank.ensures)
