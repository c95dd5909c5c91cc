use Rattle.std.proofs.Common.{rules, tests, ◌<◌, ◌≡◌}
use Rattle.zq_stage.specs.Piece.{MOST_PIECES}
use Rattle.zq_stage.proofs.stage.Stage.judge.Goals as goal

pub returns-clause-next : goal.returns-clause-next
unfolding MOST_PIECES
returns-clause-next c =
    let heap : c.args.self.now.held.heap ≡ c.args.piece.now.heap = search (rules, tests) in
    let heaps : c.args.self.now.held.heaps ≡ c.args.piece.now.heaps = search (rules, tests) in
    let rule : c.args.self.now.held.rule ≡ c.args.piece.now.rule = search (rules, tests) in
    let life : c.args.self.now.life ≡ c.args.life = search (rules, tests) in
    let number : c.args.self.now.next ≡ c.args.number = search (rules, tests) in
    let few : c.args.number < MOST_PIECES = search (rules, tests) in
    let vector : c.args.self.now.held.image.vector ≡ c.args.piece.now.image.vector = search (rules, tests) in
    record { heap = record { heap = heap; heaps = heaps }; rule = rule; same_life = life; is_next = number; few = few; vector = vector }
