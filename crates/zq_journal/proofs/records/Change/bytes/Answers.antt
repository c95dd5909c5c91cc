use Rattle.std.proofs.Common.{[], ap, arith, length, ◌≡◌}
use Rattle.zq_journal.proofs.Weights.{bytes_whole}
use Rattle.zq_journal.specs.Records.{placed_in, whole}
use Rattle.zq_journal.proofs.records.Change.bytes.Goals as goal

pub returns : goal.returns
returns c =
    let key : length c.key.result.now ≡ length (placed_in (whole 0 0 [] c.args.self.now)).operation.key = ap length (c.key.ensures 0 0 []) in
    let member : length c.member.result.now ≡ length (placed_in (whole 0 0 [] c.args.self.now)).operation.member = ap length (c.member.ensures 0 0 []) in
    omega (arith, key, member, bytes_whole 0 0 [] c.args.self.now)
