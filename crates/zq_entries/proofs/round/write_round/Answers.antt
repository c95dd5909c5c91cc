use Rattle.zq_entries.proofs.Rounds.{round_written}
use Rattle.zq_entries.proofs.round.write_round.Goals as goal

pub returns : goal.returns
returns c = λ round same.
    round_written (λ b. b.items) c.args.batches.now round c.byte.result c.new-out.result.items
    c.write_byte.new.out.items c.write_byte-2.new.out.items c.write_blocks.new.out.items
    c.byte.ensures c.new-out.ensures.items c.in_ok-write_byte.ensures.written c.in_ok-write_byte-2.ensures.written
    c.in_ok-write_blocks.ensures same
