use Rattle.zq_shard.proofs.shard.Shard.next_dot.Goals as goal

pub returns-clause-sound : goal.returns-clause-sound
returns-clause-sound c = λ act within. c.in_ok-next_here.ensures.sound c.args.key.now c.args.member.now act c.requires.key c.requires.member within
