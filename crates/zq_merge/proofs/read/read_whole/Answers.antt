use Rattle.zq_merge.proofs.BuiltStates.{found_whole}
use Rattle.zq_merge.specs.Framed.{frame_of}
use Rattle.zq_merge.proofs.read.read_whole.Goals as goal

pub returns-clause-found : goal.returns-clause-found
returns-clause-found c =
    found_whole c.in_ok-version.version (frame_of c.in_ok-frame.frame) c.read_keys.new.shard c.args.bytes.now c.read_version.new.bytes.now c.read_frame.new.bytes.now c.read_keys.new.bytes.now c.in_ok-version.ensures.found c.in_ok-frame.ensures.found c.in_ok-read_keys.ensures.found c.in_ok-read_end.ensures.end c.in_ok-read_keys.ensures.built c.in_ok-frame.ensures.rule c.in_ok-frame.ensures.vector
