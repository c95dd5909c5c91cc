use Rattle.zq_inspect.proofs.Used.{total_next, used_next}
use Rattle.zq_inspect.proofs.log_file.LogFileSource.read.Goals as goal

pub invariant_of-self-2 : goal.invariant_of-self-2
invariant_of-self-2 g c =
    let log = c.args.self.now in
    let before = log.answers.events in
    let after = c.note-2.new.self.events in
    let is = c.note-2.ensures in
    record {
      total_is = total_next before after _ _ is log.total c.in-Some.total c.in-Ok.n log.total_is
          c.in-Ok.ensures.bound.1 c.in-Some.ensures.1;
      used_is = used_next before after _ _ is log.total log.used c.used_behind-used.result
          log.total_is log.used_is c.used_behind-used.ensures;
    }
