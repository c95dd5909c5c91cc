use Rattle.zq_inspect.proofs.Seeing.{seen}
use Rattle.zq_inspect.proofs.inspection.inspect.Goals as goal
use Rattle.zq_inspect.specs.Bytes.{given_by}

pub returns-in-Ok-clause-found : goal.returns-in-Ok-clause-found
returns-in-Ok-clause-found g c =
    let log = c.read_records.new.source in
    seen (given_by log.answers.events) c.taken.result c.in-Ok.found log.used c.new-recall.result
    c.read_records.new.replay c.in-Ok.ensures.found c.new-recall.ensures
    c.in-Ok.ensures.replayed log.used_is c.taken.ensures.state c.taken.ensures.records
    c.taken.ensures.torn c.taken.ensures.reader
