use Rattle.zq_links.proofs.PiecesAgain.{newest_found, part_fails, part_read}
use Rattle.zq_links.proofs.piece.read_part.Goals as goal

pub returns-in-Ok-clause-exact : goal.returns-in-Ok-clause-exact
returns-in-Ok-clause-exact c =
    part_read c.in-Ok.part c.args.bytes.now c.in_ok-judge_version.ensures.newest
    c.in-Ok.ensures.exact

pub returns-in-Ok-clause-found : goal.returns-in-Ok-clause-found
returns-in-Ok-clause-found c =
    let found = c.in-Ok.ensures.found in
    newest_found found.0 c.in-Ok.part c.args.bytes.now c.in_ok-judge_version.ensures.first found.2

pub returns-in-Err-clause-exact : goal.returns-in-Err-clause-exact
returns-in-Err-clause-exact c =
    part_fails c.args.bytes.now c.in-Err.fault c.in-Err.ensures.exact c.in-Err.ensures.memory
    c.in_ok-judge_version.ensures.newest
