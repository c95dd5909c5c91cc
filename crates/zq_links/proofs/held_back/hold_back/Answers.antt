use Rattle.zq_links.specs.Frames.{held_in}
use Rattle.std.proofs.lemmas.Result.{on_ok_weaker}
use Rattle.zq_links.proofs.Newest.{newest_with}
use Rattle.zq_links.proofs.held_back.hold_back.Goals as goal

pub returns-clause-held : goal.returns-clause-held
returns-clause-held c =
    let pushed = c.push_last-result in
    on_ok_weaker pushed.result (newest_with (held_in c.args.held.now) c.taken-frames.result.items pushed.new.frames.items c.args.frame c.taken-frames.ensures) pushed.ensures.held
