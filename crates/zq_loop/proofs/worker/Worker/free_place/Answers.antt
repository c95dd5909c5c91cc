use Rattle.zq_loop.proofs.Living.{rests-push}
use Rattle.zq_loop.proofs.worker.Worker.free_place.Goals as goal

pub returns : goal.returns
returns g c = rests-push c.args.self.now.clients.items c.push.new.self.items c.in_ok-push.ensures.items
