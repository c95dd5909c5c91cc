use Rattle.zq_drill.proofs.Opened.{first_of_three}
use Rattle.zq_drill.proofs.opening.append_handles.Goals as goal

pub returns : goal.returns
returns c =
    let popped = c.in-Some-Some-Some in (
      popped.last,
      first_of_three c.args.three.items c.pop.new.self.items c.pop-2.new.self.items c.pop-3.new.self.items popped.caller popped.link popped.last popped.ensures.items popped.ensures'.items popped.ensures''.items c.requires,
      c.in_ok-push-3.ensures.items,
    )
