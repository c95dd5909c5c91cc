use Rattle.zq_peers.proofs.sending.AnySends.send.Goals as goal

pub returns : goal.returns
returns g c = (c.write_frame-written.result, c.write_frame-written.ensures.written, c.pass_on.ensures)
