use Rattle.std.proofs.Common.{◌≡◌, ◌-◌, length, take, drop, arith, length-drop}
use Rattle.std.proofs.lemmas.List.{take_all}
use Rattle.zq_session.proofs.KnownBytes.{appends-on}
use Rattle.zq_session.proofs.transfer.put_all.Goals as goal

pub loop-at-preserved : goal.loop-at-preserved
loop-at-preserved g c =
    let bytes = c.args.bytes.now in
    let at = c.loop-at.at in
    let rest : take (length bytes - at) (drop at bytes) ≡ drop at bytes = take_all _ _ (omega (arith, length-drop at bytes)) in
    let bound = rw rest at c.in-Ok.ensures.0 in
    let written = rw rest at c.in-Ok.ensures.1 in
    record {
      within = omega (arith, bound, length-drop at bytes);
      written = appends-on _ _ _ bytes at c.in-Ok.count c.loop-at.invariant.written written;
    }
