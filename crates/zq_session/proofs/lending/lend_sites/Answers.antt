use Rattle.zq_session.proofs.MadeAndLent.{made_own}
use Rattle.zq_session.proofs.lending.lend_sites.Goals as goal

pub lend_all-requires : goal.lend_all-requires
lend_all-requires c = made_own c.args.plans.now c.args.made.now c.requires
