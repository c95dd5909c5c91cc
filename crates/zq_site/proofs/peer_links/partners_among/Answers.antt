use Rattle.std.proofs.Common.{arith}
use Rattle.std.proofs.lemmas.Grind.{common_steps}
use Rattle.std.proofs.lemmas.List.Elements.{filter_more}
use Rattle.zq_site.specs.PeerLinks.{may_meet}
use Rattle.zq_site.proofs.peer_links.partners_among.Goals as goal

pub loop-site-preserved : goal.loop-site-preserved
loop-site-preserved c = grind (arith, common_steps, filter_more (may_meet c.args.settings.now.site c.args.settings.now.accept c.args.settings.now.peers) c.args.sites.now c.loop-site.site-index 0)
