use Rattle.zq_links.proofs.Runs.{none_is_invented, none_is_repeated}
use Rattle.zq_links.proofs.link_laws.no_frame_is_invented.Goals as goal

pub returns-clause-invented : goal.returns-clause-invented
returns-clause-invented c = none_is_invented

pub returns-clause-repeated : goal.returns-clause-repeated
returns-clause-repeated c = none_is_repeated
