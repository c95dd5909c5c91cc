use Rattle.zq_wire.proofs.OutboxRuns.{keeps_its_place, newest_is_last, none_is_invented, wait_few}
use Rattle.zq_wire.proofs.outbox_laws.the_newest_is_sent.Goals as goal

pub returns-clause-invented : goal.returns-clause-invented
returns-clause-invented c = none_is_invented

pub returns-clause-newest : goal.returns-clause-newest
returns-clause-newest c = newest_is_last

pub returns-clause-place : goal.returns-clause-place
returns-clause-place c = keeps_its_place

pub returns-clause-few : goal.returns-clause-few
returns-clause-few c = wait_few
