use Rattle.zq_notes.proofs.Noted.{calls, calls_each, calls_watched, copies, drains, merges, portions, shows, takes, takes_all, takes_over, tells}
use Rattle.zq_notes.proofs.calls.noting.Goals as goal

pub returns-clause-calls : goal.returns-clause-calls
returns-clause-calls c = calls

pub returns-clause-calls_each : goal.returns-clause-calls_each
returns-clause-calls_each c = calls_each

pub returns-clause-calls_watched : goal.returns-clause-calls_watched
returns-clause-calls_watched c = calls_watched

pub returns-clause-takes : goal.returns-clause-takes
returns-clause-takes c = takes

pub returns-clause-takes_all : goal.returns-clause-takes_all
returns-clause-takes_all c = takes_all

pub returns-clause-merges : goal.returns-clause-merges
returns-clause-merges c = merges

pub returns-clause-takes_over : goal.returns-clause-takes_over
returns-clause-takes_over c = takes_over

pub returns-clause-tells : goal.returns-clause-tells
returns-clause-tells c = tells

pub returns-clause-drains : goal.returns-clause-drains
returns-clause-drains c = drains

pub returns-clause-copies : goal.returns-clause-copies
returns-clause-copies c = copies

pub returns-clause-portions : goal.returns-clause-portions
returns-clause-portions c = portions

pub returns-clause-shows : goal.returns-clause-shows
returns-clause-shows c = shows
