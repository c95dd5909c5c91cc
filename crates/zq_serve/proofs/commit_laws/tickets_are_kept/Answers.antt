use Rattle.zq_serve.proofs.Tickets.{done_stays, none_is_done_early, own_lets_go, own_tickets_are_held, tickets_are_held}
use Rattle.zq_serve.proofs.commit_laws.tickets_are_kept.Goals as goal

pub returns-clause-held : goal.returns-clause-held
returns-clause-held c = tickets_are_held

pub returns-clause-early : goal.returns-clause-early
returns-clause-early c = none_is_done_early

pub returns-clause-stays : goal.returns-clause-stays
returns-clause-stays c = done_stays

pub returns-clause-own : goal.returns-clause-own
returns-clause-own c = own_tickets_are_held

pub returns-clause-own_behind : goal.returns-clause-own_behind
returns-clause-own_behind c = own_lets_go
