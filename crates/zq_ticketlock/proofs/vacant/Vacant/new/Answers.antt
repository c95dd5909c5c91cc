use Rattle.zq_ticketlock.proofs.Vacancies.{opens}
use Rattle.zq_ticketlock.proofs.vacant.Vacant.new.Goals as goal

pub vacant-requires : goal.vacant-requires
vacant-requires g c = opens g.T.Keeps.holds g.T.Keeps.follows c.args.ticket
