use Rattle.zq_adopt.proofs.adopting.make_log.Goals as goal

pub fill_log-requires-clause-all : goal.fill_log-requires-clause-all
fill_log-requires-clause-all g c = record {
  first = c.args.blank;
  blank = c.requires.blank;
  read = c.in-Ok.ensures.replayed;
}
