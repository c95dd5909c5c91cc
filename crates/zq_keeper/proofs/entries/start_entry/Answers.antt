use Rattle.zq_keeper.proofs.entries.start_entry.Goals as goal

pub returns : goal.returns
returns c = record {
  spelled = c.in_ok-entry.ensures.written;
  read = c.in_ok-entry.ensures.again c.ranged.ensures;
}
