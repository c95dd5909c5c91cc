use Rattle.std.proofs.Common.{refl, subst, sym, ◌∙◌}
use Rattle.zq_commands.specs.Lending.{IsLending}
use Rattle.zq_commands.proofs.indexing.index_each.Goals as goal

pub loop-key-init : goal.loop-key-init
loop-key-init g c = record { same = refl; keeps = g.met.B.Books.keeps_itself _ }

pub index_all-requires : goal.index_all-requires
index_all-requires g c = subst IsLending (sym c.loop-key.invariant.same) c.requires

pub loop-key-preserved : goal.loop-key-preserved
loop-key-preserved g c = record {
  same = c.index_all.ensures.same ∙ c.loop-key.invariant.same;
  keeps = g.met.B.Books.keeps_through _ _ _ c.loop-key.invariant.keeps c.index_all.ensures.keeps;
}
