use Rattle.std.proofs.Common.{List, length, ◌%◌, ◌+◌, ◌^◌, ◌≡◌}
use Rattle.rand_core.specs.Pcg32Seed.{pcg32_seed}
use Rattle.rand_pcg.specs.Pcg.{pcg32_of_seed}
use Rattle.std.specs.Arc.{arc_value}
use Rattle.zq_drill.proofs.calling.call_rounds.Given as goal
use Rattle.zq_drill.specs.SiteHandles.{site_of}
use Rattle.zq_drill.specs.Rounds.{AreRounds}
use Rattle.zq_words.specs.Words.{Word}

abbrev pub invariant-loop-round : goal.invariant-loop-round
invariant-loop-round g l =
    (l.handle.drill_site ≡ l.initial.handle.drill_site)
    × ((replies : List Word) × (length replies ≡ l._round)
    × AreRounds (site_of l.initial.handle) (pcg32_of_seed (pcg32_seed 16 ((l.seed + (arc_value l.initial.handle.drill_site).number) % 2 ^ 64))) l.draws l.initial.handle.pass l.handle.pass replies)
