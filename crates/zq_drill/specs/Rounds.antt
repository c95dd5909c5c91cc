-- What a caller does.

use Rattle.rand_pcg.specs.Lcg.{Lcg}
use Rattle.std.specs.Prelude.{List, Ok, [], ◌∷◌, ◌≡◌}
use Rattle.zq_drill.specs.Draws.{IsDrawn, draws_after}
use Rattle.zq_drill.specs.Requests.{request_of}
use Rattle.zq_drill.specs.declared.draws.Draw.{Draw}
use Rattle.zq_spread.specs.Dispatch.{IsCalled}
use Rattle.zq_spread.specs.declared.pass.Pass.{Pass}
use Rattle.zq_spread.specs.declared.site.Site.{Site}
use Rattle.zq_words.specs.Command.{Command, command_of}
use Rattle.zq_words.specs.Words.{Word}

-- the site was called with the command that the words are, by the draw's last two words, and gave
-- this reply
pub record IsAsked (site : Site) (words : List Word) (draw : Draw) (reply : Word)
    (before after : Pass) : Type 0 where
  pub command : Command
  pub is : command_of words ≡ Ok command
  pub called : IsCalled site command draw.first draw.second reply before after

-- a round by these words
abbrev pub IsRound : Site → Draw → Word → Pass → Pass → Type 0
IsRound site draw reply before after = IsAsked site (request_of draw) draw reply before after

-- rounds by the draws of a generator, one after the other, each with its reply; the latest stands
-- first
abbrev pub AreRounds : Site → Lcg → Lcg → Pass → Pass → List Word → Type 0
AreRounds site old new before after [] = (new ≡ old) × (after ≡ before)
AreRounds site old new before after (reply ∷ replies) =
    (g : Lcg) × (mid : Pass) × (draw : Draw) × AreRounds site old g before mid replies
    × IsDrawn g draw × (new ≡ draws_after g) × IsRound site draw reply mid after
