-- How a server of a site answers, by one pass of it.

use Rattle.rand_pcg.specs.Lcg.{Lcg}
use Rattle.rand_pcg.specs.Pcg.{pcg64}
use Rattle.std.specs.Prelude.{Err, List, Ok, ℕ, ◌≡◌, ◌⊎◌}
use Rattle.zq_resp.specs.Reply.{reply_bytes}
use Rattle.zq_resp.specs.declared.reply.Reply.{Reply}
use Rattle.zq_session.specs.Refusals.{IsRefusalOf}
use Rattle.zq_session.specs.declared.site_pass.SitePass.{SitePass}
use Rattle.zq_spread.specs.Dispatch.{IsCalled}
use Rattle.zq_spread.specs.declared.pass.Pass.{Pass}
use Rattle.zq_spread.specs.declared.site.Site.{Site}
use Rattle.zq_words.specs.Command.{Command, Reading, Zpopnear, command_of}
use Rattle.zq_words.specs.Words.{Word}

-- a site, one of its passes, and the generator of what is drawn
pub record Passed : Type 0 where
  pub site : Site
  pub pass : Pass
  pub draws : Lcg

abbrev pub passed : Site → Pass → Lcg → Passed
passed site pass draws = record { site = site; pass = pass; draws = draws }

abbrev pub passed_by : SitePass → Lcg → Passed
passed_by own draws = passed own.site.now own.pass draws

-- the words that a command is called with: the generator's next two for ZPOPNEAR, and 0 for the
-- others, which look at none
abbrev pub words_for : Command → Lcg → ℕ × ℕ
words_for (Zpopnear key) draws = ((pcg64 draws).0, (pcg64 (pcg64 draws).1).0)
words_for command draws = (0, 0)

-- the generator after the command: ZPOPNEAR alone takes words
abbrev pub draws_after : Command → Lcg → Lcg
draws_after (Zpopnear key) draws = (pcg64 (pcg64 draws).1).1
draws_after command draws = draws

-- the site answers the command as a call of the pass
pub record IsPassedOn (old : Passed) (command : Command) (new : Passed) (reply : Word) : Type 0
  where
    pub site : new.site ≡ old.site
    pub called : let words =
        words_for command old.draws in IsCalled old.site command words.0 words.1 reply old.pass
        new.pass
    pub draws : new.draws ≡ draws_after command old.draws

-- a request is such a call; what is no command, or finds no memory for its pairs, is refused and
-- changes nothing
abbrev pub PassesReading : Passed → Reading → Passed → Word → Type 0
PassesReading old (Ok command) new reply = IsPassedOn old command new reply
    ⊎ ((new ≡ old) × IsRefusalOf (Ok command) reply)
PassesReading old (Err refused) new reply = (new ≡ old) × IsRefusalOf (Err refused) reply

-- the site, the pass and the draws before, the request's words, the reply, and the same after
abbrev pub AnswersByCall : Passed → List Word → Reply → Passed → Type 0
AnswersByCall old words reply new = PassesReading old (command_of words) new (reply_bytes reply)
