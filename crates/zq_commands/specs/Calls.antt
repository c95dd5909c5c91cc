-- What running what a site is asked over the books that are lent needs and comes to.

use Rattle.std.specs.Prelude.{All, Bool, List, map, ℕ, ◌++◌, ◌≡◌}
use Rattle.zq_commands.specs.Commands.{HasBooks}
use Rattle.zq_commands.specs.Lending.{HasBook, Lending, queues_in}
use Rattle.zq_commands.specs.Running.{EndsOver}
use Rattle.zq_model.specs.Books.{Book}
use Rattle.zq_model.specs.Rule.{Rule}
use Rattle.zq_semantics.specs.Procedures.{Procedure, RunsAll, procedure}
use Rattle.zq_words.specs.Calls.{Call, Plain, Scores, call_shown}
use Rattle.zq_words.specs.Words.{Word}
use Rattle.zq_words.specs.declared.site_call.SiteCall.{SiteCall}

-- each member that is named lies in one of the heaps
abbrev pub HasCallBooks : Call → Lending → Type 0
HasCallBooks (Plain command) lent = HasBooks command lent
HasCallBooks (Scores key members) lent = All (λ member. HasBook key member lent) members
HasCallBooks asked lent = Unit {0}

-- the procedure runs over the books, whole or in part, and only what is short was cut for want of
-- memory
abbrev pub EndsProcedure : ℕ → ℕ → Procedure → Lending → Lending → Word → Bool → Type 0
EndsProcedure site stamp p old new reply short =
    EndsOver site stamp (p.takes (queues_in old)) (p.plan (queues_in old)) (p.cut (queues_in old))
    old new reply short

abbrev pub procedures : List SiteCall → List Procedure
procedures calls = map (λ asked. procedure (call_shown asked)) calls

-- the procedures run one after the other, and their replies stand behind those that were there
abbrev pub AnswersAll : Rule → ℕ → ℕ → List Procedure → List Book → List Book → List Word →
    List Word → Type 0
AnswersAll rule site stamp ps old new before later = (replies : List Word)
    × (later ≡ before ++ replies) × RunsAll rule site stamp ps old new replies
