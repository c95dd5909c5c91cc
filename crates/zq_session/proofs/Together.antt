-- What comes of several requests that are answered as one.

use Rattle.std.proofs.Common.{ap, refl, subst, suc, sym, ◌∙◌}
use Rattle.std.proofs.lemmas.List.{length-map}
use Rattle.std.specs.Prelude.{List, None, Option, Some, [], length, map, ℕ, ◌∷◌, ◌≡◌}
use Rattle.zq_commands.specs.Calls.{procedures}
use Rattle.zq_dots.specs.Rule.{rule_of}
use Rattle.zq_model.specs.Books.{Book}
use Rattle.zq_model.specs.Rule.{Rule}
use Rattle.zq_resp.specs.Reply.{reply_bytes}
use Rattle.zq_resp.specs.declared.reply.Reply.{Reply}
use Rattle.zq_semantics.specs.Procedures.{Procedure, RunsAll, procedure}
use Rattle.zq_session.specs.Asking.{HaveRunAll}
use Rattle.zq_session.specs.Transacting.{RunTogether, calls_in, woven}
use Rattle.zq_session.specs.declared.queued.Queued.{Queued}
use Rattle.zq_spread.specs.Watches.{Watch}
use Rattle.zq_spread.specs.declared.pass.Pass.{Pass}
use Rattle.zq_spread.specs.declared.site.Site.{Site}
use Rattle.zq_words.specs.Calls.{Call, call_shown}
use Rattle.zq_words.specs.Words.{Word}
use Rattle.zq_words.specs.declared.site_call.SiteCall.{SiteCall}

-- what is called has its procedures
procedures_of : (calls : List SiteCall) → procedures calls ≡ map procedure (map call_shown calls)
procedures_of [] = refl
procedures_of (call ∷ calls) = ap (λ ps. procedure (call_shown call) ∷ ps) (procedures_of calls)

pub procedures_are : (calls : List SiteCall) (asked : List Call) → map call_shown calls ≡ asked → procedures calls ≡ map procedure asked
procedures_are calls asked is = procedures_of calls ∙ ap (map procedure) is

-- procedures that run have a reply each
replies_number : (rule : Rule) (site stamp : ℕ) (ps : List Procedure) (old new : List Book) (replies : List Word) → RunsAll rule site stamp ps old new replies → length ps ≡ length replies
replies_number rule site stamp [] old new [] ran = refl
replies_number rule site stamp [] old new (reply ∷ replies) ran = absurd ran
replies_number rule site stamp (p ∷ ps) old new [] ran = absurd ran
replies_number rule site stamp (p ∷ ps) old new (reply ∷ replies) ran = ap suc (replies_number rule site stamp ps ran.0 new replies ran.2)

-- what ran had a reply to each call, and nothing was there before
ran_so : (site : Site) (watch : Option Watch) (asked : List Call) (later : List Word) (before after : Pass) → HaveRunAll site watch (map procedure asked) [] later before after →
    RunTogether site watch asked later before after × (length asked ≡ length later)
ran_so site None asked later before after ran = (
  subst (λ replies. RunTogether site None asked replies before after) (sym ran.1) ran.2,
  sym (length-map asked procedure) ∙ replies_number (rule_of site.rule) site.number after.stamp (map procedure asked) _ _ ran.0 ran.2.0.done.ran ∙ ap length (sym ran.1),
)
ran_so site (Some watch) asked later before after ran = (
  subst (λ replies. RunTogether site (Some watch) asked replies before after) (sym ran.1) ran.2,
  sym (length-map asked procedure) ∙ replies_number (rule_of site.rule) site.number after.stamp (map procedure asked) _ _ ran.0 ran.2.0.done.1.ran ∙ ap length (sym ran.1),
)

module _ (site : Site) (queue : List Queued) (watch : Option Watch) (calls : List SiteCall) (before after : Pass) (are : map call_shown calls ≡ calls_in queue) where
  -- so their replies are woven
  pub come_ran : (asked : List SiteCall) (earlier replies room : List Reply) → asked ≡ calls → earlier ≡ [] →
      HaveRunAll site watch (procedures asked) (map reply_bytes earlier) (map reply_bytes replies) before after →
      (length (calls_in queue) ≡ length replies → map reply_bytes room ≡ woven queue (map reply_bytes replies)) →
      (said : List Word) × RunTogether site watch (calls_in queue) said before after × (map reply_bytes room ≡ woven queue said)
  come_ran asked earlier replies room same none ran put =
      let alone = subst (λ (had : List Reply). HaveRunAll site watch (procedures asked) (map reply_bytes had) (map reply_bytes replies) before after) none ran in
      let so = ran_so site watch (calls_in queue) (map reply_bytes replies) before after
      (subst (λ ps. HaveRunAll site watch ps [] (map reply_bytes replies) before after) (procedures_are asked (calls_in queue) (ap (map call_shown) same ∙ are)) alone) in
      (map reply_bytes replies, so.0, put (so.1 ∙ length-map replies reply_bytes))
