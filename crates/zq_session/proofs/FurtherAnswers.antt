-- What a server of a site answers to further requests.

use Rattle.std.proofs.Common.{ap, false, inl, refl, subst, sym, true, ◌∙◌}
use Rattle.std.specs.Prelude.{Err, List, None, Ok, Option, Some, [], length, map, ℕ, ◌++◌, ◌∷◌, ◌≡◌}
use Rattle.zq_dialect.proofs.FurtherNames.{names_apart}
use Rattle.zq_dialect.specs.Further.{call_of, finding, further_of}
use Rattle.zq_dialect.specs.declared.further.Further.{Further}
use Rattle.zq_dots.specs.Rule.{rule_of}
use Rattle.zq_model.specs.Books.{Book}
use Rattle.zq_model.specs.Rule.{Rule}
use Rattle.zq_resp.specs.Reply.{line, reply_bytes}
use Rattle.zq_resp.specs.declared.reply.Reply.{Reply}
use Rattle.zq_semantics.specs.Procedures.{Procedure, RunsAll, procedure}
use Rattle.zq_session.proofs.Refused.{refusal_passes, refusal_read}
use Rattle.zq_session.specs.Calling.{AnswersFinding, AnswersFurther, IsAsked, IsAskedOf}
use Rattle.zq_session.specs.Passing.{AnswersByCall, IsPassedOn, Passed, PassesReading}
use Rattle.zq_spread.specs.Dispatch.{all_heaps}
use Rattle.zq_spread.specs.Each.{AreCalled, HasCalledEach}
use Rattle.zq_spread.specs.declared.pass.Pass.{Pass}
use Rattle.zq_spread.specs.declared.site.Site.{Site}
use Rattle.zq_words.specs.Calls.{Call}
use Rattle.zq_words.specs.Command.{Command, Reading, command, command_of, or_else}
use Rattle.zq_words.specs.Refused.{refused_text}
use Rattle.zq_words.specs.Shown.{IsRefusal, takes_memory}
use Rattle.zq_words.specs.Words.{Word}
use Rattle.zq_words.specs.declared.refused.Refused.{Refused}
use Rattle.zq_words.specs.declared.refused.Refused.TheVariants as refused

differ : false ≡ true → ⊥
differ e = cc

-- ---- one reply for what is asked alone

one_reply : (rule : Rule) (site stamp : ℕ) (p : Procedure) (old new : List Book) (replies : List Word) → RunsAll rule site stamp (p ∷ []) old new replies →
    (reply : Word) × (replies ≡ reply ∷ [])
one_reply rule site stamp p old new [] ran = absurd ran
one_reply rule site stamp p old new (reply ∷ []) ran = (reply, refl)
one_reply rule site stamp p old new (reply ∷ second ∷ others) ran = absurd ran.2

alone : (site : Site) (p : Procedure) (earlier : List Reply) (later : List Word) (before after : Pass) → earlier ≡ [] →
    HasCalledEach site (p ∷ []) (map reply_bytes earlier) later before after (all_heaps site) →
    (reply : Word) × (later ≡ reply ∷ []) × AreCalled site (p ∷ []) (reply ∷ []) before after (all_heaps site)
alone site p earlier later before after none is =
    let one = one_reply (rule_of site.rule) site.number after.stamp p _ _ is.0 is.2.0.done.ran in
    let behind : later ≡ is.0 = is.1 ∙ ap (λ (found : List Reply). map reply_bytes found ++ is.0) none in
    (one.0, behind ∙ one.1, subst (λ replies. AreCalled site (p ∷ []) replies before after (all_heaps site)) one.1 is.2)

one_item : (items : List Reply) (reply : Word) → map reply_bytes items ≡ reply ∷ [] → length items ≡ 1
one_item [] reply e = cc
one_item (item ∷ []) reply e = refl
one_item (item ∷ second ∷ items) reply e = cc

-- what was asked alone has one reply
pub one_came : (site : Site) (p : Procedure) (earlier items : List Reply) (before after : Pass) → earlier ≡ [] →
    HasCalledEach site (p ∷ []) (map reply_bytes earlier) (map reply_bytes items) before after (all_heaps site) → length items ≡ 1
one_came site p earlier items before after none is = let one = alone site p earlier (map reply_bytes items) before after none is in one_item items one.0 one.1

its_bytes : (items : List Reply) (item : Reply) (reply : Word) → map reply_bytes items ≡ reply ∷ [] → items ≡ item ∷ [] → reply ≡ reply_bytes item
its_bytes items item reply e f = first (sym e ∙ ap (map reply_bytes) f)
  where
    first : reply ∷ [] ≡ reply_bytes item ∷ [] → reply ≡ reply_bytes item
    first g = cc

pub asked_alone : (site : Site) (call : Call) (earlier items : List Reply) (item : Reply) (before after : Pass) → earlier ≡ [] →
    HasCalledEach site (procedure call ∷ []) (map reply_bytes earlier) (map reply_bytes items) before after (all_heaps site) → items ≡ item ∷ [] →
    IsAsked site call (reply_bytes item) before after
asked_alone site call earlier items item before after none is e =
    let one = alone site (procedure call) earlier (map reply_bytes items) before after none is in
    inl (subst (λ reply. AreCalled site (procedure call ∷ []) (reply ∷ []) before after (all_heaps site)) (its_bytes items item one.0 one.1 e) one.2)

-- ---- a command is no further request

-- what names a command names no further request
none_further : (words : List Word) → (command_of words ≡ Err refused.Unknown → ⊥) → call_of words ≡ Ok None
none_further [] known = refl
none_further (word ∷ words) known = by (further_of word) refl
  where
    by : (found : Option Further) → further_of word ≡ found → finding found words ≡ Ok None
    by None e = refl
    by (Some further) e = absurd (known (ap (λ found. or_else refused.Unknown found (λ known. command known words)) (names_apart word further e)))

as_command : (words : List Word) (old new : Passed) (reply : Reply) → (command_of words ≡ Err refused.Unknown → ⊥) → AnswersByCall old words reply new → AnswersFurther old words reply new
as_command words old new reply known is = subst (λ found. AnswersFinding old found words reply new) (sym (none_further words known)) is

pub command_answers : (words : List Word) (command : Command) (old new : Passed) (reply : Reply) → command_of words ≡ Ok command → IsPassedOn old command new (reply_bytes reply) →
    AnswersFurther old words reply new
command_answers words command old new reply e is =
    as_command words old new reply (λ unknown. ok_err (sym e ∙ unknown)) (subst (λ reading. PassesReading old reading new (reply_bytes reply)) (sym e) (inl is))
  where
    ok_err : ◌≡◌ {A = Reading} (Ok command) (Err refused.Unknown) → ⊥
    ok_err f = cc

not_unknown : (why : Refused) (reading : Reading) → (why ≡ refused.Unknown → ⊥) → IsRefusal why reading → reading ≡ Err refused.Unknown → ⊥
not_unknown refused.Unknown reading other is e = other refl
not_unknown refused.Words reading other is e = cc
not_unknown refused.Syntax reading other is e = cc
not_unknown refused.Flags reading other is e = cc
not_unknown refused.OnePair reading other is e = cc
not_unknown refused.Score reading other is e = cc
not_unknown refused.Whole reading other is e = cc
not_unknown refused.Negative reading other is e = cc
not_unknown refused.Bound reading other is e = cc
not_unknown refused.NoMemory reading other is e = differ (subst (λ r. takes_memory r ≡ true) e is)

pub refusal_answers : (words : List Word) (why : Refused) (s : Passed) (reply : Reply) → (why ≡ refused.Unknown → ⊥) → IsRefusal why (command_of words) →
    reply_bytes reply ≡ 45 ∷ line (refused_text why) → AnswersFurther s words reply s
refusal_answers words why s reply other is says =
    as_command words s s reply (not_unknown why (command_of words) other is)
    (refusal_passes (command_of words) s (reply_bytes reply) (refusal_read why (command_of words) (reply_bytes reply) is says))

-- ---- what is no command

pub asked_answers : (words : List Word) (call : Call) (old new : Passed) (reply : Reply) → call_of words ≡ Ok (Some call) → IsAskedOf old call new (reply_bytes reply) →
    AnswersFurther old words reply new
asked_answers words call old new reply e is = subst (λ found. AnswersFinding old found words reply new) (sym e) is

pub unknown_answers : (words : List Word) (s : Passed) (reply : Reply) → call_of words ≡ Ok None → command_of words ≡ Err refused.Unknown →
    reply_bytes reply ≡ 45 ∷ line (refused_text refused.Unknown) → AnswersFurther s words reply s
unknown_answers words s reply e unknown says =
    subst (λ found. AnswersFinding s found words reply s) (sym e)
    (refusal_passes (command_of words) s (reply_bytes reply) (refusal_read refused.Unknown (command_of words) (reply_bytes reply) unknown says))

pub refused_answers : (words : List Word) (why : Refused) (s : Passed) (reply : Reply) → call_of words ≡ Err why →
    reply_bytes reply ≡ 45 ∷ line (refused_text why) → AnswersFurther s words reply s
refused_answers words why s reply e says = subst (λ found. AnswersFinding s found words reply s) (sym e) (refl, says)
