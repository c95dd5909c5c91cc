-- Who is answered at a desk.

use Rattle.std.proofs.Common.{List, None, Option, Some, ap, false, inl, inr, subst, true, ◌∙◌, ◌≡◌, if◌then◌else◌, not, ◌&&◌}
use Rattle.std.specs.Option.{is_some}
use Rattle.zq_client.proofs.Strangers.{turned_away}
use Rattle.zq_client.specs.Answered.{AnswersItself, IsOutcome, answered}
use Rattle.zq_client.specs.Clients.{Client}
use Rattle.zq_client.specs.Outcomes.{Outcome}
use Rattle.zq_client.specs.declared.moment.Moment.{Moment}
use Rattle.zq_client.specs.declared.profile.Profile.{Profile}
use Rattle.zq_resp.specs.declared.reply.Reply.{Reply}
use Rattle.zq_serve.specs.Callers.{Caller, is_idle}
use Rattle.zq_serve.specs.Controls.{control_of}
use Rattle.zq_serve.specs.Desks.{AnswersAtDesk, HasBegun, IsAnsweredBy, IsAskedOf, IsGiven, IsStranger, way_idle, way_of, way_queued}
use Rattle.zq_serve.specs.Preparing.{Inside}
use Rattle.zq_serve.specs.declared.knowing.Way.TheVariants as way
use Rattle.zq_words.specs.Words.{Word}

begun_unknown : (profile : Profile) (own : Option Caller) (before : Caller) → IsStranger profile own → HasBegun profile own before → before.client.is_known ≡ false
begun_unknown profile None before stranger begun = ap (λ (c : Caller). c.client.is_known) begun.1 ∙ stranger
begun_unknown profile (Some own) before stranger same = ap (λ (c : Caller). c.client.is_known) same ∙ stranger

left_over : (found : Option Outcome) (old client : Client) → is_some found ≡ true → IsOutcome found old None client → ⊥
left_over None old client some is = cc some
left_over (Some outcome) old client some is = is

-- who is not known answers itself
itself : (profile : Profile) (now : Moment) (before after : Client) (words : List Word) → before.is_known ≡ false → AnswersItself profile now before words None after → ⊥
itself profile now before after words unknown (inl outcome) = left_over (answered profile now before words) before after (turned_away profile now before words unknown) outcome
itself profile now before after words unknown (inr short) = let never = short.said.1 in cc never

-- and has nothing answered as one
way_unknown : (before : Caller) (words : List Word) → before.client.is_known ≡ false → way_of before words ≡ way.Ask
way_unknown before words unknown =
    ap (λ known. if known && not before.client.is_over then (if is_idle before.queue then way_idle (control_of words) else way_queued (control_of words) words) else way.Ask) unknown

module _ {S : Type 0} (i : Inside S) (profile : Profile) (old new : S) (words : List Word) (reply : Reply) where
  given_nothing : (now : Moment) (before after : Client) (own : Option Reply) → before.is_known ≡ false → AnswersItself profile now before words own after →
      IsGiven i.answers old words own reply new → new ≡ old
  given_nothing now before after None unknown is given = absurd (itself profile now before after words unknown is)
  given_nothing now before after (Some own) unknown is given = given.1

  asked_nothing : (before after : Caller) → before.client.is_known ≡ false → IsAskedOf i profile old before words reply new after → new ≡ old
  asked_nothing before after unknown is = given_nothing is.0 before.client is.2 is.1 unknown is.3 is.5

  pub nothing_reached : (own own_new : Option Caller) → IsStranger profile own → AnswersAtDesk i profile old own words reply new own_new → new ≡ old
  nothing_reached own own_new stranger p =
      let unknown = begun_unknown profile own p.before stranger p.has_begun in
      asked_nothing p.before p.after unknown
      (subst (λ (w : _). IsAnsweredBy i profile w old p.before words reply new p.after) (way_unknown p.before words unknown) p.answered)
