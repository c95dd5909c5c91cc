-- How a peer that is dialled takes a site, and what is said of it.

use Rattle.std.specs.Prelude.{Bool, List, None, Option, Some, codes, false, true, ℕ, ◌≡◌}
use Rattle.zq_site.specs.Notices.{notice_in}
use Rattle.zq_site.specs.declared.notice.Notice.{Notice}
use Rattle.zq_site.specs.declared.notice.Notice.TheVariants as notice
use Rattle.zq_site.specs.declared.notice.Notice.TheVariants.{Unwelcome}
use Rattle.zq_site.specs.declared.notice.Reason.{Reason}
use Rattle.zq_site.specs.declared.notice.Reason.TheVariants as reason
use Rattle.zq_site.specs.declared.standing.Ending.{Ending}
use Rattle.zq_site.specs.declared.standing.Ending.TheVariants as ending
use Rattle.zq_site.specs.declared.standing.Sign.{Sign}
use Rattle.zq_site.specs.declared.standing.Sign.TheVariants as sign
use Rattle.zq_site.specs.declared.standing.Standing.{Standing}
use Rattle.zq_site.specs.declared.standing.Standing.TheVariants.{Refused, Unopened, Well}
use Rattle.zq_site.specs.declared.standing.Word.{Word}
use Rattle.zq_site.specs.declared.standing.Word.TheVariants as word

-- how the opening of a link ended that was not opened
abbrev pub words_of_ending : Ending → List ℕ
words_of_ending ending.Closed = codes "it was closed as it was opened"
words_of_ending ending.Late = codes "it was not opened within 5 seconds"
words_of_ending ending.Failed = codes "it failed as it was opened"

-- why a peer refuses a site
abbrev pub words_of_reason : Reason → List ℕ
words_of_reason reason.Unexpected = codes "it does not expect this site"
words_of_reason reason.Secret = codes "the two secrets differ"

-- What was said last once this was seen.
abbrev pub standing_after : Standing → Sign → Standing
standing_after standing sign.Frame = Well
standing_after standing (sign.Refusal why) = Refused why
standing_after Well (sign.Unopened how) = Unopened
standing_after standing (sign.Unopened how) = standing

-- a refusal for the reason that was said last is not said again
abbrev pub word_on_refusal : Standing → Reason → Word
word_on_refusal (Refused reason.Unexpected) reason.Unexpected = word.Nothing
word_on_refusal (Refused reason.Secret) reason.Secret = word.Nothing
word_on_refusal standing why = word.Refused why

-- What there is to say as this is seen.
abbrev pub word_on : Standing → Sign → Word
word_on Well sign.Frame = word.Nothing
word_on standing sign.Frame = word.Again
word_on standing (sign.Refusal why) = word_on_refusal standing why
word_on Well (sign.Unopened how) = word.Unopened how
word_on standing (sign.Unopened how) = word.Nothing

-- what is seen by a notice, or by another frame
abbrev pub sign_by : Option Notice → Sign
sign_by (Some (Unwelcome why)) = sign.Refusal why
sign_by (Some notice.Refused) = sign.Frame
sign_by (Some notice.Kept) = sign.Frame
sign_by None = sign.Frame

abbrev pub sign_of : List ℕ → Sign
sign_of frame = sign_by (notice_in frame)

-- whether a frame was heard that is no refusal, and whether a refusal was
abbrev pub has_heard : Bool → Sign → Bool
has_heard heard sign.Frame = true
has_heard heard other = heard

abbrev pub is_refused : Bool → Sign → Bool
is_refused refused (sign.Refusal why) = true
is_refused refused other = refused

-- what is seen of a link that was not opened, of which a notice came at the end or none did: who
-- accepted it counts no stranger who went
abbrev pub sign_at_end : Bool → Option Reason → Ending → Option Sign
sign_at_end dialled (Some why) how = Some (sign.Refusal why)
sign_at_end true None how = Some (sign.Unopened how)
sign_at_end false None how = None

-- What was seen is not said again: a refusal for the same reason, and the next link that is not
-- opened.
pub record IsSaidOnce : Type 0 where
  pub refusal : (standing : Standing) (why : Reason) →
      word_on (standing_after standing (sign.Refusal why)) (sign.Refusal why) ≡ word.Nothing
  pub unopened : (standing : Standing) (how next : Ending) →
      word_on (standing_after standing (sign.Unopened how)) (sign.Unopened next) ≡ word.Nothing
  pub frame : (standing : Standing) → word_on (standing_after standing sign.Frame) sign.Frame
      ≡ word.Nothing

-- A site that was told of hears of the end: after a refusal that was said, or a link that was not
-- opened, it is said that the peer takes this site again.
pub record IsSaidAgain : Type 0 where
  pub refusal : (standing : Standing) (why : Reason) →
      word_on (standing_after standing (sign.Refusal why)) sign.Frame ≡ word.Again
  pub unopened : (standing : Standing) (how : Ending) →
      word_on (standing_after standing (sign.Unopened how)) sign.Frame ≡ word.Again
