-- The count of a request's words, one byte further.
use Rattle.std.proofs.Common.{◌≡◌, ℕ, ◌≤◌, eqb, ⊎_elim, take, List, [], ◌∷◌, ◌++◌, length, Ok, refl, sym, ap, subst, ◌∙◌, arith}
use Rattle.std.proofs.lemmas.Bool.{cases_Bool, eqb-true, ne_eqb}
use Rattle.std.proofs.lemmas.List.{length_push}
use Rattle.zq_resp.specs.declared.fault.FeedFault.{FeedFault}
use Rattle.zq_resp.specs.declared.fault.FeedFault.TheVariants.{Protocol, TooLong, NoMemory, Over}
use Rattle.zq_resp.specs.declared.reader.line.Line.{Line}
use Rattle.zq_resp.specs.declared.reader.line.Line.TheVariants as line
use Rattle.zq_resp.specs.declared.reader.partial.Partial.TheVariants as partial
use Rattle.zq_resp.specs.declared.reader.words.Words.{Words}
use Rattle.zq_resp.specs.declared.reader.progress.Progress.{Progress}
use Rattle.zq_resp.specs.declared.reader.progress.Progress.TheVariants.{More, Whole}
use Rattle.std.specs.declared.vec.Vec.{Vec}
use Rattle.std.specs.declared.alloc.Global.{Global}
use Rattle.zq_resp.specs.Front.{Front, Got, ◌>>=◌}
use Rattle.zq_resp.specs.Grammar.{asked_at, count_at, counted_at, line_at, words_at}
use Rattle.zq_resp.specs.Request.{AreWords}
use Rattle.zq_resp.specs.Suspended.{Ends, Goes, IsWrong, views}
use Rattle.zq_resp.specs.Line.{line_resume, line_text}
use Rattle.zq_resp.specs.Words.{BeginsWords, words_resume, words_text}
use Rattle.zq_resp.specs.Partial.{ByteStep, IsPlain, PartialStep, in_words, resume, text_so_far}
use Rattle.zq_resp.specs.Spelling.{number_line}
use Rattle.zq_resp.proofs.Lines.{line_again}

-- what is wrong at first is wrong
wrong_first : {X Y : Type 0} (why : FeedFault) (read : Front X) (next : X → Front Y) → IsWrong why read → IsWrong why (read >>= next)
wrong_first Protocol read next wrong = ap (λ read. read >>= next) wrong
wrong_first TooLong read next wrong = ap (λ read. read >>= next) wrong
wrong_first NoMemory read next wrong = absurd wrong
wrong_first Over read next wrong = absurd wrong

pub count_resumes : (old : Line) (b : ℕ) (more : List ℕ) → IsPlain old b → resume (partial.Count old) (b ∷ more) ≡ (line_resume 65536 old (b ∷ more) >>= λ n. words_at n.0 n.1)
count_resumes line.Start b more plain = rw (ne_eqb b 45 (plain refl)) refl
count_resumes (line.Digits n) b more plain = refl
count_resumes (line.Ended n) b more plain = refl

-- a count of which a byte has come
later_count : (new : Line) (front more : List ℕ) (b : ℕ) → line_text new ≡ front ++ b ∷ [] → (line_resume 65536 new more >>= λ n. words_at n.0 n.1) ≡ resume (partial.Count new) more
later_count line.Start front more b text = absurd (omega (arith, length_push front b, ap length text))
later_count (line.Digits n) front more b text = refl
later_count (line.Ended n) front more b text = refl

pub count_goes : (old new : Line) (b : ℕ) → IsPlain old b → Goes line_text (line_resume 65536) old new (b ∷ []) → Goes text_so_far resume (partial.Count old) (partial.Count new) (b ∷ [])
count_goes old new b plain goes =
    record {
      text_grows = ap (λ text. 42 ∷ text) goes.text_grows;
      resumes = λ more.
          count_resumes old b more plain
          ∙ (ap (λ read. read >>= λ n. words_at n.0 n.1) (goes.resumes more)
          ∙ later_count new (line_text old) more b goes.text_grows);
    }

pub count_found : (old : Line) (b count : ℕ) (more : List ℕ) → IsPlain old b → Ends line_text (line_resume 65536) old (b ∷ []) count (number_line count) → resume (partial.Count old) (b ∷ more) ≡ words_at count more
count_found old b count more plain ends = count_resumes old b more plain ∙ ap (λ read. read >>= λ n. words_at n.0 n.1) (ends.found more)

pub count_ends : (old : Line) (b count : ℕ) (words : Words) → IsPlain old b → Ends line_text (line_resume 65536) old (b ∷ []) count (number_line count) → words_text words ≡ 42 ∷ number_line count → ((more : List ℕ) → words_at count more ≡ words_resume words more) → Goes text_so_far resume (partial.Count old) (partial.Words words) (b ∷ [])
count_ends old b count words plain ends text resumes =
    record {
      text_grows = text ∙ ap (λ line. 42 ∷ line) ends.spelled;
      resumes = λ more. count_found old b count more plain ends ∙ resumes more;
    }

pub no_words : (words : List (List ℕ)) → words ≡ [] → AreWords words
no_words words none = subst (λ words. AreWords words) (sym none) (record { count = omega arith; each = λ k d within. absurd (omega arith) })

pub count_wrong : (why : FeedFault) (old : Line) (b : ℕ) → IsPlain old b → ((more : List ℕ) → IsWrong why (line_resume 65536 old (b ∷ more))) → (more : List ℕ) → IsWrong why (resume (partial.Count old) (b ∷ more))
count_wrong why old b plain wrong more =
    subst (λ read. IsWrong why read) (sym (count_resumes old b more plain)) (wrong_first why (line_resume 65536 old (b ∷ more)) (λ n. words_at n.0 n.1) (wrong more))

pub count_begins : (old : Line) (b count : ℕ) (begun : Progress Words (Vec (Vec ℕ Global) Global)) → IsPlain old b → Ends line_text (line_resume 65536) old (b ∷ []) count (number_line count) → BeginsWords count begun → ByteStep (partial.Count old) b (Ok (in_words begun))
count_begins old b count (More words) plain ends begins = (begins.0, count_ends old b count words plain ends begins.1 begins.2)
count_begins old b count (Whole words) plain ends begins =
    (no_words (views words) begins.0, λ more. count_found old b count more plain ends ∙ (begins.1 more ∙ ap (λ words. Got (words, more)) (sym begins.0)))

minus_begins_none : (limit : ℕ) (bytes : List ℕ) (found : ℕ × List ℕ) → line_at limit (45 ∷ bytes) ≡ Got found → ⊥
minus_begins_none limit bytes found got = cc

-- a count's line does not begin with a minus
count_plain : (limit : ℕ) (bytes : List ℕ) (found : ℕ × List ℕ) → line_at limit bytes ≡ Got found → count_at bytes ≡ counted_at bytes
count_plain limit [] found got = absurd cc
count_plain limit (b ∷ bytes) found got =
    ⊎_elim
    (λ minus. absurd (minus_begins_none limit bytes found (subst (λ b. line_at limit (b ∷ bytes) ≡ Got found) (eqb-true b 45 minus) got)))
    (λ other. rw other refl)
    (cases_Bool (eqb b 45))

-- a count's line is read as the count
pub count_again : (count : ℕ) (more : List ℕ) → count ≤ 65536 → asked_at ((42 ∷ number_line count) ++ more) ≡ words_at count more
count_again count more within =
    let line = line_again 65536 count more within (omega arith) in
    count_plain 65536 (number_line count ++ more) (count, more) line ∙ ap (λ read. read >>= λ n. words_at n.0 n.1) line

-- a count's line at once
pub starts : (count taken : ℕ) (bytes : List ℕ) (begun : Progress Words (Vec (Vec ℕ Global) Global)) → count ≤ 65536 → take taken bytes ≡ 42 ∷ number_line count → BeginsWords count begun → PartialStep partial.Start bytes (Ok (in_words begun, taken))
starts count taken bytes (More words) within line begins = (
  begins.0,
  record {
    text_grows = begins.1 ∙ sym line;
    resumes = λ more. ap (λ front. asked_at (front ++ more)) line ∙ (count_again count more within ∙ begins.2 more);
  },
)
starts count taken bytes (Whole words) within line begins = (
  no_words (views words) begins.0,
  λ more.
      ap (λ front. asked_at (front ++ more)) line
      ∙ (count_again count more within ∙ (begins.1 more ∙ ap (λ words. Got (words, more)) (sym begins.0))),
)
