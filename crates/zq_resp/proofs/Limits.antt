-- The limit of a request.
use Rattle.std.proofs.Common.{◌≡◌, ℕ, ◌+◌, ◌-◌, ◌<◌, ◌≤◌, min, List, [], ◌∷◌, ◌++◌, length, take, drop, refl, sym, ap, subst, ◌∙◌, append_assoc, arith}
use Rattle.std.proofs.lemmas.List.{append-nil, drop-append-le, drop_min, length-append, length-drop, length-take, take-append-drop, take_min}
use Rattle.std.proofs.Math.Seq.{take-append-add, drop-append-add}
use Rattle.zq_resp.specs.declared.fault.FeedFault.{FeedFault}
use Rattle.zq_resp.specs.declared.fault.FeedFault.TheVariants.{Protocol, TooLong, NoMemory, Over}
use Rattle.zq_resp.specs.declared.reader.partial.Partial.{Partial}
use Rattle.zq_resp.specs.declared.reader.unfinished.Unfinished.{Unfinished}
use Rattle.zq_resp.specs.Front.{Front, Got, Part, Wrong}
use Rattle.zq_resp.specs.Grammar.{asked_at, request_at, with_more}
use Rattle.zq_resp.specs.Suspended.{Fails, Goes}
use Rattle.zq_resp.specs.Partial.{IsPartial, resume, text_so_far}
use Rattle.zq_resp.specs.Unfinished.{Stands}
use Rattle.zq_resp.proofs.Parts.{nothing_more}

-- a request's text up to the limit, and what lies past it
pub limited : (text bytes : List ℕ) (room limit : ℕ) → length text + room ≡ limit → with_more (drop limit (text ++ bytes)) (asked_at (take limit (text ++ bytes))) ≡ with_more (drop room bytes) (asked_at (text ++ take room bytes))
limited text bytes room limit is =
    ap (λ n. with_more (drop n (text ++ bytes)) (asked_at (take n (text ++ bytes)))) (sym is)
    ∙ rw (take-append-add text bytes room, drop-append-add text bytes room) refl

pub request_is : (u : Unfinished) (bytes : List ℕ) (near : ℕ) → Stands u → near ≡ min (length bytes) (16777216 - u.size) → request_at (text_so_far u.partial ++ bytes) ≡ with_more (drop near bytes) (resume u.partial (take near bytes))
unfolding request_at
request_is u bytes near stands near_is =
    let room = 16777216 - u.size in
    let within : length (text_so_far u.partial) + (16777216 - u.size) ≡ 16777216 = omega (arith, stands.small, stands.size_is) in
    let cut : near ≡ min (16777216 - u.size) (length bytes) = omega arith in
    let taken : take near bytes ≡ take (16777216 - u.size) bytes = ap (λ n. take n bytes) cut ∙ take_min room bytes in
    let left : drop near bytes ≡ drop (16777216 - u.size) bytes = ap (λ n. drop n bytes) cut ∙ drop_min room bytes in
    limited (text_so_far u.partial) bytes room 16777216 within
    ∙ (ap (with_more (drop room bytes)) (stands.resumes (take room bytes))
    ∙ rw (taken, left) refl)

fails_limited : (why : FeedFault) (rest : List ℕ) (read : Front (List (List ℕ) × List ℕ)) → Fails why read → Fails why (with_more rest read)
fails_limited Protocol rest read failed = ap (with_more rest) failed
fails_limited TooLong rest read failed = ap (with_more rest) failed
fails_limited NoMemory rest read failed = tt
fails_limited Over rest read failed = absurd failed

pub near_fails : (u : Unfinished) (bytes : List ℕ) (near : ℕ) (why : FeedFault) → Stands u → near ≡ min (length bytes) (16777216 - u.size) → ((more : List ℕ) → Fails why (resume u.partial (take near bytes ++ more))) → Fails why (request_at (text_so_far u.partial ++ bytes))
near_fails u bytes near why stands near_is failed =
    subst (λ read. Fails why read) (sym (request_is u bytes near stands near_is))
    (fails_limited why (drop near bytes) (resume u.partial (take near bytes))
    (subst (λ front. Fails why (resume u.partial front)) (append-nil (take near bytes)) (failed [])))

pub near_found : (u : Unfinished) (bytes : List ℕ) (near taken : ℕ) (words : List (List ℕ)) → Stands u → near ≡ min (length bytes) (16777216 - u.size) → taken ≤ near → ((more : List ℕ) → resume u.partial (take taken (take near bytes) ++ more) ≡ Got (words, more)) → request_at (text_so_far u.partial ++ bytes) ≡ Got (words, drop taken bytes)
near_found u bytes near taken words stands near_is within found =
    let long : taken ≤ length (take near bytes) = omega (arith, length-take near bytes) in
    request_is u bytes near stands near_is
    ∙ (ap (λ front. with_more (drop near bytes) (resume u.partial front)) (sym (take-append-drop taken (take near bytes)))
    ∙ (ap (with_more (drop near bytes)) (found (drop taken (take near bytes)))
    ∙ ap (λ rest. Got (words, rest)) (sym (drop-append-le taken (take near bytes) (drop near bytes) long) ∙ ap (drop taken) (take-append-drop near bytes))))

past_limit : (rest : List ℕ) → 0 < length rest → with_more rest Part ≡ Wrong TooLong
past_limit [] some = absurd (omega arith)
past_limit (b ∷ rest) some = refl

pub near_past : (u : Unfinished) (bytes : List ℕ) (near : ℕ) (new : Partial) → Stands u → near ≡ min (length bytes) (16777216 - u.size) → near < length bytes → Goes text_so_far resume u.partial new (take near bytes) → request_at (text_so_far u.partial ++ bytes) ≡ Wrong TooLong
near_past u bytes near new stands near_is past goes =
    request_is u bytes near stands near_is
    ∙ (ap (with_more (drop near bytes)) (sym (ap (resume u.partial) (append-nil (take near bytes))) ∙ (goes.resumes [] ∙ nothing_more new))
    ∙ past_limit (drop near bytes) (omega (arith, length-drop near bytes)))

pub stands_on : (u new : Unfinished) (bytes : List ℕ) → Stands u → IsPartial new.partial → u.size + length bytes ≤ 16777216 → new.size ≡ u.size + length bytes → Goes text_so_far resume u.partial new.partial bytes → Stands new
stands_on u new bytes stands is small size_is goes =
    record {
      is = is;
      small = omega arith;
      size_is = ap length goes.text_grows ∙ omega (arith, length-append (text_so_far u.partial) bytes, stands.size_is);
      resumes = λ more.
          ap (λ text. asked_at (text ++ more)) goes.text_grows
          ∙ (ap asked_at (append_assoc (text_so_far u.partial) bytes more)
          ∙ (stands.resumes (bytes ++ more) ∙ goes.resumes more));
    }

-- what is kept begins a request
pub stands_part : (u : Unfinished) → Stands u → request_at (text_so_far u.partial) ≡ Part
stands_part u stands =
    ap request_at (sym (append-nil (text_so_far u.partial)))
    ∙ (request_is u [] 0 stands (omega arith) ∙ ap (with_more []) (nothing_more u.partial))
