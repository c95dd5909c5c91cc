-- Where memory may be refused: behind the count of a request of some words.
use Rattle.std.proofs.Common.{◌≡◌, ◌≢◌, ◌≤◌, ◌+◌, ℕ, List, [], ◌∷◌, ◌++◌, length, take, drop, Some, refl, sym, ap, subst, ◌∙◌, ⊎_elim, append_assoc, arith}
use Rattle.std.specs.List.{flat_map}
use Rattle.std.proofs.lemmas.List.{take-append-drop}
use Rattle.zq_resp.specs.declared.fault.FeedFault.{FeedFault}
use Rattle.zq_resp.specs.declared.fault.FeedFault.TheVariants.{Protocol, TooLong, NoMemory, Over}
use Rattle.zq_resp.specs.declared.reader.words.Words.{Words}
use Rattle.zq_resp.specs.Front.{Front, Got}
use Rattle.zq_resp.specs.Grammar.{request_at}
use Rattle.zq_resp.specs.Spelling.{number_line, word_text}
use Rattle.zq_resp.specs.Stream.{FailsFirst, HasCount, Reaches, Requests, Stops, handed}
use Rattle.zq_resp.specs.Suspended.{Fails, IsWrong, views}
use Rattle.zq_resp.specs.Word.{part_text}
use Rattle.zq_resp.specs.Words.{AreSome, words_text}
use Rattle.zq_resp.proofs.Spelled.{request_got}

pub count_more : (bytes more : List ℕ) → HasCount bytes → HasCount (bytes ++ more)
count_more bytes more has =
    record {
      count = has.count;
      some = has.some;
      most = has.most;
      more = has.more ++ more;
      is = ap (λ front. front ++ more) has.is ∙ append_assoc (42 ∷ number_line has.count) has.more more;
    }

-- what stands in the front of some bytes stands in them
pub count_near : (text bytes : List ℕ) (near : ℕ) → HasCount (text ++ take near bytes) → HasCount (text ++ bytes)
count_near text bytes near has =
    subst HasCount (append_assoc text (take near bytes) (drop near bytes) ∙ ap (λ bytes. text ++ bytes) (take-append-drop near bytes))
    (count_more (text ++ take near bytes) (drop near bytes) has)

-- the words of a request stand behind its count
pub words_count : (words : Words) (bytes : List ℕ) → AreSome words → HasCount (words_text words ++ bytes)
words_count words bytes are =
    let count = length words.found.items + 1 + words.after in
    let rest = flat_map word_text (views words.found) ++ part_text words.next in
    record { count = count; some = omega arith; most = are.count; more = rest ++ bytes; is = append_assoc (42 ∷ number_line count) rest bytes }

-- the count of one digit
pub short_count_stands : (bytes : List ℕ) (count : ℕ) → 1 ≤ count → count ≤ 9 → take 4 bytes ≡ 42 ∷ number_line count → HasCount bytes
short_count_stands bytes count some few line =
    record {
      count = count;
      some = some;
      most = omega arith;
      more = drop 4 bytes;
      is = sym (take-append-drop 4 bytes) ∙ ap (λ front. front ++ drop 4 bytes) line;
    }

some_long : (words : List (List ℕ)) → words ≢ [] → 1 ≤ length words
some_long [] some = absurd (some refl)
some_long (word ∷ words) some = omega arith

-- a request of some words that is found
pub found_count : (bytes rest : List ℕ) (words : List (List ℕ)) → request_at bytes ≡ Got (words, rest) → words ≢ [] → HasCount bytes
found_count bytes rest words got some =
    let found = request_got bytes rest words got in
    ⊎_elim
    (λ is. record {
      count = length words;
      some = some_long words some;
      most = found.1.limits.count;
      more = flat_map word_text words ++ rest;
      is = found.2 ∙ (ap (λ text. text ++ rest) is ∙ append_assoc (42 ∷ number_line (length words)) (flat_map word_text words) rest);
    })
    (λ none. absurd (some none.0))
    found.1.spells

-- what is wrong was not refused memory
pub wrong_known : {X : Type 0} (why : FeedFault) (read : Front X) → IsWrong why read → why ≢ NoMemory
wrong_known Protocol read wrong = λ is. absurd cc
wrong_known TooLong read wrong = λ is. absurd cc
wrong_known NoMemory read wrong = absurd wrong
wrong_known Over read wrong = absurd wrong

pub wrong_fails : {X : Type 0} (why : FeedFault) (read : Front X) → IsWrong why read → Fails why read
wrong_fails Protocol read wrong = wrong
wrong_fails TooLong read wrong = wrong
wrong_fails NoMemory read wrong = absurd wrong
wrong_fails Over read wrong = absurd wrong

-- a fault behind some requests
pub stops_at : (why : FeedFault) (bytes at : List ℕ) (all : Requests) → Reaches bytes all at → Fails why (request_at at) → (why ≡ NoMemory → HasCount at) → Stops bytes why (handed all)
stops_at Protocol bytes at all reaches fails memory = (all, record { rest = at; reaches = reaches; wrong = fails }, refl)
stops_at TooLong bytes at all reaches fails memory = (all, record { rest = at; reaches = reaches; wrong = fails }, refl)
stops_at NoMemory bytes at all reaches fails memory = (all, at, reaches, refl, memory refl)
stops_at Over bytes at all reaches fails memory = absurd fails

-- a request that was found, and for which a list had no room
pub refused_at : (why : FeedFault) (bytes at rest : List ℕ) (all : Requests) (words : List (List ℕ)) → Reaches bytes all at → request_at at ≡ Got (words, rest)
    → why ≡ NoMemory → words ≢ [] → Stops bytes why (handed all)
refused_at why bytes at rest all words reaches got is some =
    subst (λ why. Stops bytes why (handed all)) (sym is) (all, at, reaches, refl, found_count at rest words got some)

-- a fault in the first request
pub fails_first_at : (why : FeedFault) (had piece : List ℕ) → Fails why (request_at (had ++ piece)) → (why ≡ NoMemory → HasCount (had ++ piece)) → FailsFirst (Some had) piece why
fails_first_at Protocol had piece fails memory = fails
fails_first_at TooLong had piece fails memory = fails
fails_first_at NoMemory had piece fails memory = memory refl
fails_first_at Over had piece fails memory = absurd fails
