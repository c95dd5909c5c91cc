-- Less than a whole request is the beginning of one.
use Rattle.std.proofs.Common.{◌≡◌, ℕ, zero, suc, ◌+◌, ◌-◌, ◌*◌, ◌<◌, ◌≤◌, List, [], ◌∷◌, ◌++◌, length, take, drop, replicate, Bool, true, false, cond, ltb, eqb, refl, sym, ap, subst, ◌∙◌, append_assoc, arith}
use Rattle.std.proofs.lemmas.Bool.{eq-eqb, ltb-true}
use Rattle.std.proofs.lemmas.List.{append-nil, drop_all, length-append, length-drop, length-replicate, take_all}
use Rattle.zq_resp.specs.declared.fault.FeedFault.TheVariants.{Protocol, TooLong}
use Rattle.zq_resp.specs.Front.{Front, Got, Part, Wrong, ◌>>=◌}
use Rattle.zq_resp.specs.Grammar.{asked_at, body_at, count_at, counted_at, digits_at, end_at, ended_at, is_digit, line_at, mark_at, null_at, request_at, with_more, word_at, words_at, zero_at}
use Rattle.zq_resp.proofs.Stable.{After, IsStable, asked_stable, body_stable, line_stable, word_stable, words_stable}
use Rattle.zq_resp.specs.Spelling.{word_text}
use Rattle.zq_resp.proofs.Words.{body_again, word_again}

-- some text is read whole
abbrev HasText : {A : Type 0} → (List ℕ → Front (A × List ℕ)) → Type 0
HasText {A} read = (text : List ℕ) × (a : A) × (read text ≡ Got (a, []))

-- where bytes are missing, some bytes make it whole
abbrev IsCompletable : {A : Type 0} → (List ℕ → Front (A × List ℕ)) → Type 0
IsCompletable read = (bytes : List ℕ) → read bytes ≡ Part → HasText (λ more. read (bytes ++ more))

-- A first part that is found stays found.
found_with : {A : Type 0} (read : List ℕ → Front (A × List ℕ)) (bytes more rest : List ℕ) (a : A) → IsStable read → read bytes ≡ Got (a, rest) → read (bytes ++ more) ≡ Got (a, rest ++ more)
found_with read bytes more rest a stable got = subst (λ r. After r more (read (bytes ++ more))) got (stable bytes more)

module _ {A B : Type 0} (read : List ℕ → Front (A × List ℕ)) (next : A × List ℕ → Front (B × List ℕ)) (stable : IsStable read) where
  then_text : HasText read → ((a : A) → HasText (λ text. next (a, text))) → HasText (λ text. read text >>= next)
  then_text first later =
      let second = later first.1 in (
        first.0 ++ second.0,
        second.1,
        ap (λ r. r >>= next) (found_with read first.0 second.0 [] first.1 stable first.2) ∙ second.2,
      )

  completed_at : (bytes : List ℕ) → ((a : A) → HasText (λ text. next (a, text))) → ((a : A) → IsCompletable (λ text. next (a, text))) → (read bytes ≡ Part → HasText (λ more. read (bytes ++ more))) → (r : Front (A × List ℕ)) → read bytes ≡ r → (r >>= next) ≡ Part → HasText (λ more. read (bytes ++ more) >>= next)
  completed_at bytes later later_completed completed (Got x) is part =
      let more = later_completed x.0 x.1 part in
      (more.0, more.1, ap (λ r. r >>= next) (found_with read bytes more.0 x.1 x.0 stable is) ∙ more.2)
  completed_at bytes later later_completed completed Part is part =
      let more = completed is in
      let second = later more.1 in (
        more.0 ++ second.0,
        second.1,
        ap (λ front. read front >>= next) (sym (append_assoc bytes more.0 second.0))
            ∙ (ap (λ r. r >>= next) (found_with read (bytes ++ more.0) second.0 [] more.1 stable more.2) ∙ second.2),
      )
  completed_at bytes later later_completed completed (Wrong why) is part = absurd cc

  then_completed : ((a : A) → HasText (λ text. next (a, text))) → ((a : A) → IsCompletable (λ text. next (a, text))) → IsCompletable read → IsCompletable (λ bytes. read bytes >>= next)
  then_completed later later_completed completed bytes part = completed_at bytes later later_completed (completed bytes) (read bytes) refl part

module _ {B : Type 0} (mark : ℕ) (next : List ℕ → Front (B × List ℕ)) where
  mark_text : HasText next → HasText (λ bytes. mark_at mark bytes >>= next)
  mark_text text = (mark ∷ text.0, text.1, rw (eq-eqb mark mark refl) text.2)

  chosen_completed : IsCompletable next → (bytes : List ℕ) (t : Bool) → (cond {A = Front (List ℕ)} t (Got bytes) (Wrong Protocol) >>= next) ≡ Part → HasText (λ more. cond {A = Front (List ℕ)} t (Got (bytes ++ more)) (Wrong Protocol) >>= next)
  chosen_completed completed bytes true part = completed bytes part
  chosen_completed completed bytes false part = absurd cc

  mark_completed : HasText next → IsCompletable next → IsCompletable (λ bytes. mark_at mark bytes >>= next)
  mark_completed text completed [] part = mark_text text
  mark_completed text completed (b ∷ bytes) part = chosen_completed completed bytes (eqb b mark) part

-- a text that ends here
ends_text : {A : Type 0} (a : A) → HasText (λ rest. Got (a, rest))
ends_text a = ([], a, refl)

found_completed : {A : Type 0} (a : A) → IsCompletable (λ rest. Got (a, rest))
found_completed a = λ bytes part. absurd cc

end_text : (n : ℕ) → HasText (end_at n)
end_text n = mark_text 10 (λ rest. Got (n, rest)) (ends_text n)

end_completed : (n : ℕ) → IsCompletable (end_at n)
end_completed n = mark_completed 10 (λ rest. Got (n, rest)) (ends_text n) (found_completed n)

zero_completed : IsCompletable zero_at
zero_completed = mark_completed 13 (end_at 0) (end_text 0) (end_completed 0)

either_completed : {A : Type 0} (t : Bool) (r s : Front (A × List ℕ)) (later other : List ℕ → Front (A × List ℕ)) → (r ≡ Part → HasText later) → (s ≡ Part → HasText other) → cond t r s ≡ Part → HasText (λ more. cond t (later more) (other more))
either_completed true r s later other first second part = first part
either_completed false r s later other first second part = second part

digits_completed : (limit n : ℕ) (bytes : List ℕ) → digits_at limit n bytes ≡ Part → HasText (λ more. digits_at limit n (bytes ++ more))
digits_completed limit n [] part = (13 ∷ 10 ∷ [], n, refl)
digits_completed limit n (b ∷ bytes) part =
    let longer = n * 10 + (b - 48) in
    either_completed (is_digit b) (cond (ltb limit longer) (Wrong TooLong) (digits_at limit longer bytes)) (cond (eqb b 13) (end_at n bytes) (Wrong Protocol)) (λ more. cond (ltb limit longer) (Wrong TooLong) (digits_at limit longer (bytes ++ more))) (λ more. cond (eqb b 13) (end_at n (bytes ++ more)) (Wrong Protocol))
    (either_completed (ltb limit longer) (Wrong TooLong) (digits_at limit longer bytes) (λ more. Wrong TooLong) (λ more. digits_at limit longer (bytes ++ more)) (λ wrong. absurd cc) (digits_completed limit longer bytes))
    (either_completed (eqb b 13) (end_at n bytes) (Wrong Protocol) (λ more. end_at n (bytes ++ more)) (λ more. Wrong Protocol) (end_completed n bytes) (λ wrong. absurd cc))
    part

line_text_is : (limit : ℕ) → HasText (line_at limit)
line_text_is limit = (48 ∷ 13 ∷ 10 ∷ [], 0, refl)

line_completed : (limit : ℕ) → IsCompletable (line_at limit)
line_completed limit [] part = line_text_is limit
line_completed limit (b ∷ bytes) part =
    either_completed (eqb b 48) (zero_at bytes) (cond (is_digit b) (digits_at limit (b - 48) bytes) (Wrong Protocol)) (λ more. zero_at (bytes ++ more)) (λ more. cond (is_digit b) (digits_at limit (b - 48) (bytes ++ more)) (Wrong Protocol))
    (zero_completed bytes)
    (either_completed (is_digit b) (digits_at limit (b - 48) bytes) (Wrong Protocol) (λ more. digits_at limit (b - 48) (bytes ++ more)) (λ more. Wrong Protocol) (digits_completed limit (b - 48) bytes) (λ wrong. absurd cc))
    part

whole_body : (n : ℕ) (bytes : List ℕ) → length bytes ≡ n → body_at n bytes ≡ Got (bytes, [])
whole_body n bytes size = ap (λ n. body_at n bytes) (sym size) ∙ (ap (body_at (length bytes)) (sym (append-nil bytes)) ∙ body_again bytes [])

body_text : (n : ℕ) → HasText (body_at n)
body_text n = (replicate n 0, replicate n 0, whole_body n (replicate n 0) (length-replicate n 0))

short_body : (n : ℕ) (bytes : List ℕ) (t : Bool) → cond {A = Front (List ℕ × List ℕ)} t Part (Got (take n bytes, drop n bytes)) ≡ Part → t ≡ true
short_body n bytes true part = refl
short_body n bytes false part = absurd cc

body_completed : (n : ℕ) → IsCompletable (body_at n)
body_completed n bytes part =
    let short = ltb-true (length bytes) n (short_body n bytes (ltb (length bytes) n) part) in
    let more = replicate (n - length bytes) 0 in
    (more, bytes ++ more, whole_body n (bytes ++ more) (length-append bytes more ∙ omega (arith, length-replicate {A = ℕ} (n - length bytes) 0)))

ended_text : (word : List ℕ) → HasText (ended_at word)
ended_text word = (13 ∷ 10 ∷ [], word, refl)

ended_completed : (word : List ℕ) → IsCompletable (ended_at word)
ended_completed word =
    mark_completed 13 (λ rest. mark_at 10 rest >>= λ rest. Got (word, rest)) (mark_text 10 (λ rest. Got (word, rest)) (ends_text word))
    (mark_completed 10 (λ rest. Got (word, rest)) (ends_text word) (found_completed word))

sized_text : (n : ℕ) → HasText (λ bytes. body_at n bytes >>= λ word. ended_at word.0 word.1)
sized_text n = then_text (body_at n) (λ word. ended_at word.0 word.1) (body_stable n) (body_text n) ended_text

sized_completed : (n : ℕ) → IsCompletable (λ bytes. body_at n bytes >>= λ word. ended_at word.0 word.1)
sized_completed n = then_completed (body_at n) (λ word. ended_at word.0 word.1) (body_stable n) ended_text ended_completed (body_completed n)

word_has_text : HasText word_at
word_has_text = (word_text [] ++ [], [], word_again [] [] (omega arith))

word_completed : IsCompletable word_at
unfolding word_at
word_completed =
    mark_completed 36 (λ rest. line_at 1048576 rest >>= λ n. body_at n.0 n.1 >>= λ word. ended_at word.0 word.1)
    (then_text (line_at 1048576) (λ n. body_at n.0 n.1 >>= λ word. ended_at word.0 word.1) (line_stable 1048576) (line_text_is 1048576) sized_text)
    (then_completed (line_at 1048576) (λ n. body_at n.0 n.1 >>= λ word. ended_at word.0 word.1) (line_stable 1048576) sized_text sized_completed (line_completed 1048576))

words_text_is : (k : ℕ) → HasText (words_at k)
unfolding words_at
words_text_is zero = ([], [], refl)
words_text_is (suc k) =
    then_text word_at (λ first. words_at k first.1 >>= λ others. Got (first.0 ∷ others.0, others.1)) word_stable word_has_text
    (λ first. then_text (words_at k) (λ others. Got (first ∷ others.0, others.1)) (words_stable k) (words_text_is k) (λ others. ends_text (first ∷ others)))

words_completed : (k : ℕ) → IsCompletable (words_at k)
unfolding words_at
words_completed zero = found_completed []
words_completed (suc k) =
    then_completed word_at (λ first. words_at k first.1 >>= λ others. Got (first.0 ∷ others.0, others.1)) word_stable
    (λ first. then_text (words_at k) (λ others. Got (first ∷ others.0, others.1)) (words_stable k) (words_text_is k) (λ others. ends_text (first ∷ others)))
    (λ first. then_completed (words_at k) (λ others. Got (first ∷ others.0, others.1)) (words_stable k) (λ others. ends_text (first ∷ others)) (λ others. found_completed (first ∷ others)) (words_completed k))
    word_completed

null_completed : IsCompletable null_at
null_completed =
    let feed : List ℕ → Front (List (List ℕ) × List ℕ) = λ rest. mark_at 10 rest >>= λ rest. Got ([], rest) in
    mark_completed 49 (λ rest. mark_at 13 rest >>= feed)
    (mark_text 13 feed (mark_text 10 (λ rest. Got ([], rest)) (ends_text [])))
    (mark_completed 13 feed (mark_text 10 (λ rest. Got ([], rest)) (ends_text [])) (mark_completed 10 (λ rest. Got ([], rest)) (ends_text []) (found_completed [])))

counted_completed : IsCompletable counted_at
counted_completed = then_completed (line_at 65536) (λ n. words_at n.0 n.1) (line_stable 65536) words_text_is words_completed (line_completed 65536)

no_count : HasText count_at
unfolding words_at
no_count = (48 ∷ 13 ∷ 10 ∷ [], [], refl)

count_completed : IsCompletable count_at
count_completed [] part = no_count
count_completed (b ∷ bytes) part =
    either_completed (eqb b 45) (null_at bytes) (counted_at (b ∷ bytes)) (λ more. null_at (bytes ++ more)) (λ more. counted_at (b ∷ bytes ++ more)) (null_completed bytes) (counted_completed (b ∷ bytes)) part

pub asked_completed : IsCompletable asked_at
asked_completed = mark_completed 42 count_at no_count count_completed

limited_part : (left : List ℕ) (r : Front (List (List ℕ) × List ℕ)) → with_more left r ≡ Part → (r ≡ Part) × (left ≡ [])
limited_part left (Got x) part = absurd cc
limited_part [] Part part = (refl, refl)
limited_part (b ∷ left) Part part = absurd cc
limited_part left (Wrong why) part = absurd cc

-- What is less than a whole request begins a text of the grammar, and is within the limit.
pub part_begins : (bytes : List ℕ) → request_at bytes ≡ Part → (length bytes ≤ 16777216) × HasText (λ more. asked_at (bytes ++ more))
unfolding request_at
part_begins bytes part =
    let both = limited_part (drop 16777216 bytes) (asked_at (take 16777216 bytes)) part in
    let short : length bytes ≤ 16777216 = omega (arith, length-drop 16777216 bytes, ap length both.1) in
    (short, asked_completed bytes (ap asked_at (sym (take_all 16777216 bytes short)) ∙ both.0))

-- what is read of a text that goes on to be a request
begun_part : (more : List ℕ) (words : List (List ℕ)) (r s : Front (List (List ℕ) × List ℕ)) → 0 < length more → After r more s → s ≡ Got (words, []) → r ≡ Part
begun_part more words (Got x) s some after got =
    let none : ◌≡◌ {A = Front (List (List ℕ) × List ℕ)} (Got (x.0, x.1 ++ more)) (Got (words, [])) = sym after ∙ got in
    let pair : ◌≡◌ {A = List (List ℕ) × List ℕ} (x.0, x.1 ++ more) (words, []) = cc in
    absurd (omega (arith, length-append x.1 more, ap length (ap (λ x. x.1) pair)))
begun_part more words Part s some after got = refl
begun_part more words (Wrong why) s some after got = let both : ◌≡◌ {A = Front (List (List ℕ) × List ℕ)} (Wrong why) (Got (words, [])) = sym after ∙ got in absurd cc

pub beginning_is_part : (bytes more : List ℕ) (words : List (List ℕ)) → length bytes ≤ 16777216 → 0 < length more → asked_at (bytes ++ more) ≡ Got (words, []) → request_at bytes ≡ Part
unfolding request_at
beginning_is_part bytes more words short some got =
    let part = begun_part more words (asked_at bytes) (asked_at (bytes ++ more)) some (asked_stable bytes more) got in
    ap (λ left. with_more left (asked_at (take 16777216 bytes))) (drop_all 16777216 bytes short)
    ∙ (ap (λ near. with_more [] (asked_at near)) (take_all 16777216 bytes short) ∙ ap (with_more []) part)
