-- What a text begins with is spelled at its front, and a spelling is read again.
use Rattle.std.proofs.Common.{◌≡◌, ℕ, zero, suc, ◌+◌, ◌-◌, ◌*◌, ◌^◌, ◌<◌, ◌≤◌, List, [], ◌∷◌, ◌++◌, length, take, drop, Bool, true, false, cond, ltb, eqb, leb, ◌⊎◌, inl, inr, ⊎_elim, codes, refl, sym, ap, subst, ◌∙◌, append_assoc, arith}
use Rattle.std.specs.List.{flat_map, AllByRecursion}
use Rattle.std.specs.Fmt.{decimal}
use Rattle.std.proofs.lemmas.Bool.{and_parts, cases_lt, eqb-false, eqb-true, leb-true, ltb-false}
use Rattle.std.proofs.lemmas.Fmt.{decimal_digit}
use Rattle.std.proofs.lemmas.List.{length-append, length-take, take-append-drop}
use Rattle.std.proofs.lemmas.List.Elements.{All-from_recursion, recursion_from_All}
use Rattle.zq_resp.specs.declared.fault.FeedFault.TheVariants.{Protocol, TooLong}
use Rattle.zq_resp.specs.Front.{Front, Got, Part, Wrong, ◌>>=◌}
use Rattle.zq_resp.specs.Grammar.{asked_at, body_at, count_at, counted_at, digits_at, end_at, ended_at, is_digit, line_at, mark_at, null_at, request_at, with_more, word_at, words_at, zero_at}
use Rattle.zq_resp.specs.Request.{AreWords, IsWord}
use Rattle.zq_resp.specs.Spelling.{Spells, number_line, spelling, word_text}
use Rattle.zq_resp.proofs.Lines.{decimal-more}
use Rattle.zq_resp.proofs.Words.{word_again}
use Rattle.zq_resp.proofs.Counts.{count_again, no_words}
use Rattle.zq_resp.proofs.Limits.{limited}
use Rattle.zq_resp.specs.Laws.{IsSpelling}

-- what is found was found by both parts
then_got : {X Y : Type 0} (read : Front X) (next : X → Front Y) (y : Y) → (read >>= next) ≡ Got y → (x : X) × (read ≡ Got x) × (next x ≡ Got y)
then_got (Got x) next y got = (x, refl, got)
then_got Part next y got = absurd cc
then_got (Wrong why) next y got = absurd cc

got_same : {X : Type 0} (x y : X) → Got x ≡ Got y → x ≡ y
got_same x y same = cc

chosen_mark : (b mark : ℕ) (bytes rest : List ℕ) (t : Bool) → eqb b mark ≡ t → cond {A = Front (List ℕ)} t (Got bytes) (Wrong Protocol) ≡ Got rest → b ∷ bytes ≡ mark ∷ rest
chosen_mark b mark bytes rest true is got = let same : bytes ≡ rest = cc in rw (eqb-true b mark is, same) refl
chosen_mark b mark bytes rest false is got = absurd cc

mark_got : (mark : ℕ) (bytes rest : List ℕ) → mark_at mark bytes ≡ Got rest → bytes ≡ mark ∷ rest
mark_got mark [] rest got = absurd cc
mark_got mark (b ∷ bytes) rest got = chosen_mark b mark bytes rest (eqb b mark) refl got

-- one byte, and what follows it
mark_then : {Y : Type 0} (mark : ℕ) (bytes : List ℕ) (next : List ℕ → Front Y) (y : Y) → (mark_at mark bytes >>= next) ≡ Got y → (rest : List ℕ) × (bytes ≡ mark ∷ rest) × (next rest ≡ Got y)
mark_then mark bytes next y got =
    let both = then_got (mark_at mark bytes) next y got in
    (both.0, mark_got mark bytes both.0 both.1, both.2)

end_got : (n m : ℕ) (bytes rest : List ℕ) → end_at n bytes ≡ Got (m, rest) → (n ≡ m) × (bytes ≡ 10 ∷ rest)
end_got n m bytes rest got =
    let both = mark_then 10 bytes (λ rest. Got (n, rest)) (m, rest) got in
    let pair = got_same (n, both.0) (m, rest) both.2 in
    (ap (λ x. x.0) pair, both.1 ∙ ap (λ left. 10 ∷ left) (ap (λ x. x.1) pair))

-- which way a test went
chosen : {A : Type 0} (t : Bool) (x y z : A) → cond t x y ≡ z → ((t ≡ true) × (x ≡ z)) ⊎ ((t ≡ false) × (y ≡ z))
chosen true x y z e = inl (refl, e)
chosen false x y z e = inr (refl, e)

-- a byte after some digits is the last digit of a longer number
digit_text : (n b : ℕ) (bytes : List ℕ) → 0 < n → 48 ≤ b → b ≤ 57 → n * 10 + (b - 48) < 2 ^ 32 → decimal n ++ (b ∷ bytes) ≡ decimal (n * 10 + (b - 48)) ++ bytes
digit_text n b bytes some low high small =
    let back : 48 + (b - 48) ≡ b = omega arith in
    sym (append_assoc (decimal n) (b ∷ []) bytes)
    ∙ ap (λ digits. digits ++ bytes) (ap (λ digit. decimal n ++ digit ∷ []) (sym back) ∙ sym (decimal-more n (b - 48) some (omega arith) (omega arith)))

-- digits, and the end of their line
digits_got : (limit n m : ℕ) (bytes rest : List ℕ) → 0 < n → n ≤ limit → limit < 2 ^ 32 → digits_at limit n bytes ≡ Got (m, rest) → (m ≤ limit) × (decimal n ++ bytes ≡ number_line m ++ rest)
digits_got limit n m [] rest some within small got = absurd cc
digits_got limit n m (b ∷ bytes) rest some within small got =
    let longer = n * 10 + (b - 48) in
    ⊎_elim
    (λ digit.
    let range = and_parts (leb 48 b) (leb b 57) digit.0 in
    let low = leb-true 48 b range.0 in
    let high = leb-true b 57 range.1 in
    ⊎_elim
    (λ over. let wrong = over.1 in absurd cc)
    (λ fits.
    let within_too = ltb-false limit longer fits.0 in
    let found = digits_got limit longer m bytes rest (omega arith) within_too small fits.1 in
    (found.0, digit_text n b bytes some low high (omega arith) ∙ found.1))
    (chosen (ltb limit longer) (Wrong TooLong) (digits_at limit longer bytes) (Got (m, rest)) digit.1))
    (λ other.
    ⊎_elim
    (λ ended.
    let both = end_got n m bytes rest ended.1 in
    let text : decimal n ++ (b ∷ bytes) ≡ decimal n ++ (13 ∷ 10 ∷ rest) = ap (λ left. decimal n ++ left) (rw (eqb-true b 13 ended.0, both.1) refl) in (
      omega (arith, both.0),
      text ∙ (sym (append_assoc (decimal n) (13 ∷ 10 ∷ []) rest) ∙ ap (λ n. number_line n ++ rest) both.0),
    ))
    (λ none. let wrong = none.1 in absurd cc)
    (chosen (eqb b 13) (end_at n bytes) (Wrong Protocol) (Got (m, rest)) other.1))
    (chosen (is_digit b) (cond (ltb limit longer) (Wrong TooLong) (digits_at limit longer bytes)) (cond (eqb b 13) (end_at n bytes) (Wrong Protocol)) (Got (m, rest)) got)

zero_got : (m : ℕ) (bytes rest : List ℕ) → zero_at bytes ≡ Got (m, rest) → (0 ≡ m) × (bytes ≡ 13 ∷ 10 ∷ rest)
zero_got m bytes rest got =
    let return_is = mark_then 13 bytes (end_at 0) (m, rest) got in
    let feed_is = end_got 0 m return_is.0 rest return_is.2 in
    (feed_is.0, return_is.1 ∙ ap (λ left. 13 ∷ left) feed_is.1)

-- a number's line
line_got : (limit m : ℕ) (bytes rest : List ℕ) → 9 ≤ limit → limit < 2 ^ 32 → line_at limit bytes ≡ Got (m, rest) → (m ≤ limit) × (bytes ≡ number_line m ++ rest)
line_got limit m [] rest some small got = absurd cc
line_got limit m (b ∷ bytes) rest some small got =
    ⊎_elim
    (λ zero.
    let found = zero_got m bytes rest zero.1 in
    let text : b ∷ bytes ≡ number_line 0 ++ rest = rw (eqb-true b 48 zero.0, found.1, decimal_digit 0 (omega arith)) refl in
    (omega (arith, found.0), text ∙ ap (λ n. number_line n ++ rest) found.0))
    (λ other.
    ⊎_elim
    (λ digit.
    let range = and_parts (leb 48 b) (leb b 57) digit.0 in
    let low = leb-true 48 b range.0 in
    let high = leb-true b 57 range.1 in
    let apart = eqb-false b 48 other.0 in
    let first : 0 < b - 48 = ⊎_elim (λ below. below) (λ none. absurd (apart (omega arith))) (cases_lt 0 (b - 48)) in
    let back : 48 + (b - 48) ≡ b = omega arith in
    let found = digits_got limit (b - 48) m bytes rest first (omega arith) small digit.1 in
    (found.0, ap (λ digit. digit ∷ bytes) (sym back) ∙ (ap (λ digits. digits ++ bytes) (sym (decimal_digit (b - 48) (omega arith))) ∙ found.1)))
    (λ none. let wrong = none.1 in absurd cc)
    (chosen (is_digit b) (digits_at limit (b - 48) bytes) (Wrong Protocol) (Got (m, rest)) other.1))
    (chosen (eqb b 48) (zero_at bytes) (cond (is_digit b) (digits_at limit (b - 48) bytes) (Wrong Protocol)) (Got (m, rest)) got)

body_got : (n : ℕ) (bytes word rest : List ℕ) → body_at n bytes ≡ Got (word, rest) → (length word ≡ n) × (bytes ≡ word ++ rest)
body_got n bytes word rest got =
    ⊎_elim
    (λ short. let part = short.1 in absurd cc)
    (λ long.
    let pair = got_same (take n bytes, drop n bytes) (word, rest) long.1 in
    let whole = ltb-false (length bytes) n long.0 in
    let is_word = ap (λ x. x.0) pair in
    let is_rest = ap (λ x. x.1) pair in (
      ap length (sym is_word) ∙ (length-take n bytes ∙ omega arith),
      sym (take-append-drop n bytes) ∙ (ap (λ front. front ++ drop n bytes) is_word ∙ ap (λ left. word ++ left) is_rest),
    ))
    (chosen (ltb (length bytes) n) Part (Got (take n bytes, drop n bytes)) (Got (word, rest)) got)

ended_got : (word bytes found rest : List ℕ) → ended_at word bytes ≡ Got (found, rest) → (word ≡ found) × (bytes ≡ 13 ∷ 10 ∷ rest)
ended_got word bytes found rest got =
    let return_is = mark_then 13 bytes (λ rest. mark_at 10 rest >>= λ rest. Got (word, rest)) (found, rest) got in
    let feed_is = mark_then 10 return_is.0 (λ rest. Got (word, rest)) (found, rest) return_is.2 in
    let pair = got_same (word, feed_is.0) (found, rest) feed_is.2 in
    (ap (λ x. x.0) pair, return_is.1 ∙ (ap (λ left. 13 ∷ left) feed_is.1 ∙ ap (λ left. 13 ∷ 10 ∷ left) (ap (λ x. x.1) pair)))

word_split : (word rest : List ℕ) → word_text word ++ rest ≡ 36 ∷ (number_line (length word) ++ (word ++ 13 ∷ 10 ∷ rest))
word_split word rest =
    append_assoc (36 ∷ number_line (length word)) (word ++ 13 ∷ 10 ∷ []) rest
    ∙ ap (λ left. (36 ∷ number_line (length word)) ++ left) (append_assoc word (13 ∷ 10 ∷ []) rest)

word_got : (bytes word rest : List ℕ) → word_at bytes ≡ Got (word, rest) → IsWord word × (bytes ≡ word_text word ++ rest)
unfolding word_at
word_got bytes word rest got =
    let marked = mark_then 36 bytes (λ rest. line_at 1048576 rest >>= λ n. body_at n.0 n.1 >>= λ word. ended_at word.0 word.1) (word, rest) got in
    let lined = then_got (line_at 1048576 marked.0) (λ n. body_at n.0 n.1 >>= λ word. ended_at word.0 word.1) (word, rest) marked.2 in
    let bodied = then_got (body_at lined.0.0 lined.0.1) (λ word. ended_at word.0 word.1) (word, rest) lined.2 in
    let line = line_got 1048576 lined.0.0 marked.0 lined.0.1 (omega arith) (omega arith) lined.1 in
    let body = body_got lined.0.0 lined.0.1 bodied.0.0 bodied.0.1 bodied.1 in
    let end = ended_got bodied.0.0 bodied.0.1 word rest bodied.2 in
    let size : lined.0.0 ≡ length word = sym body.0 ∙ ap length end.0 in (
      omega (arith, size, line.0),
      marked.1
          ∙ (ap (λ left. 36 ∷ left) (line.1 ∙ (ap (λ n. number_line n ++ lined.0.1) size ∙ ap (λ left. number_line (length word) ++ left) (body.1 ∙ (ap (λ front. front ++ bodied.0.1) end.0 ∙ ap (λ left. word ++ left) end.1))))
          ∙ sym (word_split word rest)),
    )

words_got : (k : ℕ) (bytes rest : List ℕ) (words : List (List ℕ)) → words_at k bytes ≡ Got (words, rest) → (length words ≡ k) × AllByRecursion IsWord words × (bytes ≡ flat_map word_text words ++ rest)
unfolding words_at
words_got zero bytes rest words got =
    let pair = got_same ([], bytes) (words, rest) got in
    subst (λ words. (length words ≡ 0) × AllByRecursion IsWord words × (bytes ≡ flat_map word_text words ++ rest)) (ap (λ x. x.0) pair) (refl, tt, ap (λ x. x.1) pair)
words_got (suc k) bytes rest words got =
    let first = then_got (word_at bytes) (λ first. words_at k first.1 >>= λ others. Got (first.0 ∷ others.0, others.1)) (words, rest) got in
    let others = then_got (words_at k first.0.1) (λ others. Got (first.0.0 ∷ others.0, others.1)) (words, rest) first.2 in
    let word = word_got bytes first.0.0 first.0.1 first.1 in
    let more = words_got k first.0.1 others.0.1 others.0.0 others.1 in
    let pair = got_same (first.0.0 ∷ others.0.0, others.0.1) (words, rest) others.2 in
    let text : bytes ≡ flat_map word_text (first.0.0 ∷ others.0.0) ++ rest =
    word.1 ∙ (ap (λ left. word_text first.0.0 ++ left) (more.2 ∙ ap (λ left. flat_map word_text others.0.0 ++ left) (ap (λ x. x.1) pair)) ∙ sym (append_assoc (word_text first.0.0) (flat_map word_text others.0.0) rest)) in
    subst (λ words. (length words ≡ suc k) × AllByRecursion IsWord words × (bytes ≡ flat_map word_text words ++ rest)) (ap (λ x. x.0) pair) (ap suc more.0, (word.0, more.1), text)

null_got : (bytes rest : List ℕ) (words : List (List ℕ)) → null_at bytes ≡ Got (words, rest) → (words ≡ []) × (bytes ≡ 49 ∷ 13 ∷ 10 ∷ rest)
null_got bytes rest words got =
    let one = mark_then 49 bytes (λ rest. mark_at 13 rest >>= λ rest. mark_at 10 rest >>= λ rest. Got ([], rest)) (words, rest) got in
    let return_is = mark_then 13 one.0 (λ rest. mark_at 10 rest >>= λ rest. Got ([], rest)) (words, rest) one.2 in
    let feed_is = mark_then 10 return_is.0 (λ rest. Got ([], rest)) (words, rest) return_is.2 in
    let pair = got_same ([], feed_is.0) (words, rest) feed_is.2 in (
      sym (ap (λ x. x.0) pair),
      one.1 ∙ ap (λ left. 49 ∷ left) (return_is.1 ∙ ap (λ left. 13 ∷ left) (feed_is.1 ∙ ap (λ left. 10 ∷ left) (ap (λ x. x.1) pair))),
    )

-- a text at the front, and what it spells
abbrev Begins : List ℕ → List (List ℕ) → List ℕ → Type 0
Begins bytes words rest = (text : List ℕ) × AreWords words × Spells text words × (bytes ≡ text ++ rest)

counted_got : (bytes rest : List ℕ) (words : List (List ℕ)) → counted_at bytes ≡ Got (words, rest) → Begins (42 ∷ bytes) words rest
counted_got bytes rest words got =
    let lined = then_got (line_at 65536 bytes) (λ n. words_at n.0 n.1) (words, rest) got in
    let line = line_got 65536 lined.0.0 bytes lined.0.1 (omega arith) (omega arith) lined.1 in
    let found = words_got lined.0.0 lined.0.1 rest words lined.2 in (
      spelling words,
      record { count = omega (arith, found.0, line.0); each = All-from_recursion IsWord words found.1 },
      inl refl,
      ap (λ left. 42 ∷ left) (line.1 ∙ (ap (λ n. number_line n ++ lined.0.1) (sym found.0) ∙ ap (λ left. number_line (length words) ++ left) found.2))
          ∙ sym (append_assoc (42 ∷ number_line (length words)) (flat_map word_text words) rest),
    )

no_words_got : (bytes rest : List ℕ) (words : List (List ℕ)) → null_at bytes ≡ Got (words, rest) → Begins (42 ∷ 45 ∷ bytes) words rest
no_words_got bytes rest words got =
    let found = null_got bytes rest words got in
    (codes "*-1\r\n", no_words words found.0, inr (found.0, refl), ap (λ left. 42 ∷ 45 ∷ left) found.1)

count_got : (bytes rest : List ℕ) (words : List (List ℕ)) → count_at bytes ≡ Got (words, rest) → Begins (42 ∷ bytes) words rest
count_got [] rest words got = absurd cc
count_got (b ∷ bytes) rest words got =
    ⊎_elim
    (λ minus. subst (λ b. Begins (42 ∷ b ∷ bytes) words rest) (sym (eqb-true b 45 minus.0)) (no_words_got bytes rest words minus.1))
    (λ other. counted_got (b ∷ bytes) rest words other.1)
    (chosen (eqb b 45) (null_at bytes) (counted_at (b ∷ bytes)) (Got (words, rest)) got)

asked_got : (bytes rest : List ℕ) (words : List (List ℕ)) → asked_at bytes ≡ Got (words, rest) → Begins bytes words rest
asked_got bytes rest words got =
    let marked = mark_then 42 bytes count_at (words, rest) got in
    subst (λ bytes. Begins bytes words rest) (sym marked.1) (count_got marked.0 rest words marked.2)

limited_got : (more rest : List ℕ) (words : List (List ℕ)) (read : Front (List (List ℕ) × List ℕ)) → with_more more read ≡ Got (words, rest) → (left : List ℕ) × (read ≡ Got (words, left)) × (rest ≡ left ++ more)
limited_got more rest words (Got x) got =
    let pair = got_same (x.0, x.1 ++ more) (words, rest) got in
    (x.1, ap (λ words. Got (words, x.1)) (ap (λ x. x.0) pair), sym (ap (λ x. x.1) pair))
limited_got [] rest words Part got = absurd cc
limited_got (b ∷ more) rest words Part got = absurd cc
limited_got more rest words (Wrong why) got = absurd cc

pub request_got : (bytes rest : List ℕ) (words : List (List ℕ)) → request_at bytes ≡ Got (words, rest) → (text : List ℕ) × IsSpelling text words × (bytes ≡ text ++ rest)
unfolding request_at
request_got bytes rest words got =
    let limited = limited_got (drop 16777216 bytes) rest words (asked_at (take 16777216 bytes)) got in
    let begins = asked_got (take 16777216 bytes) limited.0 words limited.1 in
    let short : length begins.0 ≤ 16777216 = omega (arith, length-take 16777216 bytes, ap length begins.3, length-append begins.0 limited.0) in (
      begins.0,
      record { limits = begins.1; spells = begins.2; small = short },
      sym (take-append-drop 16777216 bytes)
          ∙ (ap (λ front. front ++ drop 16777216 bytes) begins.3
          ∙ (append_assoc begins.0 limited.0 (drop 16777216 bytes) ∙ ap (λ left. begins.0 ++ left) (sym limited.2))),
    )

-- spellings are read again

words_again : (words : List (List ℕ)) (more : List ℕ) → AllByRecursion IsWord words → words_at (length words) (flat_map word_text words ++ more) ≡ Got (words, more)
unfolding words_at
words_again [] more each = refl
words_again (word ∷ words) more each =
    ap (λ bytes. word_at bytes >>= λ first. words_at (length words) first.1 >>= λ others. Got (first.0 ∷ others.0, others.1)) (append_assoc (word_text word) (flat_map word_text words) more)
    ∙ (ap (λ read. read >>= λ first. words_at (length words) first.1 >>= λ others. Got (first.0 ∷ others.0, others.1)) (word_again word (flat_map word_text words ++ more) each.0)
    ∙ ap (λ read. read >>= λ others. Got (word ∷ others.0, others.1)) (words_again words more each.1))

asked_again : (words : List (List ℕ)) (text more : List ℕ) → AreWords words → Spells text words → asked_at (text ++ more) ≡ Got (words, more)
asked_again words text more limits spells =
    ⊎_elim
    (λ plain.
    ap (λ text. asked_at (text ++ more)) plain
    ∙ (ap asked_at (append_assoc (42 ∷ number_line (length words)) (flat_map word_text words) more)
    ∙ (count_again (length words) (flat_map word_text words ++ more) limits.count
    ∙ words_again words more (recursion_from_All IsWord words limits.each))))
    (λ null. ap (λ text. asked_at (text ++ more)) null.1 ∙ ap (λ words. Got (words, more)) (sym null.0))
    spells

pub request_again : (text rest : List ℕ) (words : List (List ℕ)) → IsSpelling text words → request_at (text ++ rest) ≡ Got (words, rest)
unfolding request_at
request_again text rest words is =
    let room = 16777216 - length text in
    let within : length text + (16777216 - length text) ≡ 16777216 = omega (arith, is.small) in
    limited text rest room 16777216 within
    ∙ (ap (with_more (drop room rest)) (asked_again words text (take room rest) is.limits is.spells)
    ∙ ap (λ rest. Got (words, rest)) (take-append-drop room rest))
