-- What stands at the front of a text stands there with more bytes behind it.
use Rattle.std.proofs.Common.{◌≡◌, ℕ, zero, suc, ◌+◌, ◌-◌, ◌*◌, ◌≤◌, List, [], ◌∷◌, ◌++◌, length, take, drop, Bool, true, false, cond, ltb, eqb, ⊎_elim, refl, sym, ap, subst, ◌∙◌, append_assoc, arith}
use Rattle.std.proofs.lemmas.Bool.{cases_lt, le-ltb, lt-ltb}
use Rattle.std.proofs.lemmas.List.{append-nil, drop-append-le, drop_all, length-append, take-append-le, take_all, take-append-drop}
use Rattle.std.proofs.Math.Seq.{take-append-add, drop-append-add}
use Rattle.zq_resp.specs.declared.fault.FeedFault.{FeedFault}
use Rattle.zq_resp.specs.declared.fault.FeedFault.TheVariants.{Protocol, TooLong}
use Rattle.zq_resp.specs.Front.{Front, Got, Part, Wrong, ◌>>=◌}
use Rattle.zq_resp.specs.Grammar.{asked_at, body_at, count_at, counted_at, digits_at, end_at, ended_at, is_digit, line_at, mark_at, null_at, request_at, with_more, word_at, words_at, zero_at}

-- What is found stays, with more bytes left over; what is wrong stays wrong.
abbrev pub After : {A : Type 0} → Front (A × List ℕ) → List ℕ → Front (A × List ℕ) → Type 0
After (Got x) more read = read ≡ Got (x.0, x.1 ++ more)
After Part more read = Unit {0}
After (Wrong why) more read = read ≡ Wrong why

abbrev pub IsStable : {A : Type 0} → (List ℕ → Front (A × List ℕ)) → Type 0
IsStable read = (bytes more : List ℕ) → After (read bytes) more (read (bytes ++ more))

then_stable : {A B : Type 0} (more : List ℕ) (next : A × List ℕ → Front (B × List ℕ)) → ((a : A) (rest : List ℕ) → After (next (a, rest)) more (next (a, rest ++ more))) → (r s : Front (A × List ℕ)) → After r more s → After (r >>= next) more (s >>= next)
then_stable more next stable (Got x) s same = subst (λ s. After (next x) more (s >>= next)) (sym same) (stable x.0 x.1)
then_stable more next stable Part s same = tt
then_stable more next stable (Wrong why) s same = ap (λ s. s >>= next) same

mark_chosen : {B : Type 0} (next : List ℕ → Front (B × List ℕ)) → IsStable next → (bytes more : List ℕ) (t : Bool) → After (cond {A = Front (List ℕ)} t (Got bytes) (Wrong Protocol) >>= next) more (cond {A = Front (List ℕ)} t (Got (bytes ++ more)) (Wrong Protocol) >>= next)
mark_chosen next stable bytes more true = stable bytes more
mark_chosen next stable bytes more false = refl

mark_stable : {B : Type 0} (mark : ℕ) (next : List ℕ → Front (B × List ℕ)) → IsStable next → (bytes more : List ℕ) → After (mark_at mark bytes >>= next) more (mark_at mark (bytes ++ more) >>= next)
mark_stable mark next stable [] more = tt
mark_stable mark next stable (b ∷ bytes) more = mark_chosen next stable bytes more (eqb b mark)

end_stable : (n : ℕ) → IsStable (end_at n)
end_stable n = mark_stable 10 (λ rest. Got (n, rest)) (λ bytes more. refl)

zero_stable : IsStable zero_at
zero_stable = mark_stable 13 (end_at 0) (end_stable 0)

either_stable : {A : Type 0} (more : List ℕ) (t : Bool) (r r' s s' : Front (A × List ℕ)) → After r more s → After r' more s' → After (cond t r r') more (cond t s s')
either_stable more true r r' s s' first other = first
either_stable more false r r' s s' first other = other

digits_stable : (limit n : ℕ) (bytes more : List ℕ) → After (digits_at limit n bytes) more (digits_at limit n (bytes ++ more))
digits_stable limit n [] more = tt
digits_stable limit n (b ∷ bytes) more =
    let longer = n * 10 + (b - 48) in
    either_stable more (is_digit b) _ _ _ _
    (either_stable more (ltb limit longer) (Wrong TooLong) (digits_at limit longer bytes) (Wrong TooLong) (digits_at limit longer (bytes ++ more)) refl (digits_stable limit longer bytes more))
    (either_stable more (eqb b 13) (end_at n bytes) (Wrong Protocol) (end_at n (bytes ++ more)) (Wrong Protocol) (end_stable n bytes more) refl)

pub line_stable : (limit : ℕ) → IsStable (line_at limit)
line_stable limit [] more = tt
line_stable limit (b ∷ bytes) more =
    either_stable more (eqb b 48) (zero_at bytes) _ (zero_at (bytes ++ more)) _ (zero_stable bytes more)
    (either_stable more (is_digit b) (digits_at limit (b - 48) bytes) (Wrong Protocol) (digits_at limit (b - 48) (bytes ++ more)) (Wrong Protocol) (digits_stable limit (b - 48) bytes more) refl)

pub body_stable : (n : ℕ) → IsStable (body_at n)
body_stable n bytes more =
    ⊎_elim
    (λ short. subst (λ t. After (cond {A = Front (List ℕ × List ℕ)} t Part (Got (take n bytes, drop n bytes))) more (body_at n (bytes ++ more))) (sym (lt-ltb _ _ short)) tt)
    (λ long.
    subst (λ t. After (cond {A = Front (List ℕ × List ℕ)} t Part (Got (take n bytes, drop n bytes))) more (body_at n (bytes ++ more))) (sym (le-ltb _ _ long))
    (rw (le-ltb (length (bytes ++ more)) n (omega (arith, length-append bytes more)), take-append-le n bytes more long, drop-append-le n bytes more long) refl))
    (cases_lt (length bytes) n)

ended_stable : (word : List ℕ) → IsStable (ended_at word)
ended_stable word = mark_stable 13 (λ rest. mark_at 10 rest >>= λ rest. Got (word, rest)) (mark_stable 10 (λ rest. Got (word, rest)) (λ bytes more. refl))

pub word_stable : IsStable word_at
unfolding word_at
word_stable =
    mark_stable 36 (λ rest. line_at 1048576 rest >>= λ n. body_at n.0 n.1 >>= λ word. ended_at word.0 word.1)
    (λ bytes more.
    then_stable more (λ n. body_at n.0 n.1 >>= λ word. ended_at word.0 word.1)
    (λ n rest. then_stable more (λ word. ended_at word.0 word.1) (λ word left. ended_stable word left more) (body_at n rest) (body_at n (rest ++ more)) (body_stable n rest more))
    (line_at 1048576 bytes) (line_at 1048576 (bytes ++ more)) (line_stable 1048576 bytes more))

pub words_stable : (k : ℕ) (bytes more : List ℕ) → After (words_at k bytes) more (words_at k (bytes ++ more))
unfolding words_at
words_stable zero bytes more = refl
words_stable (suc k) bytes more =
    then_stable more (λ first. words_at k first.1 >>= λ others. Got (first.0 ∷ others.0, others.1))
    (λ first rest. then_stable more (λ others. Got (first ∷ others.0, others.1)) (λ others left. refl) (words_at k rest) (words_at k (rest ++ more)) (words_stable k rest more))
    (word_at bytes) (word_at (bytes ++ more)) (word_stable bytes more)

null_stable : IsStable null_at
null_stable =
    mark_stable 49 (λ rest. mark_at 13 rest >>= λ rest. mark_at 10 rest >>= λ rest. Got ([], rest))
    (mark_stable 13 (λ rest. mark_at 10 rest >>= λ rest. Got ([], rest)) (mark_stable 10 (λ rest. Got ([], rest)) (λ bytes more. refl)))

counted_stable : IsStable counted_at
counted_stable bytes more =
    then_stable more (λ n. words_at n.0 n.1) (λ n rest. words_stable n rest more) (line_at 65536 bytes) (line_at 65536 (bytes ++ more)) (line_stable 65536 bytes more)

count_stable : IsStable count_at
count_stable [] more = tt
count_stable (b ∷ bytes) more =
    either_stable more (eqb b 45) (null_at bytes) (counted_at (b ∷ bytes)) (null_at (bytes ++ more)) (counted_at (b ∷ bytes ++ more)) (null_stable bytes more) (counted_stable (b ∷ bytes) more)

pub asked_stable : IsStable asked_at
asked_stable = mark_stable 42 count_at count_stable

-- the limit lies within the bytes
limit_within : (left more : List ℕ) (r : Front (List (List ℕ) × List ℕ)) → After (with_more left r) more (with_more (left ++ more) r)
limit_within left more (Got x) = ap (λ rest. Got (x.0, rest)) (sym (append_assoc x.1 left more))
limit_within [] more Part = tt
limit_within (b ∷ left) more Part = refl
limit_within left more (Wrong why) = refl

-- the limit lies past the bytes
limit_past : (near past : List ℕ) (r s : Front (List (List ℕ) × List ℕ)) → After r near s → After (with_more [] r) (near ++ past) (with_more past s)
limit_past near past (Got x) s same =
    ap (with_more past) same
    ∙ ap (λ rest. Got (x.0, rest)) (append_assoc x.1 near past ∙ ap (λ front. front ++ (near ++ past)) (sym (append-nil x.1)))
limit_past near past Part s same = tt
limit_past near past (Wrong why) s same = ap (with_more past) same

request_within : (limit : ℕ) (bytes more : List ℕ) → limit ≤ length bytes → After (with_more (drop limit bytes) (asked_at (take limit bytes))) more (with_more (drop limit (bytes ++ more)) (asked_at (take limit (bytes ++ more))))
request_within limit bytes more long =
    subst (λ left. After (with_more (drop limit bytes) (asked_at (take limit bytes))) more (with_more left (asked_at (take limit (bytes ++ more))))) (sym (drop-append-le limit bytes more long))
    (subst (λ near. After (with_more (drop limit bytes) (asked_at (take limit bytes))) more (with_more (drop limit bytes ++ more) (asked_at near))) (sym (take-append-le limit bytes more long))
    (limit_within (drop limit bytes) more (asked_at (take limit bytes))))

request_past : (room : ℕ) (bytes more : List ℕ) → After (with_more (drop (length bytes + room) bytes) (asked_at (take (length bytes + room) bytes))) more (with_more (drop (length bytes + room) (bytes ++ more)) (asked_at (take (length bytes + room) (bytes ++ more))))
request_past room bytes more =
    let near = take room more in
    let past = drop room more in
    rw (take_all (length bytes + room) bytes (omega arith), drop_all (length bytes + room) bytes (omega arith), take-append-add bytes more room, drop-append-add bytes more room)
    (subst (λ later. After (with_more [] (asked_at bytes)) later (with_more past (asked_at (bytes ++ near)))) (take-append-drop room more)
    (limit_past near past (asked_at bytes) (asked_at (bytes ++ near)) (asked_stable bytes near)))

pub request_stable : IsStable request_at
unfolding request_at
request_stable bytes more =
    ⊎_elim
    (λ short.
    let is : length bytes + (16777216 - length bytes) ≡ 16777216 = omega arith in
    subst (λ limit. After (with_more (drop limit bytes) (asked_at (take limit bytes))) more (with_more (drop limit (bytes ++ more)) (asked_at (take limit (bytes ++ more))))) is
    (request_past (16777216 - length bytes) bytes more))
    (λ long. request_within 16777216 bytes more long)
    (cases_lt (length bytes) 16777216)

pub got_stays : (bytes more rest : List ℕ) (words : List (List ℕ)) → request_at bytes ≡ Got (words, rest) → request_at (bytes ++ more) ≡ Got (words, rest ++ more)
got_stays bytes more rest words got = subst (λ r. After r more (request_at (bytes ++ more))) got (request_stable bytes more)

pub wrong_stays : (bytes more : List ℕ) (why : FeedFault) → request_at bytes ≡ Wrong why → request_at (bytes ++ more) ≡ Wrong why
wrong_stays bytes more why wrong = subst (λ r. After r more (request_at (bytes ++ more))) wrong (request_stable bytes more)
