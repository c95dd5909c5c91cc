-- What stands at the front of some bytes.
use Rattle.std.proofs.Common.{◌≡◌, ℕ, ◌+◌, ◌-◌, ◌*◌, ◌<◌, ◌≤◌, List, [], ◌∷◌, ◌++◌, length, get_or, take, drop, refl, sym, ap, ◌∙◌, arith}
use Rattle.std.proofs.lemmas.Fmt.{decimal_digit}
use Rattle.zq_resp.specs.Spelling.{number_line, word_text}
use Rattle.zq_resp.proofs.Lines.{decimal-more}
use Rattle.std.proofs.lemmas.List.{take_more, append_assoc, length-take, length-drop}
use Rattle.std.proofs.Math.Seq.{take-add}

-- the first byte alone
pub first_byte : (bytes : List ℕ) → 0 < length bytes → take 1 bytes ≡ get_or bytes 0 0 ∷ []
first_byte [] some = absurd (omega arith)
first_byte (b ∷ bytes) some = refl

-- the first byte is this one
pub one_byte : (bytes : List ℕ) (b : ℕ) → 0 < length bytes → get_or bytes 0 0 ≡ b → take 1 bytes ≡ b ∷ []
one_byte bytes b some is = first_byte bytes some ∙ ap (λ b. b ∷ []) is

-- a mark, and a line of one digit
pub head_of_one : (mark : ℕ) (bytes : List ℕ) → 4 ≤ length bytes → get_or bytes 0 0 ≡ mark → 48 ≤ get_or bytes 1 0 → get_or bytes 1 0 ≤ 57 → get_or bytes 2 0 ≡ 13 → get_or bytes 3 0 ≡ 10 → take 4 bytes ≡ mark ∷ number_line (get_or bytes 1 0 - 48)
head_of_one mark (b ∷ d ∷ r ∷ f ∷ rest) long mark_is low high return_is feed_is =
    let back : 48 + (d - 48) ≡ d = omega arith in
    rw (mark_is, return_is, feed_is, decimal_digit (d - 48) (omega arith), back) refl
head_of_one mark [] long mark_is low high return_is feed_is = absurd (omega arith)
head_of_one mark (b ∷ []) long mark_is low high return_is feed_is = absurd (omega arith)
head_of_one mark (b ∷ d ∷ []) long mark_is low high return_is feed_is = absurd (omega arith)
head_of_one mark (b ∷ d ∷ r ∷ []) long mark_is low high return_is feed_is = absurd (omega arith)

-- the head of a word whose length has two digits
pub head_of_two : (bytes : List ℕ) → 5 ≤ length bytes → get_or bytes 0 0 ≡ 36 → 48 < get_or bytes 1 0 → get_or bytes 1 0 ≤ 57 → 48 ≤ get_or bytes 2 0 → get_or bytes 2 0 ≤ 57 → get_or bytes 3 0 ≡ 13 → get_or bytes 4 0 ≡ 10 → take 5 bytes ≡ 36 ∷ number_line ((get_or bytes 1 0 - 48) * 10 + (get_or bytes 2 0 - 48))
head_of_two (m ∷ d ∷ e ∷ r ∷ f ∷ rest) long mark low high low_too high_too return_is feed_is =
    let back : 48 + (d - 48) ≡ d = omega arith in
    let back_too : 48 + (e - 48) ≡ e = omega arith in
    let text = decimal-more (d - 48) (e - 48) (omega arith) (omega arith) (omega arith) in
    rw (mark, return_is, feed_is, text, decimal_digit (d - 48) (omega arith), back, back_too) refl
head_of_two [] long mark low high low_too high_too return_is feed_is = absurd (omega arith)
head_of_two (m ∷ []) long mark low high low_too high_too return_is feed_is = absurd (omega arith)
head_of_two (m ∷ d ∷ []) long mark low high low_too high_too return_is feed_is = absurd (omega arith)
head_of_two (m ∷ d ∷ e ∷ []) long mark low high low_too high_too return_is feed_is = absurd (omega arith)
head_of_two (m ∷ d ∷ e ∷ r ∷ []) long mark low high low_too high_too return_is feed_is = absurd (omega arith)

joined : (a b c d : List ℕ) → ((a ++ b) ++ c) ++ d ≡ a ++ (b ++ (c ++ d))
joined a b c d = simp append_assoc

-- bytes, and then the two that end a word
pub word_ends : (bytes : List ℕ) (start size : ℕ) → start + size + 2 ≤ length bytes → get_or bytes (start + size) 0 ≡ 13 → get_or bytes (start + size + 1) 0 ≡ 10 → take (start + size + 2) bytes ≡ take start bytes ++ (take size (drop start bytes) ++ 13 ∷ 10 ∷ [])
word_ends bytes start size long return_is feed_is =
    let two : start + size + 2 ≡ start + size + 1 + 1 = omega arith in
    ap (λ n. take n bytes) two
    ∙ (take_more bytes (start + size + 1) 0 (omega arith)
    ∙ (ap (λ front. front ++ get_or bytes (start + size + 1) 0 ∷ []) (take_more bytes (start + size) 0 (omega arith))
    ∙ (rw (return_is, feed_is, take-add start size bytes) (joined (take start bytes) (take size (drop start bytes)) (13 ∷ []) (10 ∷ [])))))

-- A head, the word of its size, CR and LF are the word's spelling.
pub spelled_behind : (bytes : List ℕ) (start size : ℕ) → start + size + 2 ≤ length bytes → take start bytes ≡ 36 ∷ number_line size → get_or bytes (start + size) 0 ≡ 13 → get_or bytes (start + size + 1) 0 ≡ 10 → word_text (take (start + size - start) (drop start bytes)) ≡ take (start + size + 2) bytes
spelled_behind bytes start size long line return_is feed_is =
    let exact : start + size - start ≡ size = omega arith in
    let word = take size (drop start bytes) in
    let sized : length (take size (drop start bytes)) ≡ size = simp (length-take, length-drop) (omega arith) in
    ap (λ n. word_text (take n (drop start bytes))) exact
    ∙ (ap (λ n. 36 ∷ number_line n ++ (word ++ 13 ∷ 10 ∷ [])) sized
    ∙ (ap (λ head. head ++ (word ++ 13 ∷ 10 ∷ [])) (sym line)
    ∙ sym (word_ends bytes start size long return_is feed_is)))
