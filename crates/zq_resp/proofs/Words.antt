-- A word, some bytes further, and what its spelling is read as.
use Rattle.std.proofs.Common.{◌≡◌, ℕ, ◌+◌, ◌-◌, ◌<◌, ◌≤◌, List, [], ◌∷◌, ◌++◌, length, get_or, take, drop, refl, sym, ap, subst, ◌∙◌, append_assoc, ltb, true, false, ⊎_elim, arith}
use Rattle.std.proofs.lemmas.Bool.{le-ltb, lt-ltb, ne_eqb, cases_lt}
use Rattle.std.proofs.Math.Seq.{take-append-add, drop-append-add}
use Rattle.std.proofs.lemmas.List.{append-nil, take_at, drop_at, length-append, length-take, length-drop, get_or-drop, take-append-drop}
use Rattle.bytes.specs.declared.unique.BytesMut.{BytesMut}
use Rattle.std.specs.declared.boxed.Box.{Box}
use Rattle.std.specs.declared.vec.Vec.{Vec}
use Rattle.std.specs.declared.alloc.Global.{Global}
use Rattle.zq_resp.specs.declared.fault.FeedFault.TheVariants.{Protocol}
use Rattle.zq_resp.specs.declared.reader.line.Line.TheVariants as line
use Rattle.zq_resp.specs.declared.reader.word.Word.TheVariants as word
use Rattle.zq_resp.specs.Front.{Front, Got, Wrong, ◌>>=◌}
use Rattle.zq_resp.specs.Grammar.{mark_at, body_at, ended_at, word_at}
use Rattle.zq_resp.specs.Suspended.{Ends, Goes}
use Rattle.zq_resp.specs.Word.{part_text, part_resume}
use Rattle.zq_resp.specs.Spelling.{number_line, word_text}
use Rattle.zq_resp.proofs.Lines.{line_again}

-- another byte than the one given
pub mark_wrong : (mark : ℕ) (bytes more : List ℕ) → 0 < length bytes → (get_or bytes 0 0 ≡ mark → ⊥) → mark_at mark (bytes ++ more) ≡ Wrong Protocol
mark_wrong mark [] more some other = absurd (omega arith)
mark_wrong mark (b ∷ bytes) more some other = rw (ne_eqb b mark other) refl

pub word_wrong : (bytes more : List ℕ) → 0 < length bytes → (get_or bytes 0 0 ≡ 36 → ⊥) → word_at (bytes ++ more) ≡ Wrong Protocol
unfolding word_at
word_wrong bytes more some other = rw (mark_wrong 36 bytes more some other) refl

pub word_begins : (taken : List ℕ) → taken ≡ 36 ∷ [] → Goes part_text part_resume word.Start (word.Length line.Start) taken
unfolding word_at
word_begins taken e = record { text_grows = sym e; resumes = λ more. rw e refl }

-- bytes are found before whatever follows them
pub body_again : (word more : List ℕ) → body_at (length word) (word ++ more) ≡ Got (word, more)
body_again word more =
    let long : ltb (length (word ++ more)) (length word) ≡ false = le-ltb _ _ (omega (arith, length-append word more)) in
    rw (long, take_at word more (length word) refl, drop_at word more (length word) refl) refl

-- a word's spelling is read as the word
pub word_again : (word more : List ℕ) → length word ≤ 1048576 → word_at (word_text word ++ more) ≡ Got (word, more)
unfolding word_at
word_again word more small =
    let split : (number_line (length word) ++ (word ++ 13 ∷ 10 ∷ [])) ++ more ≡ number_line (length word) ++ (word ++ 13 ∷ 10 ∷ more) = simp append_assoc refl in
    rw (split, line_again 1048576 (length word) (word ++ 13 ∷ 10 ∷ more) small (omega arith)) (rw (body_again word (13 ∷ 10 ∷ more)) refl)

-- A body that is all there ends with what follows it.
body_whole : (front part more : List ℕ) (wanted : ℕ) → length part ≡ wanted → (body_at wanted (part ++ more) >>= λ word. ended_at (front ++ word.0) word.1) ≡ ended_at (front ++ part) more
body_whole front part more wanted full =
    ap (λ n. body_at n (part ++ more) >>= λ word. ended_at (front ++ word.0) word.1) (sym full)
    ∙ ap (λ read. read >>= λ word. ended_at (front ++ word.0) word.1) (body_again part more)

-- What a body reads on as, once its first bytes have come.
abbrev pub rest_of : List ℕ → ℕ → List ℕ → Front (List ℕ × List ℕ)
rest_of front size more = body_at (size - length front) more >>= λ word. ended_at (front ++ word.0) word.1

-- A word of which no byte has come is one that an empty front has begun.
pub rest_of_none : (size : ℕ) (more : List ℕ) → part_resume (word.Sized size) more ≡ rest_of [] size more
rest_of_none size more = ap (λ n. body_at n more >>= λ word. ended_at word.0 word.1) (omega arith)

-- The missing bytes of a word come, and CR behind them.
ends_text : (front : List ℕ) (whole : Vec ℕ Global) (size : ℕ) (part : List ℕ) → whole.items ≡ front ++ part → length front ≤ size → length part ≡ size - length front → part_text (word.Ended whole) ≡ (36 ∷ number_line size ++ front) ++ (part ++ 13 ∷ [])
ends_text front whole size part is within full =
    let size_is : length whole.items ≡ size = omega (arith, length-append front part, ap length is) in
    let head = 36 ∷ number_line size in
    ap (λ n. 36 ∷ number_line n ++ (whole.items ++ 13 ∷ [])) size_is
    ∙ (ap (λ bytes. head ++ (bytes ++ 13 ∷ [])) is
    ∙ (ap (λ bytes. head ++ bytes) (append_assoc front part (13 ∷ []))
    ∙ sym (append_assoc head front (part ++ 13 ∷ []))))

ends_resume : (front : List ℕ) (whole : Vec ℕ Global) (size : ℕ) (part more : List ℕ) → whole.items ≡ front ++ part → length part ≡ size - length front → rest_of front size ((part ++ 13 ∷ []) ++ more) ≡ part_resume (word.Ended whole) more
ends_resume front whole size part more is full =
    ap (rest_of front size) (append_assoc part (13 ∷ []) more)
    ∙ (body_whole front part (13 ∷ more) (size - length front) full
    ∙ ap (λ word. mark_at 10 more >>= λ rest. Got (word, rest)) (sym is))

pub cut_ends : (begun : Box (BytesMut Global) Global) (whole : Vec ℕ Global) (size : ℕ) (part taken : List ℕ) → whole.items ≡ begun.value.items ++ part → length begun.value.items ≤ size → length part ≡ size - length begun.value.items → taken ≡ part ++ 13 ∷ [] → Goes part_text part_resume (word.Cut begun size) (word.Ended whole) taken
cut_ends begun whole size part taken is within full e =
    subst (λ taken. Goes part_text part_resume (word.Cut begun size) (word.Ended whole) taken) (sym e)
    (record {
      text_grows = ends_text begun.value.items whole size part is within full;
      resumes = λ more. ends_resume begun.value.items whole size part more is full;
    })

pub sized_ends : (whole : Vec ℕ Global) (size : ℕ) (taken : List ℕ) → length whole.items ≡ size → taken ≡ whole.items ++ 13 ∷ [] → Goes part_text part_resume (word.Sized size) (word.Ended whole) taken
sized_ends whole size taken full e =
    subst (λ taken. Goes part_text part_resume (word.Sized size) (word.Ended whole) taken) (sym e)
    (record {
      text_grows = ends_text [] whole size whole.items refl (omega arith) (omega (arith, full)) ∙ ap (λ head. head ++ (whole.items ++ 13 ∷ [])) (append-nil (36 ∷ number_line size));
      resumes = λ more. rest_of_none size ((whole.items ++ 13 ∷ []) ++ more) ∙ ends_resume [] whole size whole.items more refl (omega (arith, full));
    })

-- The missing bytes of a word come, and another byte than CR behind them.
pub rest_breaks : (front : List ℕ) (size : ℕ) (bytes more : List ℕ) → size - length front < length bytes → (get_or bytes (size - length front) 0 ≡ 13 → ⊥) → rest_of front size (bytes ++ more) ≡ Wrong Protocol
rest_breaks front size bytes more long other =
    let missing = size - length front in
    let part = take missing bytes in
    let rest = drop missing bytes in
    let full : length part ≡ missing = simp length-take (omega arith) in
    let some : 0 < length rest = simp length-drop (omega arith) in
    let next : get_or rest 0 0 ≡ get_or bytes missing 0 = get_or-drop missing bytes 0 0 ∙ ap (λ i. get_or bytes i 0) (omega arith) in
    ap (λ bytes. rest_of front size (bytes ++ more)) (sym (take-append-drop missing bytes))
    ∙ (ap (rest_of front size) (append_assoc part rest more)
    ∙ (body_whole front part (rest ++ more) missing full
    ∙ ap (λ read. read >>= λ rest. mark_at 10 rest >>= λ rest. Got (front ++ part, rest)) (mark_wrong 13 rest more some (λ is. other (sym next ∙ is)))))

-- some of the bytes that a body wants
body_more : (front part more : List ℕ) (wanted : ℕ) → (body_at (length part + wanted) (part ++ more) >>= λ word. ended_at (front ++ word.0) word.1) ≡ (body_at wanted more >>= λ word. ended_at ((front ++ part) ++ word.0) word.1)
body_more front part more wanted =
    ⊎_elim
    (λ short.
    let whole : ltb (length (part ++ more)) (length part + wanted) ≡ true = lt-ltb _ _ (omega (arith, length-append part more)) in
    let rest : ltb (length more) wanted ≡ true = lt-ltb _ _ short in
    rw (whole, rest) refl)
    (λ long.
    let whole : ltb (length (part ++ more)) (length part + wanted) ≡ false = le-ltb _ _ (omega (arith, length-append part more)) in
    let rest : ltb (length more) wanted ≡ false = le-ltb _ _ long in
    rw (whole, rest, take-append-add part more wanted, drop-append-add part more wanted, append_assoc front part (take wanted more)) refl)
    (cases_lt (length more) wanted)

rest_more : (front grown : List ℕ) (size : ℕ) (taken more : List ℕ) → grown ≡ front ++ taken → length taken ≤ size - length front → rest_of front size (taken ++ more) ≡ rest_of grown size more
rest_more front grown size taken more grows within =
    let wanted : size - length front ≡ length taken + (size - length grown) = omega (arith, length-append front taken, ap length grows) in
    ap (λ n. body_at n (taken ++ more) >>= λ word. ended_at (front ++ word.0) word.1) wanted
    ∙ (body_more front taken more (size - length grown)
    ∙ ap (λ bytes. body_at (size - length grown) more >>= λ word. ended_at (bytes ++ word.0) word.1) (sym grows))

pub cut_grows : (begun grown : Box (BytesMut Global) Global) (size : ℕ) (taken : List ℕ) → grown.value.items ≡ begun.value.items ++ taken → length taken ≤ size - length begun.value.items → Goes part_text part_resume (word.Cut begun size) (word.Cut grown size) taken
cut_grows begun grown size taken grows within =
    record {
      text_grows = ap (λ bytes. 36 ∷ number_line size ++ bytes) grows ∙ sym (append_assoc (36 ∷ number_line size) begun.value.items taken);
      resumes = λ more. rest_more begun.value.items grown.value.items size taken more grows within;
    }

-- A piece's end cuts the word.
pub cut_begins : (begun : Box (BytesMut Global) Global) (size : ℕ) (taken : List ℕ) → begun.value.items ≡ taken → length taken ≤ size → Goes part_text part_resume (word.Sized size) (word.Cut begun size) taken
cut_begins begun size taken is within =
    record {
      text_grows = ap (λ bytes. 36 ∷ number_line size ++ bytes) is;
      resumes = λ more. rest_of_none size (taken ++ more) ∙ rest_more [] begun.value.items size taken more is (omega (arith, within));
    }

-- Bytes that spell a word are read as it.
pub word_read : (bytes taken : List ℕ) → length bytes ≤ 1048576 → word_text bytes ≡ taken → Ends part_text part_resume word.Start taken bytes (word_text bytes)
word_read bytes taken small text =
    record {
      spelled = text;
      found = λ more. ap (λ front. word_at (front ++ more)) (sym text) ∙ word_again bytes more small;
    }
