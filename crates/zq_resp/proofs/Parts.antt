-- A suspended reading gives nothing without more bytes.
use Rattle.std.proofs.Common.{◌≡◌, ℕ, ◌-◌, List, [], ◌++◌, length, Bool, true, false, cond, eqb, refl, ap, ⊎_elim, arith}
use Rattle.std.proofs.lemmas.Bool.{cases_lt, lt-ltb}
use Rattle.zq_resp.specs.declared.reader.line.Line.{Line}
use Rattle.zq_resp.specs.declared.reader.line.Line.TheVariants as line
use Rattle.zq_resp.specs.declared.reader.null.Null.TheVariants as null
use Rattle.zq_resp.specs.declared.reader.word.Word.{Word}
use Rattle.zq_resp.specs.declared.reader.word.Word.TheVariants as word
use Rattle.zq_resp.specs.declared.reader.partial.Partial.{Partial}
use Rattle.zq_resp.specs.declared.reader.partial.Partial.TheVariants as partial
use Rattle.zq_resp.specs.Front.{Front, Part, ◌>>=◌}
use Rattle.zq_resp.specs.Grammar.{body_at, ended_at, word_at, words_at}
use Rattle.zq_resp.specs.Suspended.{views}
use Rattle.zq_resp.specs.Line.{line_resume}
use Rattle.zq_resp.specs.Word.{part_resume}
use Rattle.zq_resp.specs.Words.{others_at, with_front}
use Rattle.zq_resp.specs.Partial.{resume}

either_part : {X : Type 0} (b : Bool) → cond {A = Front X} b Part Part ≡ Part
either_part true = refl
either_part false = refl

line_part : (limit : ℕ) (begun : Line) → line_resume limit begun [] ≡ Part
line_part limit line.Start = refl
line_part limit (line.Digits n) = either_part (eqb n 0)
line_part limit (line.Ended n) = refl

body_part : (front : List ℕ) (wanted : ℕ) → (body_at wanted [] >>= λ word. ended_at (front ++ word.0) word.1) ≡ Part
body_part front wanted =
    ⊎_elim
    (λ some. rw (lt-ltb 0 wanted some) refl)
    (λ none. let full : wanted ≡ 0 = omega arith in ap (λ n. body_at n [] >>= λ word. ended_at (front ++ word.0) word.1) full)
    (cases_lt 0 wanted)

word_part : (begun : Word) → part_resume begun [] ≡ Part
unfolding word_at
word_part word.Start = refl
word_part (word.Length line) = ap (λ read. read >>= λ n. body_at n.0 n.1 >>= λ word. ended_at word.0 word.1) (line_part 1048576 line)
word_part (word.Sized n) = body_part [] n
word_part (word.Cut begun n) = body_part begun.value.items (n - length begun.value.items)
word_part (word.Ended bytes) = refl

pub nothing_more : (begun : Partial) → resume begun [] ≡ Part
nothing_more partial.Start = refl
nothing_more (partial.Count line.Start) = refl
nothing_more (partial.Count (line.Digits n)) = ap (λ read. read >>= λ n. words_at n.0 n.1) (line_part 65536 (line.Digits n))
nothing_more (partial.Count (line.Ended n)) = refl
nothing_more (partial.Null null.Minus) = refl
nothing_more (partial.Null null.One) = refl
nothing_more (partial.Null null.Ended) = refl
nothing_more (partial.Words words) = ap (λ read. with_front (views words.found) (others_at words.after read)) (word_part words.next)
