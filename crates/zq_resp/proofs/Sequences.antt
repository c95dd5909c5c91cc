-- Several words, one word further.
use Rattle.std.proofs.Common.{◌≡◌, ℕ, suc, ◌+◌, ◌-◌, ◌<◌, ◌≤◌, List, [], ◌∷◌, ◌++◌, length, map, All, refl, sym, ap, subst, ◌∙◌, append_assoc, arith}
use Rattle.std.specs.List.{flat_map}
use Rattle.std.proofs.lemmas.List.{append-nil, map_push, length_push, length-map}
use Rattle.std.proofs.lemmas.List.Elements.{All-push}
use Rattle.std.specs.declared.vec.Vec.{Vec}
use Rattle.std.specs.declared.alloc.Global.{Global}
use Rattle.zq_resp.specs.declared.reader.word.Word.TheVariants as word
use Rattle.zq_resp.specs.declared.reader.progress.Progress.TheVariants.{More, Whole}
use Rattle.zq_resp.specs.Front.{Front, Got, Part, Wrong, ◌>>=◌}
use Rattle.zq_resp.specs.Grammar.{word_at, words_at}
use Rattle.zq_resp.specs.Request.{IsWord}
use Rattle.zq_resp.specs.Suspended.{views}
use Rattle.zq_resp.specs.Words.{AddsWord, BeginsWords, others_at, with_front}
use Rattle.zq_resp.specs.Spelling.{number_line, word_text}

pub front_none : (read : Front (List (List ℕ) × List ℕ)) → with_front [] read ≡ read
front_none (Got x) = refl
front_none Part = refl
front_none (Wrong fault) = refl

-- a word in front of what is found after it
front_more : (found : List (List ℕ)) (word : List ℕ) (read : Front (List (List ℕ) × List ℕ)) → with_front found (read >>= λ others. Got (word ∷ others.0, others.1)) ≡ with_front (found ++ word ∷ []) read
front_more found word (Got x) = ap (λ words. Got (words, x.1)) (sym (append_assoc found (word ∷ []) x.0))
front_more found word Part = refl
front_more found word (Wrong fault) = refl

-- so many words and one are a word and so many after it
words_more : (k : ℕ) (more : List ℕ) → words_at (suc k) more ≡ others_at k (word_at more)
unfolding words_at
words_more k more = refl

words_none : (more : List ℕ) → words_at 0 more ≡ Got ([], more)
unfolding words_at
words_none more = refl

pub begins_none : (count : ℕ) (more : List ℕ) → count ≡ 0 → words_at count more ≡ Got ([], more)
begins_none count more none = ap (λ n. words_at n more) none ∙ words_none more

pub begins_some : (count : ℕ) (more : List ℕ) → 0 < count → words_at count more ≡ with_front [] (others_at (count - 1) (word_at more))
begins_some count more some =
    let one_more : count ≡ suc (count - 1) = omega arith in
    ap (λ n. words_at n more) one_more ∙ (words_more (count - 1) more ∙ sym (front_none (others_at (count - 1) (word_at more))))

-- the last word
pub adds_last : (found : List (List ℕ)) (word more : List ℕ) (after : ℕ) → after ≡ 0 → with_front found (others_at after (Got (word, more))) ≡ Got (found ++ word ∷ [], more)
adds_last found word more after none =
    front_more found word (words_at after more)
    ∙ (ap (with_front (found ++ word ∷ [])) (begins_none after more none)
    ∙ ap (λ words. Got (words, more)) (append-nil (found ++ word ∷ [])))

-- a word, and another after it
pub adds_more : (found : List (List ℕ)) (word more : List ℕ) (after : ℕ) → 0 < after → with_front found (others_at after (Got (word, more))) ≡ with_front (found ++ word ∷ []) (others_at (after - 1) (word_at more))
adds_more found word more after some =
    front_more found word (words_at after more)
    ∙ ap (with_front (found ++ word ∷ [])) (begins_some after more some ∙ front_none (others_at (after - 1) (word_at more)))

-- the words' spellings, one after the other
pub spelled_more : (found : List (List ℕ)) (word : List ℕ) → flat_map word_text (found ++ word ∷ []) ++ [] ≡ flat_map word_text found ++ word_text word
spelled_more [] word = append-nil (flat_map word_text (word ∷ [])) ∙ append-nil (word_text word)
spelled_more (first ∷ found) word =
    append_assoc (word_text first) (flat_map word_text (found ++ word ∷ [])) []
    ∙ (ap (λ text. word_text first ++ text) (spelled_more found word)
    ∙ sym (append_assoc (word_text first) (flat_map word_text found) (word_text word)))

-- no word yet
pub begun : (found : Vec (Vec ℕ Global) Global) (count : ℕ) → found.items ≡ [] → 0 < count → count ≤ 65536 → BeginsWords count (More (record { found = found; next = word.Start; after = count - 1 }))
begun found count empty some within =
    let views_are : views found ≡ [] = ap (map (λ w. w.items)) empty in
    let counted : length found.items + 1 + (count - 1) ≡ count = omega (arith, ap length empty) in (
      record { count = omega (arith, counted); found = subst (λ words. All IsWord words) (sym views_are) (λ k d within. absurd (omega arith)); next = tt },
      ap (λ n. 42 ∷ number_line n ++ (flat_map word_text (views found) ++ [])) counted
          ∙ (ap (λ words. 42 ∷ number_line count ++ (flat_map word_text words ++ [])) views_are ∙ append-nil (42 ∷ number_line count)),
      λ more. begins_some count more some ∙ ap (λ words. with_front words (others_at (count - 1) (word_at more))) (sym views_are),
    )

grown_views : (found grown : Vec (Vec ℕ Global) Global) (last : Vec ℕ Global) → grown.items ≡ found.items ++ last ∷ [] → views grown ≡ views found ++ last.items ∷ []
grown_views found grown last grows = ap (map (λ w. w.items)) grows ∙ map_push (λ w. w.items) found.items last

pub added_more : (found grown : Vec (Vec ℕ Global) Global) (last : Vec ℕ Global) (after : ℕ) → grown.items ≡ found.items ++ last ∷ [] → 0 < after → length found.items + 1 + after ≤ 65536 → All IsWord (views found) → IsWord last.items
    → AddsWord (views found) last.items after (More (record { found = grown; next = word.Start; after = after - 1 }))
added_more found grown last after grows some count each small =
    let views_are = grown_views found grown last grows in
    let total = length (views found) + 1 + after in
    let counted : length grown.items + 1 + (after - 1) ≡ length (views found) + 1 + after = omega (arith, ap length grows, length_push found.items last, length-map found.items (λ w. w.items)) in (
      record { count = omega (arith, counted, length-map found.items (λ w. w.items)); found = subst (λ words. All IsWord words) (sym views_are) (All-push IsWord (views found) last.items each small); next = tt },
      ap (λ n. 42 ∷ number_line n ++ (flat_map word_text (views grown) ++ [])) counted
          ∙ (ap (λ words. 42 ∷ number_line total ++ (flat_map word_text words ++ [])) views_are
          ∙ ap (λ text. 42 ∷ number_line total ++ text) (spelled_more (views found) last.items)),
      λ more. adds_more (views found) last.items more after some ∙ ap (λ words. with_front words (others_at (after - 1) (word_at more))) (sym views_are),
    )

pub added_last : (found grown : Vec (Vec ℕ Global) Global) (last : Vec ℕ Global) (after : ℕ) → grown.items ≡ found.items ++ last ∷ [] → after ≡ 0 → length found.items + 1 + after ≤ 65536 → All IsWord (views found) → IsWord last.items
    → AddsWord (views found) last.items after (Whole grown)
added_last found grown last after grows none count each small =
    let views_are = grown_views found grown last grows in (
      record {
        count = omega (arith, ap length grows, length_push found.items last, length-map grown.items (λ w. w.items));
        each = subst (λ words. All IsWord words) (sym views_are) (All-push IsWord (views found) last.items each small);
      },
      λ more. adds_last (views found) last.items more after none ∙ ap (λ words. Got (words, more)) (sym views_are),
    )
