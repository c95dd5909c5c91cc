use Rattle.std.proofs.Common.{List, Some, [], ap, arith, drop, length, map, option_map, rules, take, true, ◌-◌, ◌∙◌, ◌∷◌, ◌≡◌}
use Rattle.std.specs.Prelude.{filter, slice_get, slice_range}
use Rattle.zq_posheap.proofs.Lists.{there_is}
use Rattle.zq_commands.proofs.ReadFrom.{none_asked, none_there, section_read, some_there}
use Rattle.zq_commands.proofs.Sections.{drop_taken}
use Rattle.zq_commands.specs.FirstPairs.{lent_pair}
use Rattle.zq_commands.specs.Lending.{queues_in}
use Rattle.zq_model.specs.Books.{Book}
use Rattle.zq_model.proofs.Rising.{rising_keys}
use Rattle.zq_model.specs.Lent.{queues_of}
use Rattle.zq_semantics.specs.Plan.{is_there}
use Rattle.zq_semantics.specs.Ranges.{is_within, turned_if}
use Rattle.zq_commands.proofs.zrange.section_pairs.Goals as goal
use Rattle.zq_commands.proofs.zrange.section_pairs.Goals.{then-section-via-then-section, then-section-via-else-section+then-within-section}

-- of a list of one
alone : {X : Type 0} (xs : List X) (x : X) → length xs ≡ 1 → slice_get xs 0 ≡ Some x → x ∷ [] ≡ xs
alone [] x one at = absurd (omega (arith, one))
alone (y ∷ []) x one at = cc
alone (y ∷ z ∷ xs) x one at = absurd (omega (arith, one))

pub returns-then-section-clause-pairs : goal.returns-then-section-clause-pairs
returns-then-section-clause-pairs g c =
    let section = c.args.section.now in
    let q = queues_in (g.B.Books.lent c.args.books.now) c.args.key.now in
    ap (map lent_pair) c.new.ensures.items
    ∙ elim c.then-section.branch [
      | then-section-via-then-section w ↦ none_asked (filter (is_within section.min section.max) (turned_if c.args.is_turned q)) section.from section.to w.if-section.true
      | then-section-via-else-section+then-within-section w ↦
          none_there c.args.is_turned section.min section.max q c.args.within section.from section.to c.requires.within w.if-within-section.true
    ]

pub returns-then-len-eq1-clause-pairs : goal.returns-then-len-eq1-clause-pairs
returns-then-len-eq1-clause-pairs g c =
    let lent = g.B.Books.lent c.args.books.now in
    let section = c.args.section.now in
    let one : length lent.books ≡ 1 = omega (arith, c.len.ensures.number, c.if-len-eq1.true) in
    let book = there_is lent.books 0 (omega (arith, one)) in
    let taken = λ (books : List Book). drop section.from (take section.to (filter (is_within section.min section.max) (turned_if c.args.is_turned (queues_of lent.rule books c.args.key.now)))) in
    c.in_ok-pairs.ensures book.0 book.1
    ∙ ap taken (alone lent.books book.0 one book.1)
    ∙ drop_taken section.from section.to (filter (is_within section.min section.max) (turned_if c.args.is_turned (queues_in lent c.args.key.now)))

pub returns-clause-pairs : goal.returns-clause-pairs
returns-clause-pairs g c =
    let lent = g.B.Books.lent c.args.books.now in
    let section = c.args.section.now in
    let start = c.in_ok-start.start in
    ap (drop (section.from - start.skipped)) c.in_ok-pairs-2.ensures
    ∙ section_read c.args.is_turned (option_map lent_pair start.pair) section.min section.max (queues_in lent c.args.key.now) start.skipped section.from section.to (rising_keys _)
    c.in_ok-start.ensures.skipped c.in_ok-start.ensures.early

pub returns-in_err-pairs-clause-some : goal.returns-in_err-pairs-clause-some
returns-in_err-pairs-clause-some g c =
    let section = c.args.section.now in
    let q = queues_in (g.B.Books.lent c.args.books.now) c.args.key.now in
    let some : is_there (slice_range (filter (is_within section.min section.max) (turned_if c.args.is_turned q)) section.from section.to) ≡ true
    = some_there c.args.is_turned section.min section.max q c.args.within section.from section.to c.requires.within (omega arith) (omega arith) in
    search rules

pub returns-in_err-start-clause-some : goal.returns-in_err-start-clause-some
returns-in_err-start-clause-some g c =
    let section = c.args.section.now in
    let q = queues_in (g.B.Books.lent c.args.books.now) c.args.key.now in
    let some : is_there (slice_range (filter (is_within section.min section.max) (turned_if c.args.is_turned q)) section.from section.to) ≡ true
    = some_there c.args.is_turned section.min section.max q c.args.within section.from section.to c.requires.within (omega arith) (omega arith) in
    search rules

pub returns-in_err-pairs-2-clause-some : goal.returns-in_err-pairs-2-clause-some
returns-in_err-pairs-2-clause-some g c =
    let section = c.args.section.now in
    let q = queues_in (g.B.Books.lent c.args.books.now) c.args.key.now in
    let some : is_there (slice_range (filter (is_within section.min section.max) (turned_if c.args.is_turned q)) section.from section.to) ≡ true
    = some_there c.args.is_turned section.min section.max q c.args.within section.from section.to c.requires.within (omega arith) (omega arith) in
    search rules
